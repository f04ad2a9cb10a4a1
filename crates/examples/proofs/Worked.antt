-- The worked notes by computing the definitions.
use mathlib.Core.Path.{refl}
use Rattle.buffers.specs.Columns.{column}
use Rattle.buffers.specs.Every.{every_below}
use Rattle.numbers.specs.LittleEndian.{value_of, little_endian}
use Rattle.utf8.specs.Table.{within}
use Rattle.utf8.specs.Formed.{announced, second, asked, formed, continues, boundary}
use Rattle.note.specs.Refusals.{verdict}
use Rattle.note.specs.Notes.{fits, paired, texts_formed, inside, on_boundaries, shared, forward, aligned, before_end}
use Rattle.utf8.specs.CharRanges.{char_start, char_end}
use Rattle.note.specs.Starting.{starting}
use Rattle.convert.specs.Converting.{expanded, first_places, places_after, walk_from, walked, to_original, to_normalized, converted, answered, convert_offsets}
use Rattle.char_offsets.specs.Positions.{index_of, end_index, pair_of, char_offsets}
use Rattle.numbers.specs.Entries.{read_from}
use Rattle.pattern.specs.Entries.{position_at, place_at, entry_at, places_of, whole_list}
use Rattle.pattern.specs.Places.{fits_at, covers_from, covers}
use Rattle.pattern.specs.Encoding.{place_bytes, encoded_places}
use Rattle.find.specs.Matching.{occurs_at, first_of, first_from, between, matches_within, matches_from, found_places}
use Rattle.find.specs.Finding.{found_bytes}
use Rattle.replace.specs.Replacing.{piece, laid, replaced}
use mathlib.Core.List.{flat_map}
use Rattle.convert.specs.Converting.{as_original, as_normalized}
use Rattle.slice.specs.Slicing.{slice_of, sliced, lowered, sliced_column}
use Rattle.behaviors.specs.Splits.{unremoved, spanning, end_moved, folded, splits, is_dropped, is_piece, remaining, pieces}
use Rattle.split.specs.Splitting.{piece_of, original_length, cut}
use Rattle.utf8.specs.Scalar.{scalar, encoded, bytes_of}
use Rattle.utf8.specs.Scalar.{len_utf8}
use Rattle.utf8.specs.Formed.{char_range}
use Rattle.edit_steps.specs.Edits.{skipped, starves, moved as step_to, starved, carried_value, produced, first_position, relaid, edited, transformed}
use Rattle.edits.specs.Characters.{code_at, codes_from, codes_of}
use Rattle.edits.specs.Whole.{all_adding, prepend_edit, clear_edit}
use Rattle.lowercase.specs.Images.{run, twins, lowercase_table, lower_image, images}
use Rattle.lowercase.specs.Lowering.{lower_commands, lowercase_edit}
use Rattle.utf8.specs.Chars.{chars, chars_from}
use Rattle.replace_by_edits.specs.Road.{place_edit, road_back, taken_bytes, added_bytes, edited_next, road_after}
use Rattle.examples.specs.Worked.{aéb, nest, blank, final, worked, every, WorkedNotes, aé, AÉ漢, İA, kelvinÉ, prepended_nothing}

pub worked-notes : WorkedNotes
unfolding every worked aéb nest blank final found_bytes found_places matches_from matches_within between first_from first_of
    occurs_at encoded_places place_bytes little_endian flat_map as_original as_normalized slice_of sliced lowered sliced_column
    unremoved spanning end_moved folded splits is_dropped is_piece remaining pieces piece_of original_length cut starting
    column char_start char_end announced second asked formed within continues boundary fits paired texts_formed inside
    on_boundaries shared forward aligned every_below verdict converted to_original to_normalized expanded first_places
    places_after walk_from walked answered convert_offsets index_of end_index pair_of char_offsets value_of position_at place_at
    entry_at places_of whole_list read_from fits_at covers_from covers piece laid before_end replaced aé
    prepended_nothing scalar encoded bytes_of len_utf8 skipped starves step_to starved carried_value produced char_range
    first_position relaid edited transformed code_at codes_from codes_of all_adding prepend_edit clear_edit
    AÉ漢 İA kelvinÉ run twins lowercase_table lower_image images lower_commands lowercase_edit
    chars chars_from place_edit road_back taken_bytes added_bytes edited_next road_after
worked-notes = refl
