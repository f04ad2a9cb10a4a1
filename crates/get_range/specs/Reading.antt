-- RULES 5 (Rust: `get_range`, `get_range_original`, `str::get`), and the added reader.
use Rattle.std.specs.Prelude.{ℕ, Bool, cond, not, List, [], Result, Ok, Err}
use Rattle.buffers.specs.Splice.{part}
use Rattle.utf8.specs.Formed.{char_range}
use Rattle.note.specs.declared.Refusal.{Refusal}
use Rattle.note.specs.declared.Refusal.TheVariants.{Missing}
use Rattle.note.specs.Refusals.{none, meets, also, verdict, unless_refused}
use Rattle.note.specs.Notes.{Note}
use Rattle.note.specs.Faults.{text_faults}
use Rattle.convert.specs.declared.Range.{Range}
use Rattle.convert.specs.declared.Range.TheVariants.{Original, Normalized}
use Rattle.convert.specs.Converting.{start_of, end_of, answered, as_normalized, as_original}

-- RULES 5.1: what `str::get` makes of a range that may have been missed already
unfoldable pub got : List ℕ → Result Range Refusal → Result Range Refusal
got s (Ok range) = cond (char_range s (start_of range) (end_of range)) (Ok range) (Err Missing)
got s (Err k) = Err k

-- RULES 5.2, 5.3: the two calls
unfoldable pub get_range : ℕ → Note → Range → Result Range Refusal
get_range most n range = answered most n (got n.normalized (as_normalized n.starts n.ends range))

unfoldable pub get_range_original : ℕ → Note → Range → Result Range Refusal
get_range_original most n range = answered most n (got n.original (as_original n.starts n.ends range))

-- RULES 5.6, of the added reader: both texts are judged, then the range in the one that it names
abbrev pub named_text : List ℕ → List ℕ → Range → List ℕ
named_text original normalized (Original a b) = original
named_text original normalized (Normalized a b) = normalized

unfoldable pub part_faults : ℕ → List ℕ → List ℕ → Range → Refusal → Bool
part_faults most original normalized range =
    also (also (text_faults most original) (text_faults most normalized))
    (meets Missing (not (char_range (named_text original normalized range) (start_of range) (end_of range))) none)

-- RULES 5.5: the part itself; nothing of that text where the reader is refused
unfoldable pub part_of : ℕ → List ℕ → List ℕ → Range → List ℕ
part_of most original normalized range =
    unless_refused (λ k. []) (verdict (part_faults most original normalized range))
    (part (named_text original normalized range) (start_of range) (end_of range))
