-- The whole text is copied, or its kept characters are laid; any other range goes flag by flag.
use mathlib.Core.Path.{◌∙◌, sym}
use Rattle.note.specs.Notes.{limit}
use Rattle.filters.proofs.Spanned.{flag-each, spanned-room, copied-room, spanned-made, all-copied}
use Rattle.filters.proofs.filter_range.Goals as goal

pub keep-requires : goal.keep-requires
keep-requires c =
    copied-room c.requires limit c.args.from.0 c.args.to.0 c.args.out.now c.args.out_starts.now c.args.out_ends.now c.least_room-room.ensures c.is_whole.ensures c.if-is_whole.true

pub returns-then-all_kept : goal.returns-then-all_kept
returns-then-all_kept c =
    spanned-made c.requires limit c.args.from.0 c.args.to.0 c.args.out.now c.args.out_starts.now c.args.out_ends.now c.least_room-room.ensures c.is_whole.ensures c.if-is_whole.true
    (all-copied (flag-each c.requires) (sym c.all_kept.ensures ∙ c.if-all_kept.true) c.requires.editable.one_start c.requires.editable.one_end c.keep.ensures)

pub lay_kept-requires : goal.lay_kept-requires
lay_kept-requires c =
    spanned-room c.requires limit c.args.from.0 c.args.to.0 c.args.out.now c.args.out_starts.now c.args.out_ends.now c.least_room-room.ensures c.is_whole.ensures c.if-is_whole.true c.kept_end-end.ensures

pub returns-then-is_whole : goal.returns-then-is_whole
returns-then-is_whole c =
    spanned-made c.requires limit c.args.from.0 c.args.to.0 c.args.out.now c.args.out_starts.now
    c.args.out_ends.now c.least_room-room.ensures c.is_whole.ensures
    c.if-is_whole.true c.lay_kept.ensures
