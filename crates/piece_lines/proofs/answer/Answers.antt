-- Another shape, a line that is too long, or three lines to cut by.
use Rattle.std.proofs.Common.{ℕ}
use mathlib.Core.Path.{◌≡◌, refl}
use mathlib.Core.Bool.{false}
use native.Mathlib.Omega.{arith}
use Rattle.piece_lines.specs.declared.input.Seen.{Seen}
use Rattle.piece_lines.specs.declared.input.Seen.TheVariants.{Literal, Behavior, Chosen, Note, Whole, Shapeless}
use Rattle.piece_lines.proofs.Scanning.{is_whole}
use Rattle.piece_lines.proofs.Answering.{laid_as, shapeless-printed, literal-long, note-long, head-enough, literal-sized, lines-short, cut-printed}
use Rattle.piece_lines.proofs.answer.Goals as goal

not-whole : (s : Seen) → ((n d m : ℕ) → s ≡ Whole n d m → ⊥) → is_whole s ≡ false
not-whole (Literal n) h = refl
not-whole (Behavior n) h = refl
not-whole (Chosen n d) h = refl
not-whole (Note n d m) h = refl
not-whole Shapeless h = refl
not-whole (Whole n d m) h = absurd (h n d m refl)

pub returns-in_default : goal.returns-in_default
returns-in_default c input k = laid_as (shapeless-printed k (not-whole c.args.seen c.in_default.not-Whole)) c.write_refusal.ensures

pub returns-then-literal-gt-LONGEST : goal.returns-then-literal-gt-LONGEST
returns-then-literal-gt-LONGEST c input k = laid_as (literal-long k c.in-Whole.is (omega arith)) c.write_refusal-then-literal-gt-LONGEST.ensures

pub returns-then-text-gt-LONGEST : goal.returns-then-text-gt-LONGEST
returns-then-text-gt-LONGEST c input k = laid_as (note-long k c.in-Whole.is (omega arith)) c.write_refusal-then-text-gt-LONGEST.ensures

pub slice_bounds-cut-end : goal.slice_bounds-cut-end
slice_bounds-cut-end c = literal-sized c.requires.0.is_kept c.in-Whole.is (omega arith) (omega arith)

pub slice_bounds-cut-end-2 : goal.slice_bounds-cut-end-2
slice_bounds-cut-end-2 c = omega (arith, head-enough c.requires.0.is_kept c.in-Whole.is (omega arith) (omega arith))

pub cut-requires : goal.cut-requires
cut-requires c =
    let short = lines-short c.requires.0.is_kept c.in-Whole.is (omega arith) (omega arith) in
    (short.0, short.1, c.requires.1)

pub returns : goal.returns
returns c input k =
    laid_as (cut-printed k c.in-Whole.is (omega arith) (omega arith) c.behavior_of.ensures) c.cut.ensures
