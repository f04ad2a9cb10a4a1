-- Laws of the working forms by lengths, and what each test of a passed note says of the verdict.
use Prim.Native.Nat.{ℕ, ◌+◌, ◌-◌, ◌≤◌, ◌<◌}
use mathlib.Core.Path.{◌≡◌, ◌∙◌, sym}
use mathlib.Core.Bool.{Bool, true, false, cond, ◌&&◌, not}
use mathlib.Core.List.{List}
use mathlib.Mathlib.Data.Bool.Basic.{and_elim_left, and_elim_right}
use borrow.Author.Tests.{le-leb, lt-leb, leb-true, eqb-true, not-true, not-false}
use native.Mathlib.Omega.{arith}
use lib.Dec.{leb, eqb}
use lib.ListN.{length}
use Rattle.std.specs.Prelude.{Err}
use Rattle.buffers.proofs.Cases.{le-or-lt}
use Rattle.utf8.specs.Formed.{well_formed}
use Rattle.note.specs.declared.Refusal.TheVariants.{IllFormed, TooLong, LengthMismatch, Misaligned}
use Rattle.note.specs.Refusals.{verdict, Verdict, Accepted}
use Rattle.note.specs.Notes.{lent, fits, paired, texts_formed, aligned}
use Rattle.note.specs.Faults.{note_faults, text_faults, string_faults}
use Rattle.checks.specs.Lengths.{lengths_fit, lengths_paired}
use Rattle.boundaries.proofs.Monotone.{aligned-shift}

-- the limit
module _ (most o m shift : ℕ) where
  pub over-original : most < o → false ≡ lengths_fit most o m shift
  unfolding lengths_fit
  over-original h = rw (lt-leb o most h)

  pub over-normalized : o ≤ most → most < m → false ≡ lengths_fit most o m shift
  unfolding lengths_fit
  over-normalized g h = rw (le-leb o most g, lt-leb m most h)

  pub over-shift : o ≤ most → m ≤ most → leb shift (most - o) ≡ lengths_fit most o m shift
  unfolding lengths_fit
  over-shift g h = rw (le-leb o most g, le-leb m most h) (same_test g)
    where
      same_test : o ≤ most → leb shift (most - o) ≡ leb (shift + o) most
      same_test g = le-or-lt shift (most - o) (λ k. le-leb _ _ k ∙ sym (le-leb (shift + o) most (omega arith))) (λ k. lt-leb _ _ k ∙ sym (lt-leb (shift + o) most (omega arith)))

  pub fit-original : lengths_fit most o m shift ≡ true → o ≤ most
  unfolding lengths_fit
  fit-original e = leb-true o most (and_elim_left _ (leb m most) (and_elim_left _ (leb (shift + o) most) e))

  pub fit-normalized : lengths_fit most o m shift ≡ true → m ≤ most
  unfolding lengths_fit
  fit-normalized e = leb-true m most (and_elim_right (leb o most) _ (and_elim_left _ (leb (shift + o) most) e))

-- the numbers of alignments
module _ (m s e : ℕ) (t : lengths_paired m s e ≡ true) where
  pub pair-starts : s ≡ m
  unfolding lengths_paired
  pair-starts = eqb-true s m (and_elim_left _ (eqb e m) t)

  pub pair_ends : e ≡ m
  unfolding lengths_paired
  pair_ends = eqb-true e m (and_elim_right (eqb s m) _ t)

-- the two texts, by what the code tests
module _ (o m : List ℕ) {r : Bool} (e : r ≡ well_formed o) where
  pub texts-ill-formed : not r ≡ true → false ≡ (well_formed o && well_formed m)
  texts-ill-formed f = rw (← e, not-true r f)

  pub texts-same : not r ≡ false → o ≡ m → true ≡ (well_formed o && well_formed m)
  texts-same t same = rw (← same, ← e, not-false r t)

  pub texts-both : {q : Bool} → not r ≡ false → q ≡ well_formed m → q ≡ (well_formed o && well_formed m)
  texts-both t is = rw (← e, not-false r t) is

-- the note, by what the code tests
module _ (most : ℕ) (o m s e : List ℕ) (shift : ℕ) where
  pub too_long : {t : Bool} → t ≡ lengths_fit most (length o) (length m) shift → not t ≡ true → Err TooLong ≡ verdict (note_faults most (lent o m s e shift))
  unfolding verdict fits lengths_fit
  too_long {t} is f = rw (sym is ∙ not-true t f)

  module _ {t u : Bool} (is : t ≡ lengths_fit most (length o) (length m) shift) (f : not t ≡ false) (are : u ≡ lengths_paired (length m) (length s) (length e)) where
    pub unpaired : not u ≡ true → Err LengthMismatch ≡ verdict (note_faults most (lent o m s e shift))
    unfolding verdict fits paired lengths_fit lengths_paired
    unpaired p = rw (sym is ∙ not-false t f, sym are ∙ not-true u p)

    module _ (p : not u ≡ false) {w : Bool} (formed : w ≡ (well_formed o && well_formed m)) where
      pub ill-formed : not w ≡ true → Err IllFormed ≡ verdict (note_faults most (lent o m s e shift))
      unfolding verdict fits paired texts_formed lengths_fit lengths_paired
      ill-formed q = rw (sym is ∙ not-false t f, sym are ∙ not-false u p, sym formed ∙ not-true w q)

      pub by-alignments : {r : Verdict} {a : Bool} → not w ≡ false → a ≡ aligned (lent o m s e 0) → r ≡ cond (not a) (Err Misaligned) Accepted → r ≡ verdict (note_faults most (lent o m s e shift))
      unfolding verdict fits paired texts_formed lengths_fit lengths_paired
      by-alignments {r} {a} q is-aligned answer =
          answer ∙ rw (sym is ∙ not-false t f, sym are ∙ not-false u p, sym formed ∙ not-false w q, ← aligned-shift o m s e shift is-aligned)

-- a text alone, and another string
pub text_long : (most : ℕ) (s : List ℕ) → most < length s → Err TooLong ≡ verdict (text_faults most s)
unfolding verdict
text_long most s h = rw (lt-leb (length s) most h)

pub text-verdict : (most : ℕ) (s : List ℕ) {t : Bool} → length s ≤ most → t ≡ well_formed s → cond (not t) (Err IllFormed) Accepted ≡ verdict (text_faults most s)
unfolding verdict
text-verdict most s h e = rw (le-leb (length s) most h, e)

pub string-verdict : (s : List ℕ) {t : Bool} → t ≡ well_formed s → cond (not t) (Err IllFormed) Accepted ≡ verdict (string_faults s)
unfolding verdict
string-verdict s e = rw e
