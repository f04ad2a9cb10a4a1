-- Laws of `isStarting`: such columns are those of the starting note; and the loops that tell them.
use Prim.Native.Nat.{ℕ, zero, suc, ◌+◌, ◌-◌, ◌≤◌, ◌<◌}
use mathlib.Core.Path.{◌≡◌, ◌∙◌, refl, sym}
use mathlib.Core.Bool.{Bool, true, false, cond, ◌&&◌, ◌||◌, not}
use mathlib.Core.List.{List}
use mathlib.Mathlib.Data.Bool.Basic.{and_intro, and_elim_left, and_elim_right}
use borrow.Author.Tests.{lt-leb, eq-eqb, eqb-true}
use native.Mathlib.Omega.{arith}
use lib.Dec.{eqb}
use lib.ListN.{length, get_or}
use lib.Seq.{ext_get_or}
use Rattle.buffers.specs.Columns.{column}
use Rattle.buffers.specs.Every.{every_below}
use Rattle.buffers.proofs.Cases.{true-or-false}
use Rattle.buffers.proofs.Every.{every-suc, every-at, every-all}
use Rattle.buffers.proofs.Columns.{length-column, getD-column}
use Rattle.utf8.specs.Table.{within}
use Rattle.utf8.specs.Formed.{well_formed, continues}
use Rattle.validity.specs.Texts.{ascii}
use Rattle.validity.proofs.Ascii.{ascii-at}
use Rattle.note.specs.Notes.{lent, aligned}
use Rattle.utf8.specs.CharRanges.{char_start, char_end}
use Rattle.note.specs.Starting.{starting}
use Rattle.utf8.proofs.CharRanges.{Ranged, ranged, char_end-continues, char_end-begins}
use Rattle.note.proofs.Starting.{starting-sound}
use Rattle.aligned.specs.IsStarting.{carries_own, char_aligned_at, is_char_aligned, is_identity, is_starting}

-- one more index
module _ (text starts ends : List ℕ) where
  pub char-aligned-none : true ≡ is_char_aligned text starts ends 0
  unfolding is_char_aligned every_below
  char-aligned-none = refl

  pub char-aligned-first : (ok : Bool) → ok ≡ (eqb (get_or starts 0 0) 0 && eqb (get_or ends (length text - 1) 0) (length text)) → ok ≡ is_char_aligned text starts ends 1
  unfolding is_char_aligned every_below char_aligned_at
  char-aligned-first ok e = e

  pub char-aligned-more : (i : ℕ) (ok r : Bool) → 1 ≤ i → ok ≡ is_char_aligned text starts ends i → r ≡ carries_own (get_or text i 0) (get_or starts (i - 1) 0) (get_or starts i 0) (get_or ends (i - 1) 0) (get_or ends i 0) i → (ok && r) ≡ is_char_aligned text starts ends (i + 1)
  unfolding is_char_aligned char_aligned_at
  char-aligned-more zero ok r low p q = absurd (omega arith)
  char-aligned-more (suc i) ok r low p q =
      let one : suc i - 1 ≡ i = omega arith in
      rw (every-suc (suc i) (char_aligned_at text starts ends), p, q, one)

-- the test at one index by flags
flagged : (more : Bool) (x a b : ℕ) → ((more && eqb x a) || (not more && eqb x b)) ≡ eqb x (cond more a b)
flagged true x a b = true-or-false (eqb x a) (λ t. rw t) (λ f. rw f)
flagged false x a b = refl

pub carries-flags : (b s0 s1 e0 e1 i : ℕ) (more : Bool) → more ≡ continues b → (((more && eqb s1 s0) || (not more && eqb s1 i)) && ((more && eqb e0 e1) || (not more && eqb e0 i))) ≡ carries_own b s0 s1 e0 e1 i
unfolding carries_own
carries-flags b s0 s1 e0 e1 i more e = rw (flagged more s1 s0 i, flagged more e0 e1 i, e)

-- and what it says
module _ (b s0 s1 e0 e1 i : ℕ) (e : carries_own b s0 s1 e0 e1 i ≡ true) where
  carries-start : s1 ≡ cond (continues b) s0 i
  unfolding carries_own
  carries-start = eqb-true _ _ (and_elim_left (eqb s1 (cond (continues b) s0 i)) _ e)

  carries-end : e0 ≡ cond (continues b) e1 i
  unfolding carries_own
  carries-end = eqb-true _ _ (and_elim_right (eqb s1 (cond (continues b) s0 i)) _ e)

-- the columns, number by number: the starts forwards, the ends backwards
module _ (text starts ends : List ℕ) (p : well_formed text ≡ true) (e : is_char_aligned text starts ends (length text) ≡ true) where
  at_first : 0 < length text → (get_or starts 0 0 ≡ 0) × (get_or ends (length text - 1) 0 ≡ length text)
  unfolding is_char_aligned char_aligned_at
  at_first some =
      let both = every-at (length text) (char_aligned_at text starts ends) e 0 some in
      (eqb-true _ _ (and_elim_left (eqb (get_or starts 0 0) 0) _ both), eqb-true _ _ (and_elim_right (eqb (get_or starts 0 0) 0) _ both))

  at_next : (i : ℕ) → suc i < length text → carries_own (get_or text (suc i) 0) (get_or starts i 0) (get_or starts (suc i) 0) (get_or ends i 0) (get_or ends (suc i) 0) (suc i) ≡ true
  unfolding is_char_aligned char_aligned_at
  at_next i h = every-at (length text) (char_aligned_at text starts ends) e (suc i) h

  char-aligned-start : (i : ℕ) → i < length text → get_or starts i 0 ≡ char_start text i
  unfolding char_start
  char-aligned-start zero h = (at_first h).0
  char-aligned-start (suc i) h = rw (← char-aligned-start i (omega arith)) (carries-start _ _ _ _ _ _ (at_next i h))

  -- d bytes before the last one
  char-aligned-end : (d i : ℕ) → i + suc d ≡ length text → get_or ends i 0 ≡ char_end text i
  char-aligned-end zero i h =
      let r : Ranged text i = ranged text i p (omega arith) in
      let last : length text - 1 ≡ i = omega arith in
      (rw last at (at_first (omega arith)).1) ∙ omega arith
  char-aligned-end (suc d) i h =
      let here = carries-end _ _ _ _ _ _ (at_next i (omega arith)) in
      true-or-false (continues (get_or text (suc i) 0))
      (λ more. (rw more at here) ∙ char-aligned-end d (suc i) (omega arith) ∙ char_end-continues text i more)
      (λ new. (rw new at here) ∙ sym (char_end-begins text i (ranged text i p (omega arith)) new))

  -- the text beside these columns is the note of the fresh text
  char-aligned-starting : length starts ≡ length text → length ends ≡ length text → lent text text starts ends 0 ≡ starting text
  unfolding starting
  char-aligned-starting long long₂ =
      let n = length text in
      let same : starts ≡ column n (char_start text) =
      ext_get_or 0 starts (column n (char_start text)) (long ∙ sym (length-column n (char_start text)))
      (λ k h. char-aligned-start k (omega arith) ∙ sym (getD-column n (char_start text) k (omega arith))) in
      let same₂ : ends ≡ column n (char_end text) =
      ext_get_or 0 ends (column n (char_end text)) (long₂ ∙ sym (length-column n (char_end text)))
      (λ k h. char-aligned-end (n - suc k) k (omega arith) ∙ sym (getD-column n (char_end text) k (omega arith))) in
      rw (same, same₂)

-- an ASCII text whose alignments are the bytes at their indices
module _ (text starts ends : List ℕ) (small : ascii text ≡ true) (own : is_identity starts ends (length text) ≡ true) where
  own_at : (i : ℕ) → i < length text → (get_or starts i 0 ≡ i) × (get_or ends i 0 ≡ i + 1)
  unfolding is_identity
  own_at i h =
      let both = every-at (length text) _ own i h in
      (eqb-true _ _ (and_elim_left (eqb (get_or starts i 0) i) _ both), eqb-true _ _ (and_elim_right (eqb (get_or starts i 0) i) _ both))

  begins : (i : ℕ) → i < length text → continues (get_or text i 0) ≡ false
  unfolding continues within
  begins i h = rw (lt-leb 0x80 (get_or text i 0) (ascii-at text small i h))

  own-char-aligned-at : (i : ℕ) → i < length text → char_aligned_at text starts ends i ≡ true
  unfolding char_aligned_at carries_own
  own-char-aligned-at zero h =
      and_intro (eq-eqb _ _ (own_at 0 h).0) (eq-eqb _ _ ((own_at (length text - 1) (omega arith)).1 ∙ omega arith))
  own-char-aligned-at (suc i) h =
      rw (begins (suc i) h)
      (and_intro (eq-eqb _ _ (own_at (suc i) h).0) (eq-eqb _ _ ((own_at i (omega arith)).1 ∙ omega arith)))

  own-char-aligned : is_char_aligned text starts ends (length text) ≡ true
  unfolding is_char_aligned
  own-char-aligned = every-all (length text) _ own-char-aligned-at

-- how `isIdentity` is told
pub own-none : (starts ends : List ℕ) → true ≡ is_identity starts ends 0
unfolding is_identity every_below
own-none starts ends = refl

pub own-more : (starts ends : List ℕ) (i at : ℕ) (ok : Bool) → at ≡ i → ok ≡ is_identity starts ends i → (ok && (eqb (get_or starts i 0) at && eqb (get_or ends i 0) (at + 1))) ≡ is_identity starts ends (i + 1)
unfolding is_identity
own-more starts ends i at ok same p = rw (every-suc i _, same, p)

-- by the text's kind
pub starting-ascii : (m s e : List ℕ) (r : Bool) → ascii m ≡ true → r ≡ is_identity s e (length s) → r ≡ is_starting m s e
unfolding is_starting
starting-ascii m s e r small is = rw small is

pub starting-other : (m s e : List ℕ) (r : Bool) → ascii m ≡ false → r ≡ is_char_aligned m s e (length m) → r ≡ is_starting m s e
unfolding is_starting
starting-other m s e r large is = rw large is

starting-char-aligned : (m s e : List ℕ) → length s ≡ length m → is_starting m s e ≡ true → is_char_aligned m s e (length m) ≡ true
unfolding is_starting
starting-char-aligned m s e long t =
    true-or-false (ascii m)
    (λ small. own-char-aligned m s e small (rw (small, long) at t))
    (λ large. rw large at t)

-- such a note is aligned
pub starting-aligned : (o m s e : List ℕ) (r : Bool) → well_formed m ≡ true → length s ≡ length m → length e ≡ length m → o ≡ m → r ≡ is_starting m s e → r ≡ true → true ≡ aligned (lent o m s e 0)
starting-aligned o m s e r p long long₂ same is t =
    rw (same, char-aligned-starting m s e p (starting-char-aligned m s e long (sym is ∙ t)) long long₂) (sym (starting-sound m p).has_alignments)
