-- Laws of `paddedAt`, `validAt` and `validFrom`: read byte by byte, in a block, and from one place of the text to another.
use Prim.Native.Nat.{ℕ, zero, suc, ◌+◌, ◌-◌, ◌≤◌, ◌<◌}
use mathlib.Core.Path.{◌≡◌, ◌∙◌, ap, refl, sym}
use mathlib.Core.Bool.{Bool, true, false, ◌&&◌, not}
use mathlib.Core.List.{List, ◌∷◌}
use native.Mathlib.Nat.{zero-add}
use native.Mathlib.Omega.{arith}
use lib.ListN.{length, get_or, drop, length-take, length-drop, get_or-eq_default}
use lib.Seq.{get_or-take, get_or-drop}
use Rattle.buffers.specs.Every.{every_below}
use Rattle.buffers.specs.Splice.{part}
use Rattle.buffers.proofs.Booleans.{and-false-l}
use Rattle.buffers.proofs.Every.{every-add, every-ext}
use Rattle.utf8.specs.Formed.{well_formed}
use Rattle.validity_blocks.specs.Valid.{invalid, valid, valid_first}
use Rattle.validity_blocks.proofs.Valid.{valid-read}
use Rattle.validity.specs.ValidAt.{padded_at, valid_at, valid_from}
use Rattle.validity.proofs.Wanted.{formed-valid}

pub padded-low : (s : List ℕ) (k : ℕ) → k < 3 → padded_at s k ≡ 0
unfolding padded_at
padded-low s zero h = refl
padded-low s (suc zero) h = refl
padded-low s (suc (suc zero)) h = refl
padded-low s (suc (suc (suc k))) h = absurd (omega arith)

pub padded-high : (s : List ℕ) (k : ℕ) → 3 ≤ k → padded_at s k ≡ get_or s (k - 3) 0
unfolding padded_at
padded-high s zero h = absurd (omega arith)
padded-high s (suc zero) h = absurd (omega arith)
padded-high s (suc (suc zero)) h = absurd (omega arith)
padded-high s (suc (suc (suc k))) h = let same : k ≡ suc (suc (suc k)) - 3 = omega arith in ap (λ (m : ℕ). get_or s m 0) same

pub padded-past : (s : List ℕ) (k : ℕ) → 3 ≤ k → length s ≤ k - 3 → padded_at s k ≡ 0
padded-past s k h past = padded-high s k h ∙ get_or-eq_default s 0 past

-- by the four bytes read there
pub valid-padded : (s : List ℕ) (i : ℕ) {b3 b2 b1 b0 : ℕ} {f : Bool} → b3 ≡ padded_at s i → b2 ≡ padded_at s (i + 1) → b1 ≡ padded_at s (i + 2) → b0 ≡ padded_at s (i + 3) → f ≡ invalid b3 b2 b1 b0 → not f ≡ valid_at s i
unfolding padded_at valid_at
valid-padded s i {f = f} e3 e2 e1 e0 e = valid-read (0 ∷ 0 ∷ 0 ∷ s) i {f = f} (rw (← e3, ← e2, ← e1, ← e0) e)

-- a byte of a block, with the three before it, is the text's there
part-valid : (s : List ℕ) (i e j : ℕ) → 3 ≤ i → j < e - i → valid (drop j (part s (i - 3) e)) ≡ valid_at s (i + j)
unfolding valid valid_at padded_at
part-valid s i e j low below =
    let at : (k : ℕ) → k < 4 → get_or (drop j (part s (i - 3) e)) k 0 ≡ get_or (drop (i + j) (0 ∷ 0 ∷ 0 ∷ s)) k 0 =
    λ k small.
    get_or-drop j (part s (i - 3) e) k 0 ∙ get_or-take (e - (i - 3)) (drop (i - 3) s) (j + k) 0 (omega arith)
    ∙ get_or-drop (i - 3) s (j + k) 0
    ∙ ap (λ (m : ℕ). get_or s m 0) (let same : i - 3 + (j + k) ≡ i + j + k - 3 = omega arith in same)
    ∙ sym (padded-high s (i + j + k) (omega arith)) ∙ sym (get_or-drop (i + j) (0 ∷ 0 ∷ 0 ∷ s) k 0) in
    rw (at 0 (omega arith), at 1 (omega arith), at 2 (omega arith), at 3 (omega arith))

-- a block of the text from i to e, which begins with the three bytes before i
pub block-valid : (s : List ℕ) (i e : ℕ) → 3 ≤ i → e ≤ length s → valid_first (part s (i - 3) e) (length (part s (i - 3) e) - 3) ≡ valid_from s i (e - i)
unfolding valid_first valid_from
block-valid s i e low room =
    let size : length (part s (i - 3) e) - 3 ≡ e - i = simp (length-take, length-drop) (omega arith) in
    rw size (every-ext (e - i) _ _ (λ j below. part-valid s i e j low below))

from_one : (s : List ℕ) (i : ℕ) → valid_from s i (i + 1 - i) ≡ valid_at s i
unfolding valid_from every_below
from_one s i =
    let one : i + 1 - i ≡ 1 = omega arith in
    let here : i + 0 ≡ i = omega arith in
    rw (one, here)

-- cut at m
from_cut : (s : List ℕ) (i m e : ℕ) → i ≤ m → m ≤ e → valid_from s i (e - i) ≡ (valid_from s i (m - i) && valid_from s m (e - m))
unfolding valid_from
from_cut s i m e h k =
    let whole : e - i ≡ (m - i) + (e - m) = omega arith in
    rw whole
    (every-add (m - i) (e - m) (λ j. valid_at s (i + j))
    ∙ ap (λ (b : Bool). every_below (m - i) (λ j. valid_at s (i + j)) && b)
    (every-ext (e - m) _ _ (λ j below. ap (valid_at s) (let same : i + (m - i + j) ≡ m + j = omega arith in same))))

pub from_all : (s : List ℕ) → well_formed s ≡ valid_from s 0 (length s + 3 - 0)
unfolding valid_from
from_all s =
    let all : length s + 3 - 0 ≡ length s + 3 = omega arith in
    formed-valid s ∙ rw all (every-ext (length s + 3) _ _ (λ j below. ap (valid_at s) (sym (zero-add j))))

-- the loops: between `from` and i every byte can stand where it does, and `to` is where they end
pub record ValidSoFar (s : List ℕ) (from to i : ℕ) : Type 0 where
  pub least : from ≤ i
  pub most : i ≤ to
  pub so_far : valid_from s from (i - from) ≡ true

pub valid-none : {s : List ℕ} {from to : ℕ} → from ≤ to → ValidSoFar s from to from
unfolding valid_from every_below
valid-none {from = from} h =
    let none : from - from ≡ 0 = omega arith in record { least = omega arith; most = h; so_far = rw none }

module _ {s : List ℕ} {from to i : ℕ} (k : ValidSoFar s from to i) where
  -- up to e, only what is from i on counts
  pub valid-rest : (e : ℕ) → i ≤ e → valid_from s from (e - from) ≡ valid_from s i (e - i)
  valid-rest e h = from_cut s from i e k.least h ∙ rw k.so_far

  -- what is from i to e is judged
  module _ (e : ℕ) (h : (i ≤ e) × (e ≤ to)) (r : Bool) (is : r ≡ valid_from s i (e - i)) where
    pub valid-more : r ≡ true → ValidSoFar s from to e
    valid-more t = record { least = omega (arith, k.least, h.0); most = h.1; so_far = valid-rest e h.0 ∙ sym is ∙ t }

    pub valid-not : r ≡ false → valid_from s from (to - from) ≡ false
    valid-not t =
        from_cut s from e to (omega (arith, k.least, h.0)) h.1 ∙ and-false-l _ _ (valid-rest e h.0 ∙ sym is ∙ t)

  pub valid-done : to ≤ i → valid_from s from (to - from) ≡ true
  valid-done past = let all : i ≡ to = omega (arith, k.most) in rw all at k.so_far

pub at_one : (s : List ℕ) (i : ℕ) {r : Bool} → r ≡ valid_at s i → r ≡ valid_from s i (i + 1 - i)
at_one s i e = e ∙ sym (from_one s i)

-- from i to the end of the text: the bytes that are left, judged as one block, and the end
module _ (s : List ℕ) (i : ℕ) {r : Bool} (low : 3 ≤ i) (most : i ≤ length s) (says : r ≡ valid_first (part s (i - 3) (length s)) (length (part s (i - 3) (length s)) - 3)) where
  rest-cut : valid_from s i (length s + 3 - i) ≡ (r && valid_from s (length s) (length s + 3 - length s))
  rest-cut = from_cut s i (length s) (length s + 3) most (omega arith) ∙ rw (says, block-valid s i (length s) low (omega arith))

  pub rest-not : r ≡ false → valid_from s i (length s + 3 - i) ≡ false
  rest-not e = rest-cut ∙ and-false-l _ _ e

  pub rest_end : r ≡ true → {q : Bool} (to : ℕ) → q ≡ valid_from s (length s) (to - length s) → to ≡ length s + 3 → q ≡ valid_from s i (length s + 3 - i)
  rest_end e to ends all = ends ∙ rw all (sym (rest-cut ∙ rw e))
