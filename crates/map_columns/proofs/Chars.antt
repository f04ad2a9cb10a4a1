-- Laws of `ofChars`: character by character, from any place on.
use Prim.Native.Nat.{ℕ, zero, suc, ◌+◌, ◌-◌, ◌≤◌, ◌<◌}
use mathlib.Core.Path.{◌≡◌, ◌∙◌, ap, refl, sym}
use mathlib.Core.Bool.{true, false}
use mathlib.Core.List.{List, [], ◌∷◌}
use native.Mathlib.Omega.{arith}
use lib.ListN.{length, get_or, take, drop, length-drop}
use lib.Seq.{drop-cons}
use Rattle.buffers.proofs.Cases.{true-or-false}
use Rattle.utf8.specs.Formed.{announced, well_formed, continues, boundary}
use Rattle.utf8.specs.Chars.{lead_at, leads}
use Rattle.utf8.proofs.Boundaries.{CharAt, char-at, boundary-begins}
use Rattle.map_columns.specs.Spreading.{of_chars}

-- the characters of a column, from a place on
pub chars-drop : (k : ℕ) (s xs : List ℕ) → length xs ≡ length s → of_chars (drop k s) (drop k xs) ≡ drop (leads (take k s)) (of_chars s xs)
unfolding of_chars leads lead_at
chars-drop zero s xs same = refl
chars-drop (suc k) [] [] same = refl
chars-drop (suc k) [] (x ∷ xs) same = absurd (omega arith)
chars-drop (suc k) (b ∷ s) [] same = absurd (omega arith)
chars-drop (suc k) (b ∷ s) (x ∷ xs) same =
    true-or-false (continues b)
    (λ goes. let z : 0 + leads (take k s) ≡ leads (take k s) = omega arith in rw (goes, z) (chars-drop k s xs (omega arith)))
    (λ new. let z : 1 + leads (take k s) ≡ suc (leads (take k s)) = omega arith in rw (new, z) (chars-drop k s xs (omega arith)))

pub length-chars : (s xs : List ℕ) → length xs ≡ length s → length (of_chars s xs) ≡ leads s
unfolding of_chars leads lead_at
length-chars [] xs same = refl
length-chars (b ∷ s) [] same = absurd (omega arith)
length-chars (b ∷ s) (x ∷ xs) same =
    true-or-false (continues b)
    (λ goes. rw goes (length-chars s xs (omega arith) ∙ omega arith))
    (λ new. rw new (ap suc (length-chars s xs (omega arith)) ∙ omega arith))

pub new-char : (b x : ℕ) (s xs : List ℕ) → continues b ≡ false → of_chars (b ∷ s) (x ∷ xs) ≡ x ∷ of_chars s xs
unfolding of_chars
new-char b x s xs new = rw new

pub old-char : (b x : ℕ) (s xs : List ℕ) → continues b ≡ true → of_chars (b ∷ s) (x ∷ xs) ≡ of_chars s xs
unfolding of_chars
old-char b x s xs goes = rw goes

module _ (s xs : List ℕ) (same : length xs ≡ length s) where
  -- up to the end of a character no other begins
  chars_rest : (k p : ℕ) → p + k ≤ length s → ((i : ℕ) → p ≤ i → i < p + k → continues (get_or s i 0) ≡ true) → of_chars (drop p s) (drop p xs) ≡ of_chars (drop (p + k) s) (drop (p + k) xs)
  chars_rest zero p h goes = let z : p + 0 ≡ p = omega arith in rw z
  chars_rest (suc k) p h goes =
      let z : suc p + k ≡ p + suc k = omega arith in
      rw (drop-cons s p 0 (omega arith), drop-cons xs p 0 (omega arith))
      (old-char (get_or s p 0) (get_or xs p 0) (drop (suc p) s) (drop (suc p) xs) (goes p (omega arith) (omega arith))
      ∙ (rw z at (chars_rest k (suc p) (omega arith) (λ i a b. goes i (omega arith) (omega arith)))))

  -- a character of so many bytes
  pub char_of : (w p : ℕ) → 0 < w → p + w ≤ length s → continues (get_or s p 0) ≡ false → ((i : ℕ) → p < i → i < p + w → continues (get_or s i 0) ≡ true) → of_chars (drop p s) (drop p xs) ≡ get_or xs p 0 ∷ of_chars (drop (p + w) s) (drop (p + w) xs)
  char_of w p some h new goes =
      let z : suc p + (w - 1) ≡ p + w = omega arith in
      rw (drop-cons s p 0 (omega arith), drop-cons xs p 0 (omega arith))
      (new-char (get_or s p 0) (get_or xs p 0) (drop (suc p) s) (drop (suc p) xs) new
      ∙ ap (◌∷◌ (get_or xs p 0)) (rw z at (chars_rest (w - 1) (suc p) (omega arith) (λ i a b. goes i (omega arith) (omega arith)))))

  pub of-chars-at : (p : ℕ) → well_formed s ≡ true → boundary s p ≡ true → p < length s → of_chars (drop p s) (drop p xs) ≡ get_or xs p 0 ∷ of_chars (drop (p + announced (get_or s p 0)) s) (drop (p + announced (get_or s p 0)) xs)
  of-chars-at p formed here h =
      let char : CharAt s p (announced (get_or s p 0)) = char-at s p formed here h in
      char_of (announced (get_or s p 0)) p char.positive char.inside (boundary-begins s p here) char.rest

  pub leads-of : (w p : ℕ) → 0 < w → p + w ≤ length s → continues (get_or s p 0) ≡ false → ((i : ℕ) → p < i → i < p + w → continues (get_or s i 0) ≡ true) → leads (drop p s) ≡ suc (leads (drop (p + w) s))
  leads-of w p some h new goes =
      let long : (k : ℕ) → length (drop k xs) ≡ length (drop k s) = λ k. length-drop k xs ∙ (rw same (sym (length-drop k s))) in
      sym (length-chars (drop p s) (drop p xs) (long p)) ∙ ap length (char_of w p some h new goes) ∙ ap suc (length-chars (drop (p + w) s) (drop (p + w) xs) (long (p + w)))

  pub leads-at : (p : ℕ) → well_formed s ≡ true → boundary s p ≡ true → p < length s → leads (drop p s) ≡ suc (leads (drop (p + announced (get_or s p 0)) s))
  leads-at p formed here h =
      let char : CharAt s p (announced (get_or s p 0)) = char-at s p formed here h in
      leads-of (announced (get_or s p 0)) p char.positive char.inside (boundary-begins s p here) char.rest
