-- What is chosen by the flags is what the plain words say, where each character carries one value of a column.
use Prim.Native.Nat.{ℕ, zero, suc, ◌+◌, ◌≤◌, ◌<◌}
use mathlib.Core.Path.{◌≡◌, ◌∙◌, refl, sym}
use mathlib.Core.Bool.{true, cond}
use mathlib.Core.List.{List, [], ◌∷◌, ◌++◌}
use native.Mathlib.Numerals.{add-one}
use native.Mathlib.Omega.{arith}
use lib.Dec.{eqb}
use lib.ListN.{length, get_or, drop, replicate, drop_of_length-le}
use lib.Seq.{drop-cons}
use Rattle.buffers.proofs.Cases.{le-or-lt, true-or-false}
use Rattle.utf8.specs.Formed.{announced, well_formed, boundary}
use Rattle.utf8.specs.Scalar.{bytes_of}
use Rattle.utf8.proofs.Boundaries.{char-at, boundary-zero}
use Rattle.utf8.specs.Scalar.{len_utf8}
use Rattle.code_point_blocks.specs.Codes.{text_of}
use Rattle.map_columns.specs.Spreading.{of_chars, spread}
use Rattle.map_columns.proofs.Chars.{of-chars-at}
use Rattle.edits.specs.Characters.{code_at, codes_of}
use Rattle.edits.specs.Plain.{sifted}
use Rattle.edits.proofs.Characters.{code-bytes, codes-none, codes-cons}
use Rattle.edits.proofs.Sifted.{code-size, codes-chars}
use Rattle.filter_blocks.specs.Chosen.{chosen, FlagEach}
use Rattle.filter_blocks.proofs.Chosen.{chosen-end, char-chosen}
use Rattle.filters.specs.Flags.{OneValue}

-- one flag, of a text and of a column
text-cons : (k c : ℕ) (ks cs : List ℕ) → text_of (sifted (k ∷ ks) (c ∷ cs)) ≡ cond (eqb k 0) [] (bytes_of c) ++ text_of (sifted ks cs)
unfolding text_of sifted
text-cons k c ks cs = true-or-false (eqb k 0) (λ t. rw t) (λ f. rw f)

spread-cons : (k c x : ℕ) (ks cs xs : List ℕ) → spread (sifted (k ∷ ks) (c ∷ cs)) (sifted (k ∷ ks) (x ∷ xs)) ≡ cond (eqb k 0) [] (replicate (len_utf8 c) x) ++ spread (sifted ks cs) (sifted ks xs)
unfolding spread sifted
spread-cons k c x ks cs xs = true-or-false (eqb k 0) (λ t. rw t) (λ f. rw f)

text-none : (cs : List ℕ) → text_of (sifted [] cs) ≡ []
unfolding text_of sifted
text-none cs = refl

spread_none : (cs xs : List ℕ) → spread (sifted [] cs) xs ≡ []
unfolding spread sifted
spread_none cs xs = refl

flag-cons : (flags : List ℕ) (i : ℕ) → i < length flags → drop i flags ≡ get_or flags i 0 ∷ drop (i + 1) flags
flag-cons flags i h = drop-cons flags i 0 h ∙ rw (add-one i)

char-left : (s : List ℕ) (q i : ℕ) {m : ℕ} → length (codes_of (drop q s)) + i ≡ m → i < m → q < length s
char-left s q i left h =
    le-or-lt (length s) q
    (λ past. let none : length (codes_of (drop q s)) ≡ 0 = rw (drop_of_length-le s past, codes-none) in absurd (omega arith))
    (λ less. less)

codes-left : (s : List ℕ) (q i : ℕ) {m : ℕ} → well_formed s ≡ true → boundary s q ≡ true → q < length s → length (codes_of (drop q s)) + i ≡ m → length (codes_of (drop (q + announced (get_or s q 0)) s)) + (i + 1) ≡ m
codes-left s q i formed here h left =
    let less : length (codes_of (drop q s)) ≡ suc (length (codes_of (drop (q + announced (get_or s q 0)) s))) = rw (codes-cons s q formed here h) in
    omega (arith, less)

module _ {s flags : List ℕ} (f : FlagEach s flags) (xs : List ℕ) (same : length xs ≡ length s) (one : OneValue s xs) where
  both-from : (fuel q i : ℕ) → boundary s q ≡ true → length (codes_of (drop q s)) + i ≡ length flags → length flags ≤ i + fuel
      → (text_of (sifted (drop i flags) (codes_of (drop q s))) ≡ chosen flags i (drop q s) (drop q s)) × (spread (sifted (drop i flags) (codes_of (drop q s))) (sifted (drop i flags) (of_chars (drop q s) (drop q xs))) ≡ chosen flags i (drop q s) (drop q xs))
  both-from zero q i here left far =
      let done : length flags ≤ i = omega arith in
      let past : length s ≤ q = le-or-lt (length s) q (λ p. p) (λ less. absurd (omega (arith, codes-left s q i f.formed here less left))) in
      rw (drop_of_length-le flags done, chosen-end flags i s s q past, chosen-end flags i s xs q past) (text-none (codes_of (drop q s)), spread_none (codes_of (drop q s)) (sifted [] (of_chars (drop q s) (drop q xs))))
  both-from (suc fuel) q i here left far =
      le-or-lt (length flags) i
      (λ done. both-from fuel q i here left (omega arith))
      (λ more.
      let h : q < length s = char-left s q i left more in
      let w : ℕ = announced (get_or s q 0) in
      let rest = both-from fuel (q + w) (i + 1) (char-at s q f.formed here h).ends (codes-left s q i f.formed here h left) (omega arith) in
      rw (flag-cons flags i more, codes-cons s q f.formed here h, of-chars-at s xs same q f.formed here h) (
        text-cons (get_or flags i 0) (code_at s q) (drop (i + 1) flags) (codes_of (drop (q + w) s)) ∙ rw (code-bytes s q f.formed here h, rest.0) (sym (char-chosen s s flags refl q i f.formed here h)),
        spread-cons (get_or flags i 0) (code_at s q) (get_or xs q 0) (drop (i + 1) flags) (codes_of (drop (q + w) s)) (of_chars (drop (q + w) s) (drop (q + w) xs)) ∙ rw (code-size s q f.formed here h, one q here h, rest.1) (sym (char-chosen s xs flags same q i f.formed here h)),
      ))

  pub both-chosen : (text_of (sifted flags (codes_of s)) ≡ chosen flags 0 s s) × (spread (sifted flags (codes_of s)) (sifted flags (of_chars s xs)) ≡ chosen flags 0 s xs)
  both-chosen = both-from (length flags) 0 0 (boundary-zero s f.formed) (omega (arith, codes-chars s, f.counted)) (omega arith)
