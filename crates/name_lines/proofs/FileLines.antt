-- Laws of `FileLines`: a byte in front of a file that does not end its first line.
use Prim.Native.Nat.{ℕ}
use mathlib.Core.Path.{◌≡◌, ◌∙◌, refl, sym}
use mathlib.Core.Bool.{true, false, ◌&&◌, and-true}
use mathlib.Core.List.{List, [], ◌∷◌, ◌++◌}
use mathlib.Mathlib.Data.Bool.Basic.{and_elim_left, and_elim_right}
use native.Mathlib.Omega.{arith}
use lib.Dec.{eqb}
use lib.ListN.{get_or}
use borrow.Author.Tests.{eqb-true}
use Rattle.buffers.proofs.Cases.{true-or-false}
use Rattle.buffers.proofs.Booleans.{and_false_r}
use Rattle.name_lines.specs.Lines.{lines_of, in_front, feedless, returned, FileLines, no_line, last_line, feed-line, return-line, LinesJoined}

feedless-cons : (b : ℕ) (l : List ℕ) → eqb b 0x0A ≡ false → feedless l ≡ true → feedless (b ∷ l) ≡ true
unfolding feedless
feedless-cons b l other rest = rw other rest

returned-cons : (b : ℕ) (l s : List ℕ) → (eqb b 0x0D && eqb (get_or (l ++ (0x0A ∷ s)) 0 0) 0x0A) ≡ false → returned l ≡ false → returned (b ∷ l) ≡ false
unfolding returned
returned-cons b [] s none rest = sym (and-true (eqb b 0x0D)) ∙ none
returned-cons b (c ∷ l) s none rest = rest

in-front : (b : ℕ) (s : List ℕ) (ls : List (List ℕ)) → eqb b 0x0A ≡ false → (eqb b 0x0D && eqb (get_or s 0 0) 0x0A) ≡ false → FileLines s ls → FileLines (b ∷ s) (in_front b ls)
unfolding feedless
in-front b _ _ other none no_line = last_line (b ∷ []) (omega arith) (feedless-cons b [] other refl)
in-front b _ _ other none (last_line l some clean) = last_line (b ∷ l) (omega arith) (feedless-cons b l other clean)
in-front b _ _ other none (feed-line l s ls clean kept rest) = feed-line (b ∷ l) s ls (feedless-cons b l other clean) (returned-cons b l s none kept) rest
in-front b _ _ other none (return-line l s ls clean rest) = return-line (b ∷ l) s ls (feedless-cons b l other clean) rest

feed-front : (b : ℕ) (s : List ℕ) (ls : List (List ℕ)) → eqb b 0x0A ≡ true → FileLines s ls → FileLines (b ∷ s) ([] ∷ ls)
unfolding feedless returned
feed-front b s ls e rest = rw (eqb-true b 0x0A e) (feed-line [] s ls refl refl rest)

return-front : (b c : ℕ) (s : List ℕ) (ls : List (List ℕ)) → (eqb b 0x0D && eqb c 0x0A) ≡ true → FileLines s ls → FileLines (b ∷ c ∷ s) ([] ∷ ls)
unfolding feedless
return-front b c s ls e rest =
    rw (eqb-true b 0x0D (and_elim_left _ (eqb c 0x0A) e), eqb-true c 0x0A (and_elim_right (eqb b 0x0D) _ e))
    (return-line [] s ls refl rest)

pub lines-joined : LinesJoined
unfolding lines_of
lines-joined [] = no_line
lines-joined (b ∷ []) =
    true-or-false (eqb b 0x0A)
    (λ t. rw t (feed-front b [] [] t no_line))
    (λ f. let none = and_false_r (eqb b 0x0D) false refl in rw (f, none) (in-front b [] [] f none no_line))
lines-joined (b ∷ c ∷ s) =
    true-or-false (eqb b 0x0A)
    (λ t. rw t (feed-front b (c ∷ s) (lines_of (c ∷ s)) t (lines-joined (c ∷ s))))
    (λ f. true-or-false (eqb b 0x0D && eqb c 0x0A)
    (λ t. rw (f, t, and_elim_right (eqb b 0x0D) _ t) (return-front b c s (lines_of s) t (lines-joined s)))
    (λ g. rw (f, g) (in-front b (c ∷ s) (lines_of (c ∷ s)) f g (lines-joined (c ∷ s)))))
