-- Laws of `tabAt`, byte by byte; and of the words of a line that has a tab.
use Prim.Native.Nat.{ℕ, zero, suc, ◌+◌, ◌-◌, ◌≤◌, ◌<◌}
use mathlib.Core.Path.{◌≡◌, ◌∙◌, ap, refl}
use mathlib.Core.Bool.{true, false, cond}
use mathlib.Core.List.{List, [], ◌∷◌, ◌++◌}
use native.Mathlib.Omega.{arith}
use lib.Dec.{ltb, eqb}
use Rattle.std.proofs.Common.{Ok, Err, is_ok}
use lib.ListN.{length, drop, get_or, length-append, length-drop}
use lib.Seq.{length-take-le}
use borrow.Author.Tests.{eq-eqb, ne_eqb, eqb-false, lt-ltb, le-ltb, ltb-true}
use Rattle.buffers.specs.Splice.{part}
use Rattle.buffers.proofs.Splice.{part_end}
use Rattle.buffers.proofs.Cases.{true-or-false, clash}
use Rattle.utf8.specs.Formed.{well_formed}
use Rattle.name_lines.specs.declared.LineFault.TheVariants.{NotUtf8, NoTab, TwoTabs, NoLiteral}
use Rattle.name_lines.specs.Names.{tab_at, has_tab, literal_of, filler_of, line_judged}

tab-cons : (b : ℕ) (s : List ℕ) → tab_at (b ∷ s) ≡ cond (eqb b 0x09) 0 (1 + tab_at s)
unfolding tab_at
tab-cons b s = let one : suc (tab_at s) ≡ 1 + tab_at s = omega arith in ap (cond (eqb b 0x09) 0) one

tab-nil : tab_at [] ≡ 0
unfolding tab_at
tab-nil = refl

pub tab-most : (s : List ℕ) → tab_at s ≤ length s
tab-most [] = omega (arith, tab-nil)
tab-most (b ∷ s) =
    true-or-false (eqb b 0x09)
    (λ t. rw (tab-cons b s, t) (omega arith))
    (λ f. rw (tab-cons b s, f) (omega (arith, tab-most s)))

-- a place with no tab before it, and the line's end or a tab at it
pub first-tab : (s : List ℕ) (r : ℕ) → r ≤ length s → ((k : ℕ) → k < r → get_or s k 0 ≡ 0x09 → ⊥) → (r < length s → get_or s r 0 ≡ 0x09) → r ≡ tab_at s
first-tab [] r within before found = omega (arith, tab-nil)
first-tab (b ∷ s) zero within before found = rw (tab-cons b s, eq-eqb b 0x09 (found (omega arith)))
first-tab (b ∷ s) (suc r) within before found =
    let other : b ≡ 0x09 → ⊥ = before 0 (omega arith) in
    let rest = first-tab s r (omega arith) (λ k h. before (suc k) (omega arith)) (λ h. found (omega arith)) in
    rw (tab-cons b s, ne_eqb b 0x09 other) (omega (arith, rest))

-- a line, judged; `t` is what the search for a tab answers
module _ (line : List ℕ) where
  pub not-formed : well_formed line ≡ false → Err NotUtf8 ≡ line_judged line
  unfolding line_judged
  not-formed f = rw f

  module _ {t : ℕ} (formed : well_formed line ≡ true) (found : t ≡ tab_at line) where
    pub no-tab : length line ≤ t → Err NoTab ≡ line_judged line
    unfolding line_judged has_tab
    no-tab h = rw (formed, ← found, le-ltb t (length line) h)

    module _ {u : ℕ} (inside : t < length line) (read : u ≡ tab_at (part line (t + 1) (length line))) where
      next : u ≡ tab_at (drop (t + 1) line)
      next = read ∙ ap tab_at (part_end line (t + 1))

      filler-length : length (drop (t + 1) line) ≡ length line - (t + 1)
      filler-length = length-drop (t + 1) line

      pub two-tabs : u < length line - (t + 1) → Err TwoTabs ≡ line_judged line
      unfolding line_judged has_tab filler_of
      two-tabs h = rw (formed, ← found, lt-ltb t (length line) inside, ← next, filler-length, lt-ltb u (length line - (t + 1)) h)

      module _ (one : length line - (t + 1) ≤ u) where
        pub no-literal : t ≡ 0 → Err NoLiteral ≡ line_judged line
        unfolding line_judged has_tab filler_of
        no-literal h = rw (formed, ← found, lt-ltb t (length line) inside, ← next, filler-length, le-ltb u (length line - (t + 1)) one, eq-eqb t 0 h)

        pub good-line : 0 < t → Ok tt ≡ line_judged line
        unfolding line_judged has_tab filler_of
        good-line h = rw (formed, ← found, lt-ltb t (length line) inside, ← next, filler-length, le-ltb u (length line - (t + 1)) one, ne_eqb t 0 (λ z. omega (arith, z)))

-- a good line has a tab, and a byte before it
pub good-tab : (line : List ℕ) → is_ok (line_judged line) ≡ true → (0 < tab_at line) × (tab_at line < length line)
unfolding line_judged has_tab
good-tab line good =
    true-or-false (well_formed line)
    (λ f. true-or-false (ltb (tab_at line) (length line))
    (λ t. true-or-false (has_tab (filler_of line))
    (λ u. clash (is_ok (line_judged line)) good (rw (f, t, u)))
    (λ u. true-or-false (eqb (tab_at line) 0)
    (λ z. clash (is_ok (line_judged line)) good (rw (f, t, u, z)))
    (λ z. let some = eqb-false (tab_at line) 0 z in (omega (arith, some), ltb-true _ _ t))))
    (λ t. clash (is_ok (line_judged line)) good (rw (f, t))))
    (λ f. clash (is_ok (line_judged line)) good (rw f))

-- its words have all its bytes but the tab
module _ (line : List ℕ) (h : tab_at line < length line) where
  pub length-literal : length (literal_of line) ≡ tab_at line
  unfolding literal_of
  length-literal = length-take-le (tab_at line) line (omega arith)

  pub length-filler : length (filler_of line) ≡ length line - (tab_at line + 1)
  unfolding filler_of
  length-filler = length-drop (tab_at line + 1) line

  pub length_both : length (literal_of line ++ filler_of line) ≡ length line - 1
  length_both = length-append (literal_of line) (filler_of line) ∙ rw (length-literal, length-filler) (omega arith)
