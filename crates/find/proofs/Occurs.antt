-- Laws of `occursAt`: the literal's bytes stand there, inside the text; a well-formed literal is on boundaries of a well-formed text.
use Prim.Native.Nat.{ℕ, ◌+◌, ◌-◌, ◌≤◌, ◌<◌}
use mathlib.Core.Path.{◌≡◌, ◌∙◌, ap, sym}
use mathlib.Core.Bool.{true, false}
use mathlib.Core.List.{List}
use native.Mathlib.Omega.{arith}
use lib.ListN.{length, get_or, take, drop, length-take, length-drop}
use lib.Seq.{get_or-drop}
use Rattle.buffers.specs.Splice.{part}
use Rattle.buffers.proofs.Cases.{true-or-false}
use Rattle.buffers.proofs.Splice.{part-index}
use Rattle.buffers.proofs.Same.{same-equal}
use Rattle.utf8.specs.Formed.{well_formed, boundary}
use Rattle.utf8.proofs.Boundaries.{boundary-at, boundary-begins, boundary-zero, boundary-of-take, formed-drop}
use Rattle.find.specs.Matching.{occurs_at}

module _ (text literal : List ℕ) (p : ℕ) where
  pub occurs-is : occurs_at text literal p ≡ true → part text p (p + length literal) ≡ literal
  unfolding occurs_at
  occurs-is e = same-equal _ literal e

  pub occurs-inside : 0 < length literal → occurs_at text literal p ≡ true → p + length literal ≤ length text
  occurs-inside some e = omega (arith, simp (length-take, length-drop) at (ap length (occurs-is e)))

  -- byte by byte
  pub occurs-byte : (k : ℕ) → k < length literal → occurs_at text literal p ≡ true → get_or text (p + k) 0 ≡ get_or literal k 0
  occurs-byte k h e =
      sym (part-index text p (p + length literal) k (omega arith)) ∙ ap (λ (l : List ℕ). get_or l k 0) (occurs-is e)

  pub occurs-not : 0 < length literal → (get_or text p 0 ≡ get_or literal 0 0 → ⊥) → false ≡ occurs_at text literal p
  occurs-not some h =
      let z : p + 0 ≡ p = omega arith in
      true-or-false (occurs_at text literal p) (λ t. absurd (h (rw z at (occurs-byte 0 some t)))) (λ f. sym f)

  module _ (some : 0 < length literal) (t : well_formed text ≡ true) (l : well_formed literal ≡ true) (e : occurs_at text literal p ≡ true) where
    pub starts_on : boundary text p ≡ true
    starts_on =
        let z : p + 0 ≡ p = omega arith in
        boundary-at text p (omega (arith, occurs-inside some e))
        (rw (sym (rw z at (occurs-byte 0 some e))) at (boundary-begins literal 0 (boundary-zero literal l)))

    pub ends_on : boundary text (p + length literal) ≡ true
    ends_on =
        let n : p + length literal - p ≡ length literal = omega arith in
        let is : take (length literal) (drop p text) ≡ literal = rw n at (occurs-is e) in
        let inside : p + length literal ≤ length text = occurs-inside some e in
        let fits : length literal ≤ length (drop p text) = rw (length-drop p text) (omega arith) in
        boundary-at text (p + length literal) inside
        (rw (get_or-drop p text (length literal) 0) at
        (boundary-begins (drop p text) (length literal)
        (boundary-of-take (drop p text) (length literal) (formed-drop text p t starts_on) fits (rw is l))))
