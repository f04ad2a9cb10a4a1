-- The fast form and the plain form are the same: a text is well-formed exactly when each byte can stand where it does.
-- By induction on the text, with the columns still asked told by the last three bytes (`wanted`).
use Prim.Native.Nat.{ℕ, ◌+◌, ◌≤◌, ◌<◌}
use mathlib.Core.Path.{◌≡◌, ◌∙◌, ap, sym}
use mathlib.Core.Bool.{true, false, cond, xor, ◌&&◌, not}
use mathlib.Core.List.{List, [], ◌∷◌}
use borrow.Author.Tests.{le-leb, lt-leb, lt-ltb, le-ltb, not-true}
use native.Mathlib.Nat.{suc-add}
use native.Mathlib.Omega.{arith}
use lib.Dec.{leb}
use lib.ListN.{length, drop}
use Rattle.buffers.specs.Every.{every_below}
use Rattle.buffers.proofs.Cases.{true-or-false, le-or-lt}
use Rattle.buffers.proofs.Booleans.{and-cong}
use Rattle.buffers.proofs.Every.{every-cons}
use Rattle.utf8.specs.Table.{Bytes, within, trail}
use Rattle.utf8.specs.Formed.{second, asked, formed}
use Rattle.utf8.proofs.Formed.{announced-one, announced-none, announced-past, announced-lead, asked-one, asked-two, asked-three, asked-four, second-trail, second-continues, continues-low, continues-high}
use Rattle.validity_blocks.specs.Valid.{pending, never, invalid, valid}
use Rattle.validity_blocks.proofs.Invalid.{pending-1, pending-2, pending-3, pending-none, never-lead, invalid-never, valid-pending, valid-ascii}
use Rattle.validity.specs.ValidAt.{valid_at, FormedValid}

-- the columns still asked after b3, b2, b1
unfoldable wanted : ℕ → ℕ → ℕ → List Bytes
wanted b3 b2 b1 = cond (leb 0xC0 b1) (asked b1) (cond (leb 0xE0 b2) (drop 1 (asked b2)) (cond (leb 0xF0 b3) (drop 2 (asked b3)) []))

-- what is known of three bytes that can stand where they do
record History (b3 b2 b1 : ℕ) : Type 0 where
  lead1 : 0xC0 ≤ b1 → (0xC2 ≤ b1) × (b1 < 0xF5)
  lead2 : 0xE0 ≤ b2 → (b1 < 0xC0) × (b2 < 0xF5)
  lead3 : 0xF0 ≤ b3 → b3 < 0xF5

module _ (b3 b2 b1 : ℕ) where
  wanted-1 : 0xC0 ≤ b1 → wanted b3 b2 b1 ≡ asked b1
  unfolding wanted
  wanted-1 h = simp (le-leb 0xC0 b1 h)

  wanted-2 : b1 < 0xC0 → 0xE0 ≤ b2 → wanted b3 b2 b1 ≡ drop 1 (asked b2)
  unfolding wanted
  wanted-2 h k = simp (lt-leb 0xC0 b1 h, le-leb 0xE0 b2 k)

  wanted-3 : b1 < 0xC0 → b2 < 0xE0 → 0xF0 ≤ b3 → wanted b3 b2 b1 ≡ drop 2 (asked b3)
  unfolding wanted
  wanted-3 h k l = simp (lt-leb 0xC0 b1 h, lt-leb 0xE0 b2 k, le-leb 0xF0 b3 l)

  wanted-none : b1 < 0xC0 → b2 < 0xE0 → b3 < 0xF0 → wanted b3 b2 b1 ≡ []
  unfolding wanted
  wanted-none h k l = simp (lt-leb 0xC0 b1 h, lt-leb 0xE0 b2 k, lt-leb 0xF0 b3 l)

module _ (b3 b2 b1 : ℕ) where
  -- a byte where a character is pending: the next column is left behind
  step-pending : (b : ℕ) (s : List ℕ) (r : List Bytes) → pending b3 b2 b1 ≡ true → wanted b3 b2 b1 ≡ second b1 ∷ r → (b < 0xC0 → r ≡ wanted b2 b1 b) → formed (wanted b3 b2 b1) (b ∷ s) ≡ (not (invalid b3 b2 b1 b) && formed (wanted b2 b1 b) s)
  unfolding formed
  step-pending b s r p e f =
      rw (e, valid-pending b3 b2 b1 b p)
      (and-cong (within (second b1) b) (formed r s) (formed (wanted b2 b1 b) s)
      (λ w. ap (λ (x : List Bytes). formed x s) (f (continues-high b (second-continues b1 b w)))))

  -- a byte where none is pending
  step-none : (b : ℕ) (s : List ℕ) → b1 < 0xC0 → b2 < 0xE0 → b3 < 0xF0 → formed (wanted b3 b2 b1) (b ∷ s) ≡ (not (invalid b3 b2 b1 b) && formed (wanted b2 b1 b) s)
  unfolding formed invalid xor never within
  step-none b s h k l =
      rw (wanted-none b3 b2 b1 h k l, pending-none b3 b2 b1 h k l, second-trail b1 (omega arith))
      (le-or-lt 0xC2 b
      (λ lead. le-or-lt 0xF5 b
      (λ top. simp (announced-past b top, le-leb 0xF5 b top, le-ltb b 0xC2 lead, le-leb 0x80 b (omega arith), lt-leb b 0xBF (omega arith), le-leb 0xC0 b (omega arith)))
      (λ low. simp (announced-lead b lead low, le-ltb b 0xC2 lead, le-leb 0x80 b (omega arith), lt-leb b 0xBF (omega arith), le-leb 0xC0 b (omega arith), lt-leb 0xF5 b low, wanted-1 b2 b1 b (omega arith))))
      (λ small. le-or-lt 0x80 b
      (λ trails. le-or-lt 0xC0 b
      (λ lead. simp (announced-none b trails small, lt-ltb b 0xC2 small, le-leb 0x80 b trails, lt-leb b 0xBF (omega arith), le-leb 0xC0 b lead))
      (λ low. simp (announced-none b trails small, lt-ltb b 0xC2 small, le-leb 0x80 b trails, le-leb b 0xBF (omega arith))))
      (λ ascii. simp (announced-one b ascii, asked-one b ascii, lt-leb 0x80 b ascii, lt-leb 0xC0 b (omega arith), lt-leb 0xF5 b (omega arith), wanted-none b2 b1 b (omega arith) (omega arith) (omega arith)))))

-- either a character is pending, and its next column is the one that b1 leaves, or none is
module _ (b3 b2 b1 : ℕ) (h : History b3 b2 b1) {P : Type 0} where
  shape : ((r : List Bytes) → pending b3 b2 b1 ≡ true → wanted b3 b2 b1 ≡ second b1 ∷ r → ((b : ℕ) → b < 0xC0 → r ≡ wanted b2 b1 b) → P) → (b1 < 0xC0 → b2 < 0xE0 → b3 < 0xF0 → P) → P
  shape f g =
      le-or-lt 0xC0 b1
      (λ one. let lead = h.lead1 one in let p = pending-1 b3 b2 b1 one in let w = wanted-1 b3 b2 b1 one in le-or-lt 0xE0 b1
      (λ more. le-or-lt 0xF0 b1
      (λ four. let a = asked-four b1 four lead.1 in f (trail ∷ trail ∷ []) p (w ∙ a) (λ b low. rw (wanted-2 b2 b1 b low more, a)))
      (λ three. let a = asked-three b1 more three in f (trail ∷ []) p (w ∙ a) (λ b low. rw (wanted-2 b2 b1 b low more, a))))
      (λ two. f [] p (w ∙ asked-two b1 lead.0 two) (λ b low. sym (wanted-none b2 b1 b low two (le-or-lt 0xF0 b2 (λ big. absurd (let no = h.lead2 (omega arith) in omega arith)) (λ ok. ok))))))
      (λ none1. let plain = second-trail b1 (omega arith) in le-or-lt 0xE0 b2
      (λ two. let lead = h.lead2 two in let p = pending-2 b3 b2 b1 none1 two in let w = wanted-2 b3 b2 b1 none1 two in le-or-lt 0xF0 b2
      (λ four. let a = asked-four b2 four lead.1 in f (trail ∷ []) p (rw (w, a, plain)) (λ b low. rw (wanted-3 b2 b1 b low (omega arith) four, a)))
      (λ three. f [] p (rw (w, asked-three b2 two three, plain)) (λ b low. sym (wanted-none b2 b1 b low (omega arith) three))))
      (λ none2. le-or-lt 0xF0 b3
      (λ three. f [] (pending-3 b3 b2 b1 none1 none2 three) (rw (wanted-3 b3 b2 b1 none1 none2 three, asked-four b3 three (h.lead3 three), plain)) (λ b low. sym (wanted-none b2 b1 b low (omega arith) (omega arith))))
      (λ none3. g none1 none2 none3)))

-- one more byte: what is asked after it, and that it can stand there
step : (b3 b2 b1 b : ℕ) (s : List ℕ) → History b3 b2 b1 → formed (wanted b3 b2 b1) (b ∷ s) ≡ (not (invalid b3 b2 b1 b) && formed (wanted b2 b1 b) s)
step b3 b2 b1 b s h = shape b3 b2 b1 h (λ r p e f. step-pending b3 b2 b1 b s r p e (f b)) (step-none b3 b2 b1 b s)

-- the end of the text: no character may be pending
within-zero : (a : ℕ) → within (second a) 0 ≡ false
within-zero a = true-or-false (within (second a) 0) (λ e. absurd (omega (arith, continues-low 0 (second-continues a 0 e)))) (λ e. e)

ending : (b3 b2 b1 : ℕ) → History b3 b2 b1 → formed (wanted b3 b2 b1) [] ≡ every_below 3 (λ i. valid (drop i (b3 ∷ b2 ∷ b1 ∷ [])))
unfolding formed every_below valid
ending b3 b2 b1 h =
    shape b3 b2 b1 h
    (λ r p e f. rw (e, valid-pending b3 b2 b1 0 p, within-zero b1))
    (λ n1 n2 n3. rw (wanted-none b3 b2 b1 n1 n2 n3, valid-ascii b3 b2 b1 0 n1 n2 n3 (omega arith), valid-ascii b2 b1 0 0 (omega arith) (omega arith) (omega arith) (omega arith), valid-ascii b1 0 0 0 (omega arith) (omega arith) (omega arith) (omega arith)))

history : (b3 b2 b1 b : ℕ) → History b3 b2 b1 → invalid b3 b2 b1 b ≡ false → History b2 b1 b
history b3 b2 b1 b h e =
    record {
      lead1 = never-lead b (invalid-never b3 b2 b1 b e);
      lead2 = λ more. (continues-high b (second-continues b1 b (sym (valid-pending b3 b2 b1 b (pending-1 b3 b2 b1 (omega arith))) ∙ ap not e)), (h.lead1 (omega arith)).1);
      lead3 = λ most. (h.lead2 (omega arith)).1;
    }

-- the columns asked after three bytes are met exactly when every byte from there on can stand where it does
wanted-valid : (b3 b2 b1 : ℕ) (s : List ℕ) → History b3 b2 b1 → formed (wanted b3 b2 b1) s ≡ every_below (length s + 3) (λ i. valid (drop i (b3 ∷ b2 ∷ b1 ∷ s)))
unfolding valid
wanted-valid b3 b2 b1 [] h = ending b3 b2 b1 h
wanted-valid b3 b2 b1 (b ∷ s) h =
    rw (step b3 b2 b1 b s h, suc-add (length s) 3, every-cons (length s + 3) (λ i. valid (drop i (b3 ∷ b2 ∷ b1 ∷ b ∷ s))))
    (and-cong (not (invalid b3 b2 b1 b)) (formed (wanted b2 b1 b) s) (every_below (length s + 3) (λ i. valid (drop i (b2 ∷ b1 ∷ b ∷ s))))
    (λ e. wanted-valid b2 b1 b s (history b3 b2 b1 b h (not-true (invalid b3 b2 b1 b) e))))

pub formed-valid : FormedValid
unfolding valid_at
formed-valid s =
    ap (λ (r : List Bytes). formed r s) (sym (wanted-none 0 0 0 (omega arith) (omega arith) (omega arith)))
    ∙ wanted-valid 0 0 0 s (record { lead1 = λ k. absurd (omega arith); lead2 = λ k. absurd (omega arith); lead3 = λ k. absurd (omega arith) })
