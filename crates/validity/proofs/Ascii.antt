-- Laws of `ascii`: the largest byte tells it, part by part; a text that is ASCII is well-formed.
use Prim.Native.Nat.{ℕ, ◌+◌, ◌-◌, ◌≤◌, ◌<◌, max}
use mathlib.Core.Path.{◌≡◌, ◌∙◌, ap, refl, sym}
use mathlib.Core.Bool.{Bool, true, false, ◌&&◌}
use mathlib.Core.List.{List, [], ◌∷◌}
use borrow.Author.Tests.{lt-ltb, le-ltb, ltb-true}
use native.Mathlib.Omega.{arith}
use lib.Dec.{ltb}
use lib.ListN.{length, get_or, take, drop, length-drop}
use lib.Seq.{drop-drop, take-length}
use Rattle.buffers.specs.Every.{every_below}
use Rattle.buffers.specs.Splice.{part}
use Rattle.buffers.proofs.Cases.{le-or-lt}
use Rattle.buffers.proofs.Every.{every-cons, every-at}
use Rattle.utf8.specs.Formed.{formed, well_formed}
use Rattle.utf8.proofs.Formed.{announced-one, asked-one}
use Rattle.validity_blocks.specs.Extremes.{largest}
use Rattle.validity_blocks.proofs.Largest.{largest-parts}
use Rattle.validity.specs.Texts.{ascii, AsciiFormed}

max-below : (a b n : ℕ) → ltb (max a b) n ≡ (ltb a n && ltb b n)
max-below a b n =
    le-or-lt n a
    (λ high. rw (le-ltb a n high) (le-ltb (max a b) n (omega arith)))
    (λ low. rw (lt-ltb a n low) (le-or-lt n b
    (λ high. le-ltb (max a b) n (omega arith) ∙ sym (le-ltb b n high))
    (λ low2. lt-ltb (max a b) n (omega arith) ∙ sym (lt-ltb b n low2))))

largest-ascii : (s : List ℕ) → ltb (largest s) 0x80 ≡ ascii s
unfolding largest ascii every_below
largest-ascii [] = refl
largest-ascii (b ∷ s) =
    max-below b (largest s) 0x80
    ∙ ap (λ (r : Bool). ltb b 0x80 && r) (largest-ascii s)
    ∙ sym (every-cons (length s) (λ i. ltb (get_or (b ∷ s) i 0) 0x80))

-- the loop: the first i bytes are below 80, so that what is left tells what the text does
pub record AsciiSoFar (s : List ℕ) (i : ℕ) : Type 0 where
  pub most : i ≤ length s
  pub rest : ltb (largest (drop i s)) 0x80 ≡ ascii s

pub ascii-none : {s : List ℕ} → AsciiSoFar s 0
ascii-none {s} = record { most = omega arith; rest = largest-ascii s }

-- m is the largest of the n bytes from i on
module _ {s : List ℕ} {i m : ℕ} (n : ℕ) (k : AsciiSoFar s i) (h : i + n ≤ length s) (here : m ≡ largest (part s i (i + n))) where
  ascii-parts : ascii s ≡ (ltb m 0x80 && ltb (largest (drop (i + n) s)) 0x80)
  ascii-parts =
      let size : i + n - i ≡ n = omega arith in
      let part-here = rw size at here in
      sym k.rest
      ∙ ap (λ (b : ℕ). ltb b 0x80) (sym (largest-parts n (drop i s)))
      ∙ max-below (largest (take n (drop i s))) (largest (drop n (drop i s))) 0x80
      ∙ rw (part-here, drop-drop n i s)

  pub ascii_more : m < 0x80 → AsciiSoFar s (i + n)
  ascii_more low = record { most = h; rest = sym (ascii-parts ∙ rw (lt-ltb m 0x80 low)) }

  pub ascii-not : 0x80 ≤ m → ascii s ≡ false
  ascii-not high = ascii-parts ∙ rw (le-ltb m 0x80 high)

pub ascii-done : {s : List ℕ} {i m : ℕ} → AsciiSoFar s i → m ≡ largest (part s i (length s)) → ltb m 0x80 ≡ ascii s
ascii-done {s} {i} k here =
    let rest = rw (← length-drop i s, take-length (drop i s)) at here in ap (λ (b : ℕ). ltb b 0x80) rest ∙ k.rest

pub ascii-at : (s : List ℕ) → ascii s ≡ true → (i : ℕ) → i < length s → get_or s i 0 < 0x80
unfolding ascii
ascii-at s e i h = ltb-true (get_or s i 0) 0x80 (every-at (length s) (λ j. ltb (get_or s j 0) 0x80) e i h)

low-formed : (s : List ℕ) → largest s < 0x80 → well_formed s ≡ true
unfolding largest formed
low-formed [] h = refl
low-formed (b ∷ s) h = rw (announced-one b (omega arith), asked-one b (omega arith)) (low-formed s (omega arith))

pub ascii-formed : AsciiFormed
ascii-formed s e = low-formed s (ltb-true (largest s) 0x80 (largest-ascii s ∙ e))
