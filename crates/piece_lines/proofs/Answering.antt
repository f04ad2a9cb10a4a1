-- Laws of `printed`: what is printed of an input, told from what is kept of it.
use Prim.Native.Nat.{ℕ, ◌+◌, ◌≤◌, ◌<◌}
use mathlib.Core.Path.{◌≡◌, ◌∙◌, ap, refl, sym}
use mathlib.Core.Bool.{true, false, not, or-true}
use mathlib.Core.List.{List, ◌++◌}
use native.Mathlib.Omega.{arith}
use lib.Dec.{leb}
use lib.ListN.{length, get_or, take, length-append, length-take}
use lib.Seq.{length-take-le, take_all}
use borrow.Author.Tests.{lt-leb, ne_eqb}
use Rattle.buffers.specs.Splice.{part, Laid}
use Rattle.note.specs.declared.Refusal.TheVariants.{BadScript, TooLong}
use Rattle.note.specs.declared.Refusal.{Refusal}
use Rattle.note.specs.Refusals.{number_of, verdict}
use Rattle.note.proofs.Numbers.{number_of-small}
use Rattle.buffers.proofs.Splice.{splice-overlay, overlay-long}
use Rattle.numbers.specs.Decimal.{field}
use Rattle.numbers.proofs.Decimal.{field-bounded-5}
use Rattle.behaviors.specs.declared.SplitDelimiterBehavior.{SplitDelimiterBehavior}
use Rattle.behaviors.specs.declared.SplitDelimiterBehavior.TheVariants.{Removed, Isolated, MergedWithPrevious, MergedWithNext, Contiguous}
use Rattle.piece_lines.specs.declared.input.Seen.{Seen}
use Rattle.piece_lines.specs.declared.input.Seen.TheVariants.{Literal, Whole}
use Rattle.piece_lines.specs.Input.{literal_of, behavior_line, note_of, shaped, longest}
use Rattle.piece_lines.specs.Printing.{behavior_of_digit, most, refused_word, refusal, told, printed}
use Rattle.piece_lines.specs.Scanning.{counted, scanned, head_size, HeadKept}
use Rattle.piece_lines.proofs.Scanning.{is_whole, whole-seen, shape-seen}
use Rattle.piece_lines.proofs.Placed.{head-long, literal-there, note-there}

-- what was laid is what is to be printed
pub laid_as : {p q d₀ d : List ℕ} {r : ℕ} → p ≡ q → Laid q d₀ 0 r d → Laid p d₀ 0 r d
laid_as e l = rw e l

-- the digits
pub chosen-first : {d : ℕ} → d ≡ 0x31 → Removed ≡ behavior_of_digit d
unfolding behavior_of_digit
chosen-first e = rw e

pub chosen-second : {d : ℕ} → d ≡ 0x32 → Isolated ≡ behavior_of_digit d
unfolding behavior_of_digit
chosen-second e = rw e

pub chosen-third : {d : ℕ} → d ≡ 0x33 → MergedWithPrevious ≡ behavior_of_digit d
unfolding behavior_of_digit
chosen-third e = rw e

pub chosen-fourth : {d : ℕ} → d ≡ 0x34 → MergedWithNext ≡ behavior_of_digit d
unfolding behavior_of_digit
chosen-fourth e = rw e

pub chosen_last : {d : ℕ} → (d ≡ 0x31 → ⊥) → (d ≡ 0x32 → ⊥) → (d ≡ 0x33 → ⊥) → (d ≡ 0x34 → ⊥) → Contiguous ≡ behavior_of_digit d
unfolding behavior_of_digit
chosen_last {d} a b c e = rw (ne_eqb d 0x31 a, ne_eqb d 0x32 b, ne_eqb d 0x33 c, ne_eqb d 0x34 e)

-- a refusal's line
pub refusal-bounded : (k : Refusal) → length (refusal k) ≤ 14
unfolding refusal
refusal-bounded k = omega (arith, length-append refused_word (field (number_of k) 0x0A), field-bounded-5 (number_of k) 0x0A (omega (arith, number_of-small k)))

pub refusal-room : (k : Refusal) {n room : ℕ} → n ≡ number_of k → most ≤ room → length (refused_word ++ field n 0x0A) ≤ room
unfolding refusal
refusal-room k e h = rw e (omega (arith, refusal-bounded k))

pub refusal-laid : (k : Refusal) {n r : ℕ} {d₀ d : List ℕ} → n ≡ number_of k → Laid (refused_word ++ field n 0x0A) d₀ 0 r d → Laid (refusal k) d₀ 0 r d
unfolding refusal
refusal-laid k e l = rw e at l

module _ {input head : List ℕ} {seen : Seen} (k : HeadKept input head seen) where
  pub shapeless-printed : is_whole seen ≡ false → printed input ≡ refusal BadScript
  unfolding printed
  shapeless-printed f = rw (shape-seen input k.seen_is ∙ f)

  module _ {n d m : ℕ} (is : seen ≡ Whole n d m) where
    is-shaped : shaped input ≡ true
    is-shaped = shape-seen input k.seen_is ∙ ap is_whole is

    shaped-printed : printed input ≡ told (literal_of input) (behavior_of_digit (get_or (behavior_line input) 0 0)) (note_of input)
    unfolding printed
    shaped-printed = rw is-shaped

    lines-seen : Whole n d m ≡ Whole (counted (length (literal_of input))) (get_or (behavior_line input) 0 0) (counted (length (note_of input)))
    lines-seen = sym is ∙ whole-seen input k.seen_is is-shaped

    literal-counted : n ≡ counted (length (literal_of input))
    literal-counted = let e = lines-seen in cc

    digit-seen : d ≡ get_or (behavior_line input) 0 0
    digit-seen = let e = lines-seen in cc

    note-counted : m ≡ counted (length (note_of input))
    note-counted = let e = lines-seen in cc

    pub literal-long : longest < n → printed input ≡ refusal TooLong
    unfolding told verdict
    literal-long h = shaped-printed ∙ rw (lt-leb (length (literal_of input)) longest (omega (arith, literal-counted)))

    pub note-long : longest < m → printed input ≡ refusal TooLong
    unfolding told verdict
    note-long h = shaped-printed ∙ rw (lt-leb (length (note_of input)) longest (omega (arith, note-counted)), or-true (not (leb (length (literal_of input)) longest)))

    module _ (short : n ≤ longest) (brief : m ≤ longest) where
      literal-length : length (literal_of input) ≡ n
      literal-length = omega (arith, literal-counted)

      note-length : length (note_of input) ≡ m
      note-length = omega (arith, note-counted)

      few : length (literal_of input) ≤ longest
      few = omega (arith, literal-length)

      less : length (note_of input) ≤ longest
      less = omega (arith, note-length)

      pub head-enough : length head ≡ n + 3 + m + 1
      head-enough = omega (arith, head-long k is-shaped few less, literal-length, note-length)

      pub literal-sized : n ≡ length (take n head)
      literal-sized = sym (length-take-le n head (omega (arith, head-enough)))

      pub lines-short : (length (take n head) ≤ longest) × (length (part head (n + 3) (n + 3 + m)) ≤ longest)
      lines-short = (omega (arith, literal-sized), simp length-take (omega arith))

      pub cut-printed : {b : SplitDelimiterBehavior} → b ≡ behavior_of_digit d → printed input ≡ told (take n head) b (part head (n + 3) (n + 3 + m))
      cut-printed e =
          let first : take n head ≡ literal_of input = ap (λ (i : ℕ). take i head) (sym literal-length) ∙ literal-there k is-shaped few less in
          let third : part head (n + 3) (n + 3 + m) ≡ note_of input = note-there k is-shaped few less {from = n + 3} {to = n + 3 + m} (omega (arith, literal-length)) (omega (arith, note-length)) in
          rw (first, third, e, digit-seen) shaped-printed

-- an input that is kept, whole or up to its first bytes
pub kept_whole : (input : List ℕ) {seen : Seen} → length input ≤ head_size → seen ≡ scanned (Literal 0) input → HeadKept input input seen
kept_whole input short is = record { head_is = sym (take_all head_size input short); seen_is = is }

pub kept-front : (input : List ℕ) {seen : Seen} → seen ≡ scanned (Literal 0) input → HeadKept input (take head_size input) seen
kept-front input is = record { head_is = refl; seen_is = is }

-- what is printed lies within the buffer
pub printed-within : {p d₀ d : List ℕ} {r : ℕ} → Laid p d₀ 0 r d → r ≤ length d
printed-within {p} {d₀} l =
    let size = overlay-long p d₀ in
    omega (arith, l.reach, size, ap length (l.holds ∙ splice-overlay d₀ p))
