-- Laws of `shaped`: where the lines of an input are in what is kept of it.
use Prim.Native.Nat.{ℕ, ◌+◌, ◌-◌, ◌≤◌}
use mathlib.Core.Path.{◌≡◌, ◌∙◌, ap, refl, sym}
use mathlib.Core.Bool.{true, ◌&&◌}
use mathlib.Core.List.{List, [], ◌∷◌, ◌++◌, append_assoc}
use mathlib.Mathlib.Data.Bool.Basic.{and_elim_left, and_elim_right}
use native.Mathlib.Omega.{arith}
use lib.Dec.{eqb}
use lib.ListN.{length, get_or, take, length-append}
use lib.Seq.{take_all, take_at, drop_at}
use Rattle.buffers.specs.Splice.{part}
use borrow.Author.Tests.{eqb-true}
use Rattle.piece_lines.specs.declared.input.Seen.{Seen}
use Rattle.piece_lines.specs.Input.{runs, joined_lines, line_at, literal_of, note_of, behavior_line, shaped, longest}
use Rattle.piece_lines.specs.Scanning.{head_size, HeadKept}
use Rattle.piece_lines.proofs.Runs.{runs-joined}

-- the runs of three lines
record Three (ls : List (List ℕ)) : Type 0 where
  literal : List ℕ
  digit : ℕ
  note : List ℕ
  is : ls ≡ literal ∷ (digit ∷ []) ∷ note ∷ [] ∷ []

three : (ls : List (List ℕ)) → length ls ≡ 4 → length (get_or ls 3 []) ≡ 0 → length (get_or ls 1 []) ≡ 1 → Three ls
three [] h e b = absurd (omega arith)
three (k ∷ []) h e b = absurd (omega arith)
three (k ∷ l ∷ []) h e b = absurd (omega arith)
three (k ∷ l ∷ m ∷ []) h e b = absurd (omega arith)
three (k ∷ [] ∷ m ∷ n ∷ ls) h e b = absurd (omega arith)
three (k ∷ (x ∷ y ∷ l) ∷ m ∷ n ∷ ls) h e b = absurd (omega arith)
three (k ∷ (x ∷ []) ∷ m ∷ (y ∷ n) ∷ ls) h e b = absurd (omega arith)
three (k ∷ (x ∷ []) ∷ m ∷ [] ∷ n ∷ ls) h e b = absurd (omega arith)
three (k ∷ (x ∷ []) ∷ m ∷ [] ∷ []) h e b = record { literal = k; digit = x; note = m; is = refl }

shaped-three : (input : List ℕ) → shaped input ≡ true → Three (runs input)
unfolding shaped line_at
shaped-three input t =
    let count = eqb (length (runs input)) 4 in
    let end = eqb (length (get_or (runs input) 3 [])) 0 in
    let one = eqb (length (get_or (runs input) 1 [])) 1 in
    let front = and_elim_left (count && end && one) _ t in
    let both = and_elim_left (count && end) one front in
    three (runs input) (eqb-true _ 4 (and_elim_left count end both)) (eqb-true _ 0 (and_elim_right count end both)) (eqb-true _ 1 (and_elim_right (count && end) one front))

joined-three : (a : List ℕ) (x : ℕ) (c : List ℕ) → a ++ (0x0A ∷ x ∷ 0x0A ∷ []) ++ c ++ (0x0A ∷ []) ≡ joined_lines (a ∷ (x ∷ []) ∷ c ∷ [] ∷ [])
unfolding joined_lines
joined-three a x c =
    append_assoc (a ++ (0x0A ∷ x ∷ 0x0A ∷ [])) c (0x0A ∷ []) ∙ append_assoc a (0x0A ∷ x ∷ 0x0A ∷ []) (c ++ (0x0A ∷ []))

-- the input up to its note
abbrev front : List ℕ → List ℕ
front input = literal_of input ++ (0x0A ∷ get_or (behavior_line input) 0 0 ∷ 0x0A ∷ [])

input-is : (input : List ℕ) → shaped input ≡ true → front input ++ note_of input ++ (0x0A ∷ []) ≡ input
unfolding line_at
input-is input t =
    let r = shaped-three input t in
    rw r.is (joined-three r.literal r.digit r.note ∙ sym (ap joined_lines r.is) ∙ runs-joined input)

length_front : (input : List ℕ) → length (front input) ≡ length (literal_of input) + 3
length_front input = length-append (literal_of input) _

first_part : (a m c e : List ℕ) {s : List ℕ} → a ++ m ++ c ++ e ≡ s → take (length a) s ≡ a
first_part a m c e is = rw (← is, append_assoc (a ++ m) c e, append_assoc a m (c ++ e)) (take_at a (m ++ (c ++ e)) (length a) refl)

third-part : (a c e : List ℕ) {s : List ℕ} {from to : ℕ} → a ++ c ++ e ≡ s → from ≡ length a → to ≡ from + length c → part s from to ≡ c
third-part a c e {from = from} {to = to} is f g =
    let size : to - from ≡ length c = omega arith in
    rw (← is, size, append_assoc a c e, drop_at a (c ++ e) from (sym f)) (take_at c e (length c) refl)

-- three lines that are not too long are kept whole
module _ {input head : List ℕ} {seen : Seen} (k : HeadKept input head seen) (t : shaped input ≡ true) (short : length (literal_of input) ≤ longest) (brief : length (note_of input) ≤ longest) where
  all : front input ++ note_of input ++ (0x0A ∷ []) ≡ input
  all = input-is input t

  long : length input ≡ length (literal_of input) + 3 + length (note_of input) + 1
  long =
      ap length (sym all)
      ∙ omega (arith, length-append (front input ++ note_of input) (0x0A ∷ []), length-append (front input) (note_of input), length_front input)

  head-whole : head ≡ input
  head-whole = k.head_is ∙ take_all head_size input (omega (arith, long))

  pub head-long : length head ≡ length (literal_of input) + 3 + length (note_of input) + 1
  head-long = ap length head-whole ∙ long

  pub literal-there : take (length (literal_of input)) head ≡ literal_of input
  literal-there =
      ap (take (length (literal_of input))) head-whole ∙ first_part (literal_of input) _ (note_of input) (0x0A ∷ []) all

  pub note-there : {from to : ℕ} → from ≡ length (literal_of input) + 3 → to ≡ from + length (note_of input) → part head from to ≡ note_of input
  note-there {from} {to} e f =
      rw head-whole (third-part (front input) (note_of input) (0x0A ∷ []) all (e ∙ sym (length_front input)) f)
