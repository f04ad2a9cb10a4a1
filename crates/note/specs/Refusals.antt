-- RULES 2: the refusals, the order in which they are judged, and what a refusal leaves. Every call's answer is said
-- with `verdict`.
use Rattle.std.specs.Prelude.{ℕ, min, Bool, false, cond, ◌||◌, List, [], ◌∷◌, eqb, Result, Ok, Err}
use Rattle.buffers.specs.Splice.{overlay}
use Rattle.note.specs.declared.Refusal.{Refusal}
use Rattle.note.specs.declared.Refusal.TheVariants.{
  IllFormed,
  TooLong,
  LengthMismatch,
  Misaligned,
  NotBoundary,
  BadScript,
  Exhausted,
  BadMatches,
  NoRoom,
  Missing,
  CountMismatch,
}

-- a refusal's number
abbrev pub number_of : Refusal → ℕ
number_of IllFormed = 1
number_of TooLong = 2
number_of LengthMismatch = 3
number_of Misaligned = 4
number_of NotBoundary = 5
number_of BadScript = 6
number_of Exhausted = 7
number_of BadMatches = 8
number_of NoRoom = 9
number_of Missing = 10
number_of CountMismatch = 11

-- what is said of an input: it is accepted, or why it is refused
abbrev pub Verdict : Type 0
Verdict = Result (Unit {0}) Refusal

abbrev pub Accepted : Verdict
Accepted = Ok tt

-- a verdict as one number: 0 is accepted
abbrev pub answer_of : Verdict → ℕ
answer_of (Ok tt) = 0
answer_of (Err k) = number_of k

-- the order in which conditions are judged
abbrev pub order : List Refusal
order =
    TooLong ∷ LengthMismatch ∷ IllFormed ∷ Misaligned
    ∷ BadScript ∷ BadMatches ∷ CountMismatch
    ∷ NotBoundary ∷ Missing ∷ Exhausted ∷ NoRoom ∷ []

abbrev pub first_met : List Refusal → (Refusal → Bool) → Verdict
first_met [] conditions = Accepted
first_met (k ∷ ks) conditions = cond (conditions k) (Err k) (first_met ks conditions)

-- what is said of an input, from which refusal conditions it meets: the first met, in that order
unfoldable pub verdict : (Refusal → Bool) → Verdict
verdict conditions = first_met order conditions

-- no condition is met
abbrev pub none : Refusal → Bool
none k = false

-- a condition of one refusal beside others: two conditions of one refusal add up
abbrev pub meets : Refusal → Bool → (Refusal → Bool) → Refusal → Bool
meets k met others j = cond (eqb (number_of k) (number_of j)) (others j || met) (others j)

-- the conditions of two inputs together
abbrev pub also : (Refusal → Bool) → (Refusal → Bool) → Refusal → Bool
also f g k = f k || g k

-- a call's answer: what it has, or how it tells a refusal
abbrev pub unless_refused : {A : Type 0} → (Refusal → A) → Verdict → A → A
unless_refused refused (Ok tt) answer = answer
unless_refused refused (Err k) answer = refused k

-- a contract on three buffers: what they hold before, the answer, and what they hold after
abbrev pub OnThree : Type 0 → Type 1
OnThree R = List ℕ → List ℕ → List ℕ → R → List ℕ → List ℕ → List ℕ → Type 0

-- the room that three buffers have for one size
abbrev pub least : ℕ → ℕ → ℕ → ℕ
least a b c = min a (min b c)

-- a buffer after the call: a refusal leaves it, and beyond the result it keeps its contents
abbrev pub after : Verdict → List ℕ → List ℕ → List ℕ
after (Ok tt) result before = overlay result before
after (Err k) result before = before
