-- The earlier of two verdicts, for inputs that are judged apart and answered together.
use Rattle.std.specs.Prelude.{ℕ, suc, Bool, false, cond, List, [], ◌∷◌, eqb, Ok, Err}
use Rattle.note.specs.declared.Refusal.{Refusal}
use Rattle.note.specs.Refusals.{number_of, order, verdict, also, Verdict}

-- how many refusals are judged before this one
abbrev pub rank_in : List Refusal → Refusal → ℕ
rank_in [] k = 0
rank_in (j ∷ js) k = cond (eqb (number_of k) (number_of j)) 0 (suc (rank_in js k))

abbrev pub rank : Refusal → ℕ
rank k = rank_in order k

-- how many refusals are judged up to this one, itself included: where the order is cut after it
abbrev pub up_to : Refusal → ℕ
up_to k = suc (rank k)

-- the one condition that a verdict tells of
abbrev pub says : Verdict → Refusal → Bool
says (Ok tt) k = false
says (Err j) k = eqb (number_of j) (number_of k)

unfoldable pub earlier : Verdict → Verdict → Verdict
earlier v w = verdict (also (says v) (says w))
