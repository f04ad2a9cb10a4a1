-- The claims about chains: a step of two notes by `blanking`, and notes that are alike stay so.
use Prim.Native.Nat.{ℕ}
use mathlib.Core.Path.{◌≡◌, ◌∙◌, ap, refl}
use mathlib.Core.Logic.{inl, inr, ⊎_elim}
use mathlib.Core.List.{List, [], ◌∷◌}
use Rattle.note.specs.Notes.{Note}
use lib.ListN.{length}
use Rattle.pattern.specs.Entries.{places_of}
use Rattle.find.specs.Finding.{found_bytes}
use Rattle.replace.specs.Replacing.{laid, carried, replaced}
use Rattle.replace.specs.Blanking.{Equal, Agree, published}
use Rattle.replace.proofs.Blanking.{published-is, blanking}
use Rattle.redact_note.specs.Chain.{Step, left_by, StepCall, Chain, Alike, AgreeOnce, ChainBlanking, Pair, step_of, steps_of, HiddenStays}

-- a call leaves what the definition makes of the note
call-left : {most : ℕ} {n : Note} {s : Step} {left : Note} → StepCall most n s left → left ≡ left_by s n
call-left {n = n} {s = s} {left = left} c =
    let e = published-is c.replacing in
    c.leaves ∙ (λ i. record { original = n.original; normalized = e.same_text i; starts = e.same_starts i; ends = e.same_ends i; original_shift = n.original_shift })

-- one step of two notes
module _ {most : ℕ} {n m nʹ mʹ : Note} {s : Step} (c : StepCall most n s nʹ) (d : StepCall most m s mʹ) where
  both_ways :
      (Equal (published c.size c.out c.starts c.ends) (published d.size d.out d.starts d.ends)
      → Agree n m (places_of s.list) s.content)
      × (Agree n m (places_of s.list) s.content
      → Equal (published c.size c.out c.starts c.ends) (published d.size d.out d.starts d.ends))
  both_ways = blanking most n m s.list s.content c.size d.size _ _ _ _ _ _ _ _ _ _ _ _ c.replacing d.replacing

  alike-agree : Alike nʹ mʹ → Agree n m (places_of s.list) s.content
  alike-agree e = both_ways.0 (rw (c.leaves, d.leaves) at e)

  agree-alike : Agree n m (places_of s.list) s.content → Alike nʹ mʹ
  agree-alike a = rw (c.leaves, d.leaves) (both_ways.1 a)

-- notes that are alike stay so, step by step
replaced-alike : (s : Step) (n m : Note) → Alike n m → Alike (left_by s n) (left_by s m)
unfolding replaced
replaced-alike s n m e =
    record {
      same_text = ap (laid (λ end. s.content) (places_of s.list)) e.same_text;
      same_starts = ap (λ (xs : List ℕ). laid (carried (length s.content) xs) (places_of s.list) xs) e.same_starts;
      same_ends = ap (λ (xs : List ℕ). laid (carried (length s.content) xs) (places_of s.list) xs) e.same_ends;
    }

chain-alike : (most : ℕ) (ss : List Step) (n m nʹ mʹ : Note) → Alike n m → Chain most n ss nʹ → Chain most m ss mʹ → Alike nʹ mʹ
unfolding Chain
chain-alike most [] n m nʹ mʹ e c d = rw (c, d) e
chain-alike most (s ∷ ss) n m nʹ mʹ e c d =
    chain-alike most ss c.0 d.0 nʹ mʹ (rw (call-left c.1.0, call-left d.1.0) (replaced-alike s n m e)) c.1.1 d.1.1

-- where they agree once
once-alike : (most : ℕ) (ss : List Step) (n m nʹ mʹ : Note) → AgreeOnce ss n m → Chain most n ss nʹ → Chain most m ss mʹ → Alike nʹ mʹ
unfolding Chain AgreeOnce
once-alike most [] n m nʹ mʹ a c d = absurd a
once-alike most (s ∷ ss) n m nʹ mʹ a c d =
    ⊎_elim
    (λ here. chain-alike most ss c.0 d.0 nʹ mʹ (agree-alike c.1.0 d.1.0 here) c.1.1 d.1.1)
    (λ later. once-alike most ss c.0 d.0 nʹ mʹ (rw (call-left c.1.0, call-left d.1.0) later) c.1.1 d.1.1)
    a

-- before the last step, where what is published at the end is the same
alike-once : (most : ℕ) (n m : Note) (s : Step) (ss : List Step) (nʹ mʹ : Note) → Alike nʹ mʹ → Chain most n (s ∷ ss) nʹ → Chain most m (s ∷ ss) mʹ → AgreeOnce (s ∷ ss) n m
unfolding Chain AgreeOnce
alike-once most n m s [] nʹ mʹ e c d = inl (alike-agree c.1.0 d.1.0 (rw (c.1.1, d.1.1) at e))
alike-once most n m s (t ∷ ss) nʹ mʹ e c d =
    inr (rw (call-left c.1.0, call-left d.1.0) at (alike-once most c.0 d.0 t ss nʹ mʹ e c.1.1 d.1.1))

pub chain-blanking : ChainBlanking
chain-blanking most n m s ss nʹ mʹ c d = (
  (λ e. alike-once most n m s ss nʹ mʹ e c d),
  (λ a. once-alike most (s ∷ ss) n m nʹ mʹ a c d),
)

-- the same literals in notes that are alike
step_same : (p : Pair) (n m : Note) → Alike n m → step_of p n ≡ step_of p m
step_same p n m e = λ i. record { list = found_bytes (e.same_text i) p.literal; content = p.content }

next-alike : (s t : Step) (n m : Note) → s ≡ t → Alike n m → Alike (left_by s n) (left_by t m)
next-alike s t n m same e = rw (← same) (replaced-alike s n m e)

steps-same : (ps : List Pair) (n m : Note) → Alike n m → steps_of ps n ≡ steps_of ps m
unfolding steps_of
steps-same [] n m e = refl
steps-same (p ∷ ps) n m e =
    let here : step_of p n ≡ step_of p m = step_same p n m e in
    λ i. here i ∷ steps-same ps (left_by (step_of p n) n) (left_by (step_of p m) m) (next-alike (step_of p n) (step_of p m) n m here e) i

pub hidden-stays : HiddenStays
hidden-stays most n m ps nʹ mʹ e c d =
    let same : steps_of ps n ≡ steps_of ps m = steps-same ps n m e in
    (same, chain-alike most (steps_of ps n) n m nʹ mʹ e c (rw same d))
