-- What is before the candidate is the front of the block.
use Prim.Native.Nat.{ℕ}
use mathlib.Core.Path.{◌≡◌, refl}
use mathlib.Core.List.{List}
use native.Mathlib.Omega.{arith}
use Rattle.find.proofs.Candidates.{Candidate, first-candidate, absent_none, absent-block}
use Rattle.redact_blocks.proofs.Keeping.{stretch-front}
use Rattle.redact_blocks.proofs.Blanks.{passed_none}
use Rattle.redact_blocks.proofs.lay_ahead.Goals as goal

-- a candidate by the literal's ends
by-ends : {a b : List ℕ} {first last f l n r : ℕ} → first ≡ f → last ≡ l → Candidate a b first last n r → Candidate a b f l n r
by-ends p q k = rw (p, q) at k

pub returns-then-k-eq0 : goal.returns-then-k-eq0
returns-then-k-eq0 c = passed_none (omega (arith, c.requires.high))

pub lay_block-requires : goal.lay_block-requires
lay_block-requires c =
    record { stretch_room = (c.requires.room, (c.requires.low, omega (arith, c.requires.high, c.requires.some))); text_bound = c.requires.most_is }

pub returns : goal.returns
returns c =
    let r = c.requires in
    let found = first-candidate c.first_candidate-k.ensures in
    record {
      most = found.most;
      away = absent-block _ _ _ r.some refl refl _ (absent_none (omega (arith, r.high))) (by-ends r.first_is r.last_is found) found.most (omega arith) (omega (arith, r.high, found.most));
      stretch = stretch-front _ found.most r.room c.lay_block.ensures;
    }
