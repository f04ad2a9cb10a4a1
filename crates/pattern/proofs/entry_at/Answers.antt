-- Each answer is the definition's, by its case.
use native.Mathlib.Omega.{arith}
use Rattle.pattern.proofs.Entries.{entry-cut, entry-unknown, entry_place}
use Rattle.pattern.proofs.entry_at.Goals as goal

pub returns-then-list-lt5 : goal.returns-then-list-lt5
returns-then-list-lt5 c = entry-cut _ _ (omega arith)

pub returns-then-list-i : goal.returns-then-list-i
returns-then-list-i c = entry-cut _ _ (omega arith)

pub returns-then-command-lt11 : goal.returns-then-command-lt11
returns-then-command-lt11 c = entry-unknown _ _ (λ is. absurd (omega arith)) (λ is. absurd (omega arith))

pub returns-then-command-gt12 : goal.returns-then-command-gt12
returns-then-command-gt12 c = entry-unknown _ _ (λ is. absurd (omega arith)) (λ is. absurd (omega arith))

pub returns : goal.returns
returns c =
    entry_place _ _ (omega arith) (omega arith) (omega arith) c.position_at-start.ensures c.position_at-end.ensures
