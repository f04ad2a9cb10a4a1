use native.Mathlib.Omega.{arith}
use Rattle.redact_note.proofs.MatchCount.{none-counted, match-within, count_small, next-counted, next-onward}
use Rattle.redact_note.proofs.count_matches.Goals as goal

pub loop-p-init : goal.loop-p-init
loop-p-init c = none-counted c.requires.1

pub overflow_add-count : goal.overflow_add-count
overflow_add-count c = omega (arith, count_small c.loop-p.invariant c.loop-p-test.true)

pub overflow_add-p : goal.overflow_add-p
overflow_add-p c = omega (arith, (match-within c.loop-p.invariant c.loop-p-test.true).1)

pub next_match-p-requires : goal.next_match-p-requires
next_match-p-requires c = match-within c.loop-p.invariant c.loop-p-test.true

pub loop-p-smaller : goal.loop-p-smaller
loop-p-smaller c = omega (arith, next-onward c.loop-p.invariant c.loop-p-test.true c.next_match-p.ensures)

pub loop-p-preserved : goal.loop-p-preserved
loop-p-preserved c = next-counted c.loop-p.invariant c.loop-p-test.true c.next_match-p.ensures

pub returns : goal.returns
returns c = c.loop-p.invariant.done c.loop-p-test.false
