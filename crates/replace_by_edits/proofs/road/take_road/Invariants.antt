-- Each turn edits the place before those that are edited, if it is matched.
use Rattle.replace_by_edits.specs.ByEdits.{scratch}
use Rattle.replace_by_edits.specs.Stepping.{at_first, held_note}
use Rattle.replace_by_edits.proofs.Travelling.{OnRoad}
use Rattle.replace_by_edits.proofs.road.take_road.Given as goal

abbrev pub invariant-loop-k : goal.invariant-loop-k
invariant-loop-k l = OnRoad (held_note (at_first l.len) (scratch l.initial.first l.initial.first_starts l.initial.first_ends) (scratch l.initial.second l.initial.second_starts l.initial.second_ends)) l.list l.content
    (scratch l.initial.first l.initial.first_starts l.initial.first_ends) (scratch l.initial.second l.initial.second_starts l.initial.second_ends) l.held l.k
    (scratch l.first l.first_starts l.first_ends) (scratch l.second l.second_starts l.second_ends)
