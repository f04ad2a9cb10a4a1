-- Clearing apart, and the answer beside what the case stores.
use Rattle.replayed_edits.proofs.Replaying.{cleared, counted}
use Rattle.replayed_edits.proofs.publishing.published.Goals as goal

pub returns-in-Clear : goal.returns-in-Clear
returns-in-Clear c = cleared c.in-Clear.is c.clear.ensures

pub returns-in-Edit : goal.returns-in-Edit
returns-in-Edit c = counted c.in-Edit.is c.answered-answer.ensures c.is_published.ensures
