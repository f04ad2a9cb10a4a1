-- What is read of the file fits the buffers.
use Rattle.name_lines.proofs.Pairs.{names-within}
use Rattle.redact_main.proofs.gathering.gather_names.Goals as goal

pub returns : goal.returns
returns c = names-within c.read_names.ensures c.in_ok-read.was
