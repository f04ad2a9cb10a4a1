use Rattle.pieces_main.proofs.Chunks.{nothing-behind, chunk-behind, behind-on}
use Rattle.pieces_main.proofs.read_to_end.Goals as goal

pub loop-init : goal.loop-init
loop-init g c = nothing-behind

pub returns-then-n-lt65536 : goal.returns-then-n-lt65536
returns-then-n-lt65536 g c = behind-on c.loop.invariant (chunk-behind _ c.scan-so_far.ensures)

pub loop-preserved : goal.loop-preserved
loop-preserved g c = behind-on c.loop.invariant (chunk-behind _ c.scan-so_far.ensures)
