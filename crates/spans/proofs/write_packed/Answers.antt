-- Where each place is a piece they are written by index.
use Rattle.spans.proofs.Packing.{room-isolated, laid-isolated}
use Rattle.spans.proofs.write_packed.Goals as goal

pub write_places-requires : goal.write_places-requires
write_places-requires c = room-isolated c.in-Isolated.is c.requires

pub returns-in-Isolated : goal.returns-in-Isolated
returns-in-Isolated c = laid-isolated _ _ c.in-Isolated.is c.write_places.ensures
