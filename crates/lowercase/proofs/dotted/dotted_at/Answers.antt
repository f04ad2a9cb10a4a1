-- Two comparisons.
use Rattle.lowercase.proofs.Grown.{dotted-is}
use Rattle.lowercase.proofs.dotted.dotted_at.Goals as goal

pub returns : goal.returns
returns c = dotted-is c.args.a c.args.b
