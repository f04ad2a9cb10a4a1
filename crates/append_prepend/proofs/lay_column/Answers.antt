-- One value first, then what stays.
use Rattle.append_prepend.proofs.Joined.{column-laid}
use Rattle.append_prepend.proofs.lay_column.Goals as goal

pub returns : goal.returns
returns c =
    column-laid c.args.front c.args.count c.args.size c.args.column.now c.args.out.now c.fill.ensures c.copy.ensures
