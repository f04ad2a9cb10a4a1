-- The literal, the filler, their sizes.
use native.Mathlib.Omega.{arith}
use lib.ListN.{length-set}
use Rattle.name_lines.proofs.Writing.{literal-long, literal-fits, filler-fits, line-put}
use Rattle.name_lines.proofs.put_line.Goals as goal

pub slice_bounds-copy-end : goal.slice_bounds-copy-end
slice_bounds-copy-end c = literal-long c.requires c.tab_at-tab.ensures

pub copy-requires : goal.copy-requires
copy-requires c = literal-fits c.requires c.tab_at-tab.ensures

pub copy-requires-2 : goal.copy-requires-2
copy-requires-2 c = filler-fits c.requires c.tab_at-tab.ensures c.copy.ensures

pub bounds-sizes-k-2 : goal.bounds-sizes-k-2
bounds-sizes-k-2 c = simp length-set (omega arith)

pub returns : goal.returns
returns c = line-put c.requires c.tab_at-tab.ensures c.copy.ensures c.copy-2.ensures
