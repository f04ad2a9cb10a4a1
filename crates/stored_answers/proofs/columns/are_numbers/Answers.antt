-- The field's column, beside the one that was passed.
use Prim.Native.Nat.{ℕ, ◌^◌}
use lib.ListN.{length-replicate}
use Rattle.stored_answers.proofs.Differences.{same-column}
use Rattle.stored_answers.proofs.columns.are_numbers.Goals as goal

pub returns : goal.returns
returns c =
    same-column (256 ^ 4) 256 c.args.column.now _ c.same.ensures c.numbers-n.ensures.laid (length-replicate {0} {A = ℕ} 256 0)
