-- The first of the field's bytes are copied.
use mathlib.Core.Path.{◌≡◌, sym}
use lib.ListN.{length, take}
use lib.Seq.{length-take-le}
use native.Mathlib.Omega.{arith}
use Rattle.stored_answers.proofs.Splice.{first-laid}
use Rattle.stored_answers.proofs.columns.bytes.Goals as goal

pub slice_bounds-copy-end : goal.slice_bounds-copy-end
slice_bounds-copy-end c = sym (length-take-le c.min-n.result c.field-field.result.now (omega arith))

pub copy-requires : goal.copy-requires
copy-requires c =
    let size : length (take c.min-n.result c.field-field.result.now) ≡ c.min-n.result =
    length-take-le c.min-n.result c.field-field.result.now (omega arith) in
    omega arith

pub returns : goal.returns
returns c =
    record { prefix_len = (first-laid _ _ _ _ c.min-n.ensures c.copy.ensures c.field-field.ensures).0; laid = (first-laid _ _ _ _ c.min-n.ensures c.copy.ensures c.field-field.ensures).1 }
