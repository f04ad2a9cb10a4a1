-- The first text that is not well-formed; the same text is judged once.
use mathlib.Core.Path.{ap}
use mathlib.Core.Bool.{not}
use Rattle.checks.proofs.Lengths.{texts-ill-formed, texts-same, texts-both}
use Rattle.checks.proofs.texts_formed.Goals as goal

pub returns-then-not-formed : goal.returns-then-not-formed
returns-then-not-formed c = texts-ill-formed _ _ c.formed.ensures (ap not c.if-not-formed.true)

pub returns-then-same : goal.returns-then-same
returns-then-same c =
    texts-same _ _ c.formed.ensures (ap not c.if-not-formed.false) (c.requires.original_value c.if-same.true)

pub returns : goal.returns
returns c = texts-both _ _ c.formed.ensures (ap not c.if-not-formed.false) c.well_formed-2.ensures
