-- The contracts of the exported edits: each call below, told in C's numbers.
use Rattle.std.specs.Prelude.{ℕ, List}
use Rattle.note.specs.Notes.{Note}
use Rattle.note.specs.Refusals.{OnThree}
use Rattle.convert.specs.declared.Range.{Range}
use Rattle.transform.specs.Transforming.{TransformCall}
use Rattle.edits.specs.Whole.{AppendCall, ClearCall, FilterCall, MapCall, PrependCall}
use Rattle.lowercase.specs.Lowering.{LowercaseCall}
use Rattle.zulmyren.specs.declared.answers.Written.{Written}
use Rattle.zulmyren.specs.declared.answers.Lengths.{Lengths}
use Rattle.zulmyren.specs.Calls.{cleared_of, written_of}
use Rattle.zulmyren.specs.Promised.{ToldThree}

-- a range, a script, an initial offset
abbrev pub TransformTold : Note → Range → List ℕ → ℕ → OnThree Written
TransformTold n range script offset = ToldThree written_of (TransformCall n range script offset)

-- code points
abbrev pub MapTold : Note → List ℕ → OnThree Written
MapTold n codes = ToldThree written_of (MapCall n codes)

-- flags
abbrev pub FilterTold : Note → List ℕ → OnThree Written
FilterTold n flags = ToldThree written_of (FilterCall n flags)

-- a string
abbrev pub AppendTold : Note → List ℕ → OnThree Written
AppendTold n string = ToldThree written_of (AppendCall n string)

abbrev pub PrependTold : Note → List ℕ → OnThree Written
PrependTold n string = ToldThree written_of (PrependCall n string)

-- nothing; of `clear` the answer has two lengths
abbrev pub LowercaseTold : Note → OnThree Written
LowercaseTold n = ToldThree written_of (LowercaseCall n)

abbrev pub ClearTold : Note → OnThree Lengths
ClearTold n = ToldThree cleared_of (ClearCall n)
