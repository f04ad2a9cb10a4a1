-- By the call.
use Rattle.replayed_edits.proofs.Replaying.{answers}
use Rattle.replayed_edits.proofs.publishing.answered.Goals as goal

pub returns-in-Replace : goal.returns-in-Replace
returns-in-Replace c = answers c.in-Replace.is c.replace.ensures

pub returns-in-Redact : goal.returns-in-Redact
returns-in-Redact c = answers c.in-Redact.is c.redact.ensures

pub returns-in-TransformRange : goal.returns-in-TransformRange
returns-in-TransformRange c = answers c.in-TransformRange.is c.transform_range.ensures

pub returns-in-Transform : goal.returns-in-Transform
returns-in-Transform c = answers c.in-Transform.is c.transform.ensures

pub returns-in-Map : goal.returns-in-Map
returns-in-Map c = answers c.in-Map.is c.map.ensures

pub returns-in-Filter : goal.returns-in-Filter
returns-in-Filter c = answers c.in-Filter.is c.filter.ensures

pub returns-in-Append : goal.returns-in-Append
returns-in-Append c = answers c.in-Append.is c.append.ensures

pub returns-in-Prepend : goal.returns-in-Prepend
returns-in-Prepend c = answers c.in-Prepend.is c.prepend.ensures

pub returns-in-Lowercase : goal.returns-in-Lowercase
returns-in-Lowercase c = answers c.in-Lowercase.is c.lowercase.ensures

pub returns-in-ReplaceByEdits : goal.returns-in-ReplaceByEdits
returns-in-ReplaceByEdits c = answers c.in-ReplaceByEdits.is c.replace_by_edits.ensures
