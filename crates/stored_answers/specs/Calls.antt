-- The calls by their numbers: a call's number is the place of its name in the file `calls`.
use Rattle.std.specs.Prelude.{ℕ, cond, eqb}
use Rattle.stored_answers.specs.declared.calls.EditCall.{EditCall}
use Rattle.stored_answers.specs.declared.calls.EditCall.TheVariants.{
  Replace,
  Redact,
  TransformRange,
  Transform,
  Map,
  Filter,
  Append,
  Prepend,
  Lowercase,
  ReplaceByEdits,
}
use Rattle.stored_answers.specs.declared.calls.PairsCall.{PairsCall}
use Rattle.stored_answers.specs.declared.calls.PairsCall.TheVariants.{CharOffsetsAll, ConvertAll}
use Rattle.stored_answers.specs.declared.calls.PublishingCall.{PublishingCall}
use Rattle.stored_answers.specs.declared.calls.PublishingCall.TheVariants.{Clear, Edit}

abbrev pub char_offsets_all_number : ℕ
char_offsets_all_number = 3

abbrev pub replace_number : ℕ
replace_number = 10

abbrev pub redact_number : ℕ
redact_number = 14

abbrev pub transform_range_number : ℕ
transform_range_number = 19

abbrev pub transform_number : ℕ
transform_number = 20

abbrev pub map_number : ℕ
map_number = 21

abbrev pub filter_number : ℕ
filter_number = 22

abbrev pub append_number : ℕ
append_number = 23

abbrev pub clear_number : ℕ
clear_number = 25

abbrev pub lowercase_number : ℕ
lowercase_number = 26

abbrev pub replace_by_edits_number : ℕ
replace_by_edits_number = 27

-- char_offsets_all, and convert_all for any other number
abbrev pub pairs_call : ℕ → PairsCall
pairs_call number = cond (eqb number char_offsets_all_number) CharOffsetsAll ConvertAll

-- prepend for any other number
abbrev pub edit_call : ℕ → EditCall
edit_call number =
    cond (eqb number replace_number) Replace
    (cond (eqb number redact_number) Redact
    (cond (eqb number transform_range_number) TransformRange
    (cond (eqb number transform_number) Transform
    (cond (eqb number map_number) Map
    (cond (eqb number filter_number) Filter
    (cond (eqb number append_number) Append
    (cond (eqb number lowercase_number) Lowercase
    (cond (eqb number replace_by_edits_number) ReplaceByEdits Prepend))))))))

abbrev pub publishing_call : ℕ → PublishingCall
publishing_call number = cond (eqb number clear_number) Clear (Edit (edit_call number))
