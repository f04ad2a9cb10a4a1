-- By how much longer or shorter the text became, or match by match.
use Rattle.redact.proofs.Resized.{longer, longer-count, shorter, shorter-count}
use Rattle.redact.proofs.match_count.Goals as goal

pub overflow_sub-result : goal.overflow_sub-result
overflow_sub-result c = longer c.requires c.if-literal_len-content_len.true

pub returns-then-literal_len-content_len : goal.returns-then-literal_len-content_len
returns-then-literal_len-content_len c = longer-count c.requires c.if-literal_len-content_len.true

pub overflow_sub-result-then-content_len-literal_len : goal.overflow_sub-result-then-content_len-literal_len
overflow_sub-result-then-content_len-literal_len c = shorter c.requires c.if-content_len-literal_len.true

pub returns-then-content_len-literal_len : goal.returns-then-content_len-literal_len
returns-then-content_len-literal_len c = shorter-count c.requires c.if-content_len-literal_len.true
