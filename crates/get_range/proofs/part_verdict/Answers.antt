-- The earlier refusal of the two texts, then whether the range can be read in the one that it names.
use Rattle.buffers.proofs.Cases.{passed-on}
use Rattle.get_range.proofs.Parts.{part-refused, part-judged}
use Rattle.get_range.proofs.part_verdict.Goals as goal

pub returns-in_err-earlier : goal.returns-in_err-earlier
returns-in_err-earlier c = rw (passed-on _ c.from_residual.ensures.1) (part-refused _ _ _ _ c.check_text.ensures c.check_text-2.ensures c.earlier.ensures c.in_err-earlier.was)

pub returns : goal.returns
returns c =
    part-judged _ _ _ _ c.check_text.ensures c.check_text-2.ensures c.earlier.ensures
    c.in_ok-earlier.was c.text_of-text.ensures c.start_of.ensures
    c.end_of.ensures c.is_char_range.ensures c.refused_if.ensures
