use Rattle.code_point_blocks.proofs.Texts.{one_word, all_words}
use Rattle.code_point_blocks.proofs.lay_text_block.Goals as goal

pub loop-word-preserved : goal.loop-word-preserved
loop-word-preserved c =
    one_word c.requires.0 c.requires.1 c.loop-word.invariant c.loop-word-test.true c.pack.ensures c.put_u32_le.ensures

pub returns : goal.returns
returns c = all_words c.requires.0 c.loop-word.invariant c.loop-word-test.false
