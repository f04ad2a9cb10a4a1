-- The character's bytes, and as many times what it carries of each column.
use Rattle.edit_steps.proofs.Given.{command-over}
use Rattle.edit_steps.proofs.laying.lay_command.Goals as goal

pub returns : goal.returns
returns c =
    let put = c.put_character-size.ensures in
    command-over _ _ _ _ put.0 _ put.1 c.carries.ensures c.carries-2.ensures c.fill_over.ensures c.fill_over-2.ensures
