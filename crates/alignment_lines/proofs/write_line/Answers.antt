-- One field after the other; after each there is room for those that are left.
use Rattle.alignment_lines.proofs.Lines.{first-room, second-room, third-room, fourth-room, line-laid}
use Rattle.alignment_lines.proofs.write_line.Goals as goal

pub write_field-second-requires : goal.write_field-second-requires
write_field-second-requires c = first-room _ _ _ _ c.args.out.now _ c.requires

pub write_field-third-requires : goal.write_field-third-requires
write_field-third-requires c = second-room _ _ _ _ _ _ c.requires c.write_field-second.ensures

pub write_field-fourth-requires : goal.write_field-fourth-requires
write_field-fourth-requires c = third-room _ _ _ _ _ _ c.requires c.write_field-second.ensures c.write_field-third.ensures

pub write_field-requires : goal.write_field-requires
write_field-requires c =
    fourth-room _ _ _ _ _ _ c.requires c.write_field-second.ensures c.write_field-third.ensures c.write_field-fourth.ensures

pub returns : goal.returns
returns c =
    line-laid _ _ _ _ _ _ c.requires c.write_field-second.ensures c.write_field-third.ensures c.write_field-fourth.ensures c.write_field.ensures
