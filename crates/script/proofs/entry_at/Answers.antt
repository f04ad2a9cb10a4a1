-- Each answer is the definition's, by its case.
use native.Mathlib.Omega.{arith}
use Rattle.script.proofs.Scripts.{width-least, character-read, entry_past, entry-unknown, entry-cut, entry-no-character, entry-removal, entry-command}
use Rattle.script.proofs.entry_at.Goals as goal

pub returns-then-script-i : goal.returns-then-script-i
returns-then-script-i c = entry_past _ _ c.if-script-i.true

pub returns-then-width-eq0 : goal.returns-then-width-eq0
returns-then-width-eq0 c = entry-unknown _ _ c.command_size-width.ensures c.if-width-eq0.true

pub returns-then-script-i-2 : goal.returns-then-script-i-2
returns-then-script-i-2 c = entry-cut _ _ c.command_size-width.ensures (omega arith)

pub get_u32_le-character-requires : goal.get_u32_le-character-requires
get_u32_le-character-requires c = omega (arith, width-least _ c.command_size-width.ensures c.if-width-eq0.false)

pub returns-then-len_utf8-eq0 : goal.returns-then-len_utf8-eq0
returns-then-len_utf8-eq0 c =
    entry-no-character c.args.script.now c.args.i c.command_size-width.ensures (character-read c.args.script.now c.args.i c.get_u32_le-character.ensures) c.len_utf8.ensures c.if-len_utf8-eq0.true

pub returns-then-width-eq7 : goal.returns-then-width-eq7
returns-then-width-eq7 c =
    entry-removal c.args.script.now c.args.i c.command_size-width.ensures
    (character-read c.args.script.now c.args.i c.get_u32_le-character.ensures) c.len_utf8.ensures c.if-len_utf8-eq0.false
    c.if-width-eq0.false (omega arith) c.if-width-eq7.true c.removal_at.ensures

pub returns : goal.returns
returns c =
    entry-command c.args.script.now c.args.i c.command_size-width.ensures (character-read c.args.script.now c.args.i c.get_u32_le-character.ensures) c.len_utf8.ensures c.if-len_utf8-eq0.false c.if-width-eq0.false (omega arith) c.if-width-eq7.false
