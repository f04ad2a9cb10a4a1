-- All lines are judged, then all words are written.
use Rattle.std.proofs.lemmas.Result.{err_from_is_err_and}
use Rattle.name_lines.proofs.Pairs.{writable, names-read, bad-read}
use Rattle.name_lines.proofs.read_names.Goals as goal

pub write_names-requires : goal.write_names-requires
write_names-requires c =
    let pre = c.requires in
    writable c.judge_names.ensures c.in_ok-names.was _ _ pre.0 pre.1 pre.2

pub returns : goal.returns
returns c = rw c.in_ok-names.was at (names-read c.judge_names.ensures c.in_ok-names.was c.write_names.ensures)

pub returns-in_err-names : goal.returns-in_err-names
returns-in_err-names c =
    let p = err_from_is_err_and c.from_residual.result c.from_residual.ensures.1 in
    rw (p.1, p.2) (bad-read c.in_err-names.ensures)
