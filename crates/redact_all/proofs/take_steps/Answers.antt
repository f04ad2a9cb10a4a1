-- The note is copied to where the steps are taken.
use native.Mathlib.Omega.{arith}
use Rattle.redact_all.proofs.Entry.{checked-short, checked-starts, checked-ends, copied-ready, copied-taken}
use Rattle.redact_all.proofs.take_steps.Goals as goal

pub copy-requires : goal.copy-requires
copy-requires c = let pre = c.requires in omega (arith, checked-short pre.0, pre.1.text_long)

pub copy-requires-2 : goal.copy-requires-2
copy-requires-2 c = let pre = c.requires in omega (arith, checked-short pre.0, checked-starts pre.0, pre.1.starts_long)

pub copy-requires-3 : goal.copy-requires-3
copy-requires-3 c = let pre = c.requires in omega (arith, checked-short pre.0, checked-ends pre.0, pre.1.ends_long)

pub blank_pairs-requires : goal.blank_pairs-requires
blank_pairs-requires c =
    copied-ready c.requires.0 c.requires.1 c.copy.ensures c.copy-2.ensures c.copy-3.ensures

pub returns : goal.returns
returns c =
    copied-taken c.requires.0 c.requires.1 c.copy.ensures c.copy-2.ensures c.copy-3.ensures _ _ _ _ _ c.blank_pairs.ensures
