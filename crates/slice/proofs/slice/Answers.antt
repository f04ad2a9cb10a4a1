-- A refusal comes before the first store; past it there is room, and no number is below the base.
use native.Mathlib.Omega.{arith}
use Rattle.buffers.proofs.Cases.{passed-on}
use Rattle.note.specs.Notes.{limit, passed}
use Rattle.slice.proofs.Judged.{Ready, refused, ready, written}
use Rattle.slice.proofs.slice.Goals as goal
use Rattle.slice.proofs.slice.Goals.{In_ok-s}

-- where the cut is known its columns can be written
cuttable : (c : In_ok-s) → Ready limit (passed c.args.note.now) c.in_ok-s.s c.args.out_starts.now c.args.out_ends.now
cuttable c = ready limit _ _ _ _ c.least_of_two-room.ensures c.check_slice.ensures c.in_ok-s.was

pub slice_bounds-write_lowered-count : goal.slice_bounds-write_lowered-count
slice_bounds-write_lowered-count c = (cuttable (goal.at.slice_bounds-write_lowered-count c).In_ok-s).forward

pub slice_bounds-write_lowered-start : goal.slice_bounds-write_lowered-start
slice_bounds-write_lowered-start c = (cuttable (goal.at.slice_bounds-write_lowered-start c).In_ok-s).forward

pub slice_bounds-write_lowered-end : goal.slice_bounds-write_lowered-end
slice_bounds-write_lowered-end c = (cuttable (goal.at.slice_bounds-write_lowered-end c).In_ok-s).in_starts

pub overflow_cast-base : goal.overflow_cast-base
overflow_cast-base c = omega (arith, (cuttable (goal.at.overflow_cast-base c).In_ok-s).low)

pub write_lowered-requires : goal.write_lowered-requires
write_lowered-requires c = (cuttable (goal.at.write_lowered-requires c).In_ok-s).starts_lowerable

pub slice_bounds-write_lowered-count-2 : goal.slice_bounds-write_lowered-count-2
slice_bounds-write_lowered-count-2 c = (cuttable (goal.at.slice_bounds-write_lowered-count-2 c).In_ok-s).forward

pub slice_bounds-write_lowered-start-2 : goal.slice_bounds-write_lowered-start-2
slice_bounds-write_lowered-start-2 c = (cuttable (goal.at.slice_bounds-write_lowered-start-2 c).In_ok-s).forward

pub slice_bounds-write_lowered-end-2 : goal.slice_bounds-write_lowered-end-2
slice_bounds-write_lowered-end-2 c = (cuttable (goal.at.slice_bounds-write_lowered-end-2 c).In_ok-s).in_ends

pub overflow_cast-base-2 : goal.overflow_cast-base-2
overflow_cast-base-2 c = omega (arith, (cuttable (goal.at.overflow_cast-base-2 c).In_ok-s).low)

pub write_lowered-requires-2 : goal.write_lowered-requires-2
write_lowered-requires-2 c = (cuttable (goal.at.write_lowered-requires-2 c).In_ok-s).ends_lowerable

pub returns-in_err-s : goal.returns-in_err-s
returns-in_err-s c = rw (passed-on _ c.from_residual.ensures.1) (refused limit _ _ _ _ c.least_of_two-room.ensures c.check_slice.ensures c.in_err-s.was)

pub returns : goal.returns
returns c =
    written limit _ _ _ _ c.least_of_two-room.ensures c.check_slice.ensures c.in_ok-s.was c.write_lowered.ensures c.write_lowered-2.ensures
