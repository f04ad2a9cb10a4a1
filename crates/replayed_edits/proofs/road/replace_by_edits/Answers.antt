-- Scratch as long as its fields say, and the case passed.
use Rattle.replayed_edits.proofs.Replaying.{scratch-inside, scratch-cut, scratch-long}
use Rattle.replayed_edits.proofs.road.replace_by_edits.Goals as goal

pub slice_bounds-first-end : goal.slice_bounds-first-end
slice_bounds-first-end c =
    let buffer = c.large_buffer-first in scratch-inside _ 7 buffer.result c.scratch_len-a.ensures buffer.ensures

pub slice_bounds-pass_by_edits-end : goal.slice_bounds-pass_by_edits-end
slice_bounds-pass_by_edits-end c =
    let buffer = c.large_buffer-first in scratch-cut _ 7 buffer.result c.scratch_len-a.ensures buffer.ensures

pub slice_bounds-first_starts-end : goal.slice_bounds-first_starts-end
slice_bounds-first_starts-end c =
    let buffer = c.zeros-first_starts in scratch-inside _ 8 buffer.result c.scratch_len-b.ensures buffer.ensures

pub slice_bounds-pass_by_edits-end-2 : goal.slice_bounds-pass_by_edits-end-2
slice_bounds-pass_by_edits-end-2 c =
    let buffer = c.zeros-first_starts in scratch-cut _ 8 buffer.result c.scratch_len-b.ensures buffer.ensures

pub slice_bounds-first_ends-end : goal.slice_bounds-first_ends-end
slice_bounds-first_ends-end c =
    let buffer = c.zeros-first_ends in scratch-inside _ 9 buffer.result c.scratch_len-c.ensures buffer.ensures

pub slice_bounds-pass_by_edits-end-3 : goal.slice_bounds-pass_by_edits-end-3
slice_bounds-pass_by_edits-end-3 c =
    let buffer = c.zeros-first_ends in scratch-cut _ 9 buffer.result c.scratch_len-c.ensures buffer.ensures

pub slice_bounds-second-end : goal.slice_bounds-second-end
slice_bounds-second-end c =
    let buffer = c.large_buffer-second in scratch-inside _ 10 buffer.result c.scratch_len-d.ensures buffer.ensures

pub slice_bounds-pass_by_edits-end-4 : goal.slice_bounds-pass_by_edits-end-4
slice_bounds-pass_by_edits-end-4 c =
    let buffer = c.large_buffer-second in scratch-cut _ 10 buffer.result c.scratch_len-d.ensures buffer.ensures

pub slice_bounds-second_starts-end : goal.slice_bounds-second_starts-end
slice_bounds-second_starts-end c =
    let buffer = c.zeros-second_starts in scratch-inside _ 11 buffer.result c.scratch_len-e.ensures buffer.ensures

pub slice_bounds-pass_by_edits-end-5 : goal.slice_bounds-pass_by_edits-end-5
slice_bounds-pass_by_edits-end-5 c =
    let buffer = c.zeros-second_starts in scratch-cut _ 11 buffer.result c.scratch_len-e.ensures buffer.ensures

pub slice_bounds-second_ends-end : goal.slice_bounds-second_ends-end
slice_bounds-second_ends-end c =
    let buffer = c.zeros-second_ends in scratch-inside _ 12 buffer.result c.scratch_len-f.ensures buffer.ensures

pub slice_bounds-pass_by_edits-end-6 : goal.slice_bounds-pass_by_edits-end-6
slice_bounds-pass_by_edits-end-6 c =
    let buffer = c.zeros-second_ends in scratch-cut _ 12 buffer.result c.scratch_len-f.ensures buffer.ensures

pub returns : goal.returns
returns c =
    record {
      first₀ = _;
      second₀ = _;
      first = _;
      second = _;
      first_is = record {
        text_len = scratch-long _ 7 c.large_buffer-first.result c.scratch_len-a.ensures c.large_buffer-first.ensures;
        starts_len = scratch-long _ 8 c.zeros-first_starts.result c.scratch_len-b.ensures c.zeros-first_starts.ensures;
        ends_len = scratch-long _ 9 c.zeros-first_ends.result c.scratch_len-c.ensures c.zeros-first_ends.ensures;
      };
      second_is = record {
        text_len = scratch-long _ 10 c.large_buffer-second.result c.scratch_len-d.ensures c.large_buffer-second.ensures;
        starts_len = scratch-long _ 11 c.zeros-second_starts.result c.scratch_len-e.ensures c.zeros-second_starts.ensures;
        ends_len = scratch-long _ 12 c.zeros-second_ends.result c.scratch_len-f.ensures c.zeros-second_ends.ensures;
      };
      met = c.pass_by_edits.ensures;
    }
