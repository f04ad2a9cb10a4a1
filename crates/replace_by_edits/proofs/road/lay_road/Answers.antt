-- The note into the first set, the road, the note out of the set that holds it.
use Rattle.replace_by_edits.proofs.Travelling.{kept-ready, held-room, taken-rooms, road-laid}
use Rattle.replace_by_edits.proofs.road.lay_road.Goals as goal

pub take_road-held-requires : goal.take_road-held-requires
take_road-held-requires c = kept-ready c.requires c.keep.ensures

pub hand_out-requires : goal.hand_out-requires
hand_out-requires c = held-room c.requires c.keep.ensures c.take_road-held.ensures

pub shape_of-first : goal.shape_of-first
shape_of-first c = (taken-rooms c.requires c.keep.ensures c.take_road-held.ensures).first_same.text_left

pub shape_of-first_starts : goal.shape_of-first_starts
shape_of-first_starts c = (taken-rooms c.requires c.keep.ensures c.take_road-held.ensures).first_same.starts_left

pub shape_of-first_ends : goal.shape_of-first_ends
shape_of-first_ends c = (taken-rooms c.requires c.keep.ensures c.take_road-held.ensures).first_same.ends_left

pub returns : goal.returns
returns c = road-laid c.requires c.keep.ensures c.take_road-held.ensures c.hand_out.ensures
