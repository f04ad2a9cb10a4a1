-- Any list fits, or the one whose places were counted does.
use native.Mathlib.Nat.{div-le_self}
use native.Mathlib.Omega.{arith}
use lib.ListN.{length}
use Rattle.find.proofs.Found.{fits_one, fits-longest, fits-counted}
use Rattle.find.proofs.list_fits.Goals as goal

pub returns-then-literal-eq0 : goal.returns-then-literal-eq0
returns-then-literal-eq0 c = fits_one _ _ _ c.if-literal-eq0.true c.room_for.ensures

pub overflow_mul-text : goal.overflow_mul-text
overflow_mul-text c = omega (arith, div-le_self (length c.args.text.now) (length c.args.literal.now))

pub overflow_add-text : goal.overflow_add-text
overflow_add-text c = omega (arith, div-le_self (length c.args.text.now) (length c.args.literal.now))

pub room_for-requires-2 : goal.room_for-requires-2
room_for-requires-2 c = omega (arith, div-le_self (length c.args.text.now) (length c.args.literal.now))

pub returns-then-room_for-room : goal.returns-then-room_for-room
returns-then-room_for-room c = fits-longest _ _ _ (omega arith) c.room_for-2.ensures c.if-room_for-room.true

pub returns : goal.returns
returns c = fits-counted _ _ _ c.count_places.ensures.0 c.room_for-3.ensures
