-- `places::state::Search::place` meets its contract: the places filled so far take at most 46 bits.
-- Assumes nothing.
use native.Mathlib.Omega.{arith}
use Rattle.places.proofs.StateLaws.{room-lt, room_at, room-bits, extends}
use Rattle.places.proofs.state.Search.place.Goals as goal

pub overflow_mul-result : goal.overflow_mul-result
overflow_mul-result c = omega (arith, room-bits c.args.self c.requires.placeable.sound (room_at c.requires.placeable))

pub overflow_mul-result-2 : goal.overflow_mul-result-2
overflow_mul-result-2 c = omega (arith, room-lt c.requires.placeable)

pub overflow_add-result-2 : goal.overflow_add-result-2
overflow_add-result-2 c = omega (arith, room-lt c.requires.placeable)

pub overflow_add-result-3 : goal.overflow_add-result-3
overflow_add-result-3 c =
    omega (arith, room-bits c.args.self c.requires.placeable.sound (room_at c.requires.placeable), room-lt c.requires.placeable)

pub returns : goal.returns
returns c =
    extends c.args.self c.args.t c.args.outcome c.without.result c.requires.placeable c.requires.outcome_bound c.without.ensures
