-- `places::sets::without` meets its contract. A member t of a set below 2 ^ 64 is below 64, and its power is at most the set.
-- Assumes nothing.
use native.Mathlib.Omega.{arith}
use Rattle.lists.proofs.BitLaws.{member-le, member-lt}
use Rattle.places.proofs.sets.without.Goals as goal

pub bit-requires : goal.bit-requires
bit-requires c = member-lt c.args.t c.args.set 64 c.requires c.ranges.set.fits

pub overflow_sub-result : goal.overflow_sub-result
overflow_sub-result c = omega (arith, member-le c.args.t c.args.set c.requires)
