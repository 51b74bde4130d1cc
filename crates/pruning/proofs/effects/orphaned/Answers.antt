-- `pruning::effects::orphaned` meets its contract.
-- Assumes nothing.
use Prim.Native.Nat.{◌<◌}
use native.Mathlib.Omega.{arith}
use Rattle.lists.proofs.BitLaws.{member-lt}
use Rattle.places.proofs.SetLaws.{all-left, within-all, within-on}
use Rattle.pruning.proofs.effects.orphaned.Goals as goal
use Rattle.pruning.proofs.effects.orphaned.Goals.{In-Some}

low : (c : In-Some) → c.in-Some.t < 10
low c = member-lt c.in-Some.t c.args.need 10 (c.loop-t.invariant.is_in c.in-Some.t c.in-Some.ensures.steps.is_in) c.requires.need_bound

pub loop-t-init : goal.loop-t-init
loop-t-init c = within-all (all-left c.into_iter-t-iterator.ensures.into_iter_gives c.members-t-items.ensures)

pub loop-t-preserved : goal.loop-t-preserved
loop-t-preserved c = within-on c.loop-t.invariant c.in-Some.ensures.steps

pub offset_bounds-effects-t : goal.offset_bounds-effects-t
offset_bounds-effects-t c = omega (arith, low (goal.at.offset_bounds-effects-t c).In-Some)

pub bounds-effects-t : goal.bounds-effects-t
bounds-effects-t c = low (goal.at.bounds-effects-t c).In-Some

pub orphan-requires-clause-t_bound : goal.orphan-requires-clause-t_bound
orphan-requires-clause-t_bound c = low (goal.at.orphan-requires-clause-t_bound c).In-Some
