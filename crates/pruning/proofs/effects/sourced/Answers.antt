-- `pruning::effects::sourced` meets its contract: those passed are no sources.
-- Assumes nothing.
use Rattle.lists.proofs.BitLaws.{member-lt}
use Rattle.places.proofs.SetLaws.{all-left, walk-begins, walk_on, walk-ends, its-turn}
use Rattle.pruning.proofs.effects.sourced.Goals as goal

pub loop-w-init : goal.loop-w-init
loop-w-init c = walk-begins (all-left c.into_iter-w-iterator.ensures.into_iter_gives c.members-w-items.ensures)

pub source-requires-clause-w_bound : goal.source-requires-clause-w_bound
source-requires-clause-w_bound c = member-lt c.in-Some.w c.args.set 10 (its-turn c.loop-w.invariant c.in-Some.ensures.steps) c.requires.set_bound

pub loop-w-preserved : goal.loop-w-preserved
loop-w-preserved c = walk_on c.loop-w.invariant c.in-Some.ensures.steps (c.source.ensures c.if-source.false)

pub returns : goal.returns
returns c = λ e. walk-ends c.loop-w.invariant c.in-None.ensures.steps.0
