-- `last_event` meets its contract: the last one of the first i events.
-- Assumes nothing.
use native.Mathlib.Omega.{arith}
use mathlib.Core.Path.{refl, sym, ◌∙◌}
use Rattle.lists.specs.Lists.{last}
use Rattle.rules.proofs.EventLaws.{last-here, last-other, last-found}
use Rattle.rules.proofs.judge.last_event.Goals as goal
use Rattle.rules.proofs.judge.last_event.Goals.{then-from-t, else-from-t}

pub loop-i-init : goal.loop-i-init
unfolding last
loop-i-init c = refl

pub loop-i-preserved : goal.loop-i-preserved
loop-i-preserved c =
    elim c.if-from-t.branch [
      | then-from-t w ↦ w.last-is ∙ last-here c.args.log.now c.args.t c.loop-i.i (sym c.from.ensures ∙ w.if-from-t.true)
      | else-from-t w ↦
          w.last-is ∙ (c.loop-i.invariant ∙ last-other c.args.log.now c.args.t c.loop-i.i (λ q. w.if-from-t.false (c.from.ensures ∙ q)))
    ]

pub returns : goal.returns
returns c = c.loop-i.invariant ∙ last-found c.args.log.now c.args.t c.loop-i.i (omega arith)
