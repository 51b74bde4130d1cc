-- `begin_of` meets its contract: none of the first i events begins the transaction.
-- Assumes nothing.
use native.Mathlib.Omega.{arith}
use mathlib.Core.Path.{sym, ◌∙◌}
use Rattle.std.proofs.Common.{below_more}
use Rattle.rules.proofs.EventLaws.{begins-here, begins-never}
use Rattle.rules.proofs.judge.begin_of.Goals as goal

pub returns-then-begins : goal.returns-then-begins
returns-then-begins c = begins-here _ _ _ c.loop-i-test.true c.loop-i.invariant (sym c.begins.ensures ∙ c.if-begins.true)

pub loop-i-preserved : goal.loop-i-preserved
loop-i-preserved c = below_more _ _ c.loop-i.invariant (sym c.begins.ensures ∙ c.if-begins.false)

pub returns : goal.returns
returns c = begins-never _ _ (λ k l. c.loop-i.invariant k (omega arith))
