-- `pruning::effects::registers_of` meets its contract.
-- Assumes nothing.
use native.Mathlib.Omega.{arith}
use Rattle.pruning.proofs.EffectLaws.{writes-on}
use Rattle.pruning.proofs.effects.registers_of.Goals as goal

pub loop-r-preserved : goal.loop-r-preserved
loop-r-preserved c =
    let at = c.loop-r in
    writes-on c.args.facts.now c.args.t at.registers at.r c.noted-registers.result at.invariant c.noted-registers.ensures

pub returns : goal.returns
returns c = record { has = λ r l. c.loop-r.invariant.has r (omega arith) }
