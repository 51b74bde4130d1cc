-- `pruning::effects::effects_of` meets its contract.
-- Assumes nothing.
use mathlib.Core.Path.{◌∙◌}
use native.Mathlib.Omega.{arith}
use lib.ListN.{length-set}
use Rattle.pruning.proofs.EffectLaws.{one_entry}
use Rattle.pruning.proofs.effects.effects_of.Goals as goal
use Rattle.pruning.proofs.effects.effects_of.Invariants.{Entry}

pub loop-t-preserved : goal.loop-t-preserved
loop-t-preserved c =
    let at = c.loop-t in
    let a = c.args in
    record {
      long = length-set at.effects at.t _ ∙ at.invariant.long;
      at = one_entry (Entry a.constraints.now.facts.now a.constraints.now.asked a.x) at.effects 0 at.t _ (omega (arith, at.invariant.long))
          c.effect.ensures at.invariant.at;
    }

pub returns : goal.returns
returns c = record { at = λ t l. c.loop-t.invariant.at t (omega arith) }
