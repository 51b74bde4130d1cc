-- `pruning::effects::effects_among` meets its contract.
-- Assumes nothing.
use mathlib.Core.Path.{◌∙◌}
use mathlib.Core.List.{[]}
use native.Mathlib.Omega.{arith}
use lib.ListN.{length-set}
use Rattle.pruning.specs.Runs.{RowEffects}
use Rattle.pruning.proofs.EffectLaws.{one_entry}
use Rattle.pruning.proofs.effects.effects_among.Goals as goal

pub loop-x-preserved : goal.loop-x-preserved
loop-x-preserved c =
    let at = c.loop-x in
    let a = c.args in
    record {
      long = length-set at.effects at.x _ ∙ at.invariant.long;
      at = one_entry (RowEffects a.constraints.now.facts.now a.constraints.now.asked) at.effects [] at.x _ (omega (arith, at.invariant.long))
          c.effects_of.ensures at.invariant.at;
    }

pub returns : goal.returns
returns c = record { at = λ x t l m. (c.loop-x.invariant.at x (omega arith)).at t m }
