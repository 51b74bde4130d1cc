-- `pruning::effects::registers_written` meets its contract.
-- Assumes nothing.
use mathlib.Core.Path.{◌∙◌}
use native.Mathlib.Omega.{arith}
use lib.ListN.{length-set}
use Rattle.pruning.specs.Runs.{Writes}
use Rattle.pruning.proofs.EffectLaws.{one_entry}
use Rattle.pruning.proofs.effects.registers_written.Goals as goal

pub loop-t-preserved : goal.loop-t-preserved
loop-t-preserved c =
    let at = c.loop-t in
    record {
      long = length-set at.registers at.t _ ∙ at.invariant.long;
      at = one_entry (Writes c.args.facts.now) at.registers 0 at.t _ (omega (arith, at.invariant.long)) c.registers_of.ensures at.invariant.at;
    }

pub returns : goal.returns
returns c = record { at = λ t l. c.loop-t.invariant.at t (omega arith) }
