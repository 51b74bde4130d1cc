-- `links` meets its contract: after i events their links are written, and the slots hold the last write of each transaction.
-- Assumes nothing.
use Prim.Native.Nat.{ℕ, ◌<◌}
use mathlib.Core.Path.{ap, ◌∙◌}
use Rattle.std.specs.Prelude.{None}
use Rattle.events.specs.Events.{event_at}
use Rattle.lists.proofs.FilledLaws.{front-none, front-more}
use Rattle.links.specs.Tables.{write_noted, slot}
use Rattle.links.proofs.TableLaws.{slots-start, slots-more}
use Rattle.opacity.proofs.Bounds.{transaction-low}
use Rattle.std.proofs.Common.{arith}
use Rattle.links.proofs.writes.links.Goals as goal

pub loop-i-init : goal.loop-i-init
loop-i-init c = record { last = slots-start _ _ _; linked = front-none _ _ _ }

pub loop-i-preserved : goal.loop-i-preserved
loop-i-preserved c =
    let h = c.args.log.now in
    let low : c.from-t.result < 64 = omega (arith, c.from-t.ensures, transaction-low h c.requires.log_value c.loop-i.i c.loop-i-test.true) in
    record {
      last = slots-more None write_noted h c.loop-i.i c.from-t.ensures low (c.last_one.ensures ∙ rw c.is_write.ensures) c.loop-i.invariant.last;
      linked = front-more _ (λ i. slot None write_noted h (event_at h i).transaction i) c.loop-i.i _ c.loop-i.link
          (omega arith) (c.loop-i.invariant.last.holds _ low ∙ ap (λ (x : ℕ). slot None write_noted h x c.loop-i.i) c.from-t.ensures) c.loop-i.invariant.linked;
    }
