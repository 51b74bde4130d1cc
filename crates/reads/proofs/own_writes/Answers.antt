-- `own_writes` meets its contract: one pass, which keeps the last write of each transaction to each register. Assumes nothing.
use Prim.Native.Nat.{◌<◌}
use native.Mathlib.Omega.{arith}
use lib.ListN.{length}
use Rattle.events.specs.Events.{begins}
use Rattle.events.proofs.ReadableLaws.{readable-most}
use Rattle.opacity.proofs.Bounds.{at-most-64}
use Rattle.reads.proofs.OwnLaws.{low, lasts-first, lasts-more, owned-none, owned-more}
use Rattle.reads.proofs.own_writes.Goals as goal

pub loop-i-init : goal.loop-i-init
loop-i-init c =
    let h = c.args.log.now in
    record { table = lasts-first h (begins h) 64 (at-most-64 h c.requires.log_value); owned = owned-none h _ }

pub note-requires : goal.note-requires
note-requires c =
    let h = c.args.log.now in
    let e = low h c.requires.log_value c.loop-i.i (omega arith) in
    let most = at-most-64 h c.requires.log_value in
    (omega arith, (omega (arith, readable-most h c.requires.log_value), (omega (arith, e.transaction, most), e.register)))

pub loop-i-preserved : goal.loop-i-preserved
loop-i-preserved c =
    let h = c.args.log.now in
    let l : c.loop-i.i < length h = omega arith in
    let e = low h c.requires.log_value c.loop-i.i l in
    record {
      table = rw c.note.ensures.rows_after (lasts-more h _ c.loop-i.last.rows c.loop-i.i c.loop-i.invariant.table l e);
      owned = owned-more h _ c.loop-i.last.rows c.loop-i.i c.loop-i.invariant.table e c.note.result c.note.ensures.value
          c.loop-i.own (omega arith) c.loop-i.invariant.owned;
    }
