-- `put_gaps` meets its contract: an event's gap goes by what stands at its slot before it. Assumes nothing.
use Prim.Native.Nat.{◌<◌}
use mathlib.Core.Path.{sym, ap, ◌∙◌}
use mathlib.Core.Bool.{Bool}
use native.Mathlib.Omega.{arith}
use lib.ListN.{length}
use Rattle.lists.proofs.FilledLaws.{front-none, front-more}
use Rattle.events.specs.Events.{event_at}
use Rattle.events.proofs.ReadableLaws.{readable-most}
use Rattle.opacity.proofs.Bounds.{transaction-low}
use Rattle.reads.specs.Own.{gap_of}
use Rattle.reads.proofs.OwnLaws.{low, lasts-first, lasts-more, its-read}
use Rattle.reads.proofs.put_gaps.Goals as goal

pub loop-i-init : goal.loop-i-init
loop-i-init g c = record { table = lasts-first _ _ _ c.requires.room.0; placed = front-none 0 _ _ }

pub note-own-requires : goal.note-own-requires
note-own-requires g c =
    let e = low _ c.requires.log_value c.loop-i.i (omega arith) in
    (omega arith, (omega (arith, readable-most _ c.requires.log_value), (omega (arith, e.transaction), e.register)))

pub gap_of-requires : goal.gap_of-requires
gap_of-requires g c = transaction-low c.args.log.now c.requires.log_value c.loop-i.i (omega arith)

pub loop-i-preserved : goal.loop-i-preserved
loop-i-preserved g c =
    let h = c.args.log.now in
    let l : c.loop-i.i < length h = omega arith in
    let e = low h c.requires.log_value c.loop-i.i l in
    let store = its-read h _ c.loop-i.last.rows c.loop-i.i c.loop-i.invariant.table e c.note-own.result c.note-own.ensures.value in
    record {
      table = rw c.note-own.ensures.rows_after (lasts-more h _ c.loop-i.last.rows c.loop-i.i c.loop-i.invariant.table l e);
      placed = front-more 0 _ c.loop-i.i c.gap_of.result c.loop-i.gaps (omega arith)
          (c.gap_of.ensures ∙ ap (λ (b : Bool). gap_of b (event_at h c.loop-i.i) c.args.place.now) (sym store)) c.loop-i.invariant.placed;
    }
