-- `count_by` meets its contract: a read counts by what stands at its slot before it. Assumes nothing.
use Prim.Native.Nat.{◌<◌}
use mathlib.Core.Path.{◌≡◌, refl, sym, ap, ◌∙◌}
use native.Mathlib.Omega.{arith}
use lib.ListN.{length}
use Rattle.lists.specs.Lists.{keep, range}
use Rattle.opacity.specs.Counts.{one}
use Rattle.opacity.specs.Transactions.{is_store_read}
use Rattle.events.proofs.ReadableLaws.{readable-most}
use Rattle.reads.proofs.OwnLaws.{low, lasts-first, lasts-more, its-read, one-byte, one-low, reads_more, reads-few, reads_all}
use Rattle.reads.proofs.count_by.Given.{Over}
use Rattle.reads.proofs.count_by.Goals as goal
use Rattle.reads.proofs.count_by.Goals.{After-from-reads}

-- what is added
adds : (g : Over) (c : After-from-reads g) → c.from-reads.result ≡ one (is_store_read c.args.log.now c.loop-i.i)
adds g c =
    let l : c.loop-i.i < length c.args.log.now = omega arith in
    c.from-reads.ensures ∙ (one-byte c.reads_store.result ∙ ap one (c.reads_store.ensures
    ∙ sym (its-read c.args.log.now _ c.loop-i.last.rows c.loop-i.i c.loop-i.invariant.table (low _ c.requires.log_value c.loop-i.i l)
    c.note-own.result c.note-own.ensures.value)))

pub loop-i-init : goal.loop-i-init
unfolding keep range
loop-i-init g c = record { table = lasts-first _ _ _ c.requires.room.0; counted = refl }

pub note-own-requires : goal.note-own-requires
note-own-requires g c =
    let e = low _ c.requires.log_value c.loop-i.i (omega arith) in
    (omega arith, (omega (arith, readable-most _ c.requires.log_value), (omega (arith, e.transaction), e.register)))

pub overflow_add-reads : goal.overflow_add-reads
overflow_add-reads g c =
    let h = c.args.log.now in
    omega (arith, c.loop-i.invariant.counted, adds g c, one-low (is_store_read h c.loop-i.i), reads-few h c.loop-i.i)

pub loop-i-preserved : goal.loop-i-preserved
loop-i-preserved g c =
    let h = c.args.log.now in
    let l : c.loop-i.i < length h = omega arith in
    record {
      table = rw c.note-own.ensures.rows_after
          (lasts-more h _ c.loop-i.last.rows c.loop-i.i c.loop-i.invariant.table l (low h c.requires.log_value c.loop-i.i l));
      counted = omega (arith, c.loop-i.invariant.counted, adds g c, reads_more h c.loop-i.i);
    }

pub returns : goal.returns
returns g c = c.loop-i.invariant.counted ∙ reads_all c.args.log.now c.loop-i.i (omega arith)
