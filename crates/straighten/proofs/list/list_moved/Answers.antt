-- `list_moved` meets its contract: the moved events below i are listed.
-- Assumes nothing.
use native.Mathlib.Omega.{arith}
use Rattle.marking_writer.proofs.RunLaws.{put-none, put-room, put-more}
use Rattle.straighten.specs.Tables.{listed}
use Rattle.straighten.proofs.TableLaws.{moved_here, listed-none, listed_more}
use Rattle.straighten.proofs.list.list_moved.Goals as goal

pub loop-i-init : goal.loop-i-init
loop-i-init c =
    let m = c.args.moves.now in
    put-none (listed m) (moved_here m) (listed-none m) (listed_more m) c.args.list.now 0

pub put_moved-number-requires : goal.put_moved-number-requires
put_moved-number-requires c =
    let m = c.args.moves.now in
    put-room (listed m) (moved_here m) (listed-none m) (listed_more m) c.args.list.now 0 c.args.count (omega arith)
    c.loop-i.i (omega arith) c.loop-i.list c.loop-i.number c.loop-i.invariant

pub loop-i-preserved : goal.loop-i-preserved
loop-i-preserved c =
    let m = c.args.moves.now in
    put-more (listed m) (moved_here m) (listed-none m) (listed_more m) c.args.list.now 0 c.args.count (omega arith)
    c.loop-i.i (omega arith) c.loop-i.list c.loop-i.number c.loop-i.invariant c.put_moved-number.new.list c.put_moved-number.result
    c.put_moved-number.auto.list c.put_moved-number.ensures.list_after c.put_moved-number.ensures.value
