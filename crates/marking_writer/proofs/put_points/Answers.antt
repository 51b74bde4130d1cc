-- `marking_writer::put_points` meets its contract.
-- Assumes nothing.
use Prim.Native.Nat.{ℕ}
use mathlib.Core.List.{List}
use native.Mathlib.Omega.{arith}
use lib.ListN.{length, get_or}
use Rattle.marking_writer.specs.Points.{is_gap, read_bytes}
use Rattle.marking_writer.proofs.RunLaws.{put-none, put-room, put-more}
use Rattle.marking_writer.proofs.PointLaws.{points_none, points-more}
use Rattle.marking_writer.specs.Whole.{points_in}
use Rattle.marking_writer.proofs.put_points.Goals as goal
use Rattle.marking_writer.proofs.put_points.Goals.{Start}

-- the point of event i
abbrev point : (s : Start) → ℕ → List ℕ
point s i = read_bytes (is_gap (get_or s.args.gaps.now i 0)) i (get_or s.args.gaps.now i 0)

pub loop-i-init : goal.loop-i-init
loop-i-init c =
    put-none (points_in c.args.gaps.now) (point (goal.at.loop-i-init c).Start) (points_none _ _) (points-more _ _)
    c.args.out.now c.args.from

pub put_read-at-requires : goal.put_read-at-requires
put_read-at-requires c =
    put-room (points_in c.args.gaps.now) (point (goal.at.put_read-at-requires c).Start) (points_none _ _) (points-more _ _) c.args.out.now
    c.args.from (length c.args.gaps.now) c.requires.gaps_in_bounds
    c.loop-i.i (omega arith) c.loop-i.out c.loop-i.at c.loop-i.invariant

pub loop-i-preserved : goal.loop-i-preserved
loop-i-preserved c =
    put-more (points_in c.args.gaps.now) (point (goal.at.loop-i-preserved c).Start) (points_none _ _) (points-more _ _) c.args.out.now
    c.args.from (length c.args.gaps.now) c.requires.gaps_in_bounds
    c.loop-i.i (omega arith) c.loop-i.out c.loop-i.at c.loop-i.invariant
    c.put_read-at.new.out c.put_read-at.result c.put_read-at.auto.out c.put_read-at.ensures.out_after c.put_read-at.ensures.value
