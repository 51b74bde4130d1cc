-- `last_writer` meets its contract: what is found from the place and the write reached is what is found from the start.
-- Assumes nothing.
use Prim.Native.Nat.{◌+◌, ◌≤◌}
use native.Mathlib.Omega.{arith}
use mathlib.Core.Path.{◌≡◌, ap}
use lib.ListN.{get_or}
use Rattle.std.specs.Prelude.{None}
use Rattle.links.specs.Tables.{past}
use Rattle.links.proofs.WriteLaws.{links-back}
use Rattle.rules.proofs.WalkLaws.{walk_ends, walk-leaves, walk_inside, walk-finds, walk-follows}
use Rattle.rules.proofs.walk.Points.last_writer.Goals as goal

pub walk-preserved : goal.walk-preserved
walk-preserved c = walk-leaves c.loop-next.invariant c.in_default.is

pub loop-next-smaller : goal.loop-next-smaller
loop-next-smaller c =
    let s = c.args.self.now in
    let b : past (get_or s.link.now c.from-in-Some.result None) ≤ c.in-Some.i =
    rw c.from-in-Some.ensures (links-back s.log.now s.pointable.walk.linked c.in-Some.i (walk_inside c.loop-next.invariant c.in-Some.is)) in
    let d : past c.loop-next.next ≡ c.in-Some.i + 1 = ap past c.in-Some.is in
    omega arith

pub loop-next-preserved : goal.loop-next-preserved
loop-next-preserved c =
    rw c.from-in-Some.ensures
    (walk-follows c.loop-next.invariant c.in-Some.is c.args.self.now.pointable.walk.linked (λ q. c.if-e-r.false (rw c.from.ensures q)))

pub returns-then-k-lo : goal.returns-then-k-lo
returns-then-k-lo c = walk_ends c.walk.invariant c.if-k-lo.true

pub returns-then-e-r : goal.returns-then-e-r
returns-then-e-r c = rw c.from.ensures (walk-finds c.loop-next.invariant c.in-Some.is (rw c.from.ensures at c.if-e-r.true))
