-- `places::state::place_of` meets its contract: the places behind those that are left are of others.
-- Assumes nothing.
use native.Mathlib.Omega.{arith}
use Rattle.places.proofs.PlaceLaws.{looking-all, some_left, looking-on, place_found}
use Rattle.places.proofs.state.place_of.Goals as goal

pub loop-rest-init : goal.loop-rest-init
loop-rest-init c = looking-all c.args.count c.args.order c.args.t c.requires.ordered c.requires.t_lt_count

pub overflow_sub-left : goal.overflow_sub-left
overflow_sub-left c =
    let a = c.args in omega (arith, some_left a.count a.order a.t c.loop-rest.left c.loop-rest.rest c.loop-rest.invariant)

pub loop-rest-smaller : goal.loop-rest-smaller
loop-rest-smaller c =
    let a = c.args in omega (arith, some_left a.count a.order a.t c.loop-rest.left c.loop-rest.rest c.loop-rest.invariant)

pub loop-rest-preserved : goal.loop-rest-preserved
loop-rest-preserved c =
    let a = c.args in looking-on a.count a.order a.t c.loop-rest.left c.loop-rest.rest c.loop-rest.invariant c.loop-rest-test.true

pub overflow_sub-result : goal.overflow_sub-result
overflow_sub-result c =
    let a = c.args in omega (arith, some_left a.count a.order a.t c.loop-rest.left c.loop-rest.rest c.loop-rest.invariant)

pub returns : goal.returns
returns c =
    let a = c.args in
    place_found a.count a.order a.t c.loop-rest.left c.loop-rest.rest c.requires.ordered c.loop-rest.invariant c.loop-rest-test.false
