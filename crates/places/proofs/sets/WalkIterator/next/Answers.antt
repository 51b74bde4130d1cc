-- `places::sets::Walk::next` meets its contract.
-- Assumes nothing.
use native.Mathlib.Omega.{arith}
use Rattle.places.proofs.SetLaws.{lowest-member, lowest-of, fewer_left}
use Rattle.places.proofs.sets.WalkIterator.next.Goals as goal

pub without-self-requires : goal.without-self-requires
without-self-requires c = lowest-member _ c.args.self.now.left (omega arith) c.if-self-eq0.false c.lowest-t.ensures

pub returns-clause-steps : goal.returns-clause-steps
returns-clause-steps c = lowest-of _ c.args.self.now.left _ (omega arith) c.if-self-eq0.false c.lowest-t.ensures c.without-self.ensures

pub returns-clause-goes : goal.returns-clause-goes
returns-clause-goes c =
    let one = lowest-of _ c.args.self.now.left _ (omega arith) c.if-self-eq0.false c.lowest-t.ensures c.without-self.ensures in
    record { on = λ z. (tt, tt, fewer_left _ c.args.self.now.left _ one); keeps = tt; rests = λ z. tt }
