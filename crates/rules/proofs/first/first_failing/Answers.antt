-- `first_failing` meets its contract: the numbers below i pass.
-- Assumes nothing.
use native.Mathlib.Omega.{arith}
use mathlib.Core.Path.{sym}
use mathlib.Core.Bool.{true, false}
use Rattle.rules.proofs.Numbers.{broken-at, broken-none}
use Rattle.rules.proofs.first.first_failing.Goals as goal

pub returns-then-not-holds : goal.returns-then-not-holds
returns-then-not-holds g c = λ p e.
    sym (broken-at p c.args.n c.loop-i.i c.loop-i-test.true (λ k l. sym (e k true (omega arith) (c.loop-i.invariant k l)))
    (sym (e c.loop-i.i false c.loop-i-test.true (rw c.if-not-holds.true at c.holds.ensures))))

pub returns : goal.returns
returns g c = λ p e. sym (broken-none p c.args.n (λ k l. sym (e k true l (c.loop-i.invariant k (omega arith)))))
