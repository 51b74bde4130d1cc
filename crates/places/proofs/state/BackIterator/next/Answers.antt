-- `places::state::Back::next` meets its contract.
-- Assumes nothing.
use mathlib.Core.Path.{◌≡◌, refl}
use mathlib.Core.List.{[]}
use Prim.Native.Nat.{ℕ, ◌-◌, ◌/◌}
use native.Mathlib.Omega.{arith}
use Rattle.places.specs.Places.{codes_of}
use Rattle.places.proofs.StateLaws.{length-codes, codes-back}
use Rattle.places.proofs.state.BackIterator.next.Goals as goal

none-left : (k n : ℕ) → k ≡ 0 → codes_of k n ≡ []
unfolding codes_of
none-left k n e = rw e refl

pub returns-then-self-eq0-clause-steps : goal.returns-then-self-eq0-clause-steps
returns-then-self-eq0-clause-steps c =
    let s = c.args.self.now in
    let e = none-left s.left s.rest c.if-self-eq0.true in
    (e, e)

pub returns-clause-steps : goal.returns-clause-steps
returns-clause-steps c = codes-back c.args.self.now.left c.args.self.now.rest (omega arith)

pub returns-clause-goes : goal.returns-clause-goes
returns-clause-goes c =
    let s = c.args.self.now in
    record {
      on = λ z. (tt, tt, omega (arith, length-codes s.left s.rest, length-codes (s.left - 1) (s.rest / 32)));
      keeps = tt;
      rests = λ z. tt;
    }
