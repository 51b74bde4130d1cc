-- The proof of the cycle of calls {still_needed}. The measure is the set of what is needed: each call has one member less.
-- Assumes nothing.
use mathlib.Core.Path.{◌≡◌, sym, subst, ◌∙◌}
use Prim.Native.Nat.{ℕ, ◌<◌}
use native.Mathlib.Omega.{arith}
use lib.Pow.{pow_pos}
use Rattle.lists.specs.Bits.{bit_at}
use Rattle.lists.proofs.BitLaws.{member-le, member-lt, and-member, member-and}
use Rattle.places.proofs.SetLaws.{all-left, walk-begins, its-turn, walk_on, walk-ends, within-self, within-trans, within-rest}
use Rattle.pruning.proofs.hope.+still_needed.Goals as goal
use Rattle.pruning.proofs.hope.+still_needed.Goals.{In-Some}

-- the transaction of a turn is needed, and ready
both : (t : ℕ) (c : In-Some t) → (bit_at c.in-Some.t c.args.need ≡ 1) × (bit_at c.in-Some.t c.args.ready ≡ 1)
both t c = and-member c.in-Some.t c.args.need c.args.ready (its-turn c.loop-t.invariant c.in-Some.ensures.steps)

pub loop-t-init : goal.loop-t-init
loop-t-init t c = walk-begins (all-left c.into_iter-t-iterator.ensures.into_iter_gives c.members-t-items.ensures)

pub other_than-requires : goal.other_than-requires
other_than-requires t c = member-lt c.in-Some.t c.args.ready 10 (both t (goal.at.other_than-requires t c).In-Some).1 c.requires

pub without-requires : goal.without-requires
without-requires t c = (both t (goal.at.without-requires t c).In-Some).0

pub still_needed-requires : goal.still_needed-requires
still_needed-requires t c =
    let less = member-le c.in-Some.t c.args.need (both t (goal.at.still_needed-requires t c).In-Some).0 in
    let positive = pow_pos c.in-Some.t in
    (subst (λ (n : ℕ). c.without.result < n) c.decreases (omega arith), c.requires)

pub returns-then-other_than : goal.returns-then-other_than
returns-then-other_than t c =
    let need = c.args.need in
    let one = within-rest need need c.in-Some.t c.without.result (within-self need) (both t (goal.at.returns-then-other_than t c).In-Some).0 c.without.ensures in
    record {
      within = within-trans need c.without.result c.still_needed.result one c.still_needed.ensures.within;
      stuck = c.still_needed.ensures.stuck;
    }

pub loop-t-preserved : goal.loop-t-preserved
loop-t-preserved t c = walk_on c.loop-t.invariant c.in-Some.ensures.steps (sym c.other_than.ensures ∙ c.if-other_than.false)

pub returns : goal.returns
returns t c =
    record {
      within = within-self c.args.need;
      stuck = λ k h g. walk-ends c.loop-t.invariant c.in-None.ensures.steps.0 k (member-and k c.args.need c.args.ready h g);
    }
