-- `pruning::effects::orphan` meets its contract.
-- Assumes nothing.
use mathlib.Core.Path.{◌≡◌, ap, ◌∙◌}
use Prim.Native.Nat.{ℕ, ◌<◌}
use native.Mathlib.Omega.{arith}
use lib.Bits.{bit_and}
use Rattle.lists.specs.Bits.{bit_at}
use Rattle.lists.proofs.BitLaws.{member-lt, and-member}
use Rattle.places.specs.Facts.{reads_asked}
use Rattle.places.proofs.SetLaws.{all-left, within-all, within-on}
use Rattle.pruning.proofs.effects.orphan.Goals as goal
use Rattle.pruning.proofs.effects.orphan.Goals.{In-Some}

-- the register of a turn is read by t, and asked about
is_read : (c : In-Some) → bit_at c.in-Some.r (reads_asked c.args.constraints.now.facts.now c.args.constraints.now.asked c.args.t) ≡ 1
is_read c =
    let a = c.args in
    (and-member c.in-Some.r (reads_asked a.constraints.now.facts.now a.constraints.now.asked a.t) a.overwritten
    (c.loop-r.invariant.is_in c.in-Some.r c.in-Some.ensures.steps.is_in)).0

low : (c : In-Some) → c.in-Some.r < 32
low c = member-lt c.in-Some.r _ 32 (is_read c) (omega (arith, c.reads_asked.ensures.value, c.reads_asked.ensures.low))

pub loop-r-init : goal.loop-r-init
loop-r-init c = within-all (all-left c.into_iter-r-iterator.ensures.into_iter_gives c.members-r-items.ensures
    ∙ ap (λ (m : ℕ). bit_and m c.args.overwritten) c.reads_asked.ensures.value)

pub orphan_at-requires-clause-register_bound : goal.orphan_at-requires-clause-register_bound
orphan_at-requires-clause-register_bound c = low (goal.at.orphan_at-requires-clause-register_bound c).In-Some

pub returns-then-orphan_at : goal.returns-then-orphan_at
returns-then-orphan_at c = λ e. record {
  register = c.in-Some.r;
  low = low (goal.at.returns-then-orphan_at c).In-Some;
  is_read = is_read (goal.at.returns-then-orphan_at c).In-Some;
  lost = c.orphan_at.ensures c.if-orphan_at.true;
}

pub loop-r-preserved : goal.loop-r-preserved
loop-r-preserved c = within-on c.loop-r.invariant c.in-Some.ensures.steps
