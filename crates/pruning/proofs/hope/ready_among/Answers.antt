-- `pruning::hope::ready_among` meets its contract: what it has taken out did not pass, and what is left to be asked is in it.
-- Assumes nothing.
use mathlib.Core.Path.{◌≡◌, ◌∙◌}
use mathlib.Core.Bool.{true}
use Prim.Native.Nat.{ℕ, ◌<◌}
use native.Mathlib.Omega.{arith}
use Rattle.lists.specs.Bits.{bit_at}
use Rattle.places.specs.State.{placed_of}
use Rattle.places.specs.Told.{told}
use Rattle.places.specs.Tree.{legal_reads}
use Rattle.lists.proofs.BitLaws.{member-lt}
use Rattle.places.proofs.SetLaws.{all-left, keeps-all, keeps_on}
use Rattle.pruning.proofs.hope.ready_among.Goals as goal
use Rattle.pruning.proofs.hope.ready_among.Goals.{In-Some}

-- the transaction of a turn is in the set still, and below ten
is_in : (c : In-Some) → bit_at c.in-Some.t c.loop-t.ready ≡ 1
is_in c = c.loop-t.invariant.1.is_in _ c.in-Some.ensures.steps.is_in

low : (c : In-Some) → c.in-Some.t < 10
low c = member-lt _ c.args.s.unplaced 10 (c.loop-t.invariant.0.within.is_in _ (is_in c)) c.requires.few

pub loop-t-init : goal.loop-t-init
loop-t-init c =
    let e = all-left c.into_iter-t-iterator.ensures.into_iter_gives c.members-t-items.ensures in
    rw e (keeps-all _ c.args.s.unplaced)

pub legal_reads-requires-clause-t_bound : goal.legal_reads-requires-clause-t_bound
legal_reads-requires-clause-t_bound c = omega (arith, low (goal.at.legal_reads-requires-clause-t_bound c).In-Some)

pub kept-ready-requires : goal.kept-ready-requires
kept-ready-requires c = is_in (goal.at.kept-ready-requires c).In-Some

pub loop-t-preserved : goal.loop-t-preserved
loop-t-preserved c =
    let at = c.loop-t in
    let a = c.args in
    keeps_on (λ (k : ℕ). legal_reads (told a.constraints.now) (placed_of a.s) k ≡ true) a.s.unplaced at.ready at.t-iterator.left
    c.in-Some.t _ c.legal_reads.result c.kept-ready.result at.invariant.0 at.invariant.1 c.in-Some.ensures.steps
    (λ h. c.legal_reads.ensures ∙ h) c.kept-ready.ensures
