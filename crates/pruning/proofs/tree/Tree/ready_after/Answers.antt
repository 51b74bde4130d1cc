-- `pruning::tree::Tree::ready_after` meets its contract, as `pruning::hope::ready_among` does.
-- Assumes nothing.
use mathlib.Core.Path.{◌≡◌}
use Prim.Native.Nat.{◌<◌}
use native.Mathlib.Omega.{arith}
use Rattle.lists.specs.Bits.{bit_at}
use Rattle.places.specs.State.{placed_of}
use Rattle.places.specs.Told.{told}
use Rattle.places.specs.Tree.{legal_reads}
use Rattle.pruning.specs.Runs.{Renewed}
use Rattle.lists.proofs.BitLaws.{member-lt}
use Rattle.places.proofs.SetLaws.{all-left, keeps-all, keeps_on}
use Rattle.pruning.proofs.EffectLaws.{stays}
use Rattle.pruning.proofs.tree.Tree.ready_after.Goals as goal
use Rattle.pruning.proofs.tree.Tree.ready_after.Goals.{In-Some}

-- the transaction of a turn is in the set still, and below ten
is_in : (c : In-Some) → bit_at c.in-Some.t c.loop-t.after ≡ 1
is_in c = c.loop-t.invariant.1.is_in _ c.in-Some.ensures.steps.is_in

low : (c : In-Some) → c.in-Some.t < 10
low c = member-lt _ c.args.s.unplaced 10 (c.loop-t.invariant.0.within.is_in _ (is_in c)) c.requires.sound.few

pub loop-t-init : goal.loop-t-init
loop-t-init c =
    let e = all-left c.into_iter-t-iterator.ensures.into_iter_gives c.members-t-items.ensures in
    rw e (keeps-all _ c.args.s.unplaced)

pub offset_bounds-effects-t : goal.offset_bounds-effects-t
offset_bounds-effects-t c = omega (arith, low (goal.at.offset_bounds-effects-t c).In-Some)

pub bounds-effects-t : goal.bounds-effects-t
bounds-effects-t c = low (goal.at.bounds-effects-t c).In-Some

pub still_ready-passes-requires-clause-t_bound : goal.still_ready-passes-requires-clause-t_bound
still_ready-passes-requires-clause-t_bound c = low (goal.at.still_ready-passes-requires-clause-t_bound c).In-Some

pub kept-after-requires : goal.kept-after-requires
kept-after-requires c = is_in (goal.at.kept-after-requires c).In-Some

pub loop-t-preserved : goal.loop-t-preserved
loop-t-preserved c =
    let at = c.loop-t in
    let a = c.args in
    let told-of = a.self.now.constraints in
    let t = c.in-Some.t in
    let effect = a.self.now.known.at a.x t c.requires.x_bound (low (goal.at.loop-t-preserved c).In-Some) in
    keeps_on (Renewed (legal_reads (told told-of)) (placed_of a.s) a.x a.ready) a.s.unplaced at.after at.t-iterator.left t _
    c.still_ready-passes.result c.kept-after.result at.invariant.0 at.invariant.1 c.in-Some.ensures.steps
    (λ h. c.still_ready-passes.ensures (stays told-of.starts.now told-of.facts.now told-of.asked (placed_of a.s) a.x a.ready t _ effect h))
    c.kept-after.ensures
