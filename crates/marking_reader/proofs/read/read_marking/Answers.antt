-- `read_marking` meets its contract: what has been read stands in the arrays, and what is left gives the answer.
-- Assumes nothing.
use Prim.Native.Nat.{◌<◌}
use native.Mathlib.Omega.{arith}
use mathlib.Core.Path.{◌≡◌, refl, sym, ap, ◌∙◌, subst}
use lib.ListN.{length-set}
use Rattle.std.proofs.Common.{rules, Err}
use Rattle.events.proofs.ReadableLaws.{readable-most}
use Rattle.opacity.proofs.Bounds.{at-most-64}
use Rattle.marking_reader.specs.File.{known}
use Rattle.marking_reader.specs.State.{read_as}
use Rattle.marking_reader.proofs.StepLaws.{opening-none}
use Rattle.marking_reader.proofs.SoundLaws.{sound-start, nothing-so}
use Rattle.marking_reader.proofs.WalkLaws.{Reached, reached-first, opening-refused}
use Rattle.marking_reader.proofs.ReadLaws.{given-so, refused-so, Placing, placing, Pointing, pointing, refusing, finished}
use Rattle.marking_reader.proofs.read.read_marking.Goals as goal
use Rattle.marking_reader.proofs.read.read_marking.Goals.{In-Placed, In-Pointed}

placed : (c : In-Placed) → Placing c.loop-transaction.invariant.reached c.loop-transaction.invariant.sound
    c.in-Placed.transaction c.in-Placed.outcome c.in-Placed.end
placed c =
    let y = c.loop-transaction.invariant in
    placing y.reached y.sound (given-so y.reached y.sound c.args.marked.now.asking.count c.in_ok-transaction.ensures c.in-Placed.is)

pointed : (c : In-Pointed) → Pointing c.loop-transaction.invariant.reached c.loop-transaction.invariant.sound
    c.in-Pointed.event c.in-Pointed.gap c.in-Pointed.end
pointed c =
    let y = c.loop-transaction.invariant in
    pointing y.reached y.sound (given-so y.reached y.sound c.args.marked.now.asking.count c.in_ok-transaction.ensures c.in-Pointed.is)

pub returns-in_err-ask_opening-clause-result_after : goal.returns-in_err-ask_opening-clause-result_after
returns-in_err-ask_opening-clause-result_after c =
    let a = c.args in
    let e : c.from_residual.result ≡ Err c.in_err-ask_opening.field-0.0 = search rules in
    ap (read_as a.marked.now.log.now a.order.now a.outcomes.now a.gaps.now) e
    ∙ sym (opening-refused (known a.marked.now.log.now) a.file.now c.in_err-ask_opening.ensures)

pub loop-transaction-init : goal.loop-transaction-init
loop-transaction-init c =
    let h = c.args.marked.now.log.now in
    let readable = c.args.marked.now.asking.readable in
    let opens = opening-none c.args.file.now c.in_ok-ask_opening.ensures in
    rw c.new-progress.ensures (record {
      reached = subst (Reached (known h) c.args.file.now 6) (sym (nothing-so _ _ _)) (reached-first (known h) c.args.file.now opens);
      sound = sound-start h _ _ _ (readable-most h readable) (at-most-64 h readable) (omega arith) c.requires.fresh;
      gaps_size = refl;
    })

pub returns-in_err-transaction-clause-result_after : goal.returns-in_err-transaction-clause-result_after
returns-in_err-transaction-clause-result_after c =
    let y = c.loop-transaction.invariant in
    let e : c.from_residual-in_err-transaction.result ≡ Err c.in_err-transaction.field-0.0 = search rules in
    (refusing y.reached y.sound c.from_residual-in_err-transaction.result e
    (refused-so y.reached y.sound c.args.marked.now.asking.count c.in_err-transaction.ensures)).0

pub bounds-order-progress : goal.bounds-order-progress
bounds-order-progress c = (placed (goal.at.bounds-order-progress c).In-Placed).free

pub overflow_cast-outcomes : goal.overflow_cast-outcomes
overflow_cast-outcomes c = omega (arith, (placed (goal.at.overflow_cast-outcomes c).In-Placed).outcome)

pub bounds-outcomes-progress : goal.bounds-outcomes-progress
bounds-outcomes-progress c = (placed (goal.at.bounds-outcomes-progress c).In-Placed).free

pub bounds-progress-from : goal.bounds-progress-from
bounds-progress-from c = omega (arith, (placed (goal.at.bounds-progress-from c).In-Placed).begun)

pub loop-transaction-smaller-in-Placed : goal.loop-transaction-smaller-in-Placed
loop-transaction-smaller-in-Placed c =
    let p = placed (goal.at.loop-transaction-smaller-in-Placed c).In-Placed in
    omega (arith, p.onward, p.within)

pub loop-transaction-preserved-in-Placed : goal.loop-transaction-preserved-in-Placed
loop-transaction-preserved-in-Placed c =
    let p = placed (goal.at.loop-transaction-preserved-in-Placed c).In-Placed in
    rw c.from.ensures (record { reached = p.comes; sound = p.holds; gaps_size = c.loop-transaction.invariant.gaps_size })

pub offset_bounds-gaps-event : goal.offset_bounds-gaps-event
offset_bounds-gaps-event c = let l : c.in-Pointed.event < 2048 = (pointed c).inside in search rules

pub bounds-gaps-event : goal.bounds-gaps-event
bounds-gaps-event c = (pointed c).entry

pub overflow_add-progress-in-Pointed : goal.overflow_add-progress-in-Pointed
overflow_add-progress-in-Pointed c = let l : c.in-Pointed.event < 2048 = (pointed c).inside in search rules

pub loop-transaction-smaller : goal.loop-transaction-smaller
loop-transaction-smaller c = omega (arith, (pointed c).onward, (pointed c).within)

pub loop-transaction-preserved : goal.loop-transaction-preserved
loop-transaction-preserved c =
    record {
      reached = (pointed c).comes;
      sound = (pointed c).holds;
      gaps_size = length-set c.loop-transaction.gaps _ _ ∙ c.loop-transaction.invariant.gaps_size;
    }

pub returns-in-Finished : goal.returns-in-Finished
returns-in-Finished c =
    let y = c.loop-transaction.invariant in
    let all = finished y.reached y.sound (given-so y.reached y.sound c.args.marked.now.asking.count c.in_ok-transaction.ensures c.in-Finished.is) in
    record { result_after = all.0; kept = all.1 }
