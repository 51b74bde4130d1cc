-- `scan::scan_prefixes` meets its contract: the prefixes passed have a justification. Assumes nothing.
use mathlib.Core.Path.{refl, sym, ap, ◌∙◌}
use native.Mathlib.Omega.{arith}
use Rattle.events.specs.Events.{event_at}
use Rattle.places.specs.Told.{told}
use Rattle.lowest.proofs.GoodHistory.{tabled}
use Rattle.witness.proofs.WitnessLaws.{judged-kept, judged-anew}
use Rattle.scan.proofs.ScanLaws.{Next, kept-told, scanning-none, few-before, may-carry, few-begun, end-asked, scanning-more, scanning-quiet, scanning-fault, scanning-end}
use Rattle.scan.proofs.scan_prefixes.Goals as goal
use Rattle.scan.proofs.scan_prefixes.Goals.{in-None, in-Some, In-loop-i}

-- event i comes
now : (c : In-loop-i) → let l = c.loop-i in
    Next c.args.starts.now c.args.log.now l.i (event_at c.args.log.now l.i) l.tables l.n l.order
now c = record { judged = c.requires; inside = omega arith; same = refl; passed = c.loop-i.invariant }

pub loop-i-init : goal.loop-i-init
loop-i-init c = scanning-none c.args.starts.now c.args.log.now _ c.new-tables.ensures

pub loop-i-preserved-then-is_quiet : goal.loop-i-preserved-then-is_quiet
loop-i-preserved-then-is_quiet c =
    scanning-quiet (now (goal.at.loop-i-preserved-then-is_quiet c).In-loop-i) (sym c.is_quiet.ensures ∙ c.if-is_quiet.true)

pub carry-kept-requires : goal.carry-kept-requires
carry-kept-requires c = may-carry (now (goal.at.carry-kept-requires c).In-loop-i)

pub step-requires : goal.step-requires
step-requires c = tabled c.args.log.now c.requires c.loop-i.i (omega arith) _ refl

pub begun_after-n-requires : goal.begun_after-n-requires
begun_after-n-requires c = let few = few-before (now (goal.at.begun_after-n-requires c).In-loop-i) in λ b. omega arith

pub complete-next-requires : goal.complete-next-requires
complete-next-requires c =
    let its = now (goal.at.complete-next-requires c).In-loop-i in
    record {
      transactions_bound = few-begun its c.step.ensures c.begun_after-n.ensures;
      end_asks = end-asked its c.step.ensures c.begun_after-n.ensures;
    }

pub returns-in_default : goal.returns-in_default
returns-in_default c =
    let l = c.loop-i in
    c.faulted.ensures
    ∙ scanning-fault (now (goal.at.returns-in_default c).In-loop-i) c.step.ensures c.begun_after-n.ensures
    (kept-told c.new.result c.args.starts.now l.tables.facts l.n l.order _ (ap told c.new.ensures) c.carry-kept.ensures)
    (elim c.match-kept.branch [
      | in-None w ↦ judged-anew w.in-None.is w.next-is w.complete-next.ensures
      | in-Some w ↦ judged-kept w.in-Some.is w.next-is
    ]) c.in_default.is

pub loop-i-preserved : goal.loop-i-preserved
loop-i-preserved c =
    let l = c.loop-i in
    scanning-more (now (goal.at.loop-i-preserved c).In-loop-i) c.step.ensures c.begun_after-n.ensures
    (kept-told c.new.result c.args.starts.now l.tables.facts l.n l.order _ (ap told c.new.ensures) c.carry-kept.ensures)
    (elim c.match-kept.branch [
      | in-None w ↦ judged-anew w.in-None.is w.next-is w.complete-next.ensures
      | in-Some w ↦ judged-kept w.in-Some.is w.next-is
    ]) _ c.in-Some-next.is

pub returns : goal.returns
returns c = scanning-end c.args.starts.now c.args.log.now c.loop-i.i _ _ _ (omega arith) c.loop-i.invariant
