-- `lowest::find_order` meets its contract: the tables are those of the events passed. Assumes nothing.
use mathlib.Core.Path.{◌≡◌, refl, sym, ap, ◌∙◌}
use Prim.Native.Nat.{ℕ}
use native.Mathlib.Omega.{arith}
use lib.Seq.{take_all}
use Rattle.places.specs.Tree.{read_answer}
use Rattle.lowest.specs.Order.{decoded}
use Rattle.tables.specs.Tables.{tables_of, go_through}
use Rattle.tables.proofs.TableLaws.{tables_more}
use Rattle.lowest.proofs.GoodHistory.{tabled}
use Rattle.lowest.proofs.EndMeaning.{asks-by}
use Rattle.lowest.proofs.Link.{found-by}
use Rattle.lowest.proofs.find_order.Goals as goal
use Rattle.lowest.proofs.find_order.Goals.{After-loop-e}

-- behind the loop all events are passed: the tables are those of the history
whole : (a : After-loop-e) → a.loop-e.tables ≡ tables_of a.args.log.now
whole a = a.loop-e.invariant ∙ ap tables_of (take_all a.loop-e.e-index a.args.log.now (omega arith))

pub loop-e-init : goal.loop-e-init
unfolding tables_of go_through
loop-e-init c = c.new-tables.ensures

pub step-requires : goal.step-requires
step-requires c = tabled c.args.log.now c.requires.judged c.loop-e.e-index (omega arith) _ refl

pub loop-e-preserved : goal.loop-e-preserved
loop-e-preserved c =
    tables_more c.args.log.now c.loop-e.e-index (omega arith) c.loop-e.tables _ _ c.loop-e.invariant refl
    c.step.ensures

pub complete-requires : goal.complete-requires
complete-requires c =
    let all = whole (goal.at.complete-requires c).After-loop-e in
    record {
      transactions_bound = omega arith;
      end_asks = asks-by c.args.log.now c.loop-e.tables _ c.requires.judged all c.requires.begun_value;
    }

pub returns : goal.returns
returns c =
    let count = c.requires.begun_value in
    ap (λ (k : ℕ). decoded (read_answer k c.complete.result)) (sym count)
    ∙ found-by c.args.starts.now c.args.log.now _ _ _ c.requires.judged (whole (goal.at.returns c).After-loop-e) count
    c.complete.ensures.completion
