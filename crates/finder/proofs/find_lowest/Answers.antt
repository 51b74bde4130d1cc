-- `finder::find_lowest` meets its contract: the marking of the order found. Assumes nothing.
use Rattle.std.specs.Prelude.{ℕ, Option as Answer, Ok}
use mathlib.Core.Path.{◌≡◌, refl, ap, ◌∙◌}
use mathlib.Core.Option.{some}
use lib.ListN.{length}
use Rattle.event_log.specs.Starts.{start_of}
use Rattle.opacity.specs.Lowest.{lowest_of}
use Rattle.places.specs.Places.{codes_of, decode}
use Rattle.finder.specs.Answer.{gives}
use Rattle.finder.proofs.OrderLaws.{places-found, marking-none, marking-found, marking-fits}
use Rattle.finder.proofs.AnswerLaws.{decided-none, decided-marking}
use Rattle.finder.proofs.find_lowest.Goals as goal
use Rattle.finder.proofs.find_lowest.Goals.{In_ok-order}

-- the order is that of the lowest justification
lowest : (c : In_ok-order) → some (decode (codes_of c.args.begun c.in_ok-order.order)) ≡ lowest_of (start_of c.args.starts.now) c.args.log.now
lowest c = places-found _ c.args.log.now c.requires.judged c.in_ok-order.order c.args.begun c.in_ok-order.ensures c.requires.begun_value

pub returns-in_err-order : goal.returns-in_err-order
returns-in_err-order c =
    ap (λ (r : Answer ℕ). gives (Ok r) c.args.output.now) c.from_residual.ensures
    ∙ decided-none c.args.output.now refl (marking-none _ c.args.log.now c.requires.judged c.in_err-order.ensures)

-- there is room for its marking
pub write_order-requires-clause-order_in_bounds : goal.write_order-requires-clause-order_in_bounds
write_order-requires-clause-order_in_bounds c =
    marking-fits _ c.args.log.now c.requires.judged (length c.args.output.now)
    (lowest (goal.at.write_order-requires-clause-order_in_bounds c).In_ok-order) c.requires.log_in_bounds

pub returns : goal.returns
returns c =
    decided-marking _ c.args.output.now _ refl (marking-found _ c.args.log.now c.requires.judged (lowest (goal.at.returns c).In_ok-order))
    c.write_order.ensures.value c.write_order.ensures.output_after
