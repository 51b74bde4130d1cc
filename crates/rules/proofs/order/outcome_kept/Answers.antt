-- `rules::order::outcome_kept` meets its contract.
-- Assumes nothing.
use mathlib.Core.Path.{◌∙◌}
use Rattle.rules.specs.Orders.{outcome_by}
use Rattle.rules.proofs.order.outcome_kept.Goals as goal

pub returns : goal.returns
unfolding outcome_by
returns c = c.allowed.ensures ∙ rw c.from.ensures
