-- `search::allows` meets its contract.
-- Assumes nothing.
use borrow.Author.Tests.{eq-eqb, ne_eqb}
use Rattle.places.specs.Tree.{allows_outcome}
use Rattle.search.proofs.allows.Goals as goal

pub returns-then-rule-outcome : goal.returns-then-rule-outcome
unfolding allows_outcome
returns-then-rule-outcome c = simp (eq-eqb _ _ c.if-rule-outcome.true)

pub returns : goal.returns
unfolding allows_outcome
returns c = simp (ne_eqb _ _ c.if-rule-outcome.false)
