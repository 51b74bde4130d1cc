-- `places::lookup::Constraints::legal_at` meets its contract.
-- Assumes nothing.
use borrow.Author.Tests.{eq-eqb, ne_eqb}
use Rattle.places.specs.Tree.{legal_at}
use Rattle.places.proofs.lookup.Constraints.legal_at.Goals as goal

pub returns-then-w-eq0 : goal.returns-then-w-eq0
unfolding legal_at
returns-then-w-eq0 c = simp (eq-eqb _ _ c.if-w-eq0.true)

pub returns : goal.returns
unfolding legal_at
returns c = simp (ne_eqb _ _ c.if-w-eq0.false, c.content.ensures)
