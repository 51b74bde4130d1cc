-- `lowest::complete` meets its contract: all transactions come before the end, so that the answer of the search has them all.
-- Assumes nothing.
use borrow.Author.Tests.{eq-eqb, ne_eqb}
use Rattle.search.proofs.EndLaws.{answers-whole}
use Rattle.lowest.proofs.complete.Goals as goal

pub returns-then-tables-eq0 : goal.returns-then-tables-eq0
returns-then-tables-eq0 c = rw (eq-eqb _ _ c.if-tables-eq0.true) (answers-whole _ _ _ c.requires.end_asks c.find.ensures)

pub returns-else-tables-eq0 : goal.returns-else-tables-eq0
returns-else-tables-eq0 c = record { completion = rw (ne_eqb _ _ c.if-tables-eq0.false); room = tt }
