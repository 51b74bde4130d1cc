-- `begins` meets its contract: by the two tests.
-- Assumes nothing.
use mathlib.Core.Path.{sym, ◌∙◌}
use borrow.Author.Tests.{eq-eqb, ne_eqb}
use Rattle.lists.specs.Lists.{◌and◌}
use Rattle.events.specs.Events.{by}
use Rattle.rules.proofs.judge.begins.Goals as goal

pub returns-then-from-t : goal.returns-then-from-t
unfolding by ◌and◌
returns-then-from-t c = rw (eq-eqb _ _ (sym c.from.ensures ∙ c.if-from-t.true)) c.is_begin.ensures

pub returns-else-from-t : goal.returns-else-from-t
unfolding by ◌and◌
returns-else-from-t c = rw (c.from.ensures, ne_eqb _ _ (λ q. c.if-from-t.false (c.from.ensures ∙ q)))
