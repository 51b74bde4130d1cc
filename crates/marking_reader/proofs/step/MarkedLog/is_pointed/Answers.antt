-- `is_pointed` meets its contract: by the gap, and else by the event.
-- Assumes nothing.
use mathlib.Core.Path.{ap, ◌∙◌}
use mathlib.Core.Bool.{not}
use borrow.Author.Tests.{eq-eqb, ne_eqb}
use Rattle.marking_reader.proofs.PointLaws.{with-gap, without-gap}
use Rattle.marking_reader.proofs.step.MarkedLog.is_pointed.Goals as goal

pub returns-then-gaps-i : goal.returns-then-gaps-i
returns-then-gaps-i c =
    let a = c.args in
    let e = ne_eqb _ _ c.if-gaps-i.true in
    ap not e ∙ with-gap a.self.now.log.now a.gaps.now a.i e

pub returns-else-gaps-i : goal.returns-else-gaps-i
returns-else-gaps-i c =
    let a = c.args in
    ap not c.is_store_read.ensures ∙ without-gap a.self.now.log.now a.gaps.now a.i (eq-eqb _ _ c.if-gaps-i.false)
