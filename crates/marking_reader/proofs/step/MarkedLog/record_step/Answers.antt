-- `record_step` meets its contract: by the record's kind.
-- Assumes nothing.
use native.Mathlib.Omega.{arith}
use mathlib.Core.Path.{sym, ◌∙◌}
use borrow.Author.Tests.{eq-eqb, ne_eqb}
use Rattle.marking_reader.specs.State.{asked_at}
use Rattle.marking_reader.proofs.StepLaws.{body-place, body-point, body-other}
use Rattle.marking_reader.proofs.step.MarkedLog.record_step.Goals as goal

pub returns-in-32 : goal.returns-in-32
returns-in-32 c =
    let a = c.args in
    c.place_step.ensures ∙ sym (body-place (asked_at a.self.now.log.now a.self.now.begun a.progress.now) _ a.r.kind _ _ (eq-eqb _ _ c.in-32.is))

pub returns-in-33 : goal.returns-in-33
returns-in-33 c =
    let a = c.args in
    c.point_step.ensures ∙ sym (body-point (asked_at a.self.now.log.now a.self.now.begun a.progress.now) _ a.r.kind _ _ (eq-eqb _ _ c.in-33.is))

pub returns-in_default : goal.returns-in_default
returns-in_default c =
    let a = c.args in
    sym (body-other (asked_at a.self.now.log.now a.self.now.begun a.progress.now) _ a.r.kind _ _ (ne_eqb _ _ (λ q. omega arith)) (ne_eqb _ _ (λ q. omega arith)))
