-- `point_step` meets its contract: its size, and then the questions of its fields.
-- Assumes nothing.
use mathlib.Core.Path.{◌≡◌, ◌∙◌}
use Rattle.std.proofs.Common.{rules, Err}
use Rattle.event_log.proofs.CheckedLaws.{asked-yes}
use Rattle.marking_reader.specs.State.{point_step}
use Rattle.marking_reader.proofs.StepLaws.{sized-first, gives, refuses}
use Rattle.marking_reader.proofs.step.MarkedLog.point_step.Goals as goal

pub returns-in_err-ask : goal.returns-in_err-ask
unfolding point_step
returns-in_err-ask c =
    let e : c.from_residual.result ≡ Err c.in_err-ask.field-0.0 = search rules in
    e ∙ sized-first _ _ _ _ c.in_err-ask.ensures

pub returns-in_err-ask_point : goal.returns-in_err-ask_point
unfolding point_step
returns-in_err-ask_point c =
    let e : c.from_residual-in_err-ask_point.result ≡ Err c.in_err-ask_point.field-0.0 = search rules in
    e ∙ rw (asked-yes _ _ _ c.in_ok-ask.ensures, ← c.u32_at-event.ensures, ← c.u16_at-gap.ensures)
    (refuses _ _ _ c.in_err-ask_point.ensures)

pub returns : goal.returns
unfolding point_step
returns c =
    rw (asked-yes _ _ _ c.in_ok-ask.ensures, ← c.u32_at-event.ensures, ← c.u16_at-gap.ensures)
    (gives _ _ _ c.in_ok-ask_point.ensures)
