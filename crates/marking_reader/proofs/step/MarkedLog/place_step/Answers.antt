-- `place_step` meets its contract: its size, and then the questions of its fields.
-- Assumes nothing.
use mathlib.Core.Path.{◌≡◌, ◌∙◌}
use Rattle.std.proofs.Common.{rules, Err}
use Rattle.event_log.proofs.CheckedLaws.{asked-yes}
use Rattle.marking_reader.specs.State.{place_step}
use Rattle.marking_reader.proofs.StepLaws.{sized-first, gives, refuses}
use Rattle.marking_reader.proofs.step.MarkedLog.place_step.Goals as goal

pub returns-in_err-ask : goal.returns-in_err-ask
unfolding place_step
returns-in_err-ask c =
    let e : c.from_residual.result ≡ Err c.in_err-ask.field-0.0 = search rules in
    e ∙ sized-first _ _ _ _ c.in_err-ask.ensures

pub returns-in_err-ask_place : goal.returns-in_err-ask_place
unfolding place_step
returns-in_err-ask_place c =
    let e : c.from_residual-in_err-ask_place.result ≡ Err c.in_err-ask_place.field-0.0 = search rules in
    e ∙ rw (asked-yes _ _ _ c.in_ok-ask.ensures, ← c.u16_at-transaction.ensures, ← c.u16_at-outcome.ensures)
    (refuses _ _ _ c.in_err-ask_place.ensures)

pub returns : goal.returns
unfolding place_step
returns c =
    rw (asked-yes _ _ _ c.in_ok-ask.ensures, ← c.u16_at-transaction.ensures, ← c.u16_at-outcome.ensures)
    (gives _ _ _ c.in_ok-ask_place.ensures)
