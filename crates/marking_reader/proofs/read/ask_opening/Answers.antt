-- `ask_opening` meets its contract: the file's size, and then its first record.
-- Assumes nothing.
use mathlib.Core.Path.{◌≡◌, sym, ◌∙◌}
use Rattle.std.proofs.Common.{rules, Err}
use Rattle.event_log.proofs.CheckedLaws.{asked-yes, asked-no}
use Rattle.marking_reader.specs.File.{opening}
use Rattle.marking_reader.proofs.read.ask_opening.Goals as goal

pub returns-in_err-ask : goal.returns-in_err-ask
unfolding opening
returns-in_err-ask c =
    let e : c.from_residual.result ≡ Err c.in_err-ask.field-0.0 = search rules in
    let no = asked-no _ _ _ c.in_err-ask.ensures in
    rw no.0 (e ∙ no.1)

pub returns-in-Whole : goal.returns-in-Whole
unfolding opening
returns-in-Whole c = rw (asked-yes _ _ _ c.in_ok-ask.ensures, sym c.in-Whole.ensures) c.ask_head.ensures

pub returns-in-Short : goal.returns-in-Short
unfolding opening
returns-in-Short c = rw (asked-yes _ _ _ c.in_ok-ask.ensures, sym c.in-Short.ensures)

pub returns-in-End : goal.returns-in-End
unfolding opening
returns-in-End c = rw (asked-yes _ _ _ c.in_ok-ask.ensures, sym c.in-End.ensures)
