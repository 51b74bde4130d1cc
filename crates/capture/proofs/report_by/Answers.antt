-- `report_by` meets its contract: what is said of the log is what is said of the file that was read into it. Assumes nothing.
use mathlib.Core.Path.{◌≡◌, ap, ◌∙◌}
use lib.ListN.{length-replicate}
use Rattle.std.proofs.Common.{rules, Ok, Err}
use Rattle.events.specs.Questions.{readable}
use Rattle.capture.proofs.ReportLaws.{report-read, report-refused}
use Rattle.capture.proofs.report_by.Goals as goal

pub read_log-requires : goal.read_log-requires
read_log-requires g c n l m = simp length-replicate (c.requires.rows n l m)

pub judge_log-requires : goal.judge_log-requires
judge_log-requires g c = let held = c.in_ok-read.ensures.admitted in ap readable held.same ∙ held.readable

pub returns-in_err-read : goal.returns-in_err-read
returns-in_err-read g c =
    let e : c.from_residual.result ≡ Err c.in_err-read.field-0.0 = search rules in
    e ∙ report-refused _ _ c.in_err-read.field-0.0 c.in_err-read.ensures.value

pub returns : goal.returns
returns g c =
    let held = c.in_ok-read.ensures.admitted in
    ap Ok c.judge_log.ensures ∙ report-read _ _ c.in_ok-read.read _ c.in_ok-read.ensures.value held.same
