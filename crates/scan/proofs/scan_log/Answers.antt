-- `scan::scan_log` meets its contract: 31, and then the prefixes. Assumes nothing.
use mathlib.Core.Path.{◌≡◌, ap, ◌∙◌}
use Rattle.std.proofs.Common.{rules, Ok, Err}
use Rattle.scan.proofs.AnswerLaws.{scan-refused, scan-passed}
use Rattle.scan.proofs.scan_log.Goals as goal

pub returns-in_err-ask : goal.returns-in_err-ask
returns-in_err-ask c =
    let e : c.from_residual.result ≡ Err c.in_err-ask.field-0.0 = search rules in
    e ∙ scan-refused c.args.starts.now c.args.log.now c.transactions_begun.ensures c.in_err-ask.ensures

pub returns : goal.returns
returns c = ap Ok c.scan_prefixes.ensures ∙ scan-passed c.args.starts.now c.args.log.now c.transactions_begun.ensures c.in_ok-ask.ensures
