-- `finder::find_log` meets its contract: 31 and 32, and then the lowest marking. Assumes nothing.
use mathlib.Core.Path.{◌≡◌, sym, ap, ◌∙◌}
use lib.ListN.{length}
use Rattle.std.proofs.Common.{rules, Err}
use Rattle.event_log.specs.Checked.{Checked}
use Rattle.event_log.specs.Starts.{start_of}
use Rattle.finder.specs.Answer.{Finding, gives, lowest_marking, decided}
use Rattle.finder.specs.Logs.{find_of}
use Rattle.finder.proofs.AnswerLaws.{decided-refused, refused-31, refused-32, passed-31-32}
use Rattle.finder.proofs.find_log.Goals as goal

pub returns-in_err-ask : goal.returns-in_err-ask
unfolding find_of
returns-in_err-ask c =
    let o = c.args.output.now in
    let e : c.from_residual.result ≡ Err c.in_err-ask.field-0.0 = search rules in
    ap (λ (r : Finding). gives r o) e
    ∙ decided-refused _ o (refused-31 c.args.log.now c.args.count (length o) c.transactions_begun-begun.ensures c.in_err-ask.ensures)

pub returns-in_err-ask-2 : goal.returns-in_err-ask-2
unfolding find_of
returns-in_err-ask-2 c =
    let o = c.args.output.now in
    let e : c.from_residual-in_err-ask-2.result ≡ Err c.in_err-ask-2.field-0.0 = search rules in
    ap (λ (r : Finding). gives r o) e
    ∙ decided-refused _ o (refused-32 c.args.log.now c.args.count (length o) c.transactions_begun-begun.ensures c.in_ok-ask.ensures c.has_room.ensures c.in_err-ask-2.ensures)

pub returns : goal.returns
unfolding find_of
returns c =
    let o = c.args.output.now in
    c.find_lowest.ensures
    ∙ ap (λ (x : Checked). decided x (lowest_marking (start_of c.args.starts.now) c.args.log.now) o)
    (sym (passed-31-32 c.args.log.now c.args.count (length o) c.transactions_begun-begun.ensures c.in_ok-ask.ensures c.has_room.ensures c.in_ok-ask-2.ensures))
