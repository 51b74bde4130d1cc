-- `finder::find_marking` meets its contract: 17, 3 and 18, one after the other, and then what is found of the prefix. Assumes nothing.
use mathlib.Core.Path.{◌≡◌, ap, ◌∙◌}
use Rattle.std.proofs.Common.{rules, Err}
use Rattle.finder.specs.Answer.{Finding, gives}
use Rattle.finder.proofs.AnswerLaws.{refused-17, refused-3, refused-18, longer}
use Rattle.finder.proofs.find_marking.Goals as goal

pub returns-in_err-ask : goal.returns-in_err-ask
returns-in_err-ask c =
    let e : c.from_residual.result ≡ Err c.in_err-ask.field-0.0 = search rules in
    ap (λ (r : Finding). gives r c.args.output.now) e ∙ refused-17 _ _ _ _ _ _ c.in_err-ask.ensures c.hold.ensures

pub returns-in_err-ask-2 : goal.returns-in_err-ask-2
returns-in_err-ask-2 c =
    let e : c.from_residual-in_err-ask-2.result ≡ Err c.in_err-ask-2.field-0.0 = search rules in
    ap (λ (r : Finding). gives r c.args.output.now) e
    ∙ refused-3 _ _ _ _ _ _ c.in_ok-ask.ensures c.hold.ensures c.in_err-ask-2.ensures c.is_admitted.ensures

pub returns-then-prefix-count : goal.returns-then-prefix-count
returns-then-prefix-count c =
    refused-18 _ _ _ _ _ _ c.in_ok-ask.ensures c.hold.ensures c.in_ok-ask-2.ensures c.is_admitted.ensures (longer _ _ c.if-prefix-count.true)
