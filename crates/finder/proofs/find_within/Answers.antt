-- `finder::find_within` meets its contract: the rows taken in are the history, whose prefix is judged. Assumes nothing.
use mathlib.Core.Path.{◌≡◌, sym, ap, ◌∙◌}
use native.Mathlib.Omega.{arith}
use lib.ListN.{length-replicate, take}
use lib.Seq.{take-take}
use Rattle.std.proofs.Common.{rules, Err}
use Rattle.events.specs.declared.event.Event.{Event}
use Rattle.events.specs.Questions.{readable}
use Rattle.event_log.specs.Lent.{history_of}
use Rattle.event_log.specs.Rows.{Admitted}
use Rattle.event_log.proofs.DoorLaws.{in_rows, prefix-readable}
use Rattle.finder.specs.Answer.{Finding, gives}
use Rattle.finder.proofs.AnswerLaws.{columns-refused, columns-passed}
use Rattle.finder.proofs.find_within.Given.{Over}
use Rattle.finder.proofs.find_within.Goals as goal
use Rattle.finder.proofs.find_within.Goals.{In_ok-admit}

taken_in : (g : Over) (c : In_ok-admit g) → Admitted (history_of c.args.history.now) c.args.history.now.count c.admit.new.rows
taken_in g c =
    in_rows _ _ _ _ _ _ _ c.admit.ensures.value c.admit.ensures.taken
    (λ l. omega (arith, c.requires.rows l, length-replicate {A = Event}))
    c.in_ok-admit.was

pub returns-in_err-admit : goal.returns-in_err-admit
returns-in_err-admit g c =
    let o = c.args.output.now in
    let e : c.from_residual.result ≡ Err c.in_err-admit.field-0.0 = search rules in
    ap (λ (r : Finding). gives r o) e ∙ columns-refused _ _ _ _ _ o c.requires.inside (sym c.in_err-admit.ensures.value)

pub shared_whole_as_front-find_log : goal.shared_whole_as_front-find_log
shared_whole_as_front-find_log g c =
    let w = taken_in g (goal.at.shared_whole_as_front-find_log g c).In_ok-admit in
    (omega (arith, w.room, c.admit.ensures.taken.long, length-replicate {A = Event}), omega (arith, c.requires.few))

pub find_log-requires : goal.find_log-requires
find_log-requires g c =
    let w = taken_in g (goal.at.find_log-requires g c).In_ok-admit in
    prefix-readable _ _ _ c.requires.inside w.room (ap readable w.same ∙ w.readable)

pub returns : goal.returns
returns g c =
    let w = taken_in g (goal.at.returns g c).In_ok-admit in
    c.find_log.ensures
    ∙ columns-passed _ _ _ _ _ _ c.requires.inside (sym c.in_ok-admit.ensures.value)
    (sym (take-take c.args.prefix c.args.history.now.count _ c.requires.inside) ∙ ap (take c.args.prefix) w.same)
