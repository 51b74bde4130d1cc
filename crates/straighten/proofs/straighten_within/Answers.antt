-- `straighten_within` meets its contract: what is taken in is what the columns hold.
-- Assumes nothing.
use mathlib.Core.Path.{◌≡◌, sym, ◌∙◌}
use native.Mathlib.Omega.{arith}
use lib.ListN.{length, take, length-replicate}
use lib.Seq.{length-take-le}
use Rattle.std.specs.Prelude.{Ok, Err}
use Rattle.events.specs.declared.event.Event.{Event}
use Rattle.event_log.specs.Lent.{history_of, lent_answer}
use Rattle.event_log.specs.Rows.{Admitted}
use Rattle.event_log.specs.Starts.{start_of}
use Rattle.event_log.proofs.DoorLaws.{in_rows}
use Rattle.marking_reader.specs.File.{known, file_read}
use Rattle.straighten.specs.Answer.{after_file, straightened_answer}
use Rattle.straighten.proofs.straighten_within.Given.{Over}
use Rattle.straighten.proofs.straighten_within.Goals as goal
use Rattle.straighten.proofs.straighten_within.Goals.{In-Ok}

taken_in : (g : Over) (c : In-Ok g) → Admitted (history_of c.args.history.now) c.args.history.now.count c.admit.new.rows
taken_in g c =
    in_rows _ _ _ _ _ _ _ c.admit.ensures.value c.admit.ensures.taken
    (λ l. omega (arith, c.requires.rows l, length-replicate {A = Event}))
    c.in-Ok.is

pub shared_whole_as_front-straighten_log : goal.shared_whole_as_front-straighten_log
shared_whole_as_front-straighten_log g c =
    let w = taken_in g (goal.at.shared_whole_as_front-straighten_log g c).In-Ok in
    (omega (arith, w.room, c.admit.ensures.taken.long, length-replicate {A = Event}), omega (arith, c.requires.few))

pub returns-in-Ok : goal.returns-in-Ok
unfolding straightened_answer
returns-in-Ok g c =
    let a = c.args in
    let w = taken_in g (goal.at.returns-in-Ok g c).In-Ok in
    let fine : lent_answer a.history.now ≡ Ok tt = sym c.admit.ensures.value ∙ c.in-Ok.is in
    let n : length (take a.history.now.count c.admit.new.rows) ≡ a.history.now.count = length-take-le _ _ w.room in
    c.straighten_log.ensures
    ∙ (λ i. after_file (start_of a.history.now.starts.now) (w.same i) (n i) a.file.now a.output.now a.moved.now (file_read (known (w.same i)) a.file.now))
    ∙ sym (rw fine)

pub returns-in-Err : goal.returns-in-Err
unfolding straightened_answer
returns-in-Err g c =
    let refused : lent_answer c.args.history.now ≡ Err c.in-Err.refusal = sym c.admit.ensures.value ∙ c.in-Err.is in
    rw refused
