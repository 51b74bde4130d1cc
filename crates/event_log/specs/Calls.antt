-- To be believed: questions put to a call of the finder or the scan (the paper, "Finder"), one group after the other.
-- Assumes nothing.
use Rattle.std.specs.Prelude.{Ok, Err}
use Rattle.std.specs.Prelude.{ℕ, List}
use Rattle.std.proofs.Math.Option.{get_or}
use Rattle.event_log.specs.Checked.{Checked}
use Rattle.events.specs.Questions.{Question, refusal}
use Rattle.event_log.specs.Answer.{refused_with}

-- the first of some questions that says no; the count is their event
unfoldable pub asked_of : ℕ → List Question → Checked
asked_of count qs = get_or (refused_with count (refusal qs)) (Ok tt)

-- the first of two groups that refuses
unfoldable pub then_checked : Checked → Checked → Checked
then_checked (Ok tt) b = b
then_checked (Err r) b = Err r
