-- To be believed: the answers of the counts ("Scan and report"): "transactions" counts those begun, "reads" the store reads; and of the
-- tally.
-- Assumes nothing.
use Rattle.std.specs.Prelude.{ℕ, List, [], ◌∷◌}
use Rattle.events.specs.declared.event.Event.{Event}
use Rattle.std.specs.Prelude.{Result, Ok, Err}
use Rattle.events.specs.declared.refusal.Refusal.{Refusal}
use Rattle.event_log.specs.Checked.{Checked, answered}
use Rattle.event_log.specs.Columns.{Columns, history}
use Rattle.events.specs.Said.{Said, done, event_refused}
use Rattle.event_log.specs.Answer.{history_answer}
use Rattle.opacity.specs.Counts.{counts}
use Rattle.counts.specs.declared.tally.Tally.{Tally}
use Rattle.counts.specs.Tally.{tally}

-- a count's answer: the number, or the question that says no with its event; and the tally's, the four numbers or the question
abbrev pub Counting : Type 0
Counting = Result ℕ Refusal

abbrev pub Tallying : Type 0
Tallying = Result Tally Refusal

-- a number of columns to which no question says no
abbrev pub counted : Checked → ℕ → Counting
counted x n = answered x n

abbrev pub transactions_of : Checked → List Event → Counting
transactions_of x h = counted x (counts h).transactions

abbrev pub store_reads_of : Checked → List Event → Counting
store_reads_of x h = counted x (counts h).reads

unfoldable pub transactions_answer : ℕ → List ℕ → Columns → ℕ → Counting
transactions_answer edition starts c count = transactions_of (history_answer edition starts c count) (history c count)

unfoldable pub store_reads_answer : ℕ → List ℕ → Columns → ℕ → Counting
store_reads_answer edition starts c count = store_reads_of (history_answer edition starts c count) (history c count)

-- the same for a tally
abbrev pub tallied : Checked → Tally → Tallying
tallied x y = answered x y

abbrev pub tally_of : Checked → List Event → Tallying
tally_of x h = tallied x (tally h)

unfoldable pub tally_answer : ℕ → List ℕ → Columns → ℕ → Tallying
tally_answer edition starts c count = tally_of (history_answer edition starts c count) (history c count)

-- what a count says: the number counted, or the question with its event
unfoldable pub count_said : Counting → Said
count_said (Ok n) = done (n ∷ [])
count_said (Err r) = event_refused r

-- what the tally says: how many are committed, aborted, pending and live, or the question with its event
unfoldable pub tally_said : Tallying → Said
tally_said (Ok x) = done (x.committed ∷ x.aborted ∷ x.pending ∷ x.live ∷ [])
tally_said (Err r) = event_refused r
