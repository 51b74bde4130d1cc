-- Vocabulary between crates: it need not be believed, the public contracts end in the paper's definitions.
-- The arrays in which a marking stands while its file is read, and what they keep.
-- Assumes nothing.
use Rattle.std.specs.Prelude.{ℕ, zero, suc, ◌≤◌, ◌<◌, ◌≡◌, Bool, true, false, not, cond, List, [], ◌∷◌, ◌++◌, Ok, Err, eqb, ltb, leb, length, get_or}
use Rattle.std.proofs.Math.Option.{Option, none, some}
use Rattle.lists.specs.Lists.{◌and◌, ◌implies◌, all}
use Rattle.events.specs.declared.event.Event.{Event}
use Rattle.events.specs.Events.{begins}
use Rattle.events.specs.Questions.{Question, ask, refusal, readable}
use Rattle.events.specs.Said.{refuse}
use Rattle.event_log.specs.Checked.{Checked}
use Rattle.opacity.specs.Transactions.{is_store_read}
use Rattle.opacity.specs.Justification.{placed, distinct, is_order}
use Rattle.opacity.specs.Marking.{Marking, Point}
use Rattle.reads.specs.Own.{OwnWrites}
use Rattle.opacity.specs.Arrays.{places_of}
use Rattle.rules.specs.Judge.{content as in_arrays}
use Rattle.marking_reader.specs.declared.step.Progress.{Progress}
use Rattle.marking_reader.specs.declared.step.MarkingStep.TheVariants.{Placed, Pointed}
use Rattle.marking_reader.specs.File.{Asked, transaction_in, outcome_in, event_in, gap_in, Stepped, unless, next_event, FileRead, content, refused}

-- what a marking is read for: a readable history in a log, its own writes, and how many transactions it has
pub record Asking (log : List Event) (own : List ℕ) (b : ℕ) : Type 0 where
  pub readable : readable log ≡ true
  pub owned : OwnWrites log own
  pub count : b ≡ begins log

-- arrays with room for any marking, and no point in the table of gaps, where 65535 stands for none
pub record Fresh (order outcomes gaps : List ℕ) : Type 0 where
  pub order-size : length order ≡ 64
  pub outcomes-size : length outcomes ≡ 64
  pub none : (i : ℕ) → i < length gaps → get_or gaps i 0 ≡ 65535

-- event i, if it is a store read, has a point
abbrev pub point_by : List Event → List ℕ → ℕ → Bool
point_by h gaps i = is_store_read h i implies not (eqb (get_or gaps i 0) 65535)

-- what they ask of the arrays: the transactions placed, how many those are, and one past the last point's event
abbrev pub asked_by : List Event → ℕ → List Bool → ℕ → ℕ → Asked
asked_by h b used filled next =
    record {
      transactions = b;
      store_read = λ i. is_store_read h i;
      next_event = next;
      placed = λ t. get_or used t false;
      every_placed = eqb filled b;
    }

-- the same, as far as the reader has come
abbrev pub asked_at : List Event → ℕ → Progress → Asked
asked_at h b p = asked_by h b p.used p.filled p.next

-- what questions about a byte answer
abbrev pub said_at : Option ℕ → ℕ → Checked
said_at none byte = Ok tt
said_at (some q) byte = Err (refuse q byte)

-- the questions of a place with transaction t and outcome o, and of a point at event e and gap g
unfoldable pub place_questions : ℕ → ℕ → Bool → ℕ → ℕ → List Question
place_questions b next used t o = ask 24 (eqb next 0 and ltb t b and not used) ∷ ask 25 (ltb o 2) ∷ []

unfoldable pub point_questions : ℕ → ℕ → Bool → Bool → ℕ → ℕ → List Question
point_questions b next placed read e g = ask 28 (eqb next 0 implies placed) ∷ ask 26 (leb next e and read) ∷ ask 27 (leb g b) ∷ []

-- 23 to 25 of a place, and 23, 28, 26 and 27 of a point
unfoldable pub place_step : ℕ → ℕ → (ℕ → Bool) → ℕ → List ℕ → ℕ → Stepped
place_step b next used at body end =
    cond (eqb (length body) 4)
    (unless (refusal (place_questions b next (used (transaction_in body)) (transaction_in body) (outcome_in body))) at
    (Placed (transaction_in body) (outcome_in body) end))
    (Err (refuse 23 at))

unfoldable pub point_step : ℕ → ℕ → Bool → (ℕ → Bool) → ℕ → List ℕ → ℕ → Stepped
point_step b next placed reads at body end =
    cond (eqb (length body) 6)
    (unless (refusal (point_questions b next placed (reads (event_in body)) (event_in body) (gap_in body))) at
    (Pointed (event_in body) (gap_in body) end))
    (Err (refuse 23 at))

-- the points that a table of gaps holds at the first k events
abbrev pub point_in : List ℕ → ℕ → List Point
point_in gaps k = cond (eqb (get_or gaps k 0) 65535) [] (record { event = k; gap = get_or gaps k 0 } ∷ [])

unfoldable pub points_of : List ℕ → ℕ → List Point
points_of gaps zero = []
points_of gaps (suc k) = points_of gaps k ++ point_in gaps k

-- the marking read so far: the first `filled` places, and the points of the events below `next`
unfoldable pub so_far : List ℕ → List ℕ → ℕ → List ℕ → ℕ → Marking
so_far order outcomes filled gaps next = record { places = places_of order outcomes filled; points = points_of gaps next }

pub record Sound (h : List Event) (order outcomes : List ℕ) (used : List Bool) (filled : ℕ) (gaps : List ℕ) (next : ℕ) : Type 0 where
  pub few : length h ≤ 2048
  pub few-begun : begins h ≤ 64
  pub filled-le : filled ≤ begins h
  pub order-size : length order ≡ 64
  pub outcomes-size : length outcomes ≡ 64
  pub used-size : length used ≡ 64
  pub gaps-room : length h ≤ length gaps
  pub used-holds : (t : ℕ) → get_or used t false ≡ placed t (places_of order outcomes filled)
  pub low : all (λ p. ltb p.transaction (begins h)) (places_of order outcomes filled) ≡ true
  pub apart : distinct (places_of order outcomes filled) ≡ true
  pub next-holds : next_event (points_of gaps next) ≡ next
  pub next_le : next ≤ length h
  pub none_after : (i : ℕ) → next ≤ i → i < length gaps → get_or gaps i 0 ≡ 65535
  pub fits : (i : ℕ) → i < next → eqb (get_or gaps i 0) 65535 ≡ false → (get_or gaps i 0 ≤ begins h) × (is_store_read h i ≡ true)

-- what the arrays hold where no question says no: every transaction is placed, and every store read has a point
pub record Kept (h : List Event) (order outcomes gaps : List ℕ) : Type 0 where
  pub gaps-room : length h ≤ length gaps
  pub ordered : is_order (begins h) (places_of order outcomes (begins h)) ≡ true
  pub pointed : (i : ℕ) → i < length h → is_store_read h i ≡ not (eqb (get_or gaps i 0) 65535)
  pub gaps-fit : (i : ℕ) → i < length h → is_store_read h i ≡ true → get_or gaps i 0 ≤ begins h

-- the reader's answer: with no question that says no it is what stands in the arrays
abbrev pub read_as : List Event → List ℕ → List ℕ → List ℕ → Checked → FileRead
read_as h order outcomes gaps (Ok u) = content (in_arrays h order outcomes gaps)
read_as h order outcomes gaps (Err r) = refused r.question r.at
