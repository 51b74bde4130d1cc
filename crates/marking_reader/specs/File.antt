-- To be believed: marking files (the paper, "Marking and checker"), that is the questions 1, 2 and 21 to 29, and the content of a file.
-- Assumes nothing.
use Rattle.std.specs.Prelude.{ℕ, zero, suc, ◌+◌, Bool, not, cond, List, [], ◌∷◌, ◌++◌, Result, Ok, Err, eqb, ltb, leb, length}
use Rattle.std.proofs.Math.Option.{Option, none, some, get_or}
use Rattle.events.specs.declared.event.Event.{Event}
use Rattle.records.specs.declared.record.Record.{Record}
use Rattle.records.specs.declared.record.Found.{Found}
use Rattle.records.specs.declared.record.Found.TheVariants.{Whole, Short, End}
use Rattle.lists.specs.Lists.{◌and◌, ◌or◌, ◌implies◌, any, latest, every}
use Rattle.records.specs.Bytes.{u16_at, u32_at}
use Rattle.events.specs.Events.{begins}
use Rattle.events.specs.declared.refusal.Refusal.{Refusal}
use Rattle.events.specs.Questions.{Question, ask, refusal}
use Rattle.events.specs.Said.{refuse}
use Rattle.records.specs.Records.{record_at, body_of}
use Rattle.opacity.specs.Transactions.{is_store_read}
use Rattle.opacity.specs.Justification.{placed}
use Rattle.opacity.specs.Marking.{Marking, Point}
use Rattle.marking_reader.specs.declared.step.MarkingStep.{MarkingStep}
use Rattle.marking_reader.specs.declared.step.MarkingStep.TheVariants.{Placed, Pointed, Finished}

-- What the questions ask of the history: how many transactions and events it has, and whether an event is a store read.
pub record Known : Type 0 where
  pub transactions : ℕ
  pub events : ℕ
  pub store_read : ℕ → Bool

abbrev pub known : List Event → Known
known h = record { transactions = begins h; events = length h; store_read = λ i. is_store_read h i }

-- one past the last point's event, 0 before the first point
unfoldable pub next_event : List Point → ℕ
next_event ps = get_or (latest (λ p. some (p.event + 1)) ps) 0

unfoldable pub every_placed : Known → Marking → Bool
every_placed k m = every (λ t. placed t m.places) k.transactions

unfoldable pub has_point : List Point → ℕ → Bool
has_point ps i = any (λ p. eqb p.event i) ps

unfoldable pub every_pointed : Known → Marking → Bool
every_pointed k m = every (λ i. k.store_read i implies has_point m.points i) k.events

-- What the questions ask of the history and of the marking m that was read before.
pub record Asked : Type 0 where
  pub transactions : ℕ
  pub store_read : ℕ → Bool
  pub next_event : ℕ
  pub placed : ℕ → Bool
  pub every_placed : Bool

abbrev pub asked : Known → Marking → Asked
asked k m =
    record {
      transactions = k.transactions;
      store_read = k.store_read;
      next_event = next_event m.points;
      placed = λ t. placed t m.places;
      every_placed = every_placed k m;
    }

-- The records of a marking, and what their bodies say.
abbrev pub is_place : ℕ → Bool
is_place kind = eqb kind 32

abbrev pub is_point : ℕ → Bool
is_point kind = eqb kind 33

abbrev pub transaction_in : List ℕ → ℕ
transaction_in body = u16_at body 0

abbrev pub outcome_in : List ℕ → ℕ
outcome_in body = u16_at body 2

abbrev pub event_in : List ℕ → ℕ
event_in body = u32_at body 0

abbrev pub gap_in : List ℕ → ℕ
gap_in body = u16_at body 4

-- The questions in the order of the paper: of the first record, of each further one, where m has been read before it, and of the end.
unfoldable pub head_questions : List ℕ → Record → List Question
head_questions s r = ask 21 (eqb r.kind 2 and eqb r.size 2 and eqb (u16_at (body_of s r) 0) 1) ∷ []

unfoldable pub record_questions : Asked → ℕ → List ℕ → List Question
record_questions a kind body =
    ask 22 (is_place kind or is_point kind)
    ∷ ask 23 (eqb (length body) (cond (is_place kind) 4 6))
    ∷ ask 24
    (is_place kind implies eqb a.next_event 0 and ltb (transaction_in body) a.transactions and not (a.placed (transaction_in body)))
    ∷ ask 25 (is_place kind implies ltb (outcome_in body) 2)
    ∷ ask 28 (is_point kind implies eqb a.next_event 0 implies a.every_placed)
    ∷ ask 26 (is_point kind implies leb a.next_event (event_in body) and a.store_read (event_in body))
    ∷ ask 27 (is_point kind implies leb (gap_in body) a.transactions)
    ∷ []

unfoldable pub end_questions : Bool → Bool → List Question
end_questions placed pointed = ask 28 placed ∷ ask 29 pointed ∷ []

-- what a record that no question refuses gives: a place or a point, and the byte where it ends
abbrev pub taken : ℕ → List ℕ → ℕ → MarkingStep
taken kind body end = cond (is_place kind) (Placed (transaction_in body) (outcome_in body) end) (Pointed (event_in body) (gap_in body) end)

-- what stands at a byte answers: what it gives, or the question that says no to it with a byte
abbrev pub Stepped : Type 0
Stepped = Result MarkingStep Refusal

abbrev pub unless : Option ℕ → ℕ → MarkingStep → Stepped
unless none byte x = Ok x
unless (some q) byte x = Err (refuse q byte)

unfoldable pub body_step : Asked → ℕ → ℕ → List ℕ → ℕ → Stepped
body_step a at kind body end = unless (refusal (record_questions a kind body)) at (taken kind body end)

unfoldable pub end_step : ℕ → Bool → Bool → Stepped
end_step byte placed pointed = unless (refusal (end_questions placed pointed)) byte Finished

-- the byte is the record's, or the file's length at the end
abbrev pub step_on : Asked → Bool → List ℕ → ℕ → Found → Stepped
step_on a pointed s at (Whole r) = body_step a at r.kind (body_of s r) (r.start + r.size)
step_on a pointed s at Short = Err (refuse 2 at)
step_on a pointed s at End = end_step (length s) a.every_placed pointed

-- what stands at a byte answers: 2 and 22 to 29
unfoldable pub step_at : Asked → Bool → List ℕ → ℕ → Stepped
step_at a pointed s at = step_on a pointed s at (record_at s at)

-- the content of a file, or the question that says no with its byte
pub data FileRead : Type 0 where
  content : Marking → FileRead
  refused : ℕ → ℕ → FileRead

abbrev pub with_place : Marking → ℕ → ℕ → Marking
with_place m t o = record { places = m.places ++ (record { transaction = t; committed = eqb o 1 } ∷ []); points = m.points }

abbrev pub with_point : Marking → ℕ → ℕ → Marking
with_point m e g = record { places = m.places; points = m.points ++ (record { event = e; gap = g } ∷ []) }

abbrev pub continued : (ℕ → Marking → FileRead) → Marking → Stepped → FileRead
continued rest m (Ok (Placed t o end)) = rest end (with_place m t o)
continued rest m (Ok (Pointed e g end)) = rest end (with_point m e g)
continued rest m (Ok Finished) = content m
continued rest m (Err r) = refused r.question r.at

unfoldable pub walk : Known → ℕ → List ℕ → ℕ → Marking → FileRead
walk k zero s at m = refused 0 at
walk k (suc left) s at m = continued (walk k left s) m (step_at (asked k m) (every_pointed k m) s at)

abbrev pub headed : List ℕ → Found → Option ℕ
headed s (Whole r) = refusal (head_questions s r)
headed s Short = some 2
headed s End = some 21

-- the first of 1, 2 and 21 that says no: all at byte 0
unfoldable pub opening : List ℕ → Option ℕ
opening s = cond (leb (length s) 32768) (headed s (record_at s 0)) (some 1)

abbrev pub nothing_read : Marking
nothing_read = record { places = []; points = [] }

-- a head is 6 bytes; a record takes more than a byte, so that as many steps as bytes are enough
abbrev pub after_opening : Known → List ℕ → Option ℕ → FileRead
after_opening k s none = walk k (suc (length s)) s 6 nothing_read
after_opening k s (some q) = refused q 0

unfoldable pub file_read : Known → List ℕ → FileRead
file_read k s = after_opening k s (opening s)
