-- Vocabulary between crates: it need not be believed, the public contracts end in the paper's definitions.
-- The witness: an order of places that justifies the events passed, as one number, carried on to one event more.
-- Assumes nothing.
use Rattle.std.specs.Prelude.{◌≡◌, ℕ, ◌+◌, ◌*◌, ◌^◌, ◌<◌, true, false, cond, List, Option, Some, None, IfSome}
use Rattle.events.specs.declared.event.Event.{Event}
use Rattle.events.specs.Events.{is_begin, is_commit}
use Rattle.event_log.specs.Starts.{start_of}
use Rattle.opacity.specs.Marking.{outcome_number}
use Rattle.opacity.specs.Carry.{carries}
use Rattle.places.specs.Places.{codes_of, decode, writes_in}
use Rattle.places.specs.State.{Ordered}
use Rattle.places.specs.Tree.{Completion, Answers}

-- the code of the place of a transaction that begins: its number times 2, plus the outcome that the event records
abbrev pub code_of : Event → ℕ
code_of e = e.transaction * 2 + outcome_number (is_commit e)

-- with an event that begins, the new transaction comes last
unfoldable pub carried_code : ℕ → Event → ℕ
carried_code order e = cond (is_begin e) (order * 32 + code_of e) order

-- the order of n places with the event e, if it justifies e too; f is the table of facts
unfoldable pub kept : List ℕ → List (List ℕ) → ℕ → ℕ → Event → Option ℕ
kept starts f n order e = cond (carries (start_of starts) (writes_in f) (decode (codes_of n order)) e) (Some (carried_code order e)) None

-- an order of n places and an event that may come next
pub record Carryable (n order : ℕ) (e : Event) : Type 0 where
  pub ordered : Ordered n order
  pub room : order < 2 ^ (n * 5 + 1)
  pub transaction : e.transaction < 10
  pub register : e.register < 32
  pub another : is_begin e ≡ true → n < 10
  pub known : is_begin e ≡ false → e.transaction < n

-- the answer a is the order that was kept, or, where none was, the answer of the search
pub record Judges (kept : Option ℕ) (n : ℕ) (a : Option ℕ) (x : Completion) : Type 0 where
  pub stays : IfSome kept (λ order. a ≡ Some order)
  pub searched : kept ≡ None → Answers n a x
