-- To be believed: how an answer is said, in the paper's numbers and values. Each answer has a definition `said` beside its own.
-- Assumes nothing.
use Rattle.std.specs.Prelude.{ℕ, List, Result, Ok, Err}
use Rattle.events.specs.declared.refusal.Refusal.{Refusal}

-- What an answer says, in whatever call. No question says no: it is done, with the values that the call gives; or the finder has nothing
-- to write; or the scan names the event that faults the history, with its cause; or a rule is broken (1 for A to 5 for E), with its event
-- and transaction. A question says no: its number comes with the event that it is about, or with the byte of a file.
pub data Said : Type 0 where
  done : List ℕ → Said
  nothing : Said
  faulted : ℕ → ℕ → Said
  broken : ℕ → ℕ → ℕ → Said
  at_event : ℕ → ℕ → Said
  at_byte : ℕ → ℕ → Said

-- the paper's number of an answer: the question that says no, or 0 where none does
unfoldable pub number : Said → ℕ
number (done vs) = 0
number nothing = 0
number (faulted e w) = 0
number (broken r e t) = 0
number (at_event q e) = q
number (at_byte q b) = q

-- a question that says no, with what it is about
abbrev pub refuse : ℕ → ℕ → Refusal
refuse q at = record { question = q; at = at }

-- what a call answers, with what its question is about
abbrev pub about : {A : Type 0} → Result A ℕ → ℕ → Result A Refusal
about (Ok x) at = Ok x
about (Err q) at = Err (refuse q at)

abbrev pub event_refused : Refusal → Said
event_refused r = at_event r.question r.at

abbrev pub byte_refused : Refusal → Said
byte_refused r = at_byte r.question r.at
