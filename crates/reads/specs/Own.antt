-- Vocabulary between crates: it need not be believed, the public contracts end in the paper's definitions.
-- The last write of each transaction to each register, as one past its event.
-- Assumes nothing.
use Rattle.std.specs.Prelude.{ℕ, zero, suc, ◌+◌, ◌≤◌, ◌<◌, ◌≡◌, Bool, false, cond, List, [], eqb, length, get_or, set}
use Rattle.std.proofs.Math.Option.{Option, none, some}
use Rattle.events.specs.declared.event.Event.{Event}
use Rattle.events.specs.Events.{is_read, is_write, event_at}
use Rattle.opacity.specs.Transactions.{own_write, is_store_read}

-- one past event i, if it writes
abbrev pub noted_at : Event → ℕ → ℕ → ℕ
noted_at e i before = cond (is_write e) (i + 1) before

-- what a table of last writes has at a register of a transaction
abbrev pub last_at : List (List ℕ) → ℕ → ℕ → ℕ
last_at rows t r = get_or (get_or rows t []) r 0

-- the table with event i noted
abbrev pub noted : List (List ℕ) → Event → ℕ → List (List ℕ)
noted rows e i =
    let row : List ℕ = get_or rows e.transaction [] in
    set rows e.transaction (set row e.register (noted_at e i (get_or row e.register 0)))

-- a read, where nothing stands for an own write
abbrev pub reads_store : Event → ℕ → Bool
reads_store e own = cond (eqb own 0) (is_read e) false

-- the gap of an event: its transaction's place, if it reads the store, and else what stands for none
abbrev pub gap_of : Bool → Event → List ℕ → ℕ
gap_of store e place = cond store (get_or place e.transaction 0) 65535

-- the same of event i
abbrev pub placed_at : List Event → List ℕ → ℕ → ℕ
placed_at h place i = gap_of (is_store_read h i) (event_at h i) place

-- the value that is written by the event before a number, none before 0
abbrev pub value_before : List Event → ℕ → Option ℕ
value_before h zero = none
value_before h (suc j) = some (event_at h j).value

-- for each event, one past an earlier one, which wrote its register last in its transaction; 0 for none
pub record OwnWrites (h : List Event) (own : List ℕ) : Type 0 where
  pub room : length h ≤ length own
  pub earlier : (i : ℕ) → i < length h → get_or own i 0 ≤ i
  pub holds : (i : ℕ) → i < length h → value_before h (get_or own i 0) ≡ own_write h i
