-- To be believed: running the transactions of an order one at a time (the paper, "Justification"). It is said by a machine with a store,
-- and with no notion of writers, own reads or legality: `proofs/Serial.antt` proves that justification demands exactly the reads that
-- this machine gives.
-- Assumes nothing.
use Rattle.std.specs.Prelude.{ℕ, ◌≤◌, ◌<◌, suc, ◌≡◌, ◌⊎◌, Bool, true, cond, List, [], ◌∷◌, eqb, length, take}
use Rattle.lists.specs.Lists.{◌and◌, ◌implies◌, keep}
use Rattle.events.specs.declared.event.Event.{Event}
use Rattle.events.specs.Events.{event_at, is_read, is_write, begins}
use Rattle.opacity.specs.Justification.{Place, is_order, outcome_kept, real_time_kept}
use Rattle.opacity.specs.Lowest.{lower}
use Rattle.opacity.specs.Store.{Store, put}
use Rattle.opacity.specs.Scan.{Cause, cause}

-- what an event does to the view of its transaction: a write puts its value there, the others change nothing
unfoldable pub does : Event → Store → Store
does e view = cond (is_write e) (put e.register e.value view) view

-- the events of the transaction t, in the order of the log
unfoldable pub events_of : ℕ → List Event → List Event
events_of t h = keep (λ e. eqb e.transaction t) h

-- the view that is left when the events es have run
unfoldable pub run : List Event → Store → Store
run [] view = view
run (e ∷ es) view = run es (does e view)

-- while the events es run, every read gets the value of its register in the view
unfoldable pub reads_right : List Event → Store → Bool
reads_right [] view = true
reads_right (e ∷ es) view = (is_read e implies eqb e.value (view e.register)) and reads_right es (does e view)

-- the store after the transaction of a place has run: its view if it is committed; the view of an aborted one is discarded
unfoldable pub after : List Event → Place → Store → Store
after h p store = cond p.committed (run (events_of p.transaction h) store) store

-- the store after the places P have run, one at a time
unfoldable pub serial_store : Store → List Event → List Place → Store
serial_store store h [] = store
serial_store store h (p ∷ P) = serial_store (after h p store) h P

-- while the places J run one at a time, every read, those of aborted transactions included, gets the value of its register in the view of
-- its transaction, which begins as the store
unfoldable pub runs_right : Store → List Event → List Place → Bool
runs_right store h [] = true
runs_right store h (p ∷ J) = reads_right (events_of p.transaction h) store and runs_right (after h p store) h J

-- The order J, run one at a time from the start values, explains the history h.
pub record Serial (start : Store) (h : List Event) (J : List Place) : Type 0 where
  pub order : is_order (begins h) J ≡ true
  pub outcomes : (t : ℕ) → t < begins h → outcome_kept h J t ≡ true
  pub real_time : (u : ℕ) → u < begins h → real_time_kept h J u ≡ true
  pub reads : runs_right start h J ≡ true

-- J is the lowest order that explains h so: any other is above it
pub record LowestSerial (start : Store) (h : List Event) (J : List Place) : Type 0 where
  pub explains : Serial start h J
  pub least : (K : List Place) → Serial start h K → (lower J K ≡ true) ⊎ (J ≡ K)

-- every prefix has an order that explains it so
abbrev pub AllSerial : Store → List Event → Type 0
AllSerial start h = (n : ℕ) → n ≤ length h → (J : List Place) × Serial start (take n h) J

-- event i is the last of the first prefix that has none, and c is the cause of its kind
pub record SerialFaultsAt (start : Store) (h : List Event) (i : ℕ) (c : Cause) : Type 0 where
  pub inside : i < length h
  pub why : c ≡ cause (event_at h i)
  pub none_here : (J : List Place) → Serial start (take (suc i) h) J → ⊥
  pub shorter : (n : ℕ) → n ≤ i → (J : List Place) × Serial start (take n h) J
