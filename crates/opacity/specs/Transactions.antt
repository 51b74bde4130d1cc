-- To be believed: what a history says of its transactions (the paper, "Justification"), that is status and allowed outcomes, real time,
-- writes, own reads and store reads.
-- Assumes nothing.
use Rattle.std.specs.Prelude.{ℕ, ◌<◌, ◌≡◌, Bool, true, false, not, cond, List, [], ◌∷◌, eqb, length, take}
use Rattle.std.proofs.Math.Option.{Option, none, some}
use Rattle.lists.specs.Lists.{◌and◌, ◌or◌, ◌implies◌, keep, latest, is_none, range}
use Rattle.events.specs.declared.event.Event.{Event}
use Rattle.events.specs.Events.{event_at, is_begin, is_read, is_write, asks_commit, is_commit, is_abort, is_end, by, has, ended}

-- How a transaction stands: committed or aborted as recorded, a lone access committed; pending after a commit called and unanswered; else
-- live.
pub data Status : Type 0 where
  committed aborted pending live : Status

unfoldable pub status : List Event → ℕ → Status
status h t =
    cond (has is_commit t h) committed
    (cond (has is_abort t h) aborted
    (cond (has asks_commit t h) pending
    live))

-- a number for each, to compare them
abbrev pub status_number : Status → ℕ
status_number committed = 3
status_number aborted = 2
status_number pending = 1
status_number live = 0

-- what a status says of the events of a readable history: the end is recorded; commit is called and the transaction has not ended; commit
-- is not called and it has not ended
abbrev pub HasStatus : Status → List Event → ℕ → Type 0
HasStatus committed h t = has is_commit t h ≡ true
HasStatus aborted h t = has is_abort t h ≡ true
HasStatus pending h t = (has asks_commit t h ≡ true) × (ended t h ≡ false)
HasStatus live h t = (has asks_commit t h ≡ false) × (ended t h ≡ false)

-- the outcomes, true for committed, that a status allows: the recorded one; free after a commit called and unanswered; aborted for
-- others not ended
unfoldable pub allows : Status → Bool → Bool
allows committed c = c
allows aborted c = not c
allows pending c = true
allows live c = not c

-- T precedes U in real time: t ended before u began. A lone access begins and ends at its one event.
unfoldable pub precedes : List Event → ℕ → ℕ → Bool
precedes [] t u = false
precedes (e ∷ h) t u = by is_end t e and has is_begin u h or precedes h t u

-- the same event by event: an event that ends t stands before one that begins u
pub record EndedBefore (h : List Event) (t u : ℕ) : Type 0 where
  pub ending : ℕ
  pub beginning : ℕ
  pub rising : ending < beginning
  pub inside : beginning < length h
  pub ends : by is_end t (event_at h ending) ≡ true
  pub begins : by is_begin u (event_at h beginning) ≡ true

-- the value of the last write of t to r, if there is one
unfoldable pub last_write : List Event → ℕ → ℕ → Option ℕ
last_write h t r = latest (λ e. cond (by is_write t e and eqb e.register r) (some e.value) none) h

-- event i is a write of t to r
abbrev pub writes : List Event → ℕ → ℕ → ℕ → Bool
writes h t r i = by is_write t (event_at h i) and eqb (event_at h i).register r

-- the same event by event: v is written by an event of t to r, and no later event of t writes r
pub record LastWrite (h : List Event) (t r v : ℕ) : Type 0 where
  pub event : ℕ
  pub inside : event < length h
  pub write : writes h t r event ≡ true
  pub value : (event_at h event).value ≡ v
  pub later : (j : ℕ) → event < j → j < length h → writes h t r j ≡ false

-- what the transaction of event i wrote last to the register of event i, before event i
unfoldable pub own_write : List Event → ℕ → Option ℕ
own_write h i = last_write (take i h) (event_at h i).transaction (event_at h i).register

-- an own read is a read whose transaction earlier wrote that register; any other read is a store read, as every lone read is
unfoldable pub is_own_read : List Event → ℕ → Bool
is_own_read h i = is_read (event_at h i) and not (is_none (own_write h i))

unfoldable pub is_store_read : List Event → ℕ → Bool
is_store_read h i = is_read (event_at h i) and is_none (own_write h i)

-- the events that are store reads, rising
unfoldable pub store_reads : List Event → List ℕ
store_reads h = keep (is_store_read h) (range (length h))

abbrev pub is_value : ℕ → Option ℕ → Bool
is_value v none = false
is_value v (some w) = eqb v w

-- event i, if it is an own read, returns the latest own write
unfoldable pub own_right : List Event → ℕ → Bool
own_right h i = is_own_read h i implies is_value (event_at h i).value (own_write h i)
