-- To be believed: the scan (the paper, "Scan and report").
-- Assumes nothing.
use Rattle.std.specs.Prelude.{ℕ, suc, ◌≤◌, ◌<◌, ◌≡◌, cond, List, Result, Ok, Err, length, take}
use Rattle.std.proofs.Math.Option.{Option, none, some}
pub use Rattle.opacity.specs.declared.verdict.Fault.{Fault}
pub use Rattle.opacity.specs.declared.verdict.Cause.{Cause}
pub use Rattle.opacity.specs.declared.verdict.Cause.TheVariants.{Read, Commit, Abort, Other}
use Rattle.lists.specs.Lists.{is_none, first}
use Rattle.events.specs.declared.event.Event.{Event}
use Rattle.events.specs.Events.{event_at, is_begin, is_read, is_commit, is_abort}
use Rattle.opacity.specs.Justification.{Place, Justified}
use Rattle.opacity.specs.Lowest.{lowest_of}

-- the scan's answer: opaque, or the event that faults the history and the cause
abbrev pub Scanned : Type 0
Scanned = Result (Unit {0}) Fault

abbrev pub opaque : Scanned
opaque = Ok tt

abbrev pub fault : ℕ → Cause → Scanned
fault i c = Err (record { event = i; cause = c })

-- by the kind: read returned or lone read, committed, aborted, any other, a lone write among them
unfoldable pub cause : Event → Cause
cause e = cond (is_read e) Read (cond (is_begin e) Other (cond (is_commit e) Commit (cond (is_abort e) Abort Other)))

-- the paper's numbers of them
abbrev pub cause_number : Cause → ℕ
cause_number Read = 1
cause_number Commit = 2
cause_number Abort = 3
cause_number Other = 4

abbrev pub answer : List Event → Option ℕ → Scanned
answer h none = opaque
answer h (some i) = fault i (cause (event_at h i))

-- the first event i such that the first i + 1 events have no justification; the empty prefix has one
unfoldable pub scan : (ℕ → ℕ) → List Event → Scanned
scan start h = answer h (first (λ i. is_none (lowest_of start (take (suc i) h))) (length h))

-- every prefix has a justification
abbrev pub AllJustified : (ℕ → ℕ) → List Event → Type 0
AllJustified start h = (n : ℕ) → n ≤ length h → (J : List Place) × Justified start (take n h) J

-- event i is the last of the first prefix without a justification, and c is the cause of its kind
pub record FaultsAt (start : ℕ → ℕ) (h : List Event) (i : ℕ) (c : Cause) : Type 0 where
  pub inside : i < length h
  pub why : c ≡ cause (event_at h i)
  pub none_here : (J : List Place) → Justified start (take (suc i) h) J → ⊥
  pub shorter : (n : ℕ) → n ≤ i → (J : List Place) × Justified start (take n h) J
