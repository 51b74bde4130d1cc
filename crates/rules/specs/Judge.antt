-- Vocabulary between crates: it need not be believed, the public contracts end in the paper's definitions.
-- The verdict on a readable marking that stands in arrays.
-- Assumes nothing.
use Rattle.std.specs.Prelude.{ℕ, ◌≤◌, ◌<◌, ◌≡◌, Bool, true, not, List, Option, map, length, get_or}
use Rattle.events.specs.declared.event.Event.{Event}
use Rattle.lists.specs.Lists.{first}
use Rattle.events.specs.Events.{event_at, begins}
use Rattle.events.specs.Questions.{readable}
use Rattle.opacity.specs.declared.verdict.Verdict.{Verdict}
use Rattle.opacity.specs.declared.verdict.Verdict.TheVariants.{Accepted, Broken}
use Rattle.opacity.specs.declared.verdict.Rule.{Rule}
use Rattle.opacity.specs.declared.verdict.Rule.TheVariants.{A, B, C, D, E}
use Rattle.opacity.specs.Transactions.{is_store_read, store_reads, own_right}
use Rattle.opacity.specs.Justification.{is_order}
use Rattle.opacity.specs.Marking.{Marking, last_event, begin_of, broke}
use Rattle.links.specs.declared.tables.Transaction.{Transaction}
use Rattle.links.specs.Writes.{Linked}
use Rattle.rules.specs.declared.places.Writer.{Writer}
use Rattle.rules.specs.Orders.{outcome_by, real_time_by}
use Rattle.opacity.specs.Arrays.{places_of}
use Rattle.rules.specs.Walks.{has_point, point_rule}

-- the marking that stands in the arrays
unfoldable pub content : List Event → List ℕ → List ℕ → List ℕ → Marking
content h order outcomes gaps =
    record {
      places = places_of order outcomes (begins h);
      points = map (λ i. record { event = i; gap = get_or gaps i 0 }) (store_reads h);
    }

-- a readable history with its writes linked, and a readable marking: the events with a point are the store reads
pub record Judgeable (h : List Event) (link : List (Option ℕ)) (order outcomes gaps : List ℕ) : Type 0 where
  pub readable : readable h ≡ true
  pub linked : Linked h link
  pub ordered : is_order (begins h) (places_of order outcomes (begins h)) ≡ true
  pub gaps-room : length h ≤ length gaps
  pub pointed : (i : ℕ) → i < length h → has_point gaps i ≡ is_store_read h i
  pub gaps-fit : (i : ℕ) → i < length h → is_store_read h i ≡ true → get_or gaps i 0 ≤ begins h

-- rules A and B, by tables; b transactions have begun
unfoldable pub places_verdict : List Event → List Transaction → List ℕ → List ℕ → ℕ → Verdict
places_verdict h tables place outcomes b =
    broke (first (λ k. not (outcome_by tables place outcomes k)) b) (λ k. Broken A (last_event h k) k)
    (broke (first (λ k. not (real_time_by tables place b k)) b) (λ k. Broken B (begin_of h k) k)
    Accepted)

-- what some rules say, or else what the rules after them say
abbrev pub and_then : Verdict → Verdict → Verdict
and_then Accepted rest = rest
and_then (Broken r i t) rest = Broken r i t

-- a rule of events, broken at the first event that fails the test, or else what comes after it
unfoldable pub tried : List Event → Rule → (ℕ → Bool) → Verdict → Verdict
tried h r holds rest = broke (first (λ i. not (holds i)) (length h)) (λ i. Broken r i (event_at h i).transaction) rest

-- rules C to E
unfoldable pub reads_verdict : (ℕ → ℕ) → List Event → List (Option ℕ) → List Writer → List ℕ → List ℕ → Verdict
reads_verdict start h link writers place gaps = tried h C (own_right h) (tried h D (points D) (tried h E (points E) Accepted))
  where
    points : Rule → ℕ → Bool
    points rule = point_rule start h link writers place gaps rule
