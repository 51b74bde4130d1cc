-- Vocabulary between crates: it need not be believed, the public contracts end in the paper's definitions.
-- The walk back over places and the writes of their transactions, and the rules D and E by tables.
-- Assumes nothing.
use Rattle.std.specs.Prelude.{ℕ, zero, suc, ◌≤◌, ◌<◌, min, max, ◌≡◌, Bool, true, not, cond, List, Option, None, eqb, leb, length, get_or}
use Rattle.std.proofs.Math.Option.{Option as Found, none, get_or as found_or}
use Rattle.lists.specs.Bits.{bit_at}
use Rattle.lists.specs.Lists.{◌implies◌, or_else, is_none}
use Rattle.events.specs.declared.event.Event.{Event}
use Rattle.events.specs.Events.{event_at}
use Rattle.events.specs.Questions.{readable}
use Rattle.opacity.specs.declared.verdict.Rule.{Rule}
use Rattle.opacity.specs.declared.verdict.Rule.TheVariants.{A, B, C, D, E}
use Rattle.links.specs.Tables.{past}
use Rattle.links.specs.Writes.{write_from, Linked}
use Rattle.rules.specs.declared.places.Writer.{Writer}
use Rattle.rules.specs.Orders.{nothing}

-- the last write of a transaction that writes r
abbrev pub start_in : Writer → ℕ → Option ℕ
start_in w r = cond (eqb (bit_at r w.registers) 1) w.last None

-- the same of place k, or none where that is the reader's place
abbrev pub start_at : List Writer → ℕ → ℕ → ℕ → Option ℕ
start_at writers own r k = cond (eqb k own) None (start_in (get_or writers k nothing) r)

-- what the last writer of r but the one at place own wrote, among the places from lo up to hi
unfoldable pub last_in : List Event → List (Option ℕ) → List Writer → ℕ → ℕ → ℕ → ℕ → Found ℕ
last_in h link writers own r lo zero = none
last_in h link writers own r lo (suc k) =
    let rest = last_in h link writers own r lo k in
    cond (leb lo k) (or_else (write_from h link r (start_at writers own r k)) rest) none

-- what the walk looks up: a readable history, the links between its writes, and by place what is written
pub record Walkable (h : List Event) (link : List (Option ℕ)) (writers : List Writer) : Type 0 where
  pub readable : readable h ≡ true
  pub linked : Linked h link
  pub low : (k : ℕ) → past (get_or writers k nothing).last ≤ length h

-- an event has a point: 65535 in a table of gaps stands for none
abbrev pub has_point : List ℕ → ℕ → Bool
has_point gaps i = not (eqb (get_or gaps i 0) 65535)

-- besides, by transaction the place, and by event the gap of its point
pub record Pointable (h : List Event) (link : List (Option ℕ)) (writers : List Writer) (place gaps : List ℕ) : Type 0 where
  pub walk : Walkable h link writers
  pub places-low : (t : ℕ) → get_or place t 0 < 64
  pub gaps-room : length h ≤ length gaps
  pub gaps-low : (i : ℕ) → i < length h → has_point gaps i ≡ true → get_or gaps i 0 ≤ 64

-- rule D of the point at gap g of the read e, whose reader is at place own: from the point to the reader, or from the reader to the point
unfoldable pub no_writer : List Event → List (Option ℕ) → List Writer → ℕ → ℕ → Event → Bool
no_writer h link writers own g e = is_none (last_in h link writers own e.register (min g own) (max g own))

-- rule E of the same: from the first place to the point
unfoldable pub right_value : (ℕ → ℕ) → List Event → List (Option ℕ) → List Writer → ℕ → ℕ → Event → Bool
right_value start h link writers own g e =
    eqb e.value (found_or (last_in h link writers own e.register 0 g) (start e.register))

-- a rule of such a point; the others are not of points
abbrev pub point_holds : (ℕ → ℕ) → List Event → List (Option ℕ) → List Writer → ℕ → ℕ → Event → Rule → Bool
point_holds start h link writers own g e A = true
point_holds start h link writers own g e B = true
point_holds start h link writers own g e C = true
point_holds start h link writers own g e D = no_writer h link writers own g e
point_holds start h link writers own g e E = right_value start h link writers own g e

-- a rule of points at event i, if it has one
unfoldable pub point_rule : (ℕ → ℕ) → List Event → List (Option ℕ) → List Writer → List ℕ → List ℕ → Rule → ℕ → Bool
point_rule start h link writers place gaps rule i =
    has_point gaps i
    implies point_holds start h link writers (get_or place (event_at h i).transaction 0) (get_or gaps i 0) (event_at h i) rule
