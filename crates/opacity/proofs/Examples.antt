-- Three small histories, by computation, for what no theorem can refuse in the definitions: a pending commit may go either way, a reader
-- is none of the writers of rule D, and the last write of a committed transaction is what it leaves. The list of worked histories is in the crate `worked`.
-- Assumes nothing.
use Prim.Native.Nat.{ℕ}
use mathlib.Core.Path.{◌≡◌, refl}
use mathlib.Core.Bool.{true, false}
use mathlib.Core.List.{List, [], ◌∷◌}
use Rattle.lists.specs.Lists.{◌and◌, ◌or◌, ◌implies◌, any, all, keep, latest, every, lowest, first, last, range}
use Rattle.events.specs.declared.event.Event.{Event}
use Rattle.events.specs.Events.{is_lone, is_begin, answers_read, is_read, is_write, asks_commit, is_commit, is_abort, is_end, by, has, begins}
use Rattle.opacity.specs.Transactions.{status, allows, precedes, last_write, own_write, is_own_read, is_store_read, own_right}
use Rattle.opacity.specs.Justification.{Place, placed, before, outcome, written, contents, outcome_kept, preceded, legal_over, real_time_kept}
use Rattle.opacity.specs.Lowest.{place, fits, lowest_place, continued, lowest_of}
use Rattle.opacity.specs.Marking.{Marking, gap_of, place_of, others, between, no_writer_between, value_at_gap, Accepted, last_event, begin_of, rule_holds, broke, tries, verdict}
use Rattle.opacity.specs.Scan.{opaque, cause, scan}
use Rattle.opacity.specs.Store.{put, writes_of, after_write, after_place, applied}

-- an event that begins nothing, and the begin of t on the thread of its number
event : ℕ → ℕ → ℕ → ℕ → Event
event k t r v = record { kind = k; transaction = t; register = r; value = v; thread = 0 }

begin : ℕ → Event
begin t = record { kind = 16; transaction = t; register = 0; value = 0; thread = t }

-- what the scan and the verdict both compute by: tests on lists, on events, on transactions and on orders
unfoldable justification : Unit {0}
unfolding
    ◌and◌ ◌or◌ ◌implies◌ any all keep latest every lowest first last range
    is_lone is_begin answers_read is_read is_write asks_commit is_commit is_abort is_end by has begins
    status allows precedes last_write own_write is_own_read is_store_read own_right
    placed before outcome written contents outcome_kept preceded legal_over real_time_kept
justification = tt

-- T0 writes 5 and calls commit; T1 reads 5
pub pair : List Event
unfolding event begin
pair =
    begin 0 ∷ event 19 0 0 5 ∷ event 20 0 0 0 ∷ event 21 0 0 0
    ∷ begin 1 ∷ event 17 1 0 0 ∷ event 18 1 0 5 ∷ []

pub pending-may-commit : scan (λ r. 0) pair ≡ opaque
unfolding justification fits lowest_place continued lowest_of cause scan pair
pending-may-commit = refl

-- T0 reads 0, writes 5 and commits; its point stands behind it
pub reader : List Event
unfolding event begin
reader =
    begin 0 ∷ event 17 0 0 0 ∷ event 18 0 0 0 ∷ event 19 0 0 5 ∷ event 20 0 0 0 ∷ event 21 0 0 0 ∷ event 22 0 0 0 ∷ []

pub behind : Marking
behind = record { places = place 0 true ∷ []; points = record { event = 2; gap = 1 } ∷ [] }

pub reader-is-no-writer : verdict (λ r. 0) reader behind ≡ Accepted
unfolding justification gap_of place_of others between no_writer_between value_at_gap last_event begin_of rule_holds broke tries verdict reader behind
reader-is-no-writer = refl

-- T0 writes 5 and then 6 to register 0 and commits; T1 writes 7 to registers 0 and 1 and is aborted; T2 writes 8 to register 1 and calls
-- commit
pub writers : List Event
unfolding event begin
writers =
    begin 0 ∷ event 19 0 0 5 ∷ event 20 0 0 0 ∷ begin 1 ∷ event 19 1 0 7 ∷ event 20 1 0 0 ∷ event 19 0 0 6 ∷ event 20 0 0 0 ∷ event 21 0 0 0 ∷ event 22 0 0 0
    ∷ event 19 1 1 7 ∷ event 20 1 0 0 ∷ event 23 1 0 0 ∷ begin 2 ∷ event 19 2 1 8 ∷ event 20 2 0 0 ∷ event 21 2 0 0 ∷ []

-- what registers 0, 1 and 2 hold, all starting at 9
abbrev pub left_by : List Place → List ℕ
left_by P = applied (λ r. 9) writers P 0 ∷ applied (λ r. 9) writers P 1 ∷ applied (λ r. 9) writers P 2 ∷ []

pub last-writes-left : left_by (place 0 true ∷ place 1 false ∷ place 2 true ∷ []) ≡ 6 ∷ 8 ∷ 9 ∷ []
unfolding applied after_place after_write put writes_of keep by is_write ◌and◌ ◌or◌ writers
last-writes-left = refl

pub pending-not-taken : left_by (place 0 true ∷ place 1 false ∷ place 2 false ∷ []) ≡ 6 ∷ 9 ∷ 9 ∷ []
unfolding applied after_place after_write put writes_of keep by is_write ◌and◌ ◌or◌ writers
pending-not-taken = refl
