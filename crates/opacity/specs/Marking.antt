-- To be believed: markings and the checker's rules (the paper, "Marking and checker"), for a history and a marking that are readable.
-- Assumes nothing.
use Rattle.std.specs.Prelude.{ℕ, min, max, ◌≡◌, Bool, true, false, not, cond, List, [], ◌∷◌, ◌++◌, map, eqb, leb, length, take, drop}
use Rattle.std.proofs.Math.Option.{Option, none, some, get_or}
pub use Rattle.opacity.specs.declared.verdict.Rule.{Rule}
pub use Rattle.opacity.specs.declared.verdict.Rule.TheVariants.{A, B, C, D, E}
pub use Rattle.opacity.specs.declared.verdict.Verdict.{Verdict}
pub use Rattle.opacity.specs.declared.verdict.Verdict.TheVariants.{Accepted, Broken}
use Rattle.lists.specs.Lists.{◌implies◌, is_none, all, keep, latest, first, last}
use Rattle.records.specs.Bytes.{u16_bytes, u32_bytes}
use Rattle.events.specs.declared.event.Event.{Event}
use Rattle.events.specs.Events.{event_at, begins, is_begin, by}
use Rattle.opacity.specs.Transactions.{is_store_read, store_reads, own_right}
use Rattle.opacity.specs.Justification.{Place, is_order, is_of, before, written, outcome_kept, real_time_kept}

-- A read point: gap g lies after the first g places.
pub record Point : Type 0 where
  pub event : ℕ
  pub gap : ℕ

pub record Marking : Type 0 where
  pub places : List Place
  pub points : List Point

-- The file of a marking: the head, a record of kind 32 for each place, and one of kind 33 for each point.
abbrev pub marking_head : List ℕ
marking_head = u16_bytes 4 ++ u16_bytes 2 ++ u16_bytes 1

-- 0 aborted, 1 committed
abbrev pub outcome_number : Bool → ℕ
outcome_number true = 1
outcome_number false = 0

abbrev pub place_bytes : Place → List ℕ
place_bytes p = u16_bytes 6 ++ u16_bytes 32 ++ u16_bytes p.transaction ++ u16_bytes (outcome_number p.committed)

abbrev pub point_bytes : Point → List ℕ
point_bytes q = u16_bytes 8 ++ u16_bytes 33 ++ u32_bytes q.event ++ u16_bytes q.gap

-- the bytes of each, one after the other
unfoldable pub flat : {A : Type 0} → (A → List ℕ) → List A → List ℕ
flat f [] = []
flat f (x ∷ xs) = f x ++ flat f xs

unfoldable pub marking_bytes : Marking → List ℕ
marking_bytes m = marking_head ++ flat place_bytes m.places ++ flat point_bytes m.points

-- What a marking's content must be for it to be readable for a history (questions 24 to 29): each transaction has one place, the points are
-- at the store reads in order, and each gap is at most the number of transactions.
pub record ReadableFor (h : List Event) (m : Marking) : Type 0 where
  pub order : is_order (begins h) m.places ≡ true
  pub reads : map (λ p. p.event) m.points ≡ store_reads h
  pub gaps : all (λ p. leb p.gap (begins h)) m.points ≡ true

-- the gap of the read at event i
unfoldable pub gap_of : List Point → ℕ → ℕ
gap_of ps i = get_or (latest (λ p. cond (eqb p.event i) (some p.gap) none) ps) 0

unfoldable pub place_of : ℕ → List Place → ℕ
place_of t J = length (before t J)

-- the marking of an order with each read point at its reader's place: what the finder writes
unfoldable pub marked : List Event → List Place → Marking
marked h J =
    record {
      places = J;
      points = map (λ i. record { event = i; gap = place_of (event_at h i).transaction J }) (store_reads h);
    }

-- the places but that of t
unfoldable pub others : ℕ → List Place → List Place
others t P = keep (λ p. not (is_of t p)) P

-- the places between two gaps, in either order
unfoldable pub between : ℕ → ℕ → List Place → List Place
between a b J = drop (min a b) (take (max a b) J)

-- what another than the reader of event i wrote last to its register, among the places P
abbrev pub by_other : List Event → ℕ → List Place → Option ℕ
by_other h i P = latest (written h (event_at h i).register) (others (event_at h i).transaction P)

-- rule D at event i: no writer of the register but the reader is placed between the point and the reader
unfoldable pub no_writer_between : List Event → List Place → ℕ → ℕ → Bool
no_writer_between h J g i = is_store_read h i implies is_none (by_other h i (between g (place_of (event_at h i).transaction J) J))

-- rule E at event i: the value is that of the last writer before the gap other than the reader, or the start value
unfoldable pub value_at_gap : (ℕ → ℕ) → List Event → List Place → ℕ → ℕ → Bool
value_at_gap start h J g i =
    is_store_read h i implies eqb (event_at h i).value (get_or (by_other h i (take g J)) (start (event_at h i).register))

unfoldable pub last_event : List Event → ℕ → ℕ
last_event h t = get_or (last (λ i. eqb (event_at h i).transaction t) (length h)) 0

unfoldable pub begin_of : List Event → ℕ → ℕ
begin_of h t = get_or (first (λ i. by is_begin t (event_at h i)) (length h)) 0

-- ---- The five rules. Each has a number, transactions (A, B) or events (C, D, E) that it is put to, a test, and an event and a transaction
-- that it names where the test says no.

-- the rules' numbers, in the order in which they are tried
abbrev pub rule_number : Rule → ℕ
rule_number A = 1
rule_number B = 2
rule_number C = 3
rule_number D = 4
rule_number E = 5

-- the rule is put to the transactions or events below this number
abbrev pub put_to : List Event → Rule → ℕ
put_to h A = begins h
put_to h B = begins h
put_to h C = length h
put_to h D = length h
put_to h E = length h

-- the rule holds at the transaction or event k
unfoldable pub rule_holds : (ℕ → ℕ) → List Event → Marking → Rule → ℕ → Bool
rule_holds start h m A k = outcome_kept h m.places k
rule_holds start h m B k = real_time_kept h m.places k
rule_holds start h m C k = own_right h k
rule_holds start h m D k = no_writer_between h m.places (gap_of m.points k) k
rule_holds start h m E k = value_at_gap start h m.places (gap_of m.points k) k

-- the event that is named where the rule is broken at k: the transaction's last (A), the one that begins the transaction that began after
-- the other's end (B), or k itself
abbrev pub named_event : List Event → Rule → ℕ → ℕ
named_event h A k = last_event h k
named_event h B k = begin_of h k
named_event h C k = k
named_event h D k = k
named_event h E k = k

-- and the transaction: k itself (A, B), or that of the event
abbrev pub named_transaction : List Event → Rule → ℕ → ℕ
named_transaction h A k = k
named_transaction h B k = k
named_transaction h C k = (event_at h k).transaction
named_transaction h D k = (event_at h k).transaction
named_transaction h E k = (event_at h k).transaction

unfoldable pub broke : Option ℕ → (ℕ → Verdict) → Verdict → Verdict
broke none f v = v
broke (some k) f v = f k

-- rule r, broken at the lowest transaction or event where it does not hold, or else what the rules after it say
unfoldable pub tries : (ℕ → ℕ) → List Event → Marking → Rule → Verdict → Verdict
tries start h m r rest =
    broke (first (λ k. not (rule_holds start h m r k)) (put_to h r)) (λ k. Broken r (named_event h r k) (named_transaction h r k)) rest

-- rules go from A to E
unfoldable pub verdict : (ℕ → ℕ) → List Event → Marking → Verdict
verdict start h m = rule A (rule B (rule C (rule D (rule E Accepted))))
  where
    rule : Rule → Verdict → Verdict
    rule r rest = tries start h m r rest
