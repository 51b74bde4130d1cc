-- The theorems about justifications, the lowest one, markings and the scan, gathered: each says what the paper says, of readable histories.
-- The start values are a parameter, `start`; the words are those of specs/.
-- Assumes nothing.
use Prim.Native.Nat.{ℕ, suc, ◌≤◌, ◌<◌}
use native.Mathlib.Nat.{lt_of_lt_of_le, le_trans, le_of_lt}
use mathlib.Core.Path.{◌≡◌, refl, sym, ap, ◌∙◌}
use mathlib.Core.Logic.{◌↔◌}
use mathlib.Core.Bool.{true, false}
use mathlib.Core.List.{List, []}
use mathlib.Core.Option.{none, some}
use lib.ListN.{length, take}
use Rattle.lists.specs.Lists.{◌implies◌, StrictTotal}
use Rattle.events.specs.declared.event.Event.{Event}
use Rattle.events.specs.Events.{begins}
use Rattle.events.specs.Questions.{readable}
use Rattle.lists.proofs.ListLaws.{every-i}
use Rattle.events.proofs.EventLaws.{begins-take}
use Rattle.events.proofs.QuestionLaws.{begun}
use Rattle.opacity.specs.Transactions.{precedes, EndedBefore, is_store_read, own_right}
use Rattle.opacity.specs.Justification.{Place, Justified, justifies, placed, before, preceded, real_time_kept, is_order, OnePlace}
use Rattle.opacity.specs.Lowest.{lower, lowest_of, LowestJustified, PlaceByPlace}
use Rattle.opacity.specs.Serial.{Serial, LowestSerial, AllSerial, SerialFaultsAt}
use Rattle.opacity.specs.Explains.{Explains}
use Rattle.opacity.specs.Marking.{Marking, ReadableFor, marked, gap_of, no_writer_between, Rule, A, B, D, Accepted, Broken}
use Rattle.opacity.specs.Marking.{verdict, rule_holds, named_event, named_transaction}
use Rattle.opacity.specs.Verdicts.{Holds, AllHold, FirstBroken, LastOf, BeginOf, RuleD, WriterBetween}
use Rattle.opacity.specs.Scan.{Cause, Other, scan, opaque, fault, AllJustified, FaultsAt}
use Rattle.opacity.proofs.Orders.{fills, filled, one_place}
use Rattle.opacity.proofs.Steps.{steps, known-apart, justified, justified-test}
use Rattle.opacity.proofs.Compare.{orders-ordered}
use Rattle.opacity.proofs.Least.{none-iff}
use Rattle.opacity.proofs.VerdictLaws.{accepted-rules, broken-names, names-broken}
use Rattle.opacity.proofs.Rules.{accepted-justified, justified-accepted}
use Rattle.opacity.proofs.Between.{writer-between-iff, D-means}
use Rattle.opacity.proofs.Finder.{marked-readable, marked-accepted}
use Rattle.opacity.proofs.Opacity.{opaque-prefixes, prefixes-opaque, faulted-prefix, prefix-faulted}
use Rattle.opacity.proofs.Serial.{Known, justified-is-serial, prefix-is-serial, opaque-is-serial}
use Rattle.opacity.proofs.Explained.{explains-iff}
use Rattle.opacity.proofs.LowestSerial.{one-lowest, found-iff-lowest, found-is-lowest, none-is-none}
use Rattle.opacity.proofs.Meanings.{precedes-means, last-event-means, begin-of-means}
use Rattle.opacity.proofs.FirstLaws.{every-fails, implies-false}
use Rattle.opacity.proofs.CauseFour.{never-four}

-- ---- Justification

-- The places of an order of n transactions are n, and each transaction has one, and no other.
pub places-are-n : (n : ℕ) (J : List Place) → is_order n J ≡ true → length J ≡ n
places-are-n = filled

pub one-place-each : (n : ℕ) (J : List Place) → is_order n J ≡ true → (t : ℕ) → t < n → OnePlace t J
one-place-each = one_place

-- The test and the record of a justification agree.
pub test-agrees : (start : ℕ → ℕ) (h : List Event) (J : List Place) → (justifies start h J ≡ true) ↔ Justified start h J
test-agrees = justified-test

-- The comparison is a strict total order.
pub comparison-ordered : StrictTotal lower
comparison-ordered = orders-ordered

-- Rule D says no at a store read exactly if a writer other than the reader stands between point and reader,
pub no-writer-means : (h : List Event) (J : List Place) (g i : ℕ) → is_store_read h i ≡ true → (no_writer_between h J g i ≡ false) ↔ WriterBetween h J g i
no-writer-means = writer-between-iff

-- and it holds exactly if no store read has such a writer.
pub rule-D-means : (start : ℕ → ℕ) (h : List Event) (m : Marking)
    → Holds start h m D ↔ ((i : ℕ) → i < length h → is_store_read h i ≡ true → WriterBetween h m.places (gap_of m.points i) i → ⊥)
rule-D-means = D-means

module _ (start : ℕ → ℕ) (h : List Event) (r : readable h ≡ true) where
  -- every event of a readable history is of one of its transactions
  known : Known h
  known i l = lt_of_lt_of_le (begun h r i l) (begins-take (suc i) h)

  -- Place by place: an order justifies exactly if own reads are right and each place may come next after those before it.
  pub place-by-place : (J : List Place) → Justified start h J ↔ PlaceByPlace start h J
  place-by-place J = (
    λ j. record { own = j.own; turns = steps start h J j [] J refl; whole = filled (begins h) J j.order },
    λ p.
        let k = known-apart start h J p.turns in
        justified start h J known (every-i (own_right h) (length h) p.own) p.turns (fills (begins h) J k.0 k.1 p.whole),
  )

  -- Running one at a time: a justification is exactly an order with allowed outcomes that keeps real time in whose serial run every read,
  -- those of aborted transactions included, gets its value.
  pub justified-iff-serial : (J : List Place) → Justified start h J ↔ Serial start h J
  justified-iff-serial J = justified-is-serial start h J (begun h r)

  -- The same in the words of the events, with no notion of status, precedence, own reads or legality.
  pub justified-iff-explains : (J : List Place) → Justified start h J ↔ Explains start h J
  justified-iff-explains J = explains-iff start h J r

  -- ---- the lowest justification

  -- There is one lowest justification at most.
  pub lowest-unique : (J K : List Place) → LowestJustified start h J → LowestJustified start h K → J ≡ K
  lowest-unique = one-lowest start h

  -- `lowestOf` is a justification and below every other, and it is none exactly if there is none.
  pub lowest-none : (lowest_of start h ≡ none) ↔ ((K : List Place) → Justified start h K → ⊥)
  lowest-none = none-iff start h known

  pub lowest-some : (J : List Place) → (lowest_of start h ≡ some J) ↔ LowestJustified start h J
  lowest-some = found-iff-lowest start h known

  -- The same of each prefix, with orders run one at a time.
  pub prefix-lowest-serial : (n : ℕ) → n ≤ length h → (J : List Place) → (lowest_of start (take n h) ≡ some J) ↔ LowestSerial start (take n h) J
  prefix-lowest-serial n l J = found-is-lowest start h (begun h r) n l J

  pub prefix-none-serial : (n : ℕ) → n ≤ length h → (lowest_of start (take n h) ≡ none) ↔ ((K : List Place) → Serial start (take n h) K → ⊥)
  prefix-none-serial n l = none-is-none start h (begun h r) n l

  -- ---- markings

  -- A marking is accepted exactly if all five rules hold,
  pub accepted-iff-rules : (m : Marking) → (verdict start h m ≡ Accepted) ↔ AllHold start h m
  accepted-iff-rules m = accepted-rules start h m

  -- and, where it is readable for the history, exactly if its outcomes and order are a justification and rule D holds.
  pub accepted-iff-justified : (m : Marking) → ReadableFor h m → (verdict start h m ≡ Accepted) ↔ (Justified start h m.places × RuleD h m)
  accepted-iff-justified m f = (accepted-justified start h m f.order, λ a. justified-accepted start h m a.0 a.1)

  pub rules-iff-justified : (m : Marking) → ReadableFor h m → AllHold start h m ↔ (Justified start h m.places × RuleD h m)
  rules-iff-justified m f = (
    λ a. (accepted-iff-justified m f).0 ((accepted-iff-rules m).1 a),
    λ a. (accepted-iff-rules m).0 ((accepted-iff-justified m f).1 a),
  )

  -- Otherwise the verdict names the first broken rule where it is broken lowest: the rules before it hold, and nothing lower breaks it.
  pub broken-iff-first : (m : Marking) (q : Rule) (i t : ℕ)
      → (verdict start h m ≡ Broken q i t)
      ↔ ((k : ℕ) × FirstBroken start h m q k × (i ≡ named_event h q k) × (t ≡ named_transaction h q k))
  broken-iff-first m q i t = (
    λ e. let n = broken-names start h m q i t e in (n.number, n.first-broken, n.event, n.transaction),
    λ w. names-broken start h m q w.0 w.1 ∙ ap (λ (x : ℕ). Broken q x (named_transaction h q w.0)) (sym w.2) ∙ ap (Broken q i) (sym w.3),
  )

  -- Rule A names the last event of its transaction, and rule B the event that begins its.
  pub A-names-last : (m : Marking) (i t : ℕ) → verdict start h m ≡ Broken A i t → LastOf h t i
  A-names-last m i t e =
      let n = broken-names start h m A i t e in
      go n.number n.event n.transaction n.first-broken.inside
    where
      go : (k : ℕ) → i ≡ named_event h A k → t ≡ k → k < begins h → LastOf h t i
      go k a b l = rw (a, b) (last-event-means h r k l)

  pub B-names-begin : (m : Marking) (i t : ℕ) → verdict start h m ≡ Broken B i t → BeginOf h t i
  B-names-begin m i t e =
      let n = broken-names start h m B i t e in
      go n.number n.event n.transaction n.first-broken.inside
    where
      go : (k : ℕ) → i ≡ named_event h B k → t ≡ k → k < begins h → BeginOf h t i
      go k a b l = rw (a, b) (begin-of-means h r k l)

  -- It began after the end of another that is not placed before it.
  pub B-names-later : (m : Marking) (i u : ℕ) → verdict start h m ≡ Broken B i u
      → (t : ℕ) × EndedBefore h t u × (placed t (before u m.places) ≡ false)
  unfolding rule_holds real_time_kept preceded
  B-names-later m i u e =
      let n = broken-names start h m B i u e in
      let w = every-fails (λ t. precedes h t n.number implies placed t (before n.number m.places)) (begins h) n.first-broken.broken in
      go n.number w.0 n.transaction w.1
    where
      go : (k t : ℕ) → u ≡ k → (precedes h t k implies placed t (before k m.places)) ≡ false
          → (s : ℕ) × EndedBefore h s u × (placed s (before u m.places) ≡ false)
      go k t q f =
          let p = implies-false _ _ f in (
            t,
            (precedes-means h t u).0 (ap (precedes h t) q ∙ p.0),
            ap (λ (v : ℕ). placed t (before v m.places)) q ∙ p.1,
          )

  -- The marking of a justification with each read point at its reader's place is readable and accepted.
  pub marked-is-readable : (J : List Place) → Justified start h J → ReadableFor h (marked h J)
  marked-is-readable J j = marked-readable start h J j

  pub marked-is-accepted : (J : List Place) → Justified start h J → verdict start h (marked h J) ≡ Accepted
  marked-is-accepted J j = marked-accepted start h J j

  -- ---- the scan

  -- Opaque exactly if every prefix has a justification;
  pub opaque-iff : (scan start h ≡ opaque) ↔ AllJustified start h
  opaque-iff = (opaque-prefixes start h (begun h r), prefixes-opaque start h (begun h r))

  -- faulted at i exactly if the prefix that ends with i has none and every shorter one has, with the cause of i's kind.
  pub faulted-iff : (i : ℕ) (c : Cause) → (scan start h ≡ fault i c) ↔ FaultsAt start h i c
  faulted-iff i c = (faulted-prefix start h (begun h r) i c, prefix-faulted start h (begun h r) i c)

  -- The same in the words of orders run one at a time.
  pub opaque-iff-serial : (scan start h ≡ opaque) ↔ AllSerial start h
  opaque-iff-serial = opaque-is-serial start h (begun h r)

  pub faulted-iff-serial : (i : ℕ) (c : Cause) → (scan start h ≡ fault i c) ↔ SerialFaultsAt start h i c
  faulted-iff-serial i c = (
    λ e.
        let f = (faulted-iff i c).0 e in
        record {
          inside = f.inside;
          why = f.why;
          none_here = λ J s. f.none_here J ((serial (suc i) f.inside J).1 s);
          shorter = λ n l. let j = f.shorter n l in (j.0, (serial n (le_trans l (le_of_lt f.inside)) j.0).0 j.1);
        },
    λ f.
        (faulted-iff i c).1
        (record {
          inside = f.inside;
          why = f.why;
          none_here = λ J j. f.none_here J ((serial (suc i) f.inside J).0 j);
          shorter = λ n l. let s = f.shorter n l in (s.0, (serial n (le_trans l (le_of_lt f.inside)) s.0).1 s.1);
        }),
  )
    where
      serial : (n : ℕ) → n ≤ length h → (J : List Place) → Justified start (take n h) J ↔ Serial start (take n h) J
      serial = prefix-is-serial start h (begun h r)

  -- No history is faulted by a begin, a call, a returned write or a lone write.
  pub cause-never-four : (i : ℕ) → scan start h ≡ fault i Other → ⊥
  cause-never-four i = never-four start h r i
