-- From the tables to the verdict of the definition.
-- Assumes nothing.
use Prim.Native.Nat.{ℕ, ◌≤◌, ◌<◌}
use native.Mathlib.Omega.{arith}
use mathlib.Core.Path.{◌≡◌, refl, sym, ap, ◌∙◌, subst}
use mathlib.Core.Bool.{Bool, true, false, not, cond}
use mathlib.Core.List.{List}
use mathlib.Core.Option.{Option as Found, none, some, get_or as found_or}
use Rattle.std.specs.Prelude.{Option, Some, None}
use lib.Dec.{eqb, ltb}
use lib.ListN.{length, get_or, take}
use borrow.Author.Tests.{ltb-true}
use Rattle.events.specs.declared.event.Event.{Event}
use Rattle.lists.specs.Lists.{◌implies◌, is_none, first, latest}
use Rattle.events.specs.Events.{event_at, begins}
use Rattle.opacity.specs.declared.verdict.Verdict.{Verdict}
use Rattle.opacity.specs.declared.verdict.Verdict.TheVariants.{Accepted, Broken}
use Rattle.opacity.specs.declared.verdict.Rule.{Rule}
use Rattle.opacity.specs.declared.verdict.Rule.TheVariants.{A, B, C, D, E}
use Rattle.opacity.specs.Transactions.{Status, committed, aborted, pending, live, status, allows, precedes, is_store_read, own_right}
use Rattle.opacity.specs.Justification.{Place, placed, before, written, outcome_kept, preceded, real_time_kept}
use Rattle.opacity.specs.Marking.{Marking, gap_of, place_of, others, between, no_writer_between, value_at_gap, last_event, begin_of, rule_holds, broke, tries, verdict}
use Rattle.opacity.proofs.Bounds.{at-most-64, transaction-known}
use Rattle.opacity.proofs.Finder.{gap-marked, before-le}
use Rattle.links.specs.declared.tables.Rank.{Rank}
use Rattle.links.specs.declared.tables.Transaction.{Transaction}
use Rattle.links.specs.Tables.{blank, AllTabled, past}
use Rattle.links.proofs.TableLaws.{status_rank, its-rank, its-order}
use Rattle.links.proofs.WriteLaws.{its-written, head-le}
use Rattle.rules.specs.declared.places.Writer.{Writer}
use Rattle.opacity.specs.Arrays.{places_of}
use Rattle.opacity.proofs.Arrays.{places-length}
use Rattle.rules.specs.Orders.{Inverse, Apart, writer, nothing, writer_at, Writers, broken, allows_by, outcome_by, pair_by, real_time_by}
use Rattle.rules.specs.Walks.{Pointable, no_writer, right_value, point_rule}
use Rattle.rules.specs.Judge.{content, Judgeable, places_verdict, and_then, tried, reads_verdict}
use Rattle.rules.proofs.Numbers.{none_of, some_of, every-ext, first-ext}
use Rattle.rules.proofs.OrderLaws.{before-lower, outcome-of, inverse-place, order-low, order-apart}
use Rattle.rules.proofs.WalkLaws.{found_between, found_before}

-- the order in the arrays
abbrev pub order_in : List Event → List ℕ → List ℕ → List Place
order_in h order outcomes = places_of order outcomes (begins h)

allows-rank : (s : Status) (c : Bool) → allows_by (status_rank s) c ≡ allows s c
unfolding allows
allows-rank committed c = refl
allows-rank aborted c = refl
allows-rank pending c = refl
allows-rank live c = refl

pub place-le : (t : ℕ) (order outcomes : List ℕ) (b : ℕ) → place_of t (places_of order outcomes b) ≤ b
unfolding place_of
place-le t order outcomes b = let l = before-le t (places_of order outcomes b) in let e = places-length order outcomes b in omega arith

own_same : (start : ℕ → ℕ) (h : List Event) (m : Marking) → rule_holds start h m C ≡ own_right h
unfolding rule_holds
own_same start h m = refl

-- rules C to E of the definition
abbrev reads_in : (ℕ → ℕ) → List Event → Marking → Verdict
reads_in start h m = tries start h m C (tries start h m D (tries start h m E Accepted))

module _ {h : List Event} {link : List (Option ℕ)} {order outcomes gaps : List ℕ} (y : Judgeable h link order outcomes gaps) where
  pub few-begun : begins h ≤ 64
  few-begun = at-most-64 h y.readable

  apart : Apart order (begins h)
  apart =
      record {
        few = few-begun;
        low = λ k l. (let a = order-low order outcomes (begins h) y.ordered k l in let f = few-begun in omega arith);
        distinct = order-apart order outcomes (begins h) y.ordered;
      }

  pub gap_same : (i : ℕ) → i < length h → is_store_read h i ≡ true → gap_of (content h order outcomes gaps).points i ≡ get_or gaps i 0
  unfolding content
  gap_same i l s = gap-marked h (λ k. get_or gaps k 0) i l s

  -- rule A
  outcome-same : (tables : List Transaction) (place : List ℕ) → AllTabled h tables → Inverse order (begins h) place
      → (t : ℕ) → t < begins h → outcome_by tables place outcomes t ≡ outcome_kept h (order_in h order outcomes) t
  unfolding outcome_by outcome_kept
  outcome-same tables place a v t l =
      let few = few-begun in
      let s : (get_or tables t blank).rank ≡ status_rank (status h t) = its-rank a t (omega arith) in
      let p = inverse-place order outcomes (begins h) y.ordered place v t l in
      ap (λ (x : Rank). allows_by x (eqb (get_or outcomes (get_or place t 0) 0) 1)) s
      ∙ (allows-rank (status h t) (eqb (get_or outcomes (get_or place t 0) 0) 1)
      ∙ ap (allows (status h t)) (ap (λ (k : ℕ). eqb (get_or outcomes k 0) 1) p ∙ sym (outcome-of order outcomes (begins h) y.ordered t l)))

  -- rule B
  real-time-same : (tables : List Transaction) (place : List ℕ) → AllTabled h tables → Inverse order (begins h) place
      → (u : ℕ) → u < begins h → real_time_by tables place (begins h) u ≡ real_time_kept h (order_in h order outcomes) u
  unfolding real_time_by real_time_kept preceded pair_by
  real-time-same tables place a v u l =
      every-ext (pair_by tables place u) (λ t. precedes h t u implies placed t (before u (order_in h order outcomes))) (begins h) same
    where
      same : (t : ℕ) → t < begins h → pair_by tables place u t ≡ (precedes h t u implies placed t (before u (order_in h order outcomes)))
      same t m =
          let few = few-begun in
          let p = inverse-place order outcomes (begins h) y.ordered place v in
          let q : ltb (get_or place t 0) (get_or place u 0) ≡ placed t (before u (order_in h order outcomes)) =
          ap (λ (x : ℕ). ltb x (get_or place u 0)) (p t m)
          ∙ (ap (λ (x : ℕ). ltb (place_of t (order_in h order outcomes)) x) (p u l) ∙ sym (before-lower t u (order_in h order outcomes))) in
          ap (λ (x : Bool). x implies ltb (get_or place t 0) (get_or place u 0)) (its-order a t u (omega arith) (omega arith))
          ∙ ap (λ (x : Bool). precedes h t u implies x) q

  -- what the rules ask of the tables; k transactions have begun
  module _ {k : ℕ} (ek : k ≡ begins h) where
    pub all_apart : Apart order k
    all_apart = subst (Apart order) (sym ek) apart

    module _ {place : List ℕ} (inverse : Inverse order k place) where
      v : Inverse order (begins h) place
      v = subst (λ (x : ℕ). Inverse order x place) ek inverse

      -- the place of the reader of event i
      pub reader-same : (i : ℕ) → i < length h → get_or place (event_at h i).transaction 0 ≡ place_of (event_at h i).transaction (order_in h order outcomes)
      reader-same i l = inverse-place order outcomes (begins h) y.ordered place v (event_at h i).transaction (transaction-known h y.readable i l)

      -- rules D and E
      module _ {tables : List Transaction} {writers : List Writer} (tabled : AllTabled h tables) (table : Writers order outcomes tables k writers) where
        writing : Writers order outcomes tables (begins h) writers
        writing = subst (λ (x : ℕ). Writers order outcomes tables x writers) ek table

        pub all-pointable : Pointable h link writers place gaps
        all-pointable =
            record {
              walk = record { readable = y.readable; linked = y.linked; low = λ k. rw (writing.holds k) (low k (ltb k (begins h)) refl) };
              places-low = v.low;
              gaps-room = y.gaps-room;
              gaps-low = λ i l r. (let a = y.gaps-fit i l (sym (y.pointed i l) ∙ r) in let b = few-begun in omega arith);
            }
          where
            one : (k : ℕ) (b : Bool) → get_or order k 0 < 64
                → past (cond b (writer (get_or tables (get_or order k 0) blank)) nothing).last ≤ length h
            one k true l = rw (its-written tabled (get_or order k 0) l) (head-le h (get_or order k 0) (length h))
            one k false l = omega arith

            low : (k : ℕ) (b : Bool) → ltb k (begins h) ≡ b → past (cond b (writer_at order outcomes tables k) nothing).last ≤ length h
            low k true e = one k (eqb (get_or outcomes k 0) 1) (apart.low k (ltb-true k (begins h) e))
            low k false e = omega arith

        module _ (start : ℕ → ℕ) (i : ℕ) (l : i < length h) where
          known : (event_at h i).transaction < begins h
          known = transaction-known h y.readable i l

          pub d-same : point_rule start h link writers place gaps D i ≡ rule_holds start h (content h order outcomes gaps) D i
          unfolding point_rule no_writer rule_holds content no_writer_between ◌implies◌
          d-same = rw (y.pointed i l) (go (is_store_read h i) refl)
            where
              go : (b : Bool) → is_store_read h i ≡ b
                  → (b implies no_writer h link writers (get_or place (event_at h i).transaction 0) (get_or gaps i 0) (event_at h i))
                  ≡ (b implies is_none (latest (written h (event_at h i).register) (others (event_at h i).transaction
                  (between (gap_of (content h order outcomes gaps).points i) (place_of (event_at h i).transaction (order_in h order outcomes)) (order_in h order outcomes)))))
              go false e = refl
              go true e =
                  rw (reader-same i l, gap_same i l e)
                  (ap is_none (found_between h link tables order outcomes writers (begins h) y.linked tabled apart.low writing y.ordered
                  (event_at h i).transaction (event_at h i).register known
                  (get_or gaps i 0) (place_of (event_at h i).transaction (order_in h order outcomes)) (y.gaps-fit i l e) (place-le (event_at h i).transaction order outcomes (begins h))))

          pub e-same : point_rule start h link writers place gaps E i ≡ rule_holds start h (content h order outcomes gaps) E i
          unfolding point_rule right_value rule_holds content value_at_gap ◌implies◌
          e-same = rw (y.pointed i l) (go (is_store_read h i) refl)
            where
              go : (b : Bool) → is_store_read h i ≡ b
                  → (b implies right_value start h link writers (get_or place (event_at h i).transaction 0) (get_or gaps i 0) (event_at h i))
                  ≡ (b implies eqb (event_at h i).value (found_or (latest (written h (event_at h i).register) (others (event_at h i).transaction
                  (take (gap_of (content h order outcomes gaps).points i) (order_in h order outcomes)))) (start (event_at h i).register)))
              go false e = refl
              go true e =
                  rw (reader-same i l, gap_same i l e)
                  (ap (λ (o : Found ℕ). eqb (event_at h i).value (found_or o (start (event_at h i).register)))
                  (found_before h link tables order outcomes writers (begins h) y.linked tabled apart.low writing y.ordered
                  (event_at h i).transaction (event_at h i).register known (get_or gaps i 0) (y.gaps-fit i l e)))

        -- rules C to E are those of the definition
        reads_same : (start : ℕ → ℕ) → reads_verdict start h link writers place gaps
            ≡ reads_in start h (content h order outcomes gaps)
        unfolding reads_verdict tried tries
        reads_same start =
            let free = first-ext (point_rule start h link writers place gaps D) (rule_holds start h (content h order outcomes gaps) D) (length h) (λ i l. d-same start i l) in
            let right = first-ext (point_rule start h link writers place gaps E) (rule_holds start h (content h order outcomes gaps) E) (length h) (λ i l. e-same start i l) in
            rw (free, right, own_same start h (content h order outcomes gaps))

      -- the verdict is that of rules A and B, and then that of the reads
      module _ (start : ℕ → ℕ) {tables : List Transaction} (tabled : AllTabled h tables) where
        abbrev m : Marking
        m = content h order outcomes gaps

        agrees-a : first (λ k. not (outcome_by tables place outcomes k)) (begins h) ≡ first (λ k. not (outcome_kept h (order_in h order outcomes) k)) (begins h)
        agrees-a =
            first-ext (outcome_by tables place outcomes) (outcome_kept h (order_in h order outcomes)) (begins h)
            (outcome-same tables place tabled v)

        agrees-b : first (λ k. not (real_time_by tables place (begins h) k)) (begins h) ≡ first (λ k. not (real_time_kept h (order_in h order outcomes) k)) (begins h)
        agrees-b =
            first-ext (real_time_by tables place (begins h)) (real_time_kept h (order_in h order outcomes)) (begins h)
            (real-time-same tables place tabled v)

        parts : and_then (places_verdict h tables place outcomes k) (reads_in start h m) ≡ verdict start h m
        unfolding places_verdict verdict tries rule_holds content broke
        parts =
            ap (λ (x : ℕ). and_then (places_verdict h tables place outcomes x) (reads_in start h m)) ek
            ∙ go (first (λ k. not (outcome_by tables place outcomes k)) (begins h)) refl
            (first (λ k. not (real_time_by tables place (begins h) k)) (begins h)) refl
          where
            go : (a : Found ℕ) → first (λ k. not (outcome_by tables place outcomes k)) (begins h) ≡ a
                → (b : Found ℕ) → first (λ k. not (real_time_by tables place (begins h) k)) (begins h) ≡ b
                → and_then (broke a (λ x. Broken A (last_event h x) x) (broke b (λ x. Broken B (begin_of h x) x) Accepted)) (reads_in start h m)
                ≡ verdict start h m
            go (some x) e b f = rw (sym agrees-a ∙ e)
            go none e (some x) f = rw (sym agrees-a ∙ e, sym agrees-b ∙ f)
            go none e none f = rw (sym agrees-a ∙ e, sym agrees-b ∙ f)

        pub verdict-parts : {writers : List Writer} → Writers order outcomes tables k writers
            → and_then (places_verdict h tables place outcomes k) (reads_verdict start h link writers place gaps) ≡ verdict start h m
        verdict-parts table = ap (and_then (places_verdict h tables place outcomes k)) (reads_same tabled table start) ∙ parts

-- rules A and B with what the searches for their first breaches said
module _ (h : List Event) (tables : List Transaction) (place outcomes : List ℕ) (b : ℕ) where
  pub breaks-a : {t : ℕ} → Some t ≡ broken (outcome_by tables place outcomes) b → Broken A (last_event h t) t ≡ places_verdict h tables place outcomes b
  unfolding places_verdict broke
  breaks-a e = sym (rw (some_of (outcome_by tables place outcomes) b e))

  module _ (a : None ≡ broken (outcome_by tables place outcomes) b) where
    pub breaks-b : {u : ℕ} → Some u ≡ broken (real_time_by tables place b) b → Broken B (begin_of h u) u ≡ places_verdict h tables place outcomes b
    unfolding places_verdict broke
    breaks-b e = sym (rw (none_of (outcome_by tables place outcomes) b a, some_of (real_time_by tables place b) b e))

    pub breaks-neither : None ≡ broken (real_time_by tables place b) b → Accepted ≡ places_verdict h tables place outcomes b
    unfolding places_verdict broke
    breaks-neither e = sym (rw (none_of (outcome_by tables place outcomes) b a, none_of (real_time_by tables place b) b e))

-- a rule of events with what the search for its first breach said
module _ (h : List Event) (r : Rule) (holds : ℕ → Bool) (rest : Verdict) where
  broken-here : {x : ℕ} → Some x ≡ broken holds (length h) → tried h r holds rest ≡ Broken r x (event_at h x).transaction
  unfolding tried broke
  broken-here e = rw (some_of holds (length h) e)

  broken-later : None ≡ broken holds (length h) → tried h r holds rest ≡ rest
  unfolding tried broke
  broken-later e = rw (none_of holds (length h) e)

-- rules C to E, in turn
module _ (start : ℕ → ℕ) (h : List Event) (link : List (Option ℕ)) (writers : List Writer) (place gaps : List ℕ) where
  abbrev points : Rule → ℕ → Bool
  points rule = point_rule start h link writers place gaps rule

  pub breaks-c : {i : ℕ} → Some i ≡ broken (own_right h) (length h) → Broken C i (event_at h i).transaction ≡ reads_verdict start h link writers place gaps
  unfolding reads_verdict
  breaks-c e = sym (broken-here h C (own_right h) _ e)

  module _ (c : None ≡ broken (own_right h) (length h)) where
    pub breaks-d : {i : ℕ} → Some i ≡ broken (points D) (length h) → Broken D i (event_at h i).transaction ≡ reads_verdict start h link writers place gaps
    unfolding reads_verdict
    breaks-d e = sym (broken-later h C (own_right h) _ c ∙ broken-here h D (points D) _ e)

    module _ (d : None ≡ broken (points D) (length h)) where
      pub breaks-e : {i : ℕ} → Some i ≡ broken (points E) (length h) → Broken E i (event_at h i).transaction ≡ reads_verdict start h link writers place gaps
      unfolding reads_verdict
      breaks-e e = sym (broken-later h C (own_right h) _ c ∙ (broken-later h D (points D) _ d ∙ broken-here h E (points E) _ e))

      pub breaks-none : None ≡ broken (points E) (length h) → Accepted ≡ reads_verdict start h link writers place gaps
      unfolding reads_verdict
      breaks-none e = sym (broken-later h C (own_right h) _ c ∙ (broken-later h D (points D) _ d ∙ broken-later h E (points E) _ e))
