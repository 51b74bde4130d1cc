-- An order justifies a history exactly if it does so run one at a time, and the store of that run holds what the last committed writer
-- left there (change request 4).
-- Assumes nothing.
use Prim.Native.Nat.{ℕ, zero, suc, ◌≤◌, ◌<◌}
use native.Mathlib.Nat.{not-suc-le-zero, le_of_suc-le-suc, suc-le-suc_iff, zero-lt-suc, lt_of_lt_of_le}
use mathlib.Core.Path.{◌≡◌, refl, sym, ap, ◌∙◌}
use mathlib.Core.Logic.{◌↔◌}
use mathlib.Core.Bool.{Bool, true, false, not, cond, false≢true}
use mathlib.Core.List.{List, [], ◌∷◌, ◌++◌}
use mathlib.Core.Option.{Option, none, some, get_or}
use lib.Dec.{eqb}
use lib.ListN.{length, take}
use borrow.Author.Tests.{eqb-true, eq-eqb}
use Rattle.lists.specs.Lists.{◌and◌, ◌implies◌, or_else, is_none, keep, push, latest}
use Rattle.events.specs.declared.event.Event.{Event}
use Rattle.events.specs.Events.{event_at, is_read, is_write, by, begins}
use Rattle.opacity.specs.Transactions.{is_value, last_write, own_write, is_own_read, is_store_read, own_right}
use Rattle.opacity.specs.Justification.{Place, placed, before, distinct, is_order, written, contents, legal_over, legal, Justified}
use Rattle.opacity.specs.Store.{Store, put}
use Rattle.opacity.specs.Serial.{does, events_of, run, reads_right, after, serial_store, runs_right, Serial, AllSerial}
use Rattle.lists.proofs.ListLaws.{and_l, and_r, and_i, imp-e, imp-i, every-e}
use Rattle.opacity.proofs.Orders.{before_here, distinct-at, Split, split}
use Rattle.opacity.specs.Scan.{scan, opaque}
use Rattle.events.proofs.EventLaws.{begins-take}
use Rattle.opacity.proofs.Opacity.{Begun, begun-prefix, opaque-prefixes, prefixes-opaque}

-- ---- the view and the store

-- the second answer's default behind the first's
pub or_else-get_d : (a b : Option ℕ) (d : ℕ) → get_or (or_else a b) d ≡ get_or a (get_or b d)
or_else-get_d none b d = refl
or_else-get_d (some x) b d = refl

-- what an event puts into the view, as an answer of the search for a write
put-at : (e : Event) (s : Store) (r : ℕ) → get_or (cond (is_write e and eqb e.register r) (some e.value) none) (s r) ≡ does e s r
unfolding does put ◌and◌
put-at e s r = go (is_write e) (eqb e.register r) refl
  where
    go : (b c : Bool) → eqb e.register r ≡ c → get_or (cond (b and c) (some e.value) none) (s r) ≡ cond b (put e.register e.value s) s r
    go true true q = rw q
    go true false q = rw q
    go false c q = refl

-- the view of t after the events h is its last write to each register, or what the view began with
pub view-last : (t : ℕ) (h : List Event) (s : Store) (r : ℕ) → run (events_of t h) s r ≡ get_or (last_write h t r) (s r)
unfolding events_of keep run last_write latest by ◌and◌
view-last t [] s r = refl
view-last t (e ∷ h) s r = go (eqb e.transaction t) (λ (v : Store). view-last t h v r)
  where
    go : (b : Bool) → ((v : Store) → run (events_of t h) v r ≡ get_or (last_write h t r) (v r))
        → run (push b e (events_of t h)) s r
        ≡ get_or (or_else (last_write h t r) (cond ((b and is_write e) and eqb e.register r) (some e.value) none)) (s r)
    go true ih =
        ih (does e s) ∙ ap (get_or (last_write h t r)) (sym (put-at e s r))
        ∙ sym (or_else-get_d (last_write h t r) (cond (is_write e and eqb e.register r) (some e.value) none) (s r))
    go false ih = ih s ∙ sym (or_else-get_d (last_write h t r) none (s r))

after-written : (h : List Event) (p : Place) (s : Store) (r : ℕ) → after h p s r ≡ get_or (written h r p) (s r)
unfolding after written
after-written h p s r = go p.committed
  where
    go : (b : Bool) → cond b (run (events_of p.transaction h) s) s r ≡ get_or (cond b (last_write h p.transaction r) none) (s r)
    go true = view-last p.transaction h s r
    go false = refl

-- After the places P the store of the serial run holds, in each register, the value of the last committed writer, or the start value.
pub serial-contents : (start : Store) (h : List Event) (P : List Place) (r : ℕ) → serial_store start h P r ≡ contents start h P r
unfolding serial_store contents latest
serial-contents s h [] r = refl
serial-contents s h (p ∷ P) r =
    serial-contents (after h p s) h P r
    ∙ ap (get_or (latest (written h r) P)) (after-written h p s r)
    ∙ sym (or_else-get_d (latest (written h r) P) (written h r p) (s r))

-- ---- the reads of one transaction: event i, if it is a read of t, gets its register's value in the view that t's events before it
-- leave

Gets : ℕ → List Event → Store → ℕ → Type 0
Gets t h s i = (event_at h i).transaction ≡ t → is_read (event_at h i) ≡ true → (event_at h i).value ≡ run (events_of t (take i h)) s (event_at h i).register

reads-e : (t : ℕ) (h : List Event) (s : Store) → reads_right (events_of t h) s ≡ true → (i : ℕ) → i < length h → Gets t h s i
unfolding Gets events_of keep run reads_right
reads-e t [] s a i l = absurd (not-suc-le-zero l)
reads-e t (e ∷ h) s a zero l = λ q b. eqb-true _ _ (imp-e _ _ (and_l _ _ (here (eq-eqb _ _ q))) b)
  where
    here : eqb e.transaction t ≡ true → reads_right (e ∷ events_of t h) s ≡ true
    here m = rw m at a
reads-e t (e ∷ h) s a (suc i) l = go (eqb e.transaction t) a (λ (v : Store) c. reads-e t h v c i (le_of_suc-le-suc l))
  where
    go : (b : Bool) → reads_right (push b e (events_of t h)) s ≡ true → ((v : Store) → reads_right (events_of t h) v ≡ true → Gets t h v i)
        → (event_at h i).transaction ≡ t → is_read (event_at h i) ≡ true → (event_at h i).value ≡ run (push b e (events_of t (take i h))) s (event_at h i).register
    go true c ih = ih (does e s) (and_r _ _ c)
    go false c ih = ih s c

reads-i : (t : ℕ) (h : List Event) (s : Store) → ((i : ℕ) → i < length h → Gets t h s i) → reads_right (events_of t h) s ≡ true
unfolding Gets events_of keep run reads_right
reads-i t [] s f = refl
reads-i t (e ∷ h) s f =
    go (eqb e.transaction t) refl (λ i l. f (suc i) (suc-le-suc_iff.1 l)) (λ (v : Store) g. reads-i t h v g)
  where
    go : (b : Bool) → eqb e.transaction t ≡ b
        → ((i : ℕ) → i < length h → (event_at h i).transaction ≡ t → is_read (event_at h i) ≡ true → (event_at h i).value ≡ run (push b e (events_of t (take i h))) s (event_at h i).register)
        → ((v : Store) → ((i : ℕ) → i < length h → Gets t h v i) → reads_right (events_of t h) v ≡ true)
        → reads_right (push b e (events_of t h)) s ≡ true
    go true m g ih = and_i _ _ (imp-i _ _ (λ b. eq-eqb _ _ (f 0 (zero-lt-suc (length h)) (eqb-true _ _ m) b))) (ih (does e s) g)
    go false m g ih = ih s g

-- ---- the places, one at a time

runs-e : (h : List Event) (P : List Place) (p : Place) (S : List Place) (s : Store)
    → runs_right s h (P ++ p ∷ S) ≡ true → reads_right (events_of p.transaction h) (serial_store s h P) ≡ true
unfolding runs_right serial_store
runs-e h [] p S s t = and_l _ _ t
runs-e h (q ∷ P) p S s t = runs-e h P p S (after h q s) (and_r _ _ t)

runs-i : (h : List Event) (J : List Place) (s : Store)
    → ((P : List Place) (p : Place) (S : List Place) → J ≡ P ++ p ∷ S → reads_right (events_of p.transaction h) (serial_store s h P) ≡ true)
    → runs_right s h J ≡ true
unfolding runs_right serial_store
runs-i h [] s f = refl
runs-i h (p ∷ J) s f =
    and_i _ _ (f [] p J refl) (runs-i h J (after h p s) (λ P q S e. f (p ∷ P) q S (ap (λ (l : List Place). p ∷ l) e)))

-- ---- a read gets the latest own write, or what the register holds in the store: own reads and store reads in one

both : (b : Bool) (o : Option ℕ) (v c : ℕ)
    → ((b and not (is_none o)) implies is_value v o) ≡ true → ((b and is_none o) implies eqb v c) ≡ true → b ≡ true → v ≡ get_or o c
both b none v c own store t = eqb-true v c (imp-e _ _ store (and_i _ _ t refl))
both b (some w) v c own store t = eqb-true v w (imp-e _ _ own (and_i _ _ t refl))

each : (b : Bool) (o : Option ℕ) (v c : ℕ) → (b ≡ true → v ≡ get_or o c)
    → (((b and not (is_none o)) implies is_value v o) ≡ true) × (((b and is_none o) implies eqb v c) ≡ true)
each b none v c f =
    (imp-i _ _ (λ t. absurd (false≢true (and_r _ _ t))), imp-i _ _ (λ t. eq-eqb v c (f (and_l _ _ t))))
each b (some w) v c f =
    (imp-i _ _ (λ t. eq-eqb v w (f (and_l _ _ t))), imp-i _ _ (λ t. absurd (false≢true (and_r _ _ t))))

-- ---- the theorem

-- every event is of one of the transactions that are to be ordered
abbrev pub Known : List Event → Type 0
Known h = (i : ℕ) → i < length h → (event_at h i).transaction < begins h

module _ (start : Store) (h : List Event) (J : List Place) where
  -- what the run gives to event i, if its transaction t runs after the places P
  gets-own-or-store : (P : List Place) (t i : ℕ) → (event_at h i).transaction ≡ t
      → run (events_of t (take i h)) (serial_store start h P) (event_at h i).register ≡ get_or (own_write h i) (contents start h P (event_at h i).register)
  unfolding own_write
  gets-own-or-store P t i q =
      view-last t (take i h) (serial_store start h P) (event_at h i).register
      ∙ ap (get_or (last_write (take i h) t (event_at h i).register)) (serial-contents start h P (event_at h i).register)
      ∙ ap (λ (u : ℕ). get_or (last_write (take i h) u (event_at h i).register) (contents start h P (event_at h i).register)) (sym q)

  -- the places before t's, where J is cut at its place
  pub cut-before : is_order (begins h) J ≡ true → (P : List Place) (p : Place) (S : List Place) → J ≡ P ++ p ∷ S → before p.transaction J ≡ P
  unfolding is_order
  cut-before o P p S e =
      let d : distinct J ≡ true = and_l _ _ (and_r _ _ o) in
      ap (before p.transaction) e ∙ before_here P p S (distinct-at P p S (ap distinct (sym e) ∙ d)).0

  pub justified-serial : Justified start h J → Serial start h J
  unfolding own_right is_own_read legal legal_over is_store_read Gets
  justified-serial j =
      record {
        order = j.order;
        outcomes = j.outcomes;
        real_time = j.real_time;
        reads = runs-i h J start (λ P p S e. reads-i p.transaction h (serial_store start h P) (λ i l q t.
            let c : before (event_at h i).transaction J ≡ P = ap (λ (u : ℕ). before u J) q ∙ cut-before j.order P p S e in
            let m : legal_over start h P i ≡ true = ap (λ (Q : List Place). legal_over start h Q i) (sym c) ∙ j.store i l in
            both (is_read (event_at h i)) (own_write h i) (event_at h i).value (contents start h P (event_at h i).register) (j.own i l) m t
            ∙ sym (gets-own-or-store P p.transaction i q)));
      }

  -- a read of event i in the run
  run-right : Known h → Serial start h J → (i : ℕ) → i < length h → (own_right h i ≡ true) × (legal start h J i ≡ true)
  unfolding is_order own_right is_own_read legal legal_over is_store_read Gets
  run-right known s i l =
      let o = s.order in
      let w : Split (event_at h i).transaction J = split (event_at h i).transaction J (every-e (λ t. placed t J) (begins h) (and_r _ _ (and_r _ _ o)) (event_at h i).transaction (known i l)) in
      let a : reads_right (events_of w.here.transaction h) (serial_store start h w.front) ≡ true =
      runs-e h w.front w.here w.back start (ap (runs_right start h) (sym w.cut) ∙ s.reads) in
      let c : before (event_at h i).transaction J ≡ w.front =
      ap (λ (u : ℕ). before u J) (sym w.names) ∙ cut-before s.order w.front w.here w.back w.cut in
      let r = each (is_read (event_at h i)) (own_write h i) (event_at h i).value (contents start h w.front (event_at h i).register)
      (λ t. reads-e w.here.transaction h (serial_store start h w.front) a i l (sym w.names) t
      ∙ gets-own-or-store w.front w.here.transaction i (sym w.names)) in
      (r.0, ap (λ (Q : List Place). legal_over start h Q i) c ∙ r.1)

  pub known-serial : Known h → Justified start h J ↔ Serial start h J
  known-serial known = (
    justified-serial,
    λ s.
        record {
          order = s.order;
          outcomes = s.outcomes;
          real_time = s.real_time;
          own = λ i l. (run-right known s i l).0;
          store = λ i l. (run-right known s i l).1;
        },
  )

  -- An order justifies a history exactly if, run one at a time, it gives every read the value that it returned.
  pub justified-is-serial : Begun h → Justified start h J ↔ Serial start h J
  justified-is-serial b = known-serial (λ i l. lt_of_lt_of_le (b i l) (begins-take (suc i) h))

module _ (start : Store) (h : List Event) (b : Begun h) where
  -- The same for each prefix of the history.
  pub prefix-is-serial : (n : ℕ) → n ≤ length h → (J : List Place) → Justified start (take n h) J ↔ Serial start (take n h) J
  prefix-is-serial n l J = known-serial start (take n h) J (begun-prefix h b n l)

  -- The scan says opaque exactly if every prefix has an order that, run one at a time, gives every read its value.
  pub opaque-is-serial : (scan start h ≡ opaque) ↔ AllSerial start h
  opaque-is-serial = (
    λ e n l. let j = opaque-prefixes start h b e n l in (j.0, (prefix-is-serial n l j.0).0 j.1),
    λ f. prefixes-opaque start h b (λ n l. ((f n l).0, (prefix-is-serial n l (f n l).0).1 (f n l).1)),
  )
