-- The search's test of a place, over the tables, is the definition's, over the events.
-- Assumes nothing.
use mathlib.Core.Path.{◌≡◌, refl, sym, ap, ◌∙◌}
use mathlib.Core.Logic.{⊎_elim}
use Prim.Native.Nat.{ℕ, zero, suc, ◌+◌, ◌-◌, ◌≤◌, ◌<◌}
use native.Mathlib.Nat.{le_refl}
use native.Mathlib.Omega.{arith}
use mathlib.Core.Bool.{Bool, true, false, not, cond, true≢false, false≢true}
use mathlib.Core.List.{List}
use lib.ListN.{length, take}
use lib.Seq.{take_all}
use lib.Dec.{eqb, ltb}
use borrow.Author.Tests.{eqb-true, eqb-false, eq-eqb, ne_eqb, lt-ltb}
use Rattle.lists.specs.Lists.{◌and◌, ◌implies◌, push, keep, all, every}
use Rattle.events.specs.declared.event.Event.{Event}
use Rattle.events.specs.Events.{event_at, begins}
use Rattle.event_log.specs.Starts.{start_of}
use Rattle.opacity.specs.Transactions.{precedes, Status, status, allows, is_store_read}
use Rattle.opacity.specs.Justification.{Place, placed, contents, preceded, legal_over}
use Rattle.opacity.specs.Lowest.{place, fits}
use Rattle.lists.proofs.ListLaws.{and_false_r, imp-e, imp-i, not-true, clash, every-e, every-i, both_ways}
use Rattle.lists.specs.Bits.{bit_at, members}
use Rattle.places.specs.Facts.{all_registers, after_of, allowed_of, reads_of, reads_asked, required_of}
use Rattle.places.specs.Places.{decode, writes_in}
use Rattle.places.specs.Tree.{up_from, legal_at, legal_reads, none_in, rule_next, allows_outcome, fits_at}
use Rattle.lists.proofs.BitLaws.{bit-none}
use Rattle.places.proofs.SetLaws.{member-passes, members-pass}
use Rattle.places.proofs.FactLaws.{asked-reads, reads-asked-all}
use Rattle.tables.specs.Tables.{tables_of}
use Rattle.lowest.specs.Order.{constraints_of}
use Rattle.tables.proofs.PutLaws.{and-true}
use Rattle.lowest.proofs.Meaning.{digit, Good, rule, after_holds, allowed-holds}
use Rattle.lowest.proofs.ReadMeaning.{Reads, Wanted, reads-hold}
use Rattle.lowest.proofs.ReadSets.{Marks, marks-hold}
use Rattle.lowest.proofs.LookupLink.{looked-up-contents}
use Rattle.lowest.proofs.TreeLink.{free, State}

-- ---- outcomes

allows-link : (s : Status) (c : Bool) → allows_outcome (rule s) (digit c) ≡ allows s c
unfolding allows_outcome allows
allows-link Status.committed true = refl
allows-link Status.committed false = refl
allows-link Status.aborted true = refl
allows-link Status.aborted false = refl
allows-link Status.pending true = refl
allows-link Status.pending false = refl
allows-link Status.live true = refl
allows-link Status.live false = refl

-- ---- real time

none-e : (set : ℕ) (q : ℕ → Bool) (i m : ℕ) → none_in set (keep q (up_from i m)) ≡ true → (x : ℕ) → i ≤ x → x < i + m → q x ≡ true → bit_at x set ≡ 0
unfolding none_in keep up_from
none-e set q i zero t x a b k = absurd (omega arith)
none-e set q i (suc m) t x a b k = go (q i) refl (eqb (bit_at i set) 0) refl (eqb x i) refl t (λ u c. none-e set q (suc i) m u x c (omega arith) k)
  where
    go : (c : Bool) → q i ≡ c → (d : Bool) → eqb (bit_at i set) 0 ≡ d → (e : Bool) → eqb x i ≡ e → none_in set (push c i (keep q (up_from (suc i) m))) ≡ true
        → (none_in set (keep q (up_from (suc i) m)) ≡ true → suc i ≤ x → bit_at x set ≡ 0) → bit_at x set ≡ 0
    go true f true g true h u ih = ap (λ (y : ℕ). bit_at y set) (eqb-true x i h) ∙ eqb-true (bit_at i set) 0 g
    go true f true g false h u ih = ih (rw g at u) (let n : (x ≡ i → ⊥) = eqb-false x i h in omega arith)
    go true f false g e h u ih = absurd (false≢true (rw g at u))
    go false f d g true h u ih = absurd (true≢false (sym k ∙ ap q (eqb-true x i h) ∙ f))
    go false f d g false h u ih = ih u (let n : (x ≡ i → ⊥) = eqb-false x i h in omega arith)

none-i : (set : ℕ) (q : ℕ → Bool) (i m : ℕ) → ((x : ℕ) → i ≤ x → x < i + m → q x ≡ true → bit_at x set ≡ 0) → none_in set (keep q (up_from i m)) ≡ true
unfolding none_in keep up_from
none-i set q i zero f = refl
none-i set q i (suc m) f = go (q i) refl (none-i set q (suc i) m (λ x a b. f x (omega arith) (omega arith)))
  where
    go : (c : Bool) → q i ≡ c → none_in set (keep q (up_from (suc i) m)) ≡ true → none_in set (push c i (keep q (up_from (suc i) m))) ≡ true
    go true e ih = rw (f i (le_refl i) (omega arith) e) ih
    go false e ih = ih

-- ---- the store

-- a store read of r by t, as the table has it
module _ (o : List ℕ) (f : List (List ℕ)) (p : List ℕ) (t r v : ℕ) where
  legal-read : required_of f t r ≡ v + 1 → legal_at o f p t r ≡ eqb (contents (start_of o) (writes_in f) (decode p) r) v
  unfolding legal_at
  legal-read q =
      let k : eqb (v + 1) 0 ≡ false = ne_eqb (v + 1) 0 (λ m. omega arith) in
      let d : v + 1 - 1 ≡ v = omega arith in
      rw (q, k, d)

  legal-none : required_of f t r ≡ 0 → legal_at o f p t r ≡ true
  unfolding legal_at
  legal-none q = rw q

-- ---- the tests

none_allowed : (o : ℕ) → o < 2 → allows_outcome 3 o ≡ false
unfolding allows_outcome
none_allowed zero l = refl
none_allowed (suc zero) l = refl
none_allowed (suc (suc o)) l = absurd (omega arith)

below_two : (c : Bool) → digit c < 2
below_two true = omega arith
below_two false = omega arith

-- a rule of 3 allows nothing
picks : (b c : Bool) (rule o : ℕ) → o < 2 → allows_outcome (cond b (cond c rule 3) 3) o ≡ (allows_outcome rule o and (b and c))
unfolding ◌and◌
picks true true rule o l = sym (and-true (allows_outcome rule o))
picks true false rule o l = none_allowed o l ∙ sym (and_false_r (allows_outcome rule o) false refl)
picks false c rule o l = none_allowed o l ∙ sym (and_false_r (allows_outcome rule o) false refl)

module _ (o : List ℕ) (h : List Event) (good : Good h) (few : begins h ≤ 10) (p u : List ℕ) (st : State (begins h) p u) (t : ℕ) (lt : t < begins h) where
  P : List Place
  P = decode p

  whole : take (length h) h ≡ h
  whole = take_all (length h) h (le_refl (length h))

  real-time : none_in (after_of (tables_of h).facts t) u ≡ preceded h (decode p) t
  unfolding preceded free
  real-time = rw st.left (both_ways _ _ forth back)
    where
      set : ℕ
      set = after_of (tables_of h).facts t

      holds : (x : ℕ) → bit_at x set ≡ digit (precedes h x t)
      holds x = rw whole at (after_holds h good (length h) (le_refl (length h)) t x (omega arith))

      forth : none_in set (keep (free (decode p)) (up_from 0 (begins h))) ≡ true → every (λ x. precedes h x t implies placed x (decode p)) (begins h) ≡ true
      forth k = every-i _ _ (λ x l. imp-i _ _ (λ e. go x l e (placed x (decode p)) refl))
        where
          go : (x : ℕ) → x < begins h → precedes h x t ≡ true → (b : Bool) → placed x (decode p) ≡ b → b ≡ true
          go x l e true f = refl
          go x l e false f =
              let z : bit_at x set ≡ 0 = none-e set (free (decode p)) 0 (begins h) k x (omega arith) (omega arith) (ap not f) in
              let o : bit_at x set ≡ 1 = holds x ∙ ap digit e in
              absurd (omega arith)

      back : every (λ x. precedes h x t implies placed x (decode p)) (begins h) ≡ true → none_in set (keep (free (decode p)) (up_from 0 (begins h))) ≡ true
      back k = none-i set (free (decode p)) 0 (begins h) (λ x a l f. go x (omega arith) (not-true _ f) (precedes h x t) refl)
        where
          go : (x : ℕ) → x < begins h → placed x (decode p) ≡ false → (b : Bool) → precedes h x t ≡ b → bit_at x set ≡ 0
          go x l f true e = absurd (clash (imp-e _ _ (every-e _ _ k x l) e) f)
          go x l f false e = holds x ∙ ap digit e

  allowed : (c : Bool) → allows_outcome (allowed_of (tables_of h).facts t) (digit c) ≡ allows (status h t) c
  allowed c =
      let holds : allowed_of (tables_of h).facts t ≡ rule (status h t) = rw whole at (allowed-holds h good (length h) (le_refl (length h)) t (omega arith)) in
      rw holds (allows-link (status h t) c)

  -- what event i reads from the store is what its register holds after the places p, and that of all events of t
  abbrev returns-held : ℕ → Bool
  returns-held i = eqb (event_at h i).value (contents (start_of o) h (decode p) (event_at h i).register)

  abbrev all-legal : Bool
  all-legal = every (λ i. eqb (event_at h i).transaction t implies legal_over (start_of o) h (decode p) i) (length h)

  module _ (fine : (tables_of h).contradictory ≡ 0) where
    store : legal_reads (constraints_of o (tables_of h)) p t ≡ all-legal
    unfolding legal_over legal_reads
    store = both_ways _ _ forth back
      where
        F : List (List ℕ)
        F = (tables_of h).facts

        set : ℕ
        set = reads_asked F all_registers t

        reads : Reads h (length h) F (tables_of h).contradictory
        reads = rw whole at (reads-hold h good (length h) (le_refl (length h)))

        marks : Marks h (length h) F
        marks = rw whole at (marks-hold h good (length h) (le_refl (length h)))

        clear : (x : ℕ) → bit_at x (tables_of h).contradictory ≡ 0
        clear x = ap (bit_at x) fine ∙ bit-none x

        content : (r : ℕ) → r < 32 → contents (start_of o) (writes_in F) (decode p) r ≡ contents (start_of o) h (decode p) r
        content r l = looked-up-contents o h good p (λ i k. omega (arith, st.known i k)) r l

        forth : all (legal_at o F p t) (members set) ≡ true → all-legal ≡ true
        forth k = every-i _ _ (λ i l. imp-i _ _ (λ e. imp-i _ _ (λ s. go i l (eqb-true _ _ e) s)))
          where
            go : (i : ℕ) → i < length h → (event_at h i).transaction ≡ t → is_store_read h i ≡ true → returns-held i ≡ true
            go i l e s =
                let r = (event_at h i).register in
                let lr : r < 32 = (good i l).register in
                let w : required_of F t r ≡ (event_at h i).value + 1 = ap (λ (x : ℕ). required_of F x r) (sym e) ∙ reads.each i l (clear _) s in
                let m : bit_at r (reads_of F t) ≡ 1 = ap (λ (x : ℕ). bit_at r (reads_of F x)) (sym e) ∙ marks.each i l s in
                let a : legal_at o F p t r ≡ true = member-passes (legal_at o F p t) set k r (omega arith) (reads-asked-all F t r lr m) in
                let b : contents (start_of o) (writes_in F) (decode p) r ≡ (event_at h i).value = eqb-true _ _ (sym (legal-read o F p t r (event_at h i).value w) ∙ a) in
                eq-eqb _ _ (sym b ∙ content r lr)

        back : all-legal ≡ true → all (legal_at o F p t) (members set) ≡ true
        back k =
            members-pass (legal_at o F p t) set
            (λ r m. let l : r < 32 = marks.low t r (omega arith) (asked-reads F t r m) in ⊎_elim (legal-none o F p t r 0) (go r l) (reads.some_read t r (omega arith) l))
          where
            go : (r : ℕ) → r < 32 → Wanted h (length h) t r (required_of F t r) → legal_at o F p t r ≡ true
            go r l w =
                let i = w.event in
                let a : returns-held i ≡ true =
                imp-e _ _ (imp-e _ _ (every-e _ _ k i w.inside) (eq-eqb _ _ w.transaction)) w.store in
                let b : (event_at h i).value ≡ contents (start_of o) h (decode p) r = eqb-true _ _ a ∙ ap (contents (start_of o) h (decode p)) w.register in
                legal-read o F p t r (event_at h i).value w.value ∙ eq-eqb _ _ (content r l ∙ sym b)

    pub agree : placed t (decode p) ≡ false → (c : Bool) → fits_at (constraints_of o (tables_of h)) p u t (digit c) ≡ fits (start_of o) h (decode p) (place t c)
    unfolding fits_at rule_next fits ◌and◌
    agree q c =
        let a : ltb t (begins h) ≡ true = lt-ltb t (begins h) lt in
        rw (real-time, store, a, q)
        (picks (preceded h (decode p) t) all-legal (allowed_of (tables_of h).facts t) (digit c) (below_two c)
        ∙ ap (λ (b : Bool). b and (preceded h (decode p) t and all-legal)) (allowed c))
