-- The prefixes of a history, one after the other.
-- Assumes nothing.
use Rattle.std.specs.Prelude.{Option as Answer, Some, None}
use mathlib.Core.Path.{◌≡◌, refl, sym, ap, ◌∙◌}
use mathlib.Core.Logic.{⊎_elim}
use Prim.Native.Nat.{ℕ, suc, ◌+◌, ◌*◌, ◌^◌, ◌≤◌, ◌<◌}
use native.Mathlib.Decide.{dec_le}
use native.Mathlib.Numerals.{add-one}
use native.Mathlib.Omega.{arith}
use mathlib.Core.Bool.{Bool, true, false, cond}
use mathlib.Core.List.{List}
use mathlib.Core.Option.{Option, none, some}
use lib.ListN.{length, take}
use lib.Dec.{eqb}
use Rattle.lists.specs.Lists.{is_none, first, keep}
use Rattle.events.specs.declared.event.Event.{Event}
use Rattle.events.specs.Events.{begins, is_begin, is_quiet, event_at}
use Rattle.events.proofs.KindLaws.{quiet}
use Rattle.event_log.specs.Starts.{start_of}
use Rattle.opacity.specs.Justification.{Justified}
use Rattle.opacity.specs.Lowest.{lowest_of}
use Rattle.opacity.specs.Scan.{opaque, fault, cause, scan}
use Rattle.lists.proofs.ListLaws.{below-cases, clash, first-none, first_some, none_first, First}
use Rattle.opacity.proofs.Bounds.{transaction-known}
use Rattle.opacity.proofs.Least.{lowest-justifies, lowest-least}
use Rattle.opacity.proofs.Opacity.{empty-justified}
use Rattle.places.specs.Places.{codes_of, decode}
use Rattle.places.specs.declared.lookup
use Rattle.places.specs.Told.{told}
use Rattle.places.specs.Tree.{Constraints, constraints, EndAsks, first_whole, read_answer}
use Rattle.tables.specs.declared.Tables.{Tables}
use Rattle.tables.specs.Tables.{empty, go_through, next, tables_of}
use Rattle.lowest.specs.Order.{constraints_of, decoded, Judged}
use Rattle.tables.proofs.TableLaws.{tables_more, quiet-stays}
use Rattle.lowest.proofs.EndMeaning.{asks-by}
use Rattle.lowest.proofs.Link.{found-by}
use Rattle.lowest.proofs.JudgedLaws.{judged-prefix}
use Rattle.witness.specs.Witness.{kept, Carryable, Judges}
use Rattle.witness.proofs.WitnessLaws.{begins-more, carryable, kept-quiet, judged-kept, carried_on, room-on}

-- the first that passes, where none before does
first-at : (p : ℕ → Bool) (n k : ℕ) → k < n → p k ≡ true → ((j : ℕ) → j < k → p j ≡ false) → first p n ≡ some k
first-at p n k l t b = go (first p n) refl
  where
    same : (m : ℕ) → First p n m → m ≡ k
    same m f =
        elim (dec_le k m) [
          | yes x ↦ elim (dec_le m k) [ yes y ↦ omega arith | no y ↦ absurd (clash t (f.least k (omega arith))) ]
          | no x ↦ absurd (clash f.passes (b m (omega arith)))
        ]

    go : (o : Option ℕ) → first p n ≡ o → o ≡ some k
    go none e = absurd (clash t (first-none p n e k l))
    go (some m) e = ap some (same m (first_some p n e))

-- the prefixes of at most i events have a justification, and the witness is one of the longest of them
pub record Scanning (o : List ℕ) (h : List Event) (i : ℕ) (s : Tables) (begun order : ℕ) : Type 0 where
  pub passed : i ≤ length h
  pub tables : s ≡ tables_of (take i h)
  pub count : begun ≡ begins (take i h)
  pub room : order < 2 ^ (begun * 5 + 1)
  pub witness : Justified (start_of o) (take i h) (decode (codes_of begun order))
  pub fine : (k : ℕ) → k < i → is_none (lowest_of (start_of o) (take (suc k) h)) ≡ false

module _ (o : List ℕ) (h : List Event) where
  pub scanning-none : (s : Tables) → s ≡ empty → Scanning o h 0 s 0 1
  unfolding tables_of go_through begins keep codes_of decode
  scanning-none s e =
      record { passed = omega arith; tables = e; count = refl; room = omega arith; witness = empty-justified (start_of o); fine = λ k l. absurd (omega arith) }

  pub scanning-end : (i : ℕ) (s : Tables) (begun order : ℕ) → length h ≤ i → Scanning o h i s begun order → opaque ≡ scan (start_of o) h
  unfolding scan
  scanning-end i s begun order e p =
      let f : first (λ k. is_none (lowest_of (start_of o) (take (suc k) h))) (length h) ≡ none =
      none_first _ (length h) (λ k m. p.fine k (omega arith)) in
      rw f

-- the constraints of the facts, by which an order is kept
pub kept-told : (k : lookup.Constraints.Constraints) (o : List ℕ) (f : List (List ℕ)) (n order : ℕ) (e : Event) {x : Answer ℕ} → told k ≡ constraints o f
    → x ≡ kept k.starts.now k.facts.now n order e → x ≡ kept o f n order e
kept-told k o f n order e t q = q ∙ ap (λ (D : Constraints). kept D.starts D.facts n order e) t

-- event i of a history comes, behind prefixes that have a justification
pub record Next (o : List ℕ) (h : List Event) (i : ℕ) (e : Event) (s : Tables) (begun order : ℕ) : Type 0 where
  pub judged : Judged h
  pub inside : i < length h
  pub same : e ≡ event_at h i
  pub passed : Scanning o h i s begun order

module _ {o : List ℕ} {h : List Event} {i : ℕ} {e : Event} {s : Tables} {begun order : ℕ} (now : Next o h i e s begun order) where
  abbrev p : Scanning o h i s begun order
  p = now.passed

  abbrev j : Judged h
  j = now.judged

  abbrev l : i < length h
  l = now.inside

  abbrev same-event : e ≡ event_at h i
  same-event = now.same

  pub few-before : begun ≤ 10
  few-before = let q = (judged-prefix h i p.passed j).few in omega (arith, p.count)

  pub may-carry : Carryable begun order e
  may-carry = carryable o h j i l e same-event begun order p.count p.room p.witness

  module _ {s' : Tables} {begun' : ℕ} (steps : s' ≡ next s e) (counts : begun' ≡ cond (is_begin e) (begun + 1) begun) where
    its-tables : s' ≡ tables_of (take (i + 1) h)
    its-tables = tables_more h i l s s' e p.tables same-event steps

    its-count : begun' ≡ begins (take (i + 1) h)
    its-count = counts ∙ ap (λ (m : ℕ). cond (is_begin e) (m + 1) m) p.count ∙ sym (begins-more h i l e same-event)

    next-judged : Judged (take (i + 1) h)
    next-judged = judged-prefix h (i + 1) (omega arith) j

    pub few-begun : begun' ≤ 10
    few-begun = let q = next-judged.few in omega (arith, its-count)

    pub end-asked : EndAsks s'.facts begun'
    end-asked = asks-by (take (i + 1) h) s' begun' next-judged its-tables its-count

    -- the prefix that ends with event i
    whole : take (suc i) h ≡ take (i + 1) h
    whole = ap (λ (k : ℕ). take k h) (sym (add-one i))

    module _ {kept-order a : Answer ℕ} (keeps : kept-order ≡ kept o s.facts begun order e)
        (judges : Judges kept-order begun' a (cond (eqb s'.contradictory 0) (first_whole (constraints_of o s') begun') none)) where
      -- searched anew
      found : kept-order ≡ None → decoded (read_answer begun' a) ≡ lowest_of (start_of o) (take (i + 1) h)
      found z = found-by o (take (i + 1) h) (read_answer begun' a) s' begun' next-judged its-tables its-count (judges.searched z).completion

      -- kept, or searched anew
      witness-more : (b : ℕ) → a ≡ Some b → (Justified (start_of o) (take (i + 1) h) (decode (codes_of begun' b))) × (b < 2 ^ (begun' * 5 + 1))
      witness-more b f = go kept-order refl
        where
          go : (k : Answer ℕ) → kept-order ≡ k → (Justified (start_of o) (take (i + 1) h) (decode (codes_of begun' b))) × (b < 2 ^ (begun' * 5 + 1))
          go None z =
              let q : some (decode (codes_of begun' b)) ≡ lowest_of (start_of o) (take (i + 1) h) = rw f at (found z) in (
                lowest-justifies (start_of o) (take (i + 1) h) (transaction-known (take (i + 1) h) next-judged.readable) (sym q),
                rw f at (judges.searched z).room,
              )
          go (Some k) z =
              let stays : a ≡ Some k = rw z at judges.stays in
              let same : k ≡ b = cc in
              let w : s.facts ≡ (tables_of (take i h)).facts = ap (λ (y : Tables). y.facts) p.tables in
              let its : Some b ≡ kept o s.facts begun order e = ap Some (sym same) ∙ sym z ∙ keeps in (
                carried_on o h j i l e same-event begun order p.count p.room p.witness s.facts w b its begun' counts,
                room-on o h j i l e same-event begun order p.count p.room p.witness s.facts w b its begun' counts,
              )

      pub scanning-more : (b : ℕ) → a ≡ Some b → Scanning o h (i + 1) s' begun' b
      scanning-more b f =
          let w = witness-more b f in
          let here : is_none (lowest_of (start_of o) (take (suc i) h)) ≡ false = rw whole (ap is_none (lowest-least (start_of o) (take (i + 1) h) w.0).1) in
          record {
            passed = omega arith;
            tables = its-tables;
            count = its-count;
            room = w.1;
            witness = w.0;
            fine = λ k m. ⊎_elim (λ q. rw q here) (λ q. p.fine k q) (below-cases (rw add-one at m));
          }

      none_here : a ≡ None → is_none (lowest_of (start_of o) (take (suc i) h)) ≡ true
      none_here f = go kept-order refl
        where
          go : (k : Answer ℕ) → kept-order ≡ k → is_none (lowest_of (start_of o) (take (suc i) h)) ≡ true
          go None z =
              let q : none ≡ lowest_of (start_of o) (take (i + 1) h) = rw f at (found z) in
              rw whole (ap is_none (sym q))
          go (Some k) z = let stays : a ≡ Some k = rw z at judges.stays in cc

      pub scanning-fault : a ≡ None → fault i (cause e) ≡ scan (start_of o) h
      unfolding scan
      scanning-fault f =
          let at : first (λ k. is_none (lowest_of (start_of o) (take (suc k) h))) (length h) ≡ some i =
          first-at _ (length h) i l (none_here f) p.fine in
          rw (at, same-event)

  -- a quiet event leaves the tables, the count and the order
  pub scanning-quiet : is_quiet e ≡ true → Scanning o h (i + 1) s begun order
  scanning-quiet t =
      let q = quiet e t in
      let counts : begun ≡ cond (is_begin e) (begun + 1) begun = rw q.begins in
      scanning-more (sym (quiet-stays s e t)) counts (kept-quiet o s.facts begun order e q.begins q.reads q.ends)
      (judged-kept refl refl) order refl
