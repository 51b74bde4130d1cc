-- Points in a table of gaps by event, where 65535 stands for none.
-- Assumes nothing.
use Prim.Native.Nat.{ℕ, zero, suc, ◌≤◌, ◌<◌}
use native.Mathlib.Nat.{zero-add, le_step, lt-suc_self, lt_of_not-le}
use native.Mathlib.Decide.{dec_le}
use native.Mathlib.Omega.{arith}
use mathlib.Core.Path.{◌≡◌, refl, sym, ap, ◌∙◌, subst}
use mathlib.Core.Bool.{Bool, true, false, not, cond, true≢false, false≢true}
use mathlib.Core.List.{List, [], ◌∷◌, ◌++◌, map, map-append, append-nil}
use lib.Dec.{eqb, ltb, leb}
use lib.ListN.{length, get_or, set, get_or-eq_default}
use lib.Seq.{get_or-set_other}
use borrow.Author.Tests.{eqb-true, eq-eqb, eqb-false, lt-ltb, le-ltb, le-leb}
use Rattle.lists.specs.Lists.{◌and◌, ◌or◌, ◌implies◌, any, all, every, keep, push, range}
use Rattle.lists.proofs.ListLaws.{and_i, any_append, all_append, or-false, keep_append, clash, every-e, every-i}
use Rattle.std.specs.List.{range_with_len, AllWithin, HoldsAt}
use Rattle.std.specs.Bool.{MatchBool}
use Rattle.std.proofs.lemmas.List.FromFn.{length-range_with_len, get_or-range_with_len}
use Rattle.events.specs.declared.event.Event.{Event}
use Rattle.events.specs.Events.{event_at, no_event, answers_read, is_read}
use Rattle.opacity.specs.Transactions.{is_store_read}
use Rattle.opacity.specs.Marking.{Point}
use Rattle.marking_reader.specs.File.{has_point}
use Rattle.marking_reader.specs.State.{point_by, point_in, points_of}

-- the point of event i
abbrev pub pt : List ℕ → ℕ → Point
pt gaps i = record { event = i; gap = get_or gaps i 0 }

-- ---- which events have one

is_at : ℕ → Point → Bool
is_at i p = eqb p.event i

pub has-tabled : (gaps : List ℕ) (k i : ℕ) → has_point (points_of gaps k) i ≡ (ltb i k and not (eqb (get_or gaps i 0) 65535))
unfolding has_point points_of any ◌and◌ ◌or◌ is_at
has-tabled gaps zero i = rw (le-ltb i 0 (omega arith))
has-tabled gaps (suc k) i =
    any_append (is_at i) (points_of gaps k) (point_in gaps k)
    ∙ (ap (λ (x : Bool). x or any (is_at i) (point_in gaps k)) (has-tabled gaps k i) ∙ go (eqb k i) refl (eqb (get_or gaps k 0) 65535) refl)
  where
    later : (z : Bool) → any (is_at i) (cond z [] (pt gaps k ∷ [])) ≡ (eqb k i and not z)
    later true = go' (eqb k i)
      where
        go' : (w : Bool) → false ≡ (w and false)
        go' true = refl
        go' false = refl
    later false = go' (eqb k i)
      where
        go' : (w : Bool) → (w or false) ≡ (w and true)
        go' true = refl
        go' false = refl

    go : (a : Bool) → eqb k i ≡ a → (z : Bool) → eqb (get_or gaps k 0) 65535 ≡ z
        → ((ltb i k and not (eqb (get_or gaps i 0) 65535)) or any (is_at i) (cond z [] (pt gaps k ∷ [])))
        ≡ (ltb i (suc k) and not (eqb (get_or gaps i 0) 65535))
    go true e z f =
        let q : k ≡ i = eqb-true k i e in
        let g : eqb (get_or gaps i 0) 65535 ≡ z = ap (λ (x : ℕ). eqb (get_or gaps x 0) 65535) (sym q) ∙ f in
        let u : ltb i k ≡ false = le-ltb i k (omega arith) in
        let v : ltb i (suc k) ≡ true = lt-ltb i (suc k) (omega arith) in
        rw (u, v, g, later z, e)
    go false e z f =
        let ne : k ≡ i → ⊥ = eqb-false k i e in
        rw (later z, e, or-false) (ap (λ (x : Bool). x and not (eqb (get_or gaps i 0) 65535)) (sym (below_one (dec_le (suc i) k))))
      where
        below_one : Dec (suc i ≤ k) → ltb i (suc k) ≡ ltb i k
        below_one (yes m) = lt-ltb i (suc k) (omega arith) ∙ sym (lt-ltb i k m)
        below_one (no u) =
            let m = lt_of_not-le u in
            le-ltb i (suc k) (omega (arith, eqb-false k i e)) ∙ sym (le-ltb i k (omega arith))

-- points below k do not see a store at k
pub points_set : (gaps : List ℕ) (e g k : ℕ) → k ≤ e → points_of (set gaps e g) k ≡ points_of gaps k
unfolding points_of
points_set gaps e g zero l = refl
points_set gaps e g (suc k) l =
    let ne : k ≡ e → ⊥ = λ q. omega arith in
    ap (λ (P : List Point). P ++ point_in (set gaps e g) k) (points_set gaps e g k (omega arith)) ∙ rw (get_or-set_other gaps e k g 0 ne)

-- no points where the table holds none
pub points_none : (gaps : List ℕ) (a k : ℕ) → a ≤ k → ((i : ℕ) → a ≤ i → i < k → get_or gaps i 0 ≡ 65535) → points_of gaps k ≡ points_of gaps a
unfolding points_of
points_none gaps a zero l q = let e : a ≡ 0 = omega arith in rw e
points_none gaps a (suc k) l q =
    elim (dec_le (suc k) a) [
      | yes m ↦ (let e : a ≡ suc k = omega arith in rw e)
      | no u ↦
          (let m = lt_of_not-le u in
          let z : eqb (get_or gaps k 0) 65535 ≡ true = eq-eqb _ _ (q k (omega arith) (lt-suc_self k)) in
          rw z (append-nil (points_of gaps k) ∙ points_none gaps a k (omega arith) (λ i a' b. q i a' (le_step b))))
    ]

-- ---- the passing events have one

-- the points of a table that has a gap at the passing numbers
pub points_kept : (p : ℕ → Bool) (gaps : List ℕ) (k : ℕ) → ((i : ℕ) → i < k → p i ≡ not (eqb (get_or gaps i 0) 65535))
    → map (pt gaps) (keep p (range k)) ≡ points_of gaps k
unfolding points_of range keep
points_kept p gaps zero f = refl
points_kept p gaps (suc k) f =
    ap (map (pt gaps)) (keep_append p (range k) (k ∷ []))
    ∙ (map-append (pt gaps) (keep p (range k)) (keep p (k ∷ []))
    ∙ (ap (λ (l : List Point). l ++ map (pt gaps) (keep p (k ∷ []))) (points_kept p gaps k (λ i l. f i (le_step l)))
    ∙ ap (λ (l : List Point). points_of gaps k ++ l) (one (p k) (eqb (get_or gaps k 0) 65535) (f k (lt-suc_self k)))))
  where
    one : (a z : Bool) → a ≡ not z → map (pt gaps) (push a k []) ≡ cond z [] (pt gaps k ∷ [])
    one true true e = absurd (true≢false e)
    one true false e = refl
    one false true e = refl
    one false false e = absurd (false≢true e)

-- they are low where the gaps are
pub gaps-low : (gaps : List ℕ) (b k : ℕ) → ((i : ℕ) → i < k → eqb (get_or gaps i 0) 65535 ≡ false → get_or gaps i 0 ≤ b)
    → all (λ p. leb p.gap b) (points_of gaps k) ≡ true
unfolding points_of all ◌and◌
gaps-low gaps b zero f = refl
gaps-low gaps b (suc k) f =
    all_append (λ p. leb p.gap b) (points_of gaps k) (point_in gaps k)
    ∙ and_i _ _ (gaps-low gaps b k (λ i l. f i (le_step l))) (one (eqb (get_or gaps k 0) 65535) refl)
  where
    one : (z : Bool) → eqb (get_or gaps k 0) 65535 ≡ z → all (λ (p : Point). leb p.gap b) (cond z [] (pt gaps k ∷ [])) ≡ true
    one true e = refl
    one false e = rw (le-leb _ _ (f k (lt-suc_self k) e))

-- past the end of a history nothing is a store read
pub beyond-history : (h : List Event) (i : ℕ) → length h ≤ i → is_store_read h i ≡ false
unfolding is_store_read is_read answers_read ◌or◌ ◌and◌
beyond-history h i l = let q : event_at h i ≡ no_event = get_or-eq_default h no_event l in rw q

-- ---- whether a store read has one

module _ (h : List Event) (gaps : List ℕ) (i : ℕ) where
  pub with-gap : eqb (get_or gaps i 0) 65535 ≡ false → true ≡ point_by h gaps i
  unfolding ◌implies◌
  with-gap e = rw e (go (is_store_read h i))
    where
      go : (b : Bool) → true ≡ (b implies true)
      go true = refl
      go false = refl

  pub without-gap : eqb (get_or gaps i 0) 65535 ≡ true → not (is_store_read h i) ≡ point_by h gaps i
  unfolding ◌implies◌
  without-gap e = rw e (go (is_store_read h i))
    where
      go : (b : Bool) → not b ≡ (b implies false)
      go true = refl
      go false = refl

-- ---- whether every one has

fails-one : (p : ℕ → Bool) (n k : ℕ) → k < n → p k ≡ false → false ≡ every p n
fails-one p n k l f = go (every p n) refl
  where
    go : (b : Bool) → every p n ≡ b → false ≡ b
    go true e = absurd (clash (every-e p n e k l) f)
    go false e = refl

module _ (p : ℕ → Bool) (n : ℕ) where
  abbrev numbers : List ℕ
  numbers = range_with_len 0 n

  -- what `all` says of the numbers below n
  abbrev pub Listed : Bool → Type 0
  Listed r =
      MatchBool r (AllWithin (λ i. p i ≡ true) numbers 0 (length numbers)) ((k : ℕ) × (k < length numbers) × HoldsAt (λ i. p i ≡ false) numbers k)

  at-number : (k : ℕ) → k < n → get_or numbers k 0 ≡ k
  at-number k l = get_or-range_with_len 0 n k 0 l ∙ zero-add k

  pub every-listed : (r : Bool) → Listed r → r ≡ every p n
  every-listed true m =
      sym (every-i p n (λ k l. subst (λ (i : ℕ). p i ≡ true) (at-number k l) (m k 0 (omega arith) (omega (arith, l, length-range_with_len 0 n)))))
  every-listed false m =
      let l : m.0 < n = omega (arith, m.1, length-range_with_len 0 n) in
      fails-one p n m.0 l (subst (λ (i : ℕ). p i ≡ false) (at-number m.0 l) (m.2 0))
