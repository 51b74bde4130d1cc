-- Laws of orders of places: where a transaction's place is, and that an order of n places fills all.
-- Assumes nothing.
use Prim.Native.Nat.{ℕ, zero, suc, ◌+◌, ◌≤◌, ◌<◌}
use native.Mathlib.Nat.{le_of_eq}
use native.Mathlib.Decide.{dec_lt}
use native.Mathlib.Omega.{arith}
use mathlib.Core.Path.{◌≡◌, refl, sym, ap, ◌∙◌, subst}
use mathlib.Core.Logic.{◌⊎◌, inl, inr, ⊎_elim}
use mathlib.Core.Bool.{Bool, true, false, not, cond, false≢true}
use mathlib.Core.List.{List, [], ◌∷◌, ◌++◌, append-nil, append_assoc}
use lib.Dec.{eqb, ltb}
use lib.ListN.{length}
use borrow.Author.Tests.{ne_eqb, eqb-true, ltb-true, lt-ltb}
use Rattle.lists.specs.Lists.{◌or◌, ◌and◌, any, all, keep, every, range}
use Rattle.opacity.specs.Justification.{Place, is_of, placed, before, outcome, distinct, is_order, OnePlace}
use Rattle.opacity.specs.Lowest.{follows}
use Rattle.opacity.specs.Counts.{one}
use Rattle.opacity.proofs.HowMany.{how_many, how-many-suc, how-many-low, how-many-none, how-many-same, how-many-moved}
use Rattle.lists.proofs.ListLaws.{and_l, and_r, and_i, every-e, nor-l, nor-r, nor-i, or-false, not-true, eqb-self, eqb-sym, contra, any_append, any-weaken, none-append, none-back}

-- t has no place in P
abbrev pub Fresh : ℕ → List Place → Type 0
Fresh t P = placed t P ≡ false

pub before_here : (P : List Place) (p : Place) (S : List Place) → Fresh p.transaction P → before p.transaction (P ++ p ∷ S) ≡ P
unfolding before placed any
before_here [] p S f = rw (eqb-self p.transaction)
before_here (q ∷ P) p S f =
    let e : is_of p.transaction q ≡ false = nor-l _ _ f in
    rw e (ap (λ (l : List Place). q ∷ l) (before_here P p S (nor-r _ _ f)))

-- a test that no place passes is passed by none before another place
pub before-none : (q : Place → Bool) (u : ℕ) (J : List Place) → any q J ≡ false → any q (before u J) ≡ false
unfolding any before
before-none q u [] n = refl
before-none q u (p ∷ J) n = go (is_of u p) (before-none q u J (nor-r _ _ n))
  where
    go : (b : Bool) → any q (before u J) ≡ false → any q (cond b [] (p ∷ before u J)) ≡ false
    go true i = refl
    go false i = nor-i _ _ (nor-l _ _ n) i

-- a transaction without a place has no outcome committed
pub no-outcome : (t : ℕ) (P : List Place) → Fresh t P → outcome t P ≡ false
unfolding outcome placed
no-outcome t P f = any-weaken (is_of t) (λ (p : Place). is_of t p and p.committed) P (λ x. and_l (is_of t x) x.committed) f

pub outcome-here : (P : List Place) (p : Place) (S : List Place) → Fresh p.transaction P → Fresh p.transaction S → outcome p.transaction (P ++ p ∷ S) ≡ p.committed
unfolding outcome any ◌and◌ ◌or◌
outcome-here P p S f g =
    any_append (λ (q : Place). is_of p.transaction q and q.committed) P (p ∷ S)
    ∙ simp (no-outcome p.transaction P f, no-outcome p.transaction S g, eqb-self p.transaction, or-false)

-- t is not u: the two ways to test it
other_way : (t u : ℕ) → eqb t u ≡ false → eqb u t ≡ false
other_way t u f = contra (eqb u t) (eqb t u) (eqb-sym u t) f

pub distinct-at : (P : List Place) (p : Place) (S : List Place) → distinct (P ++ p ∷ S) ≡ true → Fresh p.transaction P × Fresh p.transaction S
unfolding distinct placed any
distinct-at [] p S d = (refl, not-true _ (and_l _ _ d))
distinct-at (q ∷ P) p S d =
    let r = distinct-at P p S (and_r _ _ d) in
    let e : eqb p.transaction q.transaction ≡ false = nor-l _ _ (none-back (is_of q.transaction) P (p ∷ S) (not-true _ (and_l _ _ d))) in
    (nor-i _ _ (other_way p.transaction q.transaction e) r.0, r.1)

pub distinct_snoc : (P : List Place) (p : Place) → distinct P ≡ true → Fresh p.transaction P → distinct (P ++ (p ∷ [])) ≡ true
unfolding distinct placed any
distinct_snoc [] p d f = and_i _ _ refl refl
distinct_snoc (q ∷ P) p d f =
    let e : eqb q.transaction p.transaction ≡ false = nor-l _ _ f in
    and_i _ _
    (ap not (none-append (is_of q.transaction) P (p ∷ []) (not-true _ (and_l _ _ d)) (nor-i _ _ (other_way q.transaction p.transaction e) refl)))
    (distinct_snoc P p (and_r _ _ d) (nor-r _ _ f))

-- the place of a transaction that has one
pub record Split (t : ℕ) (J : List Place) : Type 0 where
  pub front : List Place
  pub here : Place
  pub back : List Place
  pub cut : J ≡ front ++ here ∷ back
  pub names : here.transaction ≡ t
  pub fresh : Fresh t front

pub split : (t : ℕ) (J : List Place) → placed t J ≡ true → Split t J
unfolding placed any ◌or◌
split t [] h = absurd (false≢true h)
split t (p ∷ J) h = go (is_of t p) refl (λ k. split t J k)
  where
    go : (b : Bool) → is_of t p ≡ b → (placed t J ≡ true → Split t J) → Split t (p ∷ J)
    go true e ih = record { front = []; here = p; back = J; cut = refl; names = eqb-true p.transaction t e; fresh = refl }
    go false e ih =
        let r = ih (rw e at h) in
        record {
          front = p ∷ r.front;
          here = r.here;
          back = r.back;
          cut = ap (λ (l : List Place). p ∷ l) r.cut;
          names = r.names;
          fresh = rw e r.fresh;
        }

-- a place that comes next in its turn
pub follows-at : (ok : List Place → Place → Bool) (Q P : List Place) (p : Place) (S : List Place) → follows ok Q (P ++ p ∷ S) ≡ true → ok (Q ++ P) p ≡ true
unfolding follows
follows-at ok Q [] p S t = rw append-nil (and_l _ _ t)
follows-at ok Q (q ∷ P) p S t =
    rw append_assoc at (follows-at ok (Q ++ (q ∷ [])) P p S (and_r _ _ t))

-- ---- how many of the transactions below n have a place

-- all are counted exactly if all pass
count-all : (p : ℕ → Bool) (n : ℕ) → how_many p n ≡ n → every p n ≡ true
unfolding every
count-all p zero e = refl
count-all p (suc n) e = go (p n) (count-all p n) (how-many-low p n) (sym (how-many-suc p n) ∙ e)
  where
    go : (b : Bool) → (how_many p n ≡ n → every p n ≡ true) → how_many p n ≤ n → how_many p n + one b ≡ suc n → (every p n and b) ≡ true
    go true ih l q = and_i _ _ (ih (omega arith)) refl
    go false ih l q = absurd (omega arith)

all-count : (p : ℕ → Bool) (n : ℕ) → every p n ≡ true → how_many p n ≡ n
unfolding every range keep
all-count p zero t = refl
all-count p (suc n) t =
    let here : one (p n) ≡ 1 = ap one (and_r _ _ t) in
    omega (arith, how-many-suc p n, all-count p n (and_l _ _ t))

-- each place counts once
count-places : (n : ℕ) (J : List Place) → all (λ p. ltb p.transaction n) J ≡ true → distinct J ≡ true → how_many (λ t. placed t J) n ≡ length J
unfolding all distinct placed any ◌or◌
count-places n [] k d = how-many-none (λ t. false) n (λ t l. refl)
count-places n (p ∷ J) k d =
    let T : ℕ = p.transaction in
    let more =
    how-many-moved (λ t. placed t J) (λ t. placed t (p ∷ J)) T (λ t u. rw (ne_eqb T t u)) n
    (ltb-true T n (and_l _ _ k)) in
    let before : one (placed T J) ≡ 0 = ap one (not-true (placed T J) (and_l _ _ d)) in
    let after : one (placed T (p ∷ J)) ≡ 1 = ap (λ (b : Bool). one (b or placed T J)) (eqb-self T) in
    omega (arith, more, before, after, count-places n J (and_r _ _ k) (and_r _ _ d))

-- an order with n places fills all, and one that fills all has n places
pub fills : (n : ℕ) (J : List Place) → all (λ p. ltb p.transaction n) J ≡ true → distinct J ≡ true → length J ≡ n → every (λ t. placed t J) n ≡ true
fills n J k d e = count-all (λ t. placed t J) n (count-places n J k d ∙ e)

pub filled : (n : ℕ) (J : List Place) → is_order n J ≡ true → length J ≡ n
unfolding is_order
filled n J o =
    let d = and_r (all (λ p. ltb p.transaction n) J) _ o in
    sym (count-places n J (and_l _ _ o) (and_l _ _ d)) ∙ all-count (λ t. placed t J) n (and_r _ _ d)

-- One place more is counted at most once, and only if its transaction is below n and had no place.
record Counted (n : ℕ) (p : Place) (J : List Place) : Type 0 where
  more : how_many (λ t. placed t (p ∷ J)) n ≡ suc (how_many (λ t. placed t J) n)
  low : ltb p.transaction n ≡ true
  fresh : Fresh p.transaction J

count-more : (n : ℕ) (p : Place) (J : List Place) → (how_many (λ t. placed t (p ∷ J)) n ≡ how_many (λ t. placed t J) n) ⊎ Counted n p J
unfolding placed any ◌or◌
count-more n p J =
    elim (dec_lt p.transaction n) [
      | yes l ↦ inside l (placed p.transaction J) refl
      | no g ↦ inl (sym (outside g))
    ]
  where
    outside : (p.transaction < n → ⊥) → how_many (λ t. placed t J) n ≡ how_many (λ t. placed t (p ∷ J)) n
    outside g = how-many-same (λ t. placed t J) (λ t. placed t (p ∷ J)) n (λ t l. rw (ne_eqb p.transaction t (λ e. omega arith)))

    moved : p.transaction < n
        → how_many (λ t. placed t (p ∷ J)) n + one (placed p.transaction J) ≡ how_many (λ t. placed t J) n + one (placed p.transaction (p ∷ J))
    moved l = how-many-moved (λ t. placed t J) (λ t. placed t (p ∷ J)) p.transaction (λ t u. rw (ne_eqb p.transaction t u)) n l

    now : one (placed p.transaction (p ∷ J)) ≡ 1
    now = ap (λ (b : Bool). one (b or placed p.transaction J)) (eqb-self p.transaction)

    inside : p.transaction < n → (b : Bool) → placed p.transaction J ≡ b
        → (how_many (λ t. placed t (p ∷ J)) n ≡ how_many (λ t. placed t J) n) ⊎ Counted n p J
    inside l true e = inl (let was : one (placed p.transaction J) ≡ 1 = ap one e in omega (arith, moved l, now))
    inside l false e =
        let was : one (placed p.transaction J) ≡ 0 = ap one e in
        inr (record { more = omega (arith, moved l, now); low = lt-ltb p.transaction n l; fresh = e })

count_most : (n : ℕ) (J : List Place) → how_many (λ t. placed t J) n ≤ length J
unfolding placed any
count_most n [] = le_of_eq (how-many-none (λ t. false) n (λ t l. refl))
count_most n (p ∷ J) =
    ⊎_elim (λ e. omega (arith, e, count_most n J)) (λ c. omega (arith, c.more, count_most n J)) (count-more n p J)

count-tight : (n : ℕ) (J : List Place) → length J ≤ how_many (λ t. placed t J) n → (all (λ p. ltb p.transaction n) J ≡ true) × (distinct J ≡ true)
unfolding all distinct
count-tight n [] l = (refl, refl)
count-tight n (p ∷ J) l =
    ⊎_elim
    (λ e. absurd (omega (arith, e, count_most n J)))
    (λ c.
    let r = count-tight n J (omega (arith, c.more)) in
    (and_i _ _ c.low r.0, and_i _ _ (ap not c.fresh) r.1))
    (count-more n p J)

-- n places that fill all n are an order: none is left over for another transaction or for a second place
pub orders : (n : ℕ) (J : List Place) → every (λ t. placed t J) n ≡ true → length J ≡ n → is_order n J ≡ true
unfolding is_order
orders n J f e =
    let r = count-tight n J (omega (arith, all-count (λ t. placed t J) n f)) in
    and_i _ _ r.0 (and_i _ _ r.1 f)

-- and in an order each transaction has one place, and no other
pub one_place : (n : ℕ) (J : List Place) → is_order n J ≡ true → (t : ℕ) → t < n → OnePlace t J
unfolding is_order
one_place n J o t l =
    let d = and_r (all (λ p. ltb p.transaction n) J) _ o in
    let s = split t J (every-e (λ u. placed u J) n (and_r (distinct J) _ d) t l) in
    let f = distinct-at s.front s.here s.back (ap distinct (sym s.cut) ∙ and_l _ _ d) in
    record {
      front = s.front;
      here = s.here;
      back = s.back;
      cut = s.cut;
      names = s.names;
      not-before = s.fresh;
      not_behind = subst (λ (u : ℕ). placed u s.back ≡ false) s.names f.1;
    }
