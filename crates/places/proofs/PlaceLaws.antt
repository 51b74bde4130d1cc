-- Laws of the place of a transaction in an order of places, looked for from the last place back.
-- Assumes nothing.
use mathlib.Core.Path.{◌≡◌, refl, sym, ap, ◌∙◌}
use Prim.Native.Nat.{ℕ, zero, suc, ◌-◌, ◌/◌, ◌%◌, ◌≤◌, ◌<◌}
use native.Mathlib.Nat.{le_refl, not-suc-le-zero, le_of_suc-le-suc}
use native.Mathlib.Omega.{arith}
use mathlib.Core.Bool.{Bool, true, false, false≢true}
use mathlib.Core.List.{List, [], ◌∷◌, ◌++◌, append-nil, append_assoc}
use lib.ListN.{length, get_or}
use lib.Dec.{eqb, ltb}
use borrow.Author.Tests.{ne_eqb, ltb-true}
use Rattle.lists.specs.Lists.{◌or◌, any, all}
use Rattle.lists.proofs.ListLaws.{and_l, and_r, every-e, any_append, all_append}
use Rattle.opacity.specs.Justification.{Place, is_of, placed, before, outcome, distinct, is_order}
use Rattle.opacity.proofs.Orders.{before_here, outcome-here, distinct-at}
use Rattle.places.specs.Places.{codes_of, coded, decode}
use Rattle.places.specs.State.{Coded, Ordered, PlaceOf}
use Rattle.places.proofs.StateLaws.{length-codes}
use Rattle.places.proofs.LookupLaws.{decode-snoc}

-- the codes of places of transactions below n
codes-known : (n : ℕ) (p : List ℕ) → all (λ q. ltb q.transaction n) (decode p) ≡ true → (i : ℕ) → i < length p → get_or p i 0 / 2 < n
unfolding all decode
codes-known n [] a i l = absurd (not-suc-le-zero l)
codes-known n (c ∷ p) a zero l = ltb-true _ _ (and_l _ _ a)
codes-known n (c ∷ p) a (suc i) l = codes-known n p (and_r _ _ a) i (le_of_suc-le-suc l)

-- an order holds the code of a transaction at each place
pub ordered-coded : (n order : ℕ) → Ordered n order → Coded n order
unfolding is_order
ordered-coded n order o =
    record { few = o.few; codes = λ i l. omega (arith, o.few, codes-known n (codes_of n order) (and_l _ _ o.is-order) i (rw (length-codes n order) l)) }

-- the places behind those that are left are of others
pub record Looking (n order t left rest : ℕ) : Type 0 where
  pub few : left ≤ n
  pub behind : List Place
  pub cut : decode (codes_of n order) ≡ decode (codes_of left rest) ++ behind
  pub there : placed t (decode (codes_of left rest)) ≡ true

last-place : (m rest : ℕ) → decode (codes_of (suc m) rest) ≡ decode (codes_of m (rest / 32)) ++ (coded (rest % 32) ∷ [])
unfolding codes_of
last-place m rest = decode-snoc (codes_of m (rest / 32)) (rest % 32)

module _ (n order t : ℕ) where
  pub looking-all : Ordered n order → t < n → Looking n order t n order
  unfolding is_order
  looking-all o l = record { few = le_refl n; behind = []; cut = sym (append-nil _); there = every-e _ _ (and_r _ _ (and_r _ _ o.is-order)) t l }

  pub some_left : (left rest : ℕ) → Looking n order t left rest → 0 < left
  unfolding placed any decode codes_of
  some_left zero rest k = absurd (false≢true k.there)
  some_left (suc m) rest k = omega arith

  cut-last : (m rest : ℕ) (k : Looking n order t (suc m) rest) → decode (codes_of n order) ≡ decode (codes_of m (rest / 32)) ++ coded (rest % 32) ∷ k.behind
  cut-last m rest k =
      k.cut ∙ ap (λ (P : List Place). P ++ k.behind) (last-place m rest) ∙ append_assoc (decode (codes_of m (rest / 32))) (coded (rest % 32) ∷ []) k.behind

  pub looking-on : (left rest : ℕ) → Looking n order t left rest → (rest % 32 / 2 ≡ t → ⊥) → Looking n order t (left - 1) (rest / 32)
  unfolding placed any ◌or◌
  looking-on zero rest k f = absurd (omega (arith, some_left zero rest k))
  looking-on (suc m) rest k f =
      let e : suc m - 1 ≡ m = omega arith in
      let a : placed t (decode (codes_of m (rest / 32)) ++ (coded (rest % 32) ∷ [])) ≡ true = rw (last-place m rest) at k.there in
      rw e
      (record {
        few = omega (arith, k.few);
        behind = coded (rest % 32) ∷ k.behind;
        cut = cut-last m rest k;
        there = go (placed t (decode (codes_of m (rest / 32)))) (eqb (rest % 32 / 2) t) (ne_eqb (rest % 32 / 2) t f)
            (sym (any_append (is_of t) (decode (codes_of m (rest / 32))) (coded (rest % 32) ∷ [])) ∙ a);
      })
    where
      go : (x y : Bool) → y ≡ false → (x or (y or false)) ≡ true → x ≡ true
      go true y q s = refl
      go false true q s = absurd (false≢true (sym q))
      go false false q s = absurd (false≢true s)

  pub place_found : (left rest : ℕ) → Ordered n order → Looking n order t left rest → rest % 32 / 2 ≡ t
      → PlaceOf n order t (record { filled = left - 1; placed = rest / 32; committed = eqb (rest % 32 % 2) 1 })
  place_found zero rest o k q = absurd (omega (arith, some_left zero rest k))
  place_found (suc m) rest o k q =
      let e : suc m - 1 ≡ m = omega arith in
      rw e
      (record {
        coded = record { few = omega (arith, o.few, k.few); codes = λ i l. omega (arith, o.few, low i l) };
        places = sym (ap (λ (u : ℕ). before u (decode (codes_of n order))) (sym q) ∙ ap (before (rest % 32 / 2)) (cut-last m rest k) ∙ before_here F c k.behind d.0);
        its-outcome = sym (ap (λ (u : ℕ). outcome u (decode (codes_of n order))) (sym q) ∙ ap (outcome (rest % 32 / 2)) (cut-last m rest k) ∙ outcome-here F c k.behind d.0 d.1);
      })
    where
      F : List Place
      F = decode (codes_of m (rest / 32))

      c : Place
      c = coded (rest % 32)

      known : all (λ p. ltb p.transaction n) (decode (codes_of n order)) ≡ true
      known = unfold is_order in and_l _ _ o.is-order

      apart : distinct (decode (codes_of n order)) ≡ true
      apart = unfold is_order in and_l _ _ (and_r _ _ o.is-order)

      d : (placed (rest % 32 / 2) F ≡ false) × (placed (rest % 32 / 2) k.behind ≡ false)
      d = distinct-at F c k.behind (ap distinct (sym (cut-last m rest k)) ∙ apart)

      low : (i : ℕ) → i < m → get_or (codes_of m (rest / 32)) i 0 / 2 < n
      low i l =
          codes-known n (codes_of m (rest / 32))
          (and_l _ _ (sym (all_append (λ p. ltb p.transaction n) F (c ∷ k.behind)) ∙ ap (all (λ p. ltb p.transaction n)) (sym (cut-last m rest k)) ∙ known)) i
          (rw (length-codes m (rest / 32)) l)
