-- Tables that are filled from the front.
-- Assumes nothing.
use Prim.Native.Nat.{ℕ, zero, suc, ◌+◌, ◌≤◌, ◌<◌}
use native.Mathlib.Nat.{not-suc-le-zero}
use native.Mathlib.Omega.{arith}
use mathlib.Core.Path.{◌≡◌, refl, sym, ap, ◌∙◌}
use mathlib.Core.Bool.{Bool, true, false, cond}
use mathlib.Core.List.{List}
use lib.Dec.{eqb, ltb}
use lib.ListN.{length, get_or, set, replicate, length-set, length-replicate}
use lib.Seq.{get_or-set_same, get_or-set_other}
use borrow.Author.Tests.{eqb-true, eqb-false, lt-ltb, le-ltb, ltb-true, ltb-false}
use Rattle.lists.specs.Filled.{Filled, Front}

module _ {A : Type 0} (many : ℕ) (d : A) (f : ℕ → A) where
  blank : (m i : ℕ) → get_or (replicate m d) i d ≡ d
  blank zero i = refl
  blank (suc m) zero = refl
  blank (suc m) (suc i) = blank m i

  pub filled_none : Filled many d f 0 (replicate many d)
  filled_none = record { size = length-replicate {A = A} many d; holds = λ i. blank many i ∙ sym (rw (le-ltb i 0 (omega arith))) }

  pub filled_more : (i : ℕ) (v : A) (table : List A) → i < many → v ≡ f i → Filled many d f i table → Filled many d f (i + 1) (set table i v)
  filled_more i v table b q h = record { size = length-set table i v ∙ h.size; holds = λ k. go k (eqb k i) refl }
    where
      go : (k : ℕ) (x : Bool) → eqb k i ≡ x → get_or (set table i v) k d ≡ cond (ltb k (i + 1)) (f k) d
      go k true e =
          let w : k ≡ i = eqb-true k i e in
          rw (w, get_or-set_same table i v d (rw h.size b), lt-ltb i (i + 1) (omega arith)) q
      go k false e =
          rw (get_or-set_other table i k v d (eqb-false k i e)) (h.holds k ∙ ap (λ (x : Bool). cond x (f k) d) (moved (ltb k i) refl))
        where
          moved : (x : Bool) → ltb k i ≡ x → x ≡ ltb k (i + 1)
          moved true l = sym (lt-ltb k (i + 1) (omega (arith, ltb-true k i l)))
          moved false l = sym (le-ltb k (i + 1) (omega (arith, ltb-false k i l, eqb-false k i e)))

module _ {A : Type 0} {many : ℕ} {d : A} {f : ℕ → A} {n : ℕ} {table : List A} (h : Filled many d f n table) where
  pub filled_at : (i : ℕ) → i < n → get_or table i d ≡ f i
  filled_at i l = h.holds i ∙ rw (lt-ltb i n l)

  pub filled-beyond : (i : ℕ) → n ≤ i → get_or table i d ≡ d
  filled-beyond i l = h.holds i ∙ rw (le-ltb i n l)

-- tables of which only the first entries are known
module _ {A : Type 0} (d : A) (f : ℕ → A) where
  pub front-none : (table : List A) → Front d f 0 table
  front-none table = record { room = omega arith; holds = λ i l. absurd (not-suc-le-zero l) }

  pub front-more : (i : ℕ) (v : A) (table : List A) → i < length table → v ≡ f i → Front d f i table → Front d f (i + 1) (set table i v)
  front-more i v table b q h = record { room = omega (arith, length-set table i v); holds = λ k l. go k l (eqb k i) refl }
    where
      go : (k : ℕ) → k < i + 1 → (x : Bool) → eqb k i ≡ x → get_or (set table i v) k d ≡ f k
      go k l true e = let w : k ≡ i = eqb-true k i e in rw (w, get_or-set_same table i v d b) q
      go k l false e = rw (get_or-set_other table i k v d (eqb-false k i e)) (h.holds k (omega (arith, eqb-false k i e)))
