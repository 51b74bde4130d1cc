-- Laws of the members of a set as a list: what the search's tree says of lists, said of numbers.
-- Assumes nothing.
use mathlib.Core.Path.{◌≡◌, refl, sym, ap, ◌∙◌}
use mathlib.Core.List.{List, [], ◌∷◌}
use mathlib.Core.Bool.{true, false}
use Prim.Native.Nat.{ℕ, zero, suc, ◌+◌, ◌-◌, ◌*◌, ◌/◌, ◌%◌, ◌^◌, ◌≤◌, ◌<◌}
use native.Mathlib.Nat.{pow-suc, add-suc, suc-add}
use native.Mathlib.Omega.{arith}
use lib.Dec.{eqb}
use lib.Pow.{pow_pos}
use lib.Bits.{bit_and, and_step, and_zero_r}
use borrow.Author.Tests.{eq-eqb, ne_eqb}
use Rattle.lists.specs.Bits.{bit_at, cons_if, members_in, members}
use Rattle.lists.proofs.BitLaws.{odd-off-half, odd-off-low, off-half, off-low, half_lt, member-le}
use Rattle.places.specs.Tree.{remove, none_in, up_from}

-- taking a member off the number takes it off the list
pub members-off : (d i k n : ℕ) → k < d → bit_at k n ≡ 1 → members_in d i (n - 2 ^ k) ≡ remove (i + k) (members_in d i n)
unfolding members_in bit_at remove
members-off zero i k n l h = absurd (omega arith)
members-off (suc d) i zero n l h =
    let e : eqb i (i + 0) ≡ true = eq-eqb i (i + 0) (omega arith) in
    rw (odd-off-low n h, odd-off-half n h, h, e)
members-off (suc d) i (suc k) n l h = go (n % 2) refl (members-off d (suc i) k (n / 2) (omega arith) h)
  where
    go : (b : ℕ) → n % 2 ≡ b → members_in d (suc i) (n / 2 - 2 ^ k) ≡ remove (suc i + k) (members_in d (suc i) (n / 2))
        → members_in (suc d) i (n - 2 ^ suc k) ≡ remove (i + suc k) (cons_if b i (members_in d (suc i) (n / 2)))
    go zero e r =
        let z : (n - 2 ^ suc k) % 2 ≡ 0 = off-low n k (member-le k (n / 2) h) ∙ e in
        rw (z, off-half n k, add-suc, ← suc-add) r
    go (suc b) e r =
        let z : (n - 2 ^ suc k) % 2 ≡ suc b = off-low n k (member-le k (n / 2) h) ∙ e in
        let f : eqb i (i + suc k) ≡ false = ne_eqb i (i + suc k) (λ q. omega arith) in
        let s : suc i + k ≡ i + suc k = omega arith in
        rw (z, off-half n k, f) (ap (λ (l : List ℕ). i ∷ l) (rw s at r))

-- ---- two sets with no member in common

-- n without its i lowest digits
shift : ℕ → ℕ → ℕ
shift zero n = n
shift (suc i) n = shift i n / 2

half-again : (i n : ℕ) → shift i (n / 2) ≡ shift i n / 2
unfolding shift
half-again zero n = refl
half-again (suc i) n = ap (λ (x : ℕ). x / 2) (half-again i n)

bit-shift : (i n : ℕ) → bit_at i n ≡ shift i n % 2
unfolding bit_at shift
bit-shift zero n = refl
bit-shift (suc i) n = bit-shift i (n / 2) ∙ ap (λ (x : ℕ). x % 2) (half-again i n)

twice-none : (x y : ℕ) → y ≡ x * 2 → eqb x 0 ≡ eqb y 0
twice-none zero y e = rw e
twice-none (suc x) y e = ne_eqb (suc x) 0 (λ q. omega arith) ∙ sym (ne_eqb y 0 (λ q. omega arith))

none_in_lem : (d i set n : ℕ) → n < 2 ^ d → none_in set (members_in d i n) ≡ eqb (bit_and (shift i set) n) 0
unfolding members_in none_in shift
none_in_lem zero i set n l = let e : n ≡ 0 = omega arith in sym (eq-eqb (bit_and (shift i set) n) 0 (rw e (and_zero_r (shift i set))))
none_in_lem (suc d) i set n l = go (n % 2) refl (shift i set % 2) refl (none_in_lem d (suc i) set (n / 2) (half_lt n d l))
  where
    go : (b : ℕ) → n % 2 ≡ b → (a : ℕ) → shift i set % 2 ≡ a → none_in set (members_in d (suc i) (n / 2)) ≡ eqb (bit_and (shift i set / 2) (n / 2)) 0
        → none_in set (cons_if b i (members_in d (suc i) (n / 2))) ≡ eqb (bit_and (shift i set) n) 0
    go zero e a f r =
        let x : bit_and (shift i set) n ≡ bit_and (shift i set / 2) (n / 2) * 2 = omega (arith, and_step (shift i set) n) in
        r ∙ twice-none (bit_and (shift i set / 2) (n / 2)) (bit_and (shift i set) n) x
    go (suc b) e zero f r =
        let z : bit_at i set ≡ 0 = bit-shift i set ∙ f in
        let x : bit_and (shift i set) n ≡ bit_and (shift i set / 2) (n / 2) * 2 = omega (arith, and_step (shift i set) n) in
        rw z (r ∙ twice-none (bit_and (shift i set / 2) (n / 2)) (bit_and (shift i set) n) x)
    go (suc b) e (suc a) f r =
        let z : eqb (bit_at i set) 0 ≡ false = ne_eqb (bit_at i set) 0 (λ q. omega (arith, bit-shift i set)) in
        let x : eqb (bit_and (shift i set) n) 0 ≡ false = ne_eqb (bit_and (shift i set) n) 0 (λ q. omega (arith, and_step (shift i set) n)) in
        rw (z, x)

pub none-in-members : (set n : ℕ) → n < 2 ^ 64 → none_in set (members n) ≡ eqb (bit_and set n) 0
unfolding members shift
none-in-members set n l = none_in_lem 64 0 set n l

-- ---- the set of all below n

members_in-none : (d i : ℕ) → members_in d i 0 ≡ []
unfolding members_in
members_in-none zero i = refl
members_in-none (suc d) i = members_in-none d (suc i)

members_in-all : (d i n : ℕ) → n ≤ d → members_in d i (2 ^ n - 1) ≡ up_from i n
unfolding members_in up_from
members_in-all d i zero l = members_in-none d i
members_in-all zero i (suc n) l = absurd (omega arith)
members_in-all (suc d) i (suc n) l =
    let p : 0 < 2 ^ n = pow_pos n in
    let o : (2 ^ suc n - 1) % 2 ≡ 1 = rw pow-suc (omega arith) in
    let h : (2 ^ suc n - 1) / 2 ≡ 2 ^ n - 1 = rw pow-suc (omega arith) in
    rw (o, h, members_in-all d (suc i) n (omega arith))

pub members-all : (n : ℕ) → n ≤ 64 → members (2 ^ n - 1) ≡ up_from 0 n
unfolding members
members-all n l = members_in-all 64 0 n l
