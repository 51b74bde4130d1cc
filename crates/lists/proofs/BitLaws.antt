-- Laws of sets as numbers: each by induction on the digits, lowest first, from what halving does to a digit taken off.
-- Assumes nothing.
use mathlib.Core.Path.{◌≡◌, refl, sym, ap, ◌∙◌}
use mathlib.Core.List.{◌∷◌}
use mathlib.Core.Bool.{Bool, true, false, cond}
use Prim.Native.Nat.{ℕ, zero, suc, max, ◌+◌, ◌-◌, ◌*◌, ◌/◌, ◌%◌, ◌^◌, ◌≤◌, ◌<◌}
use native.Mathlib.Nat.{pow-suc, add-zero, add-suc, suc-add}
use native.Mathlib.Omega.{arith}
use lib.Dec.{eqb}
use lib.Pow.{pow_pos, shr-shr}
use lib.Count.{ones, ones_step, count_trailing_zeros, under}
use borrow.Author.Tests.{eqb-true, eqb-false, eq-eqb, ne_eqb}
use Rattle.lists.specs.Bits.{bit_at, cons_if, members_in}
use lib.Bits.{bit_and, bit_or, bit_xor, differ, and_step, or_step, or_zero_r, or_comm, xor_step}

-- ---- halving a number with a digit taken off

pub odd-off-half : (n : ℕ) → n % 2 ≡ 1 → (n - 2 ^ 0) / 2 ≡ n / 2
odd-off-half n h = omega arith

pub odd-off-low : (n : ℕ) → n % 2 ≡ 1 → (n - 2 ^ 0) % 2 ≡ 0
odd-off-low n h = omega arith

pub off-half : (n k : ℕ) → (n - 2 ^ suc k) / 2 ≡ n / 2 - 2 ^ k
off-half n k = rw pow-suc (omega arith)

pub off-low : (n k : ℕ) → 2 ^ k ≤ n / 2 → (n - 2 ^ suc k) % 2 ≡ n % 2
off-low n k h = rw pow-suc (omega arith)

pub half_lt : (n d : ℕ) → n < 2 ^ suc d → n / 2 < 2 ^ d
half_lt n d h = let g : n < 2 ^ d * 2 = rw pow-suc at h in omega arith

digit : (n : ℕ) → n % 2 < 2
digit n = omega arith

-- ---- a member

pub member-le : (k n : ℕ) → bit_at k n ≡ 1 → 2 ^ k ≤ n
unfolding bit_at
member-le zero n h = omega arith
member-le (suc k) n h = let g : 2 ^ k ≤ n / 2 = member-le k (n / 2) h in rw pow-suc (omega arith)

pub member-lt : (k n d : ℕ) → bit_at k n ≡ 1 → n < 2 ^ d → k < d
unfolding bit_at
member-lt k n zero h l = let e : n ≡ 0 = omega arith in let p : 2 ^ k ≤ n = member-le k n h in let q : 0 < 2 ^ k = pow_pos k in omega arith
member-lt zero n (suc d) h l = omega arith
member-lt (suc k) n (suc d) h l = let r : k < d = member-lt k (n / 2) d h (half_lt n d l) in omega arith

-- what is left without k was there before
pub member-off : (k j n : ℕ) → bit_at k n ≡ 1 → bit_at j (n - 2 ^ k) ≡ 1 → bit_at j n ≡ 1
unfolding bit_at
member-off zero zero n h g = h
member-off zero (suc j) n h g = rw (odd-off-half n h) at g
member-off (suc k) zero n h g = sym (off-low n k (member-le k (n / 2) h)) ∙ g
member-off (suc k) (suc j) n h g = member-off k j (n / 2) h (rw off-half at g)

-- and what was there and is not k is left
pub member-kept : (k j n : ℕ) → bit_at k n ≡ 1 → (j ≡ k → ⊥) → bit_at j n ≡ 1 → bit_at j (n - 2 ^ k) ≡ 1
unfolding bit_at
member-kept zero zero n h f g = absurd (f refl)
member-kept zero (suc j) n h f g = rw (odd-off-half n h) g
member-kept (suc k) zero n h f g = off-low n k (member-le k (n / 2) h) ∙ g
member-kept (suc k) (suc j) n h f g = rw off-half (member-kept k j (n / 2) h (λ e. f (ap suc e)) g)

-- k is not
pub member-gone : (k n : ℕ) → bit_at k n ≡ 1 → bit_at k (n - 2 ^ k) ≡ 0
unfolding bit_at
member-gone zero n h = odd-off-low n h
member-gone (suc k) n h = rw off-half (member-gone k (n / 2) h)

-- the empty set has none
pub no_member : (k n : ℕ) → n ≡ 0 → bit_at k n ≡ 1 → ⊥
no_member k n e h = let p : 0 < 2 ^ k = pow_pos k in omega (arith, member-le k n h)

-- a member as a digit
pub bit-digit : (k n : ℕ) → bit_at k n ≡ n / 2 ^ k % 2
unfolding bit_at
bit-digit zero n = let e : n / 2 ^ 0 ≡ n = omega arith in rw e
bit-digit (suc k) n =
    let h : n / 2 ≡ n / 2 ^ 1 = omega arith in
    let e : 1 + k ≡ suc k = omega arith in
    bit-digit k (n / 2) ∙ ap (λ (x : ℕ). x / 2 ^ k % 2) h ∙ ap (λ (x : ℕ). x % 2) (shr-shr n 1 k ∙ ap (λ (x : ℕ). n / 2 ^ x) e)

-- ---- the common members of two sets

pub and-member : (k a b : ℕ) → bit_at k (bit_and a b) ≡ 1 → (bit_at k a ≡ 1) × (bit_at k b ≡ 1)
unfolding bit_at
and-member zero a b h = (omega (arith, and_step a b), omega (arith, and_step a b))
and-member (suc k) a b h = let e : bit_and a b / 2 ≡ bit_and (a / 2) (b / 2) = omega (arith, and_step a b) in and-member k (a / 2) (b / 2) (rw e at h)

pub member-and : (k a b : ℕ) → bit_at k a ≡ 1 → bit_at k b ≡ 1 → bit_at k (bit_and a b) ≡ 1
unfolding bit_at
member-and zero a b g h = omega (arith, and_step a b)
member-and (suc k) a b g h = let e : bit_and a b / 2 ≡ bit_and (a / 2) (b / 2) = omega (arith, and_step a b) in rw e (member-and k (a / 2) (b / 2) g h)

-- ---- the members of one of two sets alone

xor-half : (a b : ℕ) → bit_xor a b / 2 ≡ bit_xor (a / 2) (b / 2)
xor-half a b =
    let s = xor_step a b in
    let l : differ (a % 2) (b % 2) < 2 = differ-lt (a % 2) (b % 2) (omega arith) (omega arith) in
    omega arith
  where
    differ-lt : (x y : ℕ) → x < 2 → y < 2 → differ x y < 2
    differ-lt zero y l m = m
    differ-lt (suc x) zero l m = omega arith
    differ-lt (suc x) (suc y) l m = differ-lt x y (omega arith) (omega arith)

pub xor-member : (k a b : ℕ) → (bit_at k b ≡ 1 → bit_at k a ≡ 1) → bit_at k (bit_xor a b) ≡ 1 → bit_at k a ≡ 1
unfolding bit_at
xor-member zero a b sub h = go (a % 2) refl (b % 2) refl (omega arith) (omega arith)
  where
    go : (x : ℕ) → a % 2 ≡ x → (y : ℕ) → b % 2 ≡ y → x < 2 → y < 2 → a % 2 ≡ 1
    go (suc zero) e y f l m = e
    go zero e zero f l m = absurd (let s = rw (e, f) at (xor_step a b) in omega arith)
    go zero e (suc y) f l m = absurd (let q : b % 2 ≡ 1 = omega arith in omega (arith, sub q))
    go (suc (suc x)) e y f l m = absurd (omega arith)
xor-member (suc k) a b sub h = xor-member k (a / 2) (b / 2) sub (rw (xor-half a b) at h)

pub member-xor : (k a b : ℕ) → bit_at k a ≡ 1 → (bit_at k b ≡ 1 → ⊥) → bit_at k (bit_xor a b) ≡ 1
unfolding bit_at
member-xor zero a b h out = let f : b % 2 ≡ 0 = even (b % 2) (omega arith) out in let s = rw (h, f) at (xor_step a b) in omega arith
  where
    even : (x : ℕ) → x < 2 → (x ≡ 1 → ⊥) → x ≡ 0
    even x l n = omega arith
member-xor (suc k) a b h out = rw (xor-half a b) (member-xor k (a / 2) (b / 2) h out)

-- ---- one bit more in a set

pub bit-none : (x : ℕ) → bit_at x 0 ≡ 0
unfolding bit_at
bit-none zero = refl
bit-none (suc x) = bit-none x

or-half : (a b : ℕ) → bit_or a b / 2 ≡ bit_or (a / 2) (b / 2)
or-half a b = let s = or_step a b in let l : max (a % 2) (b % 2) < 2 = omega arith in omega arith

or-low : (a b : ℕ) → bit_or a b % 2 ≡ max (a % 2) (b % 2)
or-low a b = let s = or_step a b in let l : max (a % 2) (b % 2) < 2 = omega arith in omega arith

eqb-suc : (t x : ℕ) → eqb (suc t) (suc x) ≡ eqb t x
eqb-suc t x = go (eqb t x) refl
  where
    go : (b : Bool) → eqb t x ≡ b → eqb (suc t) (suc x) ≡ b
    go true e = eq-eqb (suc t) (suc x) (ap suc (eqb-true t x e))
    go false e = ne_eqb (suc t) (suc x) (λ q. eqb-false t x e (omega arith))

pub bit-with : (x t n : ℕ) → bit_at x (bit_or n (2 ^ t)) ≡ cond (eqb t x) 1 (bit_at x n)
unfolding bit_at
bit-with zero zero n = rw (or-low n 1) (omega arith)
bit-with (suc x) zero n = let f : eqb 0 (suc x) ≡ false = ne_eqb 0 (suc x) (λ q. omega arith) in rw (or-half n 1, or_zero_r, f)
bit-with zero (suc t) n =
    let e : 2 ^ suc t % 2 ≡ 0 = rw pow-suc (omega arith) in
    let f : eqb (suc t) 0 ≡ false = ne_eqb (suc t) 0 (λ q. omega arith) in
    rw (or-low n (2 ^ suc t), e, f) (omega arith)
bit-with (suc x) (suc t) n = let e : 2 ^ suc t / 2 ≡ 2 ^ t = rw pow-suc (omega arith) in rw (or-half n (2 ^ suc t), e, eqb-suc t x) (bit-with x t (n / 2))

pub member-or-l : (k a b : ℕ) → bit_at k a ≡ 1 → bit_at k (bit_or a b) ≡ 1
unfolding bit_at
member-or-l zero a b h = rw (or-low a b) (omega arith)
member-or-l (suc k) a b h = rw (or-half a b) (member-or-l k (a / 2) (b / 2) h)

pub member-or-r : (k a b : ℕ) → bit_at k b ≡ 1 → bit_at k (bit_or a b) ≡ 1
member-or-r k a b h = rw (or_comm a b) (member-or-l k b a h)

-- all of the lowest n digits
pub bit-all : (k n : ℕ) → k < n → bit_at k (2 ^ n - 1) ≡ 1
unfolding bit_at
bit-all k zero l = absurd (omega arith)
bit-all zero (suc n) l = let p = pow_pos n in rw pow-suc (omega arith)
bit-all (suc k) (suc n) l =
    let p = pow_pos n in
    let h : (2 ^ suc n - 1) / 2 ≡ 2 ^ n - 1 = rw pow-suc (omega arith) in
    rw h (bit-all k n (omega arith))

-- ---- the count

pub none-counted : (d n : ℕ) → n < 2 ^ d → ones n ≡ 0 → n ≡ 0
none-counted zero n l e = omega arith
none-counted (suc d) n l e = let s = ones_step n in let r = none-counted d (n / 2) (half_lt n d l) (omega arith) in omega arith

pub ones-off : (k n : ℕ) → bit_at k n ≡ 1 → ones n ≡ suc (ones (n - 2 ^ k))
unfolding bit_at
ones-off zero n h =
    let a = ones_step n in
    let b = ones_step (n - 2 ^ 0) in
    let e : ones ((n - 2 ^ 0) / 2) ≡ ones (n / 2) = ap ones (odd-off-half n h) in
    let l = odd-off-low n h in
    omega arith
ones-off (suc k) n h =
    let a = ones_step n in
    let b = ones_step (n - 2 ^ suc k) in
    let r = ones-off k (n / 2) h in
    let e : ones ((n - 2 ^ suc k) / 2) ≡ ones (n / 2 - 2 ^ k) = ap ones (off-half n k) in
    let l = off-low n k (member-le k (n / 2) h) in
    omega arith

-- ---- the lowest member

pub lowest-in : (d n : ℕ) → n < 2 ^ d → 0 < n → bit_at (count_trailing_zeros d n) n ≡ 1
unfolding bit_at count_trailing_zeros
lowest-in zero n l p = absurd (omega arith)
lowest-in (suc d) n l p = go (n % 2) refl (lowest-in d (n / 2) (half_lt n d l))
  where
    go : (b : ℕ) → n % 2 ≡ b → (0 < n / 2 → bit_at (count_trailing_zeros d (n / 2)) (n / 2) ≡ 1) → bit_at (under b (count_trailing_zeros d (n / 2))) n ≡ 1
    go zero e r = r (omega arith)
    go (suc b) e r = omega arith

-- ---- the members as a list

-- the lowest member stands first, and behind it what is left without it
pub members-lowest : (d i n : ℕ) → n < 2 ^ d → 0 < n → members_in d i n ≡ (i + count_trailing_zeros d n) ∷ members_in d i (n - 2 ^ count_trailing_zeros d n)
unfolding members_in count_trailing_zeros
members-lowest zero i n l p = absurd (omega arith)
members-lowest (suc d) i n l p = go (n % 2) refl (members-lowest d (suc i) (n / 2) (half_lt n d l))
  where
    go : (b : ℕ) → n % 2 ≡ b → (0 < n / 2 → members_in d (suc i) (n / 2) ≡ (suc i + count_trailing_zeros d (n / 2)) ∷ members_in d (suc i) (n / 2 - 2 ^ count_trailing_zeros d (n / 2)))
        → cons_if b i (members_in d (suc i) (n / 2)) ≡ (i + under b (count_trailing_zeros d (n / 2))) ∷ members_in (suc d) i (n - 2 ^ under b (count_trailing_zeros d (n / 2)))
    go zero e r =
        let t = count_trailing_zeros d (n / 2) in
        let m : 2 ^ t ≤ n / 2 = member-le t (n / 2) (lowest-in d (n / 2) (half_lt n d l) (omega arith)) in
        let z : (n - 2 ^ suc t) % 2 ≡ 0 = off-low n t m ∙ e in
        rw (z, off-half n t, add-suc, ← suc-add) (r (omega arith))
    go (suc b) e r =
        let h : n % 2 ≡ 1 = omega arith in
        rw (odd-off-low n h, odd-off-half n h, add-zero)
