-- A number has just one count of digits that is fewest, and `size` is that count.
-- Assumes nothing.
use Prim.Native.Nat.{ℕ, zero, suc, ◌-◌, ◌*◌, ◌/◌, ◌%◌, ◌^◌, ◌≤◌, ◌<◌}
use native.Mathlib.Nat.{pow-succ', pow-le-pow_right}
use native.Mathlib.Decide.{dec_lt}
use native.Mathlib.Omega.{arith}
use mathlib.Core.Path.{◌≡◌, refl, sym, ap, ◌∙◌}
use mathlib.Core.List.{[], ◌∷◌}
use lib.ListN.{length, length-append}
use borrow.Author.Tests.{lt-ltb, le-ltb}
use Rattle.io.specs.Digits.{hex_digit_ascii, last_digits, IsDigitCount}
use Rattle.lines.specs.Text.{size, decimal}

-- one digit more, of a number that is not below ten
one_more : (n k : ℕ) → 10 ≤ n → IsDigitCount 10 1 (n / 10) k → IsDigitCount 10 1 n (suc k)
one_more n k l f =
    let p : 10 ^ suc k ≡ 10 * 10 ^ k = pow-succ' 10 k in
    let e : suc k - 1 ≡ k = omega arith in
    (omega (arith, f.0), omega (arith, f.1), λ m. rw e (go k f.0 f.2))
  where
    go : (k : ℕ) → 1 ≤ k → (1 < k → 10 ^ (k - 1) ≤ n / 10) → 10 ^ k ≤ n
    go zero a g = absurd (omega arith)
    go (suc zero) a g = l
    go (suc (suc k)) a g =
        let e : suc (suc k) - 1 ≡ suc k = omega arith in
        let b : 10 ^ suc k ≤ n / 10 = rw e at (g (omega arith)) in
        let p : 10 ^ suc (suc k) ≡ 10 * 10 ^ suc k = pow-succ' 10 (suc k) in omega arith

below-ten : (n : ℕ) → n < 10 → IsDigitCount 10 1 n 1
below-ten n l = (omega arith, l, λ m. absurd (omega arith))

size-fewest : (most n : ℕ) → n ≤ most → IsDigitCount 10 1 n (size most n)
size-fewest zero n l = below-ten n (omega arith)
size-fewest (suc most) n l =
    elim (dec_lt n 10) [
      | yes b ↦ rw (lt-ltb n 10 b) (below-ten n b)
      | no b ↦ rw (le-ltb n 10 (omega arith)) (one_more n (size most (n / 10)) (omega arith) (size-fewest most (n / 10) (omega arith)))
    ]

-- fewer digits than the fewest hold less
holds-less : (n k m : ℕ) → IsDigitCount 10 1 n m → k < m → 1 ≤ k → 10 ^ k ≤ n
holds-less n k m f l a =
    let le : 10 ^ k ≤ 10 ^ (m - 1) = pow-le-pow_right (omega arith) (omega arith) in omega (arith, f.2 (omega arith))

only_one : (n k m : ℕ) → IsDigitCount 10 1 n k → IsDigitCount 10 1 n m → k ≡ m
only_one n k m f g =
    elim (dec_lt k m) [
      | yes l ↦ absurd (omega (arith, f.1, holds-less n k m g l f.0))
      | no l ↦ elim (dec_lt m k) [ yes b ↦ absurd (omega (arith, g.1, holds-less n m k f b g.0)) | no b ↦ omega arith ]
    ]

length_digits : (b k n : ℕ) → length (last_digits b k n) ≡ k
length_digits b zero n = refl
length_digits b (suc k) n = length-append (last_digits b k (n / b)) (hex_digit_ascii (n % b) ∷ []) ∙ omega (arith, length_digits b k (n / b))

module _ (n k : ℕ) (f : IsDigitCount 10 1 n k) where
  -- the fewest digits that hold a number are its text,
  pub the-digits : last_digits 10 k n ≡ decimal n
  unfolding decimal
  the-digits = ap (λ (m : ℕ). last_digits 10 m n) (only_one n k (size n n) f (size-fewest n n (omega arith)))

  -- and 20 where it has 64 bits at most
  pub at-most-20 : n < 2 ^ 64 → k ≤ 20
  at-most-20 l = elim (dec_lt 20 k) [ yes m ↦ absurd (omega (arith, holds-less n 20 k f m (omega arith))) | no m ↦ omega arith ]

  pub decimal-length : length (decimal n) ≡ k
  decimal-length = ap length (sym the-digits) ∙ length_digits 10 k n
