-- Laws of the search's state: its places as a list, and one place more.
-- Assumes nothing.
use mathlib.Core.Path.{◌≡◌, refl, sym, ap, ◌∙◌}
use mathlib.Core.List.{List, [], ◌∷◌, ◌++◌}
use mathlib.Core.Logic.{⊎_elim}
use Prim.Native.Nat.{ℕ, zero, suc, ◌+◌, ◌-◌, ◌*◌, ◌/◌, ◌%◌, ◌^◌, ◌≤◌, ◌<◌}
use native.Mathlib.Numerals.{add-one}
use native.Mathlib.Omega.{arith}
use lib.ListN.{length, get_or, set, take, length-append, get_or-append}
use lib.Seq.{get_or_at, take-suc, take-suc-set}
use lib.Count.{ones}
use lib.Pow.{pow-add, pow_mono, shr-shr}
use Rattle.lists.proofs.ListLaws.{below-cases}
use Rattle.places.specs.declared.state.Search.{Search}
use Rattle.places.specs.Places.{codes_of}
use Rattle.places.specs.State.{Coded, Sound, Placeable, Extends}
use Rattle.lists.proofs.BitLaws.{member-lt, ones-off}

-- ---- the places as a list

pub length-codes : (k n : ℕ) → length (codes_of k n) ≡ k
unfolding codes_of
length-codes zero n = refl
length-codes (suc k) n = length-append (codes_of k (n / 32)) (n % 32 ∷ []) ∙ (let e = length-codes k (n / 32) in omega arith)

-- the last of them
last_code : (k n : ℕ) → get_or (codes_of (suc k) n) k 0 ≡ n % 32
unfolding codes_of
last_code k n = get_or_at (codes_of k (n / 32)) (n % 32) [] 0 k (length-codes k (n / 32))

-- those before it
earlier-code : (k n i : ℕ) → i < k → get_or (codes_of (suc k) n) i 0 ≡ get_or (codes_of k (n / 32)) i 0
unfolding codes_of
earlier-code k n i l = get_or-append (codes_of k (n / 32)) (n % 32 ∷ []) 0 i (rw (length-codes k (n / 32)) l)

-- the one that is so many before the last
code-back : (k n b i : ℕ) → b + i ≡ k → get_or (codes_of (suc k) n) i 0 ≡ n / 2 ^ (b * 5) % 32
code-back k n zero i e = let q : i ≡ k = omega arith in rw q (last_code k n ∙ (let d : n / 2 ^ 0 ≡ n = omega arith in rw d))
code-back zero n (suc b) i e = absurd (omega arith)
code-back (suc k) n (suc b) i e =
    earlier-code (suc k) n i (omega arith) ∙ code-back k (n / 32) b i (omega arith)
    ∙ ap (λ (x : ℕ). x % 32) (shr-shr n 5 (b * 5) ∙ ap (λ (x : ℕ). n / 2 ^ x) five)
  where
    five : 5 + b * 5 ≡ suc b * 5
    five = omega arith

pub code-at-place : (m n i b : ℕ) → b + i + 1 ≡ m → get_or (codes_of m n) i 0 ≡ n / 2 ^ (b * 5) % 32
code-at-place zero n i b e = absurd (omega arith)
code-at-place (suc k) n i b e = code-back k n b i (omega arith)

-- the last place and those before it
pub codes-back : (k n : ℕ) → 0 < k → codes_of k n ≡ codes_of (k - 1) (n / 32) ++ (n % 32 ∷ [])
unfolding codes_of
codes-back zero n l = absurd (omega arith)
codes-back (suc k) n l = let e : suc k - 1 ≡ k = omega arith in rw e

pub coded-back : (k n : ℕ) → 0 < k → Coded k n → (n % 32 < 20) × Coded (k - 1) (n / 32)
coded-back zero n l c = absurd (omega arith)
coded-back (suc k) n l c =
    let e : suc k - 1 ≡ k = omega arith in
    rw e (rw (last_code k n) at (c.codes k (omega arith)), record { few = omega (arith, c.few); codes = λ i m. rw (earlier-code k n i m) at (c.codes i (omega arith)) })

-- one place more
pub one_more : (k n c : ℕ) → c < 32 → codes_of (k + 1) (n * 32 + c) ≡ codes_of k n ++ (c ∷ [])
unfolding codes_of
one_more k n c l =
    let h : (n * 32 + c) / 32 ≡ n = omega arith in
    let r : (n * 32 + c) % 32 ≡ c = omega arith in
    rw (add-one, h, r)

-- one entry more that agrees
pub take_more : (l m : List ℕ) (i c : ℕ) → i < length l → i < length m → c ≡ get_or m i 0 → take i l ≡ take i m → take (i + 1) (set l i c) ≡ take (i + 1) m
take_more l m i c a b e f =
    rw (add-one, take-suc-set l i c a, take-suc m i 0 b, ← e, f)

-- ---- the state

-- a member of a state's set is below ten
pub room-lt : {s : Search} {t : ℕ} → Placeable s t → t < 10
room-lt {s} {t} h = member-lt t s.unplaced 10 h.is_in h.sound.few

-- there is a place for it
pub room_at : {s : Search} {t : ℕ} → Placeable s t → s.filled < 10
room_at {s} {t} h = omega (arith, ones-off t s.unplaced h.is_in, h.sound.fit)

-- and bits
pub room-bits : (s : Search) → Sound s → s.filled < 10 → s.placed < 2 ^ 46
room-bits s h l = let m : 2 ^ (s.filled * 5 + 1) ≤ 2 ^ 46 = pow_mono {i = s.filled * 5 + 1} {j = 46} (omega arith) in omega (arith, h.room)

coded-more : (k n c : ℕ) → k < 10 → c < 20 → Coded k n → Coded (k + 1) (n * 32 + c)
coded-more k n c l lc h =
    record {
      few = omega arith;
      codes = λ i m. rw (one_more k n c (omega arith)) (⊎_elim (at i) (before i) (below-cases (omega (arith, m))));
    }
  where
    at : (i : ℕ) → i ≡ k → get_or (codes_of k n ++ (c ∷ [])) i 0 < 20
    at i e = rw (e, get_or_at (codes_of k n) c [] 0 k (length-codes k n)) lc

    before : (i : ℕ) → i < k → get_or (codes_of k n ++ (c ∷ [])) i 0 < 20
    before i m = rw (get_or-append (codes_of k n) (c ∷ []) 0 i (rw (length-codes k n) m)) (h.codes i m)

pub extends : (s : Search) (t o rest : ℕ) → Placeable s t → o < 2 → rest ≡ s.unplaced - 2 ^ t
    → Extends s t o (record { unplaced = rest; filled = s.filled + 1; placed = s.placed * 32 + (t * 2 + o) })
extends s t o rest h two e =
    let few : s.unplaced - 2 ^ t < 1024 = omega (arith, h.sound.few) in
    let low : t < 10 = room-lt h in
    let left : ones rest ≡ ones (s.unplaced - 2 ^ t) = ap ones e in
    let off = ones-off t s.unplaced h.is_in in
    let p : 2 ^ (s.filled * 5 + 1 + 5) ≡ 2 ^ (s.filled * 5 + 1) * 2 ^ 5 = pow-add 2 (s.filled * 5 + 1) 5 in
    let q : (s.filled + 1) * 5 + 1 ≡ s.filled * 5 + 1 + 5 = omega arith in
    let w : 2 ^ (s.filled * 5 + 5) ≡ 2 ^ (s.filled * 5) * 2 ^ 5 = pow-add 2 (s.filled * 5) 5 in
    let v : (s.filled + 1) * 5 ≡ s.filled * 5 + 5 = omega arith in
    record {
      sound = record {
        few = rw e few;
        fit = omega (arith, h.sound.fit);
        led = rw (v, w) (omega (arith, h.sound.led));
        room = rw (q, p) (omega (arith, h.sound.room));
        coded = coded-more s.filled s.placed (t * 2 + o) (room_at h) (omega arith) h.sound.coded;
      };
      rest = e;
      total = omega arith;
      places = one_more s.filled s.placed (t * 2 + o) (omega arith);
    }

-- one unplaced less
pub fewer : (s next : Search) (t o : ℕ) → Placeable s t → Extends s t o next → ones s.unplaced ≡ suc (ones next.unplaced)
fewer s next t o r x = ones-off t s.unplaced r.is_in ∙ ap (λ (n : ℕ). suc (ones n)) (sym x.rest)
