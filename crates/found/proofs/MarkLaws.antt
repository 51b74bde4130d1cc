-- The place of a transaction in an order that is given by its codes.
-- Assumes nothing.
use mathlib.Core.Path.{◌≡◌, refl, sym, ap, ap₂, ◌∙◌}
use Prim.Native.Nat.{ℕ, suc, ◌+◌, ◌/◌, ◌≤◌, ◌<◌}
use native.Mathlib.Numerals.{add-one}
use native.Mathlib.Omega.{arith}
use mathlib.Core.Bool.{Bool, true, false, not, cond}
use mathlib.Core.List.{List, [], ◌∷◌, ◌++◌}
use lib.ListN.{length, take, drop, get_or, take-append-drop}
use lib.Seq.{take-suc, take-take, drop-cons, get_or-take, length-take-le}
use borrow.Author.Tests.{ne_eqb, ltb-false}
use lib.Dec.{eqb, ltb}
use Rattle.std.proofs.Common.{Some, None}
use Rattle.std.specs.List.{position, position_or_len}
use Rattle.std.specs.Option.{unwrap_or}
use Rattle.lists.specs.Lists.{any}
use Rattle.lists.proofs.ListLaws.{nor-l, nor-r, nor-i}
use Rattle.opacity.specs.Justification.{Place, is_of, placed, before}
use Rattle.opacity.specs.Marking.{place_of}
use Rattle.opacity.proofs.Orders.{before_here}
use Rattle.places.specs.Places.{coded, decode}
use Rattle.places.proofs.LookupLaws.{decode-append, decode-snoc}
use Rattle.lowest.proofs.TreeLink.{placed_snoc}

pub decode-length : (p : List ℕ) → length (decode p) ≡ length p
unfolding decode
decode-length [] = refl
decode-length (c ∷ p) = ap suc (decode-length p)

-- a place is none behind the last
pub place-low : (t : ℕ) (J : List Place) → place_of t J ≤ length J
unfolding place_of before
place-low t [] = omega arith
place-low t (p ∷ J) = go (is_of t p) (place-low t J)
  where
    go : (b : Bool) → length (before t J) ≤ length J → length (cond b [] (p ∷ before t J)) ≤ suc (length J)
    go true l = omega arith
    go false l = omega arith

module _ (places : List ℕ) (size : length places ≡ 10) where
  before-all : (t : ℕ) (J : List Place) → placed t J ≡ false → before t J ≡ J
  unfolding before placed any
  before-all t [] q = refl
  before-all t (p ∷ J) q = let n : is_of t p ≡ false = nor-l _ _ q in rw n (ap (λ (l : List Place). p ∷ l) (before-all t J (nor-r _ _ q)))

  pub place_none : (t count : ℕ) → count ≤ 10 → placed t (decode (take count places)) ≡ false → count ≡ place_of t (decode (take count places))
  unfolding place_of
  place_none t count l q =
      rw (before-all t (decode (take count places)) q, decode-length (take count places), length-take-le count places (omega arith))

  pub place_here : (t count i code : ℕ) → i < count → count ≤ 10 → code ≡ get_or places i 0 → code / 2 ≡ t → placed t (decode (take i places)) ≡ false
      → i ≡ place_of t (decode (take count places))
  unfolding place_of decode
  place_here t count i code li lc c h q =
      let s : List ℕ = take count places in
      let n : length s ≡ count = length-take-le count places (omega arith) in
      let g : get_or s i 0 ≡ code = get_or-take count places i 0 li ∙ sym c in
      let cut : s ≡ take i places ++ (code ∷ drop (suc i) s) =
      sym (take-append-drop i s) ∙ ap₂ (λ (a b : List ℕ). a ++ b) (take-take i count places (omega arith)) (drop-cons s i 0 (omega arith) ∙ ap (λ (m : ℕ). m ∷ drop (suc i) s) g) in
      let d : decode s ≡ decode (take i places) ++ (coded code ∷ decode (drop (suc i) s)) = ap decode cut ∙ decode-append (take i places) (code ∷ drop (suc i) s) in
      let b : before t (decode s) ≡ decode (take i places) =
      ap (before t) d ∙ ap (λ (m : ℕ). before m (decode (take i places) ++ (coded code ∷ decode (drop (suc i) s)))) (sym h)
      ∙ before_here (decode (take i places)) (coded code) (decode (drop (suc i) s)) (ap (λ (m : ℕ). placed m (decode (take i places))) h ∙ q) in
      sym (ap length b ∙ decode-length (take i places) ∙ length-take-le i places (omega arith))

  pub not_yet : (t i code : ℕ) → i < 10 → code ≡ get_or places i 0 → (code / 2 ≡ t → ⊥)
      → placed t (decode (take i places)) ≡ false → placed t (decode (take (i + 1) places)) ≡ false
  not_yet t i code l c n q =
      ap (λ (m : ℕ). placed t (decode (take m places))) (add-one i) ∙ ap (λ (s : List ℕ). placed t (decode s)) (take-suc places i 0 (omega arith))
      ∙ ap (placed t) (decode-snoc (take i places) (get_or places i 0)) ∙ placed_snoc t (decode (take i places)) (coded (get_or places i 0))
      ∙ nor-i _ _ q (ne_eqb _ _ (λ e. n (ap (λ (m : ℕ). m / 2) c ∙ e)))

-- a code of the transaction t
abbrev is_code_of : ℕ → ℕ → Bool
is_code_of t c = eqb (c / 2) t

place-first : (t : ℕ) (codes : List ℕ) → place_of t (decode codes) ≡ position_or_len (is_code_of t) codes
unfolding place_of before decode
place-first t [] = refl
place-first t (c ∷ codes) = go (is_code_of t c) (place-first t codes)
  where
    go : (b : Bool) → length (before t (decode codes)) ≡ position_or_len (is_code_of t) codes
        → length (cond b [] (coded c ∷ before t (decode codes))) ≡ cond (not b) (1 + position_or_len (is_code_of t) codes) 0
    go true e = refl
    go false e = omega (arith, e)

-- the place of a transaction is that of its code, or their number
pub place-at : (t : ℕ) (codes : List ℕ) → unwrap_or (position (λ (c : ℕ). eqb (c / 2) t) codes) (length codes) ≡ place_of t (decode codes)
place-at t codes = go (ltb (position_or_len (is_code_of t) codes) (length codes)) refl
  where
    go : (b : Bool) → ltb (position_or_len (is_code_of t) codes) (length codes) ≡ b
        → unwrap_or (cond b (Some (position_or_len (is_code_of t) codes)) None) (length codes) ≡ place_of t (decode codes)
    go true e = sym (place-first t codes)
    go false e =
        let l : length codes ≤ position_or_len (is_code_of t) codes = ltb-false _ _ e in
        omega (arith, l, place-first t codes, place-low t (decode codes), decode-length codes)
