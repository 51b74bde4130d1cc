-- A number taken apart gives back what was said.
-- Assumes nothing.
use Prim.Native.Nat.{ℕ, ◌+◌, ◌*◌, ◌-◌, ◌/◌, ◌%◌, ◌≤◌}
use native.Mathlib.Omega.{arith}
use mathlib.Core.Path.{◌≡◌, sym, ap, ap₂, subst, ◌∙◌}
use mathlib.Core.Bool.{Bool, true, false}
use mathlib.Core.List.{List, [], ◌∷◌}
use lib.Dec.{eqb, ltb}
use borrow.Author.Tests.{ne_eqb, lt-ltb, le-ltb}
use Rattle.events.specs.Said.{Said, done, nothing, faulted, broken, at_event, at_byte}
use Rattle.codes.specs.Codes.{most, packed, halves, pair, place, coded, Within, Halves, Quarters, Placed, Known}
use Rattle.codes.specs.Decoded.{code_of, place_of, upper_of, lower_of, no_value, one_value, two_values, four_values, refused_by, by_parts, decoded}

-- ---- code and place

pub code-back : (code p : ℕ) → p ≤ most → code_of (packed code p) ≡ code
unfolding packed
code-back code p l = omega arith

pub place-back : (code p : ℕ) → p ≤ most → place_of (packed code p) ≡ p
unfolding packed
place-back code p l = omega arith

halves-fit : (high low : ℕ) → Halves high low → halves high low ≤ most
unfolding halves
halves-fit high low b = omega (arith, b.upper, b.lower)

quarters-halves : (a b c d : ℕ) → Quarters a b c d → Halves (pair a b) (pair c d)
unfolding pair
quarters-halves a b c d q = record { upper = omega (arith, q.first, q.second); lower = omega (arith, q.third, q.fourth) }

placed-fit : (vs : List ℕ) → Placed vs → place vs ≤ most
unfolding place
placed-fit [] k = omega arith
placed-fit (n ∷ []) k = k
placed-fit (low ∷ high ∷ []) k = halves-fit high low k
placed-fit (a ∷ b ∷ c ∷ []) k = omega arith
placed-fit (a ∷ b ∷ c ∷ d ∷ vs) k = halves-fit (pair a b) (pair c d) (quarters-halves a b c d k)

-- ---- the values of a call that is done

halves-upper : (high low : ℕ) → Halves high low → upper_of (halves high low) ≡ high
unfolding halves
halves-upper high low b = omega (arith, b.lower)

halves-lower : (high low : ℕ) → Halves high low → lower_of (halves high low) ≡ low
unfolding halves
halves-lower high low b = omega (arith, b.lower)

pub two_back : (high low : ℕ) → Halves high low → two_values (place (low ∷ high ∷ [])) ≡ low ∷ high ∷ []
unfolding place
two_back high low b = λ i. halves-lower high low b i ∷ halves-upper high low b i ∷ []

pub four-back : (a b c d : ℕ) → Quarters a b c d → four_values (place (a ∷ b ∷ c ∷ d ∷ [])) ≡ a ∷ b ∷ c ∷ d ∷ []
unfolding place halves pair
four-back a b c d q =
    let n = (a * 256 + b) * 65536 + (c * 256 + d) in
    let e : n / 16777216 ≡ a = omega (arith, q.second, q.third, q.fourth) in
    let f : n / 65536 % 256 ≡ b = omega (arith, q.second, q.third, q.fourth) in
    let g : n / 256 % 256 ≡ c = omega (arith, q.third, q.fourth) in
    let h : n % 256 ≡ d = omega (arith, q.fourth) in
    λ i. e i ∷ f i ∷ g i ∷ h i ∷ []

-- ---- what was said

-- the values come back, and the question's place is a byte exactly where it was one
abbrev pub Fits : (ℕ → List ℕ) → (ℕ → Bool) → Said → Type 0
Fits values is_byte (done vs) = values (place vs) ≡ vs
Fits values is_byte nothing = Unit {0}
Fits values is_byte (faulted e w) = Unit {0}
Fits values is_byte (broken r e t) = Unit {0}
Fits values is_byte (at_event q e) = is_byte q ≡ false
Fits values is_byte (at_byte q b) = is_byte q ≡ true

module _ (values : ℕ → List ℕ) (is_byte : ℕ → Bool) where
  parts : (code p : ℕ) → p ≤ most → decoded values is_byte (packed code p) ≡ by_parts values is_byte code p
  unfolding decoded
  parts code p l = ap₂ (by_parts values is_byte) (code-back code p l) (place-back code p l)

  refused : (q p : ℕ) → Within 1 99 q → by_parts values is_byte q p ≡ refused_by (is_byte q) q p
  refused q p w =
      let least = w.least in
      let a : eqb q 0 ≡ false = ne_eqb q 0 (λ z. omega arith) in
      let b : ltb q 100 ≡ true = lt-ltb q 100 (omega (arith, w.most)) in
      rw (a, b)

  pub decoded-back : (s : Said) → Known s → Fits values is_byte s → decoded values is_byte (coded s) ≡ s
  unfolding coded
  decoded-back (done vs) k f = parts 0 (place vs) (placed-fit vs k) ∙ ap done f
  decoded-back nothing k f = parts 100 0 (omega arith)
  decoded-back (faulted e w) k f =
      let least = k.0.least in
      let a : eqb (100 + w) 0 ≡ false = ne_eqb (100 + w) 0 (λ z. omega arith) in
      let b : ltb (100 + w) 100 ≡ false = le-ltb (100 + w) 100 (omega arith) in
      let c : eqb (100 + w) 100 ≡ false = ne_eqb (100 + w) 100 (λ z. omega arith) in
      let d : ltb (100 + w) 200 ≡ true = lt-ltb (100 + w) 200 (omega (arith, k.0.most)) in
      let m : 100 + w - 100 ≡ w = omega arith in
      parts (100 + w) e k.1 ∙ rw (a, b, c, d) (ap (faulted e) m)
  decoded-back (broken r e t) k f =
      let a : eqb (200 + r) 0 ≡ false = ne_eqb (200 + r) 0 (λ z. omega arith) in
      let b : ltb (200 + r) 100 ≡ false = le-ltb (200 + r) 100 (omega arith) in
      let c : eqb (200 + r) 100 ≡ false = ne_eqb (200 + r) 100 (λ z. omega arith) in
      let d : ltb (200 + r) 200 ≡ false = le-ltb (200 + r) 200 (omega arith) in
      let m : 200 + r - 200 ≡ r = omega arith in
      parts (200 + r) (halves e t) (halves-fit e t k.1) ∙ rw (a, b, c, d) (λ i. broken (m i) (upper i) (lower i))
    where
      upper : upper_of (halves e t) ≡ e
      upper = halves-upper e t k.1

      lower : lower_of (halves e t) ≡ t
      lower = halves-lower e t k.1
  decoded-back (at_event q e) k f = parts q e k.1 ∙ (refused q e k.0 ∙ ap (λ (x : Bool). refused_by x q e) f)
  decoded-back (at_byte q b) k f = parts q b k.1 ∙ (refused q b k.0 ∙ ap (λ (x : Bool). refused_by x q b) f)

-- each number of what is said stands where it is put, and comes back
abbrev pub Decodable : (ℕ → List ℕ) → (ℕ → Bool) → Said → Type 0
Decodable values is_byte s = Known s × Fits values is_byte s

pub decodes : (values : ℕ → List ℕ) (is_byte : ℕ → Bool) (s : Said) → Decodable values is_byte s → decoded values is_byte (coded s) ≡ s
decodes values is_byte s t = decoded-back values is_byte s t.0 t.1

-- the code of what is done is 0
pub done-code : (values : ℕ → List ℕ) (is_byte : ℕ → Bool) {s : Said} → Decodable values is_byte s → (vs : List ℕ) → s ≡ done vs → code_of (coded s) ≡ 0
unfolding coded
done-code values is_byte t vs e =
    let k : Decodable values is_byte (done vs) = subst (Decodable values is_byte) e t in
    ap (λ (x : Said). code_of (coded x)) e ∙ code-back 0 (place vs) (placed-fit vs k.0)

-- ---- an answer and the case that it is

module _ {A : Type 0} (said : A → Said) {x y : A} (same : x ≡ y) where
  pub known_as : Known (said x) → Known (said y)
  known_as k = subst (λ (a : A). Known (said a)) same k

  pub coded-as : {n : ℕ} → n ≡ coded (said y) → n ≡ coded (said x)
  coded-as n = n ∙ sym (ap (λ (a : A). coded (said a)) same)

-- what a call gives whose answer x is y by its contract: the answer may be coded, and its number is that of y and taken apart gives y back
module _ {A : Type 0} (said : A → Said) (values : ℕ → List ℕ) (is_byte : ℕ → Bool) {x y : A} (same : x ≡ y)
    (d : Decodable values is_byte (said y)) where
  pub answer-known : Known (said x)
  answer-known = known_as said (sym same) d.0

  pub call-coded : {n : ℕ} → n ≡ coded (said x) → n ≡ coded (said y)
  call-coded n = coded-as said (sym same) n

  pub call-decoded : {n : ℕ} → n ≡ coded (said x) → decoded values is_byte n ≡ said y
  call-decoded n = ap (decoded values is_byte) (call-coded n) ∙ decodes values is_byte (said y) d
