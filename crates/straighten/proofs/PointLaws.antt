-- Points by their events: points whose events rise are those events with their gaps. Laws of `map` and `keep` that this needs.
-- Assumes nothing.
use Prim.Native.Nat.{ℕ, zero, suc, ◌+◌, ◌≤◌, ◌<◌}
use native.Mathlib.Nat.{le_refl, le_of_suc-le-suc}
use native.Mathlib.Omega.{arith}
use mathlib.Core.Path.{◌≡◌, refl, sym, ap, ap₂, ◌∙◌, fun_ext}
use mathlib.Core.Bool.{Bool, true, false, cond}
use mathlib.Core.List.{List, [], ◌∷◌, map}
use mathlib.Core.Option.{none, some}
use lib.Dec.{eqb, leb}
use borrow.Author.Tests.{ne_eqb, le-leb, leb-true}
use Rattle.lists.specs.Lists.{◌and◌, all, keep, push, latest}
use Rattle.lists.proofs.ListLaws.{and_l, and_r, and_i, eqb-self, or_else-none, keep-both}
use Rattle.opacity.specs.Marking.{Point, gap_of}
use Rattle.marking_reader.proofs.ReadBack.{rising}
use Rattle.straighten.specs.Straight.{Rises}

-- ---- rising

above : (a b : ℕ) (xs : List ℕ) → a ≤ b → rising b xs ≡ true → all (λ x. leb a x) xs ≡ true
unfolding rising all
above a b [] l r = refl
above a b (x ∷ xs) l r =
    let k : b ≤ x = leb-true _ _ (and_l _ _ r) in
    and_i _ _ (le-leb a x (omega arith)) (above a (x + 1) xs (omega arith) (and_r _ _ r))

pub rises : (b : ℕ) (xs : List ℕ) → rising b xs ≡ true → Rises xs
unfolding rising
rises b [] r j l = absurd (omega arith)
rises b (x ∷ []) r j l = absurd (omega arith)
rises b (x ∷ y ∷ xs) r zero l = let k : x + 1 ≤ y = leb-true _ _ (and_l _ _ (and_r _ _ r)) in omega arith
rises b (x ∷ y ∷ xs) r (suc j) l = rises (x + 1) (y ∷ xs) (and_r _ _ r) j (le_of_suc-le-suc l)

-- ---- map and keep

pub map_same : {A : Type 0} (p : ℕ → Bool) (f g : ℕ → A) (xs : List ℕ) → ((x : ℕ) → p x ≡ true → f x ≡ g x) → all p xs ≡ true → map f xs ≡ map g xs
unfolding all
map_same p f g [] e a = refl
map_same p f g (x ∷ xs) e a = ap₂ ◌∷◌ (e x (and_l _ _ a)) (map_same p f g xs e (and_r _ _ a))

pub map-none : {A B : Type 0} (f : A → B) (xs : List A) → map f xs ≡ [] → xs ≡ []
map-none f [] e = refl
map-none f (x ∷ xs) e = absurd (let z : ◌≡◌ {A = ℕ} 0 1 = cc in omega arith)

pub keep-map : {A B : Type 0} (p : B → Bool) (f : A → B) (xs : List A) → keep p (map f xs) ≡ map f (keep (λ x. p (f x)) xs)
unfolding keep
keep-map p f [] = refl
keep-map p f (x ∷ xs) = ap (push (p (f x)) (f x)) (keep-map p f xs) ∙ go (p (f x))
  where
    go : (b : Bool) → push b (f x) (map f (keep (λ y. p (f y)) xs)) ≡ map f (push b x (keep (λ y. p (f y)) xs))
    go true = refl
    go false = refl

-- a test that follows from another keeps the same of what that one keeps
pub keep-keep : {A : Type 0} (p q : A → Bool) (xs : List A) → ((x : A) → q x ≡ true → p x ≡ true) → keep q (keep p xs) ≡ keep q xs
unfolding ◌and◌
keep-keep {A} p q xs e = keep-both p q xs ∙ ap (λ (r : A → Bool). keep r xs) (fun_ext (λ x. go x (q x) refl))
  where
    go : (x : A) (b : Bool) → q x ≡ b → (b and p x) ≡ b
    go x true t = e x t
    go x false t = refl

-- ---- points

-- the point at event i with the gap g i
abbrev pub point_with : (ℕ → ℕ) → ℕ → Point
point_with g i = record { event = i; gap = g i }

none_above : (i : ℕ) (ps : List Point) → all (λ x. leb (i + 1) x) (map (λ p. p.event) ps) ≡ true
    → latest (λ (p : Point). cond (eqb p.event i) (some p.gap) none) ps ≡ none
unfolding latest all
none_above i [] a = refl
none_above i (p ∷ ps) a =
    let l : i + 1 ≤ p.event = leb-true _ _ (and_l _ _ a) in
    rw (none_above i ps (and_r _ _ a), ne_eqb p.event i (λ e. omega arith))

gap_here : (p : Point) (ps : List Point) → rising (p.event + 1) (map (λ q. q.event) ps) ≡ true → gap_of (p ∷ ps) p.event ≡ p.gap
unfolding gap_of latest
gap_here p ps r = rw (none_above p.event ps (above _ _ _ (le_refl (p.event + 1)) r), eqb-self p.event)

gap-behind : (p : Point) (ps : List Point) (i : ℕ) → p.event < i → gap_of (p ∷ ps) i ≡ gap_of ps i
unfolding gap_of latest
gap-behind p ps i l = rw (ne_eqb p.event i (λ e. omega arith), or_else-none)

pub by-event : (b : ℕ) (ps : List Point) → rising b (map (λ p. p.event) ps) ≡ true → ps ≡ map (point_with (gap_of ps)) (map (λ p. p.event) ps)
unfolding rising
by-event b [] r = refl
by-event b (p ∷ ps) r =
    let s = and_r (leb b p.event) _ r in
    ap₂ ◌∷◌ (λ i. record { event = p.event; gap = sym (gap_here p ps s) i })
    (by-event (p.event + 1) ps s
    ∙ map_same (λ x. leb (p.event + 1) x) (point_with (gap_of ps)) (point_with (gap_of (p ∷ ps))) (map (λ q. q.event) ps)
    (λ x l k. record { event = x; gap = sym (gap-behind p ps x (let n : p.event + 1 ≤ x = leb-true _ _ l in omega arith)) k })
    (above _ _ _ (le_refl (p.event + 1)) s))
