-- Laws of a walk over the members of a set, lowest first.
-- Assumes nothing.
use mathlib.Core.Path.{◌≡◌, refl, sym, ap, ◌∙◌, subst}
use mathlib.Core.List.{◌∷◌}
use mathlib.Core.Bool.{Bool, true, false, cond}
use Prim.Native.Nat.{ℕ, zero, suc, ◌+◌, ◌-◌, ◌/◌, ◌%◌, ◌^◌, ◌<◌}
use native.Mathlib.Nat.{zero-add, add-zero, add-suc, suc-add, le_refl}
use native.Mathlib.Omega.{arith}
use lib.Dec.{eqb}
use lib.Bits.{bit_and, and_le_l, and_le_r}
use lib.Count.{count_trailing_zeros}
use lib.ListN.{length}
use borrow.Author.Tests.{eqb-true, eqb-false}
use Rattle.lists.specs.Lists.{◌and◌, all}
use Rattle.lists.specs.Bits.{bit_at, cons_if, members_in, members}
use Rattle.places.specs.declared.sets.Walk.{Walk}
use Rattle.places.specs.Sets.{Lowest}
use Rattle.places.specs.State.{Within, Keeps}
use Rattle.places.specs.Tree.{remove}
use Rattle.lists.proofs.ListLaws.{and_l, and_r, and_i, clash}
use Rattle.lists.proofs.BitLaws.{member-lt, member-off, member-kept, member-gone, no_member, and-member, lowest-in, members-lowest}
use Rattle.places.proofs.MemberLaws.{members-off}

pub members-first : (t c : ℕ) → c < 2 ^ 64 → (c ≡ 0 → ⊥) → t ≡ count_trailing_zeros 64 c → members c ≡ t ∷ members (c - 2 ^ t)
unfolding members
members-first t c l f e = rw (e, members-lowest 64 0 c l (omega arith), zero-add)

pub lowest-member : (t c : ℕ) → c < 2 ^ 64 → (c ≡ 0 → ⊥) → t ≡ count_trailing_zeros 64 c → bit_at t c ≡ 1
lowest-member t c l f e = rw e (lowest-in 64 c l (omega arith))

-- a step of a walk: the lowest is given, and the others are left
pub lowest-of : (t c rest : ℕ) → c < 2 ^ 64 → (c ≡ 0 → ⊥) → t ≡ count_trailing_zeros 64 c → rest ≡ c - 2 ^ t → Lowest c t rest
lowest-of t c rest l f e r = record { is_in = lowest-member t c l f e; others = r; first = members-first t c l f e ∙ ap (λ (m : ℕ). t ∷ members m) (sym r) }

pub fewer_left : (t c rest : ℕ) → Lowest c t rest → length (members rest) < length (members c)
fewer_left t c rest w = rw w.first (omega arith)

-- a walk that has not begun has the set left
pub all-left : {w v : Walk} {set : ℕ} → w ≡ v → v.left ≡ set → w.left ≡ set
all-left e f = ap (λ (x : Walk). x.left) e ∙ f

pub members-remove : (t n : ℕ) → n < 1024 → bit_at t n ≡ 1 → members (n - 2 ^ t) ≡ remove t (members n)
unfolding members
members-remove t n l h =
    let few : t < 64 = omega (arith, member-lt t n 10 h l) in
    members-off 64 0 t n few h ∙ ap (λ (k : ℕ). remove k (members_in 64 0 n)) (zero-add t)

-- ---- parts of a set

pub within-self : (u : ℕ) → Within u u
within-self u = record { few = le_refl u; is_in = λ k h. h }

pub within-trans : (u c d : ℕ) → Within u c → Within c d → Within u d
within-trans u c d w v = record { few = omega (arith, w.few, v.few); is_in = λ k h. w.is_in k (v.is_in k h) }

-- one less
pub within-rest : (u c t r : ℕ) → Within u c → bit_at t c ≡ 1 → r ≡ c - 2 ^ t → Within u r
within-rest u c t r w h e = record { few = omega (arith, w.few); is_in = λ k g. w.is_in k (member-off t k c h (rw e at g)) }

pub within-and-l : (a b : ℕ) → Within a (bit_and a b)
within-and-l a b = record { few = and_le_l a b; is_in = λ k h. (and-member k a b h).0 }

pub within-and-r : (a b : ℕ) → Within b (bit_and a b)
within-and-r a b = record { few = and_le_r a b; is_in = λ k h. (and-member k a b h).1 }

-- what is left without t has members other than t
pub not-gone : (t k n : ℕ) → bit_at t n ≡ 1 → bit_at k (n - 2 ^ t) ≡ 1 → k ≡ t → ⊥
not-gone t k n h g e = let z : bit_at t (n - 2 ^ t) ≡ 1 = rw e at g in omega (arith, member-gone t n h)

-- a walk: what holds of the lowest and of all passed before holds of all passed after it
pub passed-one : (P : ℕ → Type 0) (t left rest : ℕ) → bit_at t left ≡ 1 → rest ≡ left - 2 ^ t → P t → ((k : ℕ) → (bit_at k left ≡ 1 → ⊥) → P k)
    → (k : ℕ) → (bit_at k rest ≡ 1 → ⊥) → P k
passed-one P t left rest h e here before k out = go (eqb k t) refl
  where
    go : (b : Bool) → eqb k t ≡ b → P k
    go true q = subst P (sym (eqb-true k t q)) here
    go false q = before k (λ g. out (rw e (member-kept t k left h (eqb-false k t q) g)))

-- ---- a walk

-- a walk over the members of a set: those left are members, and what is said holds of those passed
pub record Walked (Passed : ℕ → Type 0) (set left : ℕ) : Type 0 where
  pub within : Within set left
  pub passed : (k : ℕ) → bit_at k set ≡ 1 → (bit_at k left ≡ 1 → ⊥) → Passed k

pub within-all : {set left : ℕ} → left ≡ set → Within set left
within-all {set} {left} e = rw e (within-self set)

pub within-on : {set left t rest : ℕ} → Within set left → Lowest left t rest → Within set rest
within-on {set} {left} {t} {rest} w n = within-rest set left t rest w n.is_in n.others

module _ {P : ℕ → Type 0} {set left : ℕ} where
  -- none has been passed
  pub walk-begins : left ≡ set → Walked P set left
  walk-begins e = rw e (record { within = within-self set; passed = λ k h out. absurd (out h) })

  -- the lowest of those left is a member
  pub its-turn : {t rest : ℕ} → Walked P set left → Lowest left t rest → bit_at t set ≡ 1
  its-turn {t} w n = w.within.is_in t n.is_in

  -- and passed next
  pub walk_on : {t rest : ℕ} → Walked P set left → Lowest left t rest → P t → Walked P set rest
  walk_on {t} {rest} w n here = record { within = within-on w.within n; passed = λ k h out. go k h out (eqb k t) refl }
    where
      go : (k : ℕ) → bit_at k set ≡ 1 → (bit_at k rest ≡ 1 → ⊥) → (b : Bool) → eqb k t ≡ b → P k
      go k h out true q = subst P (sym (eqb-true k t q)) here
      go k h out false q = w.passed k h (λ g. out (rw n.others (member-kept t k left n.is_in (eqb-false k t q) g)))

  -- all have been passed
  pub walk-ends : Walked P set left → left ≡ 0 → (k : ℕ) → bit_at k set ≡ 1 → P k
  walk-ends w e k h = w.passed k h (no_member k left e)

  -- less is said of those passed
  pub walk-says : {Q : ℕ → Type 0} → ((k : ℕ) → P k → Q k) → Walked P set left → Walked Q set left
  walk-says f w = record { within = w.within; passed = λ k h out. f k (w.passed k h out) }

-- ---- the members that pass

module _ (Passes : ℕ → Type 0) where
  pub keeps-all : (set : ℕ) → Keeps Passes set set × Within set set
  keeps-all set = (record { within = within-self set; has = λ k h q. h }, within-self set)

  -- the next one is asked, and taken out unless it passes
  pub keeps_on : (set ready left t rest : ℕ) (b : Bool) (ready' : ℕ) → Keeps Passes set ready → Within ready left → Lowest left t rest
      → (Passes t → b ≡ true) → ready' ≡ cond b ready (ready - 2 ^ t) → Keeps Passes set ready' × Within ready' rest
  keeps_on set ready left t rest true ready' k w n q e =
      (record { within = rw e k.within; has = λ j g r. rw e (k.has j g r) }, rw e (within-on w n))
  keeps_on set ready left t rest false ready' k w n q e = (
    record {
      within = within-rest set ready t ready' k.within (w.is_in t n.is_in) e;
      has = λ j g r. rw e (member-kept t j ready (w.is_in t n.is_in) (λ z. clash (q (subst Passes z r)) refl) (k.has j g r));
    },
    record {
      few = omega (arith, w.few, n.others);
      is_in = λ j g.
          let m = rw n.others at g in
          rw e (member-kept t j ready (w.is_in t n.is_in) (not-gone t j left n.is_in m) (w.is_in j (member-off t j left n.is_in m)));
    },
  )

-- ---- tests of members

-- a test of all members
module _ (p : ℕ → Bool) where
  pub none_left : (c : ℕ) → c ≡ 0 → all p (members c) ≡ true
  unfolding members members_in all
  none_left c e = rw e

  -- the lowest passes, and the others decide
  pub one_passes : (t c rest : ℕ) → Lowest c t rest → p t ≡ true → all p (members c) ≡ all p (members rest)
  unfolding all ◌and◌
  one_passes t c rest w b = rw (w.first, b)

  -- it does not
  pub one-fails : (t c rest : ℕ) → Lowest c t rest → p t ≡ false → all p (members c) ≡ false
  unfolding all ◌and◌
  one-fails t c rest w b = rw (w.first, b)

  passes-in : (d i n : ℕ) → all p (members_in d i n) ≡ true → (k : ℕ) → k < d → bit_at k n ≡ 1 → p (i + k) ≡ true
  unfolding members_in all bit_at
  passes-in zero i n t k l b = absurd (omega arith)
  passes-in (suc d) i n t zero l b = rw add-zero (and_l _ _ (rw b at t))
  passes-in (suc d) i n t (suc k) l b = rw (add-suc, ← suc-add) (passes-in d (suc i) (n / 2) (rest (n % 2) t) k (omega arith) b)
    where
      rest : (x : ℕ) → all p (cons_if x i (members_in d (suc i) (n / 2))) ≡ true → all p (members_in d (suc i) (n / 2)) ≡ true
      rest zero q = q
      rest (suc x) q = and_r _ _ q

  in-passes : (d i n : ℕ) → ((k : ℕ) → k < d → bit_at k n ≡ 1 → p (i + k) ≡ true) → all p (members_in d i n) ≡ true
  unfolding members_in all bit_at
  in-passes zero i n f = refl
  in-passes (suc d) i n f = go (n % 2) refl (in-passes d (suc i) (n / 2) (λ k l b. rw (suc-add, ← add-suc) (f (suc k) (omega arith) b)))
    where
      go : (x : ℕ) → n % 2 ≡ x → all p (members_in d (suc i) (n / 2)) ≡ true → all p (cons_if x i (members_in d (suc i) (n / 2))) ≡ true
      go zero e q = q
      go (suc x) e q = and_i _ _ (rw add-zero at (f 0 (omega arith) (omega arith))) q

  -- all pass exactly if each member does
  pub member-passes : (n : ℕ) → all p (members n) ≡ true → (k : ℕ) → k < 64 → bit_at k n ≡ 1 → p k ≡ true
  unfolding members
  member-passes n t k l b = rw zero-add at (passes-in 64 0 n t k l b)

  pub members-pass : (n : ℕ) → ((k : ℕ) → bit_at k n ≡ 1 → p k ≡ true) → all p (members n) ≡ true
  unfolding members
  members-pass n f = in-passes 64 0 n (λ k l b. rw zero-add (f k b))

-- so do those that are in another set too
pub fewer-pass : (p : ℕ → Bool) (n other : ℕ) → n < 2 ^ 32 → all p (members n) ≡ true → all p (members (bit_and n other)) ≡ true
fewer-pass p n other low h = members-pass p (bit_and n other) (λ k b.
    let is_in = (and-member k n other b).0 in member-passes p n h k (omega (arith, member-lt k n 32 is_in low)) is_in)
