-- `lowestOf` finds the lowest justification, and none exactly if there is none.
-- Assumes nothing.
use Prim.Native.Nat.{ℕ, zero, suc, ◌<◌}
use native.Mathlib.Nat.{eq-or-lt_of_le}
use mathlib.Core.Path.{◌≡◌, refl, sym, ap, ◌∙◌}
use mathlib.Core.Logic.{◌⊎◌, inl, inr, ⊎_elim, ◌↔◌}
use mathlib.Core.Bool.{Bool, true, false, not, cond}
use mathlib.Core.List.{List, [], ◌∷◌, ◌++◌, append-nil, append_assoc}
use mathlib.Core.Option.{Option, none, some, none-ne-some, some-injective}
use lib.ListN.{length}
use borrow.Author.Tests.{lt-ltb, ltb-true}
use Rattle.lists.specs.Lists.{or_else}
use Rattle.events.specs.declared.event.Event.{Event}
use Rattle.events.specs.Events.{event_at, begins}
use Rattle.opacity.specs.Justification.{Place, Justified}
use Rattle.opacity.specs.Lowest.{place, below, same_place, fits, follows, lowest_place, continued, lowest_of}
use Rattle.lists.proofs.ListLaws.{and_l, and_r, and_i, or_l, or_r, eqb-self, every-i, none-some, lowest-some, lowest-at}
use Rattle.opacity.proofs.Compare.{not_above}
use Rattle.opacity.proofs.Orders.{fills, filled}
use Rattle.opacity.proofs.Steps.{fits-e, steps, known-apart, justified}

module _ {A : Type 0} where
  cond-some : (b : Bool) (o : Option A) {y : A} → cond b o none ≡ some y → (b ≡ true) × (o ≡ some y)
  cond-some true o e = (refl, e)
  cond-some false o {y} e = absurd (none-ne-some y e)

  some-cond : {b : Bool} {o : Option A} {y : A} → b ≡ true → o ≡ some y → cond b o none ≡ some y
  some-cond e q = rw (e, q)

  or_else-some : (a b : Option A) {y : A} → or_else a b ≡ some y → (a ≡ some y) ⊎ (b ≡ some y)
  or_else-some none b e = inr e
  or_else-some (some x) b e = inl e

  -- the lowest place with an answer
  pub record Pick (f : Place → Option A) (q : Place) (z : A) : Type 0 where
    pub choice : Place
    pub answer : f choice ≡ some z
    pub ordered : (below choice q ≡ true) ⊎ (choice ≡ q)

  pick-lower : (f : Place → Option A) (s : ℕ) (q : Place) {z : A} → s < q.transaction → or_else (f (place s false)) (f (place s true)) ≡ some z → Pick f q z
  unfolding below
  pick-lower f s q h e =
      ⊎_elim
      (λ a. record { choice = place s false; answer = a; ordered = inl (or_l _ _ (lt-ltb s q.transaction h)) })
      (λ a. record { choice = place s true; answer = a; ordered = inl (or_l _ _ (lt-ltb s q.transaction h)) })
      (or_else-some (f (place s false)) (f (place s true)) e)

  pick_same : (f : Place → Option A) (t : ℕ) (c : Bool) {y z : A} → f (place t c) ≡ some y → or_else (f (place t false)) (f (place t true)) ≡ some z
      → Pick f (place t c) z
  unfolding below
  pick_same f t false {y} {z} a e = record { choice = place t false; answer = a ∙ rw a at e; ordered = inr refl }
  pick_same f t true {y} {z} a e = go (f (place t false)) refl e
    where
      go : (o : Option A) → f (place t false) ≡ o → or_else o (f (place t true)) ≡ some z → Pick f (place t true) z
      go none q e' = record { choice = place t true; answer = e'; ordered = inr refl }
      go (some x) q e' =
          record {
            choice = place t false;
            answer = q ∙ e';
            ordered = inl (or_r _ _ (and_i _ _ (eqb-self t) (and_i _ _ refl refl)));
          }

  -- both outcomes at one transaction
  both_some : (f : Place → Option A) (t : ℕ) (c : Bool) {y : A} → f (place t c) ≡ some y → (z : A) × (or_else (f (place t false)) (f (place t true)) ≡ some z)
  both_some f t false {y} a = (y, rw a)
  both_some f t true {y} a = go (f (place t false))
    where
      go : (o : Option A) → (z : A) × (or_else o (f (place t true)) ≡ some z)
      go none = (y, a)
      go (some x) = (x, refl)

  pub place-least : (f : Place → Option A) (n : ℕ) (q : Place) {y : A} → q.transaction < n → f q ≡ some y → (z : A) × (lowest_place f n ≡ some z) × Pick f q z
  unfolding lowest_place
  place-least f n q h a =
      let b = both_some f q.transaction q.committed a in
      let r = lowest-at (λ t. or_else (f (place t false)) (f (place t true))) n q.transaction h b.1 in (
        r.0,
        r.3,
        ⊎_elim
            (λ e. pick_same f q.transaction q.committed a (rw e at r.1.answer))
            (λ l. pick-lower f r.1.at q l r.1.answer)
            (eq-or-lt_of_le r.2),
      )

  pub place-some : (f : Place → Option A) (n : ℕ) {y : A} → lowest_place f n ≡ some y → (p : Place) × (f p ≡ some y)
  unfolding lowest_place
  place-some f n e =
      let r = lowest-some (λ t. or_else (f (place t false)) (f (place t true))) n e in
      ⊎_elim (λ a. (place r.at false, a)) (λ a. (place r.at true, a)) (or_else-some (f (place r.at false)) (f (place r.at true)) r.answer)

-- What the search finds goes on after P by k places, each in its turn.
pub record Grown (ok : List Place → Place → Bool) (k : ℕ) (P J : List Place) : Type 0 where
  pub more : List Place
  pub whole : J ≡ P ++ more
  pub follow : follows ok P more ≡ true
  pub size : length more ≡ k

-- the places that the search tries after P
abbrev tries : (List Place → Place → Bool) → ℕ → ℕ → List Place → Place → Option (List Place)
tries ok n k P p = cond (ok P p) (continued ok n k (P ++ (p ∷ []))) none

pub continued-sound : (ok : List Place → Place → Bool) (n k : ℕ) (P : List Place) {J : List Place} → continued ok n k P ≡ some J → Grown ok k P J
unfolding continued follows
continued-sound ok n zero P {J} e = record { more = []; whole = sym (some-injective P J e) ∙ sym (append-nil P); follow = refl; size = refl }
continued-sound ok n (suc k) P e =
    let r = place-some (tries ok n k P) n e in
    let c = cond-some _ _ r.1 in
    let g = continued-sound ok n k (P ++ (r.0 ∷ [])) c.1 in
    record {
      more = r.0 ∷ g.more;
      whole = g.whole ∙ append_assoc P (r.0 ∷ []) g.more;
      follow = and_i _ _ c.0 g.follow;
      size = ap suc g.size;
    }

same_self : (p : Place) → same_place p p ≡ true
unfolding same_place
same_self p = and_i _ _ (eqb-self p.transaction) (go p.committed)
  where
    go : (c : Bool) → cond c c (not c) ≡ true
    go true = refl
    go false = refl

-- it finds an order that is not above any other that goes on after P in the same way
pub record Least (ok : List Place → Place → Bool) (n : ℕ) (P S : List Place) : Type 0 where
  pub found : List Place
  pub more : List Place
  pub finds : continued ok n (length S) P ≡ some found
  pub whole : found ≡ P ++ more
  pub low : not_above more S ≡ true

pub continued-least : (ok : List Place → Place → Bool) (n : ℕ) → ((P : List Place) (p : Place) → ok P p ≡ true → p.transaction < n) → (P S : List Place) → follows ok P S ≡ true → Least ok n P S
unfolding continued follows not_above
continued-least ok n known P [] t = record { found = P; more = []; finds = refl; whole = sym (append-nil P); low = refl }
continued-least ok n known P (q ∷ S) t =
    let i = continued-least ok n known (P ++ (q ∷ [])) S (and_r _ _ t) in
    let r = place-least (tries ok n (length S) P) n q (known P q (and_l _ _ t)) (some-cond (and_l _ _ t) i.finds) in
    let z = r.0 in
    let c = r.2.choice in
    let a = cond-some (ok P c) _ r.2.answer in
    ⊎_elim
    (λ b.
    let g = continued-sound ok n (length S) (P ++ (c ∷ [])) a.1 in
    record { found = z; more = c ∷ g.more; finds = r.1; whole = g.whole ∙ append_assoc P (c ∷ []) g.more; low = or_l _ _ b })
    (λ e.
    let s : some z ≡ some i.found = sym a.1 ∙ ap (λ (x : Place). continued ok n (length S) (P ++ (x ∷ []))) e ∙ i.finds in
    record {
      found = z;
      more = q ∷ i.more;
      finds = r.1;
      whole = some-injective z i.found s ∙ i.whole ∙ append_assoc P (q ∷ []) i.more;
      low = or_r _ _ (and_i _ _ (same_self q) i.low);
    })
    r.2.ordered

-- The lowest justification.
module _ (start : ℕ → ℕ) (h : List Event) where
  pub lowest-justifies : ((i : ℕ) → i < length h → (event_at h i).transaction < begins h) → {J : List Place} → lowest_of start h ≡ some J → Justified start h J
  unfolding lowest_of
  lowest-justifies begun {J} e =
      let c = cond-some _ _ e in
      let g = continued-sound (fits start h) (begins h) (begins h) [] c.1 in
      let t : follows (fits start h) [] J ≡ true = rw g.whole g.follow in
      let k = known-apart start h J t in
      justified start h J begun c.0 t (fills (begins h) J k.0 k.1 (ap length g.whole ∙ g.size))

  pub lowest-least : {K : List Place} → Justified start h K → (J : List Place) × (lowest_of start h ≡ some J) × (not_above J K ≡ true)
  unfolding lowest_of
  lowest-least {K} j =
      let l = continued-least (fits start h) (begins h) (λ P p t. ltb-true _ _ (fits-e start h P p t).known) [] K (steps start h K j [] K refl) in
      let e : continued (fits start h) (begins h) (begins h) [] ≡ some l.found = rw (filled (begins h) K j.order) at l.finds in
      (l.found, some-cond (every-i _ _ j.own) e, rw l.whole l.low)

  pub none-iff : ((i : ℕ) → i < length h → (event_at h i).transaction < begins h) → (lowest_of start h ≡ none) ↔ ((K : List Place) → Justified start h K → ⊥)
  none-iff begun = (λ e K j. none-some e (lowest-least j).1, λ f. go (lowest_of start h) refl f)
    where
      go : (o : Option (List Place)) → lowest_of start h ≡ o → ((K : List Place) → Justified start h K → ⊥) → lowest_of start h ≡ none
      go none e f = e
      go (some J) e f = absurd (f J (lowest-justifies begun e))
