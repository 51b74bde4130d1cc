-- What a record answers, by its kind, and what an answer tells of the record.
-- Assumes nothing.
use Prim.Native.Nat.{ℕ, ◌+◌}
use mathlib.Core.Path.{◌≡◌, refl, sym, ◌∙◌}
use mathlib.Core.Logic.{◌⊎◌, inl, inr}
use mathlib.Core.Bool.{Bool, true, false, cond}
use mathlib.Core.List.{List, [], ◌∷◌}
use mathlib.Core.Option.{Option, none, some}
use lib.Dec.{eqb}
use lib.ListN.{length}
use borrow.Author.Tests.{eqb-true}
use Rattle.std.specs.Prelude.{Ok, Err}
use Rattle.records.specs.declared.record.Record.{Record}
use Rattle.records.specs.declared.record.Found.{Found}
use Rattle.records.specs.declared.record.Found.TheVariants.{Whole, Short, End}
use Rattle.lists.specs.Lists.{◌or◌, ◌implies◌}
use Rattle.events.specs.declared.refusal.Refusal.{Refusal}
use Rattle.events.specs.Questions.{Question, ask, refusal}
use Rattle.events.specs.Said.{refuse}
use Rattle.event_log.specs.Checked.{Checked, asked}
use Rattle.event_log.proofs.CheckedLaws.{asked-yes, asked-no}
use Rattle.records.specs.Records.{record_at, body_of}
use Rattle.marking_reader.specs.declared.step.MarkingStep.{MarkingStep}
use Rattle.marking_reader.specs.declared.step.MarkingStep.TheVariants.{Placed, Pointed, Finished}
use Rattle.marking_reader.specs.File.{Asked, is_place, is_point, transaction_in, outcome_in, event_in, gap_in, Stepped, unless}
use Rattle.marking_reader.specs.File.{record_questions, end_questions, body_step, end_step, step_on, step_at, opening}
use Rattle.marking_reader.specs.State.{said_at, place_questions, point_questions, place_step, point_step}

-- ---- by kind

sized : (b : Bool) (o : Option ℕ) (at : ℕ) (x : MarkingStep) → unless (cond b o (some 23)) at x ≡ cond b (unless o at x) (Err (refuse 23 at))
sized true o at x = refl
sized false o at x = refl

-- what is asked of a place's body and of a point's, and their steps
module _ (a : Asked) where
  abbrev place_asked : List ℕ → Option ℕ
  place_asked body =
      refusal (place_questions a.transactions a.next_event (a.placed (transaction_in body)) (transaction_in body) (outcome_in body))

  abbrev point_asked : List ℕ → Option ℕ
  point_asked body =
      refusal (point_questions a.transactions a.next_event a.every_placed (a.store_read (event_in body)) (event_in body) (gap_in body))

  abbrev pub place_body : ℕ → List ℕ → ℕ → Stepped
  place_body at body end = place_step a.transactions a.next_event a.placed at body end

  abbrev pub point_body : ℕ → List ℕ → ℕ → Stepped
  point_body at body end = point_step a.transactions a.next_event a.every_placed a.store_read at body end

  pub body-place : (at kind : ℕ) (body : List ℕ) (end : ℕ) → is_place kind ≡ true → body_step a at kind body end ≡ place_body at body end
  unfolding body_step record_questions refusal place_step place_questions ◌or◌ ◌implies◌
  body-place at kind body end e =
      let k : kind ≡ 32 = eqb-true kind 32 e in
      rw k (sized (eqb (length body) 4) (place_asked body) at (Placed (transaction_in body) (outcome_in body) end))

  pub body-point : (at kind : ℕ) (body : List ℕ) (end : ℕ) → is_point kind ≡ true → body_step a at kind body end ≡ point_body at body end
  unfolding body_step record_questions refusal point_step point_questions ◌or◌ ◌implies◌
  body-point at kind body end e =
      let k : kind ≡ 33 = eqb-true kind 33 e in
      rw k (sized (eqb (length body) 6) (point_asked body) at (Pointed (event_in body) (gap_in body) end))

  pub body-other : (at kind : ℕ) (body : List ℕ) (end : ℕ) → is_place kind ≡ false → is_point kind ≡ false
      → body_step a at kind body end ≡ Err (refuse 22 at)
  unfolding body_step record_questions refusal ◌or◌
  body-other at kind body end e d = rw (e, d)

-- ---- questions that none or one refuses

pub unless-none : (o : Option ℕ) (at : ℕ) (x : MarkingStep) → o ≡ none → ◌≡◌ {A = Stepped} (Ok x) (unless o at x)
unless-none o at x e = rw e

pub unless-some : (o : Option ℕ) (at : ℕ) (x : MarkingStep) (q : ℕ) → o ≡ some q → ◌≡◌ {A = Stepped} (Err (refuse q at)) (unless o at x)
unless-some o at x q e = rw e

-- ---- questions asked one after another

module _ (q at : ℕ) {b p : Bool} (qs : List Question) (same : b ≡ p) where
  -- the first says yes, and those after it answer; or it says no
  pub asked-on : {u : Unit {0}} → ◌≡◌ {A = Checked} (Ok u) (asked b q at) → said_at (refusal qs) at ≡ said_at (refusal (ask q p ∷ qs)) at
  unfolding refusal
  asked-on e = let y : p ≡ true = sym same ∙ asked-yes b q at e in rw y

  pub asked-first : {r : Refusal} → ◌≡◌ {A = Checked} (Err r) (asked b q at)
      → ◌≡◌ {A = Checked} (Err r) (said_at (refusal (ask q p ∷ qs)) at)
  unfolding refusal
  asked-first e = let n = asked-no b q at e in let y : p ≡ false = sym same ∙ n.0 in rw y n.1

-- a size, which is asked before what stands in the body
pub sized-first : (q at : ℕ) (b : Bool) (x : Stepped) {r : Refusal} → ◌≡◌ {A = Checked} (Err r) (asked b q at)
    → ◌≡◌ {A = Stepped} (Err r) (cond b x (Err (refuse q at)))
sized-first q at b x {r} e = let n = asked-no b q at e in let k = n.1 in rw n.0 (cc)

-- one alone
pub asked-last : (q at : ℕ) {b p : Bool} → b ≡ p → asked b q at ≡ said_at (refusal (ask q p ∷ [])) at
unfolding refusal
asked-last q at {b} {p} same = rw same (go p)
  where
    go : (p : Bool) → asked p q at ≡ said_at (cond p none (some q)) at
    go true = refl
    go false = refl

-- what is given where no question says no, and the refusal where one does
module _ (o : Option ℕ) (at : ℕ) (x : MarkingStep) where
  pub gives : {u : Unit {0}} → ◌≡◌ {A = Checked} (Ok u) (said_at o at) → ◌≡◌ {A = Stepped} (Ok x) (unless o at x)
  gives {u = u} e = go o e
    where
      go : (o : Option ℕ) → ◌≡◌ {A = Checked} (Ok u) (said_at o at) → ◌≡◌ {A = Stepped} (Ok x) (unless o at x)
      go none e = refl
      go (some q) e = absurd (cc)

  pub refuses : {r : Refusal} → ◌≡◌ {A = Checked} (Err r) (said_at o at) → ◌≡◌ {A = Stepped} (Err r) (unless o at x)
  refuses {r = r} e = go o e
    where
      go : (o : Option ℕ) → ◌≡◌ {A = Checked} (Err r) (said_at o at) → ◌≡◌ {A = Stepped} (Err r) (unless o at x)
      go none e = absurd (cc)
      go (some q) e = cc

-- ---- what an answer tells

placed≢pointed : (x y w t o e : ℕ) → Placed x y w ≡ Pointed t o e → ⊥
placed≢pointed x y w t o e d = cc

-- a body that is answered with something other than a refusal has its size, and no question says no
body-given : (b : Bool) (o : Option ℕ) (at : ℕ) (x y : MarkingStep) → ◌≡◌ {A = Stepped} (cond b (unless o at x) (Err (refuse 23 at))) (Ok y)
    → (b ≡ true) × (o ≡ none) × (x ≡ y)
body-given true none at x y d = (refl, refl, cc)
body-given true (some q) at x y d = absurd (cc)
body-given false o at x y d = absurd (cc)

-- an end that is no refusal
end-given : (byte : ℕ) (p q : Bool) (y : MarkingStep) → end_step byte p q ≡ Ok y → (p ≡ true) × (q ≡ true) × (Finished ≡ y)
unfolding end_step end_questions refusal
end-given byte true true y d = (refl, refl, cc)
end-given byte true false y d = absurd (cc)
end-given byte false q y d = absurd (cc)

-- a record that gives a place: its body, and that no question says no
pub record PlaceRead (a : Asked) (s : List ℕ) (at t o end : ℕ) : Type 0 where
  pub whole : Record
  pub there : record_at s at ≡ Whole whole
  pub kind : is_place whole.kind ≡ true
  pub size : length (body_of s whole) ≡ 4
  pub first : transaction_in (body_of s whole) ≡ t
  pub second : outcome_in (body_of s whole) ≡ o
  pub ends : whole.start + whole.size ≡ end
  pub fine : refusal (place_questions a.transactions a.next_event (a.placed t) t o) ≡ none

pub record PointRead (a : Asked) (s : List ℕ) (at e g end : ℕ) : Type 0 where
  pub whole : Record
  pub there : record_at s at ≡ Whole whole
  pub kind : is_point whole.kind ≡ true
  pub size : length (body_of s whole) ≡ 6
  pub first : event_in (body_of s whole) ≡ e
  pub second : gap_in (body_of s whole) ≡ g
  pub ends : whole.start + whole.size ≡ end
  pub fine : refusal (point_questions a.transactions a.next_event a.every_placed (a.store_read e) e g) ≡ none

module _ (a : Asked) (s : List ℕ) (at : ℕ) where
  -- a record's body, and where it ends
  abbrev body : Record → List ℕ
  body r = body_of s r

  abbrev ends : Record → ℕ
  ends r = r.start + r.size

  abbrev place_given : Record → MarkingStep
  place_given r = Placed (transaction_in (body r)) (outcome_in (body r)) (ends r)

  abbrev point_given : Record → MarkingStep
  point_given r = Pointed (event_in (body r)) (gap_in (body r)) (ends r)

  -- what a place's record gives, and a point's
  place-body-given : (r : Record) (y : MarkingStep) → place_body a at (body r) (ends r) ≡ Ok y
      → (eqb (length (body r)) 4 ≡ true) × (place_asked a (body r) ≡ none) × (place_given r ≡ y)
  unfolding place_step
  place-body-given r y d = body-given _ (place_asked a (body r)) at (place_given r) y d

  point-body-given : (r : Record) (y : MarkingStep) → point_body a at (body r) (ends r) ≡ Ok y
      → (eqb (length (body r)) 6 ≡ true) × (point_asked a (body r) ≡ none) × (point_given r ≡ y)
  unfolding point_step
  point-body-given r y d = body-given _ (point_asked a (body r)) at (point_given r) y d

  placed-means-body : (r : Record) (t o end : ℕ) → record_at s at ≡ Whole r → is_place r.kind ≡ true
      → place_body a at (body r) (ends r) ≡ Ok (Placed t o end) → PlaceRead a s at t o end
  placed-means-body r t o end w k d =
      let g = place-body-given r (Placed t o end) d in
      let same = g.2 in
      let x : transaction_in (body r) ≡ t = cc in
      let y : outcome_in (body r) ≡ o = cc in
      let z : ends r ≡ end = cc in
      record {
        whole = r;
        there = w;
        kind = k;
        size = eqb-true _ _ g.0;
        first = x;
        second = y;
        ends = z;
        fine = sym (λ i. refusal (place_questions a.transactions a.next_event (a.placed (x i)) (x i) (y i))) ∙ g.1;
      }

  pointed-means-body : (r : Record) (t o end : ℕ) → record_at s at ≡ Whole r → is_point r.kind ≡ true
      → point_body a at (body r) (ends r) ≡ Ok (Pointed t o end) → PointRead a s at t o end
  pointed-means-body r t o end w k d =
      let g = point-body-given r (Pointed t o end) d in
      let same = g.2 in
      let x : event_in (body r) ≡ t = cc in
      let y : gap_in (body r) ≡ o = cc in
      let z : ends r ≡ end = cc in
      record {
        whole = r;
        there = w;
        kind = k;
        size = eqb-true _ _ g.0;
        first = x;
        second = y;
        ends = z;
        fine =
            sym (λ i. refusal (point_questions a.transactions a.next_event a.every_placed (a.store_read (x i)) (x i) (y i)))
            ∙ g.1;
      }

  -- what a record gives is a place or a point, by its kind
  record Given (r : Record) (y : MarkingStep) : Type 0 where
    of : (is_place r.kind ≡ true) × (place_body a at (body r) (ends r) ≡ Ok y)
        ⊎ (is_point r.kind ≡ true) × (point_body a at (body r) (ends r) ≡ Ok y)

  given : (r : Record) (y : MarkingStep) → body_step a at r.kind (body r) (ends r) ≡ Ok y → Given r y
  given r y d = go (is_place r.kind) (is_point r.kind) refl refl
    where
      go : (u v : Bool) → is_place r.kind ≡ u → is_point r.kind ≡ v → Given r y
      go true v p q = record { of = inl (p, sym (body-place a at r.kind (body r) (ends r) p) ∙ d) }
      go false true p q = record { of = inr (q, sym (body-point a at r.kind (body r) (ends r) q) ∙ d) }
      go false false p q = absurd (let e : ◌≡◌ {A = Stepped} (Err (refuse 22 at)) (Ok y) = sym (body-other a at r.kind (body r) (ends r) p q) ∙ d in cc)

  module _ (pointed : Bool) where
    pub placed-means : (t o end : ℕ) → step_at a pointed s at ≡ Ok (Placed t o end) → PlaceRead a s at t o end
    unfolding step_at
    placed-means t o end d = go (record_at s at) refl d
      where
        by-kind : (r : Record) → record_at s at ≡ Whole r → Given r (Placed t o end) → PlaceRead a s at t o end
        by-kind r w g = elim g.of [
          | inl p ↦ placed-means-body r t o end w p.0 p.1
          | inr p ↦ absurd (let e : point_given r ≡ Placed t o end = (point-body-given r _ p.1).2 in cc)
        ]

        go : (f : Found) → record_at s at ≡ f → step_on a pointed s at f ≡ Ok (Placed t o end) → PlaceRead a s at t o end
        go (Whole r) w k = by-kind r w (given r _ k)
        go Short w k = absurd (cc)
        go End w k = absurd (let e : Finished ≡ Placed t o end = (end-given _ a.every_placed pointed _ k).2 in cc)

    pub pointed-means : (t o end : ℕ) → step_at a pointed s at ≡ Ok (Pointed t o end) → PointRead a s at t o end
    unfolding step_at
    pointed-means t o end d = go (record_at s at) refl d
      where
        by-kind : (r : Record) → record_at s at ≡ Whole r → Given r (Pointed t o end) → PointRead a s at t o end
        by-kind r w g = elim g.of [
          | inl p ↦ absurd (let e : place_given r ≡ Pointed t o end = (place-body-given r _ p.1).2 in cc)
          | inr p ↦ pointed-means-body r t o end w p.0 p.1
        ]

        go : (f : Found) → record_at s at ≡ f → step_on a pointed s at f ≡ Ok (Pointed t o end) → PointRead a s at t o end
        go (Whole r) w k = by-kind r w (given r _ k)
        go Short w k = absurd (cc)
        go End w k = absurd (let e : Finished ≡ Pointed t o end = (end-given _ a.every_placed pointed _ k).2 in cc)

    -- where the walk ends, the file ends, every transaction is placed, and every store read has a point
    pub finished-means : step_at a pointed s at ≡ Ok Finished → (record_at s at ≡ End) × (a.every_placed ≡ true) × (pointed ≡ true)
    unfolding step_at
    finished-means d = go (record_at s at) refl d
      where
        not-whole : (r : Record) → Given r Finished → ⊥
        not-whole r g = elim g.of [
          | inl p ↦ (let e : place_given r ≡ Finished = (place-body-given r _ p.1).2 in cc)
          | inr p ↦ (let e : point_given r ≡ Finished = (point-body-given r _ p.1).2 in cc)
        ]

        go : (f : Found) → record_at s at ≡ f → step_on a pointed s at f ≡ Ok Finished
            → (record_at s at ≡ End) × (a.every_placed ≡ true) × (pointed ≡ true)
        go (Whole r) w k = absurd (not-whole r (given r _ k))
        go Short w k = absurd (cc)
        go End w k = (let e = end-given _ a.every_placed pointed _ k in (w, e.0, e.1))

-- ---- the opening

pub opening-none : (s : List ℕ) {u : Unit {0}} → ◌≡◌ {A = Checked} (Ok u) (said_at (opening s) 0) → opening s ≡ none
opening-none s {u = u} e = go (opening s) e
  where
    go : (o : Option ℕ) → ◌≡◌ {A = Checked} (Ok u) (said_at o 0) → o ≡ none
    go none d = refl
    go (some q) d = absurd (cc)
