-- The checker's rules: a marking is Accepted exactly if its outcomes and order are a justification and its points keep rule D.
-- Assumes nothing.
use Prim.Native.Nat.{ℕ, ◌≤◌}
use native.Mathlib.Nat.{min-eq_left, min-eq_right, max-eq_left, max-eq_right, lt_of_not-le, le_of_lt}
use native.Mathlib.Decide.{dec_le}
use mathlib.Core.Path.{◌≡◌, refl, sym, ap, ◌∙◌}
use mathlib.Core.Bool.{Bool, true, false, cond}
use mathlib.Core.List.{List, [], ◌∷◌, ◌++◌}
use mathlib.Core.Option.{Option, none, get_or}
use lib.ListN.{length, take, drop, take-append-drop}
use lib.Seq.{take-take}
use Rattle.lists.specs.Lists.{is_none, keep, latest}
use Rattle.events.specs.declared.event.Event.{Event}
use Rattle.events.specs.Events.{event_at, begins}
use Rattle.opacity.specs.Justification.{Place, is_of, before, written, contents, is_order, legal_over, legal, Justified}
use Rattle.opacity.specs.Marking.{Marking, place_of, others, between, no_writer_between, value_at_gap, A, B, C, D, E, Accepted, verdict, rule_holds}
use Rattle.opacity.specs.Verdicts.{AllHold, RuleD}
use Rattle.lists.proofs.ListLaws.{imp-e, imp-i, is_none-none, keep_append, latest-append}
use Rattle.opacity.proofs.VerdictLaws.{accepted-rules}

-- the places before t's are the first ones, and t's is not among them
take-before : (t : ℕ) (J : List Place) → take (place_of t J) J ≡ before t J
unfolding place_of before
take-before t [] = refl
take-before t (p ∷ J) = go (is_of t p) (take-before t J)
  where
    go : (b : Bool) → take (place_of t J) J ≡ before t J → take (length (cond b [] (p ∷ before t J))) (p ∷ J) ≡ cond b [] (p ∷ before t J)
    go true ih = refl
    go false ih = ap (λ (l : List Place). p ∷ l) ih

others-before : (t : ℕ) (J : List Place) → others t (before t J) ≡ before t J
unfolding others keep before
others-before t [] = refl
others-before t (p ∷ J) = go (is_of t p) refl (others-before t J)
  where
    go : (b : Bool) → is_of t p ≡ b → others t (before t J) ≡ before t J → others t (cond b [] (p ∷ before t J)) ≡ cond b [] (p ∷ before t J)
    go true e ih = refl
    go false e ih = rw (e, ih)

-- where no writer but t is placed between two gaps, the last writer but t is the same at both
module _ (h : List Event) (r t : ℕ) (J : List Place) where
  up_to : ℕ → Option ℕ
  up_to a = latest (written h r) (others t (take a J))

  longer : (a b : ℕ) → a ≤ b → latest (written h r) (others t (drop a (take b J))) ≡ none → up_to b ≡ up_to a
  unfolding up_to others
  longer a b l e =
      let c : take b J ≡ take a J ++ drop a (take b J) = sym (take-append-drop a (take b J)) ∙ ap (λ (x : List Place). x ++ drop a (take b J)) (take-take a b J l) in
      ap (λ (x : List Place). latest (written h r) (others t x)) c
      ∙ rw (keep_append, latest-append, e)

  agree : (a b : ℕ) → latest (written h r) (others t (between a b J)) ≡ none → up_to a ≡ up_to b
  unfolding between
  agree a b e =
      elim (dec_le a b) [
        | yes l ↦ sym (longer a b l (rw (min-eq_left l, max-eq_right l) at e))
        | no u ↦
            let l : b ≤ a = le_of_lt (lt_of_not-le u) in
            longer b a l (rw (min-eq_right l, max-eq_left l) at e)
      ]

  at_gap : (start : ℕ → ℕ) (g : ℕ) → is_none (latest (written h r) (others t (between g (place_of t J) J))) ≡ true
      → get_or (latest (written h r) (others t (take g J))) (start r) ≡ contents start h (before t J) r
  unfolding contents up_to
  at_gap start g n =
      ap (λ (o : Option ℕ). get_or o (start r))
      (agree g (place_of t J) (is_none-none _ n) ∙ ap (λ (l : List Place). latest (written h r) l) (ap (others t) (take-before t J) ∙ others-before t J))

-- rule D given, rule E says that the read is legal
module _ (start : ℕ → ℕ) (h : List Event) (J : List Place) (g i : ℕ) (d : no_writer_between h J g i ≡ true) where
  pub gap-legal : value_at_gap start h J g i ≡ true → legal start h J i ≡ true
  unfolding no_writer_between value_at_gap legal legal_over
  gap-legal e = imp-i _ _ (λ s. rw (← at_gap h (event_at h i).register (event_at h i).transaction J start g (imp-e _ _ d s)) (imp-e _ _ e s))

  pub legal-gap : legal start h J i ≡ true → value_at_gap start h J g i ≡ true
  unfolding no_writer_between value_at_gap legal legal_over
  legal-gap e = imp-i _ _ (λ s. rw (at_gap h (event_at h i).register (event_at h i).transaction J start g (imp-e _ _ d s)) (imp-e _ _ e s))

module _ (start : ℕ → ℕ) (h : List Event) (m : Marking) where
  pub accepted-justified : is_order (begins h) m.places ≡ true → verdict start h m ≡ Accepted → Justified start h m.places × RuleD h m
  unfolding rule_holds
  accepted-justified o e =
      let k = (accepted-rules start h m).0 e in (
        record {
          order = o;
          outcomes = k A;
          real_time = k B;
          own = k C;
          store = λ i l. gap-legal start h m.places _ i (k D i l) (k E i l);
        },
        k D,
      )

  pub justified-accepted : Justified start h m.places → RuleD h m → verdict start h m ≡ Accepted
  unfolding rule_holds
  justified-accepted j d = (accepted-rules start h m).1 go
    where
      go : AllHold start h m
      go A = j.outcomes
      go B = j.real_time
      go C = j.own
      go D = d
      go E = λ i l. legal-gap start h m.places _ i (d i l) (j.store i l)
