-- Laws of the questions put to a call.
-- Assumes nothing.
use Rattle.std.specs.Prelude.{Ok, Err}
use Prim.Native.Nat.{ℕ}
use native.Mathlib.Omega.{arith}
use mathlib.Core.Path.{◌≡◌, refl, sym, ap, ◌∙◌}
use mathlib.Core.Bool.{Bool, true, false}
use mathlib.Core.List.{List, [], ◌∷◌}
use mathlib.Core.Option.{Option, get_or}
use Rattle.event_log.specs.Checked.{Checked}
use Rattle.events.specs.declared.refusal.Refusal.{Refusal}
use Rattle.events.specs.Said.{refuse}
use Rattle.events.specs.Questions.{Question, ask, refusal}
use Rattle.event_log.specs.Answer.{refused_with}
use Rattle.events.proofs.QuestionLaws.{ask-yes, ask-no}
use Rattle.event_log.specs.Calls.{asked_of, then_checked}

-- a refusal is not an answer that lets pass
pub refused-readable : (r : Refusal) → ◌≡◌ {A = Checked} (Err r) (Ok tt) → ⊥
refused-readable r x = let z : ◌≡◌ {A = ℕ} 0 1 = cc in omega arith

-- ---- questions whose event is the count

pub asked-none : (count : ℕ) → asked_of count [] ≡ Ok tt
unfolding asked_of refusal
asked-none count = refl

pub asked-yes : (count n : ℕ) (b : Bool) (qs : List Question) → b ≡ true → asked_of count (ask n b ∷ qs) ≡ asked_of count qs
unfolding asked_of
asked-yes count n b qs e = ap (λ (o : Option ℕ). get_or (refused_with count o) (Ok tt)) (ask-yes n b qs e)

pub asked-no : (count n : ℕ) (b : Bool) (qs : List Question) → b ≡ false → asked_of count (ask n b ∷ qs) ≡ Err (refuse n count)
unfolding asked_of
asked-no count n b qs e = ap (λ (o : Option ℕ). get_or (refused_with count o) (Ok tt)) (ask-no n b qs e)

-- where none refuses, the first says yes and none of the others refuses
pub asked-e : (count n : ℕ) (b : Bool) (qs : List Question) → asked_of count (ask n b ∷ qs) ≡ Ok tt → (b ≡ true) × (asked_of count qs ≡ Ok tt)
asked-e count n b qs x = go b refl
  where
    go : (y : Bool) → b ≡ y → (b ≡ true) × (asked_of count qs ≡ Ok tt)
    go true e = (e, sym (asked-yes count n b qs e) ∙ x)
    go false e = absurd (refused-readable (refuse n count) (sym (asked-no count n b qs e) ∙ x))

-- ---- groups, one after the other

pub then-readable : {a : Checked} (b : Checked) → a ≡ Ok tt → then_checked a b ≡ b
unfolding then_checked
then-readable b e = rw e

pub then-refused : {a : Checked} {r : Refusal} (b : Checked) → a ≡ Err r → then_checked a b ≡ Err r
unfolding then_checked
then-refused b x = rw x

pub then-e : (a b : Checked) → then_checked a b ≡ Ok tt → (a ≡ Ok tt) × (b ≡ Ok tt)
unfolding then_checked
then-e (Ok tt) b x = (refl, x)
then-e (Err r) b x = absurd (refused-readable r x)

pub then-then : (a b c : Checked) → then_checked (then_checked a b) c ≡ then_checked a (then_checked b c)
unfolding then_checked
then-then (Ok tt) b c = refl
then-then (Err r) b c = refl
