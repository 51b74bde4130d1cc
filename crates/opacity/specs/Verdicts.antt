-- To be believed: the words of the theorems about verdicts (the paper, "Marking and checker").
-- Assumes nothing.
use Rattle.std.specs.Prelude.{ℕ, ◌≤◌, ◌<◌, ◌≡◌, ◌⊎◌, true, false, List, ◌∷◌, ◌++◌, length}
use Rattle.events.specs.declared.event.Event.{Event}
use Rattle.events.specs.Events.{event_at, is_begin}
use Rattle.opacity.specs.Transactions.{writes}
use Rattle.opacity.specs.Justification.{Place, zeros}
use Rattle.opacity.specs.Marking.{Marking, Rule, D, place_of, rule_number, put_to, rule_holds}

-- the rule holds wherever it is put to, and all five do
abbrev pub Holds : (ℕ → ℕ) → List Event → Marking → Rule → Type 0
Holds start h m r = (k : ℕ) → k < put_to h r → rule_holds start h m r k ≡ true

abbrev pub AllHold : (ℕ → ℕ) → List Event → Marking → Type 0
AllHold start h m = (r : Rule) → Holds start h m r

-- k is where the first broken rule is broken lowest: nothing lower breaks it, and the rules before it hold
pub record FirstBroken (start : ℕ → ℕ) (h : List Event) (m : Marking) (r : Rule) (k : ℕ) : Type 0 where
  pub inside : k < put_to h r
  pub broken : rule_holds start h m r k ≡ false
  pub lowest : (j : ℕ) → j < k → rule_holds start h m r j ≡ true
  pub earlier : (q : Rule) → rule_number q < rule_number r → Holds start h m q

-- i is the last event of t
pub record LastOf (h : List Event) (t i : ℕ) : Type 0 where
  pub inside : i < length h
  pub names : (event_at h i).transaction ≡ t
  pub later : (j : ℕ) → i < j → j < length h → (event_at h j).transaction ≡ t → ⊥

-- i is the event that begins t
pub record BeginOf (h : List Event) (t i : ℕ) : Type 0 where
  pub inside : i < length h
  pub begins : is_begin (event_at h i) ≡ true
  pub names : (event_at h i).transaction ≡ t

-- rule D holds; it looks at no start value
abbrev pub RuleD : List Event → Marking → Type 0
RuleD h m = Holds zeros h m D

-- the place q lies between the gap g and the place p
abbrev pub Between : ℕ → ℕ → ℕ → Type 0
Between g p q = ((g ≤ q) × (q < p)) ⊎ ((p < q) × (q < g))

-- Rule D is broken at the store read i with its point at gap g: between the point and the reader stands a place of another transaction that
-- is committed and writes the register.
pub record WriterBetween (h : List Event) (J : List Place) (g i : ℕ) : Type 0 where
  pub front : List Place
  pub here : Place
  pub back : List Place
  pub cut : J ≡ front ++ here ∷ back
  pub between : Between g (place_of (event_at h i).transaction J) (length front)
  pub other : here.transaction ≡ (event_at h i).transaction → ⊥
  pub committed : here.committed ≡ true
  pub event : ℕ
  pub inside : event < length h
  pub write : writes h here.transaction (event_at h i).register event ≡ true
