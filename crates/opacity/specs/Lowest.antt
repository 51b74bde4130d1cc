-- To be believed: the lowest justification (the paper, "Finder"), down to `LowestJustified`; what follows it is how it is computed.
-- Assumes nothing.
use Rattle.std.specs.Prelude.{ℕ, zero, suc, ◌<◌, ◌≡◌, ◌⊎◌, Bool, true, false, not, cond, List, [], ◌∷◌, ◌++◌, eqb, ltb, length}
use Rattle.std.proofs.Math.Option.{Option, none, some}
use Rattle.lists.specs.Lists.{◌and◌, ◌or◌, ◌implies◌, or_else, every, lowest}
use Rattle.events.specs.declared.event.Event.{Event}
use Rattle.events.specs.Events.{event_at, begins}
use Rattle.opacity.specs.Transactions.{status, allows, own_right}
use Rattle.opacity.specs.Justification.{Place, placed, preceded, legal_over, Justified}

-- the comparison: place by place, lower transaction first, at equal transaction aborted first
unfoldable pub below : Place → Place → Bool
below p q = ltb p.transaction q.transaction or eqb p.transaction q.transaction and not p.committed and q.committed

unfoldable pub same_place : Place → Place → Bool
same_place p q = eqb p.transaction q.transaction and cond p.committed q.committed (not q.committed)

-- J is lower than K: at the first place where they differ, J's is below K's (or J ends there)
unfoldable pub lower : List Place → List Place → Bool
lower [] [] = false
lower [] (q ∷ K) = true
lower (p ∷ J) [] = false
lower (p ∷ J) (q ∷ K) = below p q or same_place p q and lower J K

-- J is the lowest justification: any other is above it
pub record LowestJustified (start : ℕ → ℕ) (h : List Event) (J : List Place) : Type 0 where
  pub justifies : Justified start h J
  pub least : (K : List Place) → Justified start h K → (lower J K ≡ true) ⊎ (J ≡ K)

-- ---- How it is computed. Nobody need believe it: `lowest-some` and `lowest-none` (proofs/Theorems) say that `lowestOf` is the above.

-- p may come right after the places P: its transaction is one of the history's and has no place yet, its outcome is allowed, all that
-- precede it are placed, and its store reads are legal
unfoldable pub fits : (ℕ → ℕ) → List Event → List Place → Place → Bool
fits start h P p =
    ltb p.transaction (begins h)
    and not (placed p.transaction P)
    and allows (status h p.transaction) p.committed
    and preceded h P p.transaction
    and every (λ i. eqb (event_at h i).transaction p.transaction implies legal_over start h P i) (length h)

-- each of the places S may come next in its turn, after P and those before it
unfoldable pub follows : (List Place → Place → Bool) → List Place → List Place → Bool
follows ok P [] = true
follows ok P (p ∷ S) = ok P p and follows ok (P ++ (p ∷ [])) S

abbrev pub place : ℕ → Bool → Place
place t c = record { transaction = t; committed = c }

-- the answer of the lowest place of a transaction below n that has one: transactions rising, each aborted and then committed
unfoldable pub lowest_place : {B : Type 0} → (Place → Option B) → ℕ → Option B
lowest_place f n = lowest (λ t. let c = f (place t true) in or_else (f (place t false)) c) n

-- the lowest order that goes on after the places P by `left` places more, each of which `ok` lets come next
unfoldable pub continued : (List Place → Place → Bool) → ℕ → ℕ → List Place → Option (List Place)
continued ok n zero P = some P
continued ok n (suc left) P = lowest_place (λ p. let r = continued ok n left (P ++ (p ∷ [])) in cond (ok P p) r none) n

unfoldable pub lowest_of : (ℕ → ℕ) → List Event → Option (List Place)
lowest_of start h =
    let r = continued (fits start h) (begins h) (begins h) [] in
    cond (every (own_right h) (length h)) r none

-- J goes place by place: own reads are right, each place may come next after those before it, and there are as many as transactions
pub record PlaceByPlace (start : ℕ → ℕ) (h : List Event) (J : List Place) : Type 0 where
  pub own : (i : ℕ) → i < length h → own_right h i ≡ true
  pub turns : follows (fits start h) [] J ≡ true
  pub whole : length J ≡ begins h
