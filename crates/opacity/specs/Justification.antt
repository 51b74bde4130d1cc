-- To be believed: justifications (the paper, "Justification"). The values before any writer are a parameter, `start`.
-- Assumes nothing.
use Rattle.std.specs.Prelude.{ℕ, ◌<◌, ◌≡◌, Bool, true, false, not, cond, List, [], ◌∷◌, ◌++◌, eqb, ltb, length}
use Rattle.std.proofs.Math.Option.{Option, none, get_or}
use Rattle.lists.specs.Lists.{◌and◌, ◌implies◌, any, all, latest, every}
use Rattle.events.specs.declared.event.Event.{Event}
use Rattle.events.specs.Events.{event_at, begins}
use Rattle.opacity.specs.Transactions.{precedes, status, allows, last_write, is_store_read, own_right}

-- 0 in every register before any writer
abbrev pub zeros : ℕ → ℕ
zeros r = 0

-- A place of an order: a transaction with its outcome.
pub record Place : Type 0 where
  pub transaction : ℕ
  pub committed : Bool

abbrev pub is_of : ℕ → Place → Bool
is_of t p = eqb p.transaction t

unfoldable pub placed : ℕ → List Place → Bool
placed t J = any (is_of t) J

-- the places before that of t
unfoldable pub before : ℕ → List Place → List Place
before t [] = []
before t (p ∷ ps) = cond (is_of t p) [] (p ∷ before t ps)

-- the outcome of t
unfoldable pub outcome : ℕ → List Place → Bool
outcome t J = any (λ p. is_of t p and p.committed) J

-- a writer of r is a place with outcome committed and a write to r; its last one counts
unfoldable pub written : List Event → ℕ → Place → Option ℕ
written h r p = cond p.committed (last_write h p.transaction r) none

-- what r holds after the places P: the value of the last writer, or the start value
unfoldable pub contents : (ℕ → ℕ) → List Event → List Place → ℕ → ℕ
contents start h P r = get_or (latest (written h r) P) (start r)

-- each place has a transaction of the history, none has two places, and each has one
unfoldable pub distinct : List Place → Bool
distinct [] = true
distinct (p ∷ ps) = not (placed p.transaction ps) and distinct ps

unfoldable pub is_order : ℕ → List Place → Bool
is_order n J = all (λ p. ltb p.transaction n) J and distinct J and every (λ t. placed t J) n

-- the same of one transaction: t has a place in J, and no other
pub record OnePlace (t : ℕ) (J : List Place) : Type 0 where
  pub front : List Place
  pub here : Place
  pub back : List Place
  pub cut : J ≡ front ++ here ∷ back
  pub names : here.transaction ≡ t
  pub not-before : placed t front ≡ false
  pub not_behind : placed t back ≡ false

-- the outcome of t is allowed
unfoldable pub outcome_kept : List Event → List Place → ℕ → Bool
outcome_kept h J t = allows (status h t) (outcome t J)

-- every transaction that precedes u is in P
unfoldable pub preceded : List Event → List Place → ℕ → Bool
preceded h P u = every (λ t. precedes h t u implies placed t P) (begins h)

-- event i, if it is a store read, returns what its register holds after the places P
unfoldable pub legal_over : (ℕ → ℕ) → List Event → List Place → ℕ → Bool
legal_over start h P i = is_store_read h i implies eqb (event_at h i).value (contents start h P (event_at h i).register)

unfoldable pub real_time_kept : List Event → List Place → ℕ → Bool
real_time_kept h J u = preceded h (before u J) u

unfoldable pub legal : (ℕ → ℕ) → List Event → List Place → ℕ → Bool
legal start h J i = legal_over start h (before (event_at h i).transaction J) i

-- The order of places J justifies the history h.
pub record Justified (start : ℕ → ℕ) (h : List Event) (J : List Place) : Type 0 where
  pub order : is_order (begins h) J ≡ true
  pub outcomes : (t : ℕ) → t < begins h → outcome_kept h J t ≡ true
  pub real_time : (u : ℕ) → u < begins h → real_time_kept h J u ≡ true
  pub own : (i : ℕ) → i < length h → own_right h i ≡ true
  pub store : (i : ℕ) → i < length h → legal start h J i ≡ true

-- The same as a test.
unfoldable pub justifies : (ℕ → ℕ) → List Event → List Place → Bool
justifies start h J =
    is_order (begins h) J
    and every (outcome_kept h J) (begins h)
    and every (real_time_kept h J) (begins h)
    and every (own_right h) (length h)
    and every (legal start h J) (length h)
