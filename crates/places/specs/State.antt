-- Vocabulary between crates: it need not be believed, the public contracts end in the paper's definitions.
-- The state of the search: its places, when it is sound, and what placing a transaction makes of it.
-- Assumes nothing.
use Rattle.std.specs.Prelude.{◌≡◌, true, ℕ, ◌+◌, ◌*◌, ◌-◌, ◌^◌, ◌≤◌, ◌<◌, List, [], ◌∷◌, ◌++◌, get_or}
use Rattle.std.specs.Int.Count.{ones}
use Rattle.opacity.specs.Justification.{before, outcome, is_order}
use Rattle.places.specs.declared.state.Search.{Search}
use Rattle.places.specs.declared.state.Spot.{Spot}
use Rattle.lists.specs.Bits.{bit_at}
use Rattle.places.specs.Places.{codes_of, decode}

-- the places filled, and how many there will be
abbrev pub placed_of : Search → List ℕ
placed_of s = codes_of s.filled s.placed

abbrev pub whole : Search → ℕ
whole s = s.filled + ones s.unplaced

-- n places, each with the code of one of at most ten transactions
pub record Coded (n placed : ℕ) : Type 0 where
  pub few : n ≤ 10
  pub codes : (i : ℕ) → i < n → get_or (codes_of n placed) i 0 < 20

-- a state of at most ten transactions, each code in it that of one of them
pub record Sound (s : Search) : Type 0 where
  pub few : s.unplaced < 1024
  pub fit : whole s ≤ 10
  pub led : 2 ^ (s.filled * 5) ≤ s.placed
  pub room : s.placed < 2 ^ (s.filled * 5 + 1)
  pub coded : Coded s.filled s.placed

-- t may be placed
pub record Placeable (s : Search) (t : ℕ) : Type 0 where
  pub sound : Sound s
  pub is_in : bit_at t s.unplaced ≡ 1

-- the set c is part of the set u
pub record Within (u c : ℕ) : Type 0 where
  pub few : c ≤ u
  pub is_in : (k : ℕ) → bit_at k c ≡ 1 → bit_at k u ≡ 1

-- r is part of the set, and has all of it that pass
pub record Keeps (Passes : ℕ → Type 0) (set r : ℕ) : Type 0 where
  pub within : Within set r
  pub has : (k : ℕ) → bit_at k set ≡ 1 → Passes k → bit_at k r ≡ 1

-- r is s with t placed next
pub record Extends (s : Search) (t o : ℕ) (r : Search) : Type 0 where
  pub sound : Sound r
  pub rest : r.unplaced ≡ s.unplaced - 2 ^ t
  pub total : whole r ≡ whole s
  pub places : placed_of r ≡ placed_of s ++ ((t * 2 + o) ∷ [])

-- a number that holds an order of n at most ten transactions
pub record Ordered (n order : ℕ) : Type 0 where
  pub few : n ≤ 10
  pub is-order : is_order n (decode (codes_of n order)) ≡ true

-- p is the place of t in such an order: what stands before it, and its outcome
pub record PlaceOf (n order t : ℕ) (p : Spot) : Type 0 where
  pub coded : Coded p.filled p.placed
  pub places : decode (codes_of p.filled p.placed) ≡ before t (decode (codes_of n order))
  pub its-outcome : p.committed ≡ outcome t (decode (codes_of n order))
