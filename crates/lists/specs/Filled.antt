-- Vocabulary between crates: it need not be believed, the public contracts end in the paper's definitions.
-- Tables that are filled from the front.
-- Assumes nothing.
use Rattle.std.specs.Prelude.{ℕ, ◌≤◌, ◌<◌, ◌≡◌, cond, List, ltb, length, get_or}

-- a table of so many entries, of which the first n are given by f, and all others are d
pub record Filled {A : Type 0} (many : ℕ) (d : A) (f : ℕ → A) (n : ℕ) (table : List A) : Type 0 where
  pub size : length table ≡ many
  pub holds : (i : ℕ) → get_or table i d ≡ cond (ltb i n) (f i) d

-- a table whose first n entries are given by f
pub record Front {A : Type 0} (d : A) (f : ℕ → A) (n : ℕ) (table : List A) : Type 0 where
  pub room : n ≤ length table
  pub holds : (i : ℕ) → i < n → get_or table i d ≡ f i
