-- Vocabulary between crates: it need not be believed, the public contracts end in the paper's definitions.
-- Orders of places in arrays, and the rules A and B by tables.
-- Assumes nothing.
use Rattle.std.specs.Prelude.{ℕ, ◌≤◌, ◌<◌, ◌≡◌, Bool, true, not, cond, List, Option, None, eqb, ltb, length, get_or}
use Rattle.lists.specs.Lists.{◌implies◌, first, every}
use Rattle.lists.specs.Filled.{Filled}
use Rattle.links.specs.declared.tables.Rank.{Rank}
use Rattle.links.specs.declared.tables.Rank.TheVariants.{Live, Pending, Aborted, Committed}
use Rattle.links.specs.declared.tables.Transaction.{Transaction}
use Rattle.links.specs.Tables.{blank, earlier}
use Rattle.links.specs.Writes.{given}
use Rattle.rules.specs.declared.places.Writer.{Writer}

-- the first b places hold transactions that have a slot, each once
pub record Apart (order : List ℕ) (b : ℕ) : Type 0 where
  pub few : b ≤ 64
  pub low : (k : ℕ) → k < b → get_or order k 0 < 64
  pub distinct : (j k : ℕ) → j < b → k < b → get_or order j 0 ≡ get_or order k 0 → j ≡ k

-- the place of each of the transactions at the first k places
pub record Inverse (order : List ℕ) (k : ℕ) (place : List ℕ) : Type 0 where
  pub size : length place ≡ 64
  pub low : (t : ℕ) → get_or place t 0 < 64
  pub holds : (j : ℕ) → j < k → get_or place (get_or order j 0) 0 ≡ j

-- what a transaction writes, and nothing
abbrev pub writer : Transaction → Writer
writer t = record { last = t.written; registers = t.registers }

abbrev pub nothing : Writer
nothing = record { last = None; registers = 0 }

-- what the transaction at place k writes, nothing where that is not committed
abbrev pub writer_at : List ℕ → List ℕ → List Transaction → ℕ → Writer
writer_at order outcomes tables k = cond (eqb (get_or outcomes k 0) 1) (writer (get_or tables (get_or order k 0) blank)) nothing

-- the same as a table of the first b places, nothing past them
abbrev pub Writers : List ℕ → List ℕ → List Transaction → ℕ → List Writer → Type 0
Writers order outcomes tables b table = Filled 64 nothing (writer_at order outcomes tables) b table

-- the first number below n that fails
unfoldable pub broken : (ℕ → Bool) → ℕ → Option ℕ
broken p n = given (first (λ i. not (p i)) n)

-- does the rank allow the outcome
abbrev pub allows_by : Rank → Bool → Bool
allows_by Committed c = c
allows_by Pending c = true
allows_by Aborted c = not c
allows_by Live c = not c

-- rule A at t
unfoldable pub outcome_by : List Transaction → List ℕ → List ℕ → ℕ → Bool
outcome_by tables place outcomes t = allows_by (get_or tables t blank).rank (eqb (get_or outcomes (get_or place t 0) 0) 1)

-- t, if it ended before u began, is placed before u
unfoldable pub pair_by : List Transaction → List ℕ → ℕ → ℕ → Bool
pair_by tables place u t =
    earlier (get_or tables t blank).ended (get_or tables u blank).began implies ltb (get_or place t 0) (get_or place u 0)

-- rule B at u
unfoldable pub real_time_by : List Transaction → List ℕ → ℕ → ℕ → Bool
real_time_by tables place b u = every (pair_by tables place u) b
