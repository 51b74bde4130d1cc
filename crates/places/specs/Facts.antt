-- Vocabulary between crates: it need not be believed, the public contracts end in the paper's definitions.
-- What the search is told of the transactions: a table with a row for each, and row 10 for the end of an order. Of a row: at 0 the
-- transactions that must come before, one bit each; at 1 the outcome, 0 aborted, 1 committed, 2 either; at 2 the registers read from the
-- store, one bit each; at 3 + r what the store reads of r return, and at 35 + r the last write to r, each as the value plus 1, with 0 for
-- none.
-- Assumes nothing.
use Rattle.std.specs.Prelude.{ℕ, ◌+◌, ◌<◌, ◌≡◌, List, [], length, get_or, set}
use Rattle.std.specs.Int.Bits.{bit_and}

-- the row of the end, and the set of all registers
abbrev pub end_row : ℕ
end_row = 10

abbrev pub all_registers : ℕ
all_registers = 4294967295

-- a number of a row, and the rows with one number put
abbrev pub fact : List (List ℕ) → ℕ → ℕ → ℕ
fact f t k = get_or (get_or f t []) k 0

abbrev pub put : List (List ℕ) → ℕ → ℕ → ℕ → List (List ℕ)
put f t k v = set f t (set (get_or f t []) k v)

abbrev pub after_of : List (List ℕ) → ℕ → ℕ
after_of f t = fact f t 0

abbrev pub allowed_of : List (List ℕ) → ℕ → ℕ
allowed_of f t = fact f t 1

abbrev pub reads_of : List (List ℕ) → ℕ → ℕ
reads_of f t = fact f t 2

-- those of the registers asked about that t reads
abbrev pub reads_asked : List (List ℕ) → ℕ → ℕ → ℕ
reads_asked f asked t = bit_and (reads_of f t) asked

abbrev pub required_of : List (List ℕ) → ℕ → ℕ → ℕ
required_of f t r = fact f t (3 + r)

abbrev pub written_of : List (List ℕ) → ℕ → ℕ → ℕ
written_of f t r = fact f t (35 + r)

-- a table of eleven rows of 72 numbers, of which the first 67 are used
pub record Shaped (f : List (List ℕ)) : Type 0 where
  pub rows : length f ≡ 11
  pub row : (t : ℕ) → t < 11 → length (get_or f t []) ≡ 72
