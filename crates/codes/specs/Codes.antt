-- To be believed: every answer as one number, code × 2^32 + place (include/sendoshi.h). The code is 0 for done, 1 to 99 for the question
-- that says no, 100 for none, 101 to 104 for the causes, 201 to 205 for the rules A to E. One definition serves all answers: it is given
-- what an answer says.
-- Assumes nothing.
use Rattle.std.specs.Prelude.{ℕ, ◌+◌, ◌*◌, ◌≤◌, ◌<◌, List, [], ◌∷◌}
use Rattle.events.specs.Said.{Said, done, nothing, faulted, broken, at_event, at_byte}

unfoldable pub packed : ℕ → ℕ → ℕ
packed code place = code * 4294967296 + place

-- the largest place, 2^32 − 1
abbrev pub most : ℕ
most = 4294967295

-- a place that holds two numbers, and a half of one that holds two itself
unfoldable pub halves : ℕ → ℕ → ℕ
halves high low = high * 65536 + low

unfoldable pub pair : ℕ → ℕ → ℕ
pair high low = high * 256 + low

-- The place of what a call gives: of one number that number; of two, such as a length and how many were moved, the first in the lower
-- half; of a tally's four a byte each, the first uppermost. (No call gives three.)
unfoldable pub place : List ℕ → ℕ
place [] = 0
place (n ∷ []) = n
place (low ∷ high ∷ []) = halves high low
place (a ∷ b ∷ c ∷ []) = 0
place (a ∷ b ∷ c ∷ d ∷ vs) = halves (pair a b) (pair c d)

unfoldable pub coded : Said → ℕ
coded (done vs) = packed 0 (place vs)
coded nothing = packed 100 0
coded (faulted e w) = packed (100 + w) e
coded (broken r e t) = packed (200 + r) (halves e t)
coded (at_event q e) = packed q e
coded (at_byte q b) = packed q b

-- ---- what is known of an answer before it is coded: each of its numbers stands where it is put

pub record Within (low high n : ℕ) : Type 0 where
  pub least : low ≤ n
  pub most : n ≤ high

pub record Halves (high low : ℕ) : Type 0 where
  pub upper : high < 65536
  pub lower : low < 65536

pub record Quarters (a b c d : ℕ) : Type 0 where
  pub first : a < 256
  pub second : b < 256
  pub third : c < 256
  pub fourth : d < 256

abbrev pub Placed : List ℕ → Type 0
Placed [] = Unit {0}
Placed (n ∷ []) = n ≤ most
Placed (low ∷ high ∷ []) = Halves high low
Placed (a ∷ b ∷ c ∷ []) = Unit {0}
Placed (a ∷ b ∷ c ∷ d ∷ vs) = Quarters a b c d

abbrev pub Known : Said → Type 0
Known (done vs) = Placed vs
Known nothing = Unit {0}
Known (faulted e w) = Within 1 4 w × (e ≤ most)
Known (broken r e t) = Within 1 5 r × Halves e t
Known (at_event q e) = Within 1 99 q × (e ≤ most)
Known (at_byte q b) = Within 1 99 q × (b ≤ most)
