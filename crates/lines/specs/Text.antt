-- To be believed: text as bytes: words, numbers in base ten, and what stands in a buffer after a text is put there.
-- Assumes nothing.
use Rattle.std.specs.Prelude.{ℕ, zero, suc, ◌+◌, ◌/◌, ◌≤◌, ◌≡◌, List, [], ◌∷◌, ◌++◌, ltb, length, take}
use Prim.Native.Char.{code}
use Prim.Native.String.{String, [] as nothing, ◌∷◌ as ◌then◌}
use Rattle.io.specs.Digits.{last_digits}
use Rattle.records.specs.Bytes.{pick, placed}

-- the bytes of a text in ASCII
abbrev pub text : String → List ℕ
text nothing = []
text (c then s) = code c ∷ text s

-- how many digits a number has in base ten, counted in at most `most` steps after the first
abbrev pub size : ℕ → ℕ → ℕ
size zero n = 1
size (suc most) n = pick (ltb n 10) 1 (suc (size most (n / 10)))

-- a number in base ten, with no zeros in front
unfoldable pub decimal : ℕ → List ℕ
decimal n = last_digits 10 (size n n) n

-- words, and the number after them
abbrev pub field : String → ℕ → List ℕ
field words n = text words ++ decimal n

-- a run of at most `most` bytes is put into a buffer at a place, and `next` is the place behind it
pub record Put (most : ℕ) (before after : List ℕ) (at : ℕ) (run : List ℕ) (next : ℕ) : Type 0 where
  pub filled : after ≡ placed before at run
  pub ends : next ≡ at + length run
  pub short : length run ≤ most

-- a run of at most `most` bytes is put behind a text that has room for 343: what goes beyond them is left out
pub record Adds (most : ℕ) (before after run : List ℕ) : Type 0 where
  pub filled : after ≡ take 343 (before ++ run)
  pub short : length run ≤ most
