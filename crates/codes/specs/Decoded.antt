-- To be believed: a number taken apart, as a caller does it (include/sendoshi.h).
-- Assumes nothing.
use Rattle.std.specs.Prelude.{ℕ, ◌-◌, ◌/◌, ◌%◌, Bool, true, false, cond, List, [], ◌∷◌, eqb, ltb}
use Rattle.lists.specs.Lists.{◌or◌}
use Rattle.events.specs.Said.{Said, done, nothing, faulted, broken, at_event, at_byte}

abbrev pub code_of : ℕ → ℕ
code_of n = n / 4294967296

abbrev pub place_of : ℕ → ℕ
place_of n = n % 4294967296

-- the two numbers in a place
abbrev pub upper_of : ℕ → ℕ
upper_of p = p / 65536

abbrev pub lower_of : ℕ → ℕ
lower_of p = p % 65536

-- What a place holds where the call is done, by the call: nothing (scan, check and the next note), one number (write, find and the
-- counts), two (read: the count and the edition; straighten: the length and how many were moved), four (tally).
abbrev pub no_value : ℕ → List ℕ
no_value p = []

abbrev pub one_value : ℕ → List ℕ
one_value p = p ∷ []

abbrev pub two_values : ℕ → List ℕ
two_values p = lower_of p ∷ upper_of p ∷ []

abbrev pub four_values : ℕ → List ℕ
four_values p = p / 16777216 ∷ p / 65536 % 256 ∷ p / 256 % 256 ∷ p % 256 ∷ []

-- Whether a question is asked of a file, so that its place is a byte: all of read, none of most; of check and straighten 1, 2 and 21 to
-- 29, the marking's, where 3 to 17 are asked of edition and start values, events and buffers.
abbrev pub always : ℕ → Bool
always q = true

abbrev pub never : ℕ → Bool
never q = false

unfoldable pub of_marking : ℕ → Bool
of_marking q = ltb q 3 or ltb 20 q

abbrev pub refused_by : Bool → ℕ → ℕ → Said
refused_by true q p = at_byte q p
refused_by false q p = at_event q p

-- what code and place say, by what the call gives and by where its questions' places are bytes
abbrev pub by_parts : (ℕ → List ℕ) → (ℕ → Bool) → ℕ → ℕ → Said
by_parts values is_byte code place =
    cond (eqb code 0) (done (values place))
    (cond (ltb code 100) (refused_by (is_byte code) code place)
    (cond (eqb code 100) nothing
    (cond (ltb code 200) (faulted place (code - 100))
    (broken (code - 200) (upper_of place) (lower_of place)))))

unfoldable pub decoded : (ℕ → List ℕ) → (ℕ → Bool) → ℕ → Said
decoded values is_byte n = by_parts values is_byte (code_of n) (place_of n)
