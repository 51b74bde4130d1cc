-- Tests joined by `and`, `or` and `implies`, as `grind` takes them: what is left once the first is known.
-- Assumes nothing.
use mathlib.Core.Path.{◌≡◌, refl}
use mathlib.Core.Bool.{Bool, true, false, true≢false, false≢true}
use Rattle.std.proofs.lemmas.Bool.Decides.{nat_tests}
use Rattle.lists.specs.Lists.{◌and◌, ◌or◌, ◌implies◌}

pub or_at_true : (a b : Bool) → a ≡ true → (a or b) ≡ true
unfolding ◌or◌
or_at_true true b e = refl
or_at_true false b e = absurd (false≢true e)

pub or_at_false : (a b : Bool) → a ≡ false → (a or b) ≡ b
unfolding ◌or◌
or_at_false true b e = absurd (true≢false e)
or_at_false false b e = refl

pub and_at_true : (a b : Bool) → a ≡ true → (a and b) ≡ b
unfolding ◌and◌
and_at_true true b e = refl
and_at_true false b e = absurd (false≢true e)

pub and_at_false : (a b : Bool) → a ≡ false → (a and b) ≡ false
unfolding ◌and◌
and_at_false true b e = absurd (true≢false e)
and_at_false false b e = refl

pub implies_at_true : (a b : Bool) → a ≡ true → (a implies b) ≡ b
unfolding ◌implies◌
implies_at_true true b e = refl
implies_at_true false b e = absurd (false≢true e)

pub implies_at_false : (a b : Bool) → a ≡ false → (a implies b) ≡ true
unfolding ◌implies◌
implies_at_false true b e = absurd (true≢false e)
implies_at_false false b e = refl

pub ruleset joined = (nat_tests, or_at_true, or_at_false, and_at_true, and_at_false, implies_at_true, implies_at_false)
