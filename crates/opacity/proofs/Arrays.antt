-- Laws of the order that stands in two arrays.
-- Assumes nothing.
use Prim.Native.Nat.{ℕ, zero, suc}
use native.Mathlib.Omega.{arith}
use mathlib.Core.Path.{◌≡◌, refl}
use mathlib.Core.List.{List, [], ◌∷◌}
use lib.ListN.{length, length-append}
use Rattle.opacity.specs.Arrays.{place_at, places_of}

pub places-length : (order outcomes : List ℕ) (k : ℕ) → length (places_of order outcomes k) ≡ k
unfolding places_of
places-length order outcomes zero = refl
places-length order outcomes (suc k) = omega (arith, length-append (places_of order outcomes k) (place_at order outcomes k ∷ []), places-length order outcomes k)
