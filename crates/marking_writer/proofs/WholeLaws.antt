-- The marking that stands in arrays, as bytes: one place more, and its length.
-- Assumes nothing.
use Prim.Native.Nat.{ℕ, suc, ◌+◌, ◌*◌}
use native.Mathlib.Omega.{arith}
use mathlib.Core.Path.{◌≡◌, refl, ap, ◌∙◌}
use mathlib.Core.List.{List, [], ◌∷◌, ◌++◌, append-nil}
use lib.ListN.{length, length-append}
use Rattle.opacity.specs.Marking.{place_bytes, flat}
use Rattle.opacity.proofs.MarkingBytes.{flat_append, flat-length}
use Rattle.opacity.specs.Arrays.{place_at, places_of}
use Rattle.opacity.proofs.Arrays.{places-length}
use Rattle.marking_writer.specs.Whole.{points_in, bytes_in}

module _ (order outcomes : List ℕ) where
  -- the first k places as bytes, and the k-th
  abbrev pub places_to : ℕ → List ℕ
  places_to k = flat place_bytes (places_of order outcomes k)

  abbrev pub place_here : ℕ → List ℕ
  place_here k = place_bytes (place_at order outcomes k)

  pub places-none : places_to 0 ≡ []
  unfolding flat places_of
  places-none = refl

  pub places-more : (k : ℕ) → places_to (suc k) ≡ places_to k ++ place_here k
  unfolding flat places_of
  places-more k = flat_append place_bytes (places_of order outcomes k) (place_at order outcomes k ∷ []) ∙ ap (λ (l : List ℕ). places_to k ++ l) (append-nil (place_here k))

  pub places-bytes : (k : ℕ) → length (places_to k) ≡ 8 * k
  places-bytes k = flat-length place_bytes 8 (places_of order outcomes k) (λ p. refl) ∙ ap (λ (n : ℕ). 8 * n) (places-length order outcomes k)

pub bytes-length : (order outcomes : List ℕ) (b : ℕ) (gaps : List ℕ)
    → length (bytes_in order outcomes b gaps) ≡ 6 + 8 * b + length (points_in gaps (length gaps))
bytes-length order outcomes b gaps =
    omega (arith, length-append (places_to order outcomes b) (points_in gaps (length gaps)), places-bytes order outcomes b)
