-- The bytes of a marking: how many there are, and how they go on.
-- Assumes nothing.
use Prim.Native.Nat.{ℕ, zero, suc, ◌+◌, ◌*◌, ◌<◌}
use native.Mathlib.Nat.{add_comm, mul-suc}
use native.Mathlib.Omega.{arith}
use mathlib.Core.Path.{◌≡◌, refl, sym, ap, ◌∙◌}
use mathlib.Core.List.{List, [], ◌∷◌, ◌++◌, map, append_assoc}
use lib.Dec.{eqb}
use lib.ListN.{length, length-append, length-map}
use Rattle.events.specs.declared.event.Event.{Event}
use Rattle.events.specs.Events.{begins}
use Rattle.opacity.specs.Transactions.{store_reads}
use Rattle.opacity.specs.Marking.{Marking, ReadableFor, marking_head, outcome_number, place_bytes, point_bytes, flat, marking_bytes}
use Rattle.opacity.proofs.Orders.{filled}

pub outcome-back : (o : ℕ) → o < 2 → outcome_number (eqb o 1) ≡ o
outcome-back zero l = refl
outcome-back (suc zero) l = refl
outcome-back (suc (suc o)) l = absurd (omega arith)

module _ {A : Type 0} (f : A → List ℕ) where
  pub flat_append : (xs ys : List A) → flat f (xs ++ ys) ≡ flat f xs ++ flat f ys
  unfolding flat
  flat_append [] ys = refl
  flat_append (x ∷ xs) ys = ap (λ (l : List ℕ). f x ++ l) (flat_append xs ys) ∙ sym (append_assoc (f x) (flat f xs) (flat f ys))

  pub flat-length : (n : ℕ) (xs : List A) → ((x : A) → length (f x) ≡ n) → length (flat f xs) ≡ n * length xs
  unfolding flat
  flat-length n [] h = omega arith
  flat-length n (x ∷ xs) h = length-append (f x) (flat f xs) ∙ rw (h x, flat-length n xs h) (mul-more n (length xs))
    where
      mul-more : (a b : ℕ) → a + a * b ≡ a * suc b
      mul-more a b = sym (mul-suc a b ∙ add_comm (a * b) a)

-- 6 bytes for the head, 8 for a place and 10 for a point
pub marking-length : (m : Marking) → length (marking_bytes m) ≡ 6 + (8 * length m.places + 10 * length m.points)
unfolding marking_bytes
marking-length m =
    length-append marking_head (flat place_bytes m.places ++ flat point_bytes m.points)
    ∙ ap (λ (x : ℕ). 6 + x) (length-append (flat place_bytes m.places) (flat point_bytes m.points) ∙ rw (places, points))
  where
    places : length (flat place_bytes m.places) ≡ 8 * length m.places
    places = flat-length place_bytes 8 m.places (λ p. refl)

    points : length (flat point_bytes m.points) ≡ 10 * length m.points
    points = flat-length point_bytes 10 m.points (λ q. refl)

-- of a marking that is readable for a history: 8 for each of its transactions and 10 for each of its store reads
pub readable-length : (h : List Event) (m : Marking) → ReadableFor h m → length (marking_bytes m) ≡ 6 + 8 * begins h + 10 * length (store_reads h)
readable-length h m f =
    let a = marking-length m in
    let b = filled (begins h) m.places f.order in
    let d = length-map m.points (λ q. q.event) in
    let e : length (map (λ q. q.event) m.points) ≡ length (store_reads h) = ap length f.reads in
    omega arith
