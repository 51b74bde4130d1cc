-- The marking of the order found, from the arrays that its writer takes.
-- Assumes nothing.
use mathlib.Core.Path.{◌≡◌, refl, sym, ap, ap₂, ◌∙◌}
use Prim.Native.Nat.{ℕ, zero, suc, ◌≤◌, ◌<◌}
use native.Mathlib.Nat.{le_of_lt, le_refl}
use native.Mathlib.Omega.{arith}
use mathlib.Core.Bool.{Bool, true, false, not}
use mathlib.Core.List.{List, [], ◌∷◌, ◌++◌}
use lib.ListN.{length, take, get_or}
use lib.Seq.{take-suc, take_all, get_or-take, length-take-le}
use borrow.Author.Tests.{ne_eqb}
use lib.Dec.{eqb}
use Rattle.lists.specs.Filled.{Filled, Front}
use Rattle.lists.proofs.FilledLaws.{filled_at}
use Rattle.events.specs.declared.event.Event.{Event}
use Rattle.events.specs.Events.{event_at, begins}
use Rattle.events.specs.Questions.{readable}
use Rattle.opacity.proofs.Bounds.{transaction-known}
use Rattle.reads.specs.Own.{gap_of, placed_at}
use Rattle.opacity.specs.Transactions.{is_store_read, store_reads}
use Rattle.opacity.specs.Justification.{Place}
use Rattle.opacity.specs.Lowest.{place}
use Rattle.opacity.specs.Marking.{place_of, marked, marking_head, place_bytes, flat, marking_bytes}
use Rattle.places.specs.Places.{decode}
use Rattle.places.proofs.LookupLaws.{decode-snoc}
use Rattle.marking_writer.specs.Points.{is_gap, points_to}
use Rattle.opacity.specs.Arrays.{places_of}
use Rattle.marking_writer.specs.Whole.{points_in, bytes_in}
use Rattle.marking_writer.proofs.PointLaws.{points-are, points-same}
use Rattle.found.specs.Arrays.{Arrayed, gap_at, found_bytes}
use Rattle.found.proofs.MarkLaws.{place-low, decode-length}

-- the places in the arrays are those of the codes
pub places-are : (codes order outcomes : List ℕ) (count : ℕ) → count ≤ length codes → Arrayed codes count order outcomes
    → (k : ℕ) → k ≤ count → places_of order outcomes k ≡ decode (take k codes)
unfolding places_of decode
places-are codes order outcomes count room a zero l = refl
places-are codes order outcomes count room a (suc k) l =
    ap₂ (λ (P : List Place) (p : Place). P ++ (p ∷ []))
    (places-are codes order outcomes count room a k (le_of_lt l))
    (ap₂ (λ (t o : ℕ). place t (eqb o 1)) (filled_at a.transactions k l) (filled_at a.ends k l))
    ∙ sym (decode-snoc (take k codes) (get_or codes k 0))
    ∙ ap decode (sym (take-suc codes k 0 (omega arith)))

-- the bytes of a marking: head, places, and the points of the store reads, each at its reader's place
marking-is : (h : List Event) (J : List Place) → marking_bytes (marked h J) ≡ marking_head ++ (flat place_bytes J ++ points_to (is_store_read h) (gap_at h J) (length h))
unfolding marking_bytes marked store_reads
marking-is h J = ap (λ (l : List ℕ). marking_head ++ (flat place_bytes J ++ l)) (points-are (is_store_read h) (gap_at h J) (length h))

-- the table of gaps has a gap for each store read and for no other event, and that is its reader's place
module _ (h : List Event) (r : readable h ≡ true) (codes : List ℕ) (few : length codes ≤ 10) (place : List ℕ)
    (readers : Filled 64 0 (λ t. place_of t (decode codes)) (begins h) place) (gaps : List ℕ)
    (front : Front 0 (placed_at h place) (length h) gaps) (i : ℕ) (l : i < length h) where
  reader : get_or place (event_at h i).transaction 0 ≡ gap_at h (decode codes) i
  reader = filled_at readers (event_at h i).transaction (transaction-known h r i l)

  gap_here : is_store_read h i ≡ true → get_or gaps i 0 ≡ gap_at h (decode codes) i
  gap_here s = front.holds i l ∙ (ap (λ (b : Bool). gap_of b (event_at h i) place) s ∙ reader)

  gap_is : is_gap (get_or gaps i 0) ≡ is_store_read h i
  gap_is = go (is_store_read h i) refl
    where
      go : (b : Bool) → is_store_read h i ≡ b → is_gap (get_or gaps i 0) ≡ b
      go true s =
          let low = place-low (event_at h i).transaction (decode codes) in
          ap not (ne_eqb (get_or gaps i 0) 65535 (λ z. omega (arith, gap_here s, low, decode-length codes)))
      go false s = rw (front.holds i l, s)

-- what the writer writes of the arrays is the marking
pub arrays-mark : (h : List Event) → readable h ≡ true → (codes order outcomes : List ℕ) → length codes ≡ begins h → length codes ≤ 10
    → Arrayed codes (length codes) order outcomes
    → (place : List ℕ) → Filled 64 0 (λ t. place_of t (decode codes)) (length codes) place
    → (gaps : List ℕ) → Front 0 (placed_at h place) (length h) gaps
    → bytes_in order outcomes (length codes) (take (length h) gaps) ≡ found_bytes h codes
arrays-mark h r codes order outcomes all few a place p gaps g =
    let n = length h in
    let q : Filled 64 0 (λ t. place_of t (decode codes)) (begins h) place = rw all at p in
    let long : length (take n gaps) ≡ n = length-take-le n gaps g.room in
    let front : (i : ℕ) → i < n → get_or (take n gaps) i 0 ≡ get_or gaps i 0 = λ i l. get_or-take n gaps i 0 l in
    let points : points_in (take n gaps) (length (take n gaps)) ≡ points_to (is_store_read h) (gap_at h (decode codes)) n =
    ap (points_in (take n gaps)) long
    ∙ points-same (λ i. is_gap (get_or (take n gaps) i 0)) (is_store_read h) (λ i. get_or (take n gaps) i 0) (gap_at h (decode codes)) n
    (λ i l. ap is_gap (front i l) ∙ gap_is h r codes few place q gaps g i l)
    (λ i l s. front i l ∙ gap_here h r codes few place q gaps g i l s) in
    let places = places-are codes order outcomes (length codes) (le_refl _) a (length codes) (le_refl _) in
    let whole : take (length codes) codes ≡ codes = take_all (length codes) codes (le_refl _) in
    ap₂ (λ (P : List Place) (l : List ℕ). marking_head ++ (flat place_bytes P ++ l)) (places ∙ ap decode whole) points
    ∙ sym (marking-is h (decode codes))
