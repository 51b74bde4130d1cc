-- The marking of the order found.
-- Assumes nothing.
use Rattle.std.specs.Prelude.{Option as Answer, None}
use mathlib.Core.Path.{◌≡◌, sym, ap, ◌∙◌}
use Prim.Native.Nat.{ℕ, ◌≤◌}
use native.Mathlib.Omega.{arith}
use mathlib.Core.List.{List}
use mathlib.Core.Option.{none, some}
use lib.ListN.{length, length-map}
use Rattle.events.specs.declared.event.Event.{Event}
use Rattle.events.specs.Events.{event_at, begins}
use Rattle.opacity.specs.Transactions.{store_reads}
use Rattle.opacity.specs.Justification.{Place}
use Rattle.opacity.specs.Lowest.{lowest_of}
use Rattle.opacity.specs.Marking.{Point, marked, place_of}
use Rattle.opacity.proofs.Bounds.{transaction-known}
use Rattle.opacity.proofs.Least.{lowest-justifies}
use Rattle.opacity.proofs.MarkingBytes.{marking-length}
use Rattle.opacity.proofs.Orders.{filled}
use Rattle.places.specs.Places.{codes_of, decode}
use Rattle.lowest.specs.Order.{Judged, order_of}
use Rattle.opacity.specs.Marking.{marking_bytes}
use Rattle.finder.specs.Answer.{marking_size, lowest_marking}

pub room-is : (h : List Event) (J : List Place) → length J ≡ begins h → length (marking_bytes (marked h J)) ≡ marking_size h
unfolding marked
room-is h J e = omega (arith, marking-length (marked h J), length-map {B = Point} (store_reads h) (λ i. record { event = i; gap = place_of (event_at h i).transaction J }))

-- the order that was found has a place for each transaction
module _ (start : ℕ → ℕ) (h : List Event) (j : Judged h) where
  pub order-size : {J : List Place} → lowest_of start h ≡ some J → length J ≡ begins h
  order-size {J} e = filled (begins h) J (lowest-justifies start h (transaction-known h j.readable) e).order

  -- the places of an answer, as an order
  pub places-found : (order count : ℕ) → some (decode (codes_of (begins h) order)) ≡ lowest_of start h → count ≡ begins h
      → some (decode (codes_of count order)) ≡ lowest_of start h
  places-found order count e k = ap (λ (m : ℕ). some (decode (codes_of m order))) k ∙ e

  pub marking-found : {J : List Place} → some J ≡ lowest_of start h → lowest_marking start h ≡ some (marking_bytes (marked h J))
  unfolding lowest_marking
  marking-found e = rw (sym e)

  pub marking-fits : {J : List Place} (room : ℕ) → some J ≡ lowest_of start h → marking_size h ≤ room
      → length (marking_bytes (marked h J)) ≤ room
  marking-fits {J} room e l = rw (room-is h J (order-size (sym e))) l

  pub marking-none : none ≡ lowest_of start h → lowest_marking start h ≡ none
  unfolding lowest_marking
  marking-none e = rw (sym e)

  pub answer-none : (a : Answer ℕ) → a ≡ None → order_of h a ≡ lowest_of start h → none ≡ lowest_of start h
  answer-none a z e = rw z at e
