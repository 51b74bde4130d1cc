-- From the tables of a marking in arrays to the straightened marking: the points that the tables move, and where they stand then, are those
-- of the definition.
-- Assumes nothing.
use Prim.Native.Nat.{ℕ, ◌≤◌, ◌<◌}
use native.Mathlib.Nat.{lt_of_not-le}
use native.Mathlib.Decide.{dec_le}
use native.Mathlib.Omega.{arith}
use mathlib.Core.Path.{◌≡◌, refl, sym, ap, ap₂, ◌∙◌}
use mathlib.Core.Bool.{Bool, true, false, not, cond}
use mathlib.Core.List.{List, [], ◌∷◌, map}
use Rattle.std.specs.Prelude.{Option}
use lib.Dec.{eqb, leb}
use lib.ListN.{length, get_or}
use borrow.Author.Tests.{ne_eqb, le-leb}
use Rattle.events.specs.declared.event.Event.{Event}
use Rattle.lists.specs.Lists.{◌and◌, ◌implies◌, all, range}
use Rattle.events.specs.Events.{event_at, begins}
use Rattle.lists.proofs.ListLaws.{and_l, and_r, and_i, keep_same, clash}
use Rattle.opacity.specs.Transactions.{is_store_read, store_reads}
use Rattle.opacity.specs.Marking.{Marking, ReadableFor, gap_of, place_of}
use Rattle.opacity.proofs.Finder.{events-of}
use Rattle.lists.specs.Filled.{Front}
use Rattle.links.specs.declared.tables.Transaction.{Transaction}
use Rattle.links.specs.Tables.{AllTabled}
use Rattle.rules.specs.declared.places.Writer.{Writer}
use Rattle.rules.specs.Orders.{Inverse, Writers}
use Rattle.rules.specs.Walks.{has_point, point_rule}
use Rattle.rules.specs.Judge.{content, Judgeable}
use Rattle.rules.proofs.JudgeLaws.{place-le, gap_same, reader-same, d-same, e-same}
use Rattle.marking_reader.specs.State.{Kept}
use Rattle.marking_reader.proofs.PointLaws.{beyond-history}
use Rattle.marking_reader.proofs.ReadBack.{keep-passes}
use Rattle.straighten.specs.Straight.{straightened, moved_events}
use Rattle.straighten.specs.Tables.{breaks_by, gap_by, listed, Moved}
use Rattle.straighten.proofs.PointLaws.{point_with, map_same}
use Rattle.straighten.proofs.StraightLaws.{kept_at, gap_after, straight-points, moved-exactly}

read-inside : (h : List Event) (i : ℕ) → is_store_read h i ≡ true → i < length h
read-inside h i s =
    elim (dec_le (length h) i) [
      | yes l ↦ absurd (clash s (beyond-history h i l))
      | no u ↦ lt_of_not-le u
    ]

-- the marking in the arrays is readable
pub arrays-readable : {h : List Event} {order outcomes gaps : List ℕ} → Kept h order outcomes gaps
    → ReadableFor h (content h order outcomes gaps)
unfolding content store_reads all
arrays-readable {h} {gaps = gaps} y =
    record {
      order = y.ordered;
      reads = events-of (λ i. get_or gaps i 0) (store_reads h);
      gaps = low (store_reads h) (keep-passes (is_store_read h) (range (length h)));
    }
  where
    low : (xs : List ℕ) → all (is_store_read h) xs ≡ true
        → all (λ p. leb p.gap (begins h)) (map (point_with (λ i. get_or gaps i 0)) xs) ≡ true
    low [] a = refl
    low (x ∷ xs) a = and_i _ _ (le-leb _ _ (y.gaps-fit x (read-inside h x (and_l _ _ a)) (and_l _ _ a))) (low xs (and_r _ _ a))

module _ {h : List Event} {link : List (Option ℕ)} {order outcomes gaps : List ℕ} (y : Judgeable h link order outcomes gaps) where
  abbrev m : Marking
  m = content h order outcomes gaps

  module _ {k : ℕ} (ek : k ≡ begins h) {place : List ℕ} (inverse : Inverse order k place) {tables : List Transaction} {writers : List Writer}
      (tabled : AllTabled h tables) (table : Writers order outcomes tables k writers) (start : ℕ → ℕ)
      {moves : List Bool} (moving : Front false (breaks_by (point_rule start h link writers place gaps)) (length h) moves)
      {straight : List ℕ} (straightening : Front 0 (gap_by h place moves gaps) (length h) straight) where
    readable-now : ReadableFor h m
    readable-now =
        arrays-readable
        (record { gaps-room = y.gaps-room; ordered = y.ordered; pointed = λ i l. sym (y.pointed i l); gaps-fit = y.gaps-fit })

    moved_same : (i : ℕ) → i < length h → get_or moves i false ≡ not (kept_at start h m i)
    moved_same i l =
        moving.holds i l
        ∙ ap₂ (λ (a b : Bool). not (a and b)) (d-same y ek inverse tabled table start i l) (e-same y ek inverse tabled table start i l)

    -- the events that the table lists are those that the definition moves
    listed_same : listed moves (length h) ≡ moved_events start h m
    listed_same =
        keep_same (λ i. get_or moves i false) (λ i. not (kept_at start h m i)) (length h) moved_same
        ∙ sym (moved-exactly start h m readable-now)

    gap-after : (i : ℕ) → is_store_read h i ≡ true → get_or straight i 0 ≡ gap_after start h m i
    unfolding content
    gap-after i s = let l = read-inside h i s in straightening.holds i l ∙ rw (moved_same i l) (go (kept_at start h m i) l)
      where
        go : (b : Bool) → i < length h → cond (not b) (get_or place (event_at h i).transaction 0) (get_or gaps i 0)
            ≡ cond b (gap_of m.points i) (place_of (event_at h i).transaction m.places)
        go true l = sym (gap_same y i l s)
        go false l = reader-same y ek inverse i l

    -- and the marking with the moved points is the straightened one
    content-same : content h order outcomes straight ≡ straightened start h m
    unfolding content straightened store_reads
    content-same =
        let e : map (point_with (λ i. get_or straight i 0)) (store_reads h) ≡ (straightened start h m).points =
        map_same (is_store_read h) (point_with (λ i. get_or straight i 0)) (point_with (gap_after start h m)) (store_reads h)
        (λ i s j. record { event = i; gap = gap-after i s j }) (keep-passes (is_store_read h) (range (length h)))
        ∙ sym (straight-points start h m readable-now) in
        λ j. record { places = m.places; points = e j }

    -- a point is moved where there is one
    point-after : (i : ℕ) → i < length h → has_point straight i ≡ has_point gaps i
    unfolding point_rule ◌implies◌ ◌and◌
    point-after i l =
        ap (λ (g : ℕ). not (eqb g 65535)) (straightening.holds i l)
        ∙ go (has_point gaps i) refl (get_or moves i false) refl
      where
        there : not (eqb (get_or place (event_at h i).transaction 0) 65535) ≡ true
        there =
            let f = inverse.low (event_at h i).transaction in
            ap not (ne_eqb (get_or place (event_at h i).transaction 0) 65535 (λ e. omega arith))

        go : (p : Bool) → has_point gaps i ≡ p → (b : Bool) → get_or moves i false ≡ b
            → not (eqb (cond b (get_or place (event_at h i).transaction 0) (get_or gaps i 0)) 65535) ≡ has_point gaps i
        go p q false e = refl
        go true q true e = there ∙ sym q
        go false q true e = absurd (clash (sym (moving.holds i l) ∙ e) (rw q))

    -- which is as readable
    kept-after : Kept h order outcomes straight
    kept-after =
        record {
          gaps-room = straightening.room;
          ordered = y.ordered;
          pointed = λ i l. sym (point-after i l ∙ y.pointed i l);
          gaps-fit = λ i l s. rw (straightening.holds i l) (go i l s (get_or moves i false));
        }
      where
        go : (i : ℕ) → i < length h → is_store_read h i ≡ true → (b : Bool)
            → cond b (get_or place (event_at h i).transaction 0) (get_or gaps i 0) ≤ begins h
        go i l s true = rw (reader-same y ek inverse i l) (place-le (event_at h i).transaction order outcomes (begins h))
        go i l s false = y.gaps-fit i l s

    pub moved-points : Moved start h order outcomes gaps straight moves
    moved-points = record { points = content-same; moved = listed_same; kept = kept-after }
