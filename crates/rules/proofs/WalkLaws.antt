-- Laws of the walk back over places: how it goes on, and what it finds.
-- Assumes nothing.
use Prim.Native.Nat.{ℕ, zero, suc, ◌-◌, ◌≤◌, ◌<◌, min, max}
use native.Mathlib.Nat.{lt_of_not-le}
use native.Mathlib.Decide.{dec_le}
use native.Mathlib.Omega.{arith}
use mathlib.Core.Path.{◌≡◌, refl, sym, ap, ◌∙◌, subst}
use mathlib.Core.Bool.{Bool, true, false, not, cond}
use mathlib.Core.List.{List, [], ◌∷◌}
use mathlib.Core.Option.{Option as Found, none, some, get_or as found_or}
use Rattle.std.specs.Prelude.{Option, Some, None, is_some, unwrap_or}
use lib.Dec.{eqb}
use lib.ListN.{length, take, drop, get_or}
use lib.Seq.{drop-append-le, drop-length}
use borrow.Author.Tests.{eqb-false, eq-eqb, ne_eqb, le-leb, lt-leb}
use Rattle.events.specs.declared.event.Event.{Event}
use Rattle.lists.specs.Bits.{bit_at}
use Rattle.lists.proofs.BitLaws.{bit-none}
use Rattle.lists.specs.Lists.{◌implies◌, or_else, is_none, latest, keep, push}
use Rattle.events.specs.Events.{event_at}
use Rattle.lists.proofs.ListLaws.{latest-snoc, or_else-none}
use Rattle.opacity.specs.declared.verdict.Rule.{Rule}
use Rattle.opacity.specs.Transactions.{last_write}
use Rattle.opacity.specs.Justification.{Place, is_of, written, is_order}
use Rattle.opacity.specs.Marking.{others, between, place_of}
use Rattle.links.specs.declared.tables.Transaction.{Transaction}
use Rattle.links.specs.Tables.{blank, AllTabled, past}
use Rattle.lists.proofs.FilledLaws.{filled_at}
use Rattle.links.specs.Writes.{write_from, given, Linked}
use Rattle.links.proofs.WriteLaws.{Followed, follow-start, follow-none, follow-found, follow-next, its-written, write-from, following-none}
use Rattle.links.proofs.RegisterLaws.{its-unwritten}
use Rattle.opacity.specs.Arrays.{places_of, place_at}
use Rattle.opacity.proofs.Arrays.{places-length}
use Rattle.rules.specs.declared.places.Writer.{Writer}
use Rattle.rules.specs.Orders.{writer, nothing, Writers}
use Rattle.rules.specs.Walks.{start_in, start_at, last_in, Walkable, point_holds, point_rule}
use Rattle.rules.proofs.OrderLaws.{places-take, own-place}

module _ (h : List Event) (link : List (Option ℕ)) (writers : List Writer) (own r lo : ℕ) where
  -- nothing below the lowest place
  pub last-in-start : last_in h link writers own r lo lo ≡ none
  unfolding last_in
  last-in-start = go lo refl
    where
      go : (k : ℕ) → k ≡ lo → last_in h link writers own r lo k ≡ none
      go zero e = refl
      go (suc k) e = rw (lt-leb lo k (omega arith))

  last-in-more : (k : ℕ) → lo ≤ k
      → last_in h link writers own r lo (suc k) ≡ or_else (write_from h link r (start_at writers own r k)) (last_in h link writers own r lo k)
  unfolding last_in
  last-in-more k l = rw (le-leb lo k l)

start-low : (writers : List Writer) (own r k n : ℕ) → ((j : ℕ) → past (get_or writers j nothing).last ≤ n) → past (start_at writers own r k) ≤ n
start-low writers own r k n l = go (eqb k own) (eqb (bit_at r (get_or writers k nothing).registers) 1)
  where
    go : (b m : Bool) → past (cond b None (cond m (get_or writers k nothing).last None)) ≤ n
    go true m = omega arith
    go false true = l k
    go false false = omega arith

-- The nested walk, as its two loops leave it: back to place k, with nothing found from there on,
pub record Walking (h : List Event) (link : List (Option ℕ)) (writers : List Writer) (own r lo hi k : ℕ) : Type 0 where
  pub least : lo ≤ k
  pub most : k ≤ hi
  pub same : last_in h link writers own r lo k ≡ last_in h link writers own r lo hi

-- and inside place k, back to write j.
pub record Inside (h : List Event) (link : List (Option ℕ)) (writers : List Writer) (own r lo hi k : ℕ) (j : Option ℕ) : Type 0 where
  pub least : lo ≤ k
  pub most : k < hi
  pub writes : Followed h link r (write_from h link r (start_at writers own r k)) j
  pub same : last_in h link writers own r lo (suc k) ≡ last_in h link writers own r lo hi

module _ {h : List Event} {link : List (Option ℕ)} {writers : List Writer} {own r lo hi k : ℕ} where
  pub walk_ends : Walking h link writers own r lo hi k → k ≡ lo → None ≡ given (last_in h link writers own r lo hi)
  walk_ends w e = ap given (sym (last-in-start h link writers own r lo) ∙ (ap (last_in h link writers own r lo) (sym e) ∙ w.same))

  pub walk-enters : {j : Option ℕ} → Walkable h link writers → Walking h link writers own r lo hi k → (k ≡ lo → ⊥) → j ≡ start_at writers own r (k - 1)
      → Inside h link writers own r lo hi (k - 1) j
  walk-enters y w n e =
      let l = w.least in
      let m = w.most in
      let s : suc (k - 1) ≡ k = omega arith in
      record {
        least = omega arith;
        most = omega arith;
        writes =
            subst (Followed h link r (write_from h link r (start_at writers own r (k - 1)))) (sym e)
            (follow-start (start_at writers own r (k - 1)) (start-low writers own r (k - 1) (length h) y.low) refl);
        same = ap (last_in h link writers own r lo) s ∙ w.same;
      }

  -- what the place holds, if it has a write to r; else what stands before it
  found_here : {j : Option ℕ} → Inside h link writers own r lo hi k j → {o : Found ℕ} → write_from h link r (start_at writers own r k) ≡ o
      → or_else o (last_in h link writers own r lo k) ≡ last_in h link writers own r lo hi
  found_here w e =
      ap (λ (x : Found ℕ). or_else x (last_in h link writers own r lo k)) (sym e)
      ∙ (sym (last-in-more h link writers own r lo k w.least) ∙ w.same)

  pub walk-leaves : {j : Option ℕ} → Inside h link writers own r lo hi k j → j ≡ None → Walking h link writers own r lo hi k
  walk-leaves {j} v z =
      let w = subst (Inside h link writers own r lo hi k) z v in
      let m = w.most in
      record { least = w.least; most = omega arith; same = found_here w (follow-none w.writes) }

  -- at write i
  module _ {j : Option ℕ} (v : Inside h link writers own r lo hi k j) {i : ℕ} (at : j ≡ Some i) where
    w : Inside h link writers own r lo hi k (Some i)
    w = subst (Inside h link writers own r lo hi k) at v

    pub walk_inside : i < length h
    walk_inside = omega (arith, w.writes.low)

    pub walk-finds : (event_at h i).register ≡ r → Some (event_at h i).value ≡ given (last_in h link writers own r lo hi)
    walk-finds q = ap given (found_here w (follow-found w.writes q))

    pub walk-follows : Linked h link → ((event_at h i).register ≡ r → ⊥) → Inside h link writers own r lo hi k (get_or link i None)
    walk-follows y q = record { least = w.least; most = w.most; writes = follow-next w.writes y q; same = w.same }

-- what a place wrote to r, where it is not that of t
unfoldable written_but : List Event → ℕ → ℕ → Place → Found ℕ
written_but h r t p = cond (is_of t p) none (written h r p)

-- the last writer of the places but that of t is the last writer but t of the places
but-latest : (h : List Event) (r t : ℕ) (P : List Place) → latest (written h r) (others t P) ≡ latest (written_but h r t) P
unfolding others keep latest written_but
but-latest h r t [] = refl
but-latest h r t (p ∷ P) = go (is_of t p) (but-latest h r t P)
  where
    go : (b : Bool) → latest (written h r) (others t P) ≡ latest (written_but h r t) P
        → latest (written h r) (push (not b) p (keep (λ q. not (is_of t q)) P)) ≡ or_else (latest (written_but h r t) P) (cond b none (written h r p))
    go true ih = rw ih (sym (or_else-none (latest (written_but h r t) P)))
    go false ih = ap (λ (o : Found ℕ). or_else o (written h r p)) ih

-- what the walk finds, for a history whose writes are linked and an order whose writers are tabled
module _ (h : List Event) (link : List (Option ℕ)) (tables : List Transaction) (order outcomes : List ℕ) (writers : List Writer) (b : ℕ)
    (links : Linked h link) (tabled : AllTabled h tables) (low : (k : ℕ) → k < b → get_or order k 0 < 64)
    (table : Writers order outcomes tables b writers) (ordered : is_order b (places_of order outcomes b) ≡ true) (t r : ℕ) (known : t < b) where
  by-writer : (u : ℕ) → u < 64 → write_from h link r (start_in (writer (get_or tables u blank)) r) ≡ last_write h u r
  by-writer u l = go (eqb (bit_at r (get_or tables u blank).registers) 1) refl
    where
      go : (m : Bool) → eqb (bit_at r (get_or tables u blank).registers) 1 ≡ m → write_from h link r (cond m (get_or tables u blank).written None) ≡ last_write h u r
      go true e = ap (write_from h link r) (its-written tabled u l) ∙ write-from h r link links u
      go false e = following-none h link r 0 ∙ sym (its-unwritten tabled u r l (eqb-false _ _ e))

  at_place : (k : ℕ) → k < b
      → write_from h link r (start_at writers (place_of t (places_of order outcomes b)) r k) ≡ written_but h r t (place_at order outcomes k)
  unfolding written_but written
  at_place k l =
      ap (λ (x : Bool). write_from h link r (cond x None (start_in (get_or writers k nothing) r))) (sym (own-place order outcomes b ordered t k known l))
      ∙ go (is_of t (place_at order outcomes k)) (eqb (get_or outcomes k 0) 1) (ap (λ (w : Writer). start_in w r) (filled_at table k l))
    where
      go : (x y : Bool) → start_in (get_or writers k nothing) r ≡ start_in (cond y (writer (get_or tables (get_or order k 0) blank)) nothing) r
          → write_from h link r (cond x None (start_in (get_or writers k nothing) r)) ≡ cond x none (cond y (last_write h (get_or order k 0) r) none)
      go true y e = following-none h link r 0
      go false false e = rw (e, bit-none r) (following-none h link r 0)
      go false true e = rw e (by-writer (get_or order k 0) (low k l))

  found_in : (lo hi : ℕ) → lo ≤ hi → hi ≤ b
      → last_in h link writers (place_of t (places_of order outcomes b)) r lo hi ≡ latest (written_but h r t) (drop lo (places_of order outcomes hi))
  unfolding latest places_of
  found_in lo zero l m = let e : lo ≡ 0 = omega arith in rw e (last-in-start h link writers (place_of t (places_of order outcomes b)) r 0)
  found_in lo (suc k) l m =
      elim (dec_le lo k) [
        | yes d ↦
            last-in-more h link writers (place_of t (places_of order outcomes b)) r lo k d
            ∙ (ap (λ (o : Found ℕ). or_else o (last_in h link writers (place_of t (places_of order outcomes b)) r lo k)) (at_place k (omega arith))
            ∙ (ap (or_else (written_but h r t (place_at order outcomes k))) (found_in lo k d (omega arith))
            ∙ sym (ap (latest (written_but h r t)) (drop-append-le lo (places_of order outcomes k) (place_at order outcomes k ∷ []) (rw (places-length order outcomes k) d))
            ∙ latest-snoc (written_but h r t) (drop lo (places_of order outcomes k)) (place_at order outcomes k))))
        | no u ↦
            let e : suc k ≡ lo = (let d = lt_of_not-le u in omega arith) in
            subst (λ (x : ℕ). last_in h link writers (place_of t (places_of order outcomes b)) r lo x ≡ latest (written_but h r t) (drop lo (places_of order outcomes x))) (sym e)
            (last-in-start h link writers (place_of t (places_of order outcomes b)) r lo ∙ sym (ap (latest (written_but h r t)) (nothing lo)))
      ]
    where
      nothing : (x : ℕ) → drop x (places_of order outcomes x) ≡ []
      nothing x = ap (λ (y : ℕ). drop y (places_of order outcomes x)) (sym (places-length order outcomes x)) ∙ drop-length (places_of order outcomes x)

  pub found_between : (g p : ℕ) → g ≤ b → p ≤ b
      → last_in h link writers (place_of t (places_of order outcomes b)) r (min g p) (max g p)
      ≡ latest (written h r) (others t (between g p (places_of order outcomes b)))
  unfolding between
  found_between g p l m =
      found_in (min g p) (max g p) (omega arith) (omega arith)
      ∙ sym (but-latest h r t _
      ∙ ap (λ (P : List Place). latest (written_but h r t) (drop (min g p) P)) (places-take order outcomes b (max g p) (omega arith)))

  pub found_before : (g : ℕ) → g ≤ b
      → last_in h link writers (place_of t (places_of order outcomes b)) r 0 g ≡ latest (written h r) (others t (take g (places_of order outcomes b)))
  found_before g l =
      found_in 0 g (omega arith) l
      ∙ sym (but-latest h r t _ ∙ ap (latest (written_but h r t)) (places-take order outcomes b g l))

-- a rule of points at event i, as the code reads the event, its reader's place and its gap
module _ (start : ℕ → ℕ) (h : List Event) (link : List (Option ℕ)) (writers : List Writer) (place gaps : List ℕ) (i : ℕ) (rule : Rule) where
  pub no-point : get_or gaps i 0 ≡ 65535 → true ≡ point_rule start h link writers place gaps rule i
  unfolding point_rule ◌implies◌
  no-point z = rw (eq-eqb _ _ z)

  pub point-here : (get_or gaps i 0 ≡ 65535 → ⊥) → {e : Event} → e ≡ event_at h i → {own g : ℕ} → own ≡ get_or place e.transaction 0 → g ≡ get_or gaps i 0
      → {b : Bool} → b ≡ point_holds start h link writers own g e rule → b ≡ point_rule start h link writers place gaps rule i
  unfolding point_rule ◌implies◌
  point-here n {e} d {own} {g} p q {b} t =
      let o : own ≡ get_or place (event_at h i).transaction 0 = p ∙ ap (λ (x : Event). get_or place x.transaction 0) d in
      rw (ne_eqb _ _ n) (t ∙ (λ k. point_holds start h link writers (o k) (q k) (d k) rule))

-- what was found, as the code has it
pub none-given : (o : Found ℕ) {x : Option ℕ} → x ≡ given o → {b : Bool} → is_some x ≡ not b → b ≡ is_none o
none-given none {x} e {b} t = go x b e t
  where
    go : (x : Option ℕ) (b : Bool) → x ≡ None → is_some x ≡ not b → b ≡ true
    go None true e t = refl
    go None false e t = absurd (cc)
    go (Some v) b e t = absurd (cc)
none-given (some v) {x} e {b} t = go x b e t
  where
    go : (x : Option ℕ) (b : Bool) → x ≡ Some v → is_some x ≡ not b → b ≡ false
    go None b e t = absurd (cc)
    go (Some w) true e t = absurd (cc)
    go (Some w) false e t = refl

pub given-or : (o : Found ℕ) (d : ℕ) → unwrap_or (given o) d ≡ found_or o d
given-or none d = refl
given-or (some v) d = refl
