-- The first completion of the tables is the lowest justification of the events.
-- Assumes nothing.
use mathlib.Core.Path.{◌≡◌, refl, sym, ap, ap₂, ◌∙◌}
use Prim.Native.Nat.{ℕ, zero, suc, ◌*◌, ◌^◌, ◌≤◌, ◌<◌}
use native.Mathlib.Nat.{le_refl, pow-suc}
use native.Mathlib.Omega.{arith}
use mathlib.Core.Bool.{Bool, true, false, not, cond}
use mathlib.Core.List.{List, []}
use mathlib.Core.Option.{none}
use lib.Count.{count_trailing_zeros}
use lib.Dec.{eqb}
use lib.ListN.{length}
use lib.Seq.{take_all}
use borrow.Author.Tests.{eqb-true, eqb-false}
use Rattle.lists.specs.Lists.{every}
use Rattle.events.specs.declared.event.Event.{Event}
use Rattle.events.specs.Events.{event_at, begins}
use Rattle.opacity.specs.Transactions.{own_right}
use Rattle.opacity.specs.Justification.{Place, placed, before, contents, legal_over, legal, Justified}
use Rattle.opacity.specs.Lowest.{fits, lowest_of}
use Rattle.lists.proofs.ListLaws.{and-false-l, and_false_r, imp-e, clash, every-i}
use Rattle.opacity.proofs.Least.{none-iff}
use Rattle.lists.specs.Bits.{bit_at}
use Rattle.places.specs.Facts.{end_row, reads_of}
use Rattle.places.specs.Places.{decode}
use Rattle.places.specs.Tree.{Completion, up_from, first_whole}
use Rattle.lists.proofs.BitLaws.{bit-none, lowest-in}
use Rattle.search.proofs.EndLaws.{reads_none}
use Rattle.event_log.specs.Starts.{start_of}
use Rattle.tables.specs.declared.Tables.{Tables}
use Rattle.tables.specs.Tables.{tables_of}
use Rattle.lowest.specs.Order.{decoded, constraints_of, found_order, Judged}
use Rattle.lowest.proofs.Meaning.{Good}
use Rattle.lowest.proofs.ReadMeaning.{Reads, Bad, wrong, apart, reads-hold}
use Rattle.opacity.proofs.Bounds.{transaction-known}
use Rattle.lowest.proofs.GoodHistory.{good}
use Rattle.lowest.proofs.EndMeaning.{end_reads}
use Rattle.lowest.proofs.TreeLink.{state-start, trees}
use Rattle.lowest.proofs.FitsLink.{agree}

-- a set that is not empty has a member
some-member : (n : ℕ) → (n ≡ 0 → ⊥) → (t : ℕ) × (bit_at t n ≡ 1)
some-member n f = (count_trailing_zeros n n, lowest-in n n (below_power n) (omega arith))
  where
    below_power : (k : ℕ) → k < 2 ^ k
    below_power zero = omega arith
    below_power (suc k) = let p = below_power k in let q : 2 ^ suc k ≡ 2 ^ k * 2 = pow-suc 2 k in omega arith

-- a transaction with a place fits nowhere
not-fresh : (start : ℕ → ℕ) (h : List Event) (P : List Place) (p : Place) → placed p.transaction P ≡ true → fits start h P p ≡ false
unfolding fits
not-fresh start h P p q = and_false_r _ _ (and-false-l _ _ (ap not q))

module _ (o : List ℕ) (h : List Event) (good : Good h) (begun : (i : ℕ) → i < length h → (event_at h i).transaction < begins h) (few : begins h ≤ 10) where
  reads : Reads h (length h) (tables_of h).facts (tables_of h).contradictory
  reads = rw (take_all (length h) h (le_refl (length h))) at (reads-hold h good (length h) (le_refl (length h)))

  -- the end reads nothing
  end : reads_of (tables_of h).facts end_row ≡ 0
  end = rw (take_all (length h) h (le_refl (length h))) at (end_reads h good (length h) (le_refl (length h)))

  -- a read that is wrong everywhere
  none-justifies : (x : ℕ) → Bad h (length h) x → (K : List Place) → Justified (start_of o) h K → ⊥
  unfolding legal legal_over
  none-justifies x (wrong i l p q) K j = clash (j.own i l) q
  none-justifies x (apart i k li lk si sk ti tk r d) K j =
      let a : (event_at h i).value ≡ contents (start_of o) h (before (event_at h i).transaction K) (event_at h i).register = eqb-true _ _ (imp-e _ _ (j.store i li) si) in
      let b : (event_at h k).value ≡ contents (start_of o) h (before (event_at h k).transaction K) (event_at h k).register = eqb-true _ _ (imp-e _ _ (j.store k lk) sk) in
      d (a ∙ ap₂ (λ (x y : ℕ). contents (start_of o) h (before x K) y) (ti ∙ sym tk) r ∙ sym b)

  completes : (tables_of h).contradictory ≡ 0 → decoded (first_whole (constraints_of o (tables_of h)) (begins h)) ≡ lowest_of (start_of o) h
  unfolding first_whole lowest_of decode
  completes q =
      let own : every (own_right h) (length h) ≡ true = every-i _ _ (λ i l. reads.own i l (ap (bit_at _) q ∙ bit-none _)) in
      rw own
      (trees (constraints_of o (tables_of h)) (fits (start_of o) h) (begins h)
      (λ p u s t l f c. agree o h good few p u s t l q f c)
      (not-fresh (start_of o) h) (reads_none (constraints_of o (tables_of h)) end_row end) (begins h) [] (up_from 0 (begins h)) (state-start (begins h)))

  pub found-lowest : found_order o h ≡ lowest_of (start_of o) h
  unfolding found_order
  found-lowest = go (eqb (tables_of h).contradictory 0) refl
    where
      go : (b : Bool) → eqb (tables_of h).contradictory 0 ≡ b → cond b (decoded (first_whole (constraints_of o (tables_of h)) (begins h))) none ≡ lowest_of (start_of o) h
      go true q = completes (eqb-true _ _ q)
      go false q =
          let w = some-member (tables_of h).contradictory (eqb-false _ _ q) in
          sym ((none-iff (start_of o) h begun).1 (none-justifies w.0 (reads.bad w.0 w.1)))

-- what the functions answer, one after the other
pub found-by : (o : List ℕ) (h : List Event) (a : Completion) (s : Tables) (m : ℕ) → Judged h → s ≡ tables_of h → m ≡ begins h
    → a ≡ cond (eqb s.contradictory 0) (first_whole (constraints_of o s) m) none → decoded a ≡ lowest_of (start_of o) h
unfolding found_order
found-by o h a s m j e f g =
    ap decoded g ∙ through (eqb s.contradictory 0) (first_whole (constraints_of o s) m)
    ∙ ap₂ (λ (x : Tables) (k : ℕ). cond (eqb x.contradictory 0) (decoded (first_whole (constraints_of o x) k)) none) e f
    ∙ found-lowest o h (good h j.readable j.few) (transaction-known h j.readable) j.few
  where
    through : (b : Bool) (x : Completion) → decoded (cond b x none) ≡ cond b (decoded x) none
    through true x = refl
    through false x = refl
