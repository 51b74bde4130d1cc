-- A read that is not legal, and that nobody who is left can make so, stays so: there is no run.
-- Assumes nothing.
use mathlib.Core.Path.{◌≡◌, refl, sym}
use Prim.Native.Nat.{ℕ, zero, suc, ◌+◌, ◌*◌, ◌-◌, ◌/◌, ◌%◌, ◌^◌, ◌<◌}
use native.Mathlib.Omega.{arith}
use mathlib.Core.List.{List, [], ◌∷◌, ◌++◌}
use mathlib.Core.Bool.{Bool, true, false}
use mathlib.Core.Option.{none}
use lib.Dec.{eqb}
use borrow.Author.Tests.{eqb-true, eqb-false, eq-eqb}
use Rattle.lists.proofs.ListLaws.{not-true, clash}
use Rattle.places.specs.declared.state.Search.{Search}
use Rattle.lists.specs.Bits.{bit_at}
use Rattle.places.specs.Facts.{end_row, after_of, allowed_of, reads_asked, required_of, written_of}
use Rattle.places.specs.State.{Sound}
use Rattle.places.specs.Choice.{among}
use Rattle.places.specs.Tree.{Constraints, legal_at, legal_reads}
use Rattle.pruning.specs.Runs.{runs, holds, Awaited, NoSource, Orphaned}
use Rattle.lists.proofs.BitLaws.{member-off, member-kept}
use Rattle.places.proofs.SetLaws.{member-passes}
use Rattle.pruning.proofs.EffectLaws.{writes_nothing, reads_nothing, spoils}
use Rattle.pruning.proofs.RunLaws.{RunStep, step_of, run_ends}
use Rattle.pruning.proofs.HopeLaws.{Fits, fits-parts, not-other, aborted-place, Needs, hopeless}

module _ (D : Constraints) (t r set : ℕ) (low : r < 32) (is_read : bit_at r (reads_asked D.facts D.asked t) ≡ 1)
    (asked : bit_at t (after_of D.facts end_row) ≡ 1)
    (unsourced : (k : ℕ) → bit_at k set ≡ 1 → NoSource D.facts t r (required_of D.facts t r) k) where
  -- the read is legal after these places
  abbrev legal-after : List ℕ → Bool
  legal-after p = legal_at D.starts D.facts p t r

  -- an aborted place does not make it so
  after-abort : (p : List ℕ) (y : ℕ) → legal-after (p ++ ((y * 2 + 0) ∷ [])) ≡ true → legal-after p ≡ true
  unfolding legal_at holds
  after-abort p y h = rw (aborted-place D p y r) at h

  -- nor does a committed one
  after-commit : (p : List ℕ) (y : ℕ) → bit_at y set ≡ 1 → (y ≡ t → ⊥) → (allowed_of D.facts y ≡ 0 → ⊥) → legal-after (p ++ ((y * 2 + 1) ∷ [])) ≡ true → legal-after p ≡ true
  after-commit p y is_in f g h = go (eqb (written_of D.facts y r) 0) refl (eqb (required_of D.facts t r) 0) refl (eqb (written_of D.facts y r) (required_of D.facts t r)) refl
    where
      go : (d : Bool) → eqb (written_of D.facts y r) 0 ≡ d → (e : Bool) → eqb (required_of D.facts t r) 0 ≡ e → (k : Bool) → eqb (written_of D.facts y r) (required_of D.facts t r) ≡ k
          → legal-after p ≡ true
      go true d e q k s = (writes_nothing D.facts y t r (eqb-true _ _ d)).untouched refl D.starts p h
      go false d true q k s = (reads_nothing D.facts y t r (eqb-true _ _ q)).untouched refl D.starts p h
      go false d false q true s = absurd (unsourced y is_in f g (eqb-true _ _ s))
      go false d false q false s = absurd ((spoils D.facts y t r 1 (omega arith) (eqb-false _ _ d) (eqb-false _ _ q) (eqb-false _ _ s)).spoilt (λ z. omega arith) D.starts p h)

  lost-run : (l : List ℕ) (u : ℕ) (p : List ℕ) → u < 1024 → bit_at t u ≡ 1 → ((k : ℕ) → bit_at k u ≡ 1 → bit_at k set ≡ 1) → (legal-after p ≡ true → ⊥)
      → runs D p u l ≡ true → ⊥
  unfolding legal_reads
  lost-run [] u p few is_in sub not-legal run = run_ends D p u t few run is_in asked
  lost-run (c ∷ l) u p few is_in sub not-legal run =
      let e : c ≡ c / 2 * 2 + c % 2 = omega arith in
      let s = step_of D p u (c / 2) (c % 2) l (omega arith) (rw e at run) in
      go (c / 2) (c % 2) (omega arith) s (fits-parts D p u (c / 2) (c % 2) (omega arith) s.fits) (eqb (c / 2) t) refl (lost-run l)
    where
      go : (y z : ℕ) → z < 2 → RunStep D p u y z l → Fits D p u y z → (d : Bool) → eqb y t ≡ d
          → ((q : ℕ) (k : List ℕ) → q < 1024 → bit_at t q ≡ 1 → ((j : ℕ) → bit_at j q ≡ 1 → bit_at j set ≡ 1) → (legal-after k ≡ true → ⊥)
          → runs D k q l ≡ true → ⊥)
          → ⊥
      go y z two s f true d ih =
          let q : y ≡ t = eqb-true y t d in
          not-legal (member-passes _ (reads_asked D.facts D.asked t) (rw q at f.legal) r (omega arith) is_read)
      go y zero two s f false d ih =
          ih (u - 2 ^ y) (p ++ ((y * 2 + 0) ∷ [])) (omega arith) (member-kept y t u s.is_in (λ q. eqb-false y t d (sym q)) is_in) (λ j g. sub j (member-off y j u s.is_in g))
          (λ h. not-legal (after-abort p y h)) s.rest
      go y (suc zero) two s f false d ih =
          ih (u - 2 ^ y) (p ++ ((y * 2 + 1) ∷ [])) (omega arith) (member-kept y t u s.is_in (λ q. eqb-false y t d (sym q)) is_in) (λ j g. sub j (member-off y j u s.is_in g))
          (λ h. not-legal (after-commit p y (sub y s.is_in) (eqb-false y t d)
          (λ q. clash (eq-eqb (allowed_of D.facts y) 0 q) (not-true _ (not-other (allowed_of D.facts y) 1 0 (omega arith) (omega arith) (λ n. omega arith) f.allowed))) h)) s.rest
      go y (suc (suc z)) two s f false d ih = omega arith

-- so that a state in which such a read is of one that is needed waits for none
pub orphaned-run : (D : Constraints) (s : Search) (need u : ℕ) (p l : List ℕ) → Orphaned D s need
    → Awaited D s need u p l → ⊥
unfolding legal_at holds
orphaned-run D s need u p l g h =
    let k = g.orphan in
    lost-run D g.t k.register s.unplaced k.low k.is_read (h.asked g.t g.needed) k.lost.none l u p h.few (h.needed g.t g.needed) h.unplaced
    (λ e. clash (rw (h.alike k.register) at e) k.lost.wrong) h.run

-- and nothing completes it
pub orphaned-none : (D : Constraints) (s : Search) (c need : ℕ) → Sound s → c ≡ s.unplaced → Needs D s need → Orphaned D s need → among D s c ≡ none
orphaned-none D s c need h q n g = hopeless D s c need false h q n (λ u p l run. absurd (orphaned-run D s need u p l g run)) refl
