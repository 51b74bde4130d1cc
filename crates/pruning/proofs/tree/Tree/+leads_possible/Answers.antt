-- The proof of the cycle of calls {leads, possible}. The measure: 2 for each unplaced transaction, and 1 before one is chosen.
-- Assumes nothing.
use mathlib.Core.Path.{refl, sym, subst, ◌∙◌}
use native.Mathlib.Omega.{arith}
use lib.Bits.{and_le_r}
use lib.Count.{ones}
use Rattle.lists.proofs.ListLaws.{clash}
use Rattle.places.specs.Told.{told}
use Rattle.places.proofs.SetLaws.{all-left, walk-begins, its-turn, walk_on, walk-ends}
use Rattle.places.proofs.StateLaws.{room-lt, fewer}
use Rattle.pruning.proofs.HopeLaws.{Missed, ready_on, next-ready, next-may, committed-next, awaited-less, no_run}
use Rattle.pruning.proofs.OrphanLaws.{orphaned-run}
use Prim.Native.Nat.{ℕ, ◌+◌, ◌*◌, ◌<◌}
use Rattle.std.proofs.Common.{rules}
use Rattle.pruning.proofs.tree.Tree.+leads_possible.Goals as goal

pub leads-other_than-requires : goal.leads-other_than-requires
leads-other_than-requires t c = room-lt c.requires.placeable

pub leads-returns-then-not-other_than : goal.leads-returns-then-not-other_than
leads-returns-then-not-other_than t c =
    let D = told c.args.self.now.constraints in
    λ u p l a. absurd (clash (next-may D c.args.s c.args.need u p l c.args.t 1 0 (omega arith) (omega arith) (λ e. omega arith) a)
    (sym c.other_than.ensures ∙ c.if-not-other_than.true))

pub leads-place-next-requires : goal.leads-place-next-requires
leads-place-next-requires t c =
    record {
      placeable = c.requires.placeable;
      outcome_bound = search rules;
    }

pub leads-offset_bounds-self-t : goal.leads-offset_bounds-self-t
leads-offset_bounds-self-t t c = omega (arith, room-lt c.requires.placeable)

pub leads-bounds-self-t : goal.leads-bounds-self-t
leads-bounds-self-t t c = room-lt c.requires.placeable

pub leads-orphaned-requires : goal.leads-orphaned-requires
leads-orphaned-requires t c =
    record {
      sound = c.place-next.ensures.sound;
      need_bound = omega (arith, and_le_r c.args.need c.place-next.result.unplaced);
    }

pub leads-returns-then-orphaned : goal.leads-returns-then-orphaned
leads-returns-then-orphaned t c =
    let a = c.args in
    let D = told a.self.now.constraints in
    λ u p l run. absurd (orphaned-run D c.place-next.result _ _ _ l (c.orphaned.ensures c.if-orphaned.true)
    (committed-next D a.s a.need u p l a.t c.place-next.result c.place-next.ensures run))

pub leads-ready_after-after-requires : goal.leads-ready_after-after-requires
leads-ready_after-after-requires t c =
    record {
      sound = c.place-next.ensures.sound;
      x_bound = room-lt c.requires.placeable;
    }

pub leads-possible-requires : goal.leads-possible-requires
leads-possible-requires t c =
    let a = c.args in (
      subst (λ (n : ℕ). ones c.place-next.result.unplaced * 2 + 1 < n) c.decreases
          (omega (arith, fewer a.s c.place-next.result a.t 1 c.requires.placeable c.place-next.ensures)),
      (
        c.place-next.ensures.sound,
        ready_on (told a.self.now.constraints) a.s c.place-next.result a.t a.ready c.ready_after-after.result
            c.requires.placeable c.place-next.ensures c.requires.ready c.ready_after-after.ensures,
      ),
    )

pub leads-returns : goal.leads-returns
leads-returns t c =
    let a = c.args in
    let D = told a.self.now.constraints in
    λ u p l run. c.possible.ensures _ _ l (committed-next D a.s a.need u p l a.t c.place-next.result c.place-next.ensures run)

pub possible-still_needed-rest-requires : goal.possible-still_needed-rest-requires
possible-still_needed-rest-requires t c = omega (arith, c.requires.ready.within.few, c.requires.sound.few)

pub possible-returns-then-rest-eq0 : goal.possible-returns-then-rest-eq0
possible-returns-then-rest-eq0 t c = λ u p l a. refl

pub possible-loop-t-init : goal.possible-loop-t-init
possible-loop-t-init t c = walk-begins (all-left c.into_iter-t-iterator.ensures.into_iter_gives c.members-t-items.ensures)

pub possible-leads-requires : goal.possible-leads-requires
possible-leads-requires t c =
    let is_in = c.requires.ready.within.is_in c.in-Some.t (its-turn c.loop-t.invariant c.in-Some.ensures.steps) in (
      subst (λ (n : ℕ). ones c.args.s.unplaced * 2 < n) c.decreases (omega arith),
      (record { sound = c.requires.sound; is_in = is_in }, c.requires.ready),
    )

pub possible-returns-then-leads : goal.possible-returns-then-leads
possible-returns-then-leads t c = λ u p l a. refl

pub possible-loop-t-preserved : goal.possible-loop-t-preserved
possible-loop-t-preserved t c =
    walk_on c.loop-t.invariant c.in-Some.ensures.steps (λ u p l a. clash (c.leads.ensures u p l a) c.if-leads.false)

pub possible-returns : goal.possible-returns
possible-returns t c =
    let a = c.args in
    let D = told a.self.now.constraints in
    let need = c.still_needed-rest.result in
    let known = c.requires.ready in
    let missed : (k : ℕ) → Missed D a.s need k = λ k u p l run. walk-ends c.loop-t.invariant c.in-None.ensures.steps.0 k
    (next-ready D a.s need u p l k a.ready 1 (omega arith) known run) u p l run in
    λ u p l run. absurd (no_run D a.s need a.ready (omega arith) c.if-rest-eq0.false known c.still_needed-rest.ensures.stuck missed l u p
    (awaited-less D a.s a.need need u p l c.still_needed-rest.ensures.within.is_in run))
