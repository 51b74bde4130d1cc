-- `pruning::effects::effect` meets its contract: if nothing is noted no read of the registers passed is touched, and if a register is one is spoilt.
-- Assumes nothing.
use mathlib.Core.Path.{◌≡◌, refl, ap₂, ◌∙◌}
use mathlib.Core.List.{List}
use mathlib.Core.Bool.{Bool, true, false}
use Prim.Native.Nat.{ℕ, ◌%◌, ◌<◌, ◌^◌}
use native.Mathlib.Omega.{arith}
use lib.Bits.{bit_and, bit_or, and_le_r}
use lib.Dec.{eqb}
use borrow.Author.Tests.{eqb-true, eqb-false}
use Rattle.lists.proofs.BitLaws.{member-lt}
use Rattle.places.specs.Facts.{reads_asked}
use Rattle.places.specs.Tree.{legal_reads}
use Rattle.places.proofs.SetLaws.{all-left, walk-begins, walk_on, walk-ends, walk-says, its-turn, member-passes}
use Rattle.pruning.proofs.EffectLaws.{or-none, or-registers, all-members, effect-among}
use Rattle.pruning.proofs.effects.effect.Goals as goal
use Rattle.pruning.proofs.effects.effect.Goals.{In-Some, After-reads_asked}
use Rattle.pruning.proofs.effects.effect.Invariants.{Spoilt}

-- the registers of the walk are below 32
few : (c : After-reads_asked) → bit_and (reads_asked c.args.constraints.now.facts.now c.args.constraints.now.asked c.args.t) c.args.writes < 2 ^ 32
few c = omega (arith, and_le_r (reads_asked c.args.constraints.now.facts.now c.args.constraints.now.asked c.args.t) c.args.writes)

pub loop-r-init : goal.loop-r-init
loop-r-init c =
    record {
      walk = walk-begins (all-left c.into_iter-r-iterator.ensures.into_iter_gives c.members-r-items.ensures
          ∙ ap₂ bit_and c.reads_asked.ensures.value c.from.ensures);
      spoilt = λ z. absurd (z refl);
    }

pub effect_at-done-requires-clause-register_bound : goal.effect_at-done-requires-clause-register_bound
effect_at-done-requires-clause-register_bound c =
    member-lt c.in-Some.r _ 32 (its-turn c.loop-r.invariant.walk c.in-Some.ensures.steps)
    (few (goal.at.effect_at-done-requires-clause-register_bound c).After-reads_asked)

pub loop-r-preserved : goal.loop-r-preserved
loop-r-preserved c =
    let at = c.loop-r in
    let a = c.args in
    let f = a.constraints.now.facts.now in
    let r = c.in-Some.r in
    let set = bit_and (reads_asked f a.constraints.now.asked a.t) a.writes in
    let is_in = its-turn at.invariant.walk c.in-Some.ensures.steps in
    record {
      walk = walk_on
          (walk-says (λ k h z. h (or-none at.done c.effect_at-done.result z).0) at.invariant.walk)
          c.in-Some.ensures.steps
          (λ z. c.effect_at-done.ensures.untouched (or-none at.done c.effect_at-done.result z).1);
      spoilt = λ z. from_one f a.x a.t set at.done c.effect_at-done.result z at.invariant.spoilt
          (λ g. record {
            register = r;
            low = member-lt r set 32 is_in (few (goal.at.loop-r-preserved c).After-reads_asked);
            is_in = is_in;
            never = c.effect_at-done.ensures.spoilt g;
          });
    }
  where
    from_one : (F : List (List ℕ)) (x t set d e : ℕ) → (bit_or d e % 4294967296 ≡ 0 → ⊥) → ((d % 4294967296 ≡ 0 → ⊥) → Spoilt F x t set)
        → ((e % 4294967296 ≡ 0 → ⊥) → Spoilt F x t set) → Spoilt F x t set
    from_one F x t set d e z f g = go (eqb (d % 4294967296) 0) refl (eqb (e % 4294967296) 0) refl
      where
        go : (b : Bool) → eqb (d % 4294967296) 0 ≡ b → (k : Bool) → eqb (e % 4294967296) 0 ≡ k → Spoilt F x t set
        go false q k s = f (eqb-false _ _ q)
        go true q false s = g (eqb-false _ _ s)
        go true q true s = absurd (z (or-registers d e (eqb-true _ _ q) (eqb-true _ _ s)))

pub returns : goal.returns
unfolding legal_reads
returns c =
    let at = c.loop-r in
    let a = c.args in
    let f = a.constraints.now.facts.now in
    let reads = reads_asked f a.constraints.now.asked a.t in
    let set = bit_and reads a.writes in
    let low : set < 2 ^ 32 = few (goal.at.returns c).After-reads_asked in
    effect-among f a.x a.t reads a.writes at.done (omega (arith, c.reads_asked.ensures.value, c.reads_asked.ensures.low)) c.requires.writes
    (record {
      untouched = λ z o p h. all-members _ _ set low (λ k b q. walk-ends at.invariant.walk c.in-None.ensures.steps.0 k b z o p q) h;
      spoilt = λ z o p h. let g = at.invariant.spoilt z in g.never o p (member-passes _ set h g.register (omega (arith, g.low)) g.is_in);
    })
