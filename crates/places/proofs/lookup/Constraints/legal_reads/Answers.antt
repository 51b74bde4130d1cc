-- `places::lookup::Constraints::legal_reads` meets its contract: the reads of the registers passed are legal, so that those left decide.
-- Assumes nothing.
use mathlib.Core.Path.{◌≡◌, sym, ap, ◌∙◌}
use Prim.Native.Nat.{ℕ}
use native.Mathlib.Omega.{arith}
use Rattle.lists.specs.Lists.{all}
use Rattle.lists.specs.Bits.{members}
use Rattle.lists.proofs.BitLaws.{member-lt}
use Rattle.places.specs.State.{placed_of}
use Rattle.places.specs.Tree.{legal_at, legal_reads}
use Rattle.places.proofs.SetLaws.{all-left, one_passes, one-fails, none_left}
use Rattle.places.proofs.lookup.Constraints.legal_reads.Goals as goal

pub loop-r-init : goal.loop-r-init
unfolding legal_reads
loop-r-init c =
    let a = c.args in
    let e : c.into_iter-r-iterator.result.left ≡ c.reads_asked.result = all-left c.into_iter-r-iterator.ensures.into_iter_gives c.members-r-items.ensures in
    record {
      low = omega (arith, c.reads_asked.ensures.low);
      decided = ap (λ (m : ℕ). all (legal_at a.self.now.starts.now a.self.now.facts.now (placed_of a.s) a.t) (members m)) (sym (e ∙ c.reads_asked.ensures.value));
    }

pub legal_at-requires-clause-register_bound : goal.legal_at-requires-clause-register_bound
legal_at-requires-clause-register_bound c = member-lt c.in-Some.r c.loop-r.r-iterator.left 32 c.in-Some.ensures.steps.is_in c.loop-r.invariant.low

pub returns-then-not-legal_at : goal.returns-then-not-legal_at
returns-then-not-legal_at c = sym (c.loop-r.invariant.decided ∙ one-fails _ c.in-Some.r c.loop-r.r-iterator.left _ c.in-Some.ensures.steps
    (sym c.legal_at.ensures ∙ c.if-not-legal_at.true))

pub loop-r-preserved : goal.loop-r-preserved
loop-r-preserved c =
    let w = c.in-Some.ensures.steps in
    record {
      low = omega (arith, w.others, c.loop-r.invariant.low);
      decided = c.loop-r.invariant.decided ∙ one_passes _ c.in-Some.r c.loop-r.r-iterator.left _ w (sym c.legal_at.ensures ∙ c.if-not-legal_at.false);
    }

pub returns : goal.returns
returns c = sym (c.loop-r.invariant.decided ∙ none_left _ c.loop-r.r-iterator.left c.in-None.ensures.steps.0)
