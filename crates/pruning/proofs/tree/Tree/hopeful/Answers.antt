-- `pruning::tree::Tree::hopeful` meets its contract.
-- Assumes nothing.
use mathlib.Core.Path.{◌≡◌}
use mathlib.Core.Bool.{true≢false}
use native.Mathlib.Omega.{arith}
use lib.Bits.{bit_xor, and_le_l, xor_lt}
use Rattle.places.specs.Facts.{end_row, after_of}
use Rattle.places.specs.Told.{told}
use Rattle.lists.proofs.BitLaws.{xor-member}
use Rattle.pruning.proofs.HopeLaws.{needs-of, hopeless}
use Rattle.pruning.proofs.OrphanLaws.{orphaned-none}
use Rattle.pruning.proofs.tree.Tree.hopeful.Goals as goal
use Rattle.pruning.proofs.tree.Tree.hopeful.Goals.{After-ready_among-ready}

all : (r : After-ready_among-ready) → r.args.candidates ≡ r.args.s.unplaced
all r = r.if-candidates-s.false

pub returns-then-candidates-lt-LOWEST_FOUR : goal.returns-then-candidates-lt-LOWEST_FOUR
returns-then-candidates-lt-LOWEST_FOUR c = λ e. absurd (true≢false e)

pub returns-then-candidates-s : goal.returns-then-candidates-s
returns-then-candidates-s c = λ e. absurd (true≢false e)

pub returns-then-count-lt-FEW : goal.returns-then-count-lt-FEW
returns-then-count-lt-FEW c = λ e. absurd (true≢false e)

pub bereft-requires : goal.bereft-requires
bereft-requires c =
    let u = c.args.s.unplaced in
    let low = xor_lt 10 u c.ready_among-ready.result c.requires.few (omega arith) in
    record {
      sound = c.requires;
      need_bound = omega (arith, and_le_l (bit_xor u c.ready_among-ready.result) (after_of c.args.self.now.constraints.facts.now end_row), low);
    }

-- one that is not ready is unplaced
pub returns-then-bereft : goal.returns-then-bereft
returns-then-bereft c =
    let a = c.args in
    λ e. orphaned-none (told c.args.self.now.constraints) a.s a.candidates _ c.requires
    (all (goal.at.returns-then-bereft c).After-ready_among-ready)
    (needs-of (told c.args.self.now.constraints) a.s _ _ c.before_end-unready.ensures
    (λ k h. xor-member k a.s.unplaced c.ready_among-ready.result (c.ready_among-ready.ensures.within.is_in k) h))
    (c.bereft.ensures c.if-bereft.true)

pub returns : goal.returns
returns c =
    let a = c.args in
    hopeless (told c.args.self.now.constraints) a.s a.candidates _ c.possible.result c.requires
    (all (goal.at.returns c).After-ready_among-ready)
    (needs-of (told c.args.self.now.constraints) a.s a.candidates _ c.before_end-need.ensures
    (λ k h. rw (all (goal.at.returns c).After-ready_among-ready) at h))
    c.possible.ensures
