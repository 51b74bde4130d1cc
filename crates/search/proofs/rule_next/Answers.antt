-- `search::rule_next` meets its contract.
-- Assumes nothing.
use borrow.Author.Tests.{eq-eqb, ne_eqb}
use mathlib.Core.Path.{◌≡◌, sym, ◌∙◌}
use native.Mathlib.Omega.{arith}
use lib.Bits.{bit_and}
use lib.Dec.{eqb}
use Rattle.lists.specs.Bits.{members}
use Rattle.places.specs.Facts.{after_of}
use Rattle.places.specs.Tree.{rule_next, none_in}
use Rattle.places.proofs.MemberLaws.{none-in-members}
use Rattle.search.proofs.rule_next.Goals as goal
use Rattle.search.proofs.rule_next.Goals.{Start}

-- none of the unplaced must come before t exactly if the sets have no common member
unplaced-before : (c : Start) → let set = after_of c.args.constraints.now.facts.now c.args.t in
    none_in set (members c.args.s.unplaced) ≡ eqb (bit_and set c.args.s.unplaced) 0
unplaced-before c = none-in-members (after_of c.args.constraints.now.facts.now c.args.t) c.args.s.unplaced (omega arith)

pub returns-then-constraints-t-ne0 : goal.returns-then-constraints-t-ne0
unfolding rule_next
returns-then-constraints-t-ne0 c = simp (unplaced-before (goal.at.returns-then-constraints-t-ne0 c).Start ∙ ne_eqb _ _ c.if-constraints-t-ne0.true)

pub returns-then-not-legal_reads : goal.returns-then-not-legal_reads
unfolding rule_next
returns-then-not-legal_reads c =
    simp (
      unplaced-before (goal.at.returns-then-not-legal_reads c).Start ∙ eq-eqb _ _ c.if-constraints-t-ne0.false,
      sym c.legal_reads.ensures
          ∙ c.if-not-legal_reads.true,
    )

pub returns : goal.returns
unfolding rule_next
returns c =
    simp (
      unplaced-before (goal.at.returns c).Start ∙ eq-eqb _ _ c.if-constraints-t-ne0.false,
      sym c.legal_reads.ensures ∙ c.if-not-legal_reads.false,
    )
