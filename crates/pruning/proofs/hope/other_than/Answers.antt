-- `pruning::hope::other_than` meets its contract.
-- Assumes nothing.
use borrow.Author.Tests.{eq-eqb, ne_eqb}
use mathlib.Core.Path.{◌≡◌, ◌∙◌}
use mathlib.Core.Bool.{true, false}
use Rattle.lists.specs.Bits.{members}
use Rattle.places.specs.Facts.{after_of}
use Rattle.places.specs.Tree.{none_in}
use Rattle.pruning.specs.Runs.{other_than}
use Rattle.places.proofs.MemberLaws.{none-in-members}
use Rattle.pruning.proofs.hope.other_than.Goals as goal

pub returns-then-facts-t-ne0 : goal.returns-then-facts-t-ne0
unfolding other_than
returns-then-facts-t-ne0 c =
    let set = after_of c.args.facts.now c.args.t in
    let some : none_in set (members c.args.need) ≡ false = none-in-members set c.args.need c.ranges.need.fits
    ∙ ne_eqb _ _ c.if-facts-t-ne0.true in
    simp some

pub returns : goal.returns
unfolding other_than
returns c =
    let set = after_of c.args.facts.now c.args.t in
    let none : none_in set (members c.args.need) ≡ true = none-in-members set c.args.need c.ranges.need.fits
    ∙ eq-eqb _ _ c.if-facts-t-ne0.false in
    simp none
