-- `search::ends` meets its contract: nothing is still to be placed exactly if the ones counted are none.
-- Assumes nothing.
use Prim.Native.Nat.{ℕ, ◌<◌, ◌^◌}
use borrow.Author.Tests.{eq-eqb, ne_eqb}
use mathlib.Core.Path.{◌≡◌, refl, ap, sym, ◌∙◌}
use native.Mathlib.Omega.{arith}
use lib.Bits.{bit_and, and_le_r}
use lib.Count.{ones}
use lib.Dec.{eqb}
use Rattle.lists.specs.Bits.{members}
use Rattle.places.specs.Facts.{end_row, after_of}
use Rattle.places.specs.Tree.{ends_at, none_in}
use Rattle.lists.proofs.BitLaws.{none-counted}
use Rattle.places.proofs.MemberLaws.{none-in-members}
use Rattle.search.proofs.ends.Goals as goal
use Rattle.search.proofs.ends.Goals.{Start}

none-ones : ◌≡◌ {A = ℕ} (ones 0) 0
unfolding ones
none-ones = refl

-- none of the unplaced must come before the end exactly if the sets have no common member
unplaced-before : (c : Start) → none_in (after_of c.args.constraints.now.facts.now end_row) (members c.args.s.unplaced) ≡ eqb
    (bit_and (after_of c.args.constraints.now.facts.now end_row) c.args.s.unplaced) 0
unplaced-before c = none-in-members (after_of c.args.constraints.now.facts.now end_row) c.args.s.unplaced (omega arith)

still-few : (c : Start) → (bit_and (after_of c.args.constraints.now.facts.now end_row) c.args.s.unplaced) < 2 ^ 10
still-few c = omega (arith, and_le_r (after_of c.args.constraints.now.facts.now end_row) c.args.s.unplaced)

pub returns-then-count-ne0 : goal.returns-then-count-ne0
unfolding ends_at
returns-then-count-ne0 c =
    let some : (bit_and (after_of c.args.constraints.now.facts.now end_row) c.args.s.unplaced) ≡ 0 → ⊥ = λ z. c.if-count-ne0.true (c.count.ensures
    ∙ (ap ones z ∙ none-ones)) in
    simp (unplaced-before (goal.at.returns-then-count-ne0 c).Start ∙ ne_eqb _ _ some)

pub returns : goal.returns
unfolding ends_at
returns c =
    let none : (bit_and (after_of c.args.constraints.now.facts.now end_row) c.args.s.unplaced) ≡ 0 = none-counted 10
    (bit_and (after_of c.args.constraints.now.facts.now end_row) c.args.s.unplaced) (still-few (goal.at.returns c).Start) (sym c.count.ensures
    ∙ c.if-count-ne0.false) in
    simp (unplaced-before (goal.at.returns c).Start ∙ eq-eqb _ _ none) c.legal_reads.ensures
