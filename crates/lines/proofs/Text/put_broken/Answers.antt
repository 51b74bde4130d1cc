-- `lines::Text::put_broken` meets its contract.
-- Assumes nothing.
use native.Mathlib.Nat.{le_refl}
use Rattle.lines.specs.Lines.{broken_line}
use Rattle.lines.proofs.PutLaws.{adds_as, adds_then}
use Rattle.lines.proofs.Text.put_broken.Goals as goal

pub returns : goal.returns
unfolding broken_line
returns c =
    let named = adds_then c.put.ensures (adds_as c.letter_of.ensures (le_refl 1) c.put-2.ensures) in
    adds_then (adds_then (adds_then named c.put_field.ensures) c.put_field-2.ensures) c.put-3.ensures
