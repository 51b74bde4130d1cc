-- `lines::Text::put_refused` meets its contract.
-- Assumes nothing.
use native.Mathlib.Nat.{le_refl}
use native.Mathlib.Omega.{arith}
use mathlib.Core.Path.{refl, ap}
use Rattle.lines.specs.Lines.{refused_line}
use Rattle.lines.specs.Text.{field}
use Rattle.lines.proofs.PutLaws.{adds_as, adds_then}
use Rattle.lines.proofs.Text.put_refused.Goals as goal

pub returns : goal.returns
unfolding refused_line
returns c =
    let question = adds_as (ap (field " refused ") c.from.ensures) (le_refl _) c.put_field.ensures in
    adds_as refl (omega arith) (adds_then (adds_then (adds_then c.put.ensures question) c.put_field-2.ensures) c.put-2.ensures)
