-- `lines::Text::put_unscanned` meets its contract.
-- Assumes nothing.
use native.Mathlib.Nat.{le_refl}
use mathlib.Core.Path.{ap}
use Rattle.lines.specs.Lines.{unscanned_line}
use Rattle.lines.specs.Text.{field}
use Rattle.lines.proofs.PutLaws.{adds_as, adds_then}
use Rattle.lines.proofs.Text.put_unscanned.Goals as goal

pub returns : goal.returns
unfolding unscanned_line
returns c = adds_then (adds_as (ap (field "opaque refused ") c.from.ensures) (le_refl _) c.put_field.ensures) c.put.ensures
