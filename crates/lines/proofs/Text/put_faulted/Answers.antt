-- `lines::Text::put_faulted` meets its contract.
-- Assumes nothing.
use Rattle.lines.specs.Lines.{faulted_line}
use Rattle.lines.proofs.PutLaws.{adds_then}
use Rattle.lines.proofs.Text.put_faulted.Goals as goal

pub returns : goal.returns
unfolding faulted_line
returns c = adds_then (adds_then c.put_field.ensures c.put_field-2.ensures) c.put.ensures
