-- `lines::Text::put_counts` meets its contract.
-- Assumes nothing.
use Rattle.lines.specs.Lines.{counts_line}
use Rattle.lines.proofs.PutLaws.{adds_then}
use Rattle.lines.proofs.Text.put_counts.Goals as goal

pub returns : goal.returns
unfolding counts_line
returns c = adds_then (adds_then (adds_then c.put_field.ensures c.put_field-2.ensures) c.put_field-3.ensures) c.put.ensures
