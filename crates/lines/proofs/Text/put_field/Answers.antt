-- `lines::Text::put_field` meets its contract.
-- Assumes nothing.
use Rattle.lines.proofs.PutLaws.{adds_then}
use Rattle.lines.proofs.Text.put_field.Goals as goal

pub returns : goal.returns
returns c = adds_then c.put.ensures c.put_number.ensures
