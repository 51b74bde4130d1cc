-- `lines::Text::put_tally` meets its contract.
-- Assumes nothing.
use Rattle.lines.specs.Lines.{tally_line}
use Rattle.lines.proofs.PutLaws.{adds_then}
use Rattle.lines.proofs.Text.put_tally.Goals as goal

pub returns : goal.returns
unfolding tally_line
returns c =
    let ended = adds_then c.put_field.ensures c.put_field-2.ensures in
    adds_then (adds_then (adds_then ended c.put_field-3.ensures) c.put_field-4.ensures) c.put.ensures
