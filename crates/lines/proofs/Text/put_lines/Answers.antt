-- `lines::Text::put_lines` meets its contract.
-- Assumes nothing.
use native.Mathlib.Nat.{le_refl}
use native.Mathlib.Omega.{arith}
use mathlib.Core.Path.{sym, ap}
use Rattle.lines.specs.Lines.{lines}
use Rattle.lines.proofs.PutLaws.{adds_as, adds_then}
use Rattle.lines.proofs.Text.put_lines.Goals as goal

pub returns-in-Err : goal.returns-in-Err
unfolding lines
returns-in-Err c = adds_as (ap lines (sym c.in-Err.is)) (omega arith) c.put_refused.ensures

pub returns-in-Ok : goal.returns-in-Ok
unfolding lines
returns-in-Ok c =
    let two = adds_then c.put_counts.ensures c.put_tally.ensures in
    adds_as (ap lines (sym c.in-Ok.is)) (le_refl _) (adds_then (adds_then two c.put_marking.ensures) c.put_opacity.ensures)
