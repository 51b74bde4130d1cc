-- `lines::Text::put_scanned` meets its contract.
-- Assumes nothing.
use native.Mathlib.Omega.{arith}
use mathlib.Core.Path.{sym, ap}
use Rattle.lines.specs.Lines.{scanned_line}
use Rattle.lines.proofs.PutLaws.{adds_as}
use Rattle.lines.proofs.Text.put_scanned.Goals as goal

pub returns-in-Ok : goal.returns-in-Ok
returns-in-Ok c = adds_as (ap scanned_line (sym c.in-Ok.is)) (omega arith) c.put.ensures
