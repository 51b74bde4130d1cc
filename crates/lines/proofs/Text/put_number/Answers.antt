-- `lines::Text::put_number` meets its contract.
-- Assumes nothing.
use native.Mathlib.Omega.{arith}
use Rattle.lines.proofs.DecimalLaws.{the-digits, at-most-20}
use Rattle.lines.proofs.PutLaws.{adds_as}
use Rattle.std.proofs.Common.{rules}
use Rattle.std.proofs.lemmas.Grind.{common_steps}
use Rattle.lines.proofs.Text.put_number.Goals as goal

pub returns : goal.returns
returns c = grind (arith, common_steps, the-digits, at-most-20, adds_as, rules)
