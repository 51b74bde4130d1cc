-- `codes::scanned_code` meets its contract.
-- Assumes nothing.
use mathlib.Core.Path.{ap₂, ◌∙◌}
use Rattle.scan.specs.Answer.{scanned_said}
use Rattle.codes.specs.Codes.{packed, coded, place}
use Rattle.codes.proofs.CodeLaws.{known_as, coded-as}
use Rattle.codes.proofs.scanned_code.Goals as goal

pub pack-requires-in-Err : goal.pack-requires-in-Err
pack-requires-in-Err c = (known_as scanned_said c.in-Err.is c.requires).1

pub returns-in-Ok : goal.returns-in-Ok
unfolding coded place
returns-in-Ok c = coded-as scanned_said c.in-Ok.is c.pack.ensures

pub returns-in-Err : goal.returns-in-Err
unfolding coded
returns-in-Err c =
    coded-as scanned_said c.in-Err.is (c.pack-in-Err.ensures ∙ ap₂ packed c.cause_code.ensures (λ i. c.in-Err.fault.event))
