-- `sendoshi::tell_note` meets its contract.
use native.Mathlib.Omega.{arith}
use Rattle.sendoshi.specs.Calls.{note_after}
use Rattle.std.proofs.lemmas.Grind.{common_steps}
use Rattle.sendoshi.proofs.tell_note.Goals as goal

pub returns-in-Some : goal.returns-in-Some
unfolding note_after
returns-in-Some c = grind (arith, common_steps)

pub returns-in_default : goal.returns-in_default
unfolding note_after
returns-in_default c = grind (arith, common_steps)
