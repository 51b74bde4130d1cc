-- `codes::note_code` meets its contract.
-- Assumes nothing.
use Rattle.notes.specs.Notes.{said}
use Rattle.codes.specs.Codes.{coded, place}
use Rattle.codes.proofs.CodeLaws.{coded-as}
use Rattle.codes.proofs.note_code.Goals as goal

pub returns-in-Some : goal.returns-in-Some
unfolding said coded place
returns-in-Some c = coded-as said c.in-Some.is c.pack.ensures

pub returns-in_default : goal.returns-in_default
unfolding said coded
returns-in_default c = coded-as said c.in_default.is c.pack-in_default.ensures
