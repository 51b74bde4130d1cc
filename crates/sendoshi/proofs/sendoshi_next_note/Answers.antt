-- `sendoshi::sendoshi_next_note` meets its contract.
-- Assumes nothing.
use mathlib.Core.Path.{sym, ap, subst}
use Rattle.notes.specs.Notes.{said}
use Rattle.codes.specs.Decoded.{no_value, never}
use Rattle.codes.proofs.CodeLaws.{call-decoded}
use Rattle.sendoshi.specs.Calls.{AnswerFits, note_filled, next_note_call}
use Rattle.sendoshi.proofs.Bounds.{note-decodable, note-fits}
use Rattle.sendoshi.proofs.sendoshi_next_note.Goals as goal

pub tell_note-requires : goal.tell_note-requires
tell_note-requires c = subst AnswerFits (sym c.next_note-answer.ensures) (note-fits c.args.file.now c.args.from)

pub returns : goal.returns
unfolding next_note_call
returns c =
    let g = c.next_note-answer.ensures in
    let n = c.note_code.ensures in
    record {
      note_after = rw (n, c.tell_note.ensures) (ap (note_filled _) g);
      result_value = call-decoded said no_value never g (note-decodable _) n;
    }
