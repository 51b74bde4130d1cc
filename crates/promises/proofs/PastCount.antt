-- What stands in the columns past the count, and what a buffer held before, make no difference to an answer: for the reader, the writer,
-- the checker, the counts and the tally. For the finder, the scan and the straightening this is `past-count` in their own Theorems.
-- Assumes nothing.
use Rattle.std.specs.Prelude.{Result, Ok, Err}
use Rattle.events.specs.declared.refusal.Refusal.{Refusal}
use Prim.Native.Nat.{ℕ}
use mathlib.Core.Path.{◌≡◌, refl, sym, ap, ◌∙◌}
use mathlib.Core.Bool.{Bool, true, false, cond}
use mathlib.Core.List.{List}
use lib.Dec.{leb}
use lib.ListN.{length}
use Rattle.event_log.specs.Checked.{Checked}
use Rattle.events.specs.Said.{refuse}
use Rattle.records.specs.Bytes.{over}
use Rattle.event_log.specs.Columns.{Columns, history, hold, filled_with}
use Rattle.event_log.specs.Answer.{history_answer}
use Rattle.reader.specs.declared.HistoryRead.{HistoryRead}
use Rattle.reader.specs.Reading.{Log, Outcome, readable, refused, history_of, history_read, not_read, answered as filled_in, filled, read_answer}
use Rattle.writer.specs.Writing.{Writing}
use Rattle.writer.specs.Writing.{file_of, answered, written_after, written_answer}
use Rattle.marking.specs.Answer.{verdict_answer}
use Rattle.counts.specs.Answer.{transactions_answer, store_reads_answer, tally_answer}

-- two columns that hold the same events below the count
module _ (c d : Columns) (count : ℕ) (same-room : hold c count ≡ hold d count) (same-events : history c count ≡ history d count) where
  pub history-past : (edition : ℕ) (starts : List ℕ) → history_answer edition starts c count ≡ history_answer edition starts d count
  unfolding history_answer
  history-past edition starts = rw (same-room, same-events)

  pub checker-past : (edition : ℕ) (starts file : List ℕ) → verdict_answer edition starts c count file ≡ verdict_answer edition starts d count file
  unfolding verdict_answer
  checker-past edition starts file = rw (history-past edition starts, same-events)

  pub transactions-past : (edition : ℕ) (starts : List ℕ) → transactions_answer edition starts c count ≡ transactions_answer edition starts d count
  unfolding transactions_answer
  transactions-past edition starts = rw (history-past edition starts, same-events)

  pub store-reads-past : (edition : ℕ) (starts : List ℕ) → store_reads_answer edition starts c count ≡ store_reads_answer edition starts d count
  unfolding store_reads_answer
  store-reads-past edition starts = rw (history-past edition starts, same-events)

  pub tally-past : (edition : ℕ) (starts : List ℕ) → tally_answer edition starts c count ≡ tally_answer edition starts d count
  unfolding tally_answer
  tally-past edition starts = rw (history-past edition starts, same-events)

  -- and two outputs of one length
  pub writer-past : (edition : ℕ) (starts out before : List ℕ) → length out ≡ length before → (written_answer edition starts c count out).result ≡ (written_answer edition starts d count before).result
  unfolding written_answer
  writer-past edition starts out before e =
      said (file c) out (history_answer edition starts c count)
      ∙ ((λ i. room_for (e i) (file_of edition starts (same-events i)) (history-past edition starts i)) ∙ sym (said (file d) before (history_answer edition starts d count)))
    where
      file : Columns → List ℕ
      file x = file_of edition starts (history x count)

      fits : Bool → ℕ → Writing
      fits true n = Ok n
      fits false n = Err (refuse 15 count)

      room_for : ℕ → List ℕ → Checked → Writing
      room_for room f (Ok tt) = fits (leb (length f) room) (length f)
      room_for room f (Err r) = Err r

      by-room : (f o : List ℕ) (b : Bool) → (cond b (answered (Ok (length f)) (over f o)) (answered (Err (refuse 15 count)) o)).result ≡ fits b (length f)
      by-room f o true = refl
      by-room f o false = refl

      said : (f o : List ℕ) (v : Checked) → (written_after f count o v).result ≡ room_for (length o) f v
      said f o (Ok tt) = by-room f o (leb (length f) (length o))
      said f o (Err r) = refl

-- The reader's result asks of the columns only how long they are.
pub reader-held : (file : List ℕ) (c d : Columns) → ((n : ℕ) → hold c n ≡ hold d n) → (read_answer file c).result ≡ (read_answer file d).result
unfolding read_answer
reader-held file c d e = go (history_of file)
  where
    tells : Bool → Log → Result HistoryRead Refusal
    tells b l = cond b (history_read (length l.events) l.edition l.starts) (not_read 14 (length file))

    by-room : (l : Log) (x : Columns) (b : Bool)
        → (cond b (filled_in (history_read (length l.events) l.edition l.starts) (filled_with l.events x)) (filled_in (not_read 14 (length file)) x)).result ≡ tells b l
    by-room l x true = refl
    by-room l x false = refl

    go : (o : Outcome) → (filled file c o).result ≡ (filled file d o).result
    go (readable l) =
        by-room l c (hold c (length l.events)) ∙ (ap (λ (b : Bool). tells b l) (e (length l.events)) ∙ sym (by-room l d (hold d (length l.events))))
    go (refused q at) = refl
