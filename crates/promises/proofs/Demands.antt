-- The three demands, each sentence with the statement that says it, over the answers of the public functions on raw bytes and columns;
-- each proof is a citation. `ensures` of each function says that its result and every lent buffer are such an answer; no public function
-- requires anything.
-- Assumes nothing.
use Rattle.reader.specs.Reading.{reading, edition_read, starts_read}
use Rattle.opacity.specs.declared.verdict.Cause.{Cause}
use Rattle.opacity.specs.Scan.{cause_number}
use Rattle.std.specs.Prelude.{Ok, Err}
use Prim.Native.Nat.{ℕ, ◌≤◌, ◌<◌}
use mathlib.Core.Path.{◌≡◌}
use mathlib.Core.Logic.{◌↔◌, ◌⊎◌}
use mathlib.Core.Bool.{true}
use mathlib.Core.List.{List, [], ◌∷◌}
use lib.ListN.{length, take, drop}
use Rattle.records.specs.Bytes.{Bytes, over}
use Rattle.event_log.specs.Columns.{Columns, history, hold, Fitting}
use Rattle.events.specs.Said.{done, nothing, faulted, broken, at_event, at_byte, refuse, number}
use Rattle.event_log.specs.Starts.{start_of, FittingStarts}
use Rattle.event_log.specs.Answer.{history_answer}
use Rattle.opacity.specs.declared.verdict.Rule.{Rule}
use Rattle.opacity.specs.Explains.{Explains}
use Rattle.opacity.specs.Justification.{Place, Justified}
use Rattle.opacity.specs.Lowest.{LowestJustified}
use Rattle.opacity.specs.Marking.{Marking, marked, marking_bytes, rule_number}
use Rattle.opacity.specs.Scan.{AllJustified, FaultsAt}
use Rattle.opacity.specs.Verdicts.{AllHold}
use Rattle.reader.specs.Reading.{Log, TooShort, history_of, readable, refused, events_in, history_read, read_answer, said as read_said}
use Rattle.notes.specs.Without.{without_notes, short_notes}
use Rattle.writer.specs.Writing.{SameEntries, file_of, answered, written_answer, said as written_said}
use Rattle.reader.proofs.SaidLaws as reader
use Rattle.notes.proofs.Theorems as notes
use Rattle.writer.proofs.NoNotes as bare
use Rattle.writer.proofs.RoundTrip as round
use Rattle.writer.proofs.SaidLaws as writer
use Rattle.finder.specs.Answer.{find_refusal, found_answer, said as found_said}
use Rattle.finder.proofs.Theorems as finder
use Rattle.scan.specs.Answer.{Passed, scan_refusal, scan_answer, said as scan_said}
use Rattle.scan.proofs.Theorems as scan
use Rattle.marking_reader.specs.File.{known, content, refused as unread, file_read}
use Rattle.marking.specs.Answer.{verdict_answer, said as check_said, Breaking}
use Rattle.marking.proofs.Theorems as checker
use Rattle.straighten.specs.Answer.{straightened_answer, said as straight_said, Passes, Short}
use Rattle.straighten.proofs.Theorems as straighten
use Rattle.codes.specs.Codes.{most, coded}
use Rattle.codes.specs.Decoded.{decoded, one_value, two_values, always, never}
use Rattle.sendoshi.specs.Calls.{put, read_call, write_call, find_call, check_call}
use Rattle.promises.specs.Words.{Accepts, AllExplained, FromFile}
use Rattle.promises.proofs.BuffersKept as kept
use Rattle.promises.proofs.InWords as words
use Rattle.promises.proofs.FromFile as from
use Rattle.promises.proofs.Calls as calls

-- ---- Demand 1. "What is not a readable history or marking, or a lent buffer that is too short, is refused with the paper's number and its byte
-- or event;"

-- a history's file: the first question that says no, at its record's byte; or 14, at the file's length
pub unreadable-history : (file : List ℕ) (c : Columns) (q b : ℕ) → (read_said (read_answer file c).result ≡ at_byte q b)
    ↔ ((history_of file ≡ refused q b) ⊎ (TooShort file c × (refuse q b ≡ refuse 14 (length file))))
unreadable-history = reader.read-refused

module _ (edition : ℕ) (starts : List ℕ) (c : Columns) (count : ℕ) where
  -- columns: 17, 3 or an event's own question; or, of the writer, 15 with the count
  pub unwritable-history : (output : List ℕ) (q e : ℕ) → (written_said (written_answer edition starts c count output).result ≡ at_event q e)
      ↔ ((history_answer edition starts c count ≡ Err (refuse q e))
      ⊎ ((history_answer edition starts c count ≡ Ok tt) × (length output < length (file_of edition starts (history c count))) × (refuse q e ≡ refuse 15 count)))
  unwritable-history output = writer.written-refused edition starts c count output

  pub uncheckable-history : (file : List ℕ) (q e : ℕ) → (check_said (verdict_answer edition starts c count file) ≡ at_event q e) ↔ (history_answer edition starts c count ≡ Err (refuse q e))
  uncheckable-history file = checker.history-said edition starts c count file

  -- a marking's file: the first question that says no, at its byte
  pub unreadable-marking : (file : List ℕ) (q b : ℕ) → (check_said (verdict_answer edition starts c count file) ≡ at_byte q b)
      ↔ ((history_answer edition starts c count ≡ Ok tt) × (file_read (known (history c count)) file ≡ unread q b))
  unreadable-marking file = checker.marking-said edition starts c count file

  -- of the straightening 15 too, of the finder 18, 31 and 32, of the scan 31
  pub unstraightened : (file output list : List ℕ) (q e : ℕ) → (straight_said (straightened_answer edition starts c count file output list).result ≡ at_event q e)
      ↔ ((history_answer edition starts c count ≡ Err (refuse q e)) ⊎ (Short edition starts c count file output list × (refuse q e ≡ refuse 15 count)))
  unstraightened file output list = straighten.refused-said edition starts c count file output list

  pub unsearched : (prefix : ℕ) (output : List ℕ) (q e : ℕ) → (found_said (found_answer edition starts c count prefix output).result ≡ at_event q e)
      ↔ (find_refusal edition starts c count prefix (length output) ≡ Err (refuse q e))
  unsearched prefix output = finder.refused-said edition starts c count prefix output

  pub unscanned : (q e : ℕ) → (scan_said (scan_answer edition starts c count) ≡ at_event q e) ↔ (scan_refusal edition starts c count ≡ Err (refuse q e))
  unscanned = scan.refused-said edition starts c count

  -- "no lent buffer changes;" (checker, scan, counts and tally are lent none; "every call ends on every input": every function is proved to return)
  pub nothing_written : (output : List ℕ) → (number (written_said (written_answer edition starts c count output).result) ≡ 0 → ⊥)
      → (written_answer edition starts c count output).output ≡ output
  nothing_written = kept.writer-keeps edition starts c count

  pub nothing-found : (prefix : ℕ) (output : List ℕ) → (number (found_said (found_answer edition starts c count prefix output).result) ≡ 0 → ⊥)
      → (found_answer edition starts c count prefix output).output ≡ output
  nothing-found = kept.finder-keeps edition starts c count

  pub nothing-straightened : (file output list : List ℕ) → ((vs : List ℕ) → straight_said (straightened_answer edition starts c count file output list).result ≡ done vs → ⊥)
      → ((straightened_answer edition starts c count file output list).output ≡ output) × ((straightened_answer edition starts c count file output list).list ≡ list)
  nothing-straightened = kept.straightening-keeps edition starts c count

pub nothing_read : (file : List ℕ) (c : Columns) → (number (read_said (read_answer file c).result) ≡ 0 → ⊥) → (read_answer file c).columns ≡ c
nothing_read = kept.reader-keeps

-- ---- Demand 2. "Reading and writing a history undo each other."

-- (`FittingStarts`, `Fitting` and `Bytes` are what the types of the numbers say)
pub read-what-was-written : (edition : ℕ) (starts : List ℕ) (c d : Columns) (n : ℕ) (out : List ℕ) (len : ℕ) → FittingStarts starts → Fitting c
    → (written_answer edition starts c n out).result ≡ Ok len → hold d n ≡ true
    → ((read_answer (take len (written_answer edition starts c n out).output) d).result ≡ history_read n edition starts)
    × SameEntries n (read_answer (take len (written_answer edition starts c n out).output) d).columns c
read-what-was-written = round.read-written

-- (notes are no part of a history, and are not written)
pub write-what-was-read : (s : List ℕ) (c : Columns) (n : ℕ) (out : List ℕ) → Bytes s → reading (read_answer s c).result ≡ Ok n → length (without_notes s) ≤ length out
    → written_answer (edition_read (read_answer s c).result) (starts_read (read_answer s c).result) (read_answer s c).columns n out
    ≡ answered (Ok (length (without_notes s))) (over (without_notes s) out)
write-what-was-read = round.written_read

-- (a file is read exactly if it is not too long, no note is, and the same file without notes is read; and it is read as that one)
pub notes-passed-over : (s : List ℕ) (l : Log) → (history_of s ≡ readable l) ↔ ((length s ≤ 32768) × (short_notes s ≡ true) × (history_of (without_notes s) ≡ readable l))
notes-passed-over = notes.readable-exactly

pub no-note-written : (edition : ℕ) (starts : List ℕ) (c : Columns) (n : ℕ) (out : List ℕ) (len : ℕ) → FittingStarts starts → Fitting c
    → (written_answer edition starts c n out).result ≡ Ok len
    → without_notes (take len (written_answer edition starts c n out).output) ≡ take len (written_answer edition starts c n out).output
no-note-written = bare.writes-no-notes

module _ (edition : ℕ) (starts : List ℕ) (c : Columns) (n : ℕ) (file : List ℕ) where
  -- "The checker accepts a readable marking exactly when the five rules hold,"
  pub accepts-by-rules : (m : Marking) → history_answer edition starts c n ≡ Ok tt → file_read (known (history c n)) file ≡ content m
      → (check_said (verdict_answer edition starts c n file) ≡ done []) ↔ AllHold (start_of starts) (history c n) m
  accepts-by-rules = checker.rules-said edition starts c n file

  -- "and names the first broken rule, its event and transaction;"
  pub names-first-broken : (r : Rule) (e t : ℕ) → (check_said (verdict_answer edition starts c n file) ≡ broken (rule_number r) e t) ↔ Breaking edition starts c n file r e t
  names-first-broken = checker.broken-said edition starts c n file

  -- "it accepts exactly when the marking's outcomes and order are a justification and no other committed writer of the register stands between a
  -- read's point and its reader."
  pub accepts-justifications : (check_said (verdict_answer edition starts c n file) ≡ done []) ↔ Accepts edition starts c n file
  accepts-justifications = words.accepted-in-words edition starts c n file

  -- (and points are straightened exactly when they are a justification, wherever the points were)
  pub straightens-justifications : (output list : List ℕ)
      → ((k : ℕ) × (l : ℕ) × (straight_said (straightened_answer edition starts c n file output list).result ≡ done (k ∷ l ∷ [])))
      ↔ ((m : Marking) × Passes edition starts c n file output list m × Explains (start_of starts) (history c n) m.places)
  straightens-justifications = words.straightened-in-words edition starts c n file

-- ---- Demand 3. "Scan and finder are exact: opaque exactly when every prefix has a justification;"

module _ (edition : ℕ) (starts : List ℕ) (c : Columns) (count : ℕ) where
  pub opaque-exactly : (scan_said (scan_answer edition starts c count) ≡ done []) ↔ (Passed edition starts c count × AllExplained (start_of starts) (history c count))
  opaque-exactly = words.opaque-in-words edition starts c count

  -- "event e exactly when the prefix ending with e is the first without one;"
  pub faulted-exactly : (e w : ℕ) → (scan_said (scan_answer edition starts c count) ≡ faulted e w)
      ↔ (Passed edition starts c count × ((k : Cause) × ((cause_number k ≡ w) × FaultsAt (start_of starts) (history c count) e k)))
  faulted-exactly = scan.faulted-said edition starts c count

-- "the finder gives the marking of the lowest justification exactly when there is one, else none, and the checker accepts it.": from the
-- bytes of a readable file on, for every prefix of at most 10 transactions and an output as long as the paper says
module _ (file : List ℕ) (c : Columns) (count prefix : ℕ) (output : List ℕ) (d : FromFile file c count prefix output) where
  abbrev edition : ℕ
  edition = (edition_read (read_answer file c).result)

  abbrev starts : List ℕ
  starts = (starts_read (read_answer file c).result)

  abbrev filled : Columns
  filled = (read_answer file c).columns

  pub found-exactly : (n : ℕ) → (found_said (found_answer edition starts filled count prefix output).result ≡ done (n ∷ []))
      ↔ ((J : List Place) × LowestJustified (start_of starts) (take prefix (events_in file)) J × (length (marking_bytes (marked (take prefix (events_in file)) J)) ≡ n))
  found-exactly = from.finds-lowest file c count prefix output d

  pub none-exactly : (found_said (found_answer edition starts filled count prefix output).result ≡ nothing)
      ↔ ((J : List Place) → Justified (start_of starts) (take prefix (events_in file)) J → ⊥)
  none-exactly = from.finds-none file c count prefix output d

  pub found-is-accepted : (n : ℕ) → found_said (found_answer edition starts filled count prefix output).result ≡ done (n ∷ [])
      → check_said (verdict_answer edition starts filled prefix (take n (found_answer edition starts filled count prefix output).output)) ≡ done []
  found-is-accepted = from.found-is-accepted file c count prefix output d

-- ---- The same of the library's calls, whose numbers are read as the header says (`count ≤ most` is what the type of a count says)

-- write, then read: count, edition, start values and entries come back
pub calls-write-then-read : (edition : ℕ) (starts : List ℕ) (c : Columns) (count : ℕ) → count ≤ most → (out : List ℕ) (len : ℕ)
    → decoded one_value never (write_call edition starts c count out).number ≡ done (len ∷ [])
    → (lent : List ℕ) (d : Columns) → FittingStarts starts → Fitting c → hold d count ≡ true
    → (decoded two_values always (read_call (take len (write_call edition starts c count out).output) lent d).number ≡ done (count ∷ edition ∷ []))
    × ((read_call (take len (write_call edition starts c count out).output) lent d).starts ≡ starts)
    × SameEntries count (read_call (take len (write_call edition starts c count out).output) lent d).columns c
calls-write-then-read = calls.write-then-read

-- read, then write: the file without its notes comes back, and nothing behind it changes
pub calls-read-then-write : (file lent : List ℕ) (c : Columns) (n edition : ℕ) → decoded two_values always (read_call file lent c).number ≡ done (n ∷ edition ∷ [])
    → (out : List ℕ) → Bytes file → length (without_notes file) ≤ length out
    → write_call edition (read_call file lent c).starts (read_call file lent c).columns n out
    ≡ put (coded (done (length (without_notes file) ∷ []))) (over (without_notes file) out)
calls-read-then-write = calls.read-then-write

-- find, then check: accepted
pub calls-find-then-check : (edition : ℕ) (starts : List ℕ) (c : Columns) (count prefix : ℕ) → count ≤ most → (out : List ℕ) (n : ℕ)
    → decoded one_value never (find_call edition starts c count prefix out).number ≡ done (n ∷ [])
    → check_call edition starts c prefix (take n (find_call edition starts c count prefix out).output) ≡ coded (done [])
calls-find-then-check = calls.find-then-check

-- nothing changes behind what read, write and find give
pub calls-read-behind : (file lent : List ℕ) (c : Columns) (n edition : ℕ) → decoded two_values always (read_call file lent c).number ≡ done (n ∷ edition ∷ [])
    → (drop n (read_call file lent c).columns.kinds ≡ drop n c.kinds)
    × (drop n (read_call file lent c).columns.transactions ≡ drop n c.transactions)
    × (drop n (read_call file lent c).columns.registers ≡ drop n c.registers)
    × (drop n (read_call file lent c).columns.values ≡ drop n c.values)
    × (drop n (read_call file lent c).columns.threads ≡ drop n c.threads)
calls-read-behind = calls.read_behind

pub calls-write-behind : (edition : ℕ) (starts : List ℕ) (c : Columns) (count : ℕ) → count ≤ most → (out : List ℕ) (len : ℕ)
    → decoded one_value never (write_call edition starts c count out).number ≡ done (len ∷ []) → drop len (write_call edition starts c count out).output ≡ drop len out
calls-write-behind = calls.write-behind

pub calls-find-behind : (edition : ℕ) (starts : List ℕ) (c : Columns) (count prefix : ℕ) → count ≤ most → (out : List ℕ) (n : ℕ)
    → decoded one_value never (find_call edition starts c count prefix out).number ≡ done (n ∷ []) → drop n (find_call edition starts c count prefix out).output ≡ drop n out
calls-find-behind = calls.find-behind
