-- Each number of an answer stands where the call's number has room for it, and comes back out of it: for every edition, start values,
-- columns, file and lent buffer, and every count that its type holds.
-- Assumes nothing.
use Rattle.std.specs.Prelude.{Result, Ok, Err, Option, Some, None}
use mathlib.Core.Path.{◌≡◌, refl, sym, ap, subst, ◌∙◌}
use mathlib.Core.Logic.{◌⊎◌, inl, inr, ⊎_elim}
use Prim.Native.Nat.{ℕ, ◌≤◌, ◌<◌}
use native.Mathlib.Omega.{arith}
use mathlib.Core.Bool.{Bool, true, false, cond}
use mathlib.Core.List.{List, [], ◌∷◌}
use lib.Dec.{ltb}
use lib.ListN.{length, take}
use borrow.Author.Tests.{lt-ltb, le-ltb}
use Rattle.events.specs.declared.event.Event.{Event}
use Rattle.event_log.specs.Checked.{Checked}
use Rattle.events.specs.declared.refusal.Refusal.{Refusal}
use Rattle.events.specs.Said.{Said, event_refused, byte_refused}
use Rattle.lists.specs.Lists.{◌or◌}
use Rattle.events.specs.Events.{is_begin, is_read, is_commit, is_abort, begins}
use Rattle.event_log.specs.Columns.{Columns, history}
use Rattle.event_log.specs.Starts.{start_of}
use Rattle.events.specs.Questions.{readable}
use Rattle.event_log.specs.Answer.{history_answer}
use Rattle.event_log.proofs.ColumnLaws.{history-length}
use Rattle.events.proofs.QuestionLaws.{readable-in, readable-take}
use Rattle.events.proofs.ReadableLaws.{readable-most}
use Rattle.opacity.specs.declared.verdict.Rule.{Rule}
use Rattle.opacity.specs.declared.verdict.Verdict.{Verdict}
use Rattle.opacity.specs.Scan.{Scanned}
use Rattle.opacity.specs.Transactions.{Status, committed, aborted, pending, live, store_reads}
use Rattle.opacity.specs.Counts.{counts}
use Rattle.opacity.specs.Marking.{Marking, verdict, rule_number, put_to, named_event, named_transaction}
use Rattle.opacity.specs.Scan.{cause, cause_number}
use Rattle.opacity.specs.declared.verdict.Cause.TheVariants.{Read, Commit, Abort, Other}
use Rattle.opacity.proofs.Bounds.{at-most-64, transaction-low, reads-low}
use Rattle.opacity.proofs.HowMany.{how-many-low}
use Rattle.opacity.proofs.Meanings.{last-event-means, begin-of-means}
use Rattle.opacity.proofs.MarkingBytes.{readable-length}
use Rattle.opacity.proofs.Theorems.{broken-iff-first, places-are-n, lowest-some}
use Rattle.reader.specs.declared.HistoryRead.{HistoryRead}
use Rattle.reader.specs.Reading.{reading, history_read, read_answer, said as read_said}
use Rattle.writer.specs.Writing.{Writing}
use Rattle.writer.specs.Writing.{written_answer, said as written_said}
use Rattle.writer.proofs.FileLaws.{length-file, length_most}
use Rattle.writer.proofs.RoundTrip.{was_read, was-written}
use Rattle.writer.proofs.StartLaws.{starts-most}
use Rattle.finder.specs.Answer.{Finding}
use Rattle.finder.specs.Answer.{marking_size, found_answer, said as found_said}
use Rattle.finder.proofs.AnswerLaws.{marking-e, refused-e, marking-some, passed}
use Rattle.finder.proofs.OrderLaws.{room-is}
use Rattle.scan.specs.Answer.{Scanning}
use Rattle.scan.specs.Answer.{scan_answer, said as scan_said}
use Rattle.scan.proofs.AnswerLaws.{scanned-e, passed-readable as scan-readable}
use Rattle.scan.proofs.Theorems.{faulted-exactly}
use Rattle.marking.specs.Answer.{Checking}
use Rattle.marking_reader.specs.File.{known, FileRead, content, refused, file_read}
use Rattle.marking.specs.Answer.{ruled, after_columns, verdict_answer, verdict_said, said as check_said}
use Rattle.marking_reader.proofs.ContentLaws.{content-readable}
use Rattle.counts.specs.Answer.{Counting}
use Rattle.counts.specs.Answer.{Tallying}
use Rattle.counts.specs.declared.tally.Tally.{Tally}
use Rattle.counts.specs.Tally.{has_status, of_status, tally}
use Rattle.counts.specs.Answer.{counted, transactions_answer, store_reads_answer, tallied, tally_answer, count_said, tally_said}
use Rattle.straighten.specs.Straight.{straightened}
use Rattle.marking.specs.declared.check.Unchecked.TheVariants.{HistoryRefused, MarkingRefused}
use Rattle.straighten.specs.declared.Unstraightened.TheVariants.{Broken, Refused, MarkingRefused as Unmarked}
use Rattle.straighten.specs.Answer.{Straightening, moved_to, straightened_answer, said as straight_said}
use Rattle.straighten.proofs.StraightLaws.{straight-length, moved-few}
use Rattle.straighten.proofs.AnswerLaws.{answer-means}
use Rattle.codes.specs.Codes.{most, place, Within, Halves, Quarters, Known}
use Rattle.codes.specs.Decoded.{no_value, one_value, two_values, four_values, always, never, of_marking}
use Rattle.codes.proofs.CodeLaws.{two_back, four-back, Decodable}
use Rattle.notes.specs.declared.Note.{Note}
use Rattle.notes.specs.Notes.{next_note, said as note_said}
use Rattle.notes.proofs.NoteLaws.{next-is}
use Rattle.sendoshi.specs.Calls.{AnswerFits}
use Rattle.sendoshi.proofs.Numbers.{Asked, call-number, call-readable}
use Rattle.sendoshi.proofs.Files.{read-limits, MarkingNumber}
use Rattle.sendoshi.proofs.Refusals.{read-refusal, write-refusal, find-refusal, scan-refusal, check-history, OfMarking, check-marking, straighten-refusal, straighten-marking}

-- ---- refusals

-- a question with its event, where the call's count fits its type
module _ {low high count : ℕ} {r : Refusal} (small : count ≤ most) (a : Asked low high count r) where
  at-fits : r.at ≤ most
  at-fits = ⊎_elim (λ i. omega arith) (λ i. omega arith) a.place

  event-known : 1 ≤ low → high ≤ 99 → Known (event_refused r)
  event-known l h = (record { least = omega (arith, a.number.least); most = omega (arith, a.number.most) }, at-fits)

  pub event-decodable : (values : ℕ → List ℕ) → 1 ≤ low → high ≤ 99 → Decodable values never (event_refused r)
  event-decodable values l h = (event-known l h, refl)

  -- one of 3 to 17, where the marking's questions come with a byte
  pub history-decodable : (values : ℕ → List ℕ) → 3 ≤ low → high ≤ 17 → Decodable values of_marking (event_refused r)
  unfolding of_marking ◌or◌
  history-decodable values l h =
      let b : ltb r.question 3 ≡ false = le-ltb r.question 3 (omega (arith, a.number.least)) in
      let d : ltb 20 r.question ≡ false = le-ltb 20 r.question (omega (arith, a.number.most)) in
      (event-known (omega arith) (omega arith), rw (b, d))

pub marking-decodable : (values : ℕ → List ℕ) {r : Refusal} → OfMarking r → Decodable values of_marking (byte_refused r)
unfolding of_marking ◌or◌
marking-decodable values {r} m =
    ((record { least = m.0.least; most = omega (arith, m.0.most) }, omega (arith, m.1)), ⊎_elim low high m.0.apart)
  where
    low : r.question ≤ 2 → (ltb r.question 3 or ltb 20 r.question) ≡ true
    low l = let b : ltb r.question 3 ≡ true = lt-ltb r.question 3 (omega arith) in rw b

    high : 21 ≤ r.question → (ltb r.question 3 or ltb 20 r.question) ≡ true
    high l =
        let b : ltb r.question 3 ≡ false = le-ltb r.question 3 (omega arith) in
        let d : ltb 20 r.question ≡ true = lt-ltb 20 r.question (omega arith) in
        rw (b, d)

-- ---- the reader

read-halves : (file : List ℕ) (c : Columns) (n : HistoryRead) → (read_answer file c).result ≡ Ok n → Halves n.edition n.count
read-halves file c n x =
    let w = was_read file c n.count (ap reading x) in
    let t : Ok n ≡ history_read n.count w.says.edition w.says.starts = sym x ∙ w.read in
    let u : n.edition ≡ w.says.edition = cc in
    let l = read-limits file w.says w.file in
    record { upper = ⊎_elim (λ a. omega arith) (λ a. omega arith) l.edition; lower = omega (arith, l.events, w.count) }

pub read-decodable : (file : List ℕ) (c : Columns) → Decodable two_values always (read_said (read_answer file c).result)
unfolding read_said
read-decodable file c = go (read_answer file c).result refl
  where
    go : (r : Result HistoryRead Refusal) → (read_answer file c).result ≡ r → Decodable two_values always (read_said r)
    go (Ok n) w = let h = read-halves file c n w in (h, two_back n.edition n.count h)
    go (Err r) w =
        let n = read-refusal file c r (ap reading w) in
        ((record { least = n.0.least; most = omega (arith, n.0.most) }, omega (arith, n.1)), refl)

-- ---- the writer

module _ (edition : ℕ) (starts : List ℕ) (c : Columns) (count : ℕ) (small : count ≤ most) where
  pub write-decodable : (output : List ℕ) → Decodable one_value never (written_said (written_answer edition starts c count output).result)
  unfolding written_said place
  write-decodable output = go (written_answer edition starts c count output).result refl
    where
      go : (r : Writing) → (written_answer edition starts c count output).result ≡ r → Decodable one_value never (written_said r)
      go (Ok n) w =
          let a = was-written edition starts c count output n w in
          let h = history c count in
          (omega (arith, a.length-is, length-file edition starts h, starts-most starts 32, length_most h, readable-most h (readable-in edition h a.events)), refl)
      go (Err r) w = event-decodable small (write-refusal edition starts c count output r w) one_value (omega arith) (omega arith)

  -- ---- the finder

  -- the length of a marking: its transactions are at most 10, and its store reads at most as many as the events
  marking-fits : (prefix : ℕ) (output : List ℕ) (n : ℕ) → (found_answer edition starts c count prefix output).result ≡ Ok (Some n) → n ≤ most
  unfolding found_answer
  marking-fits prefix output n x =
      let h : List Event = take prefix (history c count) in
      let a = marking-e _ _ output n x in
      let p = passed edition starts c count prefix (length output) a.passes in
      let i : prefix ≤ length (history c count) = omega (arith, p.inside, history-length c count) in
      let r : readable h ≡ true = readable-take (history c count) prefix i (readable-in edition (history c count) p.readable) in
      let j = marking-some (start_of starts) h a.found in
      let o = (lowest-some (start_of starts) h r j.0).0 j.1 in
      let s : length a.bytes ≡ marking_size h = ap length j.2 ∙ room-is h j.0 (places-are-n (begins h) j.0 o.justifies.order) in
      omega (arith, a.size, s, p.few, reads-low h r)

  pub find-decodable : (prefix : ℕ) (output : List ℕ) → Decodable one_value never (found_said (found_answer edition starts c count prefix output).result)
  unfolding found_said place found_answer
  find-decodable prefix output = go (found_answer edition starts c count prefix output).result refl
    where
      go : (r : Finding) → (found_answer edition starts c count prefix output).result ≡ r → Decodable one_value never (found_said r)
      go (Ok (Some n)) w = (marking-fits prefix output n w, refl)
      go (Ok None) w = (tt, tt)
      go (Err r) w =
          event-decodable small (find-refusal edition starts c count prefix (length output) r (refused-e _ _ output r w).0) one_value (omega arith) (omega arith)

  -- ---- the scan

  its-cause : (e : Event) → Within 1 4 (cause_number (cause e))
  unfolding cause
  its-cause e = go (is_read e) (is_begin e) (is_commit e) (is_abort e)
    where
      go : (r n c a : Bool) → Within 1 4 (cause_number (cond r Read (cond n Other (cond c Commit (cond a Abort Other)))))
      go true n c a = record { least = omega arith; most = omega arith }
      go false true c a = record { least = omega arith; most = omega arith }
      go false false true a = record { least = omega arith; most = omega arith }
      go false false false true = record { least = omega arith; most = omega arith }
      go false false false false = record { least = omega arith; most = omega arith }

  pub scan-decodable : Decodable no_value never (scan_said (scan_answer edition starts c count))
  unfolding scan_said scan_answer
  scan-decodable = go (scan_answer edition starts c count) refl
    where
      go : (j : Scanning) → scan_answer edition starts c count ≡ j → Decodable no_value never (scan_said j)
      go (Ok (Ok tt)) w = (tt, refl)
      go (Ok (Err k)) w =
          let p = (scanned-e _ _ _ w).0 in
          let f = (faulted-exactly edition starts c count p k.event k.cause).0 w in
          let x : Within 1 4 (cause_number k.cause) = rw f.why (its-cause _) in
          ((x, omega (arith, f.inside, readable-most (history c count) (scan-readable edition starts c count p))), tt)
      go (Err r) w = event-decodable small (scan-refusal edition starts c count r w) no_value (omega arith) (omega arith)

-- ---- the checker

-- a broken rule's event and transaction are those of a readable history
pub record Named (e t : ℕ) : Type 0 where
  pub event : e < 2048
  pub transaction : t < 64

module _ (h : List Event) (r : readable h ≡ true) where
  named-within : (q : Rule) (k : ℕ) → k < put_to h q → Named (named_event h q k) (named_transaction h q k)
  named-within Rule.A k l = record { event = omega (arith, (last-event-means h r k l).inside, readable-most h r); transaction = omega (arith, at-most-64 h r) }
  named-within Rule.B k l = record { event = omega (arith, (begin-of-means h r k l).inside, readable-most h r); transaction = omega (arith, at-most-64 h r) }
  named-within Rule.C k l = record { event = omega (arith, readable-most h r); transaction = transaction-low h r k l }
  named-within Rule.D k l = record { event = omega (arith, readable-most h r); transaction = transaction-low h r k l }
  named-within Rule.E k l = record { event = omega (arith, readable-most h r); transaction = transaction-low h r k l }

  rule-within : (q : Rule) → Within 1 5 (rule_number q)
  rule-within Rule.A = record { least = omega arith; most = omega arith }
  rule-within Rule.B = record { least = omega arith; most = omega arith }
  rule-within Rule.C = record { least = omega arith; most = omega arith }
  rule-within Rule.D = record { least = omega arith; most = omega arith }
  rule-within Rule.E = record { least = omega arith; most = omega arith }

  pub verdict-decodable : (values : ℕ → List ℕ) → values (place []) ≡ [] → (start : ℕ → ℕ) (m : Marking) (v : Verdict) → verdict start h m ≡ v → Decodable values of_marking (verdict_said v)
  verdict-decodable values none start m Verdict.Accepted e = (tt, none)
  verdict-decodable values none start m (Verdict.Broken q i t) e =
      let w = (broken-iff-first start h r m q i t).0 e in
      let k = named-within q w.0 w.1.inside in
      ((rule-within q, record { upper = omega (arith, w.2, k.event); lower = omega (arith, w.3, k.transaction) }), tt)

module _ (edition : ℕ) (starts : List ℕ) (c : Columns) (count : ℕ) (small : count ≤ most) where
  pub check-decodable : (file : List ℕ) → Decodable no_value of_marking (check_said (verdict_answer edition starts c count file))
  unfolding check_said verdict_answer
  check-decodable file = go (verdict_answer edition starts c count file) refl
    where
      ruled-decodable : history_answer edition starts c count ≡ Ok tt → (y : FileRead) (v : Verdict) → ruled (start_of starts) (history c count) y ≡ Ok v
          → Decodable no_value of_marking (verdict_said v)
      ruled-decodable fine (content m) v d =
          let e : verdict (start_of starts) (history c count) m ≡ v = cc in
          verdict-decodable (history c count) (call-readable edition starts c count fine) no_value refl (start_of starts) m v e
      ruled-decodable fine (refused a b) v d = let z : ◌≡◌ {A = ℕ} 0 1 = cc in absurd (omega arith)

      judged : (v : Verdict) (y : Checked) → history_answer edition starts c count ≡ y → after_columns (start_of starts) (history c count) file y ≡ Ok v
          → Decodable no_value of_marking (verdict_said v)
      judged v (Ok tt) fine d = ruled-decodable fine (file_read (known (history c count)) file) v d
      judged v (Err a) fine d = let z : ◌≡◌ {A = ℕ} 0 1 = cc in absurd (omega arith)

      go : (j : Checking) → verdict_answer edition starts c count file ≡ j → Decodable no_value of_marking (check_said j)
      go (Ok v) w = judged v (history_answer edition starts c count) refl w
      go (Err (HistoryRefused r)) w = history-decodable small (check-history edition starts c count file r w) no_value (omega arith) (omega arith)
      go (Err (MarkingRefused r)) w = marking-decodable no_value (check-marking edition starts c count file r w)

  -- ---- the straightening

  straightened-halves : (file output list : List ℕ) (n k : ℕ) → (straightened_answer edition starts c count file output list).result ≡ moved_to n k → Halves k n
  straightened-halves file output list n k x =
      let d = answer-means edition starts c count file output list (moved_to n k) x in
      let m = d.marking in
      let h = history c count in
      let r = call-readable edition starts c count d.passes.fine in
      let f = content-readable h file m r d.passes.holds in
      record {
        upper = omega (arith, d.count, moved-few (start_of starts) h m f, reads-low h r);
        lower = omega (arith, d.size, straight-length (start_of starts) h m, readable-length h m f, at-most-64 h r, reads-low h r);
      }

  pub straighten-decodable : (file output list : List ℕ) → Decodable two_values of_marking (straight_said (straightened_answer edition starts c count file output list).result)
  unfolding straight_said
  straighten-decodable file output list = go (straightened_answer edition starts c count file output list).result refl
    where
      -- of a broken rule no values are asked
      broken-known : (q : Rule) (i t : ℕ) → Decodable no_value of_marking (verdict_said (Verdict.Broken q i t)) → Decodable two_values of_marking (verdict_said (Verdict.Broken q i t))
      broken-known q i t k = k

      go : (j : Straightening) → (straightened_answer edition starts c count file output list).result ≡ j → Decodable two_values of_marking (straight_said j)
      go (Ok d) w = let h = straightened-halves file output list d.length d.moved w in (h, two_back d.moved d.length h)
      go (Err (Broken q i t)) w =
          let d = (answer-means edition starts c count file output list (Err (Broken q i t)) w).0 in
          let h = history c count in
          let r = call-readable edition starts c count d.1.fine in
          let m = straightened (start_of starts) h d.0 in
          broken-known q i t (verdict-decodable h r no_value refl (start_of starts) m (Verdict.Broken q i t) d.2)
      go (Err (Refused r)) w = history-decodable small (straighten-refusal edition starts c count file output list r w) two_values (omega arith) (omega arith)
      go (Err (Unmarked r)) w = marking-decodable two_values (straighten-marking edition starts c count file output list r w)

-- ---- the counts and the tally

module _ (edition : ℕ) (starts : List ℕ) (c : Columns) (count : ℕ) (small : count ≤ most) where
  count-decodable : (n : ℕ) → (readable (history c count) ≡ true → n ≤ most) → Decodable one_value never (count_said (counted (history_answer edition starts c count) n))
  unfolding count_said place
  count-decodable n f = go (history_answer edition starts c count) refl
    where
      go : (y : Checked) → history_answer edition starts c count ≡ y → Decodable one_value never (count_said (counted y n))
      go (Ok tt) w = (f (call-readable edition starts c count w), refl)
      go (Err r) w = event-decodable small (call-number edition starts c count r w) one_value (omega arith) (omega arith)

  pub transactions-decodable : Decodable one_value never (count_said (transactions_answer edition starts c count))
  unfolding transactions_answer counts
  transactions-decodable = count-decodable (begins (history c count)) (λ r. omega (arith, at-most-64 (history c count) r))

  pub store-reads-decodable : Decodable one_value never (count_said (store_reads_answer edition starts c count))
  unfolding store_reads_answer counts
  store-reads-decodable = count-decodable (length (store_reads (history c count))) (λ r. omega (arith, reads-low (history c count) r))

  -- no more transactions stand so than begin
  status-few : readable (history c count) ≡ true → (s : Status) → length (of_status s (history c count)) ≤ 64
  unfolding of_status
  status-few r s = omega (arith, how-many-low (has_status s (history c count)) (begins (history c count)), at-most-64 (history c count) r)

  tally-quarters : readable (history c count) ≡ true
      → Quarters (tally (history c count)).committed (tally (history c count)).aborted (tally (history c count)).pending (tally (history c count)).live
  unfolding tally
  tally-quarters r =
      record {
        first = omega (arith, status-few r committed);
        second = omega (arith, status-few r aborted);
        third = omega (arith, status-few r pending);
        fourth = omega (arith, status-few r live);
      }

  pub tally-decodable : Decodable four_values never (tally_said (tally_answer edition starts c count))
  unfolding tally_said tally_answer
  tally-decodable = go (history_answer edition starts c count) refl
    where
      go : (y : Checked) → history_answer edition starts c count ≡ y → Decodable four_values never (tally_said (tallied y (tally (history c count))))
      go (Ok tt) w = let q = tally-quarters (call-readable edition starts c count w) in (q, four-back _ _ _ _ q)
      go (Err r) w = event-decodable small (call-number edition starts c count r w) four_values (omega arith) (omega arith)

-- ---- the next note

-- its numbers are told beside the code, which comes back
pub note-decodable : (a : Option Note) → Decodable no_value never (note_said a)
unfolding note_said
note-decodable (Some x) = (tt, refl)
note-decodable None = (tt, tt)

-- they are at most as large as the file is long
pub note-fits : (file : List ℕ) (from : ℕ) → AnswerFits (next_note file from)
note-fits file from = go (next_note file from) refl
  where
    tells : (a : Option Note) → next_note file from ≡ a → AnswerFits a
    tells (Some x) w =
        let i = next-is file from x w in
        record {
          events = omega (arith, i.fits, i.few, i.stands.within);
          start = omega (arith, i.fits, i.stands.within);
          size = omega (arith, i.fits, i.stands.within);
        }
    tells None w = tt

    go : (a : Option Note) → next_note file from ≡ a → AnswerFits (next_note file from)
    go a w = subst AnswerFits (sym w) (tells a w)
