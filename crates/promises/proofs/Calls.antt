-- The calls of the library, one after the other: what was written is read, what was read is written, what was found or straightened is
-- accepted, all notes are told, and no lent buffer changes where a call is not done, nor behind what it gives where it is. A number is read as the header says
-- (`decoded`); `count ≤ most` is what the type of a count says.
-- Assumes nothing.
use Rattle.reader.specs.Reading.{reading, edition_read, starts_read}
use Rattle.opacity.specs.Scan.{fault, cause_number}
use Rattle.opacity.specs.declared.verdict.Cause.{Cause}
use Rattle.std.specs.Prelude.{Option, Result, Ok, Err, Some, None}
use Rattle.events.specs.declared.refusal.Refusal.{Refusal}
use Prim.Native.Nat.{ℕ, ◌+◌, ◌*◌, ◌≤◌, ◌<◌}
use native.Mathlib.Omega.{arith}
use mathlib.Core.Path.{◌≡◌, refl, sym, ap, subst, ◌∙◌}
use mathlib.Core.Bool.{true}
use mathlib.Core.List.{List, [], ◌∷◌, ◌++◌, map, Memᴰ}
use lib.ListN.{length, take, drop, length-map}
use Rattle.events.specs.declared.event.Event.{Event}
use Rattle.records.specs.Bytes.{Bytes, over}
use Rattle.event_log.specs.Columns.{Columns, history, hold, filled_with, Fitting}
use Rattle.events.specs.Said.{done, nothing, faulted, broken}
use Rattle.event_log.specs.Starts.{FittingStarts}
use Rattle.events.specs.Events.{begins}
use Rattle.lists.specs.Lists.{range}
use Rattle.records.proofs.BufferLaws.{drop-over}
use Rattle.event_log.proofs.ColumnLaws.{history-length}
use Rattle.lists.proofs.ListLaws.{keep-length, range_length}
use Rattle.reader.specs.declared.HistoryRead.{HistoryRead}
use Rattle.reader.specs.Reading.{read_answer, history_read, said as read_said}
use Rattle.writer.specs.Writing.{Writing}
use Rattle.writer.proofs.FileLaws.{length-file, length_most}
use Rattle.writer.proofs.StartLaws.{starts-most}
use Rattle.writer.specs.Writing.{file_of, WrittenAnswer, SameEntries, written_answer, said as written_said}
use Rattle.writer.proofs.RoundTrip.{was_read, read-written, written_read, nothing-behind, refused-unread, refused-unwritten}
use Rattle.finder.specs.Answer.{Finding}
use Rattle.finder.specs.Answer.{marking_size, found_answer, said as found_said}
use Rattle.finder.proofs.AnswerLaws.{said-marking}
use Rattle.finder.proofs.Theorems.{written, refused-unchanged, none-unchanged}
use Rattle.opacity.specs.declared.verdict.Rule.TheVariants.{D}
use Rattle.opacity.specs.Scan.{Scanned}
use Rattle.opacity.specs.Counts.{counts}
use Rattle.opacity.specs.Transactions.{is_store_read, store_reads}
use Rattle.scan.specs.Answer.{scan_answer, said as scan_said}
use Rattle.scan.proofs.AnswerLaws.{said-fault}
use Rattle.scan.proofs.Theorems.{no-cause-four}
use Rattle.marking.specs.Answer.{verdict_answer, said as check_said}
use Rattle.straighten.specs.declared.Unstraightened.TheVariants.{Broken}
use Rattle.straighten.specs.Answer.{moved_to, straightened_answer, said as straight_said}
use Rattle.straighten.proofs.AnswerLaws.{answer-means as straight-means}
use Rattle.straighten.proofs.Theorems.{said-straightened, said-broken, never-broken-D, untouched, written_behind, written-accepted}
use Rattle.counts.specs.declared.tally.Tally.{Tally}
use Rattle.counts.proofs.SaidLaws.{transactions-exactly, tallied-exactly}
use Rattle.counts.proofs.Theorems.{adds-up}
use Rattle.notes.specs.declared.Note.{Note}
use Rattle.notes.specs.Notes.{notes_of, next_note, said as note_said, Stands, IsNext, first_of}
use Rattle.notes.specs.Without.{without_notes}
use Rattle.notes.proofs.NoteLaws.{next-is, next-none, next-first, next-again, events-most}
use Rattle.codes.specs.Codes.{most, coded}
use Rattle.codes.specs.Decoded.{decoded, no_value, one_value, two_values, four_values, always, never, of_marking, code_of}
use Rattle.codes.proofs.CodeLaws.{decodes, done-code}
use Rattle.sendoshi.specs.Calls.{put, starts_after, read_call, write_call, find_call, scan_call, check_call, straighten_call, transactions_call, tally_call, note_after, note_filled, next_note_call}
use Rattle.sendoshi.proofs.Bounds.{read-decodable, write-decodable, find-decodable, scan-decodable, straighten-decodable, transactions-decodable, tally-decodable, note-decodable}
use Rattle.promises.proofs.FinderAccepted.{found-accepted}

-- ---- what an answer is, by what its number says

-- what the number of a history read tells
abbrev Read : Result HistoryRead Refusal → ℕ → ℕ → Type 0
Read a n edition = (reading a ≡ Ok n) × (edition_read a ≡ edition)

said_read : (a : Result HistoryRead Refusal) (n edition : ℕ) → read_said a ≡ done (n ∷ edition ∷ []) → Read a n edition
unfolding read_said
said_read (Ok r) n edition x = let i : r.count ≡ n = cc in let j : r.edition ≡ edition = cc in (ap Ok i, j)
said_read (Err r) n edition x = absurd (let z : ◌≡◌ {A = ℕ} 0 1 = cc in omega arith)

said-written : (a : Writing) (n : ℕ) → written_said a ≡ done (n ∷ []) → a ≡ Ok n
unfolding written_said
said-written (Ok k) n e = cc
said-written (Err r) n e = absurd (let z : ◌≡◌ {A = ℕ} 0 1 = cc in omega arith)

said-next : (a : Option Note) → note_said a ≡ done [] → (x : Note) × (a ≡ Some x)
unfolding note_said
said-next (Some x) e = (x, refl)
said-next None e = absurd (let z : ◌≡◌ {A = ℕ} 0 1 = cc in omega arith)

said-none : (a : Option Note) → note_said a ≡ nothing → a ≡ None
unfolding note_said
said-none (Some x) e = absurd (let z : ◌≡◌ {A = ℕ} 0 1 = cc in omega arith)
said-none None e = refl

-- ---- read

module _ (file lent : List ℕ) (c : Columns) where
  pub read-says : decoded two_values always (read_call file lent c).number ≡ read_said (read_answer file c).result
  unfolding read_call
  read-says = decodes two_values always _ (read-decodable file c)

  pub read_keeps : (code_of (read_call file lent c).number ≡ 0 → ⊥) → ((read_call file lent c).starts ≡ lent) × ((read_call file lent c).columns ≡ c)
  unfolding read_call read_said starts_after
  read_keeps n = go (read_answer file c).result refl
    where
      go : (r : Result HistoryRead Refusal) → (read_answer file c).result ≡ r → (starts_after (read_answer file c).result lent ≡ lent) × ((read_answer file c).columns ≡ c)
      go (Ok k) w = absurd (n (done-code two_values always (read-decodable file c) _ (ap read_said w)))
      go (Err r) w = (ap (λ (x : Result HistoryRead Refusal). starts_after x lent) w, (refused-unread file c r.question r.at (ap reading w)).0)

  module _ (n edition : ℕ) (read : decoded two_values always (read_call file lent c).number ≡ done (n ∷ edition ∷ [])) where
    is_read : (reading (read_answer file c).result ≡ Ok n) × ((edition_read (read_answer file c).result) ≡ edition)
    is_read = said_read (read_answer file c).result n edition (sym read-says ∙ read)

    starts-read : (read_call file lent c).starts ≡ (starts_read (read_answer file c).result)
    unfolding read_call starts_after
    starts-read = go (read_answer file c).result is_read.0
      where
        go : (r : Result HistoryRead Refusal) → reading r ≡ Ok n → starts_after r lent ≡ starts_read r
        go (Ok r) w = refl
        go (Err r) w = absurd (let z : ◌≡◌ {A = ℕ} 0 1 = cc in omega arith)

    -- writing what was read gives the file without its notes back, and nothing behind it changes
    pub read-then-write : (out : List ℕ) → Bytes file → length (without_notes file) ≤ length out
        → write_call edition (read_call file lent c).starts (read_call file lent c).columns n out
        ≡ put (coded (done (length (without_notes file) ∷ []))) (over (without_notes file) out)
    unfolding write_call read_call written_said
    read-then-write out by room =
        let r = is_read in
        (λ i. write_call (sym r.1 i) (starts-read i) (read_answer file c).columns n out)
        ∙ ap (λ (a : WrittenAnswer). put (coded (written_said a.result)) a.output) (written_read file c n out by r.0 room)

    -- behind the entries read every column is as it was
    behind : (f : Event → ℕ) (l : List ℕ) (h : List Event) → length h ≡ n → drop n (over (map f h) l) ≡ drop n l
    behind f l h e = drop-over (map f h) l n (length-map h f ∙ e)

    pub read_behind : (drop n (read_call file lent c).columns.kinds ≡ drop n c.kinds)
        × (drop n (read_call file lent c).columns.transactions ≡ drop n c.transactions)
        × (drop n (read_call file lent c).columns.registers ≡ drop n c.registers)
        × (drop n (read_call file lent c).columns.values ≡ drop n c.values)
        × (drop n (read_call file lent c).columns.threads ≡ drop n c.threads)
    unfolding read_call filled_with
    read_behind =
        let w = was_read file c n is_read.0 in
        let h = w.says.events in (
          ap (λ (x : Columns). drop n x.kinds) w.filled ∙ behind (λ e. e.kind) c.kinds h w.count,
          ap (λ (x : Columns). drop n x.transactions) w.filled ∙ behind (λ e. e.transaction) c.transactions h w.count,
          ap (λ (x : Columns). drop n x.registers) w.filled ∙ behind (λ e. e.register) c.registers h w.count,
          ap (λ (x : Columns). drop n x.values) w.filled ∙ behind (λ e. e.value) c.values h w.count,
          ap (λ (x : Columns). drop n x.threads) w.filled ∙ behind (λ e. e.thread) c.threads h w.count,
        )

-- ---- write

module _ (edition : ℕ) (starts : List ℕ) (c : Columns) (count : ℕ) (small : count ≤ most) (out : List ℕ) where
  pub write-says : decoded one_value never (write_call edition starts c count out).number ≡ written_said (written_answer edition starts c count out).result
  unfolding write_call
  write-says = decodes one_value never _ (write-decodable edition starts c count small out)

  pub write_keeps : (code_of (write_call edition starts c count out).number ≡ 0 → ⊥) → (write_call edition starts c count out).output ≡ out
  unfolding write_call written_said
  write_keeps n = go (written_answer edition starts c count out).result refl
    where
      go : (r : Writing) → (written_answer edition starts c count out).result ≡ r → (written_answer edition starts c count out).output ≡ out
      go (Ok k) w = absurd (n (done-code one_value never (write-decodable edition starts c count small out) _ (ap written_said w)))
      go (Err r) w = refused-unwritten edition starts c count out r w

  module _ (len : ℕ) (done-so : decoded one_value never (write_call edition starts c count out).number ≡ done (len ∷ [])) where
    is-written : (written_answer edition starts c count out).result ≡ Ok len
    is-written = said-written _ len (sym write-says ∙ done-so)

    -- reading what was written gives the count, the edition, the start values and the entries back
    pub write-then-read : (lent : List ℕ) (d : Columns) → FittingStarts starts → Fitting c → hold d count ≡ true
        → (decoded two_values always (read_call (take len (write_call edition starts c count out).output) lent d).number ≡ done (count ∷ edition ∷ []))
        × ((read_call (take len (write_call edition starts c count out).output) lent d).starts ≡ starts)
        × SameEntries count (read_call (take len (write_call edition starts c count out).output) lent d).columns c
    unfolding write_call read_call read_said starts_after
    write-then-read lent d small-starts fit room =
        let r = read-written edition starts c d count out len small-starts fit is-written room in (
          read-says (take len (written_answer edition starts c count out).output) lent d ∙ ap read_said r.0,
          ap (λ (a : Result HistoryRead Refusal). starts_after a lent) r.0,
          r.1,
        )

    pub write-behind : drop len (write_call edition starts c count out).output ≡ drop len out
    unfolding write_call
    write-behind = nothing-behind edition starts c count out len is-written

-- ---- find

module _ (edition : ℕ) (starts : List ℕ) (c : Columns) (count prefix : ℕ) (small : count ≤ most) (out : List ℕ) where
  pub find-says : decoded one_value never (find_call edition starts c count prefix out).number ≡ found_said (found_answer edition starts c count prefix out).result
  unfolding find_call
  find-says = decodes one_value never _ (find-decodable edition starts c count small prefix out)

  pub find-keeps : (code_of (find_call edition starts c count prefix out).number ≡ 0 → ⊥) → (find_call edition starts c count prefix out).output ≡ out
  unfolding find_call found_said
  find-keeps n = go (found_answer edition starts c count prefix out).result refl
    where
      go : (r : Finding) → (found_answer edition starts c count prefix out).result ≡ r → (found_answer edition starts c count prefix out).output ≡ out
      go (Ok (Some k)) w = absurd (n (done-code one_value never (find-decodable edition starts c count small prefix out) _ (ap found_said w)))
      go (Ok None) w = none-unchanged edition starts c count prefix out w
      go (Err r) w = refused-unchanged edition starts c count prefix out r w

  module _ (n : ℕ) (found : decoded one_value never (find_call edition starts c count prefix out).number ≡ done (n ∷ [])) where
    is_found : (found_answer edition starts c count prefix out).result ≡ Ok (Some n)
    is_found = said-marking _ n (sym find-says ∙ found)

    -- the checker, called on exactly the bytes found with the prefix as the count, accepts them
    pub find-then-check : check_call edition starts c prefix (take n (find_call edition starts c count prefix out).output) ≡ coded (done [])
    unfolding find_call check_call check_said
    find-then-check = ap (λ a. coded (check_said a)) (found-accepted edition starts c count prefix out n is_found)

    pub find-behind : drop n (find_call edition starts c count prefix out).output ≡ drop n out
    unfolding find_call
    find-behind = (written edition starts c count prefix out n is_found).behind

-- ---- straighten

module _ (edition : ℕ) (starts : List ℕ) (c : Columns) (count : ℕ) (small : count ≤ most) (file out list : List ℕ) where
  pub straighten-says : decoded two_values of_marking (straighten_call edition starts c count file out list).number ≡ straight_said (straightened_answer edition starts c count file out list).result
  unfolding straighten_call
  straighten-says = decodes two_values of_marking _ (straighten-decodable edition starts c count small file out list)

  pub straighten-keeps : (code_of (straighten_call edition starts c count file out list).number ≡ 0 → ⊥)
      → ((straighten_call edition starts c count file out list).output ≡ out) × ((straighten_call edition starts c count file out list).list ≡ list)
  unfolding straighten_call straight_said
  straighten-keeps n =
      untouched edition starts c count file out list
      (λ k l w. n (done-code two_values of_marking (straighten-decodable edition starts c count small file out list) _ (ap straight_said w)))

  module _ (n k : ℕ) (straight : decoded two_values of_marking (straighten_call edition starts c count file out list).number ≡ done (n ∷ k ∷ [])) where
    is-straight : (straightened_answer edition starts c count file out list).result ≡ moved_to n k
    is-straight = said-straightened _ n k (sym straighten-says ∙ straight)

    pub straighten-then-check : check_call edition starts c count (take n (straighten_call edition starts c count file out list).output) ≡ coded (done [])
    unfolding straighten_call check_call check_said
    straighten-then-check = ap (λ a. coded (check_said a)) (written-accepted edition starts c count file out list n k is-straight)

    pub straighten-behind : (drop n (straighten_call edition starts c count file out list).output ≡ drop n out) × (drop k (straighten_call edition starts c count file out list).list ≡ drop k list)
    unfolding straighten_call
    straighten-behind = written_behind edition starts c count file out list n k is-straight

-- ---- what no call says

-- code 104 never comes of a scan,
pub scan-never-104 : (edition : ℕ) (starts : List ℕ) (c : Columns) (count : ℕ) → count ≤ most → (e : ℕ) → decoded no_value never (scan_call edition starts c count) ≡ faulted e 4 → ⊥
unfolding scan_call
scan-never-104 edition starts c count small e x =
    let s : scan_said (scan_answer edition starts c count) ≡ faulted e 4 = sym (decodes no_value never _ (scan-decodable edition starts c count small)) ∙ x in
    let f = said-fault (scan_answer edition starts c count) e 4 s in
    go f.0 f.1.0 f.1.1
  where
    go : (k : Cause) → cause_number k ≡ 4 → scan_answer edition starts c count ≡ Ok (fault e k) → ⊥
    go Cause.Read n y = omega (arith, n)
    go Cause.Commit n y = omega (arith, n)
    go Cause.Abort n y = omega (arith, n)
    go Cause.Other n y = no-cause-four edition starts c count e y

-- and 204 never of a straightening
pub straighten-never-204 : (edition : ℕ) (starts : List ℕ) (c : Columns) (count : ℕ) → count ≤ most → (file out list : List ℕ) (e t : ℕ)
    → decoded two_values of_marking (straighten_call edition starts c count file out list).number ≡ broken 4 e t → ⊥
straighten-never-204 edition starts c count small file out list e t x =
    let s = said-broken _ D e t (sym (straighten-says edition starts c count small file out list) ∙ x) in
    let w = (straight-means edition starts c count file out list (Err (Broken D e t)) s).0 in
    never-broken-D edition starts c count file out list w.0 w.1 e t s

-- ---- the tally

-- The four numbers of a tally add up to the number of transactions in the same columns.
pub tally-adds-up : (edition : ℕ) (starts : List ℕ) (c : Columns) (count : ℕ) → count ≤ most → (x : Tally)
    → decoded four_values never (tally_call edition starts c count) ≡ done (x.committed ∷ x.aborted ∷ x.pending ∷ x.live ∷ [])
    → decoded one_value never (transactions_call edition starts c count) ≡ done ((x.committed + x.aborted + x.pending + x.live) ∷ [])
unfolding tally_call transactions_call counts
tally-adds-up edition starts c count small x t =
    let w = (tallied-exactly edition starts c count x).0 (sym (decodes four_values never _ (tally-decodable edition starts c count small)) ∙ t) in
    let s = ap (λ (y : Tally). y.committed + y.aborted + y.pending + y.live) (sym w.1) ∙ adds-up (history c count) in
    decodes one_value never _ (transactions-decodable edition starts c count small) ∙ (transactions-exactly edition starts c count _).1 (w.0, sym s)

-- ---- the next note

module _ (file : List ℕ) (from : ℕ) (lent : List ℕ) where
  pub next-note-says : decoded no_value never (next_note_call file from lent).number ≡ note_said (next_note file from)
  unfolding next_note_call
  next-note-says = decodes no_value never _ (note-decodable (next_note file from))

  pub next-note-keeps : (code_of (next_note_call file from lent).number ≡ 0 → ⊥) → (next_note_call file from lent).note ≡ lent
  unfolding next_note_call note_said note_after
  next-note-keeps n = go (next_note file from) refl
    where
      go : (a : Option Note) → next_note file from ≡ a → note_after (next_note file from) lent ≡ lent
      go (Some x) w = absurd (n (done-code no_value never (note-decodable (next_note file from)) [] (ap note_said w)))
      go None w = ap (λ (a : Option Note). note_after a lent) w

  -- where it is done, the three numbers are those of the next note, which stands in the file
  pub next-note-tells : decoded no_value never (next_note_call file from lent).number ≡ done []
      → (x : Note) × IsNext from (notes_of file) x × Stands file x × ((next_note_call file from lent).note ≡ x.events ∷ x.start ∷ x.size ∷ [])
  unfolding next_note_call note_after
  next-note-tells told =
      let a = said-next (next_note file from) (sym next-note-says ∙ told) in
      let w = next-is file from a.0 a.1 in
      (a.0, w.next, w.stands, ap (λ (y : Option Note). note_after y lent) a.1)

  -- and where there is none, every note of a file that is not too long is before the byte
  pub next-note-none : decoded no_value never (next_note_call file from lent).number ≡ nothing → length file ≤ 32768
      → (y : Note) → Memᴰ y (notes_of file) → y.start < from + 4
  next-note-none none l = next-none file l from (said-none (next_note file from) (sym next-note-says ∙ none))

-- Asked from byte 0, and then from the end of each note told, the call tells all notes of a file, in their order.
module _ (file : List ℕ) (l : length file ≤ 32768) (lent : List ℕ) where
  pub first-note : next_note_call file 0 lent ≡ note_filled lent (first_of (notes_of file))
  unfolding next_note_call
  first-note = ap (note_filled lent) (next-first file l)

  pub note-after : (a : List Note) (x : Note) (b : List Note) → notes_of file ≡ a ++ (x ∷ b) → next_note_call file (x.start + x.size) lent ≡ note_filled lent (first_of b)
  unfolding next_note_call
  note-after a x b e = ap (note_filled lent) (next-again file l a x b e)

-- The events before a note of a file that is read are among those read.
pub note-among : (file lent : List ℕ) (c : Columns) (n edition : ℕ) → decoded two_values always (read_call file lent c).number ≡ done (n ∷ edition ∷ [])
    → (x : Note) → Memᴰ x (notes_of file) → x.events ≤ n
note-among file lent c n edition read x m =
    let w = was_read file c n (is_read file lent c n edition read).0 in
    omega (arith, w.count, events-most file w.says w.file x m)

-- ---- buffers that are long enough

-- an output of SENDOSHI_FILE_SIZE(count) bytes holds the file of any history of so many events,
pub file-fits : (edition : ℕ) (starts : List ℕ) (c : Columns) (count : ℕ) → length (file_of edition starts (history c count)) ≤ 6 + 10 * 32 + 14 * count
file-fits edition starts c count =
    omega (arith, length-file edition starts (history c count), starts-most starts 32, length_most (history c count), history-length c count)

-- and one of SENDOSHI_MARKING_SIZE(prefix) the marking of any prefix of at most 10 transactions
pub marking-fits : (h : List Event) → begins h ≤ 10 → marking_size h ≤ 6 + 8 * 10 + 10 * length h
unfolding store_reads
marking-fits h few = omega (arith, keep-length (is_store_read h) (range (length h)), range_length (length h))
