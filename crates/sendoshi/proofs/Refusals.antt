-- What the refusals of the functions called hold: the question is one of the paper's, and its place that of something that was read, or the
-- count.
-- Assumes nothing.
use Rattle.reader.specs.Reading.{reading}
use Rattle.std.specs.Prelude.{Ok, Err}
use mathlib.Core.Path.{◌≡◌, refl, sym, ap, subst, ◌∙◌}
use mathlib.Core.Logic.{◌⊎◌, inl, inr, ⊎_elim}
use Prim.Native.Nat.{ℕ, ◌≤◌}
use native.Mathlib.Omega.{arith}
use mathlib.Core.Bool.{Bool, true, false, cond}
use mathlib.Core.List.{List}
use lib.Dec.{leb}
use lib.ListN.{length}
use Rattle.event_log.specs.Checked.{Checked}
use Rattle.events.specs.declared.refusal.Refusal.{Refusal}
use Rattle.events.specs.Said.{refuse}
use Rattle.lists.specs.Lists.{◌and◌, all}
use Rattle.records.specs.Bytes.{over}
use Rattle.event_log.specs.Columns.{Columns, history, hold, filled_with}
use Rattle.event_log.specs.Starts.{start_of}
use Rattle.event_log.specs.Answer.{columns_answer, history_answer}
use Rattle.reader.specs.Reading.{Log, Outcome, readable as is_read, refused as unread, history_of, history_read, not_read, answered as answers, filled, read_answer}
use Rattle.writer.specs.Writing.{Writing}
use Rattle.writer.specs.Writing.{file_of, written_after, answered, written_answer}
use Rattle.finder.specs.Answer.{prefix_refusal, call_refusal, find_refusal}
use Rattle.scan.specs.Answer.{Scanning}
use Rattle.scan.specs.Answer.{size_refusal, scan_refusal, scan_answer}
use Rattle.scan.proofs.AnswerLaws.{refused-e as unscanned-e}
use Rattle.marking.specs.Answer.{Checking}
use Rattle.marking_reader.specs.File.{known, FileRead, content, refused, file_read}
use Rattle.marking.specs.Answer.{ruled, after_columns, verdict_answer}
use Rattle.marking.proofs.Theorems.{history-refused}
use Rattle.marking.specs.declared.check.Unchecked.TheVariants.{HistoryRefused, MarkingRefused}
use Rattle.straighten.specs.declared.Unstraightened.TheVariants.{Refused, MarkingRefused as Unmarked}
use Rattle.straighten.specs.Answer.{straightened_answer}
use Rattle.straighten.proofs.AnswerLaws.{answer-means as straight-means}
use Rattle.sendoshi.proofs.Numbers.{Asked, widen, events-number, call-number, asked-number, then-cases}
use Rattle.sendoshi.proofs.Files.{HistoryNumber, history-number, read-limits, MarkingNumber, marking-number}

-- 1 to 14 and 41 to 44, of a file
pub read-refusal : (file : List ℕ) (c : Columns) (r : Refusal) → reading (read_answer file c).result ≡ Err r → HistoryNumber 14 r.question × (r.at ≤ 32768)
unfolding read_answer
read-refusal file c r x = go (history_of file) refl x
  where
    Number : Refusal → Type 0
    Number y = HistoryNumber 14 y.question × (y.at ≤ 32768)

    held : (l : Log) (y : Bool) → history_of file ≡ is_read l
        → (reading (cond y (answers (history_read (length l.events) l.edition l.starts) (filled_with l.events c)) (answers (not_read 14 (length file)) c)).result) ≡ Err r
        → Number r
    held l true w k = let z : ◌≡◌ {A = ℕ} 0 1 = cc in absurd (omega arith)
    held l false w k =
        let e : refuse 14 (length file) ≡ r = cc in
        subst Number e (record { least = omega arith; most = omega arith; apart = inl (omega arith) }, (read-limits file l w).bytes)

    wider : {q : ℕ} → HistoryNumber 13 q → HistoryNumber 14 q
    wider {q} n = record { least = n.least; most = n.most; apart = ⊎_elim (λ a. inl (omega arith)) (λ a. inr a) n.apart }

    go : (o : Outcome) → history_of file ≡ o → reading (filled file c o).result ≡ Err r → Number r
    go (is_read l) w k = held l (hold c (length l.events)) w k
    go (unread p at) w k =
        let e : refuse p at ≡ r = cc in
        let n = history-number file p at w in
        subst Number e (wider n.0, n.1)

-- 15, with the count
short-refusal : (count : ℕ) (r : Refusal) → refuse 15 count ≡ r → Asked 3 17 count r
short-refusal count r e = subst (Asked 3 17 count) e (record { number = record { least = omega arith; most = omega arith }; place = inr refl })

pub write-refusal : (edition : ℕ) (starts : List ℕ) (c : Columns) (count : ℕ) (output : List ℕ) (r : Refusal)
    → (written_answer edition starts c count output).result ≡ Err r → Asked 3 17 count r
unfolding written_answer
write-refusal edition starts c count output r x = go (history_answer edition starts c count) refl x
  where
    file : List ℕ
    file = file_of edition starts (history c count)

    room : (y : Bool) → (cond y (answered (Ok (length file)) (over file output)) (answered (Err (refuse 15 count)) output)).result ≡ Err r → Asked 3 17 count r
    room true k = let z : ◌≡◌ {A = ℕ} 0 1 = cc in absurd (omega arith)
    room false k = let e : refuse 15 count ≡ r = cc in short-refusal count r e

    go : (v : Checked) → history_answer edition starts c count ≡ v → (written_after file count output v).result ≡ Err r → Asked 3 17 count r
    go (Ok tt) w k = room (leb (length file) (length output)) k
    go (Err p) w k = let e : p ≡ r = cc in call-number edition starts c count r (w ∙ ap Err e)

pub find-refusal : (edition : ℕ) (starts : List ℕ) (c : Columns) (count prefix room : ℕ) (r : Refusal)
    → find_refusal edition starts c count prefix room ≡ Err r → Asked 3 32 count r
unfolding find_refusal call_refusal prefix_refusal all ◌and◌
find-refusal edition starts c count prefix room r x =
    ⊎_elim
    (λ a.
    ⊎_elim
    (λ b. asked-number 3 32 count _ refl r b)
    (λ b. widen (omega arith) (omega arith) (events-number edition (history c count) count r b.1))
    (then-cases _ _ r a))
    (λ a. asked-number 3 32 count _ refl r a.1)
    (then-cases _ _ r x)

pub scan-refusal : (edition : ℕ) (starts : List ℕ) (c : Columns) (count : ℕ) (r : Refusal) → scan_answer edition starts c count ≡ Err r → Asked 3 32 count r
unfolding scan_answer scan_refusal size_refusal all ◌and◌
scan-refusal edition starts c count r x =
    ⊎_elim
    (λ a. widen (omega arith) (omega arith) (call-number edition starts c count r a))
    (λ a. asked-number 3 32 count _ refl r a.1)
    (then-cases _ _ r (unscanned-e _ _ r x))

pub check-history : (edition : ℕ) (starts : List ℕ) (c : Columns) (count : ℕ) (file : List ℕ) (r : Refusal)
    → verdict_answer edition starts c count file ≡ Err (HistoryRefused r) → Asked 3 17 count r
check-history edition starts c count file r x = call-number edition starts c count r ((history-refused edition starts c count file r).0 x)

-- the marking's questions, with a byte
abbrev pub OfMarking : Refusal → Type 0
OfMarking r = MarkingNumber r.question × (r.at ≤ 32768)

pub check-marking : (edition : ℕ) (starts : List ℕ) (c : Columns) (count : ℕ) (file : List ℕ) (r : Refusal)
    → verdict_answer edition starts c count file ≡ Err (MarkingRefused r) → OfMarking r
unfolding verdict_answer
check-marking edition starts c count file r x = go (history_answer edition starts c count) x
  where
    read : (y : FileRead) → file_read (known (history c count)) file ≡ y → ruled (start_of starts) (history c count) y ≡ Err (MarkingRefused r) → OfMarking r
    read (content m) w k = let z : ◌≡◌ {A = ℕ} 0 1 = cc in absurd (omega arith)
    read (refused p i) w k = let e : refuse p i ≡ r = cc in subst OfMarking e (marking-number (known (history c count)) file p i w)

    go : (y : Checked) → after_columns (start_of starts) (history c count) file y ≡ Err (MarkingRefused r) → OfMarking r
    go (Ok tt) k = read (file_read (known (history c count)) file) refl k
    go (Err p) k = let z : ◌≡◌ {A = ℕ} 0 1 = cc in absurd (omega arith)

pub straighten-refusal : (edition : ℕ) (starts : List ℕ) (c : Columns) (count : ℕ) (file output list : List ℕ) (r : Refusal)
    → (straightened_answer edition starts c count file output list).result ≡ Err (Refused r) → Asked 3 17 count r
straighten-refusal edition starts c count file output list r x =
    ⊎_elim
    (λ a. call-number edition starts c count r a)
    (λ b. short-refusal count r (sym b.1))
    (straight-means edition starts c count file output list (Err (Refused r)) x).0

pub straighten-marking : (edition : ℕ) (starts : List ℕ) (c : Columns) (count : ℕ) (file output list : List ℕ) (r : Refusal)
    → (straightened_answer edition starts c count file output list).result ≡ Err (Unmarked r) → OfMarking r
straighten-marking edition starts c count file output list r x =
    marking-number (known (history c count)) file r.question r.at (straight-means edition starts c count file output list (Err (Unmarked r)) x).0.1
