-- What the report says, in both directions, from the bytes of the two files on. `report_on` gives `reportOn`, so each theorem is one about
-- its result.
-- Assumes nothing.
use Prim.Native.Nat.{ℕ, ◌+◌, ◌≤◌, ◌<◌}
use native.Mathlib.Decide.{dec_lt}
use native.Mathlib.Omega.{arith}
use mathlib.Core.Path.{◌≡◌, refl, sym, ap, ◌∙◌}
use mathlib.Core.Logic.{◌↔◌}
use mathlib.Core.Bool.{true}
use mathlib.Core.List.{List}
use lib.ListN.{length}
use Rattle.events.specs.declared.event.Event.{Event}
use Rattle.records.specs.Bytes.{Bytes}
use Rattle.opacity.specs.Justification.{zeros}
use Rattle.std.specs.Prelude.{Result, Ok, Err}
use Rattle.events.specs.declared.refusal.Refusal.{Refusal}
use Rattle.events.specs.Said.{refuse}
use Rattle.event_log.specs.Starts.{start_of}
use Rattle.events.proofs.QuestionLaws.{readable-in}
use Rattle.event_log.proofs.StartLaws.{no-starts}
use Rattle.events.specs.Events.{begins}
use Rattle.events.specs.Questions.{readable as IsReadable}
use Rattle.opacity.specs.Transactions.{Status, committed, aborted, pending, live, HasStatus}
use Rattle.opacity.specs.Justification.{Justified}
use Rattle.opacity.specs.declared.verdict.Rule.{Rule}
use Rattle.opacity.specs.declared.verdict.Verdict.{Verdict}
use Rattle.opacity.specs.declared.verdict.Verdict.TheVariants.{Accepted, Broken}
use Rattle.opacity.specs.Marking.{Marking, verdict, named_event, named_transaction}
use Rattle.opacity.specs.Verdicts.{RuleD, FirstBroken}
use Rattle.opacity.specs.declared.verdict.Cause.{Cause}
use Rattle.opacity.specs.Scan.{Scanned, opaque, fault, scan, AllJustified, FaultsAt}
use Rattle.opacity.specs.Counts.{counts}
use Rattle.opacity.proofs.Theorems.{opaque-iff, faulted-iff, accepted-iff-justified, broken-iff-first}
use Rattle.counts.specs.Tally.{of_status, tally, times}
use Rattle.counts.proofs.Theorems.{adds-up, counted-once, counted-iff}
use Rattle.marking_reader.specs.File.{known, FileRead, content, refused as unread, file_read}
use Rattle.marking_reader.proofs.ContentLaws.{content-readable}
use Rattle.marking.specs.Answer.{ruling}
use Rattle.reader.specs.Reading.{Log, Outcome, readable, refused, history_of}
use Rattle.reader.proofs.FirstEdition.{first-edition as Reads-first}
use Rattle.writer.proofs.WriteBack.{write-back}
use Rattle.scan.specs.Answer.{size_refusal, decided}
use Rattle.scan.proofs.AnswerLaws.{decided-refused, decided-scanned, scanned-e, refused-31, passes-31, passes-31-e}
use Rattle.capture.specs.declared.Report.{Report}
use Rattle.capture.specs.Words.{Justifying, Breaks}
use Rattle.capture.specs.Report.{counts_of, marking_of, opacity_of, judged, said_of, report_on}

-- A history is refused exactly where one of its questions says no, with that question's byte,
pub history-refused : (s marking : List ℕ) (q byte : ℕ) → (report_on s marking ≡ Err (refuse q byte)) ↔ (history_of s ≡ refused q byte)
unfolding report_on judged
history-refused s marking q byte = (go (history_of s), λ e. ap (λ (x : Outcome). said_of x marking) e)
  where
    go : (o : Outcome) → said_of o marking ≡ Err (refuse q byte) → o ≡ refused q byte
    go (readable l) d = absurd (let z : ◌≡◌ {A = ℕ} 0 1 = cc in omega arith)
    go (refused a b) d = let e : refuse a b ≡ refuse q byte = cc in λ i. refused (e i).question (e i).at

-- and otherwise the report has four lines, all of them on the start values and the events in the file.
module _ (s : List ℕ) (by : Bytes s) (l : Log) (file : history_of s ≡ readable l) (marking : List ℕ) where
  abbrev h : List Event
  h = l.events

  -- what each register holds before any writer
  abbrev start : ℕ → ℕ
  start = start_of l.starts

  pub four-lines : report_on s marking ≡ Ok (record { counts = counts_of h; tally = tally h; marking = marking_of start h marking; opacity = opacity_of start h })
  unfolding report_on judged
  four-lines = ap (λ (x : Outcome). said_of x marking) file

  -- the four numbers of the tally add up to the transactions of the line above it
  pub tally-adds-up : (tally h).committed + (tally h).aborted + (tally h).pending + (tally h).live ≡ (counts_of h).transactions
  unfolding counts_of counts
  tally-adds-up = adds-up h

  is-readable : IsReadable h ≡ true
  is-readable = readable-in l.edition h (write-back s l by file).events

  -- each of them is counted there in exactly one of the four,
  pub tally-counts-once : (t : ℕ) → t < (counts_of h).transactions
      → times t (of_status committed h) + times t (of_status aborted h) + times t (of_status pending h) + times t (of_status live h) ≡ 1
  unfolding counts_of counts
  tally-counts-once t k = counted-once h t k

  -- that which its events say
  pub tally-counts-as : (s : Status) (t : ℕ) → (times t (of_status s h) ≡ 1) ↔ ((t < (counts_of h).transactions) × HasStatus s h t)
  unfolding counts_of counts
  tally-counts-as s t = counted-iff h is-readable s t

  -- what the scan says is said of at most 10 transactions, and 31 of more
  scanned : (x : Scanned) → (opacity_of start h ≡ Ok x) ↔ ((begins h ≤ 10) × (scan start h ≡ x))
  unfolding opacity_of
  scanned x = (
    λ e. let r = scanned-e _ _ x e in (passes-31-e h (length h) r.0, r.1),
    λ w. sym (decided-scanned (scan start h) (passes-31 h (length h) w.0)) ∙ ap Ok w.1,
  )

  -- "opaque refused 31" exactly where more than 10 transactions begin
  pub says-31 : (opacity_of start h ≡ Err (refuse 31 (length h))) ↔ (10 < begins h)
  unfolding opacity_of
  says-31 = (
    λ e. elim (dec_lt 10 (begins h)) [ yes l ↦ l | no f ↦ absurd (few e (omega arith)) ],
    λ l. sym (decided-refused (scan start h) (refused-31 h (length h) l)),
  )
    where
      few : decided (size_refusal h (length h)) (scan start h) ≡ Err (refuse 31 (length h)) → begins h ≤ 10 → ⊥
      few e l =
          let x : Ok (scan start h) ≡ Err (refuse 31 (length h)) = decided-scanned (scan start h) (passes-31 h (length h) l) ∙ e in
          let z : ◌≡◌ {A = ℕ} 0 1 = cc in omega arith

  -- "opaque yes" exactly where every prefix has a justification,
  pub says-opaque : (opacity_of start h ≡ Ok opaque) ↔ ((begins h ≤ 10) × AllJustified start h)
  says-opaque =
      let w = scanned opaque in
      let o = opaque-iff start h is-readable in
      (λ e. ((w.0 e).0, o.0 (w.0 e).1), λ p. w.1 (p.0, o.1 p.1))

  -- "opaque no event e" exactly where the prefix that ends with e is the first without one,
  pub says-faulted : (e : ℕ) (why : Cause) → (opacity_of start h ≡ Ok (fault e why)) ↔ ((begins h ≤ 10) × FaultsAt start h e why)
  says-faulted e why =
      let w = scanned (fault e why) in
      let o = faulted-iff start h is-readable e why in
      (λ d. ((w.0 d).0, o.0 (w.0 d).1), λ p. w.1 (p.0, o.1 p.1))

  -- and "marking accepted" exactly where the marking's outcomes and order are a justification and no other committed writer of the register
  -- stands between a read's point and its reader.
  pub says-accepted : (marking_of start h marking ≡ Ok Accepted) ↔ Justifying start h marking
  unfolding marking_of
  says-accepted = (go (file_read (known h) marking) refl, back)
    where
      by-rules : (m : Marking) → file_read (known h) marking ≡ content m → (verdict start h m ≡ Accepted) ↔ (Justified start h m.places × RuleD h m)
      by-rules m e = accepted-iff-justified start h is-readable m (content-readable h marking m is-readable e)

      go : (x : FileRead) → file_read (known h) marking ≡ x → ruling start h x ≡ Ok Accepted → Justifying start h marking
      go (content m) e d =
          let a = (by-rules m e).0 cc in
          record { marked = m; holds = e; justified = a.0; rule_d = a.1 }
      go (unread q byte) e d = absurd (let z : ◌≡◌ {A = ℕ} 0 1 = cc in omega arith)

      back : Justifying start h marking → ruling start h (file_read (known h) marking) ≡ Ok Accepted
      back j = ap (ruling start h) j.holds ∙ ap Ok ((by-rules j.marked j.holds).1 (j.justified, j.rule_d))

  -- "marking refused N byte B" exactly where question N of the marking says no at byte B,
  pub says-refused : (q byte : ℕ) → (marking_of start h marking ≡ Err (refuse q byte)) ↔ (file_read (known h) marking ≡ unread q byte)
  unfolding marking_of
  says-refused q byte = (go (file_read (known h) marking), λ e. ap (ruling start h) e)
    where
      go : (x : FileRead) → ruling start h x ≡ Err (refuse q byte) → x ≡ unread q byte
      go (content m) d = absurd (let z : ◌≡◌ {A = ℕ} 0 1 = cc in omega arith)
      go (unread a b) d = let e : refuse a b ≡ refuse q byte = cc in λ i. unread (e i).question (e i).at

  -- and "marking rule R event E transaction T" exactly where the marking is readable and R is the first rule that it breaks.
  pub says-broken : (r : Rule) (e t : ℕ) → (marking_of start h marking ≡ Ok (Broken r e t)) ↔ Breaks start h marking r e t
  unfolding marking_of
  says-broken r e t = (go (file_read (known h) marking) refl, back)
    where
      go : (x : FileRead) → file_read (known h) marking ≡ x → ruling start h x ≡ Ok (Broken r e t) → Breaks start h marking r e t
      go (content m) f d =
          let v : verdict start h m ≡ Broken r e t = cc in
          let w = (broken-iff-first start h is-readable m r e t).0 v in
          record { marked = m; holds = f; at = w.0; first = w.1; event = w.2; transaction = w.3 }
      go (unread q byte) f d = absurd (let z : ◌≡◌ {A = ℕ} 0 1 = cc in omega arith)

      back : Breaks start h marking r e t → ruling start h (file_read (known h) marking) ≡ Ok (Broken r e t)
      back b =
          ap (ruling start h) b.holds
          ∙ ap Ok ((broken-iff-first start h is-readable b.marked r e t).1 (b.at, b.first, b.event, b.transaction))

-- A history file of edition 1 is reported on with every register starting at 0.
pub first-edition : (s marking : List ℕ) (l : Log) → history_of s ≡ readable l → (l.edition ≡ 2 → ⊥)
    → report_on s marking ≡ Ok (judged zeros l.events marking)
unfolding report_on
first-edition s marking l file n =
    ap (λ (x : Outcome). said_of x marking) file
    ∙ (ap (λ (m : Log). sound (start_of m.starts)) (Reads-first s l file n).0 ∙ ap sound no-starts)
  where
    sound : (ℕ → ℕ) → Result Report Refusal
    sound f = Ok (judged f l.events marking)
