-- What the text says: the paper's own lines, and what two of them mean, from the bytes of the two files on. `put_report_on` puts
-- `lines (report_on history marking)` into its output, so each theorem is one about what is printed.
-- Assumes nothing.
use Prim.Native.Nat.{ℕ, ◌≤◌}
use native.Mathlib.Omega.{arith}
use mathlib.Core.Path.{◌≡◌, refl, ap}
use mathlib.Core.Logic.Iff
use mathlib.Core.Logic.{◌↔◌}
use mathlib.Core.List.{List, [], ◌∷◌, ◌++◌}
use lib.ListN.{get_or}
use Rattle.std.specs.Prelude.{Result, Ok, Err}
use Rattle.events.specs.declared.event.Event.{Event}
use Rattle.events.specs.declared.refusal.Refusal.{Refusal}
use Rattle.records.specs.Bytes.{Bytes}
use Rattle.event_log.specs.Starts.{start_of}
use Rattle.events.specs.Events.{begins}
use Rattle.opacity.specs.declared.verdict.Rule.{Rule}
use Rattle.opacity.specs.declared.verdict.Verdict.{Verdict}
use Rattle.opacity.specs.declared.verdict.Cause.{Cause}
use Rattle.opacity.specs.Scan.{Scanned, opaque, fault, AllJustified}
use Rattle.counts.specs.Tally.{tally}
use Rattle.reader.specs.Reading.{Log, readable, history_of}
use Rattle.capture.specs.Report.{counts_of, marking_of, opacity_of, report_on}
use Rattle.capture.proofs.Theorems.{four-lines, says-opaque, says-accepted}
use Rattle.capture.specs.Words.{Justifying}
use Rattle.lines.specs.Text.{text, decimal}
use Rattle.lines.specs.Lines.{counts_line, tally_line, refused_line, broken_line, verdict_line, marking_line}
use Rattle.lines.specs.Lines.{faulted_line, unscanned_line, scanned_line, opacity_line, lines}

-- The lines that the paper gives, for the answers that it gives them for.
pub as-in-the-paper :
    (counts_line (record { events = 10; transactions = 2; reads = 2 })
    ∷ tally_line (record { committed = 1; aborted = 0; pending = 0; live = 1 })
    ∷ verdict_line Verdict.Accepted
    ∷ verdict_line (Verdict.Broken Rule.D 9 1)
    ∷ refused_line (text "history") 5 6
    ∷ refused_line (text "marking") 28 6
    ∷ scanned_line opaque
    ∷ scanned_line (fault 9 Cause.Read)
    ∷ unscanned_line 31
    ∷ [])
    ≡ (text "events 10 transactions 2 reads 2\n"
    ∷ text "committed 1 aborted 0 pending 0 live 1\n"
    ∷ text "marking accepted\n"
    ∷ text "marking rule D event 9 transaction 1\n"
    ∷ text "history refused 5 byte 6\n"
    ∷ text "marking refused 28 byte 6\n"
    ∷ text "opaque yes\n"
    ∷ text "opaque no event 9 cause 1\n"
    ∷ text "opaque refused 31\n"
    ∷ [])
unfolding counts_line tally_line refused_line broken_line faulted_line unscanned_line decimal
as-in-the-paper = refl

-- No other answer has the text of an accepted marking: the byte after "marking " is another,
accepted-text : (m : Result Verdict Refusal) → (marking_line m ≡ text "marking accepted\n") ↔ (m ≡ Ok Verdict.Accepted)
unfolding refused_line broken_line
accepted-text m = (go m, ap marking_line)
  where
    other : (l : List ℕ) → get_or l 8 0 ≡ 114 → l ≡ text "marking accepted\n" → ⊥
    other l e f = omega (arith, ap (λ (x : List ℕ). get_or x 8 0) f)

    go : (m : Result Verdict Refusal) → marking_line m ≡ text "marking accepted\n" → m ≡ Ok Verdict.Accepted
    go (Ok Verdict.Accepted) e = refl
    go (Ok (Verdict.Broken rule event transaction)) e = absurd (other _ refl e)
    go (Err r) e = absurd (other _ refl e)

-- nor that of an opaque history.
opaque-text : (o : Result Scanned Refusal) → (opacity_line o ≡ text "opaque yes\n") ↔ (o ≡ Ok opaque)
unfolding faulted_line unscanned_line
opaque-text o = (go o, ap opacity_line)
  where
    seventh : (l : List ℕ) → l ≡ text "opaque yes\n" → get_or l 7 0 ≡ 121
    seventh l e = ap (λ (x : List ℕ). get_or x 7 0) e

    go : (o : Result Scanned Refusal) → opacity_line o ≡ text "opaque yes\n" → o ≡ Ok opaque
    go (Ok (Ok tt)) e = refl
    go (Ok (Err f)) e = absurd (let z : ◌≡◌ {A = ℕ} 110 121 = seventh _ e in omega arith)
    go (Err r) e = absurd (let z : ◌≡◌ {A = ℕ} 114 121 = seventh _ e in omega arith)

-- What is printed for a history that is not refused:
module _ (s : List ℕ) (by : Bytes s) (l : Log) (file : history_of s ≡ readable l) (marking : List ℕ) where
  abbrev h : List Event
  h = l.events

  abbrev start : ℕ → ℕ
  start = start_of l.starts

  -- four lines, of the start values and the events in the file,
  pub four-texts : lines (report_on s marking)
      ≡ counts_line (counts_of h) ++ tally_line (tally h) ++ marking_line (marking_of start h marking) ++ opacity_line (opacity_of start h)
  unfolding lines
  four-texts = ap lines (four-lines s by l file marking)

  -- where the third is "marking accepted" exactly if the marking justifies the history and keeps rule D,
  pub accepted-means : (marking_line (marking_of start h marking) ≡ text "marking accepted\n") ↔ Justifying start h marking
  accepted-means = Iff.trans (accepted-text (marking_of start h marking)) (says-accepted s by l file marking)

  -- and the last is "opaque yes" exactly if every prefix has a justification.
  pub opaque-means : (opacity_line (opacity_of start h) ≡ text "opaque yes\n") ↔ ((begins h ≤ 10) × AllJustified start h)
  opaque-means = Iff.trans (opaque-text (opacity_of start h)) (says-opaque s by l file marking)
