-- To be believed: the lines of the report ("Scan and report", and No. 2 for the second line), byte by byte: all that is printed.
-- Assumes nothing.
use Rattle.std.specs.Prelude.{ℕ, List, ◌++◌, Result, Ok, Err}
use Prim.Native.String.{String}
use Rattle.events.specs.declared.refusal.Refusal.{Refusal}
use Rattle.opacity.specs.declared.verdict.Rule.{Rule}
use Rattle.opacity.specs.declared.verdict.Verdict.{Verdict}
use Rattle.opacity.specs.Scan.{Scanned, cause_number}
use Rattle.counts.specs.declared.tally.Tally.{Tally}
use Rattle.capture.specs.declared.Counts.{Counts}
use Rattle.capture.specs.declared.Report.{Report}
use Rattle.lines.specs.Text.{text, field}

unfoldable pub counts_line : Counts → List ℕ
counts_line c =
    field "events " c.events ++ field " transactions " c.transactions ++ field " reads " c.reads ++ text "\n"

unfoldable pub tally_line : Tally → List ℕ
tally_line t =
    field "committed " t.committed ++ field " aborted " t.aborted ++ field " pending " t.pending
    ++ field " live " t.live ++ text "\n"

-- the question that says no to a file, and the byte; the line begins with the file's name
unfoldable pub refused_line : List ℕ → ℕ → ℕ → List ℕ
refused_line file question byte = file ++ field " refused " question ++ field " byte " byte ++ text "\n"

abbrev pub letter : Rule → String
letter Rule.A = "A"
letter Rule.B = "B"
letter Rule.C = "C"
letter Rule.D = "D"
letter Rule.E = "E"

unfoldable pub broken_line : Rule → ℕ → ℕ → List ℕ
broken_line rule event transaction =
    text "marking rule " ++ text (letter rule) ++ field " event " event ++ field " transaction " transaction ++ text "\n"

abbrev pub verdict_line : Verdict → List ℕ
verdict_line Verdict.Accepted = text "marking accepted\n"
verdict_line (Verdict.Broken rule event transaction) = broken_line rule event transaction

abbrev pub marking_line : Result Verdict Refusal → List ℕ
marking_line (Ok verdict) = verdict_line verdict
marking_line (Err r) = refused_line (text "marking") r.question r.at

unfoldable pub faulted_line : ℕ → ℕ → List ℕ
faulted_line event cause = field "opaque no event " event ++ field " cause " cause ++ text "\n"

unfoldable pub unscanned_line : ℕ → List ℕ
unscanned_line question = field "opaque refused " question ++ text "\n"

abbrev pub scanned_line : Scanned → List ℕ
scanned_line (Ok tt) = text "opaque yes\n"
scanned_line (Err f) = faulted_line f.event (cause_number f.cause)

abbrev pub opacity_line : Result Scanned Refusal → List ℕ
opacity_line (Ok scanned) = scanned_line scanned
opacity_line (Err r) = unscanned_line r.question

-- a history that is refused has one line, any other four
unfoldable pub lines : Result Report Refusal → List ℕ
lines (Ok r) = counts_line r.counts ++ tally_line r.tally ++ marking_line r.marking ++ opacity_line r.opacity
lines (Err r) = refused_line (text "history") r.question r.at
