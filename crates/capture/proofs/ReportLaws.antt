-- Laws of the report: what the reader answers of a file is what the report says of it.
-- Assumes nothing.
use Prim.Native.Nat.{ℕ}
use mathlib.Core.Path.{◌≡◌, sym, ap, ◌∙◌}
use mathlib.Core.List.{List}
use lib.ListN.{length}
use Rattle.std.specs.Prelude.{Result, Ok, Err}
use Rattle.events.specs.declared.event.Event.{Event}
use Rattle.events.specs.declared.refusal.Refusal.{Refusal}
use Rattle.event_log.specs.Starts.{start_of}
use Rattle.reader.specs.declared.HistoryRead.{HistoryRead}
use Rattle.reader.specs.Reading.{Outcome, readable, refused, history_of, events_of, events_in, validated}
use Rattle.capture.specs.declared.Report.{Report}
use Rattle.capture.specs.Report.{judged, said_of, report_on}

module _ (s marking : List ℕ) where
  pub report-read : (r : HistoryRead) (h : List Event) → ◌≡◌ {A = Result HistoryRead Refusal} (Ok r) (validated (history_of s)) → h ≡ events_in s
      → ◌≡◌ {A = Result Report Refusal} (Ok (judged (start_of r.starts) h marking)) (report_on s marking)
  unfolding report_on
  report-read r h read same = go (history_of s) read same
    where
      go : (o : Outcome) → ◌≡◌ {A = Result HistoryRead Refusal} (Ok r) (validated o) → h ≡ events_of o
          → ◌≡◌ {A = Result Report Refusal} (Ok (judged (start_of r.starts) h marking)) (said_of o marking)
      go (readable l) k m =
          let e : r ≡ record { count = length l.events; edition = l.edition; starts = l.starts } = cc in
          λ i. Ok (judged (start_of (e i).starts) (m i) marking)
      go (refused q at) k m = cc

  pub report-refused : (q : Refusal) → ◌≡◌ {A = Result HistoryRead Refusal} (Err q) (validated (history_of s))
      → ◌≡◌ {A = Result Report Refusal} (Err q) (report_on s marking)
  unfolding report_on
  report-refused q read = go (history_of s) read
    where
      go : (o : Outcome) → ◌≡◌ {A = Result HistoryRead Refusal} (Err q) (validated o) → ◌≡◌ {A = Result Report Refusal} (Err q) (said_of o marking)
      go (readable l) k = cc
      go (refused p at) k = cc
