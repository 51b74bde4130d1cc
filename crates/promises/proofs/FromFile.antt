-- Demand 3 on its own domain: from the bytes of a readable file on, for every prefix of at most 10 transactions and an output as long as
-- the paper says.
-- Assumes nothing.
use Rattle.reader.specs.Reading.{edition_read, starts_read}
use Rattle.std.specs.Prelude.{None}
use Prim.Native.Nat.{ℕ, ◌≤◌}
use mathlib.Core.Path.{◌≡◌, sym, ap, subst, ◌∙◌}
use mathlib.Core.Logic.{◌↔◌}
use mathlib.Core.Bool.{true}
use mathlib.Core.List.{List, [], ◌∷◌}
use lib.ListN.{length, take}
use Rattle.events.specs.declared.event.Event.{Event}
use Rattle.event_log.specs.Columns.{Columns, history, hold}
use Rattle.events.specs.Events.{begins}
use Rattle.events.specs.Said.{done, nothing}
use Rattle.event_log.specs.Starts.{start_of}
use Rattle.events.specs.Questions.{readable}
use Rattle.event_log.proofs.ColumnLaws.{hold-i}
use Rattle.event_log.proofs.StartLaws.{fine, history-readable-in}
use Rattle.opacity.specs.Justification.{Place, Justified}
use Rattle.opacity.specs.Lowest.{LowestJustified}
use Rattle.opacity.specs.Marking.{marked, marking_bytes}
use Rattle.reader.specs.Reading.{Outcome, events_of, events_in, read_answer}
use Rattle.writer.proofs.RoundTrip.{read-passes}
use Rattle.finder.specs.Answer.{marking_size, Given, Passed, found_answer, said}
use Rattle.finder.proofs.AnswerLaws.{said-marking}
use Rattle.finder.proofs.Theorems.{found-said, none_said}
use Rattle.marking.specs.Answer.{verdict_answer, said as check_said}
use Rattle.promises.specs.Words.{FromFile}
use Rattle.promises.proofs.FinderAccepted.{found-accepted}

module _ (file : List ℕ) (c : Columns) (count prefix : ℕ) (output : List ℕ) (d : FromFile file c count prefix output) where
  -- what the reader tells, and the columns as it fills them
  abbrev edition : ℕ
  edition = (edition_read (read_answer file c).result)

  abbrev starts : List ℕ
  starts = (starts_read (read_answer file c).result)

  abbrev filled : Columns
  filled = (read_answer file c).columns

  -- the finder's answer for the prefix
  abbrev pub found : Given
  found = found_answer edition starts filled count prefix output

  -- the events of the prefix, in the file and in the columns
  abbrev events : List Event
  events = take prefix (events_in file)

  same-events : history filled count ≡ events_in file
  same-events = sym (ap events_of (read-passes file c count d.bytes d.read).1)

  same-prefix : take prefix (history filled count) ≡ events
  same-prefix = ap (take prefix) same-events

  no-question : Passed edition starts filled count prefix (length output)
  no-question =
      let a = (read-passes file c count d.bytes d.read).0 in
      let r = history-readable-in edition starts filled count a in
      record {
        held = hold-i filled count r.0;
        admitted = (fine edition starts filled count a).admitted;
        inside = d.inside;
        readable = r.1;
        few = subst (λ (h : List Event). begins h ≤ 10) (sym same-prefix) d.few;
        fits = subst (λ (h : List Event). marking_size h ≤ length output) (sym same-prefix) d.room;
      }

  -- the finder gives the marking of the lowest justification of the prefix exactly when there is one,
  pub finds-lowest : (n : ℕ) → (said found.result ≡ done (n ∷ []))
      ↔ ((J : List Place) × LowestJustified (start_of starts) events J × (length (marking_bytes (marked events J)) ≡ n))
  finds-lowest n =
      let f = found-said edition starts filled count prefix output n in (
        λ x. let m = (f.0 x).1 in subst Marks same-prefix (m.order, m.lowest, m.size),
        λ w. let m = subst Marks (sym same-prefix) w in f.1 (no-question, record { order = m.0; lowest = m.1; size = m.2 }),
      )
    where
      Marks : List Event → Type 0
      Marks h = (J : List Place) × LowestJustified (start_of starts) h J × (length (marking_bytes (marked h J)) ≡ n)

  -- else none,
  pub finds-none : (said found.result ≡ nothing) ↔ ((J : List Place) → Justified (start_of starts) events J → ⊥)
  finds-none =
      let f = none_said edition starts filled count prefix output in
      (λ x. subst None same-prefix (f.0 x).1, λ w. f.1 (no-question, subst None (sym same-prefix) w))
    where
      None : List Event → Type 0
      None h = (J : List Place) → Justified (start_of starts) h J → ⊥

  -- and the checker, given exactly these bytes, the same columns and the prefix length as the count, accepts it.
  pub found-is-accepted : (n : ℕ) → said found.result ≡ done (n ∷ []) → check_said (verdict_answer edition starts filled prefix (take n found.output)) ≡ done []
  unfolding check_said
  found-is-accepted n x = ap check_said (found-accepted edition starts filled count prefix output n (said-marking found.result n x))
