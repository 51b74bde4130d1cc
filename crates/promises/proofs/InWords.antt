-- The answers of checker, straightening, finder and scan in the words of the events: what a justification is, `Explains` says without the
-- terms of the definitions, and rule D says that no other committed writer stands between.
-- Assumes nothing.
use Prim.Native.Nat.{ℕ, ◌≤◌}
use mathlib.Core.Path.{◌≡◌}
use mathlib.Core.Logic.{◌↔◌}
use mathlib.Core.Bool.{true}
use mathlib.Core.List.{List, [], ◌∷◌}
use lib.ListN.{length, take}
use Rattle.events.specs.declared.event.Event.{Event}
use Rattle.event_log.specs.Columns.{Columns, history}
use Rattle.events.specs.Said.{done}
use Rattle.event_log.specs.Starts.{start_of}
use Rattle.events.specs.Questions.{readable}
use Rattle.events.proofs.QuestionLaws.{readable-in, readable-take}
use Rattle.event_log.proofs.StartLaws.{history-readable}
use Rattle.opacity.specs.Explains.{Explains}
use Rattle.opacity.specs.Justification.{Place, zeros}
use Rattle.opacity.specs.Marking.{Marking}
use Rattle.opacity.specs.Scan.{AllJustified}
use Rattle.opacity.proofs.Between.{D-means}
use Rattle.opacity.proofs.Explained.{explains-iff}
use Rattle.scan.specs.Answer.{Passed, scan_answer, said as scan_said}
use Rattle.scan.proofs.Theorems.{opaque-said}
use Rattle.marking.specs.Answer.{verdict_answer, said as check_said}
use Rattle.marking.proofs.Theorems.{accepted-said}
use Rattle.straighten.specs.Answer.{Passes, straightened_answer, said as straight_said}
use Rattle.straighten.proofs.Theorems.{straightened-said}
use Rattle.promises.specs.Words.{Accepts, AllExplained}

pub accepted-in-words : (edition : ℕ) (starts : List ℕ) (c : Columns) (n : ℕ) (file : List ℕ) → (check_said (verdict_answer edition starts c n file) ≡ done []) ↔ Accepts edition starts c n file
accepted-in-words edition starts c n file =
    let a = accepted-said edition starts c n file in (
      λ x.
          let j = a.0 x in
          let r = (history-readable edition starts c n j.fine).1 in
          record {
            fine = j.fine;
            marking = j.marking;
            holds = j.holds;
            explains = (explains-iff (start_of starts) (history c n) j.marking.places r).0 j.justified;
            between = (D-means zeros (history c n) j.marking).0 j.rule_d;
          },
      λ w.
          let r = (history-readable edition starts c n w.fine).1 in
          a.1
          (record {
            fine = w.fine;
            marking = w.marking;
            holds = w.holds;
            justified = (explains-iff (start_of starts) (history c n) w.marking.places r).1 w.explains;
            rule_d = (D-means zeros (history c n) w.marking).1 w.between;
          }),
    )

pub straightened-in-words : (edition : ℕ) (starts : List ℕ) (c : Columns) (n : ℕ) (file output list : List ℕ)
    → ((k : ℕ) × (l : ℕ) × (straight_said (straightened_answer edition starts c n file output list).result ≡ done (k ∷ l ∷ [])))
    ↔ ((m : Marking) × Passes edition starts c n file output list m × Explains (start_of starts) (history c n) m.places)
straightened-in-words edition starts c n file output list =
    let a = straightened-said edition starts c n file output list in (
      λ x. let w = a.0 x in (w.0, w.1, (explains-iff (start_of starts) (history c n) w.0.places (history-readable edition starts c n w.1.fine).1).0 w.2),
      λ w. a.1 (w.0, w.1, (explains-iff (start_of starts) (history c n) w.0.places (history-readable edition starts c n w.1.fine).1).1 w.2),
    )

-- every prefix of a readable history has a justification exactly if every prefix is explained
all-in-words : (start : ℕ → ℕ) (h : List Event) → readable h ≡ true → AllJustified start h ↔ AllExplained start h
all-in-words start h r = (
  λ f n l. let w = f n l in (w.0, (explains-iff start (take n h) w.0 (readable-take h n l r)).0 w.1),
  λ f n l. let w = f n l in (w.0, (explains-iff start (take n h) w.0 (readable-take h n l r)).1 w.1),
)

pub opaque-in-words : (edition : ℕ) (starts : List ℕ) (c : Columns) (count : ℕ)
    → (scan_said (scan_answer edition starts c count) ≡ done []) ↔ (Passed edition starts c count × AllExplained (start_of starts) (history c count))
opaque-in-words edition starts c count =
    let a = opaque-said edition starts c count in (
      λ x. let w = a.0 x in (w.0, (all-in-words (start_of starts) (history c count) (readable-in edition (history c count) w.0.readable)).0 w.1),
      λ w. a.1 (w.0, (all-in-words (start_of starts) (history c count) (readable-in edition (history c count) w.0.readable)).1 w.1),
    )
