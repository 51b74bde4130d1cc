-- To be believed: the words of the theorems about the line on the marking.
-- Assumes nothing.
use Rattle.std.specs.Prelude.{ℕ, ◌≡◌, List}
use Rattle.events.specs.declared.event.Event.{Event}
use Rattle.opacity.specs.declared.verdict.Rule.{Rule}
use Rattle.opacity.specs.Justification.{Justified}
use Rattle.opacity.specs.Marking.{Marking, named_event, named_transaction}
use Rattle.opacity.specs.Verdicts.{RuleD, FirstBroken}
use Rattle.marking_reader.specs.File.{known, content, file_read}

-- the marking file holds a marking that justifies the history and keeps rule D
pub record Justifying (start : ℕ → ℕ) (h : List Event) (marking : List ℕ) : Type 0 where
  pub marked : Marking
  pub holds : file_read (known h) marking ≡ content marked
  pub justified : Justified start h marked.places
  pub rule_d : RuleD h marked

-- the first broken rule of what the marking file holds, where it is broken lowest, names this event and transaction
pub record Breaks (start : ℕ → ℕ) (h : List Event) (marking : List ℕ) (r : Rule) (e t : ℕ) : Type 0 where
  pub marked : Marking
  pub holds : file_read (known h) marking ≡ content marked
  pub at : ℕ
  pub first : FirstBroken start h marked r at
  pub event : e ≡ named_event h r at
  pub transaction : t ≡ named_transaction h r at
