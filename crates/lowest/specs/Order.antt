-- Vocabulary between crates: it need not be believed, the public contracts end in the paper's definitions.
-- The finder's answer: the first completion of the tables of a history, as an order of places.
-- Assumes nothing.
use Rattle.std.specs.Prelude.{◌≡◌, ℕ, ◌≤◌, true, cond, List, eqb, Option as Answer}
use Rattle.std.proofs.Math.Option.{Option, none, some}
use Rattle.events.specs.Questions.{readable}
use Rattle.events.specs.declared.event.Event.{Event}
use Rattle.events.specs.Events.{begins}
use Rattle.opacity.specs.Justification.{Place}
use Rattle.places.specs.Places.{decode}
use Rattle.places.specs.Tree.{Constraints, constraints, Completion, first_whole, read_answer}
use Rattle.tables.specs.declared.Tables.{Tables}
use Rattle.tables.specs.Tables.{tables_of}

-- a completion as an order of places
abbrev pub decoded : Completion → Option (List Place)
decoded none = none
decoded (some p) = some (decode p)

abbrev pub constraints_of : List ℕ → Tables → Constraints
constraints_of o s = constraints o s.facts

unfoldable pub found_order : List ℕ → List Event → Option (List Place)
found_order o h = cond (eqb (tables_of h).contradictory 0) (decoded (first_whole (constraints_of o (tables_of h)) (begins h))) none

-- what is judged: a readable history of at most ten transactions
pub record Judged (h : List Event) : Type 0 where
  pub readable : readable h ≡ true
  pub few : begins h ≤ 10

-- the order of places of a history that an answer has
abbrev pub order_of : List Event → Answer ℕ → Option (List Place)
order_of h a = decoded (read_answer (begins h) a)
