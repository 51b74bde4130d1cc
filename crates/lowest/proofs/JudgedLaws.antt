-- A readable history of at most ten transactions has only such prefixes.
-- Assumes nothing.
use Prim.Native.Nat.{ℕ, ◌≤◌}
use native.Mathlib.Omega.{arith}
use mathlib.Core.List.{List}
use lib.ListN.{length, take}
use Rattle.events.specs.declared.event.Event.{Event}
use Rattle.events.proofs.EventLaws.{begins-take}
use Rattle.events.proofs.QuestionLaws.{readable-take}
use Rattle.lowest.specs.Order.{Judged}

pub judged-prefix : (h : List Event) (k : ℕ) → k ≤ length h → Judged h → Judged (take k h)
judged-prefix h k l j = record { readable = readable-take h k l j.readable; few = omega (arith, begins-take k h, j.few) }
