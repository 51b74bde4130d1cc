-- A readable history in a log: its events have a place in every table.
-- Assumes nothing.
use Prim.Native.Nat.{ℕ, ◌≤◌, ◌<◌}
use mathlib.Core.Path.{◌≡◌}
use mathlib.Core.Bool.{true}
use mathlib.Core.List.{List}
use native.Mathlib.Omega.{arith}
use lib.ListN.{length}
use Rattle.events.specs.declared.event.Event.{Event}
use Rattle.events.specs.Events.{event_at}
use Rattle.events.specs.Questions.{readable}
use Rattle.events.proofs.ReadableLaws.{readable-most}
use Rattle.events.proofs.RegisterLaws.{register-low}
use Rattle.opacity.proofs.Bounds.{transaction-low}

-- what a pass over the events asks of them
pub ruleset readable_log = (readable-most, transaction-low, register-low)

module _ (log : List Event) (y : readable log ≡ true) where
  pub log-most : length log ≤ 2048
  log-most = omega (arith, readable-most log y)

  -- of the event that the code read
  pub transaction-below : {i : ℕ} {e : Event} → i < length log → e ≡ event_at log i → e.transaction < 64
  transaction-below {i} l d = rw d (transaction-low log y i l)

  pub register-below : {i : ℕ} {e : Event} → i < length log → e ≡ event_at log i → e.register < 32
  register-below {i} l d = rw d (register-low log y i l)
