-- What a marking is read for: the bounds of its numbers, and the events past its end.
-- Assumes nothing.
use Prim.Native.Nat.{ℕ, ◌≤◌}
use native.Mathlib.Omega.{arith}
use mathlib.Core.Path.{◌≡◌}
use mathlib.Core.Bool.{false}
use mathlib.Core.List.{List}
use lib.ListN.{length}
use Rattle.events.specs.declared.event.Event.{Event}
use Rattle.opacity.specs.Transactions.{is_store_read}
use Rattle.opacity.proofs.Bounds.{at-most-64}
use Rattle.links.proofs.LogLaws.{log-most}
use Rattle.marking_reader.specs.State.{Asking}
use Rattle.marking_reader.proofs.PointLaws.{beyond-history}

module _ {log : List Event} {own : List ℕ} {b : ℕ} (a : Asking log own b) where
  pub few-events : length log ≤ 2048
  few-events = log-most log a.readable

  pub few-begun : b ≤ 64
  few-begun = omega (arith, a.count, at-most-64 log a.readable)

  pub none-past : (i : ℕ) → length log ≤ i → is_store_read log i ≡ false
  none-past i l = beyond-history log i l
