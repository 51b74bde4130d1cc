-- To be believed: a justification in the words of the events (the paper, "Justification"), said with nothing but the events, the places and
-- running one at a time. `proofs/Explained.antt` proves that it is what `Justified` says of every readable history.
-- Assumes nothing.
use Rattle.std.specs.Prelude.{ℕ, ◌<◌, ◌≡◌, true, false, List, ◌∷◌, ◌++◌, length}
use Rattle.events.specs.declared.event.Event.{Event}
use Rattle.events.specs.Events.{asks_commit, is_commit, is_abort, has, ended, begins}
use Rattle.opacity.specs.Transactions.{EndedBefore}
use Rattle.opacity.specs.Justification.{Place, placed, outcome, OnePlace}
use Rattle.opacity.specs.Store.{Store}
use Rattle.opacity.specs.Serial.{runs_right}

-- t is placed before u: cut at a place of u, the order has t in front
pub record PlacedBefore (t u : ℕ) (J : List Place) : Type 0 where
  pub front : List Place
  pub here : Place
  pub back : List Place
  pub cut : J ≡ front ++ here ∷ back
  pub names : here.transaction ≡ u
  pub earlier : placed t front ≡ true

-- Each transaction has one place, and there are no more. Its outcome is the recorded one, and aborted if it is otherwise unfinished: it has
-- not ended, and its commit is not called. A pending commit may have either outcome, so nothing is asked of it. One that ended before
-- another began is placed before it, and every read gets the value that running them one at a time from the start values would give.
pub record Explains (start : Store) (h : List Event) (J : List Place) : Type 0 where
  pub places : (t : ℕ) → t < begins h → OnePlace t J
  pub no_more : length J ≡ begins h
  pub committed : (t : ℕ) → t < begins h → has is_commit t h ≡ true → outcome t J ≡ true
  pub aborted : (t : ℕ) → t < begins h → has is_abort t h ≡ true → outcome t J ≡ false
  pub unfinished : (t : ℕ) → t < begins h → has asks_commit t h ≡ false → ended t h ≡ false → outcome t J ≡ false
  pub real_time : (t u : ℕ) → EndedBefore h t u → PlacedBefore t u J
  pub reads : runs_right start h J ≡ true
