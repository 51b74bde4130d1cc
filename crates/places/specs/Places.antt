-- Vocabulary between crates: it need not be believed, the public contracts end in the paper's definitions.
-- The state's places and the last writes of a table of facts as the definitions of histories have them: an order, and a history.
-- Assumes nothing.
use Rattle.std.specs.Prelude.{ℕ, zero, suc, ◌+◌, ◌/◌, ◌%◌, List, [], ◌∷◌, ◌++◌, eqb, drop}
use Rattle.std.proofs.Math.Option.{Option, none, some}
use Rattle.event_log.specs.Starts.{start_of}
use Rattle.events.specs.declared.event.Event.{Event}
use Rattle.events.specs.Events.{a_write}
use Rattle.opacity.specs.Justification.{Place, written, contents}
use Rattle.opacity.specs.Lowest.{place}

-- the first k places that a number holds, five bits each, the last of them lowest
unfoldable pub codes_of : ℕ → ℕ → List ℕ
codes_of zero n = []
codes_of (suc k) n = codes_of k (n / 32) ++ (n % 32 ∷ [])

-- a place, from a transaction times 2 plus its outcome, 0 aborted, 1 committed
abbrev pub coded : ℕ → Place
coded c = place (c / 2) (eqb (c % 2) 1)

unfoldable pub decode : List ℕ → List Place
decode [] = []
decode (c ∷ p) = coded c ∷ decode p

-- a value as a table holds it
abbrev pub plus : Option ℕ → ℕ
plus none = 0
plus (some v) = v + 1

-- an entry of the table, if it is not 0, as a write of t to r
abbrev pub cons_write : ℕ → ℕ → ℕ → List Event → List Event
cons_write t r zero h = h
cons_write t r (suc v) h = a_write t r v ∷ h

-- the writes of t that a row holds from register r on, and then the history h
unfoldable pub row_from : ℕ → ℕ → List ℕ → List Event → List Event
row_from t r [] h = h
row_from t r (v ∷ w) h = cons_write t r v (row_from t (suc r) w h)

-- the writes that a table of facts holds, as a history; the first row is that of t
unfoldable pub writes_from : ℕ → List (List ℕ) → List Event
writes_from t [] = []
writes_from t (row ∷ f) = row_from t 0 (drop 35 row) (writes_from (suc t) f)

unfoldable pub writes_in : List (List ℕ) → List Event
writes_in f = writes_from 0 f

-- what r holds after the places p, over these start values
abbrev pub content_at : List ℕ → List (List ℕ) → List ℕ → ℕ → ℕ
content_at starts f p r = contents (start_of starts) (writes_in f) (decode p) r

-- what a place wrote to r, as a table holds it
unfoldable pub write_of : List (List ℕ) → ℕ → ℕ → ℕ
write_of f r code = plus (written (writes_in f) r (coded code))
