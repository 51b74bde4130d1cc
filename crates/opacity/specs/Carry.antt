-- Vocabulary between crates: it need not be believed, the public contracts end in the paper's definitions.
-- An order carried on to one event more: the order of places that is to justify the history with that event, and whether it does, asked of
-- that event alone.
-- Assumes nothing.
use Rattle.std.specs.Prelude.{ℕ, Bool, true, not, cond, List, [], ◌∷◌, ◌++◌, eqb}
use Rattle.std.proofs.Math.Option.{get_or}
use Rattle.lists.specs.Lists.{◌implies◌}
use Rattle.events.specs.declared.event.Event.{Event}
use Rattle.events.specs.Events.{is_begin, is_read, is_commit, is_abort}
use Rattle.opacity.specs.Transactions.{last_write}
use Rattle.opacity.specs.Justification.{Place, before, outcome, contents}
use Rattle.opacity.specs.Lowest.{place}

-- what t reads in r: what it wrote there last, or what r holds before the place of t
unfoldable pub seen : (ℕ → ℕ) → List Event → List Place → ℕ → ℕ → ℕ
seen start h J t r = get_or (last_write h t r) (contents start h (before t J) r)

-- with an event that begins, the new transaction comes last, with the outcome that the event records: a begin aborted, a lone access
-- committed
unfoldable pub carried : List Place → Event → List Place
carried J e = cond (is_begin e) (J ++ (place e.transaction (is_commit e) ∷ [])) J

-- a lone read returns what its register holds after all places, any other read what its transaction reads there, and an end is the outcome
-- that the order has
unfoldable pub carries : (ℕ → ℕ) → List Event → List Place → Event → Bool
carries start h J e =
    cond (is_begin e) (is_read e implies eqb (contents start h J e.register) e.value)
    (cond (is_read e) (eqb (seen start h J e.transaction e.register) e.value)
    (cond (is_commit e) (outcome e.transaction J)
    (cond (is_abort e) (not (outcome e.transaction J))
    true)))
