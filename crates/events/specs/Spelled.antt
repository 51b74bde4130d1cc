-- To be believed: the transaction that a lone access stands for (change request 5). `opacity/proofs/Alone.antt` proves that a history that
-- ends with the one is judged as with the other.
-- Assumes nothing.
use Rattle.std.specs.Prelude.{ℕ, cond, List, [], ◌∷◌}
use Rattle.events.specs.Events.{Event, is_read}

-- an event of e's transaction
abbrev same_transaction : Event → ℕ → ℕ → ℕ → ℕ → Event
same_transaction e k r v th = record { kind = k; transaction = e.transaction; register = r; value = v; thread = th }

-- it begins, calls its read or write, which returns, calls commit and is committed, with nothing in between
unfoldable pub spelled : Event → List Event
spelled e =
    same_transaction e 16 0 0 e.thread
    ∷ cond (is_read e) (same_transaction e 17 e.register 0 0) (same_transaction e 19 e.register e.value 0)
    ∷ cond (is_read e) (same_transaction e 18 e.register e.value 0) (same_transaction e 20 0 0 0)
    ∷ same_transaction e 21 0 0 0
    ∷ same_transaction e 22 0 0 0
    ∷ []
