-- To be believed: what transactions leave in the registers (change request 4), a store, and a fold of updates of the whole of it. It is
-- said with no notion of a last writer: `proofs/Contents.antt` proves that what a register holds after some places is what this store has
-- there.
-- Assumes nothing.
use Rattle.std.specs.Prelude.{ℕ, cond, eqb}
use mathlib.Core.List.{List, foldl}
use Rattle.lists.specs.Lists.{keep}
use Rattle.events.specs.declared.event.Event.{Event}
use Rattle.events.specs.Events.{is_write, by}
use Rattle.opacity.specs.Justification.{Place}

-- what each register holds
abbrev pub Store : Type 0
Store = ℕ → ℕ

-- the store in which r holds v, and the others what they held
unfoldable pub put : ℕ → ℕ → Store → Store
put r v s q = cond (eqb r q) v (s q)

-- the writes of t, in the order of the log
unfoldable pub writes_of : List Event → ℕ → List Event
writes_of h t = keep (by is_write t) h

-- the store after a write
unfoldable pub after_write : Store → Event → Store
after_write s e = put e.register e.value s

-- the store after a place: a committed transaction applies its writes, one after the other, and an aborted one none
unfoldable pub after_place : List Event → Store → Place → Store
after_place h s p = cond p.committed (foldl after_write s (writes_of h p.transaction)) s

-- the store after the places P, applied in order over the start values
unfoldable pub applied : Store → List Event → List Place → Store
applied start h P = foldl (after_place h) start P
