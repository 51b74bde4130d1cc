-- Vocabulary between crates: it need not be believed, the public contracts end in the paper's definitions.
-- The facts of a history, one event at a time.
-- Assumes nothing.
use Rattle.std.specs.Prelude.{ℕ, ◌+◌, ◌^◌, ◌<◌, Bool, true, not, cond, List, [], ◌∷◌, replicate, eqb}
use Rattle.std.specs.Int.Bits.{bit_or}
use Rattle.lists.specs.Lists.{◌and◌}
use Rattle.events.specs.declared.event.Event.{Event}
use Rattle.events.specs.Events.{is_begin, is_read, is_write, asks_commit, is_commit, is_abort, is_end}
use Rattle.places.specs.Facts.{end_row, put, after_of, allowed_of, reads_of, required_of, written_of}
use Rattle.tables.specs.declared.Tables.{Tables}

-- the set, with t in it if it joins
unfoldable pub joined : ℕ → Bool → ℕ → ℕ
joined set joins t = cond joins (bit_or set (2 ^ t)) set

-- where b, the number at k in the row of t becomes v
unfoldable pub put_if : Bool → List (List ℕ) → ℕ → ℕ → ℕ → List (List ℕ)
put_if b f t k v = cond b (put f t k v) f

-- there is an entry, and it is another than v
unfoldable pub clashes : ℕ → ℕ → Bool
clashes old v = not (eqb old 0) and not (eqb old v)

-- what a read by the event's transaction of its register returns, as far as its own events say: its last write there, or what its store
-- reads there returned; 0 if they say nothing
unfoldable pub expected : List (List ℕ) → Event → ℕ
expected f e =
    cond (eqb (written_of f e.transaction e.register) 0)
    (required_of f e.transaction e.register)
    (written_of f e.transaction e.register)

-- a read is wrong wherever its transaction is placed: it returns another value than its own write, or than a store read of the register
-- before it
unfoldable pub contradicts : List (List ℕ) → Event → Bool
contradicts f e = is_read e and clashes (expected f e) (e.value + 1)

-- the event reads a register that its transaction has not written
unfoldable pub reads_store : List (List ℕ) → Event → Bool
reads_store f e = is_read e and eqb (written_of f e.transaction e.register) 0

-- What an event makes of each column by itself: what it does to one says nothing of the others, so that an event may be several things at
-- once.

-- a register that is read from the store joins those read before it, and what the read returns is required there
abbrev pub read_with : List (List ℕ) → Event → List (List ℕ)
read_with f e =
    put_if (reads_store f e)
    (put_if (reads_store f e) f e.transaction 2 (bit_or (reads_of f e.transaction) (2 ^ e.register)))
    e.transaction (3 + e.register) (e.value + 1)

abbrev pub written_with : List (List ℕ) → Event → List (List ℕ)
written_with f e = put_if (is_write e) f e.transaction (35 + e.register) (e.value + 1)

-- those that have ended come before one that begins, and that comes before the end
abbrev pub end_with : List (List ℕ) → Event → List (List ℕ)
end_with f e = put_if (is_begin e) f end_row 0 (bit_or (after_of f end_row) (2 ^ e.transaction))

abbrev pub after_with : ℕ → List (List ℕ) → Event → List (List ℕ)
after_with ended f e = put_if (is_begin e) (end_with f e) e.transaction 0 ended

-- the outcome is the recorded one, and free after a commit called and unanswered
unfoldable pub rule_with : ℕ → Event → ℕ
rule_with rule e = cond (is_commit e) 1 (cond (is_abort e) 0 (cond (asks_commit e) 2 rule))

abbrev pub allowed_with : List (List ℕ) → Event → List (List ℕ)
allowed_with f e = put_if true f e.transaction 1 (rule_with (allowed_of f e.transaction) e)

abbrev pub facts_with : ℕ → List (List ℕ) → Event → List (List ℕ)
facts_with ended f e = allowed_with (after_with ended (written_with (read_with f e) e) e) e

-- one event more
unfoldable pub next : Tables → Event → Tables
next s e =
    record {
      ended = joined s.ended (is_end e) e.transaction;
      facts = facts_with s.ended s.facts e;
      contradictory = joined s.contradictory (contradicts s.facts e) e.transaction;
    }

unfoldable pub empty : Tables
empty = record { ended = 0; facts = replicate 11 (replicate 72 0); contradictory = 0 }

unfoldable pub go_through : Tables → List Event → Tables
go_through s [] = s
go_through s (e ∷ h) = go_through (next s e) h

unfoldable pub tables_of : List Event → Tables
tables_of h = go_through empty h

-- an event that the tables have room for: its transaction is below 10, its register below 32
pub record Tabled (e : Event) : Type 0 where
  pub transaction : e.transaction < 10
  pub register : e.register < 32
