-- Vocabulary between crates: it need not be believed, the public contracts end in the paper's definitions.
-- Tables filled by going once through the events: by transaction, what stands of it.
-- Assumes nothing.
use Rattle.std.specs.Prelude.{ℕ, zero, suc, ◌+◌, ◌^◌, ◌<◌, ◌≡◌, Bool, false, cond, List, Option, Some, None, eqb, ltb, length, get_or}
use Rattle.std.specs.Int.Bits.{bit_or}
use Rattle.events.specs.declared.event.Event.{Event}
use Rattle.events.specs.Events.{event_at, is_begin, is_write, is_end, is_commit, is_abort, asks_commit}
use Rattle.links.specs.declared.tables.Rank.{Rank}
use Rattle.links.specs.declared.tables.Rank.TheVariants.{Live, Pending, Aborted, Committed}
use Rattle.links.specs.declared.tables.Transaction.{Transaction}

-- what stands after event i, where x stood before: the last event that passes, and the first one
unfoldable pub last_one : Bool → ℕ → Option ℕ → Option ℕ
last_one b i x = cond b (Some i) x

unfoldable pub first_one : Bool → ℕ → Option ℕ → Option ℕ
first_one b i None = cond b (Some i) None
first_one b i (Some k) = Some k

-- how far a transaction has come
unfoldable pub rank : Bool → Bool → Bool → Rank
rank commits aborts calls = cond commits Committed (cond aborts Aborted (cond calls Pending Live))

unfoldable pub rank_of : Event → Rank
rank_of e = rank (is_commit e) (is_abort e) (asks_commit e)

-- and the further of two
abbrev pub step : Rank → ℕ
step Live = 0
step Pending = 1
step Aborted = 2
step Committed = 3

abbrev pub further : Rank → Rank → Rank
further a b = cond (ltb (step a) (step b)) b a

-- a set of registers after an event of the transaction that writes them
abbrev pub with_written : Event → ℕ → ℕ
with_written e set = cond (is_write e) (bit_or set (2 ^ e.register)) set

-- what stands of a transaction before its events, and what its event e, of number i, makes of that
abbrev pub blank : Transaction
blank = record { rank = Live; ended = None; began = None; written = None; registers = 0 }

abbrev pub noted : Event → ℕ → Transaction → Transaction
noted e i x =
    record {
      rank = further x.rank (rank_of e);
      ended = first_one (is_end e) i x.ended;
      began = last_one (is_begin e) i x.began;
      written = last_one (is_write e) i x.written;
      registers = with_written e x.registers;
    }

-- what it makes of the last write alone
abbrev pub write_noted : Event → ℕ → Option ℕ → Option ℕ
write_noted e i x = last_one (is_write e) i x

-- what it makes of how far its transaction has come alone
abbrev pub rank_noted : Event → ℕ → Rank → Rank
rank_noted e i x = further x (rank_of e)

-- what stands at t after n events, where d stood before them
unfoldable pub slot : {A : Type 0} → A → (Event → ℕ → A → A) → List Event → ℕ → ℕ → A
slot d note h t zero = d
slot d note h t (suc i) =
    let x = slot d note h t i in
    cond (eqb (event_at h i).transaction t) (note (event_at h i) i x) x

pub record Slots {A : Type 0} (d : A) (note : Event → ℕ → A → A) (h : List Event) (n : ℕ) (table : List A) : Type 0 where
  pub size : length table ≡ 64
  pub holds : (t : ℕ) → t < 64 → get_or table t d ≡ slot d note h t n

-- the tables of a whole history
abbrev pub AllTabled : List Event → List Transaction → Type 0
AllTabled h tables = Slots blank noted h (length h) tables

-- how far each transaction of a whole history has come
abbrev pub Ranked : List Event → List Rank → Type 0
Ranked h ranks = Slots Live rank_noted h (length h) ranks

-- an end comes before a begin
unfoldable pub earlier : Option ℕ → Option ℕ → Bool
earlier None b = false
earlier (Some e) None = false
earlier (Some e) (Some b) = ltb e b

-- one past an event, with 0 for none
abbrev pub past : Option ℕ → ℕ
past None = 0
past (Some i) = i + 1
