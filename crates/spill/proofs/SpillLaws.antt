-- Columns that are filled from the front, an event at a time.
-- Assumes nothing.
use Prim.Native.Nat.{ℕ, suc, ◌+◌, ◌≤◌, ◌<◌}
use native.Mathlib.Omega.{arith}
use native.Mathlib.Numerals.{add-one}
use mathlib.Core.Path.{◌≡◌, refl, sym, ap, ◌∙◌}
use mathlib.Core.Bool.{false}
use mathlib.Core.List.{List, [], ◌∷◌, ◌++◌, map, map-append, append_assoc}
use lib.ListN.{length, take, get_or, drop, set, length-append, length-map, length-set, length-take}
use lib.Seq.{drop-cons, set_at, take-length}
use Rattle.events.specs.declared.event.Event.{Event}
use Rattle.events.specs.Events.{event_at}
use Rattle.records.specs.Bytes.{over}
use Rattle.event_log.specs.Columns.{Columns, hold, filled_with, spilled}
use Rattle.event_log.proofs.ColumnLaws.{Held, hold-i}
use Rattle.event_log.proofs.RowLaws.{take-more}

-- ---- one column, of a field f

module _ (f : Event → ℕ) where
  -- the column begins with the fields of h, goes on as it was, and is as long
  pub record Column (h : List Event) (before after : List ℕ) : Type 0 where
    pub holds : after ≡ over (map f h) before
    pub long : length after ≡ length before

  column-none : (l : List ℕ) → Column [] l l
  column-none l = record { holds = refl; long = refl }

  -- one more entry
  column-more : (h : List Event) (l d : List ℕ) (e : Event) (n : ℕ) → n ≡ length h → n < length l → Column h l d
      → Column (h ++ (e ∷ [])) l (set d n (f e))
  column-more h l d e n k lt w =
      let m : length (map f h) ≡ n = length-map h f ∙ sym k in
      let rest : drop (length (map f h)) l ≡ get_or l n 0 ∷ drop (suc n) l = ap (λ (i : ℕ). drop i l) m ∙ drop-cons l n 0 lt in
      let one : length (map f h ++ (f e ∷ [])) ≡ suc n = length-append (map f h) (f e ∷ []) ∙ (add-one (length (map f h)) ∙ ap suc m) in
      record {
        holds =
            ap (λ (x : List ℕ). set x n (f e)) (w.holds ∙ ap (λ (x : List ℕ). map f h ++ x) rest)
            ∙ (set_at (map f h) (get_or l n 0) (drop (suc n) l) (f e) n m
            ∙ sym (ap (λ (x : List ℕ). over x l) (map-append f h (e ∷ []))
            ∙ (ap (λ (i : ℕ). (map f h ++ (f e ∷ [])) ++ drop i l) one ∙ append_assoc (map f h) (f e ∷ []) (drop (suc n) l))));
        long = length-set d n (f e) ∙ w.long;
      }

-- ---- the five

-- the columns hold the events h over what they held before
pub record Filled (h : List Event) (before after : Columns) : Type 0 where
  pub kinds : Column (λ e. e.kind) h before.kinds after.kinds
  pub transactions : Column (λ e. e.transaction) h before.transactions after.transactions
  pub registers : Column (λ e. e.register) h before.registers after.registers
  pub values : Column (λ e. e.value) h before.values after.values
  pub threads : Column (λ e. e.thread) h before.threads after.threads

filled_none : (c : Columns) → Filled [] c c
filled_none c =
    record { kinds = column-none _ _; transactions = column-none _ _; registers = column-none _ _; values = column-none _ _; threads = column-none _ _ }

-- the event's fields are put at the entry n
abbrev pub put_at : Columns → ℕ → Event → Columns
put_at c n e =
    record {
      kinds = set c.kinds n e.kind;
      transactions = set c.transactions n e.transaction;
      registers = set c.registers n e.register;
      values = set c.values n e.value;
      threads = set c.threads n e.thread;
    }

filled_more : (h : List Event) (before after : Columns) (e : Event) (n : ℕ) → n ≡ length h → Held before (suc n) → Filled h before after
    → Filled (h ++ (e ∷ [])) before (put_at after n e)
filled_more h before after e n k room w =
    record {
      kinds = column-more (λ x. x.kind) h _ _ e n k room.kinds w.kinds;
      transactions = column-more (λ x. x.transaction) h _ _ e n k room.transactions w.transactions;
      registers = column-more (λ x. x.register) h _ _ e n k room.registers w.registers;
      values = column-more (λ x. x.value) h _ _ e n k room.values w.values;
      threads = column-more (λ x. x.thread) h _ _ e n k room.threads w.threads;
    }

filled-whole : (h : List Event) (before after : Columns) → Filled h before after → after ≡ filled_with h before
unfolding filled_with
filled-whole h before after w =
    λ i. record {
      kinds = w.kinds.holds i;
      transactions = w.transactions.holds i;
      registers = w.registers.holds i;
      values = w.values.holds i;
      threads = w.threads.holds i;
    }

-- ---- from a log

-- the first i events of the log stand in the columns
pub record Spilling (log : List Event) (before after : Columns) (i : ℕ) : Type 0 where
  pub within : i ≤ length log
  pub columns : Filled (take i log) before after

pub spilling-first : (log : List Event) (c : Columns) → Spilling log c c 0
spilling-first log c = record { within = omega arith; columns = filled_none c }

module _ (log : List Event) (before after : Columns) (i : ℕ) (room : Held before (length log)) (w : Spilling log before after i) where
  pub spilling-more : i < length log → (e : Event) → e ≡ event_at log i → Spilling log before (put_at after i e) (i + 1)
  spilling-more l e p =
      let n : i ≡ length (take i log) = omega (arith, length-take i log) in
      let h : Held before (suc i) = record {
        kinds = omega (arith, room.kinds);
        transactions = omega (arith, room.transactions);
        registers = omega (arith, room.registers);
        values = omega (arith, room.values);
        threads = omega (arith, room.threads);
      } in
      let s : take (i + 1) log ≡ take i log ++ (e ∷ []) = rw p (take-more log i l) in
      record { within = omega arith; columns = rw s (filled_more (take i log) before after e i n h w.columns) }

  -- the columns are as long as they were
  pub spilling-room : Held after (length log)
  spilling-room =
      let f = w.columns in
      record {
        kinds = omega (arith, room.kinds, f.kinds.long);
        transactions = omega (arith, room.transactions, f.transactions.long);
        registers = omega (arith, room.registers, f.registers.long);
        values = omega (arith, room.values, f.values.long);
        threads = omega (arith, room.threads, f.threads.long);
      }

  pub spilling-done : length log ≤ i → after ≡ spilled log before
  spilling-done l =
      let e : i ≡ length log = omega (arith, w.within) in
      filled-whole log before after (rw (e, take-length) at w.columns)
      ∙ sym (rw (hold-i before (length log) room))

-- and where they have no room they stay
pub spilled-not : (log : List Event) (c : Columns) → hold c (length log) ≡ false → c ≡ spilled log c
spilled-not log c h = sym (rw h)
