-- `spill` meets its contract: the first i events of the log stand in the columns. Assumes nothing.
use native.Mathlib.Omega.{arith}
use lib.ListN.{length}
use mathlib.Core.Path.{◌≡◌, refl, sym, ◌∙◌}
use mathlib.Core.Bool.{true}
use Rattle.event_log.specs.Columns.{columns, hold}
use Rattle.event_log.proofs.ColumnLaws.{Held, hold-e}
use Rattle.spill.proofs.SpillLaws.{spilling-first, spilling-more, spilling-done, spilling-room, spilled-not}
use Rattle.spill.proofs.spill.Goals as goal
use Rattle.spill.proofs.spill.Goals.{In-loop-i, At-loop-i}

held : (l : At-loop-i) → hold (columns l.args.kinds.now l.args.transactions.now l.args.registers.now l.args.values.now l.args.threads.now)
    (length l.args.log.now) ≡ true
held l = sym l.hold.ensures ∙ l.if-not-hold.false

given : (l : At-loop-i) → Held (columns l.args.kinds.now l.args.transactions.now l.args.registers.now l.args.values.now l.args.threads.now)
    (length l.args.log.now)
given l = hold-e _ _ (held l)

room : (c : In-loop-i) → Held (columns c.loop-i.kinds c.loop-i.transactions c.loop-i.registers c.loop-i.values c.loop-i.threads)
    (length c.args.log.now)
room c = spilling-room c.args.log.now (columns c.args.kinds.now c.args.transactions.now c.args.registers.now c.args.values.now
    c.args.threads.now) (columns c.loop-i.kinds c.loop-i.transactions c.loop-i.registers c.loop-i.values c.loop-i.threads) c.loop-i.i
    ((hold-e _ _ ((sym c.hold.ensures ∙ c.if-not-hold.false)))) c.loop-i.invariant

pub loop-i-init : goal.loop-i-init
loop-i-init c =
    spilling-first c.args.log.now (columns c.args.kinds.now c.args.transactions.now c.args.registers.now c.args.values.now
    c.args.threads.now)

pub bounds-kinds-i : goal.bounds-kinds-i
bounds-kinds-i c = omega (arith, (room c).kinds)

pub bounds-transactions-i : goal.bounds-transactions-i
bounds-transactions-i c = omega (arith, (room c).transactions)

pub bounds-registers-i : goal.bounds-registers-i
bounds-registers-i c = omega (arith, (room c).registers)

pub bounds-values-i : goal.bounds-values-i
bounds-values-i c = omega (arith, (room c).values)

pub bounds-threads-i : goal.bounds-threads-i
bounds-threads-i c = omega (arith, (room c).threads)

pub loop-i-preserved : goal.loop-i-preserved
loop-i-preserved c =
    spilling-more c.args.log.now (columns c.args.kinds.now c.args.transactions.now c.args.registers.now c.args.values.now
    c.args.threads.now) (columns c.loop-i.kinds c.loop-i.transactions c.loop-i.registers c.loop-i.values c.loop-i.threads) c.loop-i.i
    (given (goal.at.loop-i-preserved c).At-loop-i) c.loop-i.invariant c.loop-i-test.true _ refl

pub returns-then-not-hold : goal.returns-then-not-hold
returns-then-not-hold c =
    let no = sym c.hold.ensures ∙ c.if-not-hold.true in
    record {
      value = sym no;
      threads_after = spilled-not c.args.log.now (columns c.args.kinds.now c.args.transactions.now c.args.registers.now c.args.values.now
          c.args.threads.now) no;
    }

pub returns : goal.returns
returns c =
    record {
      value = sym (held (goal.at.returns c).At-loop-i);
      threads_after = spilling-done c.args.log.now (columns c.args.kinds.now c.args.transactions.now c.args.registers.now c.args.values.now
          c.args.threads.now) (columns c.loop-i.kinds c.loop-i.transactions c.loop-i.registers c.loop-i.values c.loop-i.threads) c.loop-i.i
          (given (goal.at.returns c).At-loop-i) c.loop-i.invariant c.loop-i-test.false;
    }
