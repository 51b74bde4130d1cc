-- `own_right` meets its contract: the event that wrote last tells the value. Assumes nothing.
use Prim.Native.Nat.{suc, ◌-◌}
use mathlib.Core.Path.{◌≡◌, sym, ◌∙◌}
use mathlib.Core.Bool.{true, false}
use native.Mathlib.Omega.{arith}
use lib.ListN.{get_or}
use Rattle.std.proofs.lemmas.Grind.{common_steps}
use Rattle.opacity.specs.Transactions.{own_right}
use Rattle.reads.proofs.OwnLaws.{right-none, right-other, right-own}
use Rattle.reads.proofs.own_right.Goals as goal
use Rattle.reads.proofs.own_right.Goals.{then-w-eq0, else-w-eq0}

pub returns-then-not-is_read : goal.returns-then-not-is_read
returns-then-not-is_read c =
    let h = c.args.log.now in
    let own = c.args.own.now in
    let right : own_right h c.args.i ≡ true = elim c.if-w-eq0.branch [
      | then-w-eq0 w ↦ right-none h own c.requires.own_writes c.args.i c.requires.i_in_bounds (sym c.from-w.ensures ∙ w.if-w-eq0.true)
      | else-w-eq0 w ↦
          let r : w.is_read.result ≡ false = grind (arith, common_steps) in
          right-other h own c.requires.own_writes c.args.i c.requires.i_in_bounds (sym w.is_read.ensures ∙ r)
    ] in
    c.if-not-is_read.true ∙ sym right

pub returns-else-not-is_read : goal.returns-else-not-is_read
returns-else-not-is_read c =
    let h = c.args.log.now in
    let own = c.args.own.now in
    elim c.if-w-eq0.branch [
      | then-w-eq0 w ↦ absurd (grind (arith, common_steps))
      | else-w-eq0 w ↦
          let r : w.is_read.result ≡ true = grind (arith, common_steps) in
          let e : get_or own c.args.i 0 ≡ suc (c.from-w.result - 1) = omega arith in
          sym (right-own h own c.requires.own_writes c.args.i c.requires.i_in_bounds _ e (sym w.is_read.ensures ∙ r))
    ]
