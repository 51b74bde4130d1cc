-- `pruning::tree::Tree::bereft` meets its contract.
-- Assumes nothing.
use mathlib.Core.Path.{sym, ◌∙◌}
use Prim.Native.Nat.{◌-◌, ◌/◌, ◌<◌}
use native.Mathlib.Omega.{arith}
use Rattle.places.proofs.StateLaws.{code-at-place}
use Rattle.pruning.proofs.tree.Tree.bereft.Goals as goal
use Rattle.pruning.proofs.tree.Tree.bereft.Goals.{After-code_at-last}

-- the last place is one of ten transactions
last-low : (a : After-code_at-last) → a.code_at-last.result / 2 < 10
last-low a =
    let s = a.args.s in
    let filled = a.if-s-eq0.false in
    let code = a.code_at-last.ensures ∙ sym (code-at-place s.filled s.placed (s.filled - 1) 0 (omega (arith, filled))) in
    let low = a.requires.sound.coded.codes (s.filled - 1) (omega (arith, filled)) in
    omega (arith, code, low)

pub bounds-self-x : goal.bounds-self-x
bounds-self-x c = last-low (goal.at.bounds-self-x c).After-code_at-last

pub bounds-self-x-else-last-eq1 : goal.bounds-self-x-else-last-eq1
bounds-self-x-else-last-eq1 c = omega (arith, last-low (goal.at.bounds-self-x-else-last-eq1 c).After-code_at-last)
