-- `places::state::codes_of` meets its contract.
-- Assumes nothing.
use mathlib.Core.Path.{◌≡◌, sym, ap, ◌∙◌}
use native.Mathlib.Omega.{arith}
use Prim.Native.Nat.{ℕ, ◌-◌}
use lib.ListN.{take, length-set}
use lib.Seq.{take_all}
use Rattle.places.specs.Places.{codes_of}
use Rattle.places.proofs.StateLaws.{length-codes, code-at-place, take_more}
use Rattle.places.proofs.state.codes_of.Goals as goal

pub loop-i-preserved : goal.loop-i-preserved
loop-i-preserved c =
    let at = c.loop-i in
    let n = c.args.count in
    let code = c.code_at.ensures ∙ sym (code-at-place n c.args.order at.i (n - 1 - at.i) (omega arith)) in
    let long = length-codes n c.args.order in
    record {
      long = length-set at.codes at.i _ ∙ at.invariant.long;
      same = take_more at.codes (codes_of n c.args.order) at.i _ (omega (arith, at.invariant.long)) (omega arith) code at.invariant.same;
    }

pub returns : goal.returns
returns c =
    let at = c.loop-i in
    let n = c.args.count in
    let e : at.i ≡ n = omega arith in
    ap (λ (k : ℕ). take k at.codes) (sym e) ∙ at.invariant.same ∙ ap (λ (k : ℕ). take k (codes_of n c.args.order)) e
    ∙ take_all n (codes_of n c.args.order) (omega (arith, length-codes n c.args.order))
