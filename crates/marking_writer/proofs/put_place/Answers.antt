-- `marking_writer::put_place` meets its contract.
-- Assumes nothing.
use mathlib.Core.Path.{◌≡◌, refl, ◌∙◌}
use mathlib.Core.Bool.{Bool, true, false}
use mir.Val.{bool_byte}
use Rattle.opacity.specs.Marking.{outcome_number}
use mathlib.Core.List.{◌++◌}
use Prim.Native.Nat.{◌+◌}
use native.Mathlib.Omega.{arith}
use Rattle.records.specs.Bytes.{u16_bytes}
use Rattle.marking_writer.proofs.RunLaws.{placed-then}
use Rattle.marking_writer.proofs.put_place.Goals as goal

-- the number of an outcome is that of the truth of it
numbered : (b : Bool) → bool_byte b ≡ outcome_number b
numbered true = refl
numbered false = refl

pub returns : goal.returns
returns c =
    let out = c.args.out.now in
    let at = c.args.at in
    let outcome = c.from.ensures ∙ numbered c.args.committed in
    let room = c.requires in
    let both = placed-then out _ _ at (u16_bytes 6) (u16_bytes 32) (at + 2) c.put_u16.ensures c.put_u16-2.ensures refl (omega arith) in
    let all = placed-then out _ _ at (u16_bytes 6 ++ u16_bytes 32) (u16_bytes c.args.transaction) (at + 4) both c.put_u16-3.ensures refl
    (omega arith) in
    placed-then out _ _ at (u16_bytes 6 ++ u16_bytes 32 ++ u16_bytes c.args.transaction) (u16_bytes (outcome_number c.args.committed))
    (at + 6) all (rw outcome at c.put_u16-4.ensures) refl (omega arith)
