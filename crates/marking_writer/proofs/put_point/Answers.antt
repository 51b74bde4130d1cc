-- `marking_writer::put_point` meets its contract.
-- Assumes nothing.
use mathlib.Core.Path.{refl}
use mathlib.Core.List.{◌++◌}
use Prim.Native.Nat.{◌+◌}
use native.Mathlib.Omega.{arith}
use Rattle.records.specs.Bytes.{u16_bytes, u32_bytes}
use Rattle.marking_writer.proofs.RunLaws.{placed-then}
use Rattle.marking_writer.proofs.put_point.Goals as goal

pub returns : goal.returns
returns c =
    let out = c.args.out.now in
    let at = c.args.at in
    let room = c.requires in
    let both = placed-then out _ _ at (u16_bytes 8) (u16_bytes 33) (at + 2) c.put_u16.ensures c.put_u16-2.ensures refl (omega arith) in
    let all = placed-then out _ _ at (u16_bytes 8 ++ u16_bytes 33) (u32_bytes c.args.event) (at + 4) both c.put_u32.ensures refl
    (omega arith) in
    placed-then out _ _ at (u16_bytes 8 ++ u16_bytes 33 ++ u32_bytes c.args.event) (u16_bytes c.args.gap) (at + 8) all c.put_u16-3.ensures
    refl (omega arith)
