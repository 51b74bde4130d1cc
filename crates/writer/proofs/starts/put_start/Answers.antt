-- `put_start` meets its contract. Assumes nothing.
use Rattle.records.specs.Bytes.{u16_bytes, u32_bytes, placed}
use Rattle.records.proofs.BufferLaws.{placed-more}
use Rattle.writer.specs.Writing.{start_record}
use Rattle.writer.proofs.StartLaws.{whole-record}
use mathlib.Core.Path.{◌≡◌, refl, sym, ap, ◌∙◌}
use Prim.Native.Nat.{ℕ, ◌+◌, ◌≤◌}
use native.Mathlib.Omega.{arith}
use lib.ListN.{length}
use mathlib.Core.List.{List, ◌++◌}
use Rattle.writer.proofs.starts.put_start.Goals as goal
use Rattle.writer.proofs.starts.put_start.Goals.{Else-value-eq0}

-- there is room for the record
room : (c : Else-value-eq0) → c.args.at + 10 ≤ length c.args.out.now
room c =
    let a = c.args in
    let e : length (start_record a.register a.value) ≡ 10 = ap (λ (l : List ℕ). length l)
    (whole-record a.register a.value c.if-value-eq0.false) in
    rw e at c.requires

pub returns : goal.returns
returns c =
    let a = c.args in
    let o = a.out.now in
    let h = room (goal.at.returns c).Else-value-eq0 in
    let access = u16_bytes a.register ++ u32_bytes a.value in
    c.put_access.ensures
    ∙ (ap (λ (l : List ℕ). placed l (a.at + 4) access)
    (c.put_u16-2.ensures
    ∙ (ap (λ (l : List ℕ). placed l (a.at + 2) (u16_bytes 3)) c.put_u16.ensures
    ∙ placed-more o a.at (u16_bytes 8) (u16_bytes 3) (a.at + 2) refl (omega arith)))
    ∙ (placed-more o a.at (u16_bytes 8 ++ u16_bytes 3) access (a.at + 4) refl (omega arith)
    ∙ sym (ap (placed o a.at) (whole-record a.register a.value c.if-value-eq0.false))))
