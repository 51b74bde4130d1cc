-- `lines::Text::put` meets its contract.
-- Assumes nothing.
use native.Mathlib.Nat.{le_refl}
use mathlib.Core.Path.{ap, ◌∙◌}
use mathlib.Core.List.{List, ◌++◌}
use borrow.Rule.Slice.PartMut.{put_mid}
use Prim.Native.Nat.{ℕ, ◌+◌, ◌-◌}
use lib.ListN.{take}
use Rattle.lines.proofs.PutLaws.{put_behind}
use Rattle.lines.proofs.Text.put.Goals as goal

pub returns : goal.returns
returns c =
    let l : ℕ = c.self.inside.length in
    let n : ℕ = c.min-n.result in
    let bytes : List ℕ = c.self.inside.bytes in
    let words : List ℕ = c.args.words.now in
    record {
      filled =
          ap (λ (x : List ℕ). take (l + n) (put_mid l (l + n - l) bytes x)) c.copy_from_slice.ensures.after
          ∙ put_behind l n bytes words _ c.self.invariant c.self.told c.min-n.ensures
          ∙ ap (λ (x : List ℕ). take 343 (x ++ words)) c.self.view_is;
      short = le_refl _;
    }
