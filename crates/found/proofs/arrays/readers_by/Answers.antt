-- `found::arrays::readers_by` meets its contract: the transactions passed have their places. Assumes nothing.
use Prim.Native.Nat.{ℕ, ◌+◌, ◌-◌, ◌≤◌, ◌<◌}
use mathlib.Core.Path.{◌≡◌, refl, ◌∙◌}
use mathlib.Core.Bool.{Bool, true, false, cond}
use mathlib.Core.List.{List, ◌++◌}
use native.Mathlib.Omega.{arith}
use lib.Dec.{ltb}
use lib.ListN.{length, drop, get_or, length-append, length-drop, get_or-append}
use Rattle.std.proofs.lemmas.List.{get_or-append_right, get_or-drop}
use borrow.Author.Tests.{ltb-true, ltb-false}
use Rattle.lists.specs.Filled.{Filled, Front}
use Rattle.lists.proofs.FilledLaws.{filled_none, filled-beyond}
use Rattle.found.proofs.arrays.readers_by.Goals as goal

-- a table that is filled from the front, and behind it what stood there
behind : (f : ℕ → ℕ) (n : ℕ) (items table : List ℕ) → length items ≡ n → n ≤ 64 → Front 0 f n items → Filled 64 0 f 0 table
    → Filled 64 0 f n (items ++ drop n table)
behind f n items table e l w z =
    record {
      size = omega (arith, length-append items (drop n table), length-drop n table, z.size);
      holds = λ i. go i (ltb i n) refl;
    }
  where
    go : (i : ℕ) (b : Bool) → ltb i n ≡ b → get_or (items ++ drop n table) i 0 ≡ cond b (f i) 0
    go i true q =
        let m : i < n = ltb-true i n q in
        get_or-append items (drop n table) 0 i (omega arith) ∙ w.holds i m
    go i false q =
        let m : n ≤ i = ltb-false i n q in
        get_or-append_right items (drop n table) n i 0 e m ∙ (get_or-drop n table (i - n) 0 ∙ filled-beyond z (n + (i - n)) (omega arith))

pub returns : goal.returns
returns c =
    let n : c.loop-t.t ≡ length c.args.codes.now = omega arith in
    behind _ _ _ _ c.loop-t.invariant.long (omega arith) (rw n at c.loop-t.invariant.placed) (filled_none 64 0 _)
