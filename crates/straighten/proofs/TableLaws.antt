-- Two tests one after the other, what is put into the list one event more at a time, and tables filled from the front.
-- Assumes nothing.
use Prim.Native.Nat.{ℕ, suc, ◌+◌, ◌≤◌, ◌<◌}
use native.Mathlib.Omega.{arith}
use mathlib.Core.Path.{◌≡◌, refl, sym, ap, ◌∙◌}
use mathlib.Core.Bool.{Bool, true, false, not}
use mathlib.Core.List.{List, [], ◌∷◌, ◌++◌, append_assoc}
use lib.ListN.{length, get_or, take, drop, set}
use lib.Seq.{sets-eq}
use Rattle.records.specs.Bytes.{placed}
use Rattle.lists.specs.Lists.{◌and◌, push, keep, range}
use Rattle.lists.proofs.ListLaws.{keep_append}
use Rattle.lists.specs.Filled.{Front}
use Rattle.std.proofs.Common.{below_more}
use Rattle.straighten.specs.Tables.{listed}

-- ---- two tests, one after the other

pub first-fails : (a b x : Bool) → x ≡ a → x ≡ false → true ≡ not (a and b)
unfolding ◌and◌
first-fails a b x e f = let z : a ≡ false = sym e ∙ f in rw z

pub second-tells : (a b x y : Bool) → x ≡ a → x ≡ true → y ≡ b → not y ≡ not (a and b)
unfolding ◌and◌
second-tells a b x y e f g = let z : a ≡ true = sym e ∙ f in rw z (ap not g)

-- ---- what is put into the list, one run more

module _ (moves : List Bool) where
  -- the i-th entry of the list, if event i is moved
  abbrev pub moved_here : ℕ → List ℕ
  moved_here i = push (get_or moves i false) i []

  pub listed-none : listed moves 0 ≡ []
  unfolding keep range
  listed-none = refl

  pub listed_more : (i : ℕ) → listed moves (suc i) ≡ listed moves i ++ moved_here i
  unfolding keep range
  listed_more i = keep_append (λ k. get_or moves k false) (range i) (i ∷ [])

pub placed_one : (d : List ℕ) (at v : ℕ) → at + 1 ≤ length d → set d at v ≡ placed d at (v ∷ [])
placed_one d at v h = sets-eq (v ∷ []) d at h ∙ append_assoc (take at d) (v ∷ []) (drop (at + 1) d)

-- ---- a table from the front, where the next entry stands already

pub front-keep : {A : Type 0} (d : A) (f : ℕ → A) (i : ℕ) (table : List A) → i < length table → get_or table i d ≡ f i → Front d f i table → Front d f (i + 1) table
front-keep d f i table l e w = record { room = omega arith; holds = below_more (λ k. get_or table k d ≡ f k) i w.holds e }
