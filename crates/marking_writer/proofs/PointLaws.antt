-- The points of a marking, one event more at a time.
-- Assumes nothing.
use mathlib.Core.Path.{◌≡◌, refl, ap, ap₂, ◌∙◌}
use Prim.Native.Nat.{ℕ, zero, suc, ◌+◌, ◌≤◌, ◌<◌}
use native.Mathlib.Nat.{le_step, lt-suc_self}
use native.Mathlib.Omega.{arith}
use mathlib.Core.Bool.{Bool, true, false}
use mathlib.Core.List.{List, [], ◌∷◌, ◌++◌, map, map-append}
use lib.ListN.{length, length-append}
use Rattle.records.specs.Bytes.{placed, over}
use Rattle.lists.specs.Lists.{push, keep, range}
use Rattle.lists.proofs.ListLaws.{keep_append}
use Rattle.opacity.specs.Marking.{Point, marking_head, point_bytes, flat}
use Rattle.opacity.proofs.MarkingBytes.{flat_append}
use Rattle.marking_writer.specs.Points.{read_bytes, points_to}
use Rattle.marking_writer.proofs.RunLaws.{placed-then, placed_first}

-- they are the points of the definition
pub points-are : (store : ℕ → Bool) (gap : ℕ → ℕ) (n : ℕ)
    → flat point_bytes (map (λ i. record { event = i; gap = gap i }) (keep store (range n))) ≡ points_to store gap n
unfolding flat keep range points_to
points-are store gap zero = refl
points-are store gap (suc n) =
    let f : ℕ → Point = λ (i : ℕ). record { event = i; gap = gap i } in
    ap (λ (l : List ℕ). flat point_bytes (map f l)) (keep_append store (range n) (n ∷ []))
    ∙ ap (flat point_bytes) (map-append f (keep store (range n)) (keep store (n ∷ [])))
    ∙ flat_append point_bytes (map f (keep store (range n))) (map f (keep store (n ∷ [])))
    ∙ ap₂ (λ (a b : List ℕ). a ++ b) (points-are store gap n) (last (store n))
  where
    last : (b : Bool) → flat point_bytes (map (λ i. record { event = i; gap = gap i }) (push b n [])) ≡ read_bytes b n (gap n)
    last true = refl
    last false = refl

-- points of the same events at the same gaps are the same
pub points-same : (store store' : ℕ → Bool) (gap gap' : ℕ → ℕ) (n : ℕ) → ((i : ℕ) → i < n → store i ≡ store' i)
    → ((i : ℕ) → i < n → store' i ≡ true → gap i ≡ gap' i) → points_to store gap n ≡ points_to store' gap' n
unfolding points_to
points-same store store' gap gap' zero f g = refl
points-same store store' gap gap' (suc n) f g =
    ap₂ (λ (a b : List ℕ). a ++ b) (points-same store store' gap gap' n (λ i l. f i (le_step l)) (λ i l. g i (le_step l)))
    (ap (λ (b : Bool). read_bytes b n (gap n)) (f n (lt-suc_self n)) ∙ last (store' n) (g n (lt-suc_self n)))
  where
    last : (b : Bool) → (b ≡ true → gap n ≡ gap' n) → read_bytes b n (gap n) ≡ read_bytes b n (gap' n)
    last true e = ap (read_bytes true n) (e refl)
    last false e = refl

-- each event's point is put behind those before it
module _ (store : ℕ → Bool) (gap : ℕ → ℕ) where
  pub points_none : points_to store gap 0 ≡ []
  unfolding points_to
  points_none = refl

  pub points-more : (i : ℕ) → points_to store gap (suc i) ≡ points_to store gap i ++ read_bytes (store i) i (gap i)
  unfolding points_to
  points-more i = refl

-- head, places and points, one run after the other, are the file from the output's first byte
pub marking-put : (F P d o₁ o₂ o₃ : List ℕ) (k : ℕ) → 6 + length F ≡ k → length (marking_head ++ (F ++ P)) ≤ length d
    → o₁ ≡ placed d 0 marking_head → o₂ ≡ placed o₁ 6 F → o₃ ≡ placed o₂ k P → o₃ ≡ over (marking_head ++ (F ++ P)) d
marking-put F P d o₁ o₂ o₃ k h room e₁ e₂ e₃ =
    let n = length-append F P in
    let a : o₂ ≡ placed d 0 (marking_head ++ F) = placed-then d o₁ o₂ 0 marking_head F 6 e₁ e₂ refl (omega arith) in
    placed-then d o₂ o₃ 0 (marking_head ++ F) P k a e₃ (omega arith) (omega arith) ∙ placed_first (marking_head ++ (F ++ P)) d
