-- Runs put into a buffer one after the other: bytes into an output, entries into a list.
-- Assumes nothing.
use mathlib.Core.Path.{◌≡◌, refl, sym, ap, ◌∙◌}
use mathlib.Core.Logic.{⊎_elim}
use mathlib.Core.List.{List, [], ◌++◌}
use Prim.Native.Nat.{ℕ, zero, suc, ◌+◌, ◌≤◌, ◌<◌}
use native.Mathlib.Nat.{le_refl, le_of_suc-le-suc, eq-or-lt_of_le}
use native.Mathlib.Numerals.{add-one}
use native.Mathlib.Omega.{arith}
use lib.ListN.{length, drop, length-append, take-append-drop}
use Rattle.records.specs.Bytes.{placed, over}
use Rattle.records.proofs.BufferLaws.{placed-more}

-- a run, and then another right behind it
pub placed-then : (d o o' : List ℕ) (at : ℕ) (xs ys : List ℕ) (m : ℕ) → o ≡ placed d at xs → o' ≡ placed o m ys → at + length xs ≡ m → m ≤ length d → o' ≡ placed d at (xs ++ ys)
placed-then d o o' at xs ys m e f h room = f ∙ ap (λ (l : List ℕ). placed l m ys) e ∙ placed-more d at xs ys m h (omega arith)

pub placed-nothing : (d : List ℕ) (at : ℕ) → d ≡ placed d at []
placed-nothing d at = let e : at + 0 ≡ at = omega arith in rw e (sym (take-append-drop at d))

-- a run from the first place on
pub placed_first : (xs d : List ℕ) → placed d 0 xs ≡ over xs d
placed_first xs d = let z : 0 + length xs ≡ length xs = omega arith in ap (λ (k : ℕ). xs ++ drop k d) z

-- what stands in the buffer d after i runs, from one place on, where xs i are the first i; the next one goes to `at`
pub record Put (xs : ℕ → List ℕ) (d : List ℕ) (from i : ℕ) (out : List ℕ) (at : ℕ) : Type 0 where
  pub ends : at ≡ from + length (xs i)
  pub long : length out ≡ length d
  pub holds : out ≡ placed d from (xs i)

-- each run is put behind those before it
module _ (xs ys : ℕ → List ℕ) (none : xs 0 ≡ []) (more : (i : ℕ) → xs (suc i) ≡ xs i ++ ys i) (d : List ℕ) (from : ℕ) where
  pub put-none : Put xs d from 0 d from
  put-none = record { ends = omega (arith, ap length none); long = refl; holds = rw none (placed-nothing d from) }

  grows : (i : ℕ) → length (xs (suc i)) ≡ length (xs i) + length (ys i)
  grows i = ap length (more i) ∙ length-append (xs i) (ys i)

  runs-le : (n i : ℕ) → i ≤ n → length (xs i) ≤ length (xs n)
  runs-le zero i l = let e : i ≡ 0 = omega arith in rw e (le_refl (length (xs 0)))
  runs-le (suc n) i l =
      ⊎_elim
      (λ e. rw e (le_refl (length (xs (suc n)))))
      (λ m. omega (arith, runs-le n i (le_of_suc-le-suc m), grows n))
      (eq-or-lt_of_le l)

  module _ (n : ℕ) (room : from + length (xs n) ≤ length d) (i : ℕ) (l : i < n) where
    fits : from + length (xs i) + length (ys i) ≤ length d
    fits = omega (arith, runs-le n (suc i) l, grows i)

    module _ (out : List ℕ) (at : ℕ) (p : Put xs d from i out at) where
      pub put-room : at + length (ys i) ≤ length out
      put-room = omega (arith, fits, p.ends, p.long)

      pub put-more : (out' : List ℕ) (at' : ℕ) → length out' ≡ length out → out' ≡ placed out at (ys i) → at' ≡ at + length (ys i) → Put xs d from (i + 1) out' at'
      put-more out' at' k e f =
          rw (add-one i) record {
            ends = omega (arith, p.ends, grows i);
            long = k ∙ p.long;
            holds = placed-then d out out' from (xs i) (ys i) at p.holds e (sym p.ends) (omega (arith, fits, p.ends)) ∙ ap (placed d from) (sym (more i));
          }
