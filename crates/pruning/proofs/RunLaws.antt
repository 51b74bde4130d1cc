-- The tree has no completion where no run is.
-- Assumes nothing.
use mathlib.Core.Path.{◌≡◌, refl, sym, ◌∙◌}
use Prim.Native.Nat.{ℕ, zero, suc, ◌+◌, ◌*◌, ◌-◌, ◌/◌, ◌%◌, ◌^◌, ◌<◌}
use native.Mathlib.Omega.{arith}
use mathlib.Core.List.{List, [], ◌∷◌, ◌++◌}
use mathlib.Core.Bool.{Bool, true, false, cond, false≢true}
use mathlib.Core.Option.{none}
use lib.Bits.{bit_and}
use lib.Count.{ones}
use borrow.Author.Tests.{eqb-true, eq-eqb}
use Rattle.lists.specs.Lists.{or_else, is_none, all}
use Rattle.lists.proofs.ListLaws.{and_l, and_r, and_i, is_none-none, none-is_none}
use Rattle.lists.specs.Bits.{bit_at, members}
use Rattle.places.specs.Facts.{end_row, after_of}
use Rattle.places.specs.Tree.{Constraints, Completion, none_in, legal_reads, fits_at, ends_at, first_of, try_one, try_both, from_candidates}
use Rattle.pruning.specs.Runs.{runs}
use Rattle.lists.proofs.BitLaws.{no_member, member-and, ones-off}
use Rattle.places.proofs.MemberLaws.{none-in-members}
use Rattle.places.proofs.SetLaws.{members-remove, members-pass}

-- ---- one place of a run

-- t with outcome o comes next, and then the run l
pub record RunStep (D : Constraints) (p : List ℕ) (u t o : ℕ) (l : List ℕ) : Type 0 where
  pub is_in : bit_at t u ≡ 1
  pub fits : fits_at D p (members u) t o ≡ true
  pub rest : runs D (p ++ ((t * 2 + o) ∷ [])) (u - 2 ^ t) l ≡ true

pub step_of : (D : Constraints) (p : List ℕ) (u t o : ℕ) (l : List ℕ) → o < 2 → runs D p u ((t * 2 + o) ∷ l) ≡ true → RunStep D p u t o l
unfolding runs
step_of D p u t o l two h =
    let a : (t * 2 + o) / 2 ≡ t = omega arith in
    let b : (t * 2 + o) % 2 ≡ o = omega arith in
    let g = rw (a, b) at h in
    record { is_in = eqb-true (bit_at t u) 1 (and_l _ _ g); fits = and_l _ _ (and_r _ _ g); rest = and_r _ _ (and_r _ _ g) }

pub of-step : (D : Constraints) (p : List ℕ) (u t o : ℕ) (l : List ℕ) → o < 2 → RunStep D p u t o l → runs D p u ((t * 2 + o) ∷ l) ≡ true
unfolding runs
of-step D p u t o l two s =
    let a : (t * 2 + o) / 2 ≡ t = omega arith in
    let b : (t * 2 + o) % 2 ≡ o = omega arith in
    rw (a, b) (and_i _ _ (eq-eqb (bit_at t u) 1 s.is_in) (and_i _ _ s.fits s.rest))

-- ---- the first of several

module _ (f : ℕ → Completion) where
  none_first : (l : List ℕ) → all (λ t. is_none (f t)) l ≡ true → first_of f l ≡ none
  unfolding first_of all
  none_first [] h = refl
  none_first (t ∷ l) h = rw (is_none-none (f t) (and_l _ _ h)) (none_first l (and_r _ _ h))

cond-none : (b : Bool) (x : Completion) → (b ≡ true → x ≡ none) → cond b x none ≡ none
cond-none true x f = f refl
cond-none false x f = refl

both-none : {x y : Completion} → x ≡ none → y ≡ none → or_else x y ≡ none
both-none e f = rw e f

-- ---- the tree

module _ (D : Constraints) where
  -- a run that has no place left to fill ends: none that must come before the end is in u
  pub run_ends : (p : List ℕ) (u k : ℕ) → u < 1024 → runs D p u [] ≡ true → bit_at k u ≡ 1 → bit_at k (after_of D.facts end_row) ≡ 1 → ⊥
  unfolding runs ends_at
  run_ends p u k few e is_in asked = go (none_in (after_of D.facts end_row) (members u)) refl e
    where
      go : (b : Bool) → none_in (after_of D.facts end_row) (members u) ≡ b → cond b (legal_reads D p end_row) false ≡ true → ⊥
      go true q g =
          no_member k (bit_and (after_of D.facts end_row) u) (eqb-true _ _ (sym (none-in-members (after_of D.facts end_row) u (omega arith)) ∙ q))
          (member-and k (after_of D.facts end_row) u asked is_in)
      go false q g = false≢true g

  not-ended : (p : List ℕ) (u : ℕ) → ((l : List ℕ) → runs D p u l ≡ true → ⊥) → ends_at D p (members u) ≡ false
  unfolding runs
  not-ended p u f = go (ends_at D p (members u)) refl
    where
      go : (b : Bool) → ends_at D p (members u) ≡ b → ends_at D p (members u) ≡ false
      go true e = absurd (f [] e)
      go false e = e

  -- where no run is there is no completion
  pub none_runs : (n : ℕ) (p : List ℕ) (u : ℕ) → u < 1024 → ones u ≡ n → ((l : List ℕ) → runs D p u l ≡ true → ⊥)
      → from_candidates D n p (members u) (members u) ≡ none
  unfolding from_candidates try_both try_one
  none_runs zero p u few e f = rw (not-ended p u f)
  none_runs (suc n) p u few e f =
      rw (not-ended p u f)
      (none_first _ (members u) (members-pass _ u (λ t b. none-is_none (both-none (tried t b 0 (omega arith) (none_runs n)) (tried t b 1 (omega arith) (none_runs n))))))
    where
      tried : (t : ℕ) → bit_at t u ≡ 1 → (o : ℕ) → o < 2
          → ((q : List ℕ) (v : ℕ) → v < 1024 → ones v ≡ n → ((l : List ℕ) → runs D q v l ≡ true → ⊥) → from_candidates D n q (members v) (members v) ≡ none)
          → try_one D (λ p' u'. from_candidates D n p' u' u') p (members u) t o ≡ none
      tried t b o two ih =
          cond-none (fits_at D p (members u) t o) _ (λ fit. rw (← members-remove t u few b)
          (ih (p ++ ((t * 2 + o) ∷ [])) (u - 2 ^ t) (omega arith) (omega (arith, ones-off t u b))
          (λ l r. f ((t * 2 + o) ∷ l) (of-step D p u t o l two (record { is_in = b; fits = fit; rest = r })))))
