-- Laws of the enumeration tree, as the two functions that walk it use them.
-- Assumes nothing.
use Rattle.std.specs.Prelude.{Option as Answer, Some, None}
use mathlib.Core.Path.{◌≡◌, refl, sym, ap, ◌∙◌}
use mathlib.Core.List.{[]}
use mathlib.Core.Bool.{Bool, true, false}
use mathlib.Core.Option.{none, some}
use Prim.Native.Nat.{ℕ, zero, suc, ◌+◌, ◌-◌, ◌*◌, ◌^◌, ◌≤◌, ◌<◌}
use native.Mathlib.Nat.{zero-add}
use native.Mathlib.Omega.{arith}
use Rattle.lists.specs.Lists.{or_else}
use lib.Pow.{pow_mono, pow_pos}
use lib.Count.{ones, ones-ones, count_trailing_zeros}
use Rattle.places.specs.declared.state.Search.{Search}
use Rattle.lists.specs.Bits.{bit_at, members_in, members}
use Rattle.places.specs.State.{placed_of, whole, Sound, Placeable, Within, Extends}
use Rattle.places.specs.Tree.{Constraints, Completion, rule_next, allows_outcome, fits_at, ends_at, first_of, try_one, try_both, from_candidates, at_transaction, first_completion, read_answer, Answered}
use Rattle.places.specs.Choice.{among, with_next, from}
use Rattle.lists.proofs.BitLaws.{ones-off}
use Rattle.places.proofs.MemberLaws.{members-all}
use Rattle.places.proofs.StateLaws.{fewer}
use Rattle.places.proofs.SetLaws.{members-first, members-remove, lowest-member}

-- ---- answers

pub first_found : {x : Completion} (n a : ℕ) (y : Completion) → read_answer n (Some a) ≡ x → read_answer n (Some a) ≡ or_else x y
first_found n a y e = rw (← e) refl

pub answer-none : (n : ℕ) (a : Answer ℕ) → a ≡ None → read_answer n a ≡ none
answer-none n a e = rw e

pub first-none : {x y z : Completion} → x ≡ none → z ≡ y → z ≡ or_else x y
first-none e f = rw e f

-- ---- choosing an outcome

-- the first completion of a state with t next at outcome o
pub attempt : Constraints → Search → ℕ → ℕ → Completion
attempt D s t o = try_one D (λ p' u'. from_candidates D (ones (s.unplaced - 2 ^ t)) p' u' u') (placed_of s) (members s.unplaced) t o

-- an outcome fits if the rule by which t may come next allows it
pub fits_by : {b : Bool} (D : Constraints) (s : Search) (t o rule : ℕ) → rule ≡ rule_next D (placed_of s) (members s.unplaced) t → b ≡ allows_outcome rule o
    → b ≡ fits_at D (placed_of s) (members s.unplaced) t o
unfolding fits_at
fits_by D s t o rule e f = f ∙ ap (λ (r : ℕ). allows_outcome r o) e

-- it does not fit
pub attempt-none : {b : Bool} (D : Constraints) (s : Search) (t o : ℕ) → b ≡ fits_at D (placed_of s) (members s.unplaced) t o → b ≡ false → attempt D s t o ≡ none
unfolding attempt try_one
attempt-none D s t o e f = rw (← e, f)

-- it fits, and the search goes on from the next state
pub attempt-next : {b : Bool} {x : Completion} (D : Constraints) (s next : Search) (t o : ℕ) → Placeable s t → Extends s t o next
    → b ≡ fits_at D (placed_of s) (members s.unplaced) t o → b ≡ true
    → x ≡ from_candidates D (ones next.unplaced) (placed_of next) (members next.unplaced) (members next.unplaced) → x ≡ attempt D s t o
unfolding attempt try_one
attempt-next D s next t o r x e f h = rw (← e, f, ← members-remove t s.unplaced r.sound.few r.is_in, ← x.rest, ← x.places) h

-- ---- no more than the places

-- the answer of the next state
pub answered-next : {x y : Completion} (s next : Search) (t o : ℕ) (a : Answer ℕ) → Extends s t o next → (h : Answered (whole next) a x) → read_answer h.places a ≡ y
    → Answered (whole s) a y
answered-next s next t o a x h e =
    record { places = h.places; few = rw x.total at h.few; led = h.led; answers = record { completion = e; room = h.answers.room } }

-- none
pub answered-none : {x : Completion} (n : ℕ) → none ≡ x → Answered n None x
answered-none n e = record { places = 0; few = omega arith; led = tt; answers = record { completion = e; room = tt } }

-- an answer read as another completion
pub answered-as : {x y : Completion} (n : ℕ) (a : Answer ℕ) → Answered n a x → x ≡ y → Answered n a y
answered-as n a h e = record { places = h.places; few = h.few; led = h.led; answers = record { completion = h.answers.completion ∙ e; room = h.answers.room } }

module _ (D : Constraints) (s : Search) (t : ℕ) where
  -- the first outcome leads to a completion
  pub outcome-first : (n a : ℕ) (y : Completion) → read_answer n (Some a) ≡ attempt D s t 0 → read_answer n (Some a) ≡ or_else (with_next D s t) y
  unfolding attempt at_transaction try_both
  outcome-first n a y e = first_found n a y (first_found n a (attempt D s t 1) e)

  -- it does not, and the second does
  pub outcome-second : (n a : ℕ) (y : Completion) → attempt D s t 0 ≡ none → read_answer n (Some a) ≡ attempt D s t 1
      → read_answer n (Some a) ≡ or_else (with_next D s t) y
  unfolding attempt at_transaction try_both
  outcome-second n a y e g = first_found n a y (first-none e g)

  -- neither does, and the other candidates decide
  pub outcome-neither : {y : Completion} → attempt D s t 0 ≡ none → attempt D s t 1 ≡ none → y ≡ or_else (with_next D s t) y
  unfolding attempt at_transaction try_both
  outcome-neither e g = first-none (sym (first-none e (sym g))) refl

-- ---- choosing a transaction

-- an order may end with the places filled
pub may-end : {b : Bool} (D : Constraints) (s : Search) (c : ℕ) → Sound s → b ≡ ends_at D (placed_of s) (members s.unplaced) → b ≡ true
    → Answered (whole s) (Some s.placed) (among D s c)
unfolding from_candidates
may-end D s c h e f =
    record {
      places = s.filled;
      few = omega arith;
      led = h.led;
      answers = record { completion = sym (go (ones s.unplaced) (sym e ∙ f)); room = h.room };
    }
  where
    go : (n : ℕ) → ends_at D (placed_of s) (members s.unplaced) ≡ true → from_candidates D n (placed_of s) (members s.unplaced) (members c) ≡ some (placed_of s)
    go zero q = rw q
    go (suc n) q = rw q

-- none may end with them
module _ (D : Constraints) (s : Search) (on : ends_at D (placed_of s) (members s.unplaced) ≡ false) where
  -- the lowest candidate comes first, and then the others
  pub next-candidate : (c t : ℕ) → Within s.unplaced c → c < 2 ^ 64 → (c ≡ 0 → ⊥) → t ≡ count_trailing_zeros 64 c → among D s c ≡ from D s c t
  unfolding from_candidates first_of at_transaction
  next-candidate c t w l f e = rw (members-first t c l f e, ones-off t s.unplaced (w.is_in t (lowest-member t c l f e)), on)

  -- no candidate
  pub none-among : (c : ℕ) → c ≡ 0 → none ≡ among D s c
  unfolding from_candidates first_of members members_in
  none-among c e = rw e (go (ones s.unplaced))
    where
      go : (n : ℕ) → none ≡ from_candidates D n (placed_of s) (members s.unplaced) []
      go zero = rw on
      go (suc n) = rw on

-- ---- the measure: unplaced transactions first, then candidates, and 1 before one is chosen

abbrev pub size : Search → ℕ → ℕ
size s c = ones s.unplaced * 100 + ones c * 2

-- a candidate has been tried
pub falls-to-rest : (s : Search) (c t r : ℕ) → bit_at t c ≡ 1 → r ≡ c - 2 ^ t → size s r + 1 < size s c
falls-to-rest s c t r h e = rw e (omega (arith, ones-off t c h))

-- a transaction has been placed
pub falls-to-next : (s next : Search) (c t o : ℕ) → Placeable s t → Extends s t o next → size next next.unplaced + 1 < size s c
falls-to-next s next c t o r x = omega (arith, fewer s next t o r x, r.sound.fit)

-- ---- the start

-- all of n at most ten transactions unplaced, and nothing placed
pub start-sound : (n u : ℕ) → n ≤ 10 → u ≡ 2 ^ n - 1 → Sound (record { unplaced = u; filled = 0; placed = 1 })
start-sound n u l e =
    let m : 2 ^ n ≤ 2 ^ 10 = pow_mono l in
    let p : 0 < 2 ^ n = pow_pos n in
    let o : ones u ≡ n = ap ones e ∙ ones-ones n in
    record {
      few = omega arith;
      fit = omega arith;
      led = omega arith;
      room = omega arith;
      coded = record { few = omega arith; codes = λ i h. absurd (omega arith) };
    }

-- and so is the answer that of the whole search
pub start-answers : (D : Constraints) (n u : ℕ) (a : Answer ℕ) → n ≤ 10 → u ≡ 2 ^ n - 1
    → Answered (0 + ones u) a (from_candidates D (ones u) [] (members u) (members u)) → Answered n a (first_completion D n)
unfolding first_completion
start-answers D n u a l e h =
    let all : ones u ≡ n = ap ones e ∙ ones-ones n in
    let same : from_candidates D (ones u) [] (members u) (members u) ≡ first_completion D n = rw (e, ones-ones n, members-all n (omega arith)) in
    let n-places : 0 + ones u ≡ n = zero-add (ones u) ∙ all in
    record { places = h.places; few = omega (arith, h.few); led = h.led; answers = record { completion = h.answers.completion ∙ same; room = h.answers.room } }
