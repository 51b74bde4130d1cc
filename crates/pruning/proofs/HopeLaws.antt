-- What the runs do next that a state waits for: an aborted place changes nothing for it, and a committed one is among those that it tries.
-- Assumes nothing.
use mathlib.Core.Path.{◌≡◌, refl, sym, ap, ◌∙◌}
use Prim.Native.Nat.{ℕ, zero, suc, ◌+◌, ◌*◌, ◌-◌, ◌/◌, ◌%◌, ◌^◌, ◌<◌}
use native.Mathlib.Omega.{arith}
use mathlib.Core.List.{List, [], ◌∷◌, ◌++◌}
use mathlib.Core.Bool.{Bool, true, false, not, cond, false≢true}
use mathlib.Core.Option.{none, get_or}
use lib.Bits.{bit_and}
use lib.Dec.{eqb}
use lib.Count.{ones, count_trailing_zeros}
use borrow.Author.Tests.{eqb-true, ne_eqb}
use Rattle.lists.specs.Lists.{◌and◌, all}
use Rattle.event_log.specs.Starts.{start_of}
use Rattle.lists.proofs.ListLaws.{clash, all-weaken}
use Rattle.opacity.specs.Justification.{written}
use Rattle.opacity.proofs.Contents.{contents-more}
use Rattle.places.specs.declared.state.Search.{Search}
use Rattle.lists.specs.Bits.{bit_at, members}
use Rattle.places.specs.Facts.{end_row, after_of, allowed_of, reads_asked}
use Rattle.places.specs.Places.{coded, decode, writes_in}
use Rattle.places.specs.State.{placed_of, Sound, Placeable, Keeps, Extends}
use Rattle.places.specs.Tree.{Constraints, legal_at, legal_reads, none_in, rule_next, allows_outcome, fits_at, from_candidates}
use Rattle.pruning.specs.Runs.{holds, Awaited, Hope, Ready, Renewed, other_than}
use Rattle.lists.proofs.BitLaws.{member-lt, member-off, member-kept, and-member, lowest-in}
use Rattle.places.proofs.SetLaws.{not-gone, member-passes, members-pass}
use Rattle.places.proofs.LookupLaws.{decode-snoc}
use Rattle.pruning.proofs.RunLaws.{RunStep, step_of, run_ends, none_runs}

-- ---- what the registers hold

module _ (D : Constraints) where
  same_place : (p q : List ℕ) (c r : ℕ) → holds D p r ≡ holds D q r → holds D (p ++ (c ∷ [])) r ≡ holds D (q ++ (c ∷ [])) r
  unfolding holds
  same_place p q c r e =
      rw (decode-snoc p c, decode-snoc q c)
      (contents-more (start_of D.starts) (writes_in D.facts) (decode p) (coded c) r
      ∙ ap (get_or (written (writes_in D.facts) r (coded c))) e
      ∙ sym (contents-more (start_of D.starts) (writes_in D.facts) (decode q) (coded c) r))

  -- an aborted place leaves them as they are
  pub aborted-place : (p : List ℕ) (t r : ℕ) → holds D (p ++ ((t * 2 + 0) ∷ [])) r ≡ holds D p r
  unfolding holds written
  aborted-place p t r =
      let b : (t * 2 + 0) % 2 ≡ 0 = omega arith in
      rw (decode-snoc p (t * 2 + 0)) (contents-more (start_of D.starts) (writes_in D.facts) (decode p) (coded (t * 2 + 0)) r ∙ (rw b))

  -- and where they hold the same the same is legal
  legal-alike : (p q : List ℕ) → ((r : ℕ) → holds D p r ≡ holds D q r) → (t : ℕ) → legal_reads D p t ≡ true → legal_reads D q t ≡ true
  unfolding legal_reads legal_at holds
  legal-alike p q e t h = all-weaken _ _ (members (reads_asked D.facts D.asked t)) (λ r g. rw (e r) at g) h

-- ---- what is needed

none-all : (set : ℕ) (l : List ℕ) → none_in set l ≡ all (λ x. eqb (bit_at x set) 0) l
unfolding none_in all ◌and◌
none-all set [] = refl
none-all set (x ∷ l) = go (eqb (bit_at x set) 0) (none-all set l)
  where
    go : (b : Bool) → none_in set l ≡ all (λ y. eqb (bit_at y set) 0) l → cond b (none_in set l) false ≡ (b and all (λ y. eqb (bit_at y set) 0) l)
    go true e = e
    go false e = refl

none_within : (set u c : ℕ) → u < 1024 → ((k : ℕ) → bit_at k c ≡ 1 → bit_at k u ≡ 1) → none_in set (members u) ≡ true → none_in set (members c) ≡ true
none_within set u c few w h =
    none-all set (members c)
    ∙ members-pass _ c (λ k b. member-passes _ u (sym (none-all set (members u)) ∙ h) k (omega (arith, member-lt k u 10 (w k b) few)) (w k b))

-- ---- a place that fits

pub record Fits (D : Constraints) (p : List ℕ) (u t o : ℕ) : Type 0 where
  pub first : none_in (after_of D.facts t) (members u) ≡ true
  pub legal : legal_reads D p t ≡ true
  pub allowed : allows_outcome (allowed_of D.facts t) o ≡ true

none_allowed : (o : ℕ) → o < 2 → allows_outcome 3 o ≡ true → ⊥
unfolding allows_outcome
none_allowed zero l e = false≢true e
none_allowed (suc zero) l e = false≢true e
none_allowed (suc (suc o)) l e = omega arith

pub fits-parts : (D : Constraints) (p : List ℕ) (u t o : ℕ) → o < 2 → fits_at D p (members u) t o ≡ true → Fits D p u t o
unfolding fits_at rule_next
fits-parts D p u t o two h = go (none_in (after_of D.facts t) (members u)) refl (legal_reads D p t) refl h
  where
    go : (b : Bool) → none_in (after_of D.facts t) (members u) ≡ b → (c : Bool) → legal_reads D p t ≡ c
        → allows_outcome (cond b (cond c (allowed_of D.facts t) 3) 3) o ≡ true → Fits D p u t o
    go true e true f g = record { first = e; legal = f; allowed = g }
    go true e false f g = absurd (none_allowed o two g)
    go false e c f g = absurd (none_allowed o two g)

-- a rule that allows o is not that of the other outcome alone
pub not-other : (rule o x : ℕ) → o < 2 → x < 2 → (x ≡ o → ⊥) → allows_outcome rule o ≡ true → not (eqb rule x) ≡ true
unfolding allows_outcome
not-other rule o x two low f h = go (eqb rule o) refl h
  where
    go : (b : Bool) → eqb rule o ≡ b → cond b true (eqb rule 2) ≡ true → not (eqb rule x) ≡ true
    go true e g = ap not (ne_eqb rule x (λ q. f (sym q ∙ eqb-true rule o e)))
    go false e g = ap not (ne_eqb rule x (λ q. omega (arith, eqb-true rule 2 g)))

module _ (D : Constraints) (s : Search) (need u : ℕ) (p l : List ℕ) (t : ℕ) where
  step : (o : ℕ) → o < 2 → Awaited D s need u p ((t * 2 + o) ∷ l) → RunStep D p u t o l
  step o two a = step_of D p u t o l two a.run

  fits : (o : ℕ) → o < 2 → Awaited D s need u p ((t * 2 + o) ∷ l) → Fits D p u t o
  fits o two a = fits-parts D p u t o two (step o two a).fits

  -- the next transaction is unplaced and ready
  pub next-unplaced : (o : ℕ) → o < 2 → Awaited D s need u p ((t * 2 + o) ∷ l) → bit_at t s.unplaced ≡ 1
  next-unplaced o two a = a.unplaced t (step o two a).is_in

  pub next-ready : (ready o : ℕ) → o < 2 → Ready D s ready → Awaited D s need u p ((t * 2 + o) ∷ l) → bit_at t ready ≡ 1
  next-ready ready o two k a = k.has t (next-unplaced o two a) (legal-alike D p (placed_of s) a.alike t (fits o two a).legal)

  -- no needed one comes before it, and its outcome is not fixed as the other
  pub next-may : (o x : ℕ) → o < 2 → x < 2 → (x ≡ o → ⊥) → Awaited D s need u p ((t * 2 + o) ∷ l) → other_than D.facts need t x ≡ true
  unfolding other_than
  next-may o x two low f a =
      rw (none_within (after_of D.facts t) u need a.few a.needed (fits o two a).first) (not-other (allowed_of D.facts t) o x two low f (fits o two a).allowed)

  -- one that is placed aborted is needed no more, so that the state waits for the rest of the run
  aborted-next : (ready : ℕ) → Ready D s ready
      → ((k : ℕ) → bit_at k need ≡ 1 → bit_at k ready ≡ 1 → other_than D.facts need k 1 ≡ false)
      → Awaited D s need u p ((t * 2 + 0) ∷ l) → Awaited D s need (u - 2 ^ t) (p ++ ((t * 2 + 0) ∷ [])) l
  aborted-next ready keeps stuck a =
      record {
        few = omega (arith, a.few);
        alike = λ r. aborted-place D p t r ∙ a.alike r;
        needed = λ k h. member-kept t k u (step 0 (omega arith) a).is_in (λ e. passed (rw e at h)) (a.needed k h);
        asked = a.asked;
        unplaced = λ k h. a.unplaced k (member-off t k u (step 0 (omega arith) a).is_in h);
        run = (step 0 (omega arith) a).rest;
      }
    where
      passed : bit_at t need ≡ 1 → ⊥
      passed h = clash (next-may 0 1 (omega arith) (omega arith) (λ e. omega arith) a) (stuck t h (next-ready ready 0 (omega arith) keeps a))

  -- one that is placed committed leads to the state that has it placed
  pub committed-next : (next : Search) → Extends s t 1 next → Awaited D s need u p ((t * 2 + 1) ∷ l)
      → Awaited D next (bit_and need next.unplaced) (u - 2 ^ t) (p ++ ((t * 2 + 1) ∷ [])) l
  committed-next next x a =
      record {
        few = omega (arith, a.few);
        alike = λ r. same_place D p (placed_of s) (t * 2 + 1) r (a.alike r) ∙ ap (λ (q : List ℕ). holds D q r) (sym x.places);
        needed = λ k h.
            let b = and-member k need next.unplaced h in
            member-kept t k u (step 1 (omega arith) a).is_in (not-gone t k s.unplaced (next-unplaced 1 (omega arith) a) (rw x.rest at b.1)) (a.needed k b.0);
        asked = λ k h. a.asked k (and-member k need next.unplaced h).0;
        unplaced = λ k h. rw x.rest
            (member-kept t k s.unplaced (next-unplaced 1 (omega arith) a) (not-gone t k u (step 1 (omega arith) a).is_in h) (a.unplaced k (member-off t k u (step 1 (omega arith) a).is_in h)));
        run = (step 1 (omega arith) a).rest;
      }

-- ---- the runs of a state

-- none begins with t committed
abbrev pub Missed : Constraints → Search → ℕ → ℕ → Type 0
Missed D s need t = (u : ℕ) (p l : List ℕ) → Awaited D s need u p ((t * 2 + 1) ∷ l) → ⊥

-- what is ready when one more has committed
pub ready_on : (D : Constraints) (s next : Search) (t ready after : ℕ) → Placeable s t → Extends s t 1 next → Ready D s ready
    → Keeps (Renewed (legal_reads D) (placed_of next) t ready) next.unplaced after → Ready D next after
ready_on D s next t ready after r e known k =
    record {
      within = k.within;
      has = λ j m h. k.has j m (record { before = placed_of s; grown = e.places; was = λ g. known.has j (member-off t j s.unplaced r.is_in (rw e.rest at m)) g; is = h });
    }

-- fewer are needed
pub awaited-less : (D : Constraints) (s : Search) (need rest u : ℕ) (p l : List ℕ) → ((k : ℕ) → bit_at k rest ≡ 1 → bit_at k need ≡ 1)
    → Awaited D s need u p l → Awaited D s rest u p l
awaited-less D s need rest u p l w a = record { few = a.few; alike = a.alike; needed = λ k h. a.needed k (w k h); asked = λ k h. a.asked k (w k h); unplaced = a.unplaced; run = a.run }

module _ (D : Constraints) (s : Search) (need ready : ℕ) (low : need < 2 ^ 64) (more : need ≡ 0 → ⊥)
    (keeps : Ready D s ready)
    (stuck : (k : ℕ) → bit_at k need ≡ 1 → bit_at k ready ≡ 1 → other_than D.facts need k 1 ≡ false)
    (missed : (t : ℕ) → Missed D s need t) where
  -- where something is needed and no commit begins a run, there is none
  pub no_run : (l : List ℕ) (u : ℕ) (p : List ℕ) → Awaited D s need u p l → ⊥
  no_run [] u p a =
      let is_in = lowest-in 64 need low (omega arith) in
      run_ends D p u (count_trailing_zeros 64 need) a.few a.run (a.needed (count_trailing_zeros 64 need) is_in) (a.asked (count_trailing_zeros 64 need) is_in)
  no_run (c ∷ l) u p a = go (c / 2) (c % 2) (omega arith) (omega arith) (no_run l)
    where
      go : (t o : ℕ) → o < 2 → c ≡ t * 2 + o → ((v : ℕ) (q : List ℕ) → Awaited D s need v q l → ⊥) → ⊥
      go t zero two e ih = ih (u - 2 ^ t) (p ++ ((t * 2 + 0) ∷ [])) (aborted-next D s need u p l t ready keeps stuck (rw e at a))
      go t (suc zero) two e ih = missed t u p l (rw e at a)
      go t (suc (suc o)) two e ih = omega arith

-- what is needed is unplaced, and must come before the end
pub record Needs (D : Constraints) (s : Search) (need : ℕ) : Type 0 where
  pub unplaced : (k : ℕ) → bit_at k need ≡ 1 → bit_at k s.unplaced ≡ 1
  pub asked : (k : ℕ) → bit_at k need ≡ 1 → bit_at k (after_of D.facts end_row) ≡ 1

pub needs-of : (D : Constraints) (s : Search) (set need : ℕ) → need ≡ bit_and set (after_of D.facts end_row) → ((k : ℕ) → bit_at k set ≡ 1 → bit_at k s.unplaced ≡ 1)
    → Needs D s need
needs-of D s set need e f =
    record { unplaced = λ k h. f k (and-member k set (after_of D.facts end_row) (rw e at h)).0; asked = λ k h. (and-member k set (after_of D.facts end_row) (rw e at h)).1 }

-- where it is certain that no run is waited for, nothing completes the state
pub hopeless : (D : Constraints) (s : Search) (c need : ℕ) (r : Bool) → Sound s → c ≡ s.unplaced → Needs D s need → Hope D s need r → r ≡ false
    → from_candidates D (ones s.unplaced) (placed_of s) (members s.unplaced) (members c) ≡ none
hopeless D s c need r h q n f e =
    rw q
    (none_runs D (ones s.unplaced) (placed_of s) s.unplaced h.few refl (λ l g.
    clash (f s.unplaced (placed_of s) l (record { few = h.few; alike = λ k. refl; needed = n.unplaced; asked = n.asked; unplaced = λ k b. b; run = g })) e))
