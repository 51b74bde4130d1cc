-- In a readable history an order that justifies the first i events, carried on to event i, justifies them with it, if the question put to event i
-- says yes. It says yes of every begin, call, returned write and lone write.
-- Assumes nothing.
use Prim.Native.Nat.{ℕ, suc, ◌<◌}
use native.Mathlib.Nat.{le_of_lt}
use mathlib.Core.Path.{◌≡◌, refl, sym, ◌∙◌}
use mathlib.Core.Bool.{Bool, true, false, not, cond}
use mathlib.Core.List.{List, [], ◌∷◌, ◌++◌}
use lib.Dec.{eqb}
use lib.ListN.{length, take}
use lib.Seq.{take-suc}
use borrow.Author.Tests.{eqb-true}
use Rattle.lists.specs.Lists.{◌implies◌}
use Rattle.events.specs.declared.event.Event.{Event}
use Rattle.events.specs.Events.{no_event, event_at, is_begin, is_read, is_commit, is_abort, is_end}
use Rattle.events.specs.Questions.{readable}
use Rattle.lists.proofs.ListLaws.{and_l, imp-e, nor-i, or_l, or_r, clash, not-true}
use Rattle.events.proofs.KindLaws.{access-open}
use Rattle.events.proofs.QuestionLaws.{asked-at, begun, eventless, unended}
use Rattle.opacity.specs.Transactions.{status, allows}
use Rattle.opacity.specs.Justification.{Place, outcome, contents, outcome_kept, Justified}
use Rattle.opacity.specs.Lowest.{place}
use Rattle.opacity.specs.Carry.{seen, carries, carried}
use Rattle.opacity.proofs.Opacity.{begun-prefix}
use Rattle.opacity.proofs.Pending.{named, stays-live}
use Rattle.opacity.proofs.Kept.{kept-justified}
use Rattle.opacity.proofs.Begin.{begin-justified}

module _ (start : ℕ → ℕ) (h : List Event) (r : readable h ≡ true) (i : ℕ) (l : i < length h) (J : List Place) (j : Justified start (take i h) J) where
  abbrev e : Event
  e = event_at h i

  abbrev t : ℕ
  t = e.transaction

  -- with event i
  With : List Place → Type 0
  With K = Justified start (take i h ++ (e ∷ [])) K

  -- an event that begins: where it reads, it reads what its register holds after all places
  a-begin : is_begin e ≡ true → (is_read e implies eqb (contents start (take i h) J e.register) e.value) ≡ true → With (J ++ (place t (is_commit e) ∷ []))
  unfolding With
  a-begin b y =
      begin-justified start (take i h) e J j (begun-prefix h (begun h r) i (le_of_lt l)) ((asked-at h r i l).next b) (eventless h r i l b) b
      (λ n. sym (eqb-true _ _ (imp-e _ _ y n)))

  module _ (b : is_begin e ≡ false) where
    -- the transaction of an event that neither begins nor ends one is aborted in J, since it is live
    undone : is_end e ≡ false → outcome t J ≡ false
    unfolding outcome_kept allows
    undone n =
        let o : allows (status (take i h) t) (outcome t J) ≡ true =
        j.outcomes t (named h r is_begin i t (le_of_lt l) (and_l _ _ ((asked-at h r i l).lives b))) in
        not-true _ (rw (stays-live h r i l b n) at o)

    -- any other event
    no-begin : (is_read e ≡ true → e.value ≡ seen start (take i h) J t e.register) → (is_end e ≡ true → outcome t J ≡ is_commit e) → With J
    unfolding With
    no-begin reads ends =
        kept-justified start (take i h) e J j b (unended h r i l) reads (λ w. undone (access-open e b (or_r _ _ w))) ends

    an-access : is_read e ≡ true → e.value ≡ seen start (take i h) J t e.register → With J
    an-access n v = no-begin (λ _. v) (λ q. absurd (clash q (access-open e b (or_l _ _ n))))

    another : is_read e ≡ false → (is_end e ≡ true → outcome t J ≡ is_commit e) → With J
    another n ends = no-begin (λ q. absurd (clash q n)) ends

  goes_on : carries start (take i h) J e ≡ true → With (carried J e)
  unfolding carries carried is_end
  goes_on y = go (is_begin e) refl (is_read e) refl (is_commit e) refl (is_abort e) refl y
    where
      go : (b : Bool) → is_begin e ≡ b → (n : Bool) → is_read e ≡ n → (c : Bool) → is_commit e ≡ c → (a : Bool) → is_abort e ≡ a
          → cond b (is_read e implies eqb (contents start (take i h) J e.register) e.value)
          (cond n (eqb (seen start (take i h) J t e.register) e.value) (cond c (outcome t J) (cond a (not (outcome t J)) true))) ≡ true
          → With (cond b (J ++ (place t (is_commit e) ∷ [])) J)
      go true b n m c d a f y' = a-begin b y'
      go false b true m c d a f y' = an-access b m (sym (eqb-true _ _ y'))
      go false b false m true d a f y' = another b m (λ _. y' ∙ sym d)
      go false b false m false d true f y' = another b m (λ _. not-true _ y' ∙ sym d)
      go false b false m false d false f y' = another b m (λ q. absurd (clash q (nor-i _ _ d f)))

  pub carried-justified : carries start (take i h) J e ≡ true → Justified start (take (suc i) h) (carried J e)
  unfolding With
  carried-justified y = rw (take-suc h i no_event l) (goes_on y)
