-- The proof of the cycle of calls {choose_outcome, choose_transaction}. The measure: 100 for each unplaced transaction, 2 for each candidate, and 1
-- before one is chosen.
-- Assumes nothing.
use Rattle.std.specs.Prelude.{Some, None}
use mathlib.Core.Path.{◌≡◌, sym, ◌∙◌, subst}
use mathlib.Core.Option.{none}
use Rattle.places.specs.State.{whole}
use Rattle.places.specs.Told.{told}
use Rattle.places.specs.Choice.{among}
use Rattle.places.specs.Tree.{Answered}
use Rattle.places.proofs.StateLaws.{room-lt}
use Rattle.search.proofs.TreeLaws.{attempt, attempt-none, fits_by, attempt-next, answered-next, answered-none, answered-as, outcome-first, outcome-second, outcome-neither, may-end, none-among, next-candidate, size, falls-to-rest, falls-to-next}
use Rattle.places.proofs.SetLaws.{lowest-member, within-self, within-rest}
use Prim.Native.Nat.{ℕ, ◌<◌, ◌+◌}
use native.Mathlib.Omega.{arith}
use Rattle.std.proofs.Common.{rules}
use Rattle.search.proofs.+choose_outcome_choose_transaction.Goals as goal
use Rattle.search.proofs.+choose_outcome_choose_transaction.Goals.{choose_outcome-Joined-allows, choose_outcome-Joined-allows-2, choose_outcome-then-allows+in_default, choose_outcome-else-allows, choose_outcome-then-allows-2+in_default-choose_transaction, choose_outcome-else-allows-2}

pub choose_outcome-rule_next-rule-requires : goal.choose_outcome-rule_next-rule-requires
choose_outcome-rule_next-rule-requires t c =
    record {
      sound = c.requires.placeable.sound;
      t_bound = room-lt c.requires.placeable;
    }

pub choose_outcome-allows-requires : goal.choose_outcome-allows-requires
choose_outcome-allows-requires t c = tt

pub choose_outcome-place-next-requires : goal.choose_outcome-place-next-requires
choose_outcome-place-next-requires t c =
    record {
      placeable = c.requires.placeable;
      outcome_bound = search rules;
    }

pub choose_outcome-choose_transaction-requires : goal.choose_outcome-choose_transaction-requires
choose_outcome-choose_transaction-requires t c =
    let next = c.place-next.result in (
      subst (λ (n : ℕ). size next next.unplaced + 1 < n) c.decreases
          (falls-to-next c.args.s next c.args.candidates c.args.t 0 c.requires.placeable c.place-next.ensures),
      (c.place-next.ensures.sound, within-self next.unplaced),
    )

pub choose_outcome-returns-in-Some : goal.choose_outcome-returns-in-Some
choose_outcome-returns-in-Some t c =
    let a = c.args in
    let D = told a.tree.now.constraints in
    let next = c.place-next.result in
    let h : Answered (whole next) (Some c.in-Some.order) (among D next next.unplaced) = c.in-Some.ensures in
    answered-next a.s next a.t 0 (Some c.in-Some.order) c.place-next.ensures h
    (outcome-first D a.s a.t _ c.in-Some.order _
    (attempt-next D a.s next a.t 0 c.requires.placeable c.place-next.ensures
    (fits_by D a.s a.t 0 _ c.rule_next-rule.ensures c.allows.ensures) c.if-allows.true h.answers.completion))

pub choose_outcome-allows-requires-2 : goal.choose_outcome-allows-requires-2
choose_outcome-allows-requires-2 t c = tt

pub choose_outcome-place-next-requires-then-allows-2 : goal.choose_outcome-place-next-requires-then-allows-2
choose_outcome-place-next-requires-then-allows-2 t c =
    record {
      placeable = c.requires.placeable;
      outcome_bound = search rules;
    }

pub choose_outcome-choose_transaction-requires-then-allows-2 : goal.choose_outcome-choose_transaction-requires-then-allows-2
choose_outcome-choose_transaction-requires-then-allows-2 t c =
    let next = c.place-next-then-allows-2.result in (
      subst (λ (n : ℕ). size next next.unplaced + 1 < n) c.decreases
          (falls-to-next c.args.s next c.args.candidates c.args.t 1 c.requires.placeable c.place-next-then-allows-2.ensures),
      (c.place-next-then-allows-2.ensures.sound, within-self next.unplaced),
    )

-- t leads to no completion if it is aborted
aborted-none : (t : ℕ) (c : choose_outcome-Joined-allows t) → attempt (told c.args.tree.now.constraints) c.args.s c.args.t 0 ≡ none
aborted-none t c =
    let D = told c.args.tree.now.constraints in
    let fit = fits_by D c.args.s c.args.t 0 _ c.rule_next-rule.ensures c.allows.ensures in
    elim c.if-allows.branch [
      | choose_outcome-then-allows+in_default w ↦
          let next = w.place-next.result in
          let h : Answered (whole next) None (among D next next.unplaced) = w.in_default.ensures in
          sym (attempt-next D c.args.s next c.args.t 0 c.requires.placeable w.place-next.ensures fit w.if-allows.true h.answers.completion)
      | choose_outcome-else-allows w ↦ attempt-none D c.args.s c.args.t 0 fit w.if-allows.false
    ]

-- nor if it is committed
committed-none : (t : ℕ) (c : choose_outcome-Joined-allows-2 t) → attempt (told c.args.tree.now.constraints) c.args.s c.args.t 1 ≡ none
committed-none t c =
    let D = told c.args.tree.now.constraints in
    let fit = fits_by D c.args.s c.args.t 1 _ c.rule_next-rule.ensures c.allows-2.ensures in
    elim c.if-allows-2.branch [
      | choose_outcome-then-allows-2+in_default-choose_transaction w ↦
          let next = w.place-next-then-allows-2.result in
          let h : Answered (whole next) None (among D next next.unplaced) = w.in_default-choose_transaction.ensures in
          sym (attempt-next D c.args.s next c.args.t 1 c.requires.placeable w.place-next-then-allows-2.ensures fit w.if-allows-2.true h.answers.completion)
      | choose_outcome-else-allows-2 w ↦ attempt-none D c.args.s c.args.t 1 fit w.if-allows-2.false
    ]

pub choose_outcome-returns-in-Some-choose_transaction : goal.choose_outcome-returns-in-Some-choose_transaction
choose_outcome-returns-in-Some-choose_transaction t c =
    let a = c.args in
    let D = told a.tree.now.constraints in
    let next = c.place-next-then-allows-2.result in
    let order = c.in-Some-choose_transaction.order in
    let h : Answered (whole next) (Some order) (among D next next.unplaced) = c.in-Some-choose_transaction.ensures in
    answered-next a.s next a.t 1 (Some order) c.place-next-then-allows-2.ensures h
    (outcome-second D a.s a.t _ order _ (aborted-none t (goal.at.choose_outcome-returns-in-Some-choose_transaction t c).Joined-allows)
    (attempt-next D a.s next a.t 1 c.requires.placeable c.place-next-then-allows-2.ensures
    (fits_by D a.s a.t 1 _ c.rule_next-rule.ensures c.allows-2.ensures) c.if-allows-2.true h.answers.completion))

pub choose_outcome-without-rest-requires : goal.choose_outcome-without-rest-requires
choose_outcome-without-rest-requires t c = c.requires.candidates_value

pub choose_outcome-returns-then-rest-eq0 : goal.choose_outcome-returns-then-rest-eq0
choose_outcome-returns-then-rest-eq0 t c =
    let a = c.args in
    let D = told a.tree.now.constraints in
    let at = goal.at.choose_outcome-returns-then-rest-eq0 t c in
    let rest = none-among D a.s c.requires.unplaced_value c.without-rest.result c.if-rest-eq0.true in
    answered-none (whole a.s) ((rw c.without-rest.ensures at rest)
    ∙ outcome-neither D a.s a.t (aborted-none t at.Joined-allows) (committed-none t at.Joined-allows-2))

pub choose_outcome-choose_transaction-requires-2 : goal.choose_outcome-choose_transaction-requires-2
choose_outcome-choose_transaction-requires-2 t c =
    let a = c.args in
    let pre = c.requires in (
      subst (λ (n : ℕ). size a.s c.without-rest.result + 1 < n) c.decreases (falls-to-rest a.s a.candidates a.t c.without-rest.result
          pre.candidates_value c.without-rest.ensures),
      (
        pre.placeable.sound,
        within-rest a.s.unplaced a.candidates a.t c.without-rest.result pre.within pre.candidates_value
            c.without-rest.ensures,
      ),
    )

pub choose_outcome-returns : goal.choose_outcome-returns
choose_outcome-returns t c =
    let a = c.args in
    let D = told a.tree.now.constraints in
    let at = goal.at.choose_outcome-returns t c in
    answered-as (whole a.s) c.choose_transaction-2.result (rw c.without-rest.ensures at c.choose_transaction-2.ensures)
    (outcome-neither D a.s a.t (aborted-none t at.Joined-allows) (committed-none t at.Joined-allows-2))

pub choose_transaction-ends-requires : goal.choose_transaction-ends-requires
choose_transaction-ends-requires t c = c.requires.sound

pub choose_transaction-returns-then-ends : goal.choose_transaction-returns-then-ends
choose_transaction-returns-then-ends t c = may-end (told c.args.tree.now.constraints) c.args.s c.args.candidates
    c.requires.sound c.ends.ensures c.if-ends.true

pub choose_transaction-returns-then-candidates-eq0 : goal.choose_transaction-returns-then-candidates-eq0
choose_transaction-returns-then-candidates-eq0 t c =
    answered-none (whole c.args.s) (none-among (told c.args.tree.now.constraints) c.args.s (sym c.ends.ensures
    ∙ c.if-ends.false) c.args.candidates c.if-candidates-eq0.true)

pub choose_transaction-hopeful-requires : goal.choose_transaction-hopeful-requires
choose_transaction-hopeful-requires t c =
    c.requires.sound

pub choose_transaction-returns-then-not-hopeful : goal.choose_transaction-returns-then-not-hopeful
choose_transaction-returns-then-not-hopeful t c = answered-none _ (sym (c.hopeful.ensures (c.if-not-hopeful.true)))

pub choose_transaction-lowest-requires : goal.choose_transaction-lowest-requires
choose_transaction-lowest-requires t c = tt

pub choose_transaction-choose_outcome-requires : goal.choose_transaction-choose_outcome-requires
choose_transaction-choose_outcome-requires t c =
    let set = c.args.candidates in
    let is_in = lowest-member c.lowest.result set c.ranges.candidates.fits c.if-candidates-eq0.false c.lowest.ensures in (
      subst (λ (n : ℕ). size c.args.s set < n) c.decreases (omega arith),
      (
        record { sound = c.requires.sound; is_in = c.requires.within.is_in c.lowest.result is_in },
        (c.requires.within, (is_in, sym c.ends.ensures ∙ c.if-ends.false)),
      ),
    )

pub choose_transaction-returns : goal.choose_transaction-returns
choose_transaction-returns t c =
    let a = c.args in
    answered-as (whole a.s) c.choose_outcome.result c.choose_outcome.ensures
    (sym (next-candidate (told c.args.tree.now.constraints) a.s (sym c.ends.ensures ∙ c.if-ends.false) a.candidates
    c.lowest.result c.requires.within c.ranges.candidates.fits c.if-candidates-eq0.false
    c.lowest.ensures))
