-- `places::lookup::Constraints::content` meets its contract: the places passed, from the last one back, wrote nothing.
-- Assumes nothing.
use mathlib.Core.Path.{◌≡◌, refl, sym, ap, ◌∙◌}
use native.Mathlib.Omega.{arith}
use Prim.Native.Nat.{ℕ, ◌/◌}
use Rattle.event_log.specs.Starts.{start_of}
use Rattle.places.specs.Facts.{written_of}
use Rattle.places.specs.Places.{codes_of, write_of}
use Rattle.places.proofs.StateLaws.{length-codes}
use Rattle.places.proofs.LookupLaws.{Codes, aborted-wrote, committed-wrote, codes-split, held_after, before-any, passed_over, ends_at}
use Rattle.places.proofs.lookup.Constraints.content.Goals as goal
use Rattle.places.proofs.lookup.Constraints.content.Goals.{In-Some}

pub loop-code-init : goal.loop-code-init
loop-code-init c =
    let a = c.args in
    rw c.into_iter-code-iterator.ensures.into_iter_gives
    (record { codes = λ i l. c.requires.coded.codes i (rw (length-codes a.filled a.placed) at l); alike = refl })

pub returns-then-w-ne0 : goal.returns-then-w-ne0
returns-then-w-ne0 c =
    let a = c.args in
    let f = a.self.now.facts.now in
    let code = c.in-Some.code in
    let wrote = sym (committed-wrote f a.register code (λ z. omega arith)) in
    ends_at (start_of a.self.now.starts.now) f a.register _ code (written_of f (code / 2) a.register) wrote c.if-w-ne0.true
    ∙ sym (c.loop-code.invariant.alike ∙ ap (held_after (start_of a.self.now.starts.now) f a.register) c.in-Some.ensures.steps)

-- what an iteration keeps where its place wrote nothing, as w says
kept : (c : In-Some) (w : ℕ) → w ≡ write_of c.args.self.now.facts.now c.args.register c.in-Some.code → w ≡ 0
    → let left = codes_of c.next.new.self.left c.next.new.self.rest in
    let held = held_after (start_of c.args.self.now.starts.now) c.args.self.now.facts.now c.args.register in
    Codes left × (held (codes_of c.args.filled c.args.placed) ≡ held left)
kept c w e none = (
  (codes-split _ _ c.in-Some.code c.in-Some.ensures.steps c.loop-code.invariant.codes).1,
  c.loop-code.invariant.alike
      ∙ ap (held_after (start_of c.args.self.now.starts.now) c.args.self.now.facts.now c.args.register) c.in-Some.ensures.steps
      ∙ passed_over (start_of c.args.self.now.starts.now) c.args.self.now.facts.now c.args.register _ c.in-Some.code w e none,
)

pub loop-code-preserved-else-w-ne0 : goal.loop-code-preserved-else-w-ne0
loop-code-preserved-else-w-ne0 c =
    let f = c.args.self.now.facts.now in
    let code = c.in-Some.code in
    let k = kept (goal.at.loop-code-preserved-else-w-ne0 c).In-Some (written_of f (code / 2) c.args.register)
    (sym (committed-wrote f c.args.register code (λ z. omega arith))) c.if-w-ne0.false in
    record { codes = k.0; alike = k.1 }

pub loop-code-preserved : goal.loop-code-preserved
loop-code-preserved c =
    let k = kept (goal.at.loop-code-preserved c).In-Some 0
    (sym (aborted-wrote c.args.self.now.facts.now c.args.register c.in-Some.code (omega arith))) refl in
    record { codes = k.0; alike = k.1 }

pub returns : goal.returns
unfolding start_of
returns c =
    let a = c.args in
    let st = start_of a.self.now.starts.now in
    c.start_value.ensures
    ∙ (sym (before-any st a.self.now.facts.now a.register)
    ∙ (ap (held_after st a.self.now.facts.now a.register) (sym c.in-None.ensures.steps.0) ∙ sym c.loop-code.invariant.alike))
