-- `holds_at` meets its contract: by the point, and then by the rule.
-- Assumes nothing.
use Prim.Native.Nat.{◌≤◌, ◌<◌}
use mathlib.Core.Path.{◌≡◌, refl, sym, ap, ◌∙◌}
use mathlib.Core.Logic.{⊎_elim}
use mathlib.Core.Bool.{Bool, not}
use borrow.Author.Tests.{ne_eqb}
use Rattle.events.specs.Events.{event_at}
use Rattle.event_log.specs.Starts.{start_of}
use Rattle.links.proofs.LogLaws.{transaction-below, register-below}
use Rattle.opacity.specs.declared.verdict.Rule.{Rule}
use Rattle.rules.specs.Walks.{point_holds, point_rule}
use Rattle.rules.proofs.WalkLaws.{no-point, point-here}
use Rattle.rules.proofs.walk.Points.holds_at.Goals as goal
use Rattle.rules.proofs.walk.Points.holds_at.Goals.{After-from-g}

fits : (p : After-from-g) → (p.from-own.result < 64) × (p.from-g.result ≤ 64) × ((event_at p.args.self.now.log.now p.args.i).register < 32)
fits p =
    let y = p.args.self.now.pointable in (
      rw (p.from-own.ensures, p.place_at.ensures) (y.places-low _),
      rw p.from-g.ensures (y.gaps-low p.args.i p.requires (ap not (ne_eqb _ _ p.if-gap.false))),
      register-below p.args.self.now.log.now y.walk.readable p.requires refl,
    )

-- the rule at the event, by what the rule says of the point
rule-at : (p : After-from-g) {rule : Rule} → p.args.rule ≡ rule → {b : Bool}
    → b ≡ point_holds (start_of p.args.self.now.starts.now) p.args.self.now.log.now p.args.self.now.link.now p.args.self.now.writers.now
    p.from-own.result p.from-g.result (event_at p.args.self.now.log.now p.args.i) rule
    → b ≡ point_rule (start_of p.args.self.now.starts.now) p.args.self.now.log.now p.args.self.now.link.now p.args.self.now.writers.now
    p.args.self.now.place.now p.args.self.now.gaps.now p.args.rule p.args.i
rule-at p e t =
    let s = p.args.self.now in
    point-here (start_of s.starts.now) s.log.now s.link.now s.writers.now s.place.now s.gaps.now p.args.i p.args.rule
    p.if-gap.false refl (p.from-own.ensures ∙ p.place_at.ensures) p.from-g.ensures
    (t ∙ ap (point_holds (start_of s.starts.now) s.log.now s.link.now s.writers.now p.from-own.result p.from-g.result (event_at s.log.now p.args.i)) (sym e))

pub returns-then-gap : goal.returns-then-gap
returns-then-gap c =
    let s = c.args.self.now in
    no-point (start_of s.starts.now) s.log.now s.link.now s.writers.now s.place.now s.gaps.now c.args.i c.args.rule c.if-gap.true

pub place_at-requires : goal.place_at-requires
place_at-requires c = transaction-below c.args.self.now.log.now c.args.self.now.pointable.walk.readable c.requires refl

pub no_writer_between-requires : goal.no_writer_between-requires
no_writer_between-requires c = fits (goal.at.no_writer_between-requires c).After-from-g

pub value_at_gap-requires : goal.value_at_gap-requires
value_at_gap-requires c = let f = fits (goal.at.value_at_gap-requires c).After-from-g in (f.1, f.2)

pub returns-in-D : goal.returns-in-D
returns-in-D c = rule-at (goal.at.returns-in-D c).After-from-g c.in-D.is c.no_writer_between.ensures

pub returns-in-E : goal.returns-in-E
returns-in-E c = rule-at (goal.at.returns-in-E c).After-from-g c.in-E.is c.value_at_gap.ensures

pub returns-in-A : goal.returns-in-A
returns-in-A c =
    let p = (goal.at.returns-in-A c).After-from-g in
    ⊎_elim (λ e. rule-at p e refl) (λ u. ⊎_elim (λ e. rule-at p e refl) (λ e. rule-at p e refl) u) c.in-A.is
