-- `pruning::effects::effect_at` meets its contract.
-- Assumes nothing.
use native.Mathlib.Omega.{arith}
use lib.Pow.{pow_pos}
use Rattle.pruning.proofs.EffectLaws.{writes_nothing, reads_nothing, spoils}
use Rattle.pruning.proofs.effects.effect_at.Goals as goal

pub returns-then-w-eq0 : goal.returns-then-w-eq0
returns-then-w-eq0 c = let a = c.args in writes_nothing a.facts.now a.x a.t a.register c.if-w-eq0.true

pub returns-then-v-eq0 : goal.returns-then-v-eq0
returns-then-v-eq0 c = let a = c.args in reads_nothing a.facts.now a.x a.t a.register c.if-v-eq0.true

pub returns : goal.returns
returns c =
    let a = c.args in
    spoils a.facts.now a.x a.t a.register c.bit.result (omega (arith, pow_pos a.register))
    c.if-w-eq0.false c.if-v-eq0.false c.if-w-v.false
