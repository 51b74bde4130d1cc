-- `judge_reads` meets its contract: each rule in turn, with what the search for its first breach said.
-- Assumes nothing.
use mathlib.Core.Path.{◌∙◌}
use Rattle.rules.proofs.Numbers.{some-inside}
use Rattle.rules.proofs.JudgeLaws.{breaks-c, breaks-d, breaks-e, breaks-none}
use Rattle.rules.proofs.judge.judge_reads.Goals as goal

pub broken_at-requires : goal.broken_at-requires
broken_at-requires c = some-inside _ _ c.in-Some.ensures

pub returns-in-Some : goal.returns-in-Some
returns-in-Some c = c.broken_at.ensures ∙ breaks-c _ _ _ _ _ _ c.in-Some.ensures

pub broken_at-requires-in-Some-first_broken : goal.broken_at-requires-in-Some-first_broken
broken_at-requires-in-Some-first_broken c = some-inside _ _ c.in-Some-first_broken.ensures

pub returns-in-Some-first_broken : goal.returns-in-Some-first_broken
returns-in-Some-first_broken c =
    c.broken_at-in-Some-first_broken.ensures ∙ breaks-d _ _ _ _ _ _ c.in_default.ensures c.in-Some-first_broken.ensures

pub broken_at-requires-in-Some-first_broken-2 : goal.broken_at-requires-in-Some-first_broken-2
broken_at-requires-in-Some-first_broken-2 c = some-inside _ _ c.in-Some-first_broken-2.ensures

pub returns-in-Some-first_broken-2 : goal.returns-in-Some-first_broken-2
returns-in-Some-first_broken-2 c =
    c.broken_at-in-Some-first_broken-2.ensures
    ∙ breaks-e _ _ _ _ _ _ c.in_default.ensures c.in_default-first_broken.ensures c.in-Some-first_broken-2.ensures

pub returns : goal.returns
returns c = breaks-none _ _ _ _ _ _ c.in_default.ensures c.in_default-first_broken.ensures c.in_default-first_broken-2.ensures
