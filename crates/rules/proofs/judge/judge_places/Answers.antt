-- `judge_places` meets its contract: rule A and then rule B, each with what the search for its first breach said.
-- Assumes nothing.
use Rattle.rules.proofs.JudgeLaws.{breaks-a, breaks-b, breaks-neither}
use Rattle.rules.proofs.judge.judge_places.Goals as goal

pub returns-in-Some : goal.returns-in-Some
returns-in-Some c = rw c.last_event.ensures (breaks-a _ _ _ _ _ c.in-Some.ensures)

pub returns-in-Some-rule_b : goal.returns-in-Some-rule_b
returns-in-Some-rule_b c = rw c.begin_of.ensures (breaks-b _ _ _ _ _ c.in_default.ensures c.in-Some-rule_b.ensures)

pub returns : goal.returns
returns c = breaks-neither _ _ _ _ _ c.in_default.ensures c.in_default-rule_b.ensures
