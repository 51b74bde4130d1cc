-- `codes::broken_code` meets its contract.
-- Assumes nothing.
use mathlib.Core.Path.{ap₂, ◌∙◌}
use Rattle.codes.specs.Codes.{packed, coded}
use Rattle.codes.proofs.broken_code.Goals as goal

pub returns : goal.returns
unfolding coded
returns c = c.pack.ensures ∙ ap₂ packed c.rule_code.ensures c.join.ensures.0
