-- Vocabulary between crates: it need not be believed, the public contracts end in the paper's definitions.
-- What the rules say by all that is looked up, as the code holds it.
-- Assumes nothing.
use Rattle.std.specs.Prelude.{ℕ, Bool}
use Rattle.event_log.specs.Starts.{start_of}
use Rattle.opacity.specs.declared.verdict.Rule.{Rule}
use Rattle.opacity.specs.declared.verdict.Verdict.{Verdict}
use Rattle.rules.specs.declared.walk.Points.{Points}
use Rattle.rules.specs.Walks.{point_rule}
use Rattle.rules.specs.Judge.{reads_verdict}

-- a rule of points at event i
abbrev pub rule_by : Points → Rule → ℕ → Bool
rule_by p = point_rule (start_of p.starts.now) p.log.now p.link.now p.writers.now p.place.now p.gaps.now

-- rules C to E
abbrev pub reads_by : Points → Verdict
reads_by p = reads_verdict (start_of p.starts.now) p.log.now p.link.now p.writers.now p.place.now p.gaps.now
