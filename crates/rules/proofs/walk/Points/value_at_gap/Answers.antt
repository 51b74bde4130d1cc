-- `value_at_gap` meets its contract: the start value where nothing is found, or else what is found.
-- Assumes nothing.
use mathlib.Core.Path.{ap, ◌∙◌}
use lib.Dec.{eqb}
use Rattle.event_log.specs.Starts.{start_of}
use Rattle.rules.specs.Walks.{last_in, right_value}
use Rattle.rules.proofs.WalkLaws.{given-or}
use Rattle.rules.proofs.walk.Points.value_at_gap.Goals as goal

pub returns : goal.returns
unfolding right_value start_of
returns c =
    let s = c.args.self.now in
    let r = c.args.e.register in
    ap (eqb c.args.e.value)
    (c.unwrap_or.ensures
    ∙ rw (c.last_writer.ensures, c.from.ensures)
    (given-or (last_in s.log.now s.link.now s.writers.now c.args.own r 0 c.args.g) (start_of s.starts.now r)))
