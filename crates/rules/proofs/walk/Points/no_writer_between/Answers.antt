-- `no_writer_between` meets its contract: nothing is found between the two places.
-- Assumes nothing.
use Prim.Native.Nat.{min, max}
use mathlib.Core.Path.{◌∙◌}
use Rattle.rules.specs.Walks.{last_in, no_writer}
use Rattle.rules.proofs.WalkLaws.{none-given}
use Rattle.rules.proofs.walk.Points.no_writer_between.Goals as goal

pub returns : goal.returns
unfolding no_writer
returns c =
    let s = c.args.self.now in
    let own = c.args.own in
    let g = c.args.g in
    none-given (last_in s.log.now s.link.now s.writers.now own c.args.e.register (min g own) (max g own))
    (c.last_writer.ensures ∙ rw (c.min-lo.ensures, c.max-hi.ensures)) c.is_none.ensures
