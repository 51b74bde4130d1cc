-- `last_writer` meets its contract: what is found from the place and the write reached is what is found from the start.
-- Assumes nothing.
use Rattle.links.specs.Tables.{past}
use Rattle.rules.proofs.WalkLaws.{Walking, Inside}
use Rattle.rules.proofs.walk.Points.last_writer.Given as goal

abbrev pub invariant-loop-next : goal.invariant-loop-next
invariant-loop-next l = Inside l.self.log.now l.self.link.now l.self.writers.now l.own l.r l.lo l.hi l.k l.next

abbrev pub decreases-loop-next : goal.decreases-loop-next
decreases-loop-next l = past l.next

abbrev pub invariant-walk : goal.invariant-walk
invariant-walk l = Walking l.self.log.now l.self.link.now l.self.writers.now l.own l.r l.lo l.hi l.k

abbrev pub decreases-walk : goal.decreases-walk
decreases-walk l = l.k
