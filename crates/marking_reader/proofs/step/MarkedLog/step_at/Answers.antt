-- `step_at` meets its contract: by what stands at the byte.
-- Assumes nothing.
use mathlib.Core.Path.{sym}
use Rattle.marking_reader.specs.File.{step_at}
use Rattle.marking_reader.proofs.step.MarkedLog.step_at.Goals as goal

pub returns-in-Whole : goal.returns-in-Whole
unfolding step_at
returns-in-Whole c = rw (sym c.in-Whole.ensures) c.record_step.ensures

pub returns-in-Short : goal.returns-in-Short
unfolding step_at
returns-in-Short c = rw (sym c.in-Short.ensures)

pub returns-in-End : goal.returns-in-End
unfolding step_at
returns-in-End c = rw (sym c.in-End.ensures) c.end_step.ensures
