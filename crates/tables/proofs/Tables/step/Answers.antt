-- `tables::Tables::step` meets its contract: a quiet event leaves the tables. Assumes nothing.
use mathlib.Core.Path.{sym, ◌∙◌}
use Rattle.tables.proofs.TableLaws.{quiet-stays}
use Rattle.tables.proofs.Tables.step.Goals as goal

pub returns-else-not-is_quiet : goal.returns-else-not-is_quiet
returns-else-not-is_quiet c = sym (quiet-stays _ c.args.e (sym c.is_quiet.ensures ∙ c.if-not-is_quiet.false))
