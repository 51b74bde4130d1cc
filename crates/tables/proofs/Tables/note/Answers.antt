-- `tables::Tables::note` meets its contract: each column by itself. Assumes nothing.
use Rattle.tables.specs.Tables.{next}
use Rattle.tables.proofs.Tables.note.Goals as goal

pub returns : goal.returns
unfolding next
returns c = cc
