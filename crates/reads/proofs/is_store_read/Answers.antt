-- `is_store_read` meets its contract: an own write makes it an own read. Assumes nothing.
use mathlib.Core.Path.{sym, ◌∙◌}
use Rattle.reads.proofs.OwnLaws.{store-read}
use Rattle.reads.proofs.is_store_read.Goals as goal

pub returns : goal.returns
returns c = c.reads_store.ensures ∙ sym (store-read c.args.log.now c.args.own.now c.requires.own_writes c.args.i c.requires.i_in_bounds)
