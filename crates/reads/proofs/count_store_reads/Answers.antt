-- `count_store_reads` meets its contract: the table has room for the transactions begun. Assumes nothing.
use native.Mathlib.Omega.{arith}
use Rattle.opacity.proofs.Bounds.{at-most-64}
use Rattle.reads.proofs.count_store_reads.Goals as goal

pub count_by-requires-else-transactions_begun-le-FEW_TRANSACTIONS-clause-room :
    goal.count_by-requires-else-transactions_begun-le-FEW_TRANSACTIONS-clause-room
count_by-requires-else-transactions_begun-le-FEW_TRANSACTIONS-clause-room c =
    (omega (arith, at-most-64 c.args.log.now c.requires), omega arith)
