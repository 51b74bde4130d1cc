-- 100 for each unplaced transaction, 2 for each candidate, and 1 before one is chosen.
use Rattle.std.proofs.Common.{◌+◌}
use Rattle.search.proofs.TreeLaws.{size}
use Rattle.search.proofs.+choose_outcome_choose_transaction.Given as goal

abbrev pub decreases-choose_outcome : goal.decreases-choose_outcome
decreases-choose_outcome l = size l.s l.candidates

abbrev pub decreases-choose_transaction : goal.decreases-choose_transaction
decreases-choose_transaction l = size l.s l.candidates + 1
