-- `count_transactions` meets its contract: behind the door it is what its closure answers. Assumes nothing.
use Rattle.std.proofs.Common.{rules}
use Rattle.event_log.proofs.DoorLaws.{judged-answer}
use Rattle.opacity.specs.Counts.{counts}
use Rattle.counts.specs.Answer.{transactions_answer}
use Rattle.counts.proofs.count_transactions.Goals as goal

pub returns : goal.returns
unfolding transactions_answer counts
returns c = judged-answer _ _ _ _ _ (λ y p. search rules) c.judged.ensures
