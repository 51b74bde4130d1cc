-- `tally_transactions` meets its contract: behind the door it is what its closure answers. Assumes nothing.
use Rattle.std.proofs.Common.{rules}
use Rattle.event_log.proofs.DoorLaws.{judged-answer}
use Rattle.counts.specs.Answer.{tally_answer}
use Rattle.counts.proofs.tally_transactions.Goals as goal

pub returns : goal.returns
unfolding tally_answer
returns c = judged-answer _ _ _ _ _ (λ y p. search rules) c.judged.ensures
