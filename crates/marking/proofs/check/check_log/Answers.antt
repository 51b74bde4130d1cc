-- `check_log` meets its contract: a readable history has no more events than the long tables have entries.
-- Assumes nothing.
use Rattle.links.proofs.LogLaws.{log-most}
use Rattle.marking.proofs.check.check_log.Goals as goal

pub check_within-requires-else-log-le-SHORT-clause-room : goal.check_within-requires-else-log-le-SHORT-clause-room
check_within-requires-else-log-le-SHORT-clause-room c = log-most c.args.log.now c.requires
