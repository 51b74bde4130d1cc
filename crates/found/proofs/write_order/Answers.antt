-- `found::write_order` meets its contract: what is written of the codes is written of the order. Assumes nothing.
use native.Mathlib.Omega.{arith}
use Rattle.events.proofs.ReadableLaws.{readable-most}
use Rattle.found.proofs.write_order.Goals as goal

pub write_found-requires-else-log-le-SHORT-clause-room : goal.write_found-requires-else-log-le-SHORT-clause-room
write_found-requires-else-log-le-SHORT-clause-room c =
    (readable-most c.args.log.now c.requires.judged.readable, omega arith)
