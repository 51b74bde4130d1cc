-- `real_time_kept` meets its contract: no pair fails.
-- Assumes nothing.
use Rattle.rules.specs.Orders.{pair_by, real_time_by}
use Rattle.rules.proofs.Numbers.{every-unbroken}
use Rattle.std.proofs.Common.{rules}
use Rattle.rules.proofs.order.real_time_kept.Goals as goal

pub returns : goal.returns
unfolding real_time_by
returns c =
    let p = pair_by c.args.tables.now c.args.place.now c.args.u in
    every-unbroken p c.args.begun (c.first_failing.ensures p (λ i b l q. search rules)) c.is_none.ensures
