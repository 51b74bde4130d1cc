-- `all_zero` meets its contract. Assumes nothing.
use Rattle.std.proofs.Common.{rules, ◌↔◌, ◌≡◌, get_or, IsTrue, EachIndex}
use Rattle.event_log.proofs.StartLaws.{all-zero-each}
use Rattle.event_log.proofs.starts.all_zero.Goals as goal

pub returns : goal.returns
returns c =
    let each : IsTrue c.all.result ↔ EachIndex c.args.starts.now (λ k. get_or c.args.starts.now k 0 ≡ 0) = search rules in
    all-zero-each c.args.starts.now c.all.result c.told-starts each
