-- `every_pointed` meets its contract: by what `all` says of the numbers of the events.
-- Assumes nothing.
use native.Mathlib.Omega.{arith}
use mathlib.Core.Path.{◌≡◌}
use mathlib.Core.Bool.{true, false}
use borrow.Author.Tests.{tests}
use lib.ListN.{length}
use Rattle.std.proofs.Common.{rules}
use Rattle.std.proofs.lemmas.Iterator.{YieldsList-from_range, cases_from_all}
use Rattle.marking_reader.specs.State.{point_by}
use Rattle.marking_reader.proofs.PointLaws.{every-listed}
use Rattle.marking_reader.proofs.step.MarkedLog.every_pointed.Goals as goal

pub returns : goal.returns
returns c =
    let p = point_by c.args.self.now.log.now c.args.gaps.now in
    let n = length c.args.self.now.log.now in
    every-listed p n _
    (cases_from_all _ _ _ (λ i. p i ≡ true) (λ i. p i ≡ false) c.all.ensures.ran (YieldsList-from_range 0 n n (cc) (omega arith))
    (λ x q k. search (rules, tests)) (λ x q k. search (rules, tests)))
