-- `found::write_found` meets its contract: what is written of the arrays is the marking. Assumes nothing.
use Prim.Native.Nat.{ℕ}
use mathlib.Core.List.{List}
use mathlib.Core.Path.{◌≡◌, ap, ◌∙◌}
use native.Mathlib.Omega.{arith}
use lib.ListN.{length, take}
use lib.Seq.{length-take-le}
use Rattle.records.specs.Bytes.{over}
use Rattle.events.proofs.ReadableLaws.{readable-most}
use Rattle.marking_writer.specs.Whole.{bytes_in}
use Rattle.found.specs.Arrays.{found_bytes}
use Rattle.found.proofs.PointLaws.{arrays-mark}
use Rattle.found.proofs.write_found.Given.{Over}
use Rattle.found.proofs.write_found.Goals as goal
use Rattle.found.proofs.write_found.Goals.{After-put_gaps}

-- what is written of the arrays is the marking
marks : (g : Over) (c : After-put_gaps g)
    → bytes_in c.placed_by-placed.result.order c.placed_by-placed.result.outcomes (length c.args.codes.now)
    (take (length c.args.log.now) c.put_gaps.new.gaps)
    ≡ found_bytes c.args.log.now c.args.codes.now
marks g c =
    arrays-mark c.args.log.now c.requires.judged.readable c.args.codes.now
    c.placed_by-placed.result.order c.placed_by-placed.result.outcomes c.requires.codes_len (omega arith) c.placed_by-placed.ensures c.readers_by-place.result c.readers_by-place.ensures
    c.put_gaps.new.gaps c.put_gaps.ensures

pub write_marking-requires-clause-begun_bound : goal.write_marking-requires-clause-begun_bound
write_marking-requires-clause-begun_bound g c =
    let h = c.args.log.now in
    (omega arith, omega (arith, readable-most h c.requires.judged.readable, length-take-le (length h) c.put_gaps.new.gaps (omega arith)))

pub write_marking-requires-clause-gaps_in_bounds : goal.write_marking-requires-clause-gaps_in_bounds
write_marking-requires-clause-gaps_in_bounds g c =
    let m = marks g (goal.at.write_marking-requires-clause-gaps_in_bounds g c).After-put_gaps in omega (arith, ap length m)

pub returns-clause-value : goal.returns-clause-value
returns-clause-value g c = c.write_marking.ensures.value ∙ ap length (marks g (goal.at.returns-clause-value g c).After-put_gaps)

pub returns-clause-output_after : goal.returns-clause-output_after
returns-clause-output_after g c =
    c.write_marking.ensures.out_after
    ∙ ap (λ (b : List ℕ). over b c.args.output.now) (marks g (goal.at.returns-clause-output_after g c).After-put_gaps)
