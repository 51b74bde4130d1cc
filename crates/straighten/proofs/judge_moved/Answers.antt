-- `judge_moved` meets its contract: what is judged is what was moved, by the tables that said what to move.
-- Assumes nothing.
use Prim.Native.Nat.{ℕ}
use mathlib.Core.Path.{◌≡◌, ap, ◌∙◌}
use native.Mathlib.Omega.{arith}
use lib.ListN.{length-replicate}
use Rattle.std.specs.Prelude.{Option}
use Rattle.links.proofs.LogLaws.{log-most}
use Rattle.event_log.specs.Starts.{start_of}
use Rattle.opacity.specs.declared.verdict.Verdict.{Verdict}
use Rattle.opacity.specs.Marking.{verdict}
use Rattle.rules.specs.Judge.{content, Judgeable, places_verdict, and_then, reads_verdict}
use Rattle.rules.proofs.JudgeLaws.{all_apart, all-pointable, verdict-parts}
use Rattle.marking.proofs.CheckLaws.{judgeable}
use Rattle.straighten.specs.Tables.{Moved}
use Rattle.straighten.proofs.MoveLaws.{moved-points}
use Rattle.straighten.proofs.judge_moved.Goals as goal
use Rattle.straighten.proofs.judge_moved.Goals.{After-links, After-move_points}

given : (l : After-links) → let a = l.args in Judgeable a.marked.now.log.now l.links.new.link a.order.now a.outcomes.now a.gaps.now
given l = judgeable l.args.marked.now.asking.readable l.links.ensures l.requires.kept

moved : (p : After-move_points) → let a = p.args in
    Moved (start_of a.starts.now) a.marked.now.log.now a.order.now a.outcomes.now a.gaps.now p.move_points.new.gaps p.moves_of.new.moves
moved p =
    let asked = p.args.marked.now.asking in
    moved-points (judgeable asked.readable p.links.ensures p.requires.kept) asked.count p.places_of-place.ensures
    p.tables_of-tables.ensures p.writers_of-writers.ensures (start_of p.args.starts.now) p.moves_of.ensures p.move_points.ensures

-- and what is judged then
given-then : (p : After-move_points) → let a = p.args in Judgeable a.marked.now.log.now p.links.new.link a.order.now a.outcomes.now p.move_points.new.gaps
given-then p = judgeable p.args.marked.now.asking.readable p.links.ensures (moved p).kept

abbrev rest : After-move_points → Verdict
rest p =
    let a = p.args in
    reads_verdict (start_of a.starts.now) a.marked.now.log.now p.links.new.link p.writers_of-writers.result p.places_of-place.result
    p.move_points.new.gaps

parts : (p : After-move_points) → let a = p.args in
    and_then (places_verdict a.marked.now.log.now p.tables_of-tables.result p.places_of-place.result a.outcomes.now a.marked.now.begun) (rest p)
    ≡ verdict (start_of a.starts.now) a.marked.now.log.now (content a.marked.now.log.now a.order.now a.outcomes.now p.move_points.new.gaps)
parts p =
    verdict-parts (given-then p) p.args.marked.now.asking.count p.places_of-place.ensures (start_of p.args.starts.now)
    p.tables_of-tables.ensures p.writers_of-writers.ensures

pub links-requires : goal.links-requires
links-requires c =
    let readable = c.args.marked.now.asking.readable in
    record {
      log_value = readable;
      log_in_bounds = omega (arith, log-most c.args.marked.now.log.now readable, length-replicate {A = Option ℕ});
    }

pub places_of-place-requires : goal.places_of-place-requires
places_of-place-requires c = all_apart (given (goal.at.places_of-place-requires c).After-links) c.args.marked.now.asking.count

pub writers_of-writers-requires : goal.writers_of-writers-requires
writers_of-writers-requires c = all_apart (given (goal.at.writers_of-writers-requires c).After-links) c.args.marked.now.asking.count

pub invariant_of-given : goal.invariant_of-given
invariant_of-given c =
    record {
      pointable = all-pointable (given (goal.at.invariant_of-given c).After-links) c.args.marked.now.asking.count c.places_of-place.ensures
          c.tables_of-tables.ensures c.writers_of-writers.ensures;
    }

pub move_points-requires : goal.move_points-requires
move_points-requires c = record { log_value = c.args.marked.now.asking.readable; log_in_bounds = (omega arith, omega (arith, c.requires.kept.gaps-room)) }

pub invariant_of-moved : goal.invariant_of-moved
invariant_of-moved c =
    record {
      pointable = all-pointable (given-then (goal.at.invariant_of-moved c).After-move_points) c.args.marked.now.asking.count
          c.places_of-place.ensures c.tables_of-tables.ensures c.writers_of-writers.ensures;
    }

pub returns : goal.returns
returns c =
    let p = (goal.at.returns c).After-move_points in
    record {
      value = c.judge_after.ensures ∙ (ap (λ (v : Verdict). and_then v (rest p)) c.judge_places-placed.ensures ∙ parts p);
      moved = moved p;
    }
