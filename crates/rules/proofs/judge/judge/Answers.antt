-- `judge` meets its contract: the tables are those of the marking, and what they say is its verdict.
-- Assumes nothing.
use mathlib.Core.Path.{◌∙◌}
use Rattle.event_log.specs.Starts.{start_of}
use Rattle.rules.proofs.JudgeLaws.{all_apart, all-pointable, verdict-parts}
use Rattle.rules.proofs.judge.judge.Goals as goal

pub places_of-place-requires : goal.places_of-place-requires
places_of-place-requires c = all_apart c.requires.judgeable c.transactions_begun-begun.ensures

pub writers_of-writers-requires : goal.writers_of-writers-requires
writers_of-writers-requires c = all_apart c.requires.judgeable c.transactions_begun-begun.ensures

pub invariant_of-points : goal.invariant_of-points
invariant_of-points c =
    record {
      pointable = all-pointable c.requires.judgeable c.transactions_begun-begun.ensures c.places_of-place.ensures c.tables_of-tables.ensures
          c.writers_of-writers.ensures;
    }

pub returns : goal.returns
returns c =
    let a = c.args in
    c.judge_after.ensures
    ∙ rw c.judge_places-placed.ensures
    (verdict-parts c.requires.judgeable c.transactions_begun-begun.ensures c.places_of-place.ensures (start_of a.starts.now)
    c.tables_of-tables.ensures c.writers_of-writers.ensures)
