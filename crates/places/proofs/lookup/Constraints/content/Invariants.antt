-- `places::lookup::Constraints::content` meets its contract: the places passed, from the last one back, wrote nothing.
-- Assumes nothing.
use mathlib.Core.Path.{◌≡◌}
use Rattle.event_log.specs.Starts.{start_of}
use Rattle.places.specs.Places.{codes_of}
use Rattle.places.proofs.LookupLaws.{Codes, held_after}
use Rattle.places.proofs.lookup.Constraints.content.Given as goal

abbrev pub invariant-loop-code : goal.invariant-loop-code
invariant-loop-code l =
    let left = codes_of l.code-iterator.left l.code-iterator.rest in
    record {
      codes : Codes left;
      alike : held_after (start_of l.self.starts.now) l.self.facts.now l.register (codes_of l.filled l.placed)
          ≡ held_after (start_of l.self.starts.now) l.self.facts.now l.register left;
    }
