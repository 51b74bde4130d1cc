-- `pruning::unwritten::registers_asked` meets its contract: of those passed, reads of registers that nobody writes are right before any writer.
-- Assumes nothing.
use borrow.Author.Count.{below_more}
use mathlib.Core.Path.{sym, ◌∙◌}
use native.Mathlib.Omega.{arith}
use Rattle.places.specs.Places.{codes_of}
use Rattle.pruning.proofs.UnwrittenLaws.{no_other, asked-same}
use Rattle.pruning.proofs.unwritten.registers_asked.Goals as goal

pub loop-t-preserved : goal.loop-t-preserved
unfolding codes_of
loop-t-preserved c =
    let at = c.loop-t in
    let a = c.args in
    below_more _ at.t at.invariant
    (asked-same a.starts.now a.facts.now c.written_by_any-any.result at.t
    (no_other a.facts.now a.writes.now c.written_by_any-any.result c.requires c.written_by_any-any.ensures) (omega arith)
    (sym c.legal_reads.ensures ∙ c.if-not-legal_reads.false))
