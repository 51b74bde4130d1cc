-- `ask_head` meets its contract: kind, size and edition.
-- Assumes nothing.
use native.Mathlib.Omega.{arith}
use mathlib.Core.Path.{◌≡◌, ◌∙◌}
use Rattle.std.proofs.lemmas.Grind.{common_steps}
use lib.Dec.{eqb}
use Rattle.records.specs.Bytes.{u16_at}
use Rattle.records.specs.Records.{body_of}
use Rattle.lists.specs.Lists.{◌and◌}
use Rattle.marking_reader.specs.File.{head_questions}
use Rattle.marking_reader.proofs.StepLaws.{asked-last}
use Rattle.marking_reader.proofs.read.ask_head.Goals as goal
use Rattle.marking_reader.proofs.read.ask_head.Goals.{After-ask}

head : (c : After-ask) → c.if-r-eq-HEAD_SIZE.is_head
    ≡ (eqb c.args.r.kind 2 and eqb c.args.r.size 2 and eqb (u16_at (body_of c.args.file.now c.args.r) 0) 1)
unfolding ◌and◌
head c = grind (arith, common_steps)

pub returns : goal.returns
unfolding head_questions
returns c = c.ask.ensures ∙ asked-last _ _ (head c)
