-- `codes::read_code` meets its contract.
-- Assumes nothing.
use Prim.Native.Nat.{ℕ}
use mathlib.Core.Path.{◌≡◌, ap, ◌∙◌}
use Rattle.reader.specs.Reading.{said}
use Rattle.codes.specs.Codes.{packed, halves, coded, place}
use Rattle.codes.proofs.CodeLaws.{known_as, coded-as}
use Rattle.codes.proofs.read_code.Goals as goal

pub join-requires : goal.join-requires
unfolding said
join-requires c = rw c.from.ensures (known_as said c.in-Ok.is c.requires)

pub returns-in-Ok : goal.returns-in-Ok
unfolding said coded place
returns-in-Ok c =
    let e : c.join.result ≡ halves c.in-Ok.read.edition c.in-Ok.read.count =
    c.join.ensures.0 ∙ ap (λ (n : ℕ). halves n c.in-Ok.read.count) c.from.ensures in
    coded-as said c.in-Ok.is (c.pack.ensures ∙ ap (packed 0) e)

pub refusal_code-requires : goal.refusal_code-requires
unfolding said
refusal_code-requires c = (known_as said c.in-Err.is c.requires).1

pub returns-in-Err : goal.returns-in-Err
unfolding said coded
returns-in-Err c = coded-as said c.in-Err.is c.refusal_code.ensures
