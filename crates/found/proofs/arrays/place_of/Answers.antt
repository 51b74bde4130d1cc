-- `found::arrays::place_of` meets its contract.
-- Assumes nothing.
use Prim.Native.Nat.{ℕ}
use mathlib.Core.Path.{◌≡◌, ap, ◌∙◌}
use native.Mathlib.Omega.{arith}
use lib.ListN.{length}
use Rattle.std.proofs.Common.{Option}
use Rattle.std.specs.Option.{unwrap_or}
use Rattle.opacity.specs.Marking.{place_of}
use Rattle.places.specs.Places.{decode}
use Rattle.found.proofs.MarkLaws.{place-at, place-low, decode-length}
use Rattle.found.proofs.arrays.place_of.Goals as goal

pub returns : goal.returns
returns c =
    let codes = c.args.codes.now in
    let e : c.unwrap_or.result ≡ place_of c.args.t (decode codes) =
    c.unwrap_or.ensures ∙ (ap (λ (o : Option ℕ). unwrap_or o (length codes)) c.position_of.ensures ∙ place-at c.args.t codes) in
    (e, omega (arith, place-low c.args.t (decode codes), decode-length codes))
