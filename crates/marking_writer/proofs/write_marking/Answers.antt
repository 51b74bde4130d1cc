-- `marking_writer::write_marking` meets its contract.
-- Assumes nothing.
use Prim.Native.Nat.{◌+◌, ◌*◌}
use mathlib.Core.Path.{◌≡◌, sym, ◌∙◌}
use native.Mathlib.Omega.{arith}
use lib.ListN.{length}
use Rattle.marking_writer.proofs.PointLaws.{marking-put}
use Rattle.marking_writer.specs.Whole.{points_in, bytes_in}
use Rattle.marking_writer.proofs.WholeLaws.{places_to, places-bytes, bytes-length}
use Rattle.marking_writer.proofs.write_marking.Goals as goal
use Rattle.marking_writer.proofs.write_marking.Goals.{Start}

-- the length of the marking
size : (s : Start) → length (bytes_in s.args.order.now s.args.outcomes.now s.args.begun s.args.gaps.now)
    ≡ 6 + 8 * s.args.begun + length (points_in s.args.gaps.now (length s.args.gaps.now))
size s = bytes-length s.args.order.now s.args.outcomes.now s.args.begun s.args.gaps.now

pub put_places-requires : goal.put_places-requires
put_places-requires c =
    record {
      begun_bound = c.requires.begun_bound.0;
      begun_in_bounds = omega (arith, size (goal.at.put_places-requires c).Start);
    }

pub put_points-requires : goal.put_points-requires
put_points-requires c =
    record {
      gaps_len_bound = c.requires.begun_bound.1;
      gaps_in_bounds = omega (arith, size (goal.at.put_points-requires c).Start);
    }

pub returns : goal.returns
returns c =
    let order = c.args.order.now in
    let outcomes = c.args.outcomes.now in record {
      out_after = marking-put (places_to order outcomes c.args.begun) (points_in c.args.gaps.now (length c.args.gaps.now)) c.args.out.now _
          _ _ (6 + 8 * c.args.begun)
          (omega (arith, places-bytes order outcomes c.args.begun)) c.requires.gaps_in_bounds c.put_head.ensures c.put_places.ensures
          c.put_points.ensures.out_after;
      value = c.put_points.ensures.value ∙ sym (size (goal.at.returns c).Start);
    }
