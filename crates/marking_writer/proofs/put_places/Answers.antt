-- `marking_writer::put_places` meets its contract: the iterators have the places that are left.
-- Assumes nothing.
use Prim.Native.Nat.{ℕ, suc, ◌+◌, ◌*◌, ◌<◌}
use mathlib.Core.Path.{◌≡◌, sym, ap, subst, ◌∙◌}
use mathlib.Core.List.{◌∷◌}
use native.Mathlib.Omega.{arith}
use lib.ListN.{get_or, drop}
use lib.Seq.{drop-cons}
use Rattle.marking_writer.proofs.RunLaws.{Put, put-none, put-more}
use Rattle.marking_writer.proofs.WholeLaws.{places_to, place_here, places-none, places-more, places-bytes}
use Rattle.marking_writer.proofs.put_places.Goals as goal

pub loop-k-init : goal.loop-k-init
loop-k-init c =
    let order = c.args.order.now in
    let outcomes = c.args.outcomes.now in
    let into = c.into_iter-k-iterator.ensures.into_iter_gives in
    let counted = c.enumerate-k-items.ensures in
    let taken = c.take.ensures in
    let zipped = c.zip.ensures in
    let none : c.into_iter-k-iterator.result.count ≡ 0 = cc (into, counted.count) in
    let left : c.into_iter-k-iterator.result.iter.n ≡ c.args.begun = cc (into, counted.source, taken.count) in
    let first : c.into_iter-k-iterator.result.iter.iter.a.rest.now ≡ order =
    cc (into, counted.source, taken.source, zipped.first, c.iter.ensures.rest) in
    let second : c.into_iter-k-iterator.result.iter.iter.b.rest.now ≡ outcomes =
    cc (into, counted.source, taken.source, zipped.second, c.iter-2.ensures.rest) in
    let empty = put-none (places_to order outcomes) (place_here order outcomes) (places-none _ _) (places-more _ _) c.args.out.now 6 in
    record {
      left = omega arith;
      transactions = first ∙ ap (λ (n : ℕ). drop n order) (sym none);
      outcomes = second ∙ ap (λ (n : ℕ). drop n outcomes) (sym none);
      put = subst (λ (n : ℕ). Put (places_to order outcomes) c.args.out.now 6 n c.args.out.now (6 + 8 * n)) (sym none) empty;
    }

pub loop-k-preserved : goal.loop-k-preserved
loop-k-preserved c =
    let order = c.args.order.now in
    let outcomes = c.args.outcomes.now in
    let k = c.loop-k.k-iterator.count in
    let s = c.in-Some.ensures.steps in
    let i = c.loop-k.invariant in
    let less : k < c.args.begun = omega arith in
    let t : c.in-Some.transaction.now ∷ c.next.new.self.iter.iter.a.rest.now ≡ get_or order k 0 ∷ drop (suc k) order =
    sym s.0.0.0 ∙ (i.transactions ∙ drop-cons order k 0 (omega arith)) in
    let o : c.in-Some.outcome.now ∷ c.next.new.self.iter.iter.b.rest.now ≡ get_or outcomes k 0 ∷ drop (suc k) outcomes =
    sym s.0.0.1 ∙ (i.outcomes ∙ drop-cons outcomes k 0 (omega arith)) in
    let transaction : c.in-Some.transaction.now ≡ get_or order k 0 = cc t in
    let outcome : c.in-Some.outcome.now ≡ get_or outcomes k 0 = cc o in
    let here = rw (s.1, transaction, outcome) at c.put_place.ensures in
    let more : suc k ≡ c.next.new.self.count = omega arith in
    record {
      left = omega arith;
      transactions = cc (t, ap (λ (n : ℕ). drop n order) more);
      outcomes = cc (o, ap (λ (n : ℕ). drop n outcomes) more);
      put = subst (λ (n : ℕ). Put (places_to order outcomes) c.args.out.now 6 n c.put_place.new.out (6 + 8 * n)) (sym s.2)
          (put-more (places_to order outcomes) (place_here order outcomes) (places-none _ _) (places-more _ _) c.args.out.now 6 c.args.begun
          (omega (arith, places-bytes order outcomes c.args.begun))
          k less c.loop-k.out (6 + 8 * k) i.put c.put_place.new.out (6 + 8 * (k + 1)) c.put_place.auto.out here (omega arith));
    }
