use Rattle.std.proofs.Common.{◌≡◌, ◌++◌, ◌∷◌, [], List, ℕ, ◌∙◌, sym, ap, arith, length}
use Rattle.std.proofs.lemmas.List.{length-set, take_more_set}
use Rattle.bidi_order.proofs.Runs.{range_more}
use Rattle.bidi_order.proofs.reversals.all_places.Goals as goal

pub loop-place-preserved : goal.loop-place-preserved
loop-place-preserved c =
    let place : ℕ = c.loop-place.place in
    let many : length c.loop-place.places.items ≡ c.args.n = c.loop-place.invariant.many in
    record {
      made = take_more_set c.loop-place.places.items place place (omega arith) ∙ ap (λ (l : List ℕ). l ++ place ∷ []) c.loop-place.invariant.made ∙ sym (range_more 0 place place (omega arith));
      many = length-set c.loop-place.places.items place place ∙ many;
    }
