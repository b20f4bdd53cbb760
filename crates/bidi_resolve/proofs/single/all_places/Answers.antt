use Rattle.std.proofs.Common.{◌≡◌, ◌∙◌, ◌<◌, ℕ, All, length, subst}
use Rattle.std.specs.List.{range_with_len}
use Rattle.std.proofs.lemmas.List.{take_at}
use Rattle.std.proofs.lemmas.List.Elements.{All-same}
use Rattle.basic_laws.proofs.Lists.{range_below}
use Rattle.bidi_resolve.proofs.single.all_places.Goals as goal

pub returns-clause-within : goal.returns-clause-within
returns-clause-within c =
    let zeros = c.deref_mut.result.now in
    let many : length zeros ≡ c.args.count = c.deref_mut.ensures.len ∙ c.in_ok-places.ensures.len in
    let long : length c.write_places.new.places ≡ c.in_ok-places.places.len = c.write_places.auto.places ∙ c.deref_mut.ensures.len in
    let below : All (λ p. p < c.args.count) (range_with_len 0 (length zeros)) = subst (λ (n : ℕ). All (λ p. p < n) (range_with_len 0 (length zeros))) many (range_below (length zeros)) in
    rw (take_at c.write_places.new.places _ c.in_ok-places.places.len long)
    (All-same (λ p. p < c.args.count) c.write_places.new.places (range_with_len 0 (length zeros)) c.write_places.ensures below)
