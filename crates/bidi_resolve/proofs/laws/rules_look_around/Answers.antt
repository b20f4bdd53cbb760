use Rattle.std.proofs.Common.{◌∙◌, ap, [], append-nil, reverse, take, drop, get_or, ◌+◌}
use Rattle.bidi_resolve.proofs.PlaceLaws.{each_at}
use Rattle.bidi_resolve.proofs.laws.rules_look_around.Goals as goal

pub returns : goal.returns
returns c = λ rule classes k d lt. each_at rule [] classes k d lt ∙ ap (λ before. rule before (get_or classes k d) (drop (k + 1) classes)) (append-nil (reverse (take k classes)))
