use Rattle.std.proofs.Common.{◌≡◌, ◌++◌, drop, map}
use Rattle.std.specs.String.{string_bytes}
use Rattle.css_types.proofs.copies.copy_of_texts.Given as goal

abbrev pub invariant-loop-text : goal.invariant-loop-text
invariant-loop-text l = map (λ t. string_bytes t) l.own.items ++ map (λ t. string_bytes t) (drop l.text-index l.texts) ≡ map (λ t. string_bytes t) l.texts
