-- A document that is refused for its boxes.
use Rattle.std.proofs.Common.{◌≡◌, ◌⊎◌, inl, inr, refl, List, Err}
use Rattle.css_types.specs.declared.value.Declaration.{Declaration}
use Rattle.css_types.specs.Rule.{Ruling}
use Rattle.html_read.specs.Values.{Node}
use Rattle.session.specs.declared.error.OpenError.{OpenError}
use Rattle.session.specs.declared.error.OpenError.TheVariants as open_errors
use Rattle.session.specs.Opening.{AreFew, IsRefused, MakesBoxes, styled_as_read}

-- where nodes are few, what its boxes are refused for is what it is refused for
pub refused_opening : (nodes : List Node) (own : List (List Declaration)) (rules : List Ruling) (error : OpenError) → AreFew nodes → MakesBoxes (styled_as_read nodes own rules) (Err error)
    → (error ≡ open_errors.Memory) ⊎ IsRefused nodes own rules error
refused_opening nodes own rules (open_errors.TooManyNodes number) few makes = absurd makes
refused_opening nodes own rules (open_errors.TooDeep number) few makes = absurd makes
refused_opening nodes own rules (open_errors.Limit limit) few makes = inr (few, makes)
refused_opening nodes own rules open_errors.Memory few makes = inl refl
