-- The names that mean the same in many properties. docs/PROFILE/properties.md has the same.
use Rattle.std.specs.Prelude.{◌≡◌, [], ◌∷◌, codes}
use Rattle.std.proofs.Common.{refl}
use Rattle.css_values.specs.Tables.{colours, resets}

functions_that_are_colours : colours ≡ codes "rgb" ∷ codes "rgba" ∷ codes "hsl" ∷ codes "hsla" ∷ []
unfolding colours
functions_that_are_colours = refl

values_that_take_back : resets ≡ codes "unset" ∷ codes "revert" ∷ codes "revert-layer" ∷ []
unfolding resets
values_that_take_back = refl
