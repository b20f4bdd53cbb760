-- The values of some lists, computed. `negsuc n` is -(n + 1).
use Rattle.std.specs.Prelude.{◌≡◌, refl, [], ◌∷◌, pos, negsuc}
use Rattle.margin_collapse.specs.Margins.{collapsed}

-- no margin
no_margins : collapsed ([]) ≡ pos 0
no_margins = refl

-- a single one
one_margin : collapsed (pos 640 ∷ []) ≡ pos 640
one_margin = refl

one_negative : collapsed (negsuc 639 ∷ []) ≡ negsuc 639
one_negative = refl

-- of positive ones the greatest
positive_margins : collapsed (pos 1280 ∷ pos 768 ∷ []) ≡ pos 1280
positive_margins = refl

-- of negative ones the least
negative_margins : collapsed (negsuc 511 ∷ negsuc 767 ∷ []) ≡ negsuc 767
negative_margins = refl

-- two positive margins and a negative one
worked : collapsed (pos 1280 ∷ negsuc 511 ∷ pos 768 ∷ []) ≡ pos 768
worked = refl

mixed : collapsed (negsuc 2738 ∷ pos 1 ∷ negsuc 313 ∷ pos 1 ∷ pos 3659372341 ∷ negsuc 0 ∷ []) ≡ pos 3659369602
mixed = refl

below_zero : collapsed (pos 1356119232 ∷ pos 2246850409 ∷ pos 1 ∷ negsuc 4005156055 ∷ negsuc 0 ∷ []) ≡ negsuc 1758305646
below_zero = refl

thin : collapsed (pos 9 ∷ negsuc 0 ∷ pos 2921759851 ∷ pos 0 ∷ []) ≡ pos 2921759850
thin = refl

cancelled : collapsed (pos 0 ∷ pos 1 ∷ pos 1 ∷ negsuc 0 ∷ []) ≡ pos 0
cancelled = refl

zeros : collapsed (pos 0 ∷ negsuc 0 ∷ pos 0 ∷ pos 0 ∷ pos 1 ∷ pos 0 ∷ []) ≡ pos 0
zeros = refl

negative_and_small : collapsed (negsuc 0 ∷ pos 1 ∷ pos 1 ∷ negsuc 1962 ∷ pos 0 ∷ negsuc 0 ∷ []) ≡ negsuc 1961
negative_and_small = refl
