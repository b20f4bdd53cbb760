-- The inline equation by computation: values from outside.
use Rattle.std.specs.Prelude.{◌≡◌, pos, negsuc, Some, None}
use Rattle.std.proofs.Common.{refl}
use Rattle.size_rules.specs.Equation.{equation, or_zero, rest, start_margin}

equation-1 : equation (pos 11776) (pos 0) (Some (pos 6400)) (pos 0) None (Some (pos 640)) (Some (pos 1280)) ≡ record { start = (pos 640); size = (pos 6400); end = (pos 4736) }
unfolding start_margin rest or_zero
equation-1 = refl

equation-2 : equation (pos 101) (pos 0) (Some (pos 50)) (pos 0) None None None ≡ record { start = (pos 25); size = (pos 50); end = (pos 26) }
unfolding start_margin rest or_zero
equation-2 = refl

equation-3 : equation (pos 100) (pos 20) (Some (pos 100)) (pos 0) None None (Some (pos 5)) ≡ record { start = (pos 0); size = (pos 100); end = (negsuc 19) }
unfolding start_margin rest or_zero
equation-3 = refl

equation-4 : equation (pos 1000) (pos 0) None (pos 0) (Some (pos 300)) None None ≡ record { start = (pos 350); size = (pos 300); end = (pos 350) }
unfolding start_margin rest or_zero
equation-4 = refl

equation-5 : equation (pos 3411) (pos 225) (Some (pos 2807)) (pos 5931) None (Some (negsuc 1828)) (Some (negsuc 1527)) ≡ record { start = (negsuc 1828); size = (pos 5931); end = (negsuc 915) }
unfolding start_margin rest or_zero
equation-5 = refl

equation-6 : equation (pos 4074) (pos 985) (Some (pos 1289)) (pos 0) None None (Some (pos 2804)) ≡ record { start = (pos 0); size = (pos 1289); end = (pos 1800) }
unfolding start_margin rest or_zero
equation-6 = refl

equation-7 : equation (pos 12158) (pos 1187) (Some (pos 8317)) (pos 0) (Some (pos 1047)) None (Some (pos 1019)) ≡ record { start = (pos 8905); size = (pos 1047); end = (pos 1019) }
unfolding start_margin rest or_zero
equation-7 = refl

equation-8 : equation (pos 11910) (pos 783) (Some (pos 2809)) (pos 0) None None None ≡ record { start = (pos 4159); size = (pos 2809); end = (pos 4159) }
unfolding start_margin rest or_zero
equation-8 = refl

equation-9 : equation (pos 4292) (pos 790) (Some (pos 7027)) (pos 0) None (Some (pos 1463)) None ≡ record { start = (pos 1463); size = (pos 7027); end = (negsuc 4987) }
unfolding start_margin rest or_zero
equation-9 = refl

equation-10 : equation (pos 12928) (pos 303) None (pos 0) None (Some (negsuc 33)) None ≡ record { start = (negsuc 33); size = (pos 12659); end = (pos 0) }
unfolding start_margin rest or_zero
equation-10 = refl

equation-11 : equation (pos 7881) (pos 504) (Some (pos 2454)) (pos 0) None None (Some (pos 155)) ≡ record { start = (pos 4768); size = (pos 2454); end = (pos 155) }
unfolding start_margin rest or_zero
equation-11 = refl

equation-12 : equation (pos 8608) (pos 1966) (Some (pos 3043)) (pos 6754) (Some (pos 418)) None None ≡ record { start = (pos 0); size = (pos 6754); end = (negsuc 111) }
unfolding start_margin rest or_zero
equation-12 = refl

equation-13 : equation (pos 447) (pos 1266) None (pos 0) (Some (pos 1966)) None (Some (negsuc 1150)) ≡ record { start = (pos 0); size = (pos 332); end = (negsuc 1150) }
unfolding start_margin rest or_zero
equation-13 = refl

equation-14 : equation (pos 6459) (pos 29) None (pos 0) (Some (pos 2602)) (Some (negsuc 1378)) None ≡ record { start = (negsuc 1378); size = (pos 2602); end = (pos 5207) }
unfolding start_margin rest or_zero
equation-14 = refl
