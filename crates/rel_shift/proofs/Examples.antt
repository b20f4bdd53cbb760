-- Shifts that an independent implementation gives, by computation.
use Rattle.std.specs.Prelude.{◌≡◌, refl, ℤ, pos, negsuc, Option, Some, None}
use Rattle.wm_modes.specs.declared.mode.Direction.{Direction}
use Rattle.wm_modes.specs.declared.mode.Direction.TheVariants as directions
use Rattle.wm_modes.specs.declared.mode.WritingMode.{WritingMode}
use Rattle.wm_modes.specs.declared.mode.WritingMode.TheVariants as modes
use Rattle.style_types.specs.declared.style.Size.{Size}
use Rattle.style_types.specs.declared.style.Size.TheVariants.{Auto, Length, Percent}
use Rattle.rel_shift.specs.Own.{own_shift}
use Rattle.rel_shift.specs.declared.containing.Containing.{Containing}
use Rattle.style_types.specs.declared.style.Insets.{Insets}
use Rattle.rel_shift.specs.declared.insets.Shift.{Shift}

abbrev insets : (top right bottom left : Size) → Insets
insets top right bottom left = record { top = top; right = right; bottom = bottom; left = left }

abbrev containing : WritingMode → Direction → (inline : ℤ) → (block : Option ℤ) → Containing
containing mode dir inline block = record { mode = mode; dir = dir; inline = inline; block = block }

abbrev shift : (dx dy : ℤ) → Shift
shift dx dy = record { dx = dx; dy = dy }

-- an inset on each axis: block-start 5px, inline-start 10% of 200px
signs : own_shift (insets (Length (pos 320)) Auto Auto (Percent (pos 1000))) (containing modes.HorizontalTb directions.Ltr (pos 12800) None) ≡ shift (pos 1280) (pos 320)
signs = refl

-- in rtl the right side is the start: left 5px gives way to right 7px
right_wins : own_shift (insets Auto (Length (pos 448)) Auto (Length (pos 320))) (containing modes.HorizontalTb directions.Rtl (pos 12800) None) ≡ shift (negsuc 447) (pos 0)
right_wins = refl

own-1 : own_shift (insets (Percent (pos 5000)) Auto (Percent (pos 5000)) (Percent (negsuc 4999))) (containing modes.HorizontalTb directions.Ltr (pos 14976) None) ≡ shift (negsuc 7487) (pos 0)
own-1 = refl

own-2 : own_shift (insets Auto (Percent (pos 500)) (Length (negsuc 63)) (Percent (pos 500))) (containing modes.HorizontalTb directions.Rtl (pos 6400) (Some (pos 3200))) ≡ shift (negsuc 319) (pos 64)
own-2 = refl

own-3 : own_shift (insets (Percent (pos 5000)) (Percent (pos 5000)) (Percent (negsuc 3332)) Auto) (containing modes.SidewaysLr directions.Ltr (pos 51200) (Some (pos 38400))) ≡ shift (negsuc 19199) (pos 17064)
own-3 = refl

own-4 : own_shift (insets (Percent (pos 1000)) (Percent (pos 5000)) Auto (Length (negsuc 511))) (containing modes.SidewaysLr directions.Rtl (pos 5376) None) ≡ shift (negsuc 511) (pos 537)
own-4 = refl

own-5 : own_shift (insets (Percent (pos 3333)) (Length (pos 320)) (Percent (pos 3333)) Auto) (containing modes.SidewaysRl directions.Ltr (pos 7040) None) ≡ shift (negsuc 319) (pos 2346)
own-5 = refl

own-6 : own_shift (insets (Length (pos 0)) (Length (pos 2560)) (Length (negsuc 63)) (Percent (pos 500))) (containing modes.SidewaysRl directions.Rtl (pos 11776) None) ≡ shift (negsuc 2559) (pos 64)
own-6 = refl

own-7 : own_shift (insets (Percent (pos 5000)) (Percent (pos 5000)) Auto (Percent (pos 3333))) (containing modes.VerticalLr directions.Ltr (pos 3840) None) ≡ shift (pos 0) (pos 1920)
own-7 = refl

own-8 : own_shift (insets Auto (Percent (pos 500)) (Percent (negsuc 4999)) (Percent (pos 500))) (containing modes.VerticalLr directions.Rtl (pos 1280) None) ≡ shift (pos 0) (pos 640)
own-8 = refl

own-9 : own_shift (insets (Percent (pos 3333)) Auto (Percent (negsuc 4999)) (Percent (pos 5000))) (containing modes.VerticalRl directions.Ltr (pos 12672) None) ≡ shift (pos 0) (pos 4223)
own-9 = refl

own-10 : own_shift (insets (Percent (negsuc 4999)) Auto (Percent (pos 3333)) (Percent (pos 5000))) (containing modes.VerticalRl directions.Rtl (pos 8449) None) ≡ shift (pos 0) (negsuc 2815)
own-10 = refl
