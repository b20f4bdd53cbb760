-- Which characters are upright, by their places and their break classes.
use Rattle.std.proofs.Common.{◌≡◌, refl, sym, ap, ◌∙◌, ℕ, Bool, true, false, ◌&&◌}
use Rattle.std.specs.Prelude.{cond, is_some, leb, Option, Some, None, option_map, if◌then◌else◌}
use Rattle.wm_chars.specs.Laws.{AreUprightFromU3000}
use Rattle.wm_chars.specs.Repertoire.{break_class, orientation, row_of}
use Rattle.wm_chars.specs.declared.classes.BreakClass.{BreakClass}
use Rattle.wm_chars.specs.declared.classes.Orient.TheVariants.{R, V}
use Rattle.fragment_types.specs.declared.unit_kind.UnitKind.TheVariants.{Turned, Upright}
use Rattle.cluster_units.specs.Unit.{kind_by}

by_row : {X : Type 0} (late : Bool) (breaks : X → BreakClass) (found : Option X)
    → kind_by (option_map (λ row. cond late V R) found) ≡ (if late && is_some (option_map breaks found) then Upright else Turned)
by_row true breaks None = refl
by_row true breaks (Some row) = refl
by_row false breaks None = refl
by_row false breaks (Some row) = refl

by_class : AreUprightFromU3000 → (c : ℕ) → kind_by (orientation c) ≡ (if leb 0x3000 c && is_some (break_class c) then Upright else Turned)
unfolding break_class
by_class law c = ap kind_by (law c) ∙ by_row (leb 0x3000 c) _ (row_of c)

pub mixed_is : AreUprightFromU3000 → (c : ℕ) (class : Option BreakClass) (late : Bool) → class ≡ break_class c → late ≡ (leb 0x3000 c && is_some class)
    → (if late then Upright else Turned) ≡ kind_by (orientation c)
mixed_is law c class late of_it is =
    ap (λ late. if late then Upright else Turned) (is ∙ ap (λ class. leb 0x3000 c && is_some class) of_it) ∙ sym (by_class law c)
