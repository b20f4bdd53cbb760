-- Where lines may end (CSS Text 3, 5.1): by the classes of two neighbouring items.
use Rattle.std.specs.Prelude.{Bool, true, false, ◌&&◌, ◌||◌, cond, List, [], ◌∷◌, Option, Some, None}
use Rattle.wm_chars.specs.declared.classes.BreakClass.{BreakClass}
use Rattle.wm_chars.specs.declared.classes.BreakClass.TheVariants.{Space, Open, Close, Glue, Ideographic}
use Rattle.fragment_types.specs.declared.breaking.Breaking.{Breaking}
use Rattle.fragment_types.specs.declared.breaking.Breaking.TheVariants.{No, May, Must}
use Rattle.para_prepare.specs.Parts.{Raw, of_unit, of_combined, of_atom, of_break}

-- an inline-block breaks as an ideographic character does, as a combined run does already; a line break has no class
abbrev pub break_class_of : Raw → Option BreakClass
break_class_of (of_unit source node upright unit letters) = Some unit.break_class
break_class_of (of_combined source node unit letters inside) = Some unit.break_class
break_class_of (of_atom source name) = Some Ideographic
break_class_of (of_break source node) = None

abbrev pub gives_before : BreakClass → Bool
gives_before Ideographic = true
gives_before _ = false

abbrev pub gives_behind : BreakClass → Bool
gives_behind Space = true
gives_behind c = gives_before c

-- no line ends behind an opening bracket or glue, and none begins with a space, a closing bracket or glue
abbrev pub lets_behind : BreakClass → Bool
lets_behind Open = false
lets_behind Glue = false
lets_behind _ = true

abbrev pub lets_before : BreakClass → Bool
lets_before Space = false
lets_before Close = false
lets_before Glue = false
lets_before _ = true

-- whether a line may end between two characters of these classes
abbrev pub may_break : BreakClass → BreakClass → Bool
may_break a b = (gives_behind a || gives_before b) && (lets_behind a && lets_before b)

-- the break between two neighbours. A line break forces one behind itself, and none stands before it.
abbrev pub break_between : Option BreakClass → Option BreakClass → Breaking
break_between None b = Must
break_between (Some a) None = No
break_between (Some a) (Some b) = cond (may_break a b) May No

-- behind the last item only a line break has one
abbrev pub break_at_end : Option BreakClass → Breaking
break_at_end None = Must
break_at_end (Some a) = No

abbrev pub breaks_of : List (Option BreakClass) → List Breaking
breaks_of [] = []
breaks_of (a ∷ []) = break_at_end a ∷ []
breaks_of (a ∷ (b ∷ classes)) = break_between a b ∷ breaks_of (b ∷ classes)
