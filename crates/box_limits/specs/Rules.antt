-- Rules that turn no box.
use Rattle.std.specs.Prelude.{◌≡◌, Bool, true, not, ◌||◌, List, ◌++◌}
use Rattle.std.specs.List.{list_all, list_any}
use Rattle.css_types.specs.declared.property.Property.TheVariants.{Display, WritingMode}
use Rattle.css_types.specs.declared.value.Declaration.{Declaration}
use Rattle.css_types.specs.Rule.{Ruling}
use Rattle.dom_store.specs.State.{State}
use Rattle.cascade.specs.Winners.{same_property}
use Rattle.style_tree.specs.Styling.{styled_document}
use Rattle.box_gen.specs.Orthogonal.{root_past}

-- a declaration says how a box turns: its display or its writing mode
abbrev pub turns : Declaration → Bool
turns d = same_property d.property Display || same_property d.property WritingMode

-- no declaration of these rules does
abbrev pub turn_none : List Ruling → Bool
turn_none rules = list_all (λ rule. not (list_any turns rule.declarations)) rules

-- which nodes pass the limit is the same with such rules and without them
abbrev pub RulesThatTurnNone : Type 0
RulesThatTurnNone = (before rules behind : List Ruling) (state : State) → turn_none rules ≡ true
    → root_past (styled_document (before ++ rules ++ behind) state) ≡ root_past (styled_document (before ++ behind) state)
