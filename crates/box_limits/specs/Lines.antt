-- What a node's line says of its box: whether, with itself, too many boxes above it turn. The line is what the node is, what its parent is,
-- and so on up to `html`. CSS Writing Modes 4, 7.3, with a limit of this project's own.
use Rattle.std.specs.Prelude.{Bool, false, List, [], ◌∷◌}
use Rattle.style_types.specs.declared.style.Style.{Style}
use Rattle.style_types.specs.Initial.{initial}
use Rattle.css_types.specs.Rule.{Ruling}
use Rattle.dom_store.specs.State.{What, element, text}
use Rattle.cascade.specs.Winners.{winners}
use Rattle.computed.specs.Step.{style_of}
use Rattle.style_tree.specs.Styling.{kind_of, unturned}
use Rattle.box_gen.specs.declared.role.Role.{Role}
use Rattle.box_gen.specs.Boxes.{role_of}
use Rattle.box_gen.specs.Building.{code_of}
use Rattle.box_gen.specs.Site as sites
use Rattle.box_gen.specs.Site.{hidden, in_node, in_root}
use Rattle.box_limits.specs.declared.place.Place.{Place}

-- what the first of a line is to its container, by the code's word
abbrev pub role_at : What → Style → Role
role_at what style = code_of (role_of (kind_of what) style)

-- beside `body` nothing stands
abbrev pub outside : Place
outside = record { style = initial; site = hidden initial.mode }

-- in the first of a line, of which the style is known, that stands there
abbrev pub place_in : What → Style → Place → Place
place_in what style place = record { style = style; site = in_node (role_at what style) style.mode place.site }

-- ---- lines

-- the style of the first of a line: an element has its own, a text that of its parent
abbrev pub style_on : List Ruling → (line : List What) → What → (parent : Style) → Style
style_on rules line (element tag id classes dir own) parent = style_of parent (winners rules line parent)
style_on rules line (text letters) parent = parent

abbrev pub html_style_on : List Ruling → (html : What) → Style
html_style_on rules html = style_of initial (winners rules (html ∷ []) initial)

abbrev pub body_style_on : List Ruling → (body html : What) → Style
body_style_on rules body html = unturned (html_style_on rules html) (winners rules (body ∷ html ∷ []) (html_style_on rules html))

-- `body` never turns
abbrev pub place_of_body : Style → Place
place_of_body style = record { style = style; site = in_root style.mode }

abbrev pub place_in_body : (body : What) → Style → Place
place_in_body body style = place_in body style (place_of_body style)

-- in the first of a line
unfoldable pub place_on : List Ruling → (line : List What) → Place
place_on rules [] = outside
place_on rules (html ∷ []) = outside
place_on rules (body ∷ html ∷ []) = place_in_body body (body_style_on rules body html)
place_on rules (what ∷ parent ∷ upper ∷ others) =
    place_in what (style_on rules (what ∷ parent ∷ upper ∷ others) what (place_on rules (parent ∷ upper ∷ others)).style) (place_on rules (parent ∷ upper ∷ others))

-- ---- the limit

abbrev pub is_past_at : List Ruling → (line : List What) → What → Place → Bool
is_past_at rules line what place = sites.is_past (role_at what (style_on rules line what place.style)) (style_on rules line what place.style).mode place.site

-- the box of the first of a line has, with itself, too many above that are orthogonal to their containing blocks
abbrev pub is_past : List Ruling → (line : List What) → Bool
is_past rules [] = false
is_past rules (what ∷ above) = is_past_at rules (what ∷ above) what (place_on rules above)
