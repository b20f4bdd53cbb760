-- What the bidi algorithm reads of a paragraph (CSS Writing Modes 4, 2.4): the characters of its items and the controls that
-- inline boxes put round them, cut at line breaks.
use Rattle.std.specs.Prelude.{ℕ, Bool, List, [], ◌∷◌, ◌++◌, map}
use Rattle.wm_chars.specs.declared.classes.BidiClass.{BidiClass}
use Rattle.wm_chars.specs.declared.classes.BidiClass.TheVariants.{L, ON, LRE, RLE, LRO, RLO, PDF, LRI, RLI, FSI, PDI}
use Rattle.wm_modes.specs.declared.mode.Direction.{Direction}
use Rattle.wm_modes.specs.declared.mode.Direction.TheVariants.{Ltr, Rtl}
use Rattle.style_types.specs.declared.style.UnicodeBidi.{UnicodeBidi}
use Rattle.style_types.specs.declared.style.UnicodeBidi.TheVariants.{Normal, Embed, Isolate, BidiOverride, IsolateOverride, Plaintext}
use Rattle.para_prepare.specs.declared.letter.Letter.{Letter}
use Rattle.para_prepare.specs.declared.bidi_text.Character.{Character}
use Rattle.para_prepare.specs.declared.bidi_text.Role.{Role}
use Rattle.para_prepare.specs.declared.bidi_text.Role.TheVariants.{Begins, Continues, Divides}
use Rattle.para_prepare.specs.declared.bidi_text.Around.{Around}
use Rattle.para_prepare.specs.Parts.{Part, opens, closes, control, item, Raw, of_unit, of_combined, of_atom, of_break, class_in}

abbrev pub character : ℕ → BidiClass → Role → Character
character c class role = record { char = c; class = class; role = role }

-- a control of this class
abbrev pub put : (c : ℕ) → BidiClass → Character
put c class = character c class Divides

-- the table of `unicode-bidi`: what an inline box puts before and after its content
abbrev pub embedding : Direction → Character
embedding Ltr = put 0x202A LRE
embedding Rtl = put 0x202B RLE

abbrev pub overriding : Direction → Character
overriding Ltr = put 0x202D LRO
overriding Rtl = put 0x202E RLO

abbrev pub isolating : Direction → Character
isolating Ltr = put 0x2066 LRI
isolating Rtl = put 0x2067 RLI

abbrev pub before : UnicodeBidi → Direction → List Character
before Normal dir = []
before Embed dir = embedding dir ∷ []
before Isolate dir = isolating dir ∷ []
before BidiOverride dir = overriding dir ∷ []
before IsolateOverride dir = put 0x2068 FSI ∷ overriding dir ∷ []
before Plaintext dir = put 0x2068 FSI ∷ []

abbrev pub after : UnicodeBidi → List Character
after Normal = []
after Embed = put 0x202C PDF ∷ []
after Isolate = put 0x2069 PDI ∷ []
after BidiOverride = put 0x202C PDF ∷ []
after IsolateOverride = put 0x202C PDF ∷ put 0x2069 PDI ∷ []
after Plaintext = put 0x2069 PDI ∷ []

-- a block container puts an override round each of its bidi paragraphs, and nothing else
abbrev pub container_before : UnicodeBidi → Direction → List Character
container_before BidiOverride dir = overriding dir ∷ []
container_before IsolateOverride dir = overriding dir ∷ []
container_before _ dir = []

abbrev pub container_after : UnicodeBidi → List Character
container_after BidiOverride = put 0x202C PDF ∷ []
container_after IsolateOverride = put 0x202C PDF ∷ []
container_after _ = []

abbrev pub unit_characters : (upright : Bool) → List Letter → List Character
unit_characters upright [] = []
unit_characters upright (l ∷ letters) =
    character l.char (class_in upright l.char) Begins ∷ map (λ l. character l.char (class_in upright l.char) Continues) letters

-- a unit is its characters, a combined run one U+FFFC of class L, an inline-block one of class ON
abbrev pub characters : Raw → List Character
characters (of_unit source node upright unit letters) = unit_characters upright letters
characters (of_combined source node unit letters inside) = character 0xFFFC L Begins ∷ []
characters (of_atom source name) = character 0xFFFC ON Begins ∷ []
characters (of_break source node) = []

-- characters before the first of these texts
abbrev pub in_front : List Character → List (List Character) → List (List Character)
in_front front [] = front ∷ []
in_front front (text ∷ texts) = (front ++ text) ∷ texts

-- what closes these boxes, of which the innermost is first, and what opens them again
abbrev pub closing_all : List Around → List Character
closing_all [] = []
closing_all (around ∷ opened) = after around.bidi ++ closing_all opened

abbrev pub opening_all : List Around → List Character
opening_all [] = []
opening_all (around ∷ opened) = opening_all opened ++ before around.bidi around.dir

abbrev pub closing_innermost : List Around → List Character
closing_innermost [] = []
closing_innermost (around ∷ opened) = after around.bidi

abbrev pub without_innermost : List Around → List Around
without_innermost [] = []
without_innermost (around ∷ opened) = opened

-- the texts of these parts, where these boxes are open. A line break ends a text: what is open is closed before it and
-- opened again after it.
abbrev pub texts_of : (container : Around) → (opened : List Around) → List Part → List (List Character)
texts_of container opened [] = container_after container.bidi ∷ []
texts_of container opened (opens bidi dir ∷ parts) =
    in_front (before bidi dir) (texts_of container ((record { bidi = bidi; dir = dir }) ∷ opened) parts)
texts_of container opened (closes ∷ parts) =
    in_front (closing_innermost opened) (texts_of container (without_innermost opened) parts)
texts_of container opened (control c class ∷ parts) =
    in_front (character c class Divides ∷ []) (texts_of container opened parts)
texts_of container opened (item (of_break source node) ∷ parts) =
    (closing_all opened ++ container_after container.bidi)
    ∷ in_front (container_before container.bidi container.dir ++ opening_all opened) (texts_of container opened parts)
texts_of container opened (item raw ∷ parts) = in_front (characters raw) (texts_of container opened parts)

-- the bidi paragraphs of a paragraph whose block container has this `unicode-bidi` and used direction
unfoldable pub bidi_texts : (container : Around) → List Part → List (List Character)
bidi_texts container parts =
    in_front (container_before container.bidi container.dir) (texts_of container [] parts)
