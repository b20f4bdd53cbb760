-- Parts that ask for no level but 0 (UAX 9), and what is made of their items at that level.
use Rattle.std.specs.Prelude.{◌≡◌, ℕ, ◌==◌, ◌+◌, ◌-◌, ◌≤◌, ◌≤ℤ◌, pos, ⊤, Bool, true, false, not, length, ◌&&◌, ◌||◌, nat_le, nat_lt, if◌then◌else◌, List, [], ◌∷◌, ◌++◌, map, Option, Some, None}
use Rattle.std.specs.List.{list_all}
use Rattle.std.specs.Vec.{vec_capacity, vec_len}
use Rattle.std.specs.Coded.{×_prop, Unit-prop, le_prop}
use Rattle.wm_chars.specs.declared.classes.BidiClass.{BidiClass}
use Rattle.wm_chars.specs.declared.classes.BreakClass.{BreakClass}
use Rattle.style_types.specs.declared.style.UnicodeBidi.{UnicodeBidi}
use Rattle.style_types.specs.declared.style.UnicodeBidi.TheVariants.{Normal, BidiOverride, IsolateOverride}
use Rattle.fragment_types.specs.Item.{Entry, text, begins, ends, atom, line_break}
use Rattle.bidi_resolve.specs.Paragraph.{is_left_to_right}
use Rattle.para_prepare.specs.declared.lists.FlatLists.{FlatLists}
use Rattle.para_prepare.specs.declared.item.PreparedItem.{PreparedItem}
use Rattle.para_prepare.specs.declared.letter.Letter.{Letter}
use Rattle.para_prepare.specs.declared.standing.Standing.{Standing}
use Rattle.para_prepare.specs.Breaks.{break_class_of}
use Rattle.para_prepare.specs.Glyph.{class_of}
use Rattle.para_prepare.specs.Items.{first_place, item_of, place_behind}
use Rattle.para_prepare.specs.Marks.{is_bidi_control}
use Rattle.cluster_units.specs.Plain.{is_plain}
use Rattle.cluster_units.specs.Text.{is_combined}
use Rattle.cluster_units.specs.declared.unit.Unit.{Unit}
use Rattle.para_prepare.specs.Preparation.{HasBounds}
use Rattle.para_prepare.specs.Views.{IsSize}
use Rattle.para_prepare.specs.Parts.{Part, opens, closes, control, item, Raw, of_unit, of_combined, of_atom, of_break, class_in, raws}

-- the characters of a unit, of which it has one at least
abbrev pub are_flat : (upright : Bool) → List Letter → Bool
are_flat upright [] = false
are_flat upright (l ∷ letters) = list_all (λ l. is_left_to_right (class_in upright l.char)) (l ∷ letters)

abbrev pub is_normal : UnicodeBidi → Bool
is_normal Normal = true
is_normal _ = false

abbrev pub is_flat_raw : Raw → Bool
is_flat_raw (of_unit source node upright unit letters) = are_flat upright letters
is_flat_raw (of_combined source node unit letters inside) = true
is_flat_raw (of_atom source name) = true
is_flat_raw (of_break source node) = true

abbrev pub is_flat : Part → Bool
is_flat (opens bidi dir) = is_normal bidi
is_flat closes = true
is_flat (control c class) = false
is_flat (item raw) = is_flat_raw raw

abbrev pub is_single : List Letter → Bool
is_single [] = false
is_single (l ∷ []) = true
is_single (l ∷ (m ∷ letters)) = false

-- an item that is one character of its bidi paragraph
abbrev pub is_one : Raw → Bool
is_one (of_unit source node upright unit letters) = is_single letters
is_one (of_combined source node unit letters inside) = true
is_one (of_atom source name) = true
is_one (of_break source node) = false

abbrev pub is_bare : Part → Bool
is_bare (opens bidi dir) = false
is_bare closes = false
is_bare (control c class) = false
is_bare (item raw) = is_one raw

-- a block container that puts nothing round its bidi paragraphs, whose base level is 0
abbrev pub puts_nothing : UnicodeBidi → Bool
puts_nothing BidiOverride = false
puts_nothing IsolateOverride = false
puts_nothing _ = true

abbrev pub is_zero : Option ℕ → Bool
is_zero None = false
is_zero (Some base) = base == 0

-- how an item stands at level 0
abbrev pub flat_standing : Standing
flat_standing = record { level = 0; base = 0; apart = None }

abbrev pub flat_item : Raw → PreparedItem
flat_item raw = item_of raw flat_standing

-- what is made of parts, one after the other
pub record Flat : Type 0 where
  pub items : List PreparedItem
  pub classes : List BidiClass
  pub breaks : List (Option BreakClass)
  pub flat : Bool
  pub bare : Bool

abbrev pub flat_of : FlatLists → Flat
flat_of made = record { items = made.items.items; classes = made.classes.items; breaks = made.breaks.items; flat = made.flat; bare = made.bare }

-- there is room for so many items more
pub record HasRoom (count : ℕ) (made : FlatLists) : Type 0 where
  pub items : vec_len made.items + count ≤ vec_capacity made.items
  pub classes : vec_len made.classes + count ≤ vec_capacity made.classes
  pub breaks : vec_len made.breaks + count ≤ vec_capacity made.breaks

abbrev pub nothing : Flat
nothing = record { items = []; classes = []; breaks = []; flat = true; bare = true }

abbrev pub grown : Flat → List Part → Flat
grown made parts =
    record {
      items = made.items ++ map flat_item (raws parts);
      classes = made.classes ++ map class_of (raws parts);
      breaks = made.breaks ++ map break_class_of (raws parts);
      flat = made.flat && list_all is_flat parts;
      bare = made.bare && list_all is_bare parts;
    }

-- there is one of each for every item
pub record AreAlike (made : Flat) : Type 0 where
  pub classes_count : length made.classes ≡ length made.items
  pub breaks_count : length made.breaks ≡ length made.items

-- the bounds of an item's lengths
abbrev pub HasBoundsIn : PreparedItem → Type 0
HasBoundsIn own = HasBounds own.what

-- characters at places that rise, from one on
abbrev pub Rises : ℕ → List Letter → Type 0
Rises place [] = ⊤
Rises place (l ∷ letters) = (place ≤ l.place) × Rises (l.place + 1) letters

-- in one way at most, as a fact that a type keeps must
pub Rises-prop : (place : ℕ) (letters : List Letter) → IsProp (Rises place letters)
Rises-prop place [] = Unit-prop
Rises-prop place (l ∷ letters) = ×_prop le_prop (Rises-prop (l.place + 1) letters)

-- a unit of these characters, or a combined run, has the bounds of its item
pub record HasRunBounds (unit : Unit) (letters : List Letter) : Type 0 where
  pub size : IsSize unit
  pub one : is_combined unit.kind ≡ true → unit.advance ≤ℤ pos 65536
  pub places : unit.end - unit.first ≤ place_behind letters - first_place letters

-- letters of scripts that are read from left to right, and what stands between them
abbrev pub reads_left_to_right : ℕ → Bool
reads_left_to_right c =
    if nat_lt c 0x590
    then true
    else (if nat_lt c 0x2E80 then nat_le 0x2010 c && nat_le c 0x2027 else (nat_le c 0xD7FF || (nat_le 0xFF00 c && nat_le c 0xFFEF)))

-- content that may be one character for each item
abbrev pub stands_bare : Entry → Bool
stands_bare (text node bytes style) = true
stands_bare (begins node style edges) = false
stands_bare (ends node edges) = false
stands_bare (atom name) = true
stands_bare (line_break node) = false

-- a character that is a unit by itself
abbrev pub reads_alone : ℕ → Bool
reads_alone c = is_plain c && not (is_bidi_control c)

-- an inline box that puts no control round its content, or what is no beginning of one
abbrev pub puts_none : Entry → Bool
puts_none (begins node style edges) = is_normal style.bidi
puts_none _ = true
