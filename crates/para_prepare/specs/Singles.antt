-- Items that are one character of their bidi paragraph each, with nothing between them, and what is made of them at the levels of
-- that paragraph; and the same where each level is 0.
use Rattle.std.specs.Prelude.{ℕ, ◌%◌, ◌==◌, cond, List, [], ◌∷◌, length, map, replicate, Option, Some, None, unwrap_or}
use Rattle.bidi_explicit.specs.Base.{base_of}
use Rattle.bidi_resolve.specs.Paragraph.{paragraph_levels}
use Rattle.wm_chars.specs.Pairs.{mirror}
use Rattle.para_prepare.specs.declared.item.PreparedContent as content
use Rattle.para_prepare.specs.declared.item.PreparedContent.TheVariants as contents
use Rattle.para_prepare.specs.declared.item.PreparedItem.{PreparedItem}
use Rattle.fragment_types.specs.Glyphs.{only_character}
use Rattle.para_prepare.specs.Breaks.{breaks_of}
use Rattle.para_prepare.specs.Flat.{Flat}
use Rattle.para_prepare.specs.Preparation.{Preparation}

-- what the bidi algorithm reads: a unit of one character as it stands, anything else as U+FFFC
abbrev pub character_in : content.PreparedContent → ℕ
character_in (contents.Unit form space node first end_ advance glyphs) = unwrap_or (only_character glyphs) 0xFFFC
character_in (contents.Combined node first end_ advance natural glyphs) = 0xFFFC
character_in (contents.Atom name) = 0xFFFC
character_in (contents.Break node) = 0xFFFC

-- L4 on an odd level
abbrev pub mirrored_by : Option ℕ → List (List ℕ) → List (List ℕ)
mirrored_by None glyphs = glyphs
mirrored_by (Some c) glyphs = (unwrap_or (mirror c) c ∷ []) ∷ []

abbrev pub mirrored_glyphs : List (List ℕ) → List (List ℕ)
mirrored_glyphs glyphs = mirrored_by (only_character glyphs) glyphs

abbrev pub mirrored_content : content.PreparedContent → content.PreparedContent
mirrored_content (contents.Unit form space node first end_ advance glyphs) = contents.Unit form space node first end_ advance (mirrored_glyphs glyphs)
mirrored_content (contents.Combined node first end_ advance natural glyphs) = contents.Combined node first end_ advance natural glyphs
mirrored_content (contents.Atom name) = contents.Atom name
mirrored_content (contents.Break node) = contents.Break node

abbrev pub mirrored_item : PreparedItem → PreparedItem
mirrored_item own = record { source = own.source; apart = own.apart; what = mirrored_content own.what }

-- what an item at level 0 is at this level
abbrev pub at_level : (level : ℕ) → PreparedItem → PreparedItem
at_level level own = cond (level % 2 == 1) (mirrored_item own) own

abbrev pub at_levels : List PreparedItem → (levels : List ℕ) → List PreparedItem
at_levels [] levels = []
at_levels (own ∷ items) [] = own ∷ items
at_levels (own ∷ items) (level ∷ levels) = at_level level own ∷ at_levels items levels

-- what is prepared where each item stands at level 0
abbrev pub zero_preparation : Flat → Preparation
zero_preparation made =
    record {
      items = made.items;
      levels = replicate (length made.items) 0;
      classes = made.classes;
      bases = replicate (length made.items) 0;
      breaks = breaks_of made.breaks;
    }

-- the levels of the bidi paragraph that the items are, with this base level
abbrev pub levels_in : (base : ℕ) → Flat → List ℕ
levels_in base made = paragraph_levels (map (λ own. character_in own.what) made.items) made.classes base

-- and what is prepared where each item stands at its own
abbrev pub preparation_at : (base : ℕ) → Flat → Preparation
preparation_at base made =
    record {
      items = at_levels made.items (levels_in base made);
      levels = levels_in base made;
      classes = made.classes;
      bases = replicate (length made.items) base;
      breaks = breaks_of made.breaks;
    }

-- with this base level, or that of the first strong character (UAX 9, P2 and P3)
abbrev pub own_preparation : (given : Option ℕ) → Flat → Preparation
own_preparation given made = preparation_at (base_of given made.classes) made
