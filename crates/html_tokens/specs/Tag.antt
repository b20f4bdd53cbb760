-- The tags, by their names.
use Rattle.std.specs.Prelude.{◌≡◌, ℕ, Bool, List, [], map, drop, get_or, bytes_eq, codes, Option, Some}
use Rattle.std.specs.List.{slice_get}
use Rattle.reading.specs.Names.{named}
use Rattle.html_tokens.specs.declared.tag.Tag.{Tag}
use Rattle.html_tokens.specs.declared.tag.Tag.TheVariants as variants
use Rattle.html_tokens.specs.contracts.tag.Tag.{the_type}
use denote.Enum.Declared.{tag_of}
use Rattle.html_tokens.specs.declared.tag.TheConstants.{TAGS}

unfoldable pub tags : List (List ℕ × Tag)
tags = map (λ row. (row.0.now, row.1)) TAGS

-- those that may stand in `body`: all behind `html` and `body`
unfoldable pub body_tags : List (List ℕ × Tag)
body_tags = map (λ row. (row.0.now, row.1)) (drop 2 TAGS)

-- the table has the tag by this name
abbrev pub IsNameOf : List ℕ → Tag → Type 0
IsNameOf name tag = (place : ℕ) × (slice_get tags place ≡ Some (name, tag))

-- the place of each tag in the table, which has them in the order of the variants
abbrev pub place_of : Tag → ℕ
place_of tag = tag_of the_type tag

-- the name of a tag, in small letters
abbrev pub name_of : Tag → List ℕ
name_of tag = (get_or tags (place_of tag) ([], variants.Html)).0

-- the tag of a name that may stand in the body
unfoldable pub tag_named : List ℕ → Option Tag
tag_named name = named body_tags name

-- `br` has no end tag
unfoldable pub is_void : List ℕ → Bool
is_void name = bytes_eq name (codes "br")
