-- How far the lengths of a paragraph reach.
use Rattle.std.specs.Prelude.{◌≤◌, ◌+◌, ◌^◌, ℕ, ⊤, List, [], ◌∷◌, All, length, Option, IfSome, ℤ, pos, ◌≤ℤ◌, unsigned_abs}
use Rattle.std.specs.List.{sum_by}
use Rattle.fragment_types.specs.declared.fragment.Fragment.{Fragment, out-Fragment}
use Rattle.fragment_types.specs.Fragment.{Pieces, block, none, piece, piece_of}
use Rattle.line_place.specs.Line as place
use Rattle.line_place.specs.Reach.{IsAtomic, piece_reach}
use Rattle.line_place.specs.Spread.{inside, spread}
use Rattle.para_prepare.specs.declared.item.PreparedItem.{PreparedItem}
use Rattle.para_prepare.specs.declared.item.PreparedContent.{PreparedContent}
use Rattle.para_prepare.specs.declared.item.PreparedContent.TheVariants.{Unit, Combined, Atom, Break}
use Rattle.para_lines.specs.Lines as rule

-- the inline size of a containing block, where it is known
abbrev pub IsInlineSize : Option ℤ → Type 0
IsInlineSize inline = IfSome inline (λ size. (pos 0 ≤ℤ size) × (size ≤ℤ pos (2 ^ 32)))

-- items come in the order of what they come from
abbrev pub Rise : (from : ℕ) → List PreparedItem → Type 0
Rise from [] = ⊤
Rise from (item ∷ items) = (from ≤ item.source) × Rise item.source items

-- no unit advances further than ten times the greatest font size
abbrev pub HasAdvance : PreparedContent → Type 0
HasAdvance (Unit form space node first end_ advance glyphs) = unsigned_abs advance ≤ 655360
HasAdvance (Combined node first end_ advance natural glyphs) = unsigned_abs advance ≤ 655360
HasAdvance (Atom name) = ⊤
HasAdvance (Break node) = ⊤

-- the items of a prepared paragraph: few, in order, and none advances too far
pub record AreNear (items : List PreparedItem) : Type 0 where
  pub few : length items ≤ 2 ^ 22
  pub rise : Rise 0 items
  pub advances : All (λ item. HasAdvance item.what) items

-- the lengths of atoms together, without their signs
abbrev pub lengths_of : List ℤ → ℕ
lengths_of lengths = sum_by unsigned_abs lengths

-- ---- atoms and lines

-- the lengths of an atom together, without their signs
abbrev pub atom_reach : rule.Atom → ℕ
atom_reach atom =
    unsigned_abs atom.extent + piece_reach atom.fragment + unsigned_abs atom.left_margin + unsigned_abs atom.over_margin + unsigned_abs atom.over
    + unsigned_abs atom.under + unsigned_abs atom.shift

-- the lengths that an atom brings to a line, without their signs; raised, it reaches up to 2^32 further over and under
abbrev pub atom_part : PreparedContent → rule.Atom → ℕ
atom_part (Atom name) atom =
    piece_reach atom.fragment + unsigned_abs atom.left_margin + unsigned_abs atom.over_margin + unsigned_abs atom.over + unsigned_abs atom.under + 2 ^ 33
atom_part (Unit form space node first end_ advance glyphs) atom = 0
atom_part (Combined node first end_ advance natural glyphs) atom = 0
atom_part (Break node) atom = 0

abbrev pub standing_reach : rule.Standing → ℕ
standing_reach s = unsigned_abs s.extent + atom_part s.item.what s.atom

-- a line begins and ends near the container's block-start edge
abbrev pub IsNearLine : Fragment → Type 0
IsNearLine fragment = unsigned_abs (out-Fragment fragment).rect.b + unsigned_abs (out-Fragment fragment).rect.block ≤ 2 ^ 60

-- ---- how far lines reach with all inside them

-- an inline-block's fragment is that of a box
abbrev pub IsBoxed : Pieces → Type 0
IsBoxed (piece name rect (block mode dir content definite start end_ through) inner none) = ⊤
IsBoxed _ = ⊥

-- an inline-block of a box, whose lengths come to no more than `each`, with nothing further inside it than `most`
pub record IsInReach (each most : ℕ) (atom : rule.Atom) : Type 0 where
  pub boxed : IsBoxed atom.fragment
  pub lengths : atom_reach atom ≤ each
  pub inner : inside atom.fragment ≤ most

-- an atom on a line is no piece of an inline box, and nothing inside it is further than `most`
abbrev pub IsAtomWithin : (most : ℕ) → PreparedContent → rule.Atom → Type 0
IsAtomWithin most (Atom name) atom =
    ((left_margin over_margin over under : ℤ) → IsAtomic (place.atom atom.fragment left_margin over_margin over under)) × (inside atom.fragment ≤ most)
IsAtomWithin most (Unit form space node first end_ advance glyphs) atom = ⊤
IsAtomWithin most (Combined node first end_ advance natural glyphs) atom = ⊤
IsAtomWithin most (Break node) atom = ⊤

abbrev pub HoldsWithin : (most : ℕ) → rule.Standing → Type 0
HoldsWithin most s = IsAtomWithin most s.item.what s.atom

-- a line, with all inside it, reaches no further
abbrev pub IsLineWithin : (bound : ℕ) → Fragment → Type 0
IsLineWithin bound fragment = spread (piece_of fragment) ≤ bound
