-- Which inline boxes of a paragraph stand round its items. A box is named by the place of its beginning among the paragraph's
-- entries.
use Rattle.std.specs.Prelude.{ℕ, ◌+◌, ◌==◌, Bool, false, ◌||◌, not, cond, List, [], ◌∷◌, filter, reverse, slice_index_or}
use Rattle.style_types.specs.declared.style.Style.{Style}
use Rattle.style_types.specs.Initial.{initial}
use Rattle.fragment_types.specs.Item.{Entry, text, begins, ends, atom, line_break}

-- a chain of boxes, each inside the next
abbrev pub without_innermost : List ℕ → List ℕ
without_innermost [] = []
without_innermost (box ∷ chain) = chain

-- the boxes that are open behind an entry at this place
abbrev pub opened_past : (place : ℕ) → Entry → List ℕ → List ℕ
opened_past place (begins node style edges) chain = place ∷ chain
opened_past place (ends node edges) chain = without_innermost chain
opened_past place (text node bytes style) chain = chain
opened_past place (atom name) chain = chain
opened_past place (line_break node) chain = chain

-- for each entry the boxes round it, the innermost first
abbrev pub chains_from : (place : ℕ) → (chain : List ℕ) → List Entry → List (List ℕ)
chains_from place chain [] = []
chains_from place chain (entry ∷ entries) = chain ∷ chains_from (place + 1) (opened_past place entry chain) entries

unfoldable pub chains : List Entry → List (List ℕ)
chains entries = chains_from 0 [] entries

abbrev pub has : List ℕ → ℕ → Bool
has [] box = false
has (other ∷ chain) box = (other == box) || has chain box

-- the boxes of a chain that aren't in another, the outermost first
abbrev pub fresh : (chain other : List ℕ) → List ℕ
fresh chain other = reverse (filter (λ box. not (has other box)) chain)

-- an inline box: its node, its style, whether it has its edges at its beginning and at its end, and the boxes round it
pub record InlineBox : Type 0 where
  pub node : ℕ
  pub style : Style
  pub opens : Bool
  pub closes : Bool
  pub outer : List ℕ

-- whether the end of the box has edges: the first end of which it is the innermost box
abbrev pub ends_it : (box : ℕ) → (chain : List ℕ) → Bool
ends_it box [] = false
ends_it box (inner ∷ chain) = inner == box

abbrev pub closing_edges : (box : ℕ) → List Entry → List (List ℕ) → Bool
closing_edges box (ends node edges ∷ entries) (chain ∷ chains) = cond (ends_it box chain) edges (closing_edges box entries chains)
closing_edges box (_ ∷ entries) (chain ∷ chains) = closing_edges box entries chains
closing_edges box _ _ = false

abbrev pub box_by : Entry → (closes : Bool) → (outer : List ℕ) → InlineBox
box_by (begins node style edges) closes outer = record { node = node; style = style; opens = edges; closes = closes; outer = outer }
box_by _ closes outer = record { node = 0; style = initial; opens = false; closes = closes; outer = outer }

abbrev pub no_entry : Entry
no_entry = line_break 0

-- the box that begins at this place
unfoldable pub box_at : List Entry → (box : ℕ) → InlineBox
box_at entries box =
    box_by (slice_index_or entries box no_entry) (closing_edges box entries (chains entries)) (slice_index_or (chains entries) box [])
