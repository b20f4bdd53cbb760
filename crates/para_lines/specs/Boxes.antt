-- The inline boxes of a paragraph as tables by place: what stands round each entry, and where the box ends that begins there.
use Rattle.std.specs.Prelude.{◌≡◌, ℕ, ◌+◌, ◌<◌, ◌≤◌, ◌^◌, ⊤, Bool, false, cond, not, List, [], ◌∷◌, length, map, filter, All, Option, Some, None, slice_index_or, slice_set, ◌+ℤ◌}
use Rattle.fragment_types.specs.Item.{Entry, text, begins, ends, atom, line_break}
use Rattle.style_types.specs.Style.{IsBounded}
use Rattle.para_lines.specs.declared.boxes.BoxEnd.{BoxEnd}
use Rattle.para_lines.specs.declared.boxes.Round.{Round}
use Rattle.para_lines.specs.Around.{chains, ends_it, has}
use Rattle.para_lines.specs.Edges.{shifts}

-- the numbers of the style of an inline box are those of a computed style
abbrev pub HasBounds : Entry → Type 0
HasBounds (begins node style edges) = IsBounded style
HasBounds (ends node edges) = ⊤
HasBounds (text node bytes style) = ⊤
HasBounds (atom name) = ⊤
HasBounds (line_break node) = ⊤

-- the entries of a paragraph: few, and no number of their styles is too great
pub record AreBounded (entries : List Entry) : Type 0 where
  pub few : length entries ≤ 2 ^ 20
  pub bounds : All HasBounds entries

abbrev pub innermost : List ℕ → Option ℕ
innermost [] = None
innermost (box ∷ chain) = Some box

abbrev pub round_of : List Entry → List ℕ → Round
round_of entries chain = record { inside = innermost chain; shifts = shifts entries chain }

-- the boxes round the entry at a place
abbrev pub chain_at : List Entry → ℕ → List ℕ
chain_at entries place = slice_index_or (chains entries) place []

-- the same, where there may be no such entry
abbrev pub chain_behind : List Entry → Option ℕ → List ℕ
chain_behind entries None = []
chain_behind entries (Some place) = chain_at entries place

-- the boxes of a chain that aren't in another, the innermost first
abbrev pub apart : (chain other : List ℕ) → List ℕ
apart chain other = filter (λ box. not (has other box)) chain

-- an entry where a box begins
abbrev pub Begins : Entry → Type 0
Begins (begins node style edges) = ⊤
Begins (ends node edges) = ⊥
Begins (text node bytes style) = ⊥
Begins (atom name) = ⊥
Begins (line_break node) = ⊥

-- where a box ends, and whether it has edges there; one that isn't closed ends with the paragraph
abbrev pub end_from : (box place : ℕ) → List Entry → List (List ℕ) → BoxEnd
end_from box place (ends node edges ∷ entries) (chain ∷ chains) =
    cond (ends_it box chain) (record { place = place; closes = edges }) (end_from box (place + 1) entries chains)
end_from box place (begins node style edges ∷ entries) (chain ∷ chains) = end_from box (place + 1) entries chains
end_from box place (text node bytes style ∷ entries) (chain ∷ chains) = end_from box (place + 1) entries chains
end_from box place (atom name ∷ entries) (chain ∷ chains) = end_from box (place + 1) entries chains
end_from box place (line_break node ∷ entries) (chain ∷ chains) = end_from box (place + 1) entries chains
end_from box place [] chains = record { place = place; closes = false }
end_from box place (entry ∷ entries) [] = record { place = place; closes = false }

unfoldable pub end_of : List Entry → (box : ℕ) → BoxEnd
end_of entries box = end_from box 0 entries (chains entries)

pub record AreEnds (entries : List Entry) (ends : List BoxEnd) : Type 0 where
  pub count : length ends ≡ length entries
  pub each : (box : ℕ) (d : BoxEnd) → box < length entries → slice_index_or ends box d ≡ end_of entries box

-- tables by entry: what stands round each, and where the box ends that begins there
pub record AreBoxes (entries : List Entry) (rounds : List Round) (ends : List BoxEnd) : Type 0 where
  pub bounded : AreBounded entries
  pub rounds_are : rounds ≡ map (round_of entries) (chains entries)
  pub ends_are : AreEnds entries ends

-- ---- one entry more

abbrev pub outer_round : (inside : Option ℕ) → Round → List Round → Round
outer_round None round rounds = round
outer_round (Some box) round rounds = slice_index_or rounds box round

abbrev pub round_past : (place : ℕ) → Entry → Round → List Round → Round
round_past place (begins node style edges) round rounds = record { inside = Some place; shifts = round.shifts +ℤ style.shift }
round_past place (ends node edges) round rounds = outer_round round.inside round rounds
round_past place (text node bytes style) round rounds = round
round_past place (atom name) round rounds = round
round_past place (line_break node) round rounds = round

abbrev pub ended : (place : ℕ) → (edges : Bool) → (inside : Option ℕ) → List BoxEnd → List BoxEnd
ended place edges None marks = marks
ended place edges (Some box) marks = slice_set marks box (record { place = place; closes = edges })

abbrev pub with_end : (place : ℕ) → Entry → (inside : Option ℕ) → List BoxEnd → List BoxEnd
with_end place (ends node edges) inside marks = ended place edges inside marks
with_end place (begins node style edges) inside marks = marks
with_end place (text node bytes style) inside marks = marks
with_end place (atom name) inside marks = marks
with_end place (line_break node) inside marks = marks
