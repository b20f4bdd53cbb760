-- Where lines end. CSS Text 3, 5.1: at each forced break, and between two of these at places where a break is allowed.
use Rattle.std.specs.Prelude.{◌≡◌, Bool, ℕ, zero, suc, ◌+◌, ◌-◌, ◌<◌, List, [], ◌∷◌, drop, Option, None, Some, max, min, unwrap_or, ℤ, int_le}
use Rattle.std.specs.List.{filter}
use Rattle.fragment_types.specs.declared.breaking.Breaking.{Breaking}
use Rattle.fragment_types.specs.declared.breaking.Breaking.TheVariants.{No, May, Must}
use Rattle.line_fill.specs.declared.item.FillItem.{FillItem}
use Rattle.line_fill.specs.Item.{width}

-- the end of the text breaks as a forced break does, whatever stands behind its last item
abbrev pub break_before : List FillItem → Breaking → Breaking
break_before [] end = Must
break_before (item ∷ items) end = end

-- the place behind an item is an end of lines, with those that follow it up to a forced break
abbrev pub ends_at : Breaking → ℕ → List ℕ → List ℕ
ends_at No place ends = ends
ends_at May place ends = place ∷ ends
ends_at Must place ends = place ∷ []

abbrev pub ends_from : ℕ → List FillItem → List ℕ
ends_from place [] = []
ends_from place (item ∷ items) = ends_at (break_before items item.end) (place + 1) (ends_from (place + 1) items)

-- where a line that begins at a place may end: the places behind it where a break is allowed, up to and with the next
-- forced break
abbrev pub ends : List FillItem → ℕ → List ℕ
ends items from = ends_from from (drop from items)

-- the greatest of some places, and the least
abbrev pub greatest : List ℕ → Option ℕ
greatest [] = None
greatest (place ∷ places) = Some (max place (unwrap_or (greatest places) place))

abbrev pub least : List ℕ → Option ℕ
least [] = None
least (place ∷ places) = Some (min place (unwrap_or (least places) place))

-- the greatest place that fits, else the least of all
abbrev pub best : (ℕ → Bool) → List ℕ → ℕ
best fits places = unwrap_or (greatest (filter fits places)) (unwrap_or (least places) 0)

abbrev pub fits : ℤ → List FillItem → ℕ → ℕ → Bool
fits available items from to = int_le (width items from to) available

-- where the line ends that begins at a place
abbrev pub line_end : ℤ → List FillItem → ℕ → ℕ
line_end available items from = best (fits available items from) (ends items from)

-- the ends of lines, one after the other: a line begins where the one before it ends. `covered` of the items to come belong
-- to the line whose end is already told.
abbrev pub lines_by : (ℕ → ℕ) → ℕ → ℕ → List FillItem → List ℕ
lines_by ending place covered [] = []
lines_by ending place zero (item ∷ items) = ending place ∷ lines_by ending (place + 1) (ending place - (place + 1)) items
lines_by ending place (suc covered) (item ∷ items) = lines_by ending (place + 1) covered items

abbrev pub lines : ℤ → List FillItem → List ℕ
lines available items = lines_by (line_end available items) 0 0 items

-- these ends divide the items from one place to another into lines: each has at least one item, and begins where the one
-- before it ends
abbrev pub Divide : ℕ → ℕ → List ℕ → Type 0
Divide from to [] = from ≡ to
Divide from to (end ∷ ends) = (from < end) × Divide end to ends
