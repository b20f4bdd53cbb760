-- The steps of the code, without where they lie in memory.
use Rattle.std.specs.Prelude.{◌≡◌, ℕ, Bool, List, [], ◌∷◌, ◌++◌, map, Result, Ok, Err, ⊤}
use Rattle.css_types.specs.declared.rule.Selector as code_selector
use Rattle.css_types.specs.declared.rule.Rule as code_rule
use Rattle.css_values.specs.Error.{Stop}
use Rattle.reading.specs.declared.stop.Stop.TheVariants as stops
use Rattle.css_sheet.specs.declared.sheet.Sheet as code_sheet
use Rattle.css_sheet.specs.Halt.{Halt}
use Rattle.css_types.specs.Rule.{Ruling, selector_of, rulings_of}
use Rattle.css_sheet.specs.Sheet.{Heads, Sheet, cannot}

abbrev pub heads_of : List code_selector.Selector → (opened : Bool) → Heads
heads_of selectors opened = record { selectors = map selector_of selectors; opened = opened }

abbrev pub IsCannot : (left : List ℕ) → Stop → Type 0
IsCannot left (stops.Refused kind at) = cannot left ≡ (kind, at.now)
IsCannot left stops.Memory = ⊥

-- where a selector stopped, told as a refusal
abbrev pub TellsCannot : Halt → Stop → Type 0
TellsCannot (stops.Refused why left) stop = IsCannot left.now stop
TellsCannot stops.Memory stop = stop ≡ stops.Memory

abbrev pub sheet_of : code_sheet.Sheet → Sheet
sheet_of s = record { rules = rulings_of s.rules.items; declared = s.declared }

-- the sheet has these rules more, unless memory ran out
abbrev pub PutsRules : Result ⊤ Stop → (now due : Sheet) → Type 0
PutsRules (Ok done) now due = now ≡ due
PutsRules (Err stop) now due = stop ≡ stops.Memory

-- a rule more
abbrev pub PutsRule : Result ⊤ Stop → (old now : List code_rule.Rule) → Ruling → Type 0
PutsRule (Ok done) old now more = rulings_of now ≡ rulings_of old ++ more ∷ []
PutsRule (Err stop) old now more = stop ≡ stops.Memory
