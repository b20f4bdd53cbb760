-- Which values a property takes, by its row in the table of properties, and which numbers a style sheet can say.
use Rattle.std.specs.Prelude.{◌≡◌, true, ⊤, ◌⊎◌, ℕ, ◌≤◌, List, map, ℤ, pos, ◌≤ℤ◌}
use Rattle.std.specs.List.{Contains}
use Rattle.css_types.specs.declared.keyword.Keyword as keyword
use Rattle.css_types.specs.declared.keyword.Keywords.{Keywords}
use Rattle.css_types.specs.declared.keyword.TheConstants.{WORDS, WIDTH_NAMES}
use Rattle.css_types.specs.declared.property.Property.{Property}
use Rattle.css_types.specs.declared.table.More.{More}
use Rattle.css_types.specs.declared.table.More.TheVariants as more
use Rattle.css_types.specs.declared.table.PropertyRow.{PropertyRow}
use Rattle.css_types.specs.declared.table.Range.{Range}
use Rattle.css_types.specs.declared.table.Range.TheVariants as ranges
use Rattle.css_types.specs.declared.table.Values.{Values}
use Rattle.css_types.specs.declared.value.Value.{Value}
use Rattle.css_types.specs.declared.value.Value.TheVariants.{Initial, Inherit, Keyword, Px, Em, Percent, Number, Face, Digits}
use Rattle.wm_units.specs.Numbers.{IsSayable}
use Rattle.css_types.specs.Keywords.{words_of}
use Rattle.css_types.specs.Table.{IsRowOf}

-- ---- by the columns of the table

-- each keyword behind its word
abbrev pub spelled : List (List ℕ × keyword.Keyword)
spelled = map (λ row. (row.0.now, row.1)) WORDS

-- the keyword has a word of the group
abbrev pub IsOfGroup : Keywords → keyword.Keyword → Type 0
IsOfGroup group k = (word : List ℕ) × Contains (words_of group) word × Contains {X = List ℕ × keyword.Keyword} spelled (word, k)

abbrev pub IsIn : Range → ℤ → Type 0
IsIn ranges.Nowhere n = ⊥
IsIn ranges.NotNegative n = pos 0 ≤ℤ n
IsIn ranges.Anywhere n = ⊤

-- a length that has a name, where lengths have names
abbrev pub IsNamedWidth : More → ℤ → Type 0
IsNamedWidth more.Widths n = Contains (map (λ row. row.1) WIDTH_NAMES) n
IsNamedWidth other n = ⊥

abbrev pub IsNumber : More → ℤ → Type 0
IsNumber more.Numbers n = pos 0 ≤ℤ n
IsNumber other n = ⊥

-- face0 to face7
abbrev pub IsFace : More → ℕ → Type 0
IsFace more.Faces n = n ≤ 7
IsFace other n = ⊥

-- digits with 2, 3 or 4
abbrev pub IsDigits : More → ℕ → Type 0
IsDigits more.Digits n = (2 ≤ n) × (n ≤ 4)
IsDigits other n = ⊥

-- a value beside `initial` and `inherit`
abbrev pub IsAmong : Values → Value → Type 0
IsAmong values (Keyword k) = IsOfGroup values.keywords k
IsAmong values (Px n) = IsIn values.lengths n ⊎ IsNamedWidth values.more n
IsAmong values (Em n) = IsIn values.lengths n
IsAmong values (Percent n) = IsIn values.percentages n
IsAmong values (Number n) = IsNumber values.more n
IsAmong values (Face n) = IsFace values.more n
IsAmong values (Digits n) = IsDigits values.more n
IsAmong values other = ⊥

-- a value by a row: `initial` always, `inherit` where the property is inherited
abbrev pub IsValueBy : PropertyRow → Value → Type 0
IsValueBy row Initial = ⊤
IsValueBy row Inherit = row.inherited ≡ true
IsValueBy row value = IsAmong row.values value

-- a value of the property
abbrev pub IsValueOf : Property → Value → Type 0
IsValueOf property value = (row : PropertyRow) × IsRowOf property row × IsValueBy row value

-- ---- numbers

-- the numbers of a value are such
abbrev pub HasSayable : Value → Type 0
HasSayable (Px n) = IsSayable n
HasSayable (Em n) = IsSayable n
HasSayable (Percent n) = IsSayable n
HasSayable (Number n) = IsSayable n
HasSayable other = ⊤
