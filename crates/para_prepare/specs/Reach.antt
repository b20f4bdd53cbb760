-- Which ends of inline boxes have an item behind or before them, told by one number: how many boxes at least have to be open
-- for the way to meet an item before it leads out of them.
use Rattle.std.specs.Prelude.{ℕ, zero, suc, Bool, true, false, List, [], ◌∷◌, map, Option, Some, None}
use Rattle.para_prepare.specs.declared.boxes.Kind.{Kind}
use Rattle.para_prepare.specs.declared.boxes.Kind.TheVariants.{Opening, Closing, Content, Aside}
use Rattle.para_prepare.specs.Boxes.{flipped}
use Rattle.para_prepare.specs.declared.parts.Part as code
use Rattle.para_prepare.specs.declared.parts.Part.TheVariants as codes

abbrev pub raised : Option ℕ → Option ℕ
raised None = None
raised (Some least) = Some (suc least)

abbrev pub lowered : Option ℕ → Option ℕ
lowered None = None
lowered (Some zero) = Some zero
lowered (Some (suc least)) = Some least

-- the number at a part, by that of the way behind it
abbrev pub reach_at : Kind → Option ℕ → Option ℕ
reach_at Opening least = lowered least
reach_at Closing least = raised least
reach_at Content least = Some 0
reach_at Aside least = least

abbrev pub reach : List Kind → Option ℕ
reach [] = None
reach (kind ∷ way) = reach_at kind (reach way)

abbrev pub is_at_most : (least depth : ℕ) → Bool
is_at_most zero depth = true
is_at_most (suc least) zero = false
is_at_most (suc least) (suc depth) = is_at_most least depth

-- whether an item is met where so many are open
abbrev pub reaches : Option ℕ → ℕ → Bool
reaches None depth = false
reaches (Some least) depth = is_at_most least depth

-- the marks by what stands before: those of the ends of boxes, and all others
abbrev pub closing_takes : (before : Option ℕ) → Kind → Bool
closing_takes before Closing = reaches before 0
closing_takes before Opening = true
closing_takes before Content = true
closing_takes before Aside = true

-- and by what stands behind: those of the beginnings
abbrev pub opening_takes : (after : Option ℕ) → Kind → (mark : Bool) → Bool
opening_takes after Opening mark = reaches after 0
opening_takes after Closing mark = mark
opening_takes after Content mark = mark
opening_takes after Aside mark = mark

abbrev pub closings_from : (before : List Kind) → (after : List Kind) → List Bool
closings_from before [] = []
closings_from before (kind ∷ after) = closing_takes (reach (map flipped before)) kind ∷ closings_from (kind ∷ before) after

-- what a part is, as the code holds it
abbrev pub code_kind : code.Part → Kind
code_kind (codes.Opens around) = Opening
code_kind codes.Closes = Closing
code_kind (codes.Control c class) = Aside
code_kind (codes.Unit source node upright unit span) = Content
code_kind (codes.Combined source node unit span inside) = Content
code_kind (codes.Atom source name) = Content
code_kind (codes.Break source node) = Content

abbrev pub is_no_end : Kind → Bool
is_no_end Opening = false
is_no_end Closing = false
is_no_end Content = true
is_no_end Aside = true
