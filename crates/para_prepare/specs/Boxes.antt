-- Which inline boxes take part: those with an item between their ends.
use Rattle.std.specs.Prelude.{ℕ, zero, suc, Bool, true, false, cond, List, [], ◌∷◌, ◌++◌, map}
use Rattle.para_prepare.specs.declared.boxes.Kind.{Kind}
use Rattle.para_prepare.specs.declared.boxes.Kind.TheVariants.{Opening, Closing, Content, Aside}
use Rattle.para_prepare.specs.Parts.{Part, opens, closes, control, item}

abbrev pub kind_of : Part → Kind
kind_of (opens bidi dir) = Opening
kind_of closes = Closing
kind_of (control c class) = Aside
kind_of (item raw) = Content

-- at the end of a box: the way goes on where a box inside is open, and leads out where none is
abbrev pub past_end : (depth : ℕ) → (rest : ℕ → Bool) → Bool
past_end zero rest = false
past_end (suc depth) rest = rest depth

-- whether an item is met before the way leads out of the box; so many boxes inside it are open
abbrev pub meets : (way : List Kind) → (depth : ℕ) → Bool
meets [] depth = false
meets (Opening ∷ way) depth = meets way (suc depth)
meets (Closing ∷ way) depth = past_end depth (meets way)
meets (Content ∷ way) depth = true
meets (Aside ∷ way) depth = meets way depth

-- on the way back a box begins with its end
abbrev pub flipped : Kind → Kind
flipped Opening = Closing
flipped Closing = Opening
flipped Content = Content
flipped Aside = Aside

-- whether a part takes part: the ends of a box only where it has an item; `before` has the nearest first
abbrev pub takes : (before : List Kind) → Kind → (after : List Kind) → Bool
takes before Opening after = meets after 0
takes before Closing after = meets (map flipped before) 0
takes before Content after = true
takes before Aside after = true

abbrev pub takes_from : (before after : List Kind) → List Bool
takes_from before [] = []
takes_from before (kind ∷ after) = takes before kind after ∷ takes_from (kind ∷ before) after

-- those that are marked
abbrev pub marked : {X : Type 0} → List Bool → List X → List X
marked (mark ∷ marks) (x ∷ xs) = cond mark (x ∷ []) [] ++ marked marks xs
marked _ _ = []

-- the parts without the ends of boxes that have no item
unfoldable pub taking_part : List Part → List Part
taking_part parts = marked (takes_from [] (map kind_of parts)) parts
