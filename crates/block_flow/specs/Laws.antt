-- Which margins of a container's children adjoin, told by where the children stand among each other, and what
-- this says of a stack, whose definition isn't needed for it. CSS 2, 8.3.1: a container's start adjoins its
-- first child's start, one child's end the next one's start, the last child's end its container's end, and
-- the start of a child that is collapsed through its own end.
use Rattle.std.specs.Prelude.{◌≡◌, ◌⊎◌, Bool, true, false, List, [], ◌∷◌, ◌++◌, ℤ, pos, ◌+ℤ◌, length, slice_index_or, None}
use Rattle.std.specs.List.{list_all, flat_map}
use Rattle.std.specs.Int.{int_max}
use Rattle.margin_collapse.specs.Margins.{collapsed}
use Rattle.block_flow.specs.Adjoining.{edges, is_through}
use Rattle.block_flow.specs.Children.{Child}
use Rattle.block_flow.specs.declared.adjoining.BlockBox.{BlockBox}
use Rattle.block_flow.specs.Stacking.{margins_of, stacked, places_of, handed, extent}

-- these are all collapsed through
abbrev pub AllThrough : List Child → Type 0
AllThrough children = list_all (λ child. child.through) children ≡ true

-- all their margins, which adjoin where all are collapsed through
abbrev pub all_margins : List Child → List ℤ
all_margins children = flat_map margins_of children

-- the start of a first child that isn't collapsed through, and all margins of the children before it
abbrev pub before_first : (thin : List Child) → Child → List ℤ
before_first thin child = all_margins thin ++ child.start_margins

-- the end of a last child that isn't collapsed through, and all margins of the children behind it
abbrev pub behind_last : Child → (thin : List Child) → List ℤ
behind_last last thin = last.end_margins ++ all_margins thin

-- one child's end, all margins of the children behind it that are collapsed through, and the next one's start
abbrev pub between : Child → (thin : List Child) → Child → List ℤ
between last thin child = behind_last last thin ++ child.start_margins

-- where a child stands, behind some children and before others
abbrev pub place_of : (start_joins : Bool) → (before : List Child) → Child → (others : List Child) → ℤ
place_of start_joins before child others = slice_index_or (places_of start_joins (before ++ child ∷ others)) (length before) (pos 0)

-- a child stands as far behind the last one that isn't collapsed through as the margins between them say;
-- where there is none, as far behind the container's content edge, or at it where these margins adjoin the
-- container's start. Its own end margins don't count, though it may be collapsed through.
pub record StandByAdjoining : Type 0 where
  pub joined : (thin : List Child) (child : Child) (others : List Child) → AllThrough thin
      → place_of true thin child others ≡ pos 0
  pub apart : (thin : List Child) (child : Child) (others : List Child) → AllThrough thin
      → place_of false thin child others ≡ collapsed (before_first thin child)
  pub behind : (start_joins : Bool) (before : List Child) (last : Child) (thin : List Child) (child : Child) (others : List Child) → last.through ≡ false → AllThrough thin
      → place_of start_joins (before ++ last ∷ thin) child others
      ≡ (place_of start_joins before last (thin ++ child ∷ others) +ℤ last.size) +ℤ collapsed (between last thin child)

-- what adjoins the container's own start and end, where these adjoin its children's
pub record AdjoinOutside : Type 0 where
  pub start : (thin : List Child) (child : Child) (others : List Child) → AllThrough thin → child.through ≡ false
      → (stacked true (thin ++ child ∷ others)).start_margins ≡ before_first thin child
  pub start_through : (thin : List Child) → AllThrough thin → (stacked true thin).start_margins ≡ all_margins thin
  pub start_apart : (children : List Child) → (stacked false children).start_margins ≡ []
  pub end_ : (start_joins : Bool) (before : List Child) (last : Child) (thin : List Child) → last.through ≡ false → AllThrough thin
      → handed true (stacked start_joins (before ++ last ∷ thin)) ≡ behind_last last thin
  pub end_through : (start_joins : Bool) (thin : List Child) → AllThrough thin → handed true (stacked start_joins thin) ≡ all_margins thin
  pub end_apart : (start_joins : Bool) (children : List Child) → handed false (stacked start_joins children) ≡ []

-- a stack ends where its last child does that isn't collapsed through, and the margins behind it count where
-- they aren't handed outwards. Where there is none its extent is that of the margins alone, unless they adjoin
-- the container's start or end.
pub record EndByAdjoining : Type 0 where
  pub handed_on : (start_joins : Bool) (before : List Child) (last : Child) (thin : List Child) → last.through ≡ false → AllThrough thin
      → extent true (stacked start_joins (before ++ last ∷ thin)) ≡ int_max (pos 0) (place_of start_joins before last thin +ℤ last.size)
  pub kept : (start_joins : Bool) (before : List Child) (last : Child) (thin : List Child) → last.through ≡ false → AllThrough thin
      → extent false (stacked start_joins (before ++ last ∷ thin)) ≡ int_max (pos 0) ((place_of start_joins before last thin +ℤ last.size) +ℤ collapsed (behind_last last thin))
  pub through_joined : (end_joins : Bool) (thin : List Child) → AllThrough thin → extent end_joins (stacked true thin) ≡ pos 0
  pub through_handed_on : (thin : List Child) → AllThrough thin → extent true (stacked false thin) ≡ pos 0
  pub through_kept : (thin : List Child) → AllThrough thin → extent false (stacked false thin) ≡ int_max (pos 0) (collapsed (all_margins thin))

-- the first child that isn't collapsed through
pub record HasFirst (children : List Child) : Type 0 where
  pub thin : List Child
  pub first : Child
  pub others : List Child
  pub are : children ≡ thin ++ first ∷ others
  pub not_through : first.through ≡ false
  pub through : AllThrough thin

-- the last one
pub record HasLast (children : List Child) : Type 0 where
  pub before : List Child
  pub last : Child
  pub thin : List Child
  pub are : children ≡ before ++ last ∷ thin
  pub not_through : last.through ≡ false
  pub through : AllThrough thin

-- so there is a case for all children
pub record AreTakenApart : Type 0 where
  pub first : (children : List Child) → AllThrough children ⊎ HasFirst children
  pub last : (children : List Child) → AllThrough children ⊎ HasLast children

-- a box of auto size that is collapsed through adjoins its children at both ends
abbrev pub AdjoinWhereCollapsed : Type 0
AdjoinWhereCollapsed = (box : BlockBox) → box.size ≡ None → is_through box true ≡ true → edges box ≡ record { start_joins = true; end_joins = true }
