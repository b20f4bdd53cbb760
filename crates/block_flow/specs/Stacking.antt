-- How children are stacked on the block axis, child by child, with whole lists of adjoining margins.
-- CSS 2, 8.3.1 and 9.4.1.
use Rattle.std.specs.Prelude.{Bool, false, List, [], ◌∷◌, ◌++◌, ℤ, pos, ◌+ℤ◌, fold, if◌then◌else◌}
use Rattle.std.specs.Int.{int_max}
use Rattle.margin_collapse.specs.Margins.{collapsed}
use Rattle.block_flow.specs.Children.{Child}

-- how far a stack has come: y, where the last child ends that isn't collapsed through; the margins since
-- then, which are pending; whether these adjoin the container's own start, since no such child has come;
-- and the children's margins that adjoin the container's own start
pub record Progress : Type 0 where
  pub y : ℤ
  pub pending : List ℤ
  pub joined : Bool
  pub start_margins : List ℤ

-- before the first child, in a container whose start adjoins it or not
abbrev pub begin : (start_joins : Bool) → Progress
begin start_joins = record { y = pos 0; pending = []; joined = start_joins; start_margins = [] }

-- all margins of a child
abbrev pub margins_of : Child → List ℤ
margins_of child = child.start_margins ++ child.end_margins

-- where the border box of the next child stands, from the block-start edge of the container's content area
abbrev pub place_in : Progress → Child → ℤ
place_in progress child = if progress.joined then pos 0 else (progress.y +ℤ collapsed (progress.pending ++ child.start_margins))

-- the margins at the container's own start, with these of the next child
abbrev pub joined_margins : Progress → List ℤ → List ℤ
joined_margins progress margins = if progress.joined then (progress.start_margins ++ margins) else progress.start_margins

-- these margins adjoin those that are pending
abbrev pub adjoin : Progress → List ℤ → Progress
adjoin progress margins = record {
  y = progress.y;
  pending = progress.pending ++ margins;
  joined = progress.joined;
  start_margins = joined_margins progress margins;
}

-- after a child: all margins of one that is collapsed through adjoin; of another those at its end are pending
abbrev pub after : Progress → Child → Progress
after progress child = if child.through
    then adjoin progress (margins_of child)
    else (record {
      y = place_in progress child +ℤ child.size;
      pending = child.end_margins;
      joined = false;
      start_margins = joined_margins progress child.start_margins;
    })

-- after all children
abbrev pub stacked : (start_joins : Bool) → List Child → Progress
stacked start_joins children = fold after (begin start_joins) children

-- where children stand that come next
abbrev pub places_from : Progress → List Child → List ℤ
places_from progress [] = []
places_from progress (child ∷ children) = place_in progress child ∷ places_from (after progress child) children

-- where all children stand
abbrev pub places_of : (start_joins : Bool) → List Child → List ℤ
places_of start_joins children = places_from (begin start_joins) children

-- the margins that a stack hands outwards, where the container's end adjoins its last child's
abbrev pub handed : (end_joins : Bool) → Progress → List ℤ
handed end_joins progress = if end_joins then progress.pending else []

-- the block extent of a stack: the margins at its end count where they are not handed outwards, and do not
-- adjoin the container's start
abbrev pub extent : (end_joins : Bool) → Progress → ℤ
extent end_joins progress = int_max (pos 0) (if end_joins then progress.y else (if progress.joined then pos 0 else (progress.y +ℤ collapsed progress.pending)))
