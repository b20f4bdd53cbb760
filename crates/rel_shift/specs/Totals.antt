-- How far the nodes of a page are shifted: each by its own shift and those of its ancestors. CSS 2, 9.4.3.
use Rattle.std.specs.BTreeMap.{get}
use Rattle.std.specs.Ordering.{nat_cmp}
use Rattle.std.specs.Prelude.{ℕ, ◌==◌, Bool, true, false, if◌then◌else◌, List, [], ◌∷◌, reverse, Option, Some, None, unwrap_or}
use Rattle.place_map.specs.Placed.{Page}
use Rattle.rel_shift.specs.Boxes.{box_of, view_block}
use Rattle.rel_shift.specs.Own.{no_shift, own_shift, plus}
use Rattle.rel_shift.specs.declared.containing.Containing.{Containing}
use Rattle.style_types.specs.declared.style.Insets.{Insets}
use Rattle.rel_shift.specs.declared.insets.Shift.{Shift}
use Rattle.style_types.specs.declared.position.Position.{Position}
use Rattle.rel_shift.specs.declared.totals.Totals.{Totals}

-- the own box of the holder, or the view
abbrev pub containing : Page → (holder : Option ℕ) → Option Containing
containing page None = Some (view_block page)
containing page (Some holder) = box_of page holder

abbrev pub shift_in : Option Insets → Option Containing → Shift
shift_in (Some insets) (Some c) = own_shift insets c
shift_in (Some insets) None = no_shift
shift_in None c = no_shift

-- what a node adds itself
abbrev pub own : Page → Position → Shift
own page p = shift_in p.insets (containing page p.holder)

abbrev pub and_own : (is_it : Bool) → (own around : Shift) → Shift
and_own true own around = plus around own
and_own false own around = around

abbrev pub next_sought : (is_it : Bool) → (node : ℕ) → (parent : Option ℕ) → Option ℕ
next_sought true node parent = parent
next_sought false node parent = Some node

-- the sum over a node that is sought and its ancestors; positions come the last one first, so that each stands behind those in it
abbrev pub total_back : Page → (sought : Option ℕ) → List Position → Shift
total_back page None back = no_shift
total_back page (Some node) [] = no_shift
total_back page (Some node) (p ∷ back) =
    let is_it = p.node == node in
    and_own is_it (own page p) (total_back page (next_sought is_it node p.parent) back)

abbrev pub total : Page → List Position → (node : ℕ) → Shift
total page positions node = total_back page (Some node) (reverse positions)

-- ---- as they are kept by node

abbrev pub total_in : Totals → (node : ℕ) → Shift
total_in totals node = unwrap_or (get nat_cmp totals.by_node node) no_shift

abbrev pub total_around : Totals → (parent : Option ℕ) → Shift
total_around totals None = no_shift
total_around totals (Some parent) = total_in totals parent

-- with one more node
abbrev pub total_with : Totals → Position → (own : Shift) → (node : ℕ) → Shift
total_with totals p own node = if p.node == node then plus (total_around totals p.parent) own else total_in totals node
