-- A page is shifted in another mode as it is in horizontal-tb.
use Rattle.std.proofs.Common.{◌≡◌, ◌∙◌, ℕ, Bool, true, false, List, [], ◌∷◌, ◌++◌, map, reverse, Option, Some, None, option_map, ℤ, pos, ◌+ℤ◌, neg_ℤ, refl, sym, ap, arith}
use Rattle.std.specs.Prelude.{◌==◌, if◌then◌else◌}
use Rattle.std.specs.Option.{option_or}
use Rattle.std.proofs.lemmas.List.{map-append, reverse-append}
use Rattle.std.proofs.lemmas.Int.{ints}
use Rattle.wm_modes.specs.declared.mode.Direction.{Direction}
use Rattle.wm_modes.specs.declared.mode.Direction.TheVariants.{Ltr, Rtl}
use Rattle.wm_modes.specs.declared.mode.WritingMode.{WritingMode}
use Rattle.wm_modes.specs.declared.mode.WritingMode.TheVariants.{HorizontalTb, VerticalRl, VerticalLr, SidewaysRl, SidewaysLr}
use Rattle.wm_modes.specs.declared.rects.FlowRect.{FlowRect}
use Rattle.wm_modes.specs.declared.rects.Rect.{Rect}
use Rattle.wm_modes.proofs.MapLaws.{rect_is}
use Rattle.wm_units.specs.declared.view.View.{View}
use Rattle.style_types.specs.declared.position.Position.{Position}
use Rattle.style_types.specs.declared.style.Insets.{Insets}
use Rattle.style_types.specs.declared.style.Size.{Size}
use Rattle.style_types.specs.declared.style.Style.{Style}
use Rattle.style_types.specs.Tree as styled
use Rattle.style_types.specs.Tree.{NodeKind, Nodes}
use Rattle.fragment_types.specs.Fragment.{Kind, block, line, span, run, measure}
use Rattle.fragment_types.specs.declared.item.BoxName.{BoxName}
use Rattle.size_rules.specs.Resolving.{resolved}
use Rattle.box_gen.specs.Boxes.{Role, atom, block_level, inline_box, line_break, nothing, role_of, words}
use Rattle.mode_ways.proofs.RoleLaws.{same_role}
use Rattle.mode_ways.specs.Ways.{Way, across, down, insets_in, left, mode_of, nodes_in, right, style_in}
use Rattle.place_map.specs.Placed.{Page, Parts, direction_in, mode_in, none, part}
use Rattle.page_turn.specs.Kinds.{kind_in}
use Rattle.page_turn.specs.Rects.{rect_turned}
use Rattle.page_turn.specs.Turning.{turned, turned_parts}
use Rattle.rel_shift.specs.Boxes.{box_in, mode_inside, own_box, own_box_of}
use Rattle.rel_shift.specs.Own.{no_shift, own_shift, plus, toward_end}
use Rattle.rel_shift.specs.Positions.{holder_in, insets_of, position, positions_in, positions_of, unless_hidden}
use Rattle.rel_shift.specs.Shifting.{moved, shifted}
use Rattle.rel_shift.specs.Totals.{and_own, containing, next_sought, own, shift_in, total, total_back}
use Rattle.rel_shift.specs.Turned.{HasRoot, PositionsTurn, ShiftsTurn, position_in, shift_turned}
use Rattle.rel_shift.specs.declared.containing.Containing.{Containing}
use Rattle.rel_shift.specs.declared.insets.Shift.{Shift}

-- ---- positions

insets_given : (way : Way) (relative : Bool) (insets : Insets) → (if relative then Some (insets_in way insets) else None) ≡ option_map (insets_in way) (if relative then Some insets else None)
insets_given way true insets = refl
insets_given way false insets = refl

insets_alike : (way : Way) (kind : NodeKind) (style : Style) → insets_of kind (style_in way style) ≡ option_map (insets_in way) (insets_of kind style)
insets_alike way styled.element style = insets_given way style.relative style.insets
insets_alike way styled.line_break style = refl
insets_alike way (styled.text letters) style = refl

position_alike : (way : Way) (parent holder : Option ℕ) (number : ℕ) (kind : NodeKind) (style : Style) → position parent holder number kind (style_in way style) ≡ position_in way (position parent holder number kind style)
position_alike way parent holder number kind style =
    ap (λ (insets : Option Insets). record { node = number; parent = parent; holder = holder; insets = insets }) (insets_alike way kind style)

hidden_alike : (way : Way) (role : Role) (list : List Position) → unless_hidden role (map (position_in way) list) ≡ map (position_in way) (unless_hidden role list)
hidden_alike way nothing list = refl
hidden_alike way (words letters) list = refl
hidden_alike way line_break list = refl
hidden_alike way inline_box list = refl
hidden_alike way atom list = refl
hidden_alike way block_level list = refl

inside_alike : (way : Way) (parent holder : ℕ) (nodes : Nodes) → positions_in parent holder (nodes_in way nodes) ≡ map (position_in way) (positions_in parent holder nodes)
unfolding positions_in nodes_in
inside_alike way parent holder styled.none = refl
inside_alike way parent holder (styled.node number kind style inner next) =
    let role = role_of kind style in
    let here = position (Some parent) (Some holder) number kind style ∷ positions_in number (holder_in role number holder) inner in
    ap (λ (r : Role). unless_hidden r (position (Some parent) (Some holder) number kind (style_in way style) ∷ positions_in number (holder_in r number holder) (nodes_in way inner)) ++ positions_in parent holder (nodes_in way next)) (same_role way kind style)
    ∙ ap (λ (p : Position). unless_hidden role (p ∷ positions_in number (holder_in role number holder) (nodes_in way inner)) ++ positions_in parent holder (nodes_in way next)) (position_alike way (Some parent) (Some holder) number kind style)
    ∙ ap (λ (l : List Position). unless_hidden role (position_in way (position (Some parent) (Some holder) number kind style) ∷ l) ++ positions_in parent holder (nodes_in way next)) (inside_alike way number (holder_in role number holder) inner)
    ∙ ap (λ (l : List Position). l ++ positions_in parent holder (nodes_in way next)) (hidden_alike way role here)
    ∙ ap (λ (l : List Position). map (position_in way) (unless_hidden role here) ++ l) (inside_alike way parent holder next)
    ∙ sym (map-append (position_in way) (unless_hidden role here) (positions_in parent holder next))

pub positions_turn : PositionsTurn
unfolding nodes_in
positions_turn way styled.none = refl
positions_turn way (styled.node number kind style inner next) =
    ap (λ (p : Position). p ∷ positions_in number number (nodes_in way inner)) (position_alike way None None number kind style)
    ∙ ap (λ (l : List Position). position_in way (position None None number kind style) ∷ l) (inside_alike way number number inner)

-- ---- containing blocks

in_mode : WritingMode → Containing → Containing
in_mode mode c = record { mode = mode; dir = c.dir; inline = c.inline; block = c.block }

if_mapped : {A B : Type 0} (f : A → B) (b : Bool) (x : B) (y : A) → x ≡ f y → (if b then Some x else None) ≡ option_map f (if b then Some y else None)
if_mapped f true x y is = ap Some is
if_mapped f false x y is = refl

or_mapped : {A B : Type 0} (f : A → B) (one other : Option A) → option_or (option_map f one) (option_map f other) ≡ option_map f (option_or one other)
or_mapped f None other = refl
or_mapped f (Some x) other = refl

block_alike : (mode : WritingMode) (name : BoxName) (own : WritingMode) (dir : Direction) (content : FlowRect) (definite : Option ℤ) (start end_ through : _)
    → own_box mode name (kind_in mode (block own dir content definite start end_ through))
    ≡ option_map (in_mode mode) (own_box HorizontalTb name (kind_in HorizontalTb (block own dir content definite start end_ through)))
unfolding in_mode
block_alike HorizontalTb name own dir content definite start end_ through = if_mapped (in_mode HorizontalTb) (name.ordinal == 0) _ _ refl
block_alike VerticalRl name own dir content definite start end_ through = if_mapped (in_mode VerticalRl) (name.ordinal == 0) _ _ refl
block_alike VerticalLr name own dir content definite start end_ through = if_mapped (in_mode VerticalLr) (name.ordinal == 0) _ _ refl
block_alike SidewaysRl name own dir content definite start end_ through = if_mapped (in_mode SidewaysRl) (name.ordinal == 0) _ _ refl
block_alike SidewaysLr name own dir content definite start end_ through = if_mapped (in_mode SidewaysLr) (name.ordinal == 0) _ _ refl

own_box_alike : (mode : WritingMode) (name : BoxName) (kind : Kind) → own_box mode name (kind_in mode kind) ≡ option_map (in_mode mode) (own_box HorizontalTb name (kind_in HorizontalTb kind))
own_box_alike mode name (block own dir content definite start end_ through) = block_alike mode name own dir content definite start end_ through
own_box_alike mode name (line index base own baseline) = refl
own_box_alike mode name span = refl
own_box_alike mode name (run form level natural units) = refl
own_box_alike mode name (measure min max) = refl

of_element : (mode : WritingMode) (b : Bool) (one other : Option Containing) → one ≡ option_map (in_mode mode) other → (if b then one else None) ≡ option_map (in_mode mode) (if b then other else None)
of_element mode true one other is = is
of_element mode false one other is = refl

inside_kept : (mode : WritingMode) (kind : Kind) → mode_inside mode (kind_in mode kind) ≡ mode
inside_kept mode (block own dir content definite start end_ through) = refl
inside_kept mode (line index base own baseline) = refl
inside_kept mode span = refl
inside_kept mode (run form level natural units) = refl
inside_kept mode (measure min max) = refl

box_alike : (mode : WritingMode) (view : View) (node : ℕ) (parts : Parts) → box_in mode node (turned_parts mode view parts) ≡ option_map (in_mode mode) (box_in HorizontalTb node (turned_parts HorizontalTb view parts))
box_alike mode view node none = refl
box_alike mode view node (part name rect kind inner next) =
    let flat_next = box_in HorizontalTb node (turned_parts HorizontalTb view next) in
    let flat_inner = box_in HorizontalTb node (turned_parts HorizontalTb view inner) in
    let flat_own = own_box_of node HorizontalTb name (kind_in HorizontalTb kind) in
    ap (λ (told : WritingMode). option_or (box_in mode node (turned_parts mode view next)) (option_or (box_in told node (turned_parts mode view inner)) (own_box_of node mode name (kind_in mode kind)))) (inside_kept mode kind)
    ∙ ap (λ (c : Option Containing). option_or c (option_or (box_in mode node (turned_parts mode view inner)) (own_box_of node mode name (kind_in mode kind)))) (box_alike mode view node next)
    ∙ ap (λ (c : Option Containing). option_or (option_map (in_mode mode) flat_next) (option_or c (own_box_of node mode name (kind_in mode kind)))) (box_alike mode view node inner)
    ∙ ap (λ (c : Option Containing). option_or (option_map (in_mode mode) flat_next) (option_or (option_map (in_mode mode) flat_inner) c))
    (of_element mode (name.node == node) (own_box mode name (kind_in mode kind)) (own_box HorizontalTb name (kind_in HorizontalTb kind)) (own_box_alike mode name kind))
    ∙ ap (option_or (option_map (in_mode mode) flat_next)) (or_mapped (in_mode mode) flat_inner flat_own)
    ∙ or_mapped (in_mode mode) flat_next (option_or flat_inner flat_own)
    ∙ ap (λ (told : WritingMode). option_map (in_mode mode) (option_or flat_next (option_or (box_in told node (turned_parts HorizontalTb view inner)) flat_own))) (sym (inside_kept HorizontalTb kind))

-- ---- the root

root_mode_is : (mode : WritingMode) (view : View) (parts : Parts) → HasRoot parts → mode_in (turned_parts mode view parts) ≡ mode
root_mode_is mode view none root = absurd root
root_mode_is mode view (part name rect (block own dir content definite start end_ through) inner next) root = refl
root_mode_is mode view (part name rect (line index base own baseline) inner next) root = absurd root
root_mode_is mode view (part name rect span inner next) root = absurd root
root_mode_is mode view (part name rect (run form level natural units) inner next) root = absurd root
root_mode_is mode view (part name rect (measure min max) inner next) root = absurd root

root_direction_is : (mode : WritingMode) (view : View) (parts : Parts) → HasRoot parts → direction_in (turned_parts mode view parts) ≡ direction_in (turned_parts HorizontalTb view parts)
root_direction_is mode view none root = absurd root
root_direction_is mode view (part name rect (block own dir content definite start end_ through) inner next) root = refl
root_direction_is mode view (part name rect (line index base own baseline) inner next) root = absurd root
root_direction_is mode view (part name rect span inner next) root = absurd root
root_direction_is mode view (part name rect (run form level natural units) inner next) root = absurd root
root_direction_is mode view (part name rect (measure min max) inner next) root = absurd root

containing_alike : (mode : WritingMode) (page : Page) → HasRoot page.parts → (holder : Option ℕ) → containing (turned mode page) holder ≡ option_map (in_mode mode) (containing (turned HorizontalTb page) holder)
unfolding in_mode
containing_alike mode page root None =
    ap (λ (own : WritingMode). Some (record { mode = own; dir = direction_in (turned_parts mode page.view page.parts); inline = page.view.inline; block = Some page.view.block })) (root_mode_is mode page.view page.parts root)
    ∙ ap (λ (dir : Direction). Some (record { mode = mode; dir = dir; inline = page.view.inline; block = Some page.view.block })) (root_direction_is mode page.view page.parts root)
containing_alike mode page root (Some node) =
    ap (λ (told : WritingMode). box_in told node (turned_parts mode page.view page.parts)) (root_mode_is mode page.view page.parts root)
    ∙ box_alike mode page.view node page.parts
    ∙ ap (λ (told : WritingMode). option_map (in_mode mode) (box_in told node (turned_parts HorizontalTb page.view page.parts))) (sym (root_mode_is HorizontalTb page.view page.parts root))

-- ---- shifts

shift_is : (dx dy : ℤ) (by : Shift) → dx ≡ by.dx → dy ≡ by.dy → record { dx = dx; dy = dy } ≡ by
shift_is dx dy by x y i = record { dx = x i; dy = y i }

down_ltr : (along over : ℤ) → record { dx = pos 0 +ℤ neg_ℤ over; dy = along +ℤ pos 0 } ≡ shift_turned VerticalRl (record { dx = along +ℤ pos 0; dy = pos 0 +ℤ over })
down_ltr along over = shift_is _ _ (shift_turned VerticalRl (record { dx = along +ℤ pos 0; dy = pos 0 +ℤ over })) (omega (arith, ints)) (omega (arith, ints))

down_rtl : (along over : ℤ) → record { dx = pos 0 +ℤ neg_ℤ over; dy = neg_ℤ along +ℤ pos 0 } ≡ shift_turned VerticalRl (record { dx = neg_ℤ along +ℤ pos 0; dy = pos 0 +ℤ over })
down_rtl along over = shift_is _ _ (shift_turned VerticalRl (record { dx = neg_ℤ along +ℤ pos 0; dy = pos 0 +ℤ over })) (omega (arith, ints)) (omega (arith, ints))

left_ltr : (along over : ℤ) → record { dx = pos 0 +ℤ over; dy = neg_ℤ along +ℤ pos 0 } ≡ shift_turned SidewaysLr (record { dx = along +ℤ pos 0; dy = pos 0 +ℤ over })
left_ltr along over = shift_is _ _ (shift_turned SidewaysLr (record { dx = along +ℤ pos 0; dy = pos 0 +ℤ over })) (omega (arith, ints)) (omega (arith, ints))

left_rtl : (along over : ℤ) → record { dx = pos 0 +ℤ over; dy = along +ℤ pos 0 } ≡ shift_turned SidewaysLr (record { dx = neg_ℤ along +ℤ pos 0; dy = pos 0 +ℤ over })
left_rtl along over = shift_is _ _ (shift_turned SidewaysLr (record { dx = neg_ℤ along +ℤ pos 0; dy = pos 0 +ℤ over })) (omega (arith, ints)) (omega (arith, ints))

-- along the lines of a containing block, from its start side to its end side, and across them
abbrev along_from : (start end_ : Size) (inline : ℤ) → ℤ
along_from start end_ inline = toward_end (resolved start (Some inline)) (resolved end_ (Some inline))

abbrev over_from : Insets → (definite : Option ℤ) → ℤ
over_from insets definite = toward_end (resolved insets.top definite) (resolved insets.bottom definite)

own_turned : (way : Way) (insets : Insets) (told : WritingMode) (dir : Direction) (inline : ℤ) (definite : Option ℤ)
    → own_shift (insets_in way insets) (in_mode (mode_of way) (record { mode = told; dir = dir; inline = inline; block = definite }))
    ≡ shift_turned (mode_of way) (own_shift insets (in_mode HorizontalTb (record { mode = told; dir = dir; inline = inline; block = definite })))
unfolding in_mode
own_turned (across orientation combine) insets told Ltr inline definite = refl
own_turned (across orientation combine) insets told Rtl inline definite = refl
own_turned down insets told Ltr inline definite = down_ltr (along_from insets.left insets.right inline) (over_from insets definite)
own_turned down insets told Rtl inline definite = down_rtl (along_from insets.right insets.left inline) (over_from insets definite)
own_turned (right orientation combine) insets told Ltr inline definite = down_ltr (along_from insets.left insets.right inline) (over_from insets definite)
own_turned (right orientation combine) insets told Rtl inline definite = down_rtl (along_from insets.right insets.left inline) (over_from insets definite)
own_turned (left orientation combine) insets told Ltr inline definite = left_ltr (along_from insets.left insets.right inline) (over_from insets definite)
own_turned (left orientation combine) insets told Rtl inline definite = left_rtl (along_from insets.right insets.left inline) (over_from insets definite)

none_turned : (way : Way) → no_shift ≡ shift_turned (mode_of way) no_shift
none_turned (across orientation combine) = refl
none_turned down = refl
none_turned (right orientation combine) = refl
none_turned (left orientation combine) = refl

plus_turned : (way : Way) (one other : Shift) → plus (shift_turned (mode_of way) one) (shift_turned (mode_of way) other) ≡ shift_turned (mode_of way) (plus one other)
plus_turned (across orientation combine) one other = refl
plus_turned down one other = shift_is _ _ (shift_turned VerticalRl (plus one other)) (omega (arith, ints)) refl
plus_turned (right orientation combine) one other = shift_is _ _ (shift_turned SidewaysRl (plus one other)) (omega (arith, ints)) refl
plus_turned (left orientation combine) one other = shift_is _ _ (shift_turned SidewaysLr (plus one other)) refl (omega (arith, ints))

shift_in_turned : (way : Way) (insets : Option Insets) (c : Option Containing)
    → shift_in (option_map (insets_in way) insets) (option_map (in_mode (mode_of way)) c) ≡ shift_turned (mode_of way) (shift_in insets (option_map (in_mode HorizontalTb) c))
shift_in_turned way None c = none_turned way
shift_in_turned way (Some insets) None = none_turned way
shift_in_turned way (Some insets) (Some c) = own_turned way insets c.mode c.dir c.inline c.block

and_own_turned : (way : Way) (is_it : Bool) (own around : Shift) → and_own is_it (shift_turned (mode_of way) own) (shift_turned (mode_of way) around) ≡ shift_turned (mode_of way) (and_own is_it own around)
and_own_turned way true own around = plus_turned way around own
and_own_turned way false own around = refl

module _ (way : Way) (page : Page) (root : HasRoot page.parts) where
  abbrev there : Page
  there = turned (mode_of way) page

  abbrev flat : Page
  flat = turned HorizontalTb page

  own_alike : (p : Position) → own there (position_in way p) ≡ shift_turned (mode_of way) (own flat p)
  own_alike p =
      ap (shift_in (option_map (insets_in way) p.insets)) (containing_alike (mode_of way) page root p.holder)
      ∙ shift_in_turned way p.insets (containing flat p.holder)
      ∙ ap (λ (c : Option Containing). shift_turned (mode_of way) (shift_in p.insets c)) (sym (containing_alike HorizontalTb page root p.holder))

  back_alike : (sought : Option ℕ) (back : List Position) → total_back there sought (map (position_in way) back) ≡ shift_turned (mode_of way) (total_back flat sought back)
  back_alike None [] = none_turned way
  back_alike None (p ∷ back) = none_turned way
  back_alike (Some node) [] = none_turned way
  back_alike (Some node) (p ∷ back) =
      let is_it = p.node == node in
      let sought = next_sought is_it node p.parent in
      ap (λ (s : Shift). and_own is_it s (total_back there sought (map (position_in way) back))) (own_alike p)
      ∙ ap (and_own is_it (shift_turned (mode_of way) (own flat p))) (back_alike sought back)
      ∙ and_own_turned way is_it (own flat p) (total_back flat sought back)

reverse_mapped : (f : Position → Position) (list : List Position) → reverse (map f list) ≡ map f (reverse list)
reverse_mapped f [] = refl
reverse_mapped f (p ∷ list) =
    reverse-append (f p ∷ []) (map f list)
    ∙ ap (λ (l : List Position). l ++ f p ∷ []) (reverse_mapped f list)
    ∙ sym (map-append f (reverse list) (p ∷ []))
    ∙ ap (map f) (sym (reverse-append (p ∷ []) list))

-- ---- fragments

moved_turned : (way : Way) (view : View) (by : Shift) (r : Rect) → moved (shift_turned (mode_of way) by) (rect_turned (mode_of way) view r) ≡ rect_turned (mode_of way) view (moved by r)
moved_turned (across orientation combine) view by r = refl
moved_turned down view by r = rect_is _ _ _ _ (rect_turned VerticalRl view (moved by r)) (omega (arith, ints)) refl refl refl
moved_turned (right orientation combine) view by r = rect_is _ _ _ _ (rect_turned SidewaysRl view (moved by r)) (omega (arith, ints)) refl refl refl
moved_turned (left orientation combine) view by r = rect_is _ _ _ _ (rect_turned SidewaysLr view (moved by r)) refl (omega (arith, ints)) refl refl

kind_twice : (mode : WritingMode) (kind : Kind) → kind_in mode kind ≡ kind_in mode (kind_in HorizontalTb kind)
kind_twice mode (block own dir content definite start end_ through) = refl
kind_twice mode (line index base own baseline) = refl
kind_twice mode span = refl
kind_twice mode (run form level natural units) = refl
kind_twice mode (measure min max) = refl

parts_turned : (way : Way) (view : View) (on_page in_flow : ℕ → Shift) → ((node : ℕ) → on_page node ≡ shift_turned (mode_of way) (in_flow node)) → (parts : Parts)
    → shifted on_page (turned_parts (mode_of way) view parts) ≡ turned_parts (mode_of way) view (shifted in_flow (turned_parts HorizontalTb view parts))
parts_turned way view on_page in_flow same none = refl
parts_turned way view on_page in_flow same (part name rect kind inner next) = λ i.
    part name
    ((ap (λ (by : Shift). moved by (rect_turned (mode_of way) view rect)) (same name.node) ∙ moved_turned way view (in_flow name.node) rect) i)
    (kind_twice (mode_of way) kind i)
    (parts_turned way view on_page in_flow same inner i)
    (parts_turned way view on_page in_flow same next i)

pub shifts_turn : ShiftsTurn
shifts_turn way page nodes root i = record {
  view = page.view;
  parts = parts_turned way page.view (total (turned (mode_of way) page) (positions_of (nodes_in way nodes))) (total (turned HorizontalTb page) (positions_of nodes))
      (λ node.
      ap (λ (list : List Position). total (turned (mode_of way) page) list node) (positions_turn way nodes)
      ∙ ap (total_back (turned (mode_of way) page) (Some node)) (reverse_mapped (position_in way) (positions_of nodes))
      ∙ back_alike way page root (Some node) (reverse (positions_of nodes)))
      page.parts i;
}
