-- The pairs that are met in the layout of a page, told by names and by keys.
use Rattle.std.proofs.Common.{◌≡◌, refl, sym, ap, ap₂, subst, arith, ℕ, zero, Bool, true, false, List, [], ◌∷◌, ◌++◌, Option, Some, None, inl, inr}
use Rattle.std.specs.Prelude.{◌⊎◌, ◌&&◌, Contains, IfSome, if◌then◌else◌, nat_eq}
use Rattle.std.specs.Option.{option_cmp}
use Rattle.std.specs.Ordering.{int_cmp, is_eq, ordering_then}
use Rattle.std.specs.declared.cmp.Ordering.{Ordering}
use Rattle.std.specs.declared.cmp.Ordering.TheVariants.{Less, Equal, Greater}
use Rattle.std.proofs.lemmas.Bool.{and_parts, eqb-true}
use Rattle.std.proofs.lemmas.List.Elements.{Contains-append_cases, Contains-append_left, Contains-append_right}
use Rattle.slab.proofs.SlabLemmas.{Contains-cons, Contains-cons_cases}
use Rattle.face_api.specs.Table.{Table}
use Rattle.wm_modes.specs.Mode.{is_horizontal}
use Rattle.wm_units.specs.declared.view.View.{View}
use Rattle.fragment_types.specs.declared.constraint.Constraint.{Constraint}
use Rattle.fragment_types.specs.declared.item.BoxName.{BoxName}
use Rattle.box_arena.specs.At.{Node, Slots, first_at, next_at, node_at}
use Rattle.box_arena.specs.Boxes.{StandFrom}
use Rattle.box_arena.proofs.Sizes.{same_constraint}
use Rattle.box_gen.specs.Places.{IsAmong, IsPlaceOf, Place, names}
use Rattle.box_gen.specs.Tree.{Boxes, box, none as no_boxes}
use Rattle.style_types.specs.declared.style.Style.{Style}
use Rattle.para_prepare.specs.Preparation.{Preparation}
use Rattle.relayout.specs.declared.sizes.Containing.{Containing}
use Rattle.relayout.specs.Asks.{Pair, asks, contributes_under, each_once, is_among, met, put_under, same_pair, same_size, those_under}
use Rattle.relayout.specs.Counts.{EachMet}
use Rattle.relayout.specs.Flow.{on_page}
use Rattle.relayout.specs.Inline.{Outside}
use Rattle.relayout.specs.Sizes.{containing_of}
use Rattle.relayout.specs.Step.{under}
use Rattle.relayout.proofs.Counting.{stands_head}
use Rattle.relayout.proofs.PagePlaces.{node_of_place}

-- ---- among the others

pub contains_head : {A : Type 0} (x y : A) (xs : List A) → x ≡ y → Contains (x ∷ xs) y
contains_head x y xs is = (zero, omega arith, is)

pub contains_none : {A : Type 0} (x : A) → Contains [] x → ⊥
contains_none x (n, short, is) = absurd (omega (arith, short))

one_of_four : {A : Type 0} (x : A) (xs ys zs : List A) (y : A) (R : Type 0) → (x ≡ y → R) → (Contains xs y → R) → (Contains ys y → R) → (Contains zs y → R) → Contains (x ∷ (xs ++ (ys ++ zs))) y → R
one_of_four {A} x xs ys zs y R first second third fourth there = by (Contains-cons_cases x y (xs ++ (ys ++ zs)) there) where
  behind : Contains ys y ⊎ Contains zs y → R
  behind (inl in_ys) = third in_ys
  behind (inr in_zs) = fourth in_zs

  later : Contains xs y ⊎ Contains (ys ++ zs) y → R
  later (inl in_xs) = second in_xs
  later (inr others) = behind (Contains-append_cases ys zs y others)

  by : (x ≡ y) ⊎ Contains (xs ++ (ys ++ zs)) y → R
  by (inl is) = first is
  by (inr others) = later (Contains-append_cases xs (ys ++ zs) y others)

-- ---- each pair once

tied_then : (one other : Ordering) → is_eq one ≡ true → is_eq other ≡ true → is_eq (ordering_then one other) ≡ true
tied_then Less other tied also = absurd (cc)
tied_then Equal other tied also = also
tied_then Greater other tied also = absurd (cc)

abbrev pair_of : BoxName → Constraint → Pair
pair_of name constraint = record { name = name; constraint = constraint }

abbrev name_of : (node ordinal : ℕ) → BoxName
name_of node ordinal = record { node = node; ordinal = ordinal }

-- the test of pairs tells whether they are the same
same_pairs : (one other : Pair) → same_pair one other ≡ true → one ≡ other
same_pairs one other same =
    let same_node : Bool = nat_eq one.name.node other.name.node in
    let same_ordinal : Bool = nat_eq one.name.ordinal other.name.ordinal in
    let same_inline : Bool = same_size one.constraint.inline other.constraint.inline in
    let (first, block_size) = and_parts (same_node && same_ordinal && same_inline) (same_size one.constraint.block other.constraint.block) same in
    let (names, inline_size) = and_parts (same_node && same_ordinal) same_inline first in
    let (nodes, ordinals) = and_parts same_node same_ordinal names in
    let tied = tied_then (option_cmp int_cmp one.constraint.inline other.constraint.inline) (option_cmp int_cmp one.constraint.block other.constraint.block) inline_size block_size in
    ap₂ pair_of (ap₂ name_of (eqb-true one.name.node other.name.node nodes) (eqb-true one.name.ordinal other.name.ordinal ordinals)) (same_constraint one.constraint other.constraint tied)

pub among_contained : (pair : Pair) (pairs : List Pair) → is_among pair pairs ≡ true → Contains pairs pair
among_contained pair [] among = absurd (cc)
among_contained pair (other ∷ pairs) among = by (same_pair pair other) refl (among_contained pair pairs) among where
  by : (b : Bool) → same_pair pair other ≡ b → (is_among pair pairs ≡ true → Contains pairs pair) → (if b then true else is_among pair pairs) ≡ true → Contains (other ∷ pairs) pair
  by true same below is = contains_head other pair pairs (sym (same_pairs pair other same))
  by false same below is = Contains-cons other pair pairs (below is)

-- each pair that is met is among those once
pub contained_once : (pairs : List Pair) (pair : Pair) → Contains pairs pair → Contains (each_once pairs) pair
contained_once [] pair there = absurd (contains_none pair there)
contained_once (other ∷ pairs) pair there = by (is_among other (each_once pairs)) refl (Contains-cons_cases other pair pairs there) (contained_once pairs pair) where
  by : (b : Bool) → is_among other (each_once pairs) ≡ b → (other ≡ pair) ⊎ Contains pairs pair → (Contains pairs pair → Contains (each_once pairs) pair)
      → Contains (if b then each_once pairs else other ∷ each_once pairs) pair
  by true among (inl is) below = let P : Pair → Type 0 = λ p. Contains (each_once pairs) p in subst P is (among_contained other (each_once pairs) among)
  by true among (inr behind) below = below behind
  by false among (inl is) below = contains_head other pair (each_once pairs) is
  by false among (inr behind) below = Contains-cons other pair (each_once pairs) (below behind)

-- and no other
pub contained_often : (pairs : List Pair) (pair : Pair) → Contains (each_once pairs) pair → Contains pairs pair
contained_often [] pair there = there
contained_often (other ∷ pairs) pair there = by (is_among other (each_once pairs)) there (contained_often pairs pair) where
  by : (b : Bool) → Contains (if b then each_once pairs else other ∷ each_once pairs) pair → (Contains (each_once pairs) pair → Contains pairs pair) → Contains (other ∷ pairs) pair
  by true there below = Contains-cons other pair pairs (below there)
  by false there below = at (Contains-cons_cases other pair (each_once pairs) there) below where
    at : (other ≡ pair) ⊎ Contains (each_once pairs) pair → (Contains (each_once pairs) pair → Contains pairs pair) → Contains (other ∷ pairs) pair
    at (inl is) below = contains_head other pair pairs is
    at (inr behind) below = Contains-cons other pair pairs (below behind)

-- ---- the names of pairs

-- the names of boxes that are met are those of the boxes
those_named : (o : Option Constraint) (below : Constraint → List Pair) (among : List BoxName) (pair : Pair) → ((c : Constraint) → Contains (below c) pair → Contains among pair.name)
    → Contains (those_under o below) pair → Contains among pair.name
those_named None below among pair each there = absurd (contains_none pair there)
those_named (Some c) below among pair each there = each c there

met_named : (outside : Outside) (containing : Containing) (row : Boxes) (c : Constraint) (pair : Pair) → Contains (met outside containing row c) pair → Contains (names row) pair.name
met_named outside containing no_boxes c pair there = absurd (contains_none pair there)
met_named outside containing (box name style content inner next) c pair there =
    let node : Node = record { name = name; style = style; content = content } in
    let own : Pair = record { name = name; constraint = c } in
    let below : Constraint → List Pair = met outside (containing_of style) inner in
    let all : List BoxName = name ∷ (names inner ++ names next) in
    let inside : (d : Constraint) → Contains (below d) pair → Contains all pair.name =
    λ d among. Contains-cons name pair.name (names inner ++ names next) (Contains-append_left (names inner) (names next) pair.name (met_named outside (containing_of style) inner d pair among)) in
    one_of_four own (those_under (contributes_under containing node c) below) (those_under (put_under outside containing node c inner) below) (met outside containing next c) pair (Contains all pair.name)
    (λ same. contains_head name pair.name (names inner ++ names next) (ap (λ (p : Pair). p.name) same))
    (those_named (contributes_under containing node c) below all pair inside)
    (those_named (put_under outside containing node c inner) below all pair inside)
    (λ behind. Contains-cons name pair.name (names inner ++ names next) (Contains-append_right (names inner) (names next) pair.name (met_named outside containing next c pair behind)))
    there

among_more : (name : BoxName) (inner next : List BoxName) (other : BoxName) → Contains (name ∷ (inner ++ [])) other → Contains (name ∷ (inner ++ next)) other
among_more name inner next other there = by (Contains-cons_cases name other (inner ++ []) there) where
  inside : Contains inner other ⊎ Contains [] other → Contains (name ∷ (inner ++ next)) other
  inside (inl among) = Contains-cons name other (inner ++ next) (Contains-append_left inner next other among)
  inside (inr never) = absurd (contains_none other never)

  by : (name ≡ other) ⊎ Contains (inner ++ []) other → Contains (name ∷ (inner ++ next)) other
  by (inl same) = contains_head name other (inner ++ next) same
  by (inr behind) = inside (Contains-append_cases inner [] other behind)

-- a pair that is met in the layout of a page has the name of one of its boxes
pub asked_named : (faces : List (Option Table)) (view : View) (page : Boxes) (pair : Pair) → Contains (asks faces view page) pair → Contains (names page) pair.name
asked_named faces view no_boxes pair there = absurd (contains_none pair there)
asked_named faces view (box name style content inner next) pair there =
    let outside = on_page (is_horizontal style.mode) faces view.inline view.block in
    let c = under (Some view.inline) (Some view.block) in
    let alone : Boxes = box name style content inner no_boxes in
    among_more name (names inner) (names next) pair.name
    (met_named outside (containing_of style) alone c pair (contained_often (met outside (containing_of style) alone c) pair there))

-- ---- what holds of all that is met

if_those : (o : Option Constraint) (below : Constraint → List Pair) (Q : Pair → Type 0) (E : Constraint → Type 0) → ((d : Constraint) → ((pair : Pair) → Contains (below d) pair → Q pair) → E d)
    → ((pair : Pair) → Contains (those_under o below) pair → Q pair) → IfSome o E
if_those None below Q E on each = tt
if_those (Some d) below Q E on each = on d each

of_those : (o : Option Constraint) (below : Constraint → List Pair) (pair : Pair) (R : Type 0) (E : Constraint → Type 0) → ((d : Constraint) → E d → Contains (below d) pair → R)
    → IfSome o E → Contains (those_under o below) pair → R
of_those None below pair R E on holds there = absurd (contains_none pair there)
of_those (Some d) below pair R E on holds there = on d holds there

-- P holds under each key under which there is a box of this name
abbrev pub HoldsFor : (slots : Slots Preparation) (P : ℕ → Constraint → Type 0) → Pair → Type 0
HoldsFor slots P pair = (key : ℕ) (node : Node) → node_at slots key ≡ Some node → node.name ≡ pair.name → P key pair.constraint

-- a place of a page, with its key, of this name, and P holds of the key
pub record MetAt (slots : Slots Preparation) (page : Boxes) (P : ℕ → Constraint → Type 0) (pair : Pair) : Type 0 where
  pub place : Place
  pub among : IsPlaceOf page place
  pub name : place.name ≡ pair.name
  pub key : ℕ
  pub there : node_at slots key ≡ Some (node_of_place place)
  pub holds : P key pair.constraint

module _ (slots : Slots Preparation) (outside : Outside) (P Goes : ℕ → Constraint → Type 0) where
  -- what holds of the boxes of the names that are met, holds of all that is met
  pub each_by_name : (from : Option ℕ) (containing : Containing) (row : Boxes) (c : Constraint) → StandFrom slots from row
      → ((pair : Pair) → Contains (met outside containing row c) pair → HoldsFor slots P pair) → EachMet P Goes outside slots from containing row c
  each_by_name from containing no_boxes c stand each = tt
  each_by_name from containing (box name style content inner next) c stand each = λ key is.
      let (there, within, behind) = stands_head slots from key name style content inner next is stand in
      let node : Node = record { name = name; style = style; content = content } in
      let own : Pair = record { name = name; constraint = c } in
      let below : Constraint → List Pair = met outside (containing_of style) inner in
      let asked : List Pair = those_under (contributes_under containing node c) below in
      let put : List Pair = those_under (put_under outside containing node c inner) below in
      let after : List Pair = met outside containing next c in
      let E : Constraint → Type 0 = λ d. EachMet P Goes outside slots (first_at slots key) (containing_of style) inner d in
      let on : (d : Constraint) → ((pair : Pair) → Contains (below d) pair → HoldsFor slots P pair) → E d = λ d. each_by_name (first_at slots key) (containing_of style) inner d within in (
        each own (contains_head own own (asked ++ (put ++ after)) refl) key node there refl,
        (λ goes. (
          if_those (contributes_under containing node c) below (HoldsFor slots P) E on (λ pair in_asked. each pair (Contains-cons own pair (asked ++ (put ++ after)) (Contains-append_left asked (put ++ after) pair in_asked))),
          if_those (put_under outside containing node c inner) below (HoldsFor slots P) E on
              (λ pair in_put. each pair (Contains-cons own pair (asked ++ (put ++ after)) (Contains-append_right asked (put ++ after) pair (Contains-append_left put after pair in_put)))),
        )),
        each_by_name (next_at slots key) containing next c behind
            (λ pair in_after. each pair (Contains-cons own pair (asked ++ (put ++ after)) (Contains-append_right asked (put ++ after) pair (Contains-append_right put after pair in_after)))),
      )

  -- what holds of all that is met, holds for each pair at a place of its name
  pub each_has_place : (page : Boxes) → ((key : ℕ) (c : Constraint) → Goes key c) → (from : Option ℕ) (around : Option Style) (containing : Containing) (row : Boxes) (c : Constraint) → StandFrom slots from row
      → ((place : Place) → IsAmong around row place → IsPlaceOf page place) → EachMet P Goes outside slots from containing row c → (pair : Pair) → Contains (met outside containing row c) pair → MetAt slots page P pair
  each_has_place page goes from around containing no_boxes c stand inside each pair met_there = absurd (contains_none pair met_there)
  each_has_place page goes from around containing (box name style content inner next) c (key, is, there, within, behind) inside each pair met_there =
      let (here, under_it, after_it) = each key is in
      let node : Node = record { name = name; style = style; content = content } in
      let own : Pair = record { name = name; constraint = c } in
      let place : Place = record { around = around; name = name; style = style; content = content; inner = inner } in
      let below : Constraint → List Pair = met outside (containing_of style) inner in
      let both = under_it (goes key c) in
      let M : Pair → Type 0 = λ p. MetAt slots page P p in
      let E : Constraint → Type 0 = λ d. EachMet P Goes outside slots (first_at slots key) (containing_of style) inner d in
      let on : (d : Constraint) → E d → Contains (below d) pair → M pair = λ d holds.
      each_has_place page goes (first_at slots key) (Some style) (containing_of style) inner d within (λ p among. inside p (inr (inl among))) holds pair in
      one_of_four own (those_under (contributes_under containing node c) below) (those_under (put_under outside containing node c inner) below) (met outside containing next c) pair (M pair)
      (λ same. subst M same (record { place = place; among = inside place (inl refl); name = refl; key = key; there = there; holds = here }))
      (of_those (contributes_under containing node c) below pair (M pair) E on both.0)
      (of_those (put_under outside containing node c inner) below pair (M pair) E on both.1)
      (each_has_place page goes (next_at slots key) around containing next c behind (λ p among. inside p (inr (inr among))) after_it pair)
      met_there
