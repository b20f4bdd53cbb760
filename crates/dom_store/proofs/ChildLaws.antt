-- Lists of children, as they grow.
use Rattle.std.proofs.Common.{◌≡◌, ◌≢◌, ◌∙◌, ℕ, ◌+◌, ◌<◌, Bool, true, false, List, [], ◌∷◌, ◌++◌, length, get_or, take, map, set, refl, ap, sym, arith, Some, inl, inr}
use Rattle.std.specs.List.{slice_get}
use Rattle.std.specs.Global.{Vec}
use Rattle.std.proofs.lemmas.Bool.Decides.{eqb_tells}
use Rattle.std.proofs.lemmas.List.{append-nil, length-map, length-take-le, map-set, get_or-map, get_or-set_same, get_or-set_other, take_more}
use Rattle.std.proofs.lemmas.Option.{slice_get_within, get_or_from_slice_get}
use Rattle.html_read.specs.Values.{Node}
use Rattle.dom_store.specs.Building.{numbers_at}
use Rattle.dom_store.specs.Opening.{children_from, put_if, stands_in}

pub put_before : (b : Bool) (at : ℕ) (some more : List ℕ) → put_if b at (some ++ more) ≡ put_if b at some ++ more
put_before true at some more = refl
put_before false at some more = refl

-- the children among one node more
pub children_more : (at place : ℕ) (nodes : List Node) (node : Node) → children_from at place (nodes ++ node ∷ []) ≡ children_from at place nodes ++ put_if (stands_in place node.parent) (at + length nodes) []
unfolding children_from
children_more at place [] node = ap (λ (n : ℕ). put_if (stands_in place node.parent) n []) (omega arith)
children_more at place (first ∷ nodes) node =
    let later : at + 1 + length nodes ≡ at + length (first ∷ nodes) = omega arith in
    let b = stands_in place first.parent in
    let more = put_if (stands_in place node.parent) (at + length (first ∷ nodes)) [] in
    ap (put_if b at) (children_more (at + 1) place nodes node ∙ ap (λ (n : ℕ). children_from (at + 1) place nodes ++ put_if (stands_in place node.parent) n []) later) ∙ put_before b at (children_from (at + 1) place nodes) more

-- no children among no nodes
pub no_children : (first place : ℕ) → children_from first place [] ≡ []
unfolding children_from
no_children first place = refl

-- the children among the nodes up to the one at this place
pub children_up_to : (nodes : List Node) (first at place : ℕ) (node : Node) → slice_get nodes at ≡ Some node → children_from first place (take (at + 1) nodes) ≡ children_from first place (take at nodes) ++ put_if (stands_in place node.parent) (first + at) []
children_up_to nodes first at place node here =
    let within : at < length nodes = slice_get_within nodes at node here in
    let count : first + length (take at nodes) ≡ first + at = omega (arith, length-take-le at nodes (omega arith)) in
    let more : take (at + 1) nodes ≡ take at nodes ++ node ∷ [] = take_more nodes at node within ∙ ap (λ (n : Node). take at nodes ++ n ∷ []) (get_or_from_slice_get nodes at node node here) in
    ap (children_from first place) more ∙ (children_more first place (take at nodes) node ∙ ap (λ (n : ℕ). children_from first place (take at nodes) ++ put_if (stands_in place node.parent) n []) count)

module _ (lists : List (Vec ℕ)) (parent child : ℕ) (was is : Vec ℕ) (within : parent < length lists) (before : was ≡ get_or lists parent was) (grown : is.items ≡ was.items ++ child ∷ []) where
  put_same : numbers_at (set lists parent is) parent ≡ numbers_at lists parent ++ child ∷ []
  put_same =
      let items = λ (list : Vec ℕ). list.items in
      let longer : parent < length (map items lists) = omega (arith, length-map lists items) in
      ap (λ all. get_or all parent []) (map-set items lists parent is) ∙ (get_or-set_same (map items lists) parent is.items [] longer
      ∙ (grown ∙ ap (λ list. list ++ child ∷ []) (ap items before ∙ sym (get_or-map items lists parent was [] within))))

  put_other : (place : ℕ) → place ≢ parent → numbers_at (set lists parent is) place ≡ numbers_at lists place
  put_other place apart =
      let items = λ (list : Vec ℕ). list.items in
      ap (λ all. get_or all place []) (map-set items lists parent is) ∙ get_or-set_other (map items lists) parent place is.items [] apart

  -- a number is put last into one list
  pub put_at : (place : ℕ) → numbers_at (set lists parent is) place ≡ numbers_at lists place ++ put_if (stands_in place (Some parent)) child []
  put_at place = elim (eqb_tells place parent) [
    | inl (true_here, same) ↦ rw true_here (rw same put_same)
    | inr (false_here, apart) ↦ rw false_here (put_other place apart ∙ sym (append-nil (numbers_at lists place)))
  ]
