-- Nodes by their places.
use Rattle.std.proofs.Common.{◌≡◌, ◌∙◌, ◌⊎◌, ℕ, ◌+◌, ◌<◌, ◌≤◌, List, ◌∷◌, ◌++◌, length, length-append, get_or, drop, refl, ap, sym, subst, arith, Option, Some, None, option_map, IfSome, inl, inr, ◌^◌}
use Rattle.std.proofs.Math.Nat.{lt_of_lt_of_le}
use Rattle.std.specs.List.{slice_get}
use Rattle.std.proofs.lemmas.List.{drop_all, drop_more, get_or_append_left}
use Rattle.std.proofs.lemmas.Bool.{cases_lt}
use Rattle.std.proofs.lemmas.Option.{slice_get-map, slice_get_read, slice_get_within, slice_get-get_or, get_or_from_slice_get}
use Rattle.html_read.specs.Shape.{IsShaped}
use Rattle.html_read.specs.declared.node.ReadNode.{ReadNode}
use Rattle.html_read.specs.Values.{Node, node_of, nodes_of}
use Rattle.dom_store.specs.Building.{FollowParents}
use Rattle.dom_store.specs.Opening.{greatest_count}

-- what was read at a place stands there
pub read_at : (reads : List ReadNode) (place : ℕ) (read : ReadNode) → place < length reads → read ≡ get_or reads place read → slice_get (nodes_of reads) place ≡ Some (node_of read)
read_at reads place read within is = slice_get-map node_of reads place ∙ ap (option_map node_of) (slice_get_read reads (length reads) place read refl within is)

-- the nodes from a place on begin with the one at it
pub drop_at : {X : Type 0} (xs : List X) (place : ℕ) (x : X) → slice_get xs place ≡ Some x → drop place xs ≡ x ∷ drop (place + 1) xs
drop_at xs place x is = drop_more xs place x (slice_get_within xs place x is) ∙ ap (λ y. y ∷ drop (place + 1) xs) (get_or_from_slice_get xs place x x is)

-- the elements before the end of the first list stay
pub slice_get_left : {X : Type 0} (xs ys : List X) (place : ℕ) (d : X) → place < length xs → slice_get (xs ++ ys) place ≡ slice_get xs place
slice_get_left xs ys place d within =
    let longer : place < length (xs ++ ys) = omega (arith, length-append xs ys) in
    slice_get-get_or (xs ++ ys) place d longer ∙ (ap Some (get_or_append_left xs ys d place within) ∙ sym (slice_get-get_or xs place d within))

-- a node's parent is one of those before it
pub parent_known : (reads : List ReadNode) (place known : ℕ) (d : ReadNode) → FollowParents (nodes_of reads) → place < length reads → place ≤ known → IfSome (get_or reads place d).parent (λ parent. parent < known)
parent_known reads place known d follow within enough = known_if (get_or reads place d).parent refl
  where
    here : slice_get (nodes_of reads) place ≡ Some (node_of (get_or reads place d))
    here = slice_get-map node_of reads place ∙ ap (option_map node_of) (slice_get-get_or reads place d within)

    known_if : (parent : Option ℕ) → (get_or reads place d).parent ≡ parent → IfSome parent (λ p. p < known)
    known_if None none = tt
    known_if (Some parent) some = lt_of_lt_of_le (follow.each place parent (node_of (get_or reads place d)) here some) enough

-- a node's parent has a number of 32 bits
pub parent_fits : (reads : List ReadNode) (place : ℕ) (read : ReadNode) → FollowParents (nodes_of reads) → place < length reads → length reads ≤ greatest_count → read ≡ get_or reads place read → IfSome read.parent (λ parent. parent < 2 ^ 32)
parent_fits reads place read follow within few is =
    let P : ReadNode → Type 0 = λ r. IfSome r.parent (λ parent. parent < 2 ^ 32) in
    subst P (sym is) (parent_known reads place (2 ^ 32) read follow within (omega arith))

-- what is left of a list begins with the element at this place
pub record BeginsAt {X : Type 0} (xs : List X) (place : ℕ) (x : X) (later : List X) : Type 0 where
  pub within : place < length xs
  pub is : x ≡ get_or xs place x
  pub rest : later ≡ drop (place + 1) xs

-- where a list from a place on is known, so is the element there
pub begins_at : {X : Type 0} (xs : List X) (place : ℕ) (x : X) (later : List X) → x ∷ later ≡ drop place xs → BeginsAt xs place x later
begins_at xs place x later left = elim (cases_lt place (length xs)) [
  | inl within ↦
      let both = drop_more xs place x within in
      record { within = within; is = cc; rest = cc }
  | inr past ↦
      let all = drop_all place xs past in
      absurd (cc)
]

-- a place is the first, the second or a later one
place_cases : (place : ℕ) → (place ≡ 0) ⊎ ((place ≡ 1) ⊎ (2 ≤ place))
place_cases place = elim (cases_lt place 2) [
  | inl low ↦ elim (cases_lt place 1) [
    | inl lower ↦ inl (omega arith)
    | inr one ↦ inr (inl (omega arith))
  ]
  | inr high ↦ inr (inr high)
]

-- in a document's shape each parent stands before its children
pub shape_follows : (nodes : List Node) → IsShaped nodes → FollowParents nodes
shape_follows nodes shaped = record { each = λ place parent node here stands. before place parent node (place_cases place) here stands }
  where
    before : (place parent : ℕ) (node : Node) → (place ≡ 0) ⊎ ((place ≡ 1) ⊎ (2 ≤ place)) → slice_get nodes place ≡ Some node → node.parent ≡ Some parent → parent < place
    before place parent node (inl first) here stands =
        let html = shaped.html.1 in
        absurd (cc)
    before place parent node (inr (inl second)) here stands =
        let body = shaped.body.1 in
        let same : parent ≡ 0 = cc in
        omega arith
    before place parent node (inr (inr later)) here stands =
        let (in_place, is, low, high, holder) = shaped.others place node later here in
        let same : parent ≡ in_place = cc in
        omega arith
