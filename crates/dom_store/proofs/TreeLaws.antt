-- The tree of nodes in document order, as a list.
use Rattle.std.proofs.Common.{◌≡◌, ◌≢◌, ◌∙◌, ℕ, zero, suc, ◌+◌, ◌<◌, Bool, true, false, List, [], ◌∷◌, ◌++◌, length, get_or, refl, ap, sym, subst, arith, append_assoc, Option, Some, None}
use Rattle.std.specs.Prelude.{⊤}
use Rattle.std.proofs.lemmas.Bool.{ne_eqb, eq-eqb}
use Rattle.html_read.specs.Values as html
use Rattle.html_read.specs.Values.{Node, Kind}
use Rattle.html_read.specs.Shape.{with_opened}
use Rattle.css_types.specs.declared.value.Declaration.{Declaration}
use Rattle.dom_store.specs.State.{What, Entry, State, tree_to, tree_with}
use Rattle.dom_store.specs.Opening.{children_from, put_if, stands_in, what_of}
use Rattle.dom_store.specs.Whole.{listed, listed_from}
use Rattle.dom_store.proofs.OpenElements.{AreBelow, Lacks, below_lacks, below_more, below_still, lacks_opened, lacks_still}

-- ---- nodes in document order, of which each stands in an element that is open

-- nodes from this place on, where no more than `most` may be within each other
abbrev pub Stands : (most : ℕ) (opened : List ℕ) (place : ℕ) → List Node → Type 0
Stands most opened place [] = ⊤
Stands most opened place (read ∷ nodes) = (closed : List ℕ) × (parent : ℕ) × (above : List ℕ) × (opened ≡ closed ++ parent ∷ above) × (read.parent ≡ Some parent)
    × (length (parent ∷ above) < most) × Stands most (with_opened read.kind place (parent ∷ above)) (place + 1) nodes

-- a node with this parent stands in no other
apart_from : (number parent : ℕ) (of : Option ℕ) → of ≡ Some parent → number ≢ parent → stands_in number of ≡ false
apart_from number parent of is other = ap (stands_in number) is ∙ ne_eqb number parent other

-- no more nodes stand in an element that isn't open
none_left : (most : ℕ) (nodes : List Node) (opened : List ℕ) (place number : ℕ) → Stands most opened place nodes → Lacks number opened → number < place → children_from place number nodes ≡ []
unfolding children_from
none_left most [] opened place number stands lacks before = refl
none_left most (read ∷ nodes) opened place number (closed, parent, above, parts, is, few, more) lacks before =
    let still : Lacks number (parent ∷ above) = lacks_still closed (parent ∷ above) number (subst (Lacks number) parts lacks) in
    ap (λ (b : Bool). put_if b place (children_from (place + 1) number nodes)) (apart_from number parent read.parent is still.0)
    ∙ none_left most nodes (with_opened read.kind place (parent ∷ above)) (place + 1) number more (lacks_opened read.kind place (parent ∷ above) number still before) (omega arith)

-- ---- what stands in the elements that are open

-- No nodes have no tree.
no_tree : (depth : ℕ) (state : State) (parent : Option ℕ) → listed parent (tree_to depth state []) ≡ []
unfolding tree_to listed
no_tree zero state parent = refl
no_tree (suc depth) state parent = refl

-- Of the nodes from a place on, those within the innermost of the elements that are open, down to this depth, then those
-- within the others, each to a level more.
abbrev left_in : (depth : ℕ) → State → (place : ℕ) → List Node → (opened : List ℕ) → List (ℕ × Option ℕ × What)
left_in depth state place nodes [] = []
left_in depth state place nodes (number ∷ opened) = listed (Some number) (tree_to depth state (children_from place number nodes)) ++ left_in (suc depth) state place nodes opened

-- an element in which nothing more stands is closed
close_one : (depth : ℕ) (state : State) (place : ℕ) (nodes : List Node) (number : ℕ) (opened : List ℕ) → children_from place number nodes ≡ []
    → left_in depth state place nodes (number ∷ opened) ≡ left_in (suc depth) state place nodes opened
close_one depth state place nodes number opened none =
    ap (λ (children : List ℕ). listed (Some number) (tree_to depth state children) ++ left_in (suc depth) state place nodes opened) none
    ∙ ap (λ (l : List (ℕ × Option ℕ × What)). l ++ left_in (suc depth) state place nodes opened) (no_tree depth state (Some number))

-- where no nodes are left, nothing is
nothing_left : (depth : ℕ) (state : State) (place : ℕ) (opened : List ℕ) → left_in depth state place [] opened ≡ []
unfolding children_from
nothing_left depth state place [] = refl
nothing_left depth state place (number ∷ opened) = close_one depth state place [] number opened refl ∙ nothing_left (suc depth) state place opened

-- the elements in which a node doesn't stand have what is left in them behind it
skip : (depth : ℕ) (state : State) (place : ℕ) (read : Node) (nodes : List Node) (parent : ℕ) (opened : List ℕ) → read.parent ≡ Some parent → AreBelow parent opened
    → left_in depth state place (read ∷ nodes) opened ≡ left_in depth state (place + 1) nodes opened
unfolding children_from
skip depth state place read nodes parent [] is below = refl
skip depth state place read nodes parent (number ∷ opened) is below =
    let apart : stands_in number read.parent ≡ false = apart_from number parent read.parent is (λ same. omega (arith, below.0, same)) in
    ap (λ (b : Bool). listed (Some number) (tree_to depth state (put_if b place (children_from (place + 1) number nodes))) ++ left_in (suc depth) state place (read ∷ nodes) opened) apart
    ∙ ap (λ (l : List (ℕ × Option ℕ × What)). listed (Some number) (tree_to depth state (children_from (place + 1) number nodes)) ++ l)
    (skip (suc depth) state place read nodes parent opened is (below_more opened number parent (omega (arith, below.0)) below.1))

-- the nodes from this place on live under their places, each with its children behind it
abbrev pub Live : State → List (List Declaration) → (place : ℕ) → List Node → Type 0
Live state own place [] = ⊤
Live state own place (read ∷ nodes) = (state.node_at place ≡ Some (record { parent = read.parent; children = children_from (place + 1) place nodes; what = what_of read.kind (get_or own place []) })) × Live state own (place + 1) nodes

module _ (most : ℕ) (state : State) (own : List (List Declaration)) where
  -- the elements that a node closes have nothing left in them
  record Closed (depth place : ℕ) (nodes : List Node) (opened still : List ℕ) : Type 0 where
    down : ℕ
    same_sum : down + length still ≡ depth + length opened
    same : left_in depth state place nodes opened ≡ left_in down state place nodes still

  close_all : (depth place : ℕ) (nodes : List Node) (closed still : List ℕ) → ((number : ℕ) → Lacks number still → number < place → children_from place number nodes ≡ [])
      → AreBelow place (closed ++ still) → Closed depth place nodes (closed ++ still) still
  close_all depth place nodes [] still none below = record { down = depth; same_sum = refl; same = refl }
  close_all depth place nodes (number ∷ closed) still none below =
      let further = close_all (suc depth) place nodes closed still none (below_more (closed ++ still) number place (omega (arith, below.0)) below.1) in
      let lacks : Lacks number still = lacks_still closed still number (below_lacks (closed ++ still) number number below.1 (omega arith)) in
      record {
        down = further.down;
        same_sum = omega (arith, further.same_sum);
        same = close_one depth state place nodes number (closed ++ still) (none number lacks below.0) ∙ further.same;
      }

  -- the first node that is left stands before what is within it
  first_left : (depth place : ℕ) (read : Node) (nodes : List Node) (parent : ℕ) (above : List ℕ) → read.parent ≡ Some parent → AreBelow parent above → Live state own place (read ∷ nodes)
      → left_in (suc depth) state place (read ∷ nodes) (parent ∷ above) ≡ (place, read.parent, what_of read.kind (get_or own place [])) ∷ left_in depth state (place + 1) nodes (place ∷ parent ∷ above)
  unfolding children_from tree_to listed
  first_left depth place read nodes parent above is below live =
      let what : What = what_of read.kind (get_or own place []) in
      let inner : List (ℕ × Option ℕ × What) = listed (Some place) (tree_to depth state (children_from (place + 1) place nodes)) in
      let later = children_from (place + 1) parent nodes in
      let beside : List (ℕ × Option ℕ × What) = listed (Some parent) (tree_to (suc depth) state later) in
      let others : List (ℕ × Option ℕ × What) = left_in (suc (suc depth)) state place (read ∷ nodes) above in
      let further : List (ℕ × Option ℕ × What) = left_in (suc (suc depth)) state (place + 1) nodes above in
      let here : stands_in parent read.parent ≡ true = ap (stands_in parent) is ∙ eq-eqb parent parent refl in
      ap (λ (b : Bool). listed (Some parent) (tree_to (suc depth) state (put_if b place later)) ++ others) here
      ∙ (ap (λ (e : Option Entry). listed (Some parent) (tree_with e place (tree_to depth state) (tree_to (suc depth) state later)) ++ others) live.0
      ∙ (ap (λ (l : List (ℕ × Option ℕ × What)). (place, Some parent, what) ∷ (inner ++ beside) ++ l) (skip (suc (suc depth)) state place read nodes parent above is below)
      ∙ (ap (λ (p : Option ℕ). (place, p, what) ∷ (inner ++ beside) ++ further) (sym is)
      ∙ ap (λ (l : List (ℕ × Option ℕ × What)). (place, read.parent, what) ∷ l) (append_assoc inner beside further))))

  -- whatever is open, down to the depth that is left the nodes are those that stand in it
  abbrev AreListed : (place : ℕ) → List Node → Type 0
  AreListed place nodes = (depth : ℕ) (opened : List ℕ) → depth + length opened ≡ most → Stands most opened place nodes → AreBelow place opened
      → listed_from place nodes own ≡ left_in depth state place nodes opened

  -- behind a node, which is opened if it is an element
  behind : (kind : Kind) (depth place : ℕ) (nodes : List Node) (still : List ℕ) → depth + length (place ∷ still) ≡ most → Stands most (with_opened kind place still) (place + 1) nodes
      → AreBelow place still → AreListed (place + 1) nodes → listed_from (place + 1) nodes own ≡ left_in depth state (place + 1) nodes (place ∷ still)
  behind (html.element tag acting) depth place nodes still sum stands below are = are depth (place ∷ still) sum stands (omega arith, below)
  behind (html.text letters) depth place nodes still sum stands below are =
      let none : children_from (place + 1) place nodes ≡ [] = none_left most nodes still (place + 1) place stands (below_lacks still place place below (omega arith)) (omega arith) in
      let rest : suc depth + length still ≡ most = omega (arith, sum) in
      are (suc depth) still rest stands (below_more still place (place + 1) (omega arith) below) ∙ sym (close_one depth state (place + 1) nodes place still none)

  -- a node whose parent is the innermost of those that are open
  at_node : (depth place : ℕ) (read : Node) (nodes : List Node) (parent : ℕ) (above : List ℕ) → read.parent ≡ Some parent → AreBelow place (parent ∷ above)
      → depth + length (parent ∷ above) ≡ most → length (parent ∷ above) < most → Live state own place (read ∷ nodes) → Stands most (with_opened read.kind place (parent ∷ above)) (place + 1) nodes
      → AreListed (place + 1) nodes → listed_from place (read ∷ nodes) own ≡ left_in depth state place (read ∷ nodes) (parent ∷ above)
  unfolding listed_from
  at_node zero place read nodes parent above is below sum few live stands are = absurd (omega (arith, sum, few))
  at_node (suc depth) place read nodes parent above is below sum few live stands are =
      let rest : depth + length (place ∷ parent ∷ above) ≡ most = omega (arith, sum) in
      ap (λ (l : List (ℕ × Option ℕ × What)). (place, read.parent, what_of read.kind (get_or own place [])) ∷ l) (behind read.kind depth place nodes (parent ∷ above) rest stands below are)
      ∙ sym (first_left depth place read nodes parent above is below.1 live)

  all_listed : (nodes : List Node) (place : ℕ) → Live state own place nodes → AreListed place nodes
  unfolding listed_from children_from
  all_listed [] place live depth opened sum stands below = sym (nothing_left depth state place opened)
  all_listed (read ∷ nodes) place live depth opened sum (closed, parent, above, parts, is, few, more) below =
      let still : AreBelow place (closed ++ parent ∷ above) = subst (AreBelow place) parts below in
      let none = λ (number : ℕ) (lacks : Lacks number (parent ∷ above)) (before : number < place).
      none_left most (read ∷ nodes) (parent ∷ above) place number ([], parent, above, refl, is, few, more) lacks before in
      let ends = close_all depth place (read ∷ nodes) closed (parent ∷ above) none still in
      let left : ends.down + length (parent ∷ above) ≡ most = ends.same_sum ∙ (ap (λ (l : List ℕ). depth + length l) (sym parts) ∙ sum) in
      at_node ends.down place read nodes parent above is (below_still closed (parent ∷ above) place still) left few live more (all_listed nodes (place + 1) live.1)
      ∙ (sym ends.same ∙ ap (left_in depth state place (read ∷ nodes)) (sym parts))

  -- the nodes of a tree whose first node is the first that was read, and alone at the top
  pub first_listed : (depth : ℕ) (first : Node) (nodes : List Node) → first.parent ≡ None → suc depth ≡ most → Live state own 0 (first ∷ nodes) → Stands most (0 ∷ []) 1 nodes
      → listed None (tree_to (suc depth) state (0 ∷ [])) ≡ listed_from 0 (first ∷ nodes) own
  unfolding tree_to listed listed_from
  first_listed depth first nodes alone sum live stands =
      let what : What = what_of first.kind (get_or own 0 []) in
      let inner : List (ℕ × Option ℕ × What) = listed (Some 0) (tree_to depth state (children_from 1 0 nodes)) in
      let are : listed_from 1 nodes own ≡ inner ++ [] = all_listed nodes 1 live.1 depth (0 ∷ []) (omega (arith, sum)) stands (omega arith, tt) in
      ap (λ (e : Option Entry). listed None (tree_with e 0 (tree_to depth state) (tree_to (suc depth) state []))) live.0
      ∙ (ap (λ (l : List (ℕ × Option ℕ × What)). (0, None, what) ∷ l) (sym are)
      ∙ ap (λ (p : Option ℕ). (0, p, what) ∷ listed_from 1 nodes own) (sym alone))
