-- Documents into which nodes are inserted.
use Rattle.std.proofs.Common.{◌≡◌, ◌≢◌, ◌∙◌, ℕ, ◌+◌, ◌-◌, ◌<◌, ◌≤◌, Bool, true, false, List, [], ◌∷◌, ◌++◌, length, map, get_or, drop, refl, ap, sym, subst, arith, Option, Some, None, option_map, if◌then◌else◌, inl, inr}
use Rattle.std.specs.Prelude.{◌^◌, nat_eq, nat_lt, is_none, is_some, not, unwrap_or, IfSome, OnErr, Result, Ok, Err}
use Rattle.std.specs.List.{slice_get}
use Rattle.std.specs.Global.{Vec}
use Rattle.std.proofs.lemmas.Bool.{cases_eq, cases_lt, eq-eqb, le-ltb, lt-ltb, ne_eqb}
use Rattle.std.proofs.lemmas.Bool.Decides.{nat_tests}
use Rattle.std.proofs.lemmas.List.{append_assoc, get_or-map, length-map}
use Rattle.std.proofs.lemmas.Option.{slice_get-map, slice_get_past}
use Rattle.html_read.specs.Shape.{IsFragmentShaped}
use Rattle.html_read.specs.Values.{Node, node_of, nodes_of, kind_of}
use Rattle.html_read.specs.declared.node.ReadNode.{ReadNode}
use Rattle.css_types.specs.declared.value.Declaration.{Declaration}
use Rattle.dom_store.specs.Building.{FollowParents, Grows, IsFilledFrom, added_under, numbers_at, tops_from, with_next}
use Rattle.dom_store.specs.Edits.{changed, insert, inserted, inserted_at, parent_under, under, with_children, with_parent, with_put, without_nodes}
use Rattle.dom_store.specs.Opening.{children_from, put_if, stands_in, what_of}
use Rattle.dom_store.specs.Refusals.{refusal}
use Rattle.dom_store.specs.Standing.{children_at}
use Rattle.dom_store.specs.declared.node.Node as code_node
use Rattle.dom_store.specs.State.{Entry, State, entry_of}
use Rattle.dom_store.proofs.ChildLaws.{put_before}
use Rattle.dom_store.proofs.JudgeLaws.{Enters, enters}
use Rattle.dom_store.proofs.Places.{drop_at, parent_known, read_at}
use Rattle.dom_store.proofs.SameLaws.{are_equal}

-- in a fragment's shape each parent stands before its children
pub fragment_follows : (nodes : List Node) → IsFragmentShaped nodes → FollowParents nodes
fragment_follows nodes shaped = record {
  each = λ place parent node here stands. elim (shaped.each place node here) [
    | inl none ↦ let bad : Some parent ≡ None = sym stands ∙ none in absurd (cc)
    | inr (in_place, is, low, before, holder) ↦ let same : parent ≡ in_place = cc in omega (arith, same, before)
  ];
}

-- ---- children

shifted : (next place other : ℕ) (b : Bool) → nat_eq place other ≡ b → nat_eq (next + place) (next + other) ≡ b
shifted next place other b is = grind (arith, nat_tests, is)

module _ (parent next : ℕ) (low : parent < next) where
  stands_as : (place : ℕ) (o : Option ℕ) → stands_in (next + place) (Some (parent_under parent next o)) ≡ stands_in place o
  stands_as place None = ne_eqb (next + place) parent (λ same. omega (arith, low, same))
  stands_as place (Some other) = shifted next place other (nat_eq place other) refl

  -- the children of an inserted node
  pub children_under : (at place : ℕ) (nodes : List Node) → children_from at (next + place) (under parent next nodes) ≡ children_from at place nodes
  unfolding children_from
  children_under at place [] = refl
  children_under at place (node ∷ nodes) =
      ap (λ (b : Bool). put_if b at (children_from (at + 1) (next + place) (under parent next nodes))) (stands_as place node.parent)
      ∙ ap (put_if (stands_in place node.parent) at) (children_under (at + 1) place nodes)

  stands_at_top : (o : Option ℕ) → stands_in parent (Some (parent_under parent next o)) ≡ is_none o
  stands_at_top None = eq-eqb parent parent refl
  stands_at_top (Some other) = ne_eqb parent (next + other) (λ same. omega (arith, low, same))

  -- the new children of the node in which they stand
  pub tops_under : (at : ℕ) (nodes : List Node) → children_from at parent (under parent next nodes) ≡ tops_from at nodes
  unfolding children_from tops_from
  tops_under at [] = refl
  tops_under at (node ∷ nodes) =
      ap (λ (b : Bool). put_if b at (children_from (at + 1) parent (under parent next nodes))) (stands_at_top node.parent)
      ∙ ap (put_if (is_none node.parent) at) (tops_under (at + 1) nodes)

top_is : (o : Option ℕ) (b : Bool) → is_some o ≡ not b → is_none o ≡ b
top_is None true is = refl
top_is None false is = absurd cc
top_is (Some place) true is = absurd cc
top_is (Some place) false is = refl

-- one node more
pub tops_more : (first place : ℕ) (nodes : List Node) (node : Node) (before all : List ℕ) (b : Bool) → slice_get nodes place ≡ Some node → is_some node.parent ≡ not b → before ++ tops_from (first + place) (drop place nodes) ≡ all
    → (before ++ put_if b (first + place) []) ++ tops_from (first + (place + 1)) (drop (place + 1) nodes) ≡ all
unfolding tops_from
tops_more first place nodes node before all b here is known =
    let later = tops_from (first + (place + 1)) (drop (place + 1) nodes) in
    let onward : first + (place + 1) ≡ first + place + 1 = omega arith in
    append_assoc before (put_if b (first + place) []) later
    ∙ (ap (λ (l : List ℕ). before ++ l) (sym (put_before b (first + place) [] later)
    ∙ (ap (λ (n : ℕ). put_if b (first + place) (tops_from n (drop (place + 1) nodes))) onward
    ∙ (ap (λ (c : Bool). put_if c (first + place) (tops_from (first + place + 1) (drop (place + 1) nodes))) (sym (top_is node.parent b is))
    ∙ ap (tops_from (first + place)) (sym (drop_at nodes place node here)))))
    ∙ known)

-- none are left
pub no_tops : (at : ℕ) → tops_from at [] ≡ []
unfolding tops_from
no_tops at = refl

-- ---- states

module _ (old : State) (parent : ℕ) (nodes : List Node) (own : List (List Declaration)) (low : parent < old.next) where
  abbrev added : State
  added = added_under old parent nodes own

  added_low : (number : ℕ) → number < old.next → added.node_at number ≡ old.node_at number
  added_low number before = rw (lt-ltb number old.next before) refl

  added_high : (number : ℕ) → old.next ≤ number → added.node_at number ≡ inserted_at (under parent old.next nodes) own old.next (number - old.next)
  added_high number past = rw (le-ltb number old.next past) refl

  -- nothing is added yet
  pub none_added : ((number : ℕ) → old.next ≤ number → old.node_at number ≡ None) → IsFilledFrom added old
  none_added none = record { below = λ number before. sym (added_low number before); above = none }

  -- what is added so far leaves the others as they were
  pub grows : (state : State) → old.next ≤ state.next → IsFilledFrom added state → Grows old state
  grows state more filled = record { below = λ number before. filled.below number (omega arith) ∙ added_low number before; next = more }

  under_past : (number : ℕ) → old.next + length nodes ≤ number → added.node_at number ≡ None
  under_past number past =
      let new : Node → Node = λ node. record { parent = Some (parent_under parent old.next node.parent); kind = node.kind } in
      let placed = under parent old.next nodes in
      let none : slice_get placed (number - old.next) ≡ None = slice_get_past placed (number - old.next) (omega (arith, length-map nodes new)) in
      added_high number (omega arith) ∙ (rw none refl)

  -- all are added
  pub all_added : (state : State) → state.next ≡ old.next + length nodes → IsFilledFrom added state → state ≡ added
  all_added state all filled = are_equal _ _ (record {
    nodes = λ number. elim (cases_lt number state.next) [
      | inl before ↦ filled.below number before
      | inr past ↦ filled.above number past ∙ sym (under_past number (omega (arith, all, past)))
    ];
    next = all;
  })

  -- the children of the node in which they will stand are what they were
  pub children_added : children_at added parent ≡ children_at old parent
  children_added = ap (λ (o : Option Entry). unwrap_or (option_map (λ entry. entry.children) o) []) (added_low parent low)

  -- the children are put where the nodes were added
  pub inserted_under : (index : ℕ) (tops : List ℕ) → tops ≡ tops_from old.next nodes → changed added parent (with_children (with_put index tops)) ≡ inserted old parent index nodes own
  inserted_under index tops is =
      let change = with_put index (children_from old.next parent (under parent old.next nodes)) in
      let same : tops ≡ children_from old.next parent (under parent old.next nodes) = is ∙ sym (tops_under parent old.next low old.next nodes) in
      ap (λ (l : List ℕ). changed added parent (with_children (with_put index l))) same
      ∙ are_equal _ _ (record { nodes = at change; next = refl })
    where
      at : (change : List ℕ → List ℕ) (other : ℕ) → (changed added parent (with_children change)).node_at other
          ≡ (if nat_lt other old.next then (changed old parent (with_children change)).node_at other else inserted_at (under parent old.next nodes) own old.next (other - old.next))
      at change other = elim (cases_lt other old.next) [
        | inl before ↦ rw (lt-ltb other old.next before) refl
        | inr past ↦ rw (le-ltb other old.next past, ne_eqb other parent (λ same. omega (arith, low, past, same))) refl
      ]

module _ (old : State) (parent : ℕ) (reads : List ReadNode) (styles : List (Vec Declaration)) (lists : List (Vec ℕ)) (place : ℕ) (read : ReadNode) (own : Vec Declaration) (children : Vec ℕ) (low : parent < old.next) where
  -- the node at this place, with its parent, its children and its own declarations
  pub added_here : (next : ℕ) → next ≡ old.next + place → place < length reads → read ≡ get_or reads place read → place < length styles → own ≡ get_or styles place own → place < length lists → children ≡ get_or lists place children
      → ((at : ℕ) → numbers_at lists at ≡ children_from old.next at (nodes_of reads))
      → (added_under old parent (nodes_of reads) (map (λ own. own.items) styles)).node_at next ≡ Some (record { parent = Some (parent_under parent old.next read.parent); children = children.items; what = what_of (kind_of read.kind) own.items })
  added_here next at within is styled owned listed childed all =
      let owns = λ (o : Vec Declaration). o.items in
      let numbers = λ (list : Vec ℕ). list.items in
      let placed = under parent old.next (nodes_of reads) in
      let new : Node → Node = λ node. record { parent = Some (parent_under parent old.next node.parent); kind = node.kind } in
      let its_own : get_or (map owns styles) place [] ≡ own.items = get_or-map owns styles place own [] styled ∙ sym (ap owns owned) in
      let its_children : children_from old.next (old.next + place) placed ≡ children.items = children_under parent old.next low old.next place (nodes_of reads) ∙ (sym (all place) ∙ (get_or-map numbers lists place children [] listed ∙ sym (ap numbers childed))) in
      let here : slice_get placed place ≡ Some (new (node_of read)) = slice_get-map new (nodes_of reads) place ∙ ap (option_map new) (read_at reads place read within is) in
      let entry : Node → Entry = λ node. record { parent = node.parent; children = children_from old.next (old.next + place) placed; what = what_of node.kind (get_or (map owns styles) place []) } in
      let its_place : next - old.next ≡ place = omega (arith, at) in
      added_high old parent (nodes_of reads) (map owns styles) low next (omega (arith, at))
      ∙ (ap (inserted_at placed (map owns styles) old.next) its_place
      ∙ (ap (option_map entry) here
      ∙ (ap (λ (c : List ℕ). Some (record { parent = Some (parent_under parent old.next read.parent); children = c; what = what_of (kind_of read.kind) (get_or (map owns styles) place []) })) its_children
      ∙ ap (λ (o : List Declaration). Some (record { parent = Some (parent_under parent old.next read.parent); children = children.items; what = what_of (kind_of read.kind) o })) its_own)))

-- what was added is taken back
pub taken_back : (old grown new : State) → ((number : ℕ) → old.next ≤ number → old.node_at number ≡ None) → Grows old grown → IsFilledFrom grown new → new.next ≡ old.next → new ≡ old
taken_back old grown new none grows filled same = are_equal _ _ (record {
  nodes = λ number. elim (cases_lt number new.next) [
    | inl before ↦ filled.below number before ∙ grows.below number (omega (arith, same))
    | inr past ↦ filled.above number past ∙ sym (none number (omega (arith, same)))
  ];
  next = same;
})

-- nodes go one after the other, from this one up to the other
pub record Goes (old new : State) (first at : ℕ) : Type 0 where
  pub next : new.next ≡ old.next
  pub below : (number : ℕ) → number < first → new.node_at number ≡ old.node_at number
  pub gone : (number : ℕ) → first ≤ number → number < at → new.node_at number ≡ None

pub none_goes : (state : State) (first : ℕ) → Goes state state first first
none_goes state first = record { next = refl; below = λ number low. refl; gone = λ number high low. absurd (omega (arith, high, low)) }

stays_apart : (number at : ℕ) (state : State) → number ≢ at → (without_nodes (at ∷ []) state).node_at number ≡ state.node_at number
stays_apart number at state apart = rw (ne_eqb number at apart) refl

goes_at : (at : ℕ) (state : State) → (without_nodes (at ∷ []) state).node_at at ≡ None
goes_at at state = rw (eq-eqb at at refl) refl

pub one_goes : (old mid new : State) (first at : ℕ) → first ≤ at → Goes old mid first at → new ≡ without_nodes (at ∷ []) mid → Goes old new first (at + 1)
one_goes old mid new first at from goes is = record {
  next = ap (λ (s : State). s.next) is ∙ goes.next;
  below = λ number low. ap (λ (s : State). s.node_at number) is ∙ (stays_apart number at mid (λ same. omega (arith, low, from, same)) ∙ goes.below number low);
  gone = λ number high low. ap (λ (s : State). s.node_at number) is ∙ elim (cases_eq number at) [
    | inl same ↦ subst (λ (n : ℕ). (without_nodes (at ∷ []) mid).node_at n ≡ None) (sym same) (goes_at at mid)
    | inr apart ↦ stays_apart number at mid apart ∙ goes.gone number high (omega (arith, low, apart))
  ];
}

-- all are gone
pub all_gone : (old mid : State) (first at : ℕ) → Goes old mid first at → mid.next ≤ at → ((number : ℕ) → mid.next ≤ number → mid.node_at number ≡ None) → (number : ℕ) → first ≤ number → mid.node_at number ≡ None
all_gone old mid first at goes end none number high = elim (cases_lt number at) [
  | inl low ↦ goes.gone number high low
  | inr past ↦ none number (omega (arith, end, past))
]

pub gone_back : (old mid new : State) (first at : ℕ) → Goes old mid first at → mid.next ≤ at → ((number : ℕ) → mid.next ≤ number → mid.node_at number ≡ None) → new ≡ with_next first mid → IsFilledFrom old new
gone_back old mid new first at goes end none is = subst (λ (s : State). IsFilledFrom old s) (sym is) (record { below = goes.below; above = all_gone old mid first at goes end none })

-- ---- on the way

-- the number of the node in which an inserted one stands has 32 bits
pub number_fits : (reads : List ReadNode) (place next : ℕ) (d : ReadNode) → FollowParents (nodes_of reads) → place < length reads → next + length reads < 2 ^ 32 → IfSome (get_or reads place d).parent (λ p. next + p < 2 ^ 32)
number_fits reads place next d follow within room = fits_if (get_or reads place d).parent (parent_known reads place place d follow within (omega arith))
  where
    fits_if : (parent : Option ℕ) → IfSome parent (λ p. p < place) → IfSome parent (λ p. next + p < 2 ^ 32)
    fits_if None low = tt
    fits_if (Some p) low = omega (arith, low, within, room)

-- where insertion isn't refused
pub may_enter : (state : State) (parent index : ℕ) (known reads : List ReadNode) → known ≡ reads → refusal state (insert parent index (nodes_of known) []) ≡ None → Enters state parent index (length reads)
may_enter state parent index known reads same none =
    let entered : Enters state parent index (length (nodes_of known)) = enters state parent index (nodes_of known) [] none in
    let count : length (nodes_of known) ≡ length reads = length-map known node_of ∙ ap length same in
    record { lives = entered.lives; within = entered.within; room = omega (arith, count, entered.room) }

pub on_err : {X E P : Type 0} (answer : Result X E) → P → OnErr answer P
on_err (Ok value) holds = tt
on_err (Err error) holds = holds

-- a node that is given another parent
pub stands_under : (node : code_node.Node) (entry : Entry) (number parent : ℕ) → entry_of node ≡ entry → number ≡ parent
    → Some (with_parent number entry) ≡ Some (with_parent parent (entry_of node))
stands_under node entry number parent is same =
    ap (λ (e : Entry). Some (with_parent number e)) (sym is) ∙ ap (λ (n : ℕ). Some (with_parent n (entry_of node))) same
