-- How much a document has behind an edit, and when it is opened.
use Rattle.std.proofs.Common.{◌≡◌, ◌∙◌, ℕ, zero, suc, ◌+◌, ◌-◌, ◌<◌, ◌≤◌, Bool, true, false, List, [], ◌∷◌, length, get_or, refl, ap, sym, arith, Option, Some, None, option_map, if◌then◌else◌}
use Rattle.std.specs.Prelude.{nat_eq}
use Rattle.std.specs.List.{list_any, slice_get}
use Rattle.std.proofs.lemmas.Bool.{le-ltb, lt-ltb}
use Rattle.std.proofs.lemmas.List.{length-map}
use Rattle.css_types.specs.declared.value.Declaration.{Declaration}
use Rattle.html_read.specs.Values as html
use Rattle.html_read.specs.Values.{Kind, Node}
use Rattle.html_read.specs.Shape.{kind_bytes, text_bytes}
use Rattle.dom_store.specs.State.{What, element, text, Entry, State}
use Rattle.dom_store.specs.Opening.{children_from, entry_at, greatest_count, opened, what_of}
use Rattle.dom_store.specs.Standing.{count_below, inclusive_descendants, live_count, one_if, parent_at}
use Rattle.dom_store.specs.Edits.{set_text, set_style, set_class, insert, remove, move_to, changed, changed_if, inserted, moved, removed, under, with_children, with_classes, with_moved, with_own, with_parent, with_put, with_what, without}
use Rattle.tree_laws.specs.Laws.{CountsAreTotals, EditsWeigh}
use Rattle.tree_laws.specs.Weight.{bytes, one, sum_below, total, weight_of}
use Rattle.tree_laws.proofs.Refusing.{insert_passes}
use Rattle.tree_laws.proofs.Sums.{only, sum_behind, sum_both, sum_first, sum_least, sum_only, sum_same, sum_zero}

-- ---- the count

one_each : (o : Option Entry) → weight_of one o ≡ one_if o
one_each None = refl
one_each (Some entry) = refl

counted : (at : ℕ → Option Entry) (number : ℕ) → sum_below (λ n. weight_of one (at n)) number ≡ count_below at number
unfolding sum_below count_below
counted at zero = refl
counted at (suc number) = omega (arith, counted at number, one_each (at number))

pub counts_are_totals : CountsAreTotals
counts_are_totals state = counted state.node_at state.next

-- ---- states that have no more under any number

abbrev Lighter : (weight : What → ℕ) → (new old : State) → Type 0
Lighter weight new old = (new.next ≡ old.next) × ((number : ℕ) → weight_of weight (new.node_at number) ≤ weight_of weight (old.node_at number))

lighter : (weight : What → ℕ) (new old : State) → Lighter weight new old → total weight new ≤ total weight old
lighter weight new old less =
    let same : total weight new ≡ sum_below (λ number. weight_of weight (new.node_at number)) old.next = ap (sum_below (λ number. weight_of weight (new.node_at number))) less.0 in
    let each : sum_below (λ number. weight_of weight (new.node_at number)) old.next ≤ total weight old = sum_least _ _ old.next (λ number within. less.1 number) in
    omega (arith, same, each)

both_lighter : (weight : What → ℕ) (new mid old : State) → Lighter weight new mid → Lighter weight mid old → Lighter weight new old
both_lighter weight new mid old more less = (more.0 ∙ less.0, λ number. omega (arith, more.1 number, less.1 number))

-- a change under one number
abbrev Lightens : (weight : What → ℕ) → (Entry → Entry) → Type 0
Lightens weight change = (entry : Entry) → weight (change entry).what ≤ weight entry.what

changed_weight : (weight : What → ℕ) (change : Entry → Entry) → Lightens weight change → (here : Bool) (o : Option Entry) → weight_of weight (if here then option_map change o else o) ≤ weight_of weight o
changed_weight weight change lightens true None = omega arith
changed_weight weight change lightens true (Some entry) = lightens entry
changed_weight weight change lightens false o = omega arith

lighter_changed : (weight : What → ℕ) (state : State) (number : ℕ) (change : Entry → Entry) → Lightens weight change → Lighter weight (changed state number change) state
lighter_changed weight state number change lightens = (refl, λ other. changed_weight weight change lightens (nat_eq other number) (state.node_at other))

lighter_if : (weight : What → ℕ) (state : State) (number : Option ℕ) (change : Entry → Entry) → Lightens weight change → Lighter weight (changed_if state number change) state
lighter_if weight state None change lightens = (refl, λ other. omega arith)
lighter_if weight state (Some number) change lightens = lighter_changed weight state number change lightens

out_weight : (weight : What → ℕ) (out : Bool) (o : Option Entry) → weight_of weight (if out then None else o) ≤ weight_of weight o
out_weight weight true o = omega arith
out_weight weight false o = omega arith

same_children : (weight : What → ℕ) (change : List ℕ → List ℕ) → Lightens weight (with_children change)
same_children weight change entry = omega arith

lighter_removed : (weight : What → ℕ) (state : State) (number : ℕ) → Lighter weight (removed state number) state
lighter_removed weight state number =
    let left : State = changed_if state (parent_at state number) (with_children (without number)) in
    both_lighter weight (removed state number) left state
    (refl, λ other. out_weight weight (list_any (nat_eq other) (inclusive_descendants state number)) (left.node_at other))
    (lighter_if weight state (parent_at state number) (with_children (without number)) (same_children weight (without number)))

lighter_moved : (weight : What → ℕ) (state : State) (number parent index : ℕ) → Lighter weight (moved state number parent index) state
lighter_moved weight state number parent index =
    let left : State = changed_if state (parent_at state number) (with_children (without number)) in
    let put : State = changed left parent (with_children (with_moved number index)) in
    both_lighter weight (moved state number parent index) put state (lighter_changed weight put number (with_parent parent) (λ entry. omega arith))
    (both_lighter weight put left state (lighter_changed weight left parent (with_children (with_moved number index)) (same_children weight (with_moved number index)))
    (lighter_if weight state (parent_at state number) (with_children (without number)) (same_children weight (without number))))

-- ---- a text

text_weight : (letters : List ℕ) (here : Bool) (o : Option Entry) → weight_of bytes (if here then option_map (with_what (λ what. text letters)) o else o) ≤ weight_of bytes o + (if here then length letters else 0)
text_weight letters true None = omega arith
text_weight letters true (Some entry) = omega arith
text_weight letters false o = omega arith

text_total : (state : State) (number : ℕ) (letters : List ℕ) → total bytes (changed state number (with_what (λ what. text letters))) ≤ total bytes state + length letters
text_total state number letters =
    let each : total bytes (changed state number (with_what (λ what. text letters))) ≤ sum_below (λ k. weight_of bytes (state.node_at k) + only number (length letters) k) state.next =
    sum_least _ _ state.next (λ k within. text_weight letters (nat_eq k number) (state.node_at k)) in
    omega (arith, each, sum_both (λ k. weight_of bytes (state.node_at k)) (only number (length letters)) state.next, sum_only number (length letters) state.next)

own_bytes : (own : List Declaration) (what : What) → bytes (with_own own what) ≤ bytes what
own_bytes own (element tag id classes dir before) = omega arith
own_bytes own (text letters) = omega arith

class_bytes : (words : List (List ℕ)) (what : What) → bytes (with_classes words what) ≤ bytes what
class_bytes words (element tag id classes dir own) = omega arith
class_bytes words (text letters) = omega arith

-- ---- nodes that were read

abbrev in_nodes : (weight : Kind → ℕ) → List Node → ℕ
in_nodes weight [] = 0
in_nodes weight (node ∷ nodes) = weight node.kind + in_nodes weight nodes

abbrev of_node : (weight : Kind → ℕ) → Option Node → ℕ
of_node weight None = 0
of_node weight (Some node) = weight node.kind

each_node : (weight : Kind → ℕ) (nodes : List Node) → sum_below (λ k. of_node weight (slice_get nodes k)) (length nodes) ≡ in_nodes weight nodes
each_node weight [] = sum_zero (λ k. of_node weight (slice_get [] k))
each_node weight (node ∷ nodes) = sum_first (λ k. of_node weight (slice_get (node ∷ nodes) k)) (length nodes) ∙ ap (λ (n : ℕ). weight node.kind + n) (each_node weight nodes)

same_nodes : (weight : Kind → ℕ) (parent next : ℕ) (nodes : List Node) → in_nodes weight (under parent next nodes) ≡ in_nodes weight nodes
same_nodes weight parent next [] = refl
same_nodes weight parent next (node ∷ nodes) = ap (λ (n : ℕ). weight node.kind + n) (same_nodes weight parent next nodes)

pub all_ones : (nodes : List Node) → in_nodes (λ kind. 1) nodes ≡ length nodes
all_ones [] = refl
all_ones (node ∷ nodes) = omega (arith, all_ones nodes)

pub all_bytes : (nodes : List Node) → in_nodes kind_bytes nodes ≡ text_bytes nodes
all_bytes [] = refl
all_bytes (node ∷ nodes) = ap (λ (n : ℕ). kind_bytes node.kind + n) (all_bytes nodes)

pub read_bytes : (kind : Kind) (own : List Declaration) → bytes (what_of kind own) ≡ kind_bytes kind
read_bytes (html.element tag acting) own = refl
read_bytes (html.text letters) own = refl

module _ (weight : What → ℕ) (read : Kind → ℕ) (same : (kind : Kind) (own : List Declaration) → weight (what_of kind own) ≡ read kind) where
  -- ---- a document that is opened

  entry_weight : (nodes : List Node) (own : List (List Declaration)) (place : ℕ) (o : Option Node) → weight_of weight (entry_at nodes own place o) ≡ of_node read o
  entry_weight nodes own place None = refl
  entry_weight nodes own place (Some node) = same node.kind (get_or own place [])

  pub opened_total : (nodes : List Node) (own : List (List Declaration)) → total weight (opened nodes own) ≡ in_nodes read nodes
  opened_total nodes own = sum_same _ _ (length nodes) (λ place within. entry_weight nodes own place (slice_get nodes place)) ∙ each_node read nodes

  -- ---- nodes that are inserted

  fresh_weight : (nodes : List Node) (own : List (List Declaration)) (next place : ℕ) (o : Option Node)
      → weight_of weight (option_map (λ node. record { parent = node.parent; children = children_from next (next + place) nodes; what = what_of node.kind (get_or own place []) }) o) ≡ of_node read o
  fresh_weight nodes own next place None = refl
  fresh_weight nodes own next place (Some node) = same node.kind (get_or own place [])

  module _ (state : State) (parent index : ℕ) (nodes : List Node) (own : List (List Declaration)) where
    abbrev placed : List Node
    placed = under parent state.next nodes

    abbrev put : State
    put = changed state parent (with_children (with_put index (children_from state.next parent placed)))

    abbrev under_number : (number : ℕ) → ℕ
    under_number number = weight_of weight ((inserted state parent index nodes own).node_at number)

    old_weight : (number : ℕ) → number < state.next → under_number number ≤ weight_of weight (state.node_at number)
    old_weight number old =
        rw (lt-ltb number state.next old) ((lighter_changed weight state parent (with_children (with_put index (children_from state.next parent placed))) (same_children weight (with_put index (children_from state.next parent placed)))).1 number)

    new_weight : (place : ℕ) → under_number (state.next + place) ≡ of_node read (slice_get placed place)
    new_weight place =
        let back : (state.next + place) - state.next ≡ place = omega arith in
        rw (le-ltb (state.next + place) state.next (omega arith), back) (fresh_weight placed own state.next place (slice_get placed place))

    pub inserted_total : total weight (inserted state parent index nodes own) ≤ total weight state + in_nodes read nodes
    inserted_total =
        let old : sum_below under_number state.next ≤ total weight state = sum_least _ _ state.next old_weight in
        let long : length placed ≡ length nodes = length-map nodes _ in
        let new : sum_below (λ place. under_number (state.next + place)) (length nodes) ≡ in_nodes read nodes =
        ap (sum_below (λ place. under_number (state.next + place))) (sym long)
        ∙ (sum_same _ _ (length placed) (λ place within. new_weight place) ∙ (each_node read placed ∙ same_nodes read parent state.next nodes)) in
        omega (arith, sum_behind under_number state.next (length nodes), old, new)

-- ---- edits

count_lighter : (new old : State) → Lighter one new old → live_count old ≤ greatest_count → live_count new ≤ greatest_count
count_lighter new old less few = omega (arith, lighter one new old less, counts_are_totals new, counts_are_totals old, few)

pub edits_weigh : EditsWeigh
edits_weigh state (set_text number letters) accepted =
    (count_lighter _ state (lighter_changed one state number (with_what (λ what. text letters)) (λ entry. omega arith)), text_total state number letters)
edits_weigh state (set_style number own) accepted = (
  count_lighter _ state (lighter_changed one state number (with_what (with_own own)) (λ entry. omega arith)),
  omega (arith, lighter bytes _ state (lighter_changed bytes state number (with_what (with_own own)) (λ entry. own_bytes own entry.what))),
)
edits_weigh state (set_class number words) accepted = (
  count_lighter _ state (lighter_changed one state number (with_what (with_classes words)) (λ entry. omega arith)),
  omega (arith, lighter bytes _ state (lighter_changed bytes state number (with_what (with_classes words)) (λ entry. class_bytes words entry.what))),
)
edits_weigh state (insert parent index nodes own) accepted =
    let new : State = inserted state parent index nodes own in
    let room = (insert_passes state parent index nodes own accepted).1 in
    let ones = inserted_total one (λ kind. 1) (λ kind own. refl) state parent index nodes own in
    let all = inserted_total bytes kind_bytes read_bytes state parent index nodes own in (
      λ few. omega (arith, few, room, ones, all_ones nodes, counts_are_totals new, counts_are_totals state),
      omega (arith, all, all_bytes nodes),
    )
edits_weigh state (remove number) accepted = (count_lighter _ state (lighter_removed one state number), omega (arith, lighter bytes _ state (lighter_removed bytes state number)))
edits_weigh state (move_to number parent index) accepted =
    (count_lighter _ state (lighter_moved one state number parent index), omega (arith, lighter bytes _ state (lighter_moved bytes state number parent index)))
