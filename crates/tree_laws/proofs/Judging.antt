-- Where nothing refuses a move, or a change of one node.
use Rattle.std.proofs.Common.{◌≡◌, ◌≢◌, ◌∙◌, ℕ, zero, suc, ◌+◌, ◌-◌, ◌≤◌, Bool, true, false, List, [], ◌∷◌, ◌++◌, length, refl, ap, arith, Option, Some, None, option_map, if◌then◌else◌}
use Rattle.std.specs.Prelude.{nat_eq, not, ◌||◌, ◌&&◌, flat_map, is_some, unwrap_or}
use Rattle.std.specs.List.{Contains, list_any}
use Rattle.std.proofs.lemmas.Bool.{le-ltb, ne_eqb}
use Rattle.basic_laws.proofs.Lists.{contained_any, contains_equal}
use Rattle.dom_store.specs.declared.error.EditError.{EditError}
use Rattle.dom_store.specs.declared.error.EditError.TheVariants.{BadIndex, Inside, IsRoot, NoNode, NotElement, NotText, TooDeep}
use Rattle.dom_store.specs.State.{What, Entry, State, greatest_depth, text}
use Rattle.dom_store.specs.Building.{with_next}
use Rattle.dom_store.specs.Standing.{ancestors_to, below_levels, children_at, depth_at, inclusive_ancestors, lives, parent_at, unless_skipped}
use Rattle.dom_store.specs.Edits.{changed, move_to, set_text, with_what, without}
use Rattle.dom_store.specs.Refusals.{bad_index, first_of, in_html, is_element, is_of, is_root, least, may_hold, no_node, not_holder, refusal, refused_if}
use Rattle.dom_store.specs.Steps.{place_in}

-- ---- members of a list

pub none_there : (numbers : List ℕ) → ((number : ℕ) → Contains numbers number → ⊥) → numbers ≡ []
none_there [] none = refl
none_there (first ∷ numbers) none = absurd (none first (contains_equal first first numbers refl))

pub not_among : (numbers : List ℕ) (number : ℕ) → (Contains numbers number → ⊥) → list_any (nat_eq number) numbers ≡ false
not_among numbers number away = by (list_any (nat_eq number) numbers) refl
  where
    by : (b : Bool) → list_any (nat_eq number) numbers ≡ b → list_any (nat_eq number) numbers ≡ false
    by true is = absurd (away (contained_any numbers number is))
    by false is = is

-- the place of a number is no later than the others are many
place_first : (number first : ℕ) (others : List ℕ) (b : Bool) → nat_eq first number ≡ b → place_in number others ≤ length (without number others) → place_in number (first ∷ others) ≤ length (without number (first ∷ others))
place_first number first others true is low = let none : place_in number (first ∷ others) ≡ 0 = rw is refl in omega (arith, none)
place_first number first others false is low =
    let onward : place_in number (first ∷ others) ≡ 1 + place_in number others = rw is refl in
    let kept : without number (first ∷ others) ≡ first ∷ without number others = rw is refl in
    let more : length (without number (first ∷ others)) ≡ length (first ∷ without number others) = ap (λ (l : List ℕ). length l) kept in
    omega (arith, onward, more, low)

pub place_low : (number : ℕ) (children : List ℕ) → place_in number children ≤ length (without number children)
place_low number [] = omega arith
place_low number (first ∷ children) = place_first number first children (nat_eq first number) refl (place_low number children)

-- ---- the next number is no matter

ancestors_alike : (next : ℕ) (state : State) (most : ℕ) (number : Option ℕ) → ancestors_to most (with_next next state) number ≡ ancestors_to most state number
unfolding ancestors_to
ancestors_alike next state zero number = refl
ancestors_alike next state (suc most) None = refl
ancestors_alike next state (suc most) (Some number) = ap (λ (l : List ℕ). number ∷ l) (ancestors_alike next state most (parent_at state number))

below_alike : (next : ℕ) (state : State) (skipped levels number : ℕ) → below_levels skipped levels (with_next next state) number ≡ below_levels skipped levels state number
unfolding below_levels
below_alike next state skipped zero number = refl
below_alike next state skipped (suc levels) number = λ i. unless_skipped skipped number ++ flat_map (λ child. below_alike next state (skipped - 1) levels child i) (children_at state number)

-- the reasons, by the ancestors of the parent and what is below the node
abbrev move_by : State → (number parent index : ℕ) → (above : List ℕ) → (below : ℕ → List ℕ) → Option EditError
move_by state number parent index above below =
    first_of (no_node state (number ∷ parent ∷ []) ∷ is_root number ∷ in_html parent ∷ not_holder state parent ∷ refused_if (list_any (nat_eq number) above) Inside
    ∷ bad_index index (without number (children_at state parent)) ∷ option_map TooDeep (least (below (greatest_depth - length above))) ∷ [])

pub move_alike : (next : ℕ) (state : State) (number parent index : ℕ) → refusal (with_next next state) (move_to number parent index) ≡ refusal state (move_to number parent index)
move_alike next state number parent index =
    λ i. move_by state number parent index (ancestors_alike next state greatest_depth (Some parent) i) (λ skipped. below_alike next state skipped greatest_depth number i)

-- ---- a move that nothing refuses

-- the reasons, by what is asked in each
abbrev move_of : (alive parent_alive root beside holds above late : Bool) → (deep : List ℕ) → Option EditError
move_of alive parent_alive root beside holds above late deep =
    first_of (refused_if (not (alive && (parent_alive && true))) NoNode ∷ refused_if root IsRoot ∷ refused_if beside IsRoot ∷ refused_if (not holds) NotElement ∷ refused_if above Inside ∷ refused_if late BadIndex ∷ option_map TooDeep (least deep) ∷ [])

pub record MayMove (state : State) (number parent index : ℕ) : Type 0 where
  pub alive : lives state number ≡ true
  pub parent_alive : lives state parent ≡ true
  pub root : (nat_eq number 0 || nat_eq number 1) ≡ false
  pub beside : parent ≢ 0
  pub holds : is_of may_hold state parent ≡ true
  pub apart : Contains (inclusive_ancestors state parent) number → ⊥
  pub within : index ≤ length (without number (children_at state parent))
  pub shallow : (other : ℕ) → Contains (below_levels (greatest_depth - depth_at state parent) greatest_depth state number) other → ⊥

pub may_move : (state : State) (number parent index : ℕ) → MayMove state number parent index → refusal state (move_to number parent index) ≡ None
may_move state number parent index may =
    let beside = ne_eqb parent 0 may.beside in
    let apart = not_among (inclusive_ancestors state parent) number may.apart in
    let late = le-ltb (length (without number (children_at state parent))) index may.within in
    let shallow = none_there (below_levels (greatest_depth - depth_at state parent) greatest_depth state number) may.shallow in
    λ i. move_of (may.alive i) (may.parent_alive i) (may.root i) (beside i) (may.holds i) (apart i) (late i) (shallow i)

-- ---- another text, other declarations, other classes

abbrev text_by : Option Entry → Option EditError
text_by o = first_of (refused_if (not (is_some o && true)) NoNode ∷ refused_if (unwrap_or (option_map (λ entry. is_element entry.what) o) false) NotText ∷ [])

abbrev element_by : Option Entry → Option EditError
element_by o = first_of (refused_if (not (is_some o && true)) NoNode ∷ refused_if (not (unwrap_or (option_map (λ entry. is_element entry.what) o) false)) NotElement ∷ [])

text_again : (letters : List ℕ) (here : Bool) (o : Option Entry) → text_by o ≡ None → text_by (if here then option_map (with_what (λ what. text letters)) o else o) ≡ None
text_again letters true None is = is
text_again letters true (Some entry) is = refl
text_again letters false o is = is

element_again : (change : What → What) → ((what : What) → is_element (change what) ≡ is_element what) → (here : Bool) (o : Option Entry) → element_by o ≡ None → element_by (if here then option_map (with_what change) o else o) ≡ None
element_again change same true None is = is
element_again change same true (Some entry) is = ap (λ (b : Bool). first_of (refused_if (not b) NotElement ∷ [])) (same entry.what) ∙ is
element_again change same false o is = is

pub text_may : (state : State) (number next : ℕ) (letters others : List ℕ) → refusal state (set_text number letters) ≡ None → refusal (with_next next (changed state number (with_what (λ what. text letters)))) (set_text number others) ≡ None
text_may state number next letters others is = text_again letters (nat_eq number number) (state.node_at number) is

pub element_may : (state : State) (number next : ℕ) (change : What → What) → ((what : What) → is_element (change what) ≡ is_element what) → element_by (state.node_at number) ≡ None → element_by ((with_next next (changed state number (with_what change))).node_at number) ≡ None
element_may state number next change same is = element_again change same (nat_eq number number) (state.node_at number) is
