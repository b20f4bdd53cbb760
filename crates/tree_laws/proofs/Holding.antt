-- Nodes stand in elements other than `br`, in documents that are opened and after edits.
use Rattle.std.proofs.Common.{◌≡◌, ◌≢◌, ◌∙◌, ℕ, zero, suc, ◌+◌, ◌-◌, ◌<◌, Bool, true, false, List, [], get_or, refl, ap, sym, subst, arith, Option, Some, None, option_map, if◌then◌else◌, inl, inr}
use Rattle.std.specs.Prelude.{nat_eq, is_some, unwrap_or}
use Rattle.std.specs.List.{Contains, list_any, slice_get}
use Rattle.std.proofs.lemmas.Bool.{cases_eq, cases_lt, eqb-true, false≢true, le-ltb, lt-ltb}
use Rattle.std.proofs.lemmas.Option.{none-some, slice_get-map}
use Rattle.basic_laws.proofs.Lists.{any_contained, contained_any}
use Rattle.css_types.specs.declared.value.Declaration.{Declaration}
use Rattle.html_tokens.specs.declared.tag.Tag.{Tag}
use Rattle.html_tokens.specs.declared.tag.Tag.TheVariants.{Br, Html}
use Rattle.html_read.specs.Shape.{IsFragmentShaped, IsHolder, IsShaped}
use Rattle.html_read.specs.Values as html
use Rattle.html_read.specs.Values.{Acting, Node}
use Rattle.dom_store.specs.State.{What, Entry, State, element, greatest_depth, text}
use Rattle.dom_store.specs.Opening.{children_from, entry_at, opened, what_of}
use Rattle.dom_store.specs.Standing.{children_at, inclusive_descendants, lives, parent_at}
use Rattle.dom_store.specs.Edits.{set_text, set_style, set_class, insert, remove, move_to, changed, inserted, inserted_at, moved, parent_under, removed, under, with_children, with_classes, with_moved, with_own, with_parent, with_put, with_what, without}
use Rattle.dom_store.specs.Refusals.{is_br, is_element, is_of, may_hold}
use Rattle.dom_store.proofs.SameLaws.{are_equal}
use Rattle.tree_laws.specs.Held.{AreHeld, EditsKeepHeld, OpenedAreHeld}
use Rattle.tree_laws.specs.Reached.{IsAtLevel, IsReached}
use Rattle.tree_laws.specs.Wholeness.{IsWhole}
use Rattle.tree_laws.proofs.Inserting.{read_parent}
use Rattle.tree_laws.proofs.Keeping.{children_parent, left, left_parents, moved_parent, other_parent, parent_of, what_parent}
use Rattle.tree_laws.proofs.Levels.{parent_of_child}
use Rattle.tree_laws.proofs.Places.{parent_in}
use Rattle.tree_laws.proofs.Refusing.{insert_holds, lives_below, move_holds, move_passes, text_is}
use Rattle.tree_laws.proofs.Staying.{goes_on}

abbrev holds_in : Option Entry → Bool
holds_in o = unwrap_or (option_map (λ entry. may_hold entry.what) o) false

-- a node in which others may stand lives
pub holder_lives : (o : Option Entry) → holds_in o ≡ true → is_some o ≡ true
holder_lives None is = absurd (false≢true is)
holder_lives (Some entry) is = refl

-- and so does one that has a parent
pub child_lives : (o : Option Entry) (parent : ℕ) → parent_of o ≡ Some parent → is_some o ≡ true
child_lives None parent is = absurd (none-some parent is)
child_lives (Some entry) parent is = refl

-- ---- a document that is opened

not_br : (tag : Tag) → (tag ≡ Br → ⊥) → is_br tag ≡ false
not_br Br apart = absurd (apart refl)
not_br other apart = refl

holds_read : (nodes : List Node) (own : List (List Declaration)) (place : ℕ) → IsHolder nodes place → holds_in (entry_at nodes own place (slice_get nodes place)) ≡ true
holds_read nodes own place (node, tag, acting, here, kind, apart) = rw (here, kind, not_br tag apart) refl

module _ (nodes : List Node) (own : List (List Declaration)) (shaped : IsShaped nodes) where
  html_holds : (acting : Acting) → slice_get nodes 0 ≡ Some (record { parent = None; kind = html.element Html acting }) → IsHolder nodes 0
  html_holds acting is = (record { parent = None; kind = html.element Html acting }, Html, acting, is, refl, λ same. absurd cc)

  stands_read : (number parent : ℕ) (o : Option Node) → slice_get nodes number ≡ o → parent_in o ≡ Some parent → IsHolder nodes parent
  stands_read number parent None here stands = absurd (none-some parent stands)
  stands_read number parent (Some node) here stands = elim (cases_lt number 2) [
    | inl early ↦ elim (cases_eq number 0) [
      | inl first ↦ absurd (none-some parent (ap parent_in (sym shaped.html.1 ∙ (ap (slice_get nodes) (sym first) ∙ here)) ∙ stands))
      | inr apart ↦
          let second : number ≡ 1 = omega (arith, early, apart) in
          let its : Some 0 ≡ Some parent = ap parent_in (sym shaped.body.1 ∙ (ap (slice_get nodes) (sym second) ∙ here)) ∙ stands in
          subst (IsHolder nodes) (ap (λ (o : Option ℕ). unwrap_or o 0) its) (html_holds shaped.html.0 shaped.html.1)
    ]
    | inr late ↦ let (other, is, low, before, holder) = shaped.others number node late here in subst (IsHolder nodes) (ap (λ (o : Option ℕ). unwrap_or o 0) (sym is ∙ stands)) holder
  ]

  opened_held : AreHeld (opened nodes own)
  opened_held number parent stands = holds_read nodes own parent (stands_read number parent (slice_get nodes number) refl (sym (read_parent nodes own number (slice_get nodes number)) ∙ stands))

pub opened_are_held : OpenedAreHeld
opened_are_held nodes own state shaped same = subst AreHeld (sym (are_equal state (opened nodes own) same)) (opened_held nodes own shaped)

-- ---- a node is changed

-- a change after which nodes may still stand where they might before
holds_changed : (change : Entry → Entry) (here : Bool) (o : Option Entry) → ((entry : Entry) → here ≡ true → o ≡ Some entry → may_hold entry.what ≡ true → may_hold (change entry).what ≡ true) → holds_in o ≡ true → holds_in (if here then option_map change o else o) ≡ true
holds_changed change true None keeps is = is
holds_changed change true (Some entry) keeps is = keeps entry refl refl is
holds_changed change false o keeps is = is

-- a change that leaves what the node is
same_holds : (change : Entry → Entry) → ((entry : Entry) → (change entry).what ≡ entry.what) → (here : Bool) (o : Option Entry) → holds_in (if here then option_map change o else o) ≡ holds_in o
same_holds change same true None = refl
same_holds change same true (Some entry) = ap may_hold (same entry)
same_holds change same false o = refl

module _ (state : State) (number : ℕ) (change : What → What) (keeps : (entry : Entry) → state.node_at number ≡ Some entry → may_hold entry.what ≡ true → may_hold (change entry.what) ≡ true) where
  what_held : AreHeld state → AreHeld (changed state number (with_what change))
  what_held held child parent stands =
      holds_changed (with_what change) (nat_eq parent number) (state.node_at parent)
      (λ entry here at. keeps entry (sym (ap state.node_at (eqb-true parent number here)) ∙ at))
      (held child parent (sym (what_parent change (nat_eq child number) (state.node_at child)) ∙ stands))

own_holds : (own : List Declaration) (what : What) → may_hold what ≡ true → may_hold (with_own own what) ≡ true
own_holds own (element tag id classes dir before) is = is
own_holds own (text letters) is = is

classes_hold : (words : List (List ℕ)) (what : What) → may_hold what ≡ true → may_hold (with_classes words what) ≡ true
classes_hold words (element tag id classes dir own) is = is
classes_hold words (text letters) is = is

-- a text holds nothing
text_holds : (what : What) → is_element what ≡ false → may_hold what ≡ true → ⊥
text_holds (element tag id classes dir own) is holds = absurd (false≢true (sym is))
text_holds (text letters) is holds = absurd (false≢true holds)

-- ---- a node goes

left_holds : (state : State) (number : ℕ) (parent : Option ℕ) (other : ℕ) → is_of may_hold (left state number parent) other ≡ is_of may_hold state other
left_holds state number None other = refl
left_holds state number (Some parent) other = same_holds (with_children (without number)) (λ entry. refl) (nat_eq other parent) (state.node_at other)

module _ (state : State) (whole : IsWhole state) (reached : IsReached state) (number : ℕ) where
  abbrev gone : List ℕ
  gone = inclusive_descendants state number

  abbrev mid : State
  mid = left state number (parent_at state number)

  -- a node that has a parent is among its children
  among_children : (child parent : ℕ) → parent_at state child ≡ Some parent → (level : ℕ) × (suc level < greatest_depth) × IsAtLevel state level parent × Contains (children_at state parent) child
  among_children child parent stands =
      let (level, low, at) = reached.reached child (child_lives (state.node_at child) parent stands) in
      by level low at
    where
      by : (level : ℕ) → level < greatest_depth → IsAtLevel state level child → (level : ℕ) × (suc level < greatest_depth) × IsAtLevel state level parent × Contains (children_at state parent) child
      by zero low at = absurd (none-some parent (sym (ap (parent_at state) at ∙ whole.html) ∙ stands))
      by (suc level) low (upper, at, there) =
          let same : upper ≡ parent = ap (λ (o : Option ℕ). unwrap_or o 0) (sym (parent_of_child state whole upper child there) ∙ stands) in
          (level, low, subst (IsAtLevel state level) same at, subst (λ (n : ℕ). Contains (children_at state n) child) same there)

  out_parent : (out : Bool) (o : Option Entry) (parent : ℕ) → parent_of (if out then None else o) ≡ Some parent → (out ≡ false) × (parent_of o ≡ Some parent)
  out_parent true o parent stands = absurd (none-some parent stands)
  out_parent false o parent stands = (refl, stands)

  removed_held : AreHeld state → AreHeld (removed state number)
  removed_held held child parent stands =
      let (child_stays, stood) = out_parent (list_any (nat_eq child) gone) (mid.node_at child) parent stands in
      let was : parent_at state child ≡ Some parent = sym (left_parents state number (parent_at state number) child) ∙ stood in
      let (level, low, at, there) = among_children child parent was in
      by child_stays was level low at there (list_any (nat_eq parent) gone) refl
    where
      by : list_any (nat_eq child) gone ≡ false → parent_at state child ≡ Some parent → (level : ℕ) → suc level < greatest_depth → IsAtLevel state level parent → Contains (children_at state parent) child
          → (out : Bool) → list_any (nat_eq parent) gone ≡ out → holds_in (if out then None else mid.node_at parent) ≡ true
      by child_stays was level low at there true goes =
          absurd (false≢true (sym child_stays ∙ any_contained gone child (goes_on state whole reached number level parent child low at there (contained_any gone parent goes))))
      by child_stays was level low at there false stays = left_holds state number (parent_at state number) parent ∙ held child parent was

-- ---- a node is moved

pub moved_holds : (state : State) (number parent index other : ℕ) → is_of may_hold (moved state number parent index) other ≡ is_of may_hold state other
moved_holds state number parent index other =
    let away = left state number (parent_at state number) in
    let put = changed away parent (with_children (with_moved number index)) in
    same_holds (with_parent parent) (λ entry. refl) (nat_eq other number) (put.node_at other)
    ∙ (same_holds (with_children (with_moved number index)) (λ entry. refl) (nat_eq other parent) (away.node_at other)
    ∙ left_holds state number (parent_at state number) other)

moved_held : (state : State) (whole : IsWhole state) (number parent index : ℕ) → lives state number ≡ true → number ≢ 0 → is_of may_hold state parent ≡ true → AreHeld state → AreHeld (moved state number parent index)
moved_held state whole number parent index alive root holds held child upper stands = moved_holds state number parent index upper ∙ elim (cases_eq child number) [
  | inl same ↦
      let its : Some parent ≡ Some upper = sym (moved_parent state whole number parent index alive root) ∙ (ap (parent_at (moved state number parent index)) (sym same) ∙ stands) in
      subst (λ (n : ℕ). is_of may_hold state n ≡ true) (ap (λ (o : Option ℕ). unwrap_or o 0) its) holds
  | inr apart ↦ held child upper (sym (other_parent state whole number parent index alive root child apart) ∙ stands)
]

-- ---- nodes are inserted

module _ (state : State) (whole : IsWhole state) (parent index : ℕ) (nodes : List Node) (own : List (List Declaration)) (shaped : IsFragmentShaped nodes) (holds : is_of may_hold state parent ≡ true) where
  abbrev placed : List Node
  placed = under parent state.next nodes

  abbrev fresh : List ℕ
  fresh = children_from state.next parent placed

  abbrev more : State
  more = inserted state parent index nodes own

  abbrev entry : (number : ℕ) → Bool → Option Entry
  entry number old = if old then (changed state parent (with_children (with_put index fresh))).node_at number else inserted_at placed own state.next (number - state.next)

  abbrev comes : Node → Node
  comes node = record { parent = Some (parent_under parent state.next node.parent); kind = node.kind }

  abbrev entry_from : (place : ℕ) → Node → Entry
  entry_from place node = record { parent = node.parent; children = children_from state.next (state.next + place) placed; what = what_of node.kind (get_or own place []) }

  -- where nodes might stand before, they may
  old_holds : (number : ℕ) → is_of may_hold state number ≡ true → is_of may_hold more number ≡ true
  old_holds number is =
      let early : number < state.next = lives_below state whole number (holder_lives (state.node_at number) is) in
      ap (λ (b : Bool). holds_in (entry number b)) (lt-ltb number state.next early)
      ∙ (same_holds (with_children (with_put index fresh)) (λ entry. refl) (nat_eq number parent) (state.node_at number) ∙ is)

  come_holds : (place : ℕ) → IsHolder nodes place → is_of may_hold more (state.next + place) ≡ true
  come_holds place (node, tag, acting, here, kind, apart) =
      let back : state.next + place - state.next ≡ place = omega arith in
      ap (λ (b : Bool). holds_in (entry (state.next + place) b)) (le-ltb (state.next + place) state.next (omega arith))
      ∙ (ap (λ (n : ℕ). holds_in (inserted_at placed own state.next n)) back
      ∙ (ap (λ (o : Option Node). holds_in (option_map (entry_from place) o)) (slice_get-map comes nodes place ∙ ap (option_map comes) here)
      ∙ rw (kind, not_br tag apart) refl))

  come_stands : (place upper : ℕ) (o : Option Node) → slice_get nodes place ≡ o → parent_of (option_map (entry_from place) (option_map comes o)) ≡ Some upper → is_of may_hold more upper ≡ true
  come_stands place upper None here stands = absurd (none-some upper stands)
  come_stands place upper (Some node) here stands =
      let is : parent_under parent state.next node.parent ≡ upper = ap (λ (o : Option ℕ). unwrap_or o 0) stands in
      subst (λ (n : ℕ). is_of may_hold more n ≡ true) is (elim (shaped.each place node here) [
        | inl none ↦ subst (λ (o : Option ℕ). is_of may_hold more (parent_under parent state.next o) ≡ true) (sym none) (old_holds parent holds)
        | inr (inner, its, low, before, holder) ↦ subst (λ (o : Option ℕ). is_of may_hold more (parent_under parent state.next o) ≡ true) (sym its) (come_holds inner holder)
      ])

  inserted_held : AreHeld state → AreHeld more
  inserted_held held number upper stands = elim (cases_lt number state.next) [
    | inl early ↦ old_holds upper (held number upper (sym (ap (λ (b : Bool). parent_of (entry number b)) (lt-ltb number state.next early) ∙ children_parent (with_put index fresh) (nat_eq number parent) (state.node_at number)) ∙ stands))
    | inr late ↦
        let place : ℕ = number - state.next in
        come_stands place upper (slice_get nodes place) refl
        (sym (ap (λ (b : Bool). parent_of (entry number b)) (le-ltb number state.next late) ∙ ap (λ (o : Option Node). parent_of (option_map (entry_from place) o)) (slice_get-map comes nodes place)) ∙ stands)
  ]

-- ---- each edit

pub edits_keep_held : EditsKeepHeld
edits_keep_held state (set_text number letters) can held =
    what_held state number (λ what. text letters) (λ entry at holds. absurd (text_holds entry.what (sym (ap (λ (o : Option Entry). unwrap_or (option_map (λ entry. is_element entry.what) o) false) at) ∙ text_is state number letters can.unrefused) holds)) held
edits_keep_held state (set_style number own) can held = what_held state number (with_own own) (λ entry at. own_holds own entry.what) held
edits_keep_held state (set_class number words) can held = what_held state number (with_classes words) (λ entry at. classes_hold words entry.what) held
edits_keep_held state (insert parent index nodes own) can held = inserted_held state can.whole parent index nodes own can.fitting.0 (insert_holds state parent index nodes own can.unrefused) held
edits_keep_held state (remove number) can held = removed_held state can.whole can.reached number held
edits_keep_held state (move_to number parent index) can held =
    let (alive, root) = move_passes state number parent index can.unrefused in
    moved_held state can.whole number parent index alive root (move_holds state number parent index can.unrefused) held
