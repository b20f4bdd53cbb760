-- Both halves of the step of an edit can be done.
use Rattle.std.proofs.Common.{◌≡◌, ◌≢◌, ◌∙◌, ℕ, zero, suc, ◌+◌, ◌-◌, ◌<◌, ◌≤◌, Bool, true, false, List, [], ◌∷◌, ◌++◌, length, drop, refl, ap, sym, subst, arith, Option, Some, None, option_map, if◌then◌else◌, inl, inr}
use Rattle.std.specs.Prelude.{nat_eq, not}
use Rattle.std.specs.List.{Contains, slice_get}
use Rattle.std.proofs.lemmas.Bool.{cases_eq, cases_lt, eq-eqb, eqb-false, or_parts}
use Rattle.std.proofs.lemmas.List.Elements.{Contains-append_cases, Contains-append_left, Contains-append_right}
use Rattle.basic_laws.proofs.Lists.{any_contained, contains_cases, contains_equal, contains_first, contains_none, contains_only, contains_other}
use Rattle.css_types.specs.declared.value.Declaration.{Declaration}
use Rattle.html_read.specs.Values.{Node}
use Rattle.dom_store.specs.State.{What, Entry, State, element, greatest_depth, text, IsRooted}
use Rattle.dom_store.specs.Building.{FollowParents, with_next}
use Rattle.dom_store.specs.Standing.{ancestors_to, below_levels, children_at, depth_at, inclusive_ancestors, inclusive_descendants, lives, parent_at}
use Rattle.dom_store.specs.Edits.{set_text, set_style, set_class, insert, remove, move_to, changed, moved, parent_under, removed, under, with_children, with_classes, with_moved, with_own, without}
use Rattle.dom_store.specs.Exact.{exact_move, restore}
use Rattle.dom_store.specs.Exactly.{CanBeDone, CanStand}
use Rattle.dom_store.specs.Refusals.{is_element, is_of, may_hold, refusal}
use Rattle.dom_store.specs.Steps.{letters_of, numbered_below, numbered_from, place_in, told_of}
use Rattle.dom_store.proofs.InsertLaws.{fragment_follows}
use Rattle.dom_store.proofs.JudgeLaws.{enters}
use Rattle.dom_store.proofs.MoveLaws.{filter_twice}
use Rattle.dom_store.proofs.StandLaws.{up_none}
use Rattle.tree_laws.specs.Doable.{StepsCanBeTakenBack, StepsCanBeDoneAgain}
use Rattle.tree_laws.specs.Held.{AreHeld}
use Rattle.tree_laws.specs.Reached.{IsAtLevel, IsReached}
use Rattle.tree_laws.specs.Wholeness.{IsWhole, times}
use Rattle.tree_laws.proofs.Holding.{child_lives, holder_lives, moved_holds}
use Rattle.tree_laws.proofs.Judging.{MayMove, element_may, may_move, move_alike, not_among, place_low, text_may}
use Rattle.tree_laws.proofs.Keeping.{children_of, fewer_at, left, left_fewer, moved_children, moved_parent, moved_whole, other_parent}
use Rattle.tree_laws.proofs.Levels.{IsBelow, chain_of_descendant, contained_times, level_below, level_depth, parent_of_child, times_contained}
use Rattle.tree_laws.proofs.Refusing.{lives_below, move_passes, move_root, moves, remove_passes}
use Rattle.tree_laws.proofs.Restoring.{removed_next}
use Rattle.tree_laws.proofs.Staying.{moved_reached}
use Rattle.tree_laws.proofs.Stepped.{StandsIn, holder_is, stands_in}
use Rattle.tree_laws.proofs.Stepping.{out_again}
use Rattle.tree_laws.proofs.Times.{others_moved}
use Rattle.tree_laws.proofs.Turning.{can_stand, turns_below}
use Rattle.tree_laws.proofs.Uniqueness.{one_level}

-- ---- an insertion that is done again

-- nodes of a list stand behind their parent and those before them, the first of them under the number `at`
module _ (state : State) (whole : IsWhole state) (parent bound : ℕ) where
  come_in_turn : (nodes : List Node) (own : List (List Declaration)) (at : ℕ) (standing : List ℕ) → state.next ≤ at → at + length nodes ≤ bound → Contains standing parent
      → ((number : ℕ) → Contains standing number → number < at) → ((number : ℕ) → state.next ≤ number → number < at → Contains standing number)
      → ((place upper : ℕ) (node : Node) → slice_get nodes place ≡ Some node → node.parent ≡ Some upper → state.next + upper < at + place)
      → CanStand (with_next bound state) standing (numbered_from at (under parent state.next nodes) own)
  unfolding CanStand numbered_from
  come_in_turn [] own at standing late low stands early all follow = tt
  come_in_turn (node ∷ nodes) own at standing late low stands early all follow = (
    record {
      drawn = omega (arith, low);
      gone = whole.below at late;
      once = not_among standing at (λ there. omega (arith, early at there));
      parent = any_contained standing (parent_under parent state.next node.parent) (its_parent node.parent refl);
    },
    come_in_turn nodes (drop 1 own) (at + 1) (standing ++ at ∷ []) (omega (arith, late)) (omega (arith, low)) (Contains-append_left standing (at ∷ []) parent stands)
        (λ number there. elim (Contains-append_cases standing (at ∷ []) number there) [
          | inl before ↦ omega (arith, early number before)
          | inr last ↦ omega (arith, contains_only at number last)
        ])
        (λ number drawn less. elim (cases_lt number at) [
          | inl before ↦ Contains-append_left standing (at ∷ []) number (all number drawn before)
          | inr last ↦ Contains-append_right standing (at ∷ []) number (contains_equal at number [] (omega (arith, less, last)))
        ])
        (λ place upper other here is. omega (arith, follow (suc place) upper other here is)),
  )
    where
      its_parent : (o : Option ℕ) → node.parent ≡ o → Contains standing (parent_under parent state.next o)
      its_parent None is = stands
      its_parent (Some upper) is = all (state.next + upper) (omega arith) (omega (arith, follow 0 upper node refl is))

-- ---- a node that was removed stands again

left_children : (number : ℕ) (o : Option Entry) → children_of (option_map (with_children (without number)) o) ≡ without number (children_of o)
left_children number None = refl
left_children number (Some entry) = refl

module _ (state : State) (whole : IsWhole state) (reached : IsReached state) (number parent : ℕ) (is : parent_at state number ≡ Some parent) (there : Contains (children_at state parent) number) (level : ℕ) (low : suc level < greatest_depth) (at : IsAtLevel state level parent) where
  abbrev gone : List ℕ
  gone = inclusive_descendants state number

  parent_stays : Contains gone parent → ⊥
  parent_stays goes =
      let (levels, none, few, below) = chain_of_descendant state greatest_depth 0 number parent goes in
      let lower = level_below state (suc level) levels number parent (parent, at, there) below in
      omega (arith, one_level state whole level (suc level + levels) parent at lower)

  its_place : place_in number (children_at state parent) ≤ length (children_at (removed state number) parent)
  its_place =
      let stays : children_at (removed state number) parent ≡ children_at (left state number (parent_at state number)) parent =
      ap (λ (b : Bool). children_of (if b then None else (left state number (parent_at state number)).node_at parent)) (not_among gone parent parent_stays) in
      let here : children_at (left state number (Some parent)) parent ≡ children_of (option_map (with_children (without number)) (state.node_at parent)) =
      ap (λ (b : Bool). children_of (if b then option_map (with_children (without number)) (state.node_at parent) else state.node_at parent)) (eq-eqb parent parent refl) in
      let same : children_at (removed state number) parent ≡ without number (children_at state parent) =
      stays ∙ (ap (λ (o : Option ℕ). children_at (left state number o) parent) is ∙ (here ∙ left_children number (state.node_at parent))) in
      subst (λ (l : List ℕ). place_in number (children_at state parent) ≤ length l) (sym same) (place_low number (children_at state parent))

  stands_again : (next : ℕ) → (removed state number).next ≤ next → CanStand (with_next next (removed state number)) (parent ∷ []) (numbered_below state number)
  stands_again next drawn =
      can_stand state (with_next next (removed state number)) whole (omega (arith, drawn, removed_next state whole reached number parent is there level low at)) gone (parent ∷ [])
      (λ other goes. ap (λ (b : Bool). if b then None else (left state number (parent_at state number)).node_at other) (any_contained gone other goes))
      (turns_below state whole greatest_depth level number parent (parent ∷ []) at there (contains_first parent [])
      (λ other goes before. parent_stays (subst (Contains gone) (sym (contains_only parent other before)) goes)))

-- ---- a node that was moved goes back

module _ (state : State) (whole : IsWhole state) where
  -- a node's ancestors are at its level or above
  above_level : (most level number top : ℕ) → IsAtLevel state level number → Contains (ancestors_to most state (Some number)) top → (higher : ℕ) × (higher ≤ level) × IsAtLevel state higher top
  unfolding ancestors_to
  above_level zero level number top at there = absurd (contains_none top there)
  above_level (suc most) zero number top at there = elim (contains_cases number top (ancestors_to most state (parent_at state number)) there) [
    | inl same ↦ (0, omega arith, sym same ∙ at)
    | inr higher ↦ absurd (contains_none top (subst (λ (l : List ℕ). Contains l top) (ap (ancestors_to most state) (ap (parent_at state) at ∙ whole.html) ∙ up_none most state) higher))
  ]
  above_level (suc most) (suc level) number top (parent, at, among) there = elim (contains_cases number top (ancestors_to most state (parent_at state number)) there) [
    | inl same ↦ (suc level, omega arith, subst (IsAtLevel state (suc level)) same (parent, at, among))
    | inr higher ↦
        let (level_of, low, its) = above_level most level parent top at (subst (λ (o : Option ℕ). Contains (ancestors_to most state o) top) (parent_of_child state whole parent number among) higher) in
        (level_of, omega (arith, low), its)
  ]

put_out : (number index : ℕ) (here : Bool) (o : Option Entry) → without number (children_of (if here then option_map (with_children (with_moved number index)) o else o)) ≡ without number (children_of o)
put_out number index true None = refl
put_out number index true (Some entry) = out_again number index entry.children
put_out number index false o = refl

left_out : (number : ℕ) (here : Bool) (o : Option Entry) → without number (children_of (if here then option_map (with_children (without number)) o else o)) ≡ without number (children_of o)
left_out number true None = refl
left_out number true (Some entry) = filter_twice (λ (child : ℕ). not (nat_eq child number)) entry.children
left_out number false o = refl

left_out_of : (state : State) (number : ℕ) (parent : Option ℕ) (other : ℕ) → without number (children_at (left state number parent) other) ≡ without number (children_at state other)
left_out_of state number None other = refl
left_out_of state number (Some parent) other = left_out number (nat_eq other parent) (state.node_at other)

module _ (state : State) (whole : IsWhole state) (reached : IsReached state) (rooted : IsRooted state) (held : AreHeld state) (number parent index : ℕ) (unrefused : refusal state (move_to number parent index) ≡ None) (stands : StandsIn state number) where
  abbrev new : State
  new = moved state number parent index

  abbrev from : ℕ
  from = stands.parent

  abbrev away : State
  away = left state number (parent_at state number)

  abbrev its_level : IsAtLevel state (suc stands.level) number
  its_level = (from, stands.at, stands.there)

  alive : lives state number ≡ true
  alive = (move_passes state number parent index unrefused).0

  root : number ≢ 0
  root = (move_passes state number parent index unrefused).1

  new_whole : IsWhole new
  new_whole = moved_whole state whole number parent index alive root

  new_reached : IsReached new
  new_reached = moved_reached state whole reached number parent index (moves state number parent index unrefused)

  new_alive : lives new number ≡ true
  new_alive = child_lives (new.node_at number) parent (moved_parent state whole number parent index alive root)

  -- other children stood where they stand
  child_was : (upper other : ℕ) → other ≢ number → Contains (children_at new upper) other → Contains (children_at state upper) other
  child_was upper other apart there =
      let now = times_contained (children_at new upper) other there in
      let same : times other (children_at new upper) ≡ times other (children_at (changed away parent (with_children (with_moved number index))) upper) = ap (times other) (moved_children state whole number parent index alive root upper) in
      contained_times (children_at state upper) other
      (omega (arith, now, same, fewer_at other (with_moved number index) (λ children. others_moved number index other children apart) (nat_eq upper parent) (away.node_at upper), left_fewer state number (parent_at state number) other upper))

  -- and nodes below it stood so far below it
  below_was : (levels other : ℕ) → IsBelow new number levels other → IsBelow state number levels other
  below_was zero other same = same
  below_was (suc levels) other (upper, below, there) = elim (cases_eq other number) [
    | inl same ↦
        let (deep, low, at) = new_reached.reached number new_alive in
        let lower = level_below new deep (suc levels) number other at (upper, below, there) in
        absurd (omega (arith, one_level new new_whole deep (deep + suc levels) number at (subst (IsAtLevel new (deep + suc levels)) same lower)))
    | inr apart ↦ (upper, below_was levels upper below, child_was upper other apart there)
  ]

  below_lives : (levels other : ℕ) → IsBelow state number levels other → lives state other ≡ true
  below_lives zero other same = ap (lives state) same ∙ alive
  below_lives (suc levels) other (upper, below, there) = child_lives (state.node_at other) upper (parent_of_child state whole upper other there)

  not_above : Contains (inclusive_ancestors state from) number → ⊥
  not_above there =
      let (higher, low, at) = above_level state whole greatest_depth stands.level from number stands.at there in
      omega (arith, low, one_level state whole higher (suc stands.level) number at its_level)

  same_above : (most : ℕ) (o : Option ℕ) → (Contains (ancestors_to most state o) number → ⊥) → ancestors_to most new o ≡ ancestors_to most state o
  unfolding ancestors_to
  same_above zero o apart = refl
  same_above (suc most) None apart = refl
  same_above (suc most) (Some other) apart =
      let differs : other ≢ number = λ same. apart (contains_equal other number (ancestors_to most state (parent_at state other)) (sym same)) in
      ap (λ (l : List ℕ). other ∷ l)
      (ap (ancestors_to most new) (other_parent state whole number parent index alive root other differs)
      ∙ same_above most (parent_at state other) (λ there. apart (contains_other other number (ancestors_to most state (parent_at state other)) there)))

  ancestors_stay : inclusive_ancestors new from ≡ inclusive_ancestors state from
  ancestors_stay = same_above greatest_depth (Some from) not_above

  in_body : from ≢ 0
  in_body same =
      let (html, here, kind, alone, children) = rooted.html in
      let among : Contains (1 ∷ []) number = subst (λ (l : List ℕ). Contains l number) (ap (children_at state) same ∙ (ap children_of here ∙ children)) stands.there in
      eqb-false number 1 (or_parts (nat_eq number 0) (nat_eq number 1) (move_root state number parent index unrefused)).1 (sym (contains_only 1 number among))

  holds_now : is_of may_hold new from ≡ true
  holds_now = moved_holds state number parent index from ∙ held number from stands.is

  place_within : place_in number (children_at state from) ≤ length (without number (children_at new from))
  place_within =
      let same : without number (children_at new from) ≡ without number (children_at state from) =
      ap (without number) (moved_children state whole number parent index alive root from)
      ∙ (put_out number index (nat_eq from parent) (away.node_at from) ∙ left_out_of state number (parent_at state number) from) in
      subst (λ (l : List ℕ). place_in number (children_at state from) ≤ length l) (sym same) (place_low number (children_at state from))

  none_too_deep : (other : ℕ) → Contains (below_levels (greatest_depth - depth_at new from) greatest_depth new number) other → ⊥
  none_too_deep other there =
      let (levels, deep, few, below) = chain_of_descendant new greatest_depth (greatest_depth - depth_at new from) number other there in
      let depth : depth_at new from ≡ stands.level + 1 = ap (λ (l : List ℕ). length l) ancestors_stay ∙ level_depth state whole stands.level from (omega (arith, stands.low)) stands.at in
      let was = below_was levels other below in
      let (level, low, at) = reached.reached other (below_lives levels other was) in
      omega (arith, deep, depth, low, one_level state whole level (suc stands.level + levels) other at (level_below state (suc stands.level) levels number other its_level was))

  may_go_back : MayMove new number from (place_in number (children_at state from))
  may_go_back = record {
    alive = new_alive;
    parent_alive = holder_lives (new.node_at from) holds_now;
    root = move_root state number parent index unrefused;
    beside = in_body;
    holds = holds_now;
    apart = λ there. not_above (subst (λ (l : List ℕ). Contains l number) ancestors_stay there);
    within = place_within;
    shallow = none_too_deep;
  }

-- ---- each edit

own_element : (own : List Declaration) (what : What) → is_element (with_own own what) ≡ is_element what
own_element own (element tag id classes dir before) = refl
own_element own (text letters) = refl

classes_element : (words : List (List ℕ)) (what : What) → is_element (with_classes words what) ≡ is_element what
classes_element words (element tag id classes dir own) = refl
classes_element words (text letters) = refl

pub steps_can_be_taken_back : StepsCanBeTakenBack
steps_can_be_taken_back state (set_text number letters) can held next drawn = text_may state number next letters (told_of letters_of state number) can.unrefused
steps_can_be_taken_back state (set_style number own) can held next drawn = element_may state number next (with_own own) (own_element own) can.unrefused
steps_can_be_taken_back state (set_class number words) can held next drawn = element_may state number next (with_classes words) (classes_element words) can.unrefused
steps_can_be_taken_back state (insert parent index nodes own) can held next drawn = tt
steps_can_be_taken_back state (remove number) can held next drawn =
    let (alive, root) = remove_passes state number can.unrefused in
    let stands = stands_in state (remove number) number can alive root in
    subst (λ (p : ℕ). CanBeDone (with_next next (removed state number)) (restore p (place_in number (children_at state p)) (numbered_below state number))) (sym (holder_is state number stands)) (
      its_place state can.whole can.reached number stands.parent stands.is stands.there stands.level stands.low stands.at,
      stands_again state can.whole can.reached number stands.parent stands.is stands.there stands.level stands.low stands.at next drawn,
    )
steps_can_be_taken_back state (move_to number parent index) can held next drawn =
    let (alive, root) = move_passes state number parent index can.unrefused in
    let stands = stands_in state (move_to number parent index) number can alive root in
    let new = moved state number parent index in
    subst (λ (p : ℕ). CanBeDone (with_next next new) (exact_move number p (place_in number (children_at state p)))) (sym (holder_is state number stands))
    (move_alike next new number stands.parent (place_in number (children_at state stands.parent))
    ∙ may_move new number stands.parent (place_in number (children_at state stands.parent)) (may_go_back state can.whole can.reached can.rooted held number parent index can.unrefused stands))

pub steps_can_be_done_again : StepsCanBeDoneAgain
steps_can_be_done_again state (set_text number letters) can next drawn = can.unrefused
steps_can_be_done_again state (set_style number own) can next drawn = can.unrefused
steps_can_be_done_again state (set_class number words) can next drawn = can.unrefused
steps_can_be_done_again state (insert parent index nodes own) can next drawn =
    let enter = enters state parent index nodes own can.unrefused in
    let early : parent < state.next = lives_below state can.whole parent enter.lives in
    let follow : FollowParents nodes = fragment_follows nodes can.fitting.0 in (
      enter.within,
      come_in_turn state can.whole parent next nodes own state.next (parent ∷ []) (omega arith) (omega (arith, drawn)) (contains_first parent [])
          (λ number there. omega (arith, early, contains_only parent number there))
          (λ number late before. absurd (omega (arith, late, before)))
          (λ place upper node here is. omega (arith, follow.each place upper node here is)),
    )
steps_can_be_done_again state (remove number) can next drawn = tt
steps_can_be_done_again state (move_to number parent index) can next drawn = move_alike next state number parent index ∙ can.unrefused
