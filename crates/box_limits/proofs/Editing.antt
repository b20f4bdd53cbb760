-- What an edit leaves to be judged.
use Rattle.std.proofs.Common.{◌≡◌, ◌∙◌, ℕ, zero, suc, ◌+◌, ◌-◌, ◌<◌, ◌≤◌, Bool, true, false, List, [], ◌∷◌, ◌++◌, length, take, drop, get_or, refl, ap, sym, subst, arith, Option, Some, None, option_map, inl}
use Rattle.std.specs.Prelude.{flat_map, nat_eq, nat_lt, is_none, is_some, option_and_then, unwrap_or, if◌then◌else◌}
use Rattle.std.specs.List.{Contains}
use Rattle.std.proofs.lemmas.Bool.{eq-eqb, eqb-false, lt-ltb, ltb-false}
use Rattle.std.proofs.lemmas.List.{drop_all, drop_more, length-append, length-take-le, take-append-drop, append_assoc}
use Rattle.std.proofs.lemmas.Option.{none-some}
use Rattle.std.proofs.Math.Seq.{drop-append_seam, take-append_seam}
use Rattle.css_types.specs.declared.value.Declaration.{Declaration}
use Rattle.css_types.specs.Rule.{Ruling}
use Rattle.html_read.specs.declared.node.ReadNode.{ReadNode}
use Rattle.html_read.specs.Values.{Node, nodes_of}
use Rattle.dom_store.specs.declared.error.EditError.{EditError}
use Rattle.dom_store.specs.declared.error.EditError.TheVariants.{BadIndex, IsRoot}
use Rattle.dom_store.specs.State.{What, Entry, State, line, line_to, line_with}
use Rattle.dom_store.specs.Building.{tops_from}
use Rattle.dom_store.specs.Laws.{KeepRoots}
use Rattle.dom_store.specs.Opening.{children_from, put_if}
use Rattle.dom_store.specs.Refusals.{bad_index, first_of, in_html, no_node, not_holder, refused_if, too_deep_under, too_many}
use Rattle.dom_store.specs.Standing.{below_levels, children_at, lives, parent_at}
use Rattle.dom_store.specs.Edits.{EditOf, after, insert, inserted_at, under, with_children, with_put}
use Rattle.dom_store.proofs.InsertLaws.{tops_under}
use Rattle.tree_laws.specs.Laws.{EditsKeepWhole}
use Rattle.tree_laws.specs.Reached.{EditsKeepReached, IsAtLevel}
use Rattle.tree_laws.proofs.Parents.{children_have_parents}
use Rattle.tree_laws.proofs.Refusing.{insert_passes, lives_below}
use Rattle.box_gen.specs.declared.found.Found.{Found}
use Rattle.box_gen.specs.Found.{nothing_found}
use Rattle.box_limits.specs.Limits.{AreCovered, EditsAreJudgedByTheirParts, IsEditedFrom, all_below, breaks, touched}
use Rattle.box_limits.specs.Lines.{is_past}
use Rattle.box_limits.specs.Judging.{AreInside, FindsAll, FindsBelow, IsTree, count_of_tops, one_unless}
use Rattle.box_limits.proofs.Among.{IsIn, contained, found, in_first, in_second, of_one, only}
use Rattle.box_limits.proofs.Judged.{html_children, placed_below}
use Rattle.box_limits.proofs.Leasts.{finds_all}
use Rattle.box_limits.proofs.Levels.{below_is, parent_is}

-- ---- nodes that stand in no other

pub count_more : (nodes : List ReadNode) (i : ℕ) (d : ReadNode) → i < length nodes → d ≡ get_or nodes i d → count_of_tops (nodes_of (drop i nodes)) ≡ one_unless d.parent + count_of_tops (nodes_of (drop (i + 1) nodes))
count_more nodes i d within is =
    ap (λ (l : List ReadNode). count_of_tops (nodes_of l)) (drop_more nodes i d within)
    ∙ ap (λ (n : ReadNode). one_unless n.parent + count_of_tops (nodes_of (drop (i + 1) nodes))) (sym is)

pub count_none : (nodes : List ReadNode) (i : ℕ) → length nodes ≤ i → count_of_tops (nodes_of (drop i nodes)) ≡ 0
count_none nodes i past = ap (λ (l : List ReadNode). count_of_tops (nodes_of l)) (drop_all i nodes past)

pub one_is : (o : Option ℕ) → is_some o ≡ false → one_unless o ≡ 1
one_is None is = refl
one_is (Some parent) is = absurd cc

pub none_is : (o : Option ℕ) → is_some o ≡ true → one_unless o ≡ 0
none_is None is = absurd cc
none_is (Some parent) is = refl

put_length : (o : Option ℕ) (at : ℕ) (others : List ℕ) → length (put_if (is_none o) at others) ≡ one_unless o + length others
put_length None at others = omega arith
put_length (Some parent) at others = omega arith

tops_length : (at : ℕ) (nodes : List Node) → length (tops_from at nodes) ≡ count_of_tops nodes
unfolding tops_from
tops_length at [] = refl
tops_length at (node ∷ nodes) = put_length node.parent at (tops_from (at + 1) nodes) ∙ ap (λ (n : ℕ). one_unless node.parent + n) (tops_length (at + 1) nodes)

-- ---- some children

pub in_part : (number count index : ℕ) (numbers : List ℕ) → IsIn number (take count (drop index numbers)) → IsIn number numbers
in_part number count index numbers there =
    let dropped : IsIn number (drop index numbers) = subst (IsIn number) (take-append-drop count (drop index numbers)) (in_first number (take count (drop index numbers)) (drop count (drop index numbers)) there) in
    subst (IsIn number) (take-append-drop index numbers) (in_second number (take index numbers) (drop index numbers) dropped)

pub part_inside : (state : State) (parent : ℕ) → (level : ℕ) × IsAtLevel state (level + 1) parent → (count index : ℕ) (numbers : List ℕ) → numbers ≡ children_at state parent → AreInside state parent (take count (drop index numbers))
part_inside state parent below count index numbers are = record {
  below = below;
  children = λ number there. contained number (children_at state parent) (subst (IsIn number) are (in_part number count index numbers (found number (take count (drop index numbers)) there)));
}

-- ---- in a document

module _ (rules : List Ruling) (state : State) (tree : IsTree state) where
  pub body_inside : (numbers : List ℕ) → numbers ≡ children_at state 1 → AreInside state 1 numbers
  body_inside numbers are = record {
    below = (0, (0, refl, contained 1 (children_at state 0) (subst (IsIn 1) (sym (html_children rules state tree.rooted)) (inl refl))));
    children = λ number there. subst (λ (l : List ℕ). Contains l number) are there;
  }

  pub all_from_body : (numbers : List ℕ) → numbers ≡ children_at state 1 → (result : Found) → FindsBelow rules state numbers result → FindsAll rules state result
  all_from_body numbers are result finds =
      finds_all rules state tree (all_below state (children_at state 1)) result
      (λ number living good. contained number (all_below state (children_at state 1)) (placed_below rules state tree.rooted tree.whole tree.reached number living good))
      (subst (λ (l : List ℕ). FindsBelow rules state l result) are finds)

  pub all_from : (numbers : List ℕ) (result : Found) → FindsBelow rules state numbers result → AreCovered rules state (all_below state numbers) → FindsAll rules state result
  all_from numbers result finds covered = finds_all rules state tree (all_below state numbers) result covered finds

  -- a node that isn't `html` or `body` stands in `body` or below it
  above_it : (level number : ℕ) → 1 < number → IsAtLevel state level number → (parent : ℕ) × (parent_at state number ≡ Some parent) × ((upper : ℕ) × IsAtLevel state (upper + 1) parent) × Contains (children_at state parent) number
  above_it zero number more at = absurd (omega (arith, more, at))
  above_it (suc zero) number more (parent, at, there) =
      let one : number ≡ 1 = only 1 number (subst (IsIn number) (html_children rules state tree.rooted) (subst (λ (n : ℕ). IsIn number (children_at state n)) at (found number (children_at state parent) there))) in
      absurd (omega (arith, more, one))
  above_it (suc (suc level)) number more (parent, at, there) =
      let same : suc level ≡ level + 1 = omega arith in
      (parent, parent_is state tree.whole parent number (found number (children_at state parent) there), (level, subst (λ (n : ℕ). IsAtLevel state n parent) same at), there)

  same_number : (one other : ℕ) → Some one ≡ Some other → one ≡ other
  same_number one other is = ap (λ (o : Option ℕ). unwrap_or o one) is

  lives_with : (parent : ℕ) (o : Option Entry) → option_and_then (λ entry. entry.parent) o ≡ Some parent → is_some o ≡ true
  lives_with parent None is = absurd (none-some parent is)
  lives_with parent (Some entry) is = refl

  pub one_inside : (number parent : ℕ) → 1 < number → parent_at state number ≡ Some parent → AreInside state parent (number ∷ [])
  one_inside number parent more is =
      let (level, within, at) = tree.reached.reached number (lives_with parent (state.node_at number) is) in
      let (upper, its, below, there) = above_it level number more at in
      let same : upper ≡ parent = same_number upper parent (sym its ∙ is) in
      record {
        below = subst (λ (p : ℕ). (upper : ℕ) × IsAtLevel state (upper + 1) p) same below;
        children = λ other among. subst (λ (n : ℕ). Contains (children_at state parent) n) (sym (only number other (found other (number ∷ []) among))) (subst (λ (p : ℕ). Contains (children_at state p) number) same there);
      }

  -- a number under which no node lives
  nobody : (number : ℕ) → 1 < number → parent_at state number ≡ None → (o : Option Entry) → state.node_at number ≡ o → o ≡ None
  nobody number more none None is = refl
  nobody number more none (Some entry) is =
      let (level, within, at) = tree.reached.reached number (ap (λ (o : Option Entry). is_some o) is) in
      let (upper, its, below, there) = above_it level number more at in
      absurd (none-some upper (sym none ∙ its))

  below_nobody : (number other : ℕ) → state.node_at number ≡ None → IsIn other (all_below state (number ∷ [])) → other ≡ number
  below_nobody number other is there =
      let (first, among, at) = of_one (below_levels 0 64 state) other (number ∷ []) there in
      let none : children_at state number ≡ [] = ap (λ (o : Option Entry). unwrap_or (option_map (λ entry. entry.children) o) []) is in
      let alone : below_levels 0 64 state number ≡ number ∷ [] = below_is state 63 number ∙ ap (λ (l : List ℕ). number ∷ flat_map (below_levels 0 63 state) l) none in
      only number other (subst (IsIn other) alone (subst (λ (n : ℕ). IsIn other (below_levels 0 64 state n)) (only number first among) at))

  silent : (number : ℕ) → state.node_at number ≡ None → (other : ℕ) → Contains (all_below state (number ∷ [])) other → breaks rules state other ≡ false
  unfolding line_to
  silent number dead other there =
      let same : other ≡ number = below_nobody number other dead (found other (all_below state (number ∷ [])) there) in
      let none : line state number ≡ [] = ap (line_with (line_to 63 state)) dead in
      ap (breaks rules state) same ∙ ap (is_past rules) none

  pub nobody_found : (number : ℕ) → 1 < number → parent_at state number ≡ None → (result : Found) → result ≡ nothing_found → FindsBelow rules state (number ∷ []) result
  nobody_found number more none result is =
      subst (FindsBelow rules state (number ∷ [])) (sym is) (silent number (nobody number more none (state.node_at number) refl))

  pub nothing_touched : (result : Found) → result ≡ nothing_found → AreCovered rules state (all_below state []) → FindsAll rules state result
  nothing_touched result is covered =
      subst (FindsAll rules state) (sym is) (finds_all rules state tree [] nothing_found covered (λ number there. absurd (found number [] there)))

-- ---- after an edit

module _ (rules : List Ruling) (edit : EditOf) (next state : State) (edited : IsEditedFrom rules edit next state) where
  pub edited_tree : KeepRoots → EditsKeepWhole → EditsKeepReached → IsTree next
  edited_tree keep_roots keep_whole keep_reached = subst IsTree (sym edited.is) (record {
    rooted = keep_roots state edit edited.rooted (children_have_parents state edited.whole) edited.taken;
    whole = keep_whole state edit edited.whole edited.taken;
    reached = keep_reached state edit edited.fitting edited.rooted edited.whole edited.reached edited.taken;
  })

  pub covered : EditsAreJudgedByTheirParts → AreCovered rules next (all_below next (touched state edit))
  covered judged =
      subst (λ (s : State). AreCovered rules s (all_below s (touched state edit))) (sym edited.is)
      (judged rules state edit edited.fitting edited.rooted edited.whole edited.reached edited.taken edited.within)

  pub untouched_all : IsTree next → EditsAreJudgedByTheirParts → touched state edit ≡ [] → (result : Found) → result ≡ nothing_found → FindsAll rules next result
  untouched_all tree judged none result is = nothing_touched rules next tree result is (subst (λ (l : List ℕ). AreCovered rules next (all_below next l)) none (covered judged))

  pub one_touched : EditsAreJudgedByTheirParts → (number : ℕ) → touched state edit ≡ number ∷ [] → (result : Found) → (AreCovered rules next (all_below next (number ∷ [])) → FindsAll rules next result) → FindsAll rules next result
  one_touched judged number one result finds = finds (subst (λ (l : List ℕ). AreCovered rules next (all_below next l)) one (covered judged))

-- ---- after nodes came

passed : (reason : Option EditError) (others : List (Option EditError)) → first_of (reason ∷ others) ≡ None → (reason ≡ None) × (first_of others ≡ None)
passed None others is = (refl, is)
passed (Some error) others is = absurd (none-some error (sym is))

not_refused : (test : Bool) (error : EditError) → refused_if test error ≡ None → test ≡ false
not_refused true error is = absurd (none-some error (sym is))
not_refused false error is = refl

children_put : (change : List ℕ → List ℕ) (here : Bool) (o : Option Entry) → here ≡ true → is_some o ≡ true
    → unwrap_or (option_map (λ entry. entry.children) (if here then option_map (with_children change) o else o)) [] ≡ change (unwrap_or (option_map (λ entry. entry.children) o) [])
children_put change true None so living = absurd cc
children_put change true (Some entry) so living = refl
children_put change false o so living = absurd cc

taken_back : (index : ℕ) (tops children : List ℕ) → index ≤ length children → take (length tops) (drop index (with_put index tops children)) ≡ tops
taken_back index tops children within =
    let long : length (take index children) ≡ index = length-take-le index children within in
    let first : drop index (take index children ++ (tops ++ drop index children)) ≡ tops ++ drop index children =
    ap (λ (n : ℕ). drop n (take index children ++ (tops ++ drop index children))) (sym long) ∙ drop-append_seam (take index children) (tops ++ drop index children) in
    ap (λ (l : List ℕ). take (length tops) (drop index l)) (append_assoc (take index children) tops (drop index children))
    ∙ ap (take (length tops)) first ∙ take-append_seam tops (drop index children)

module _ (rules : List Ruling) (parent index : ℕ) (nodes : List Node) (own : List (List Declaration)) (next state : State) (edited : IsEditedFrom rules (insert parent index nodes own) next state) where
  within_next : parent < state.next
  within_next = lives_below state edited.whole parent (insert_passes state parent index nodes own edited.taken).0

  abbrev tops : List ℕ
  tops = tops_from state.next nodes

  new_children : children_at next parent ≡ with_put index tops (children_at state parent)
  new_children =
      let change = with_put index (children_from state.next parent (under parent state.next nodes)) in
      ap (λ (s : State). children_at s parent) edited.is
      ∙ ap (λ (b : Bool). unwrap_or (option_map (λ entry. entry.children) (if b then (if nat_eq parent parent then option_map (with_children change) (state.node_at parent) else state.node_at parent) else inserted_at (under parent state.next nodes) own state.next (parent - state.next))) []) (lt-ltb parent state.next within_next)
      ∙ children_put change (nat_eq parent parent) (state.node_at parent) (eq-eqb parent parent refl) (insert_passes state parent index nodes own edited.taken).0
      ∙ ap (λ (l : List ℕ). with_put index l (children_at state parent)) (tops_under parent state.next within_next state.next nodes)

  reasons_ : (parent ≡ 0 → ⊥) × (index ≤ length (children_at state parent))
  reasons_ =
      let rest : List (Option EditError) = too_many state (length nodes) ∷ too_deep_under state parent nodes ∷ [] in
      let one = passed (no_node state (parent ∷ [])) (in_html parent ∷ not_holder state parent ∷ bad_index index (children_at state parent) ∷ rest) edited.taken in
      let two = passed (in_html parent) (not_holder state parent ∷ bad_index index (children_at state parent) ∷ rest) one.1 in
      let three = passed (not_holder state parent) (bad_index index (children_at state parent) ∷ rest) two.1 in
      let four = passed (bad_index index (children_at state parent)) rest three.1 in (
        eqb-false parent 0 (not_refused (nat_eq parent 0) IsRoot two.0),
        ltb-false (length (children_at state parent)) index (not_refused (nat_lt (length (children_at state parent)) index) BadIndex four.0),
      )

  pub new_within : (count : ℕ) → count ≡ count_of_tops nodes → index + count ≤ length (children_at next parent)
  new_within count is =
      let long = length-take-le index (children_at state parent) reasons_.1 in
      omega (arith, is, tops_length state.next nodes, ap (λ (l : List ℕ). length l) new_children, length-append (take index (children_at state parent) ++ tops) (drop index (children_at state parent)), length-append (take index (children_at state parent)) tops, long)

  pub new_part : (count : ℕ) → count ≡ count_of_tops nodes → take count (drop index (children_at next parent)) ≡ tops
  new_part count is =
      ap (λ (n : ℕ). take n (drop index (children_at next parent))) (is ∙ sym (tops_length state.next nodes))
      ∙ ap (λ (l : List ℕ). take (length tops) (drop index l)) new_children
      ∙ taken_back index tops (children_at state parent) reasons_.1

  parent_lives : lives next parent ≡ true
  parent_lives =
      let change = with_children (with_put index (children_from state.next parent (under parent state.next nodes))) in
      ap (λ (s : State). lives s parent) edited.is
      ∙ ap (λ (b : Bool). is_some (if b then (if nat_eq parent parent then option_map change (state.node_at parent) else state.node_at parent) else inserted_at (under parent state.next nodes) own state.next (parent - state.next))) (lt-ltb parent state.next within_next)
      ∙ still (nat_eq parent parent) change (state.node_at parent)
      ∙ (insert_passes state parent index nodes own edited.taken).0
    where
      still : (here : Bool) (change : Entry → Entry) (o : Option Entry) → is_some (if here then option_map change o else o) ≡ is_some o
      still true change None = refl
      still true change (Some entry) = refl
      still false change o = refl

  pub new_below : IsTree next → (level : ℕ) × IsAtLevel next (level + 1) parent
  new_below tree = let (level, within, at) = tree.reached.reached parent parent_lives in lower level at
    where
      lower : (level : ℕ) → IsAtLevel next level parent → (upper : ℕ) × IsAtLevel next (upper + 1) parent
      lower zero at = absurd (reasons_.0 at)
      lower (suc level) at = let same : suc level ≡ level + 1 = omega arith in (level, subst (λ (n : ℕ). IsAtLevel next n parent) same at)

  pub new_all : IsTree next → EditsAreJudgedByTheirParts → (count : ℕ) → count ≡ count_of_tops nodes → (result : Found) → FindsBelow rules next (take count (drop index (children_at next parent))) result → FindsAll rules next result
  new_all tree judged count is result finds =
      all_from rules next tree tops result (subst (λ (l : List ℕ). FindsBelow rules next l result) (new_part count is) finds) (covered rules (insert parent index nodes own) next state edited judged)
