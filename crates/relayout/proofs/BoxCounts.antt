-- What a box has cost so far, call by call.
use Rattle.std.proofs.Common.{◌≡◌, ◌∙◌, refl, sym, ap, subst, arith, ℕ, zero, ◌+◌, ◌≤◌, Bool, true, false, List, Option, Some, None, ℤ, inl, inr}
use Rattle.std.specs.Prelude.{IfSome, IsSome}
use Rattle.std.proofs.lemmas.Bool.{cases_eq}
use Rattle.std.proofs.lemmas.Option.{same_Some}
use Rattle.fragment_types.specs.declared.constraint.Constraint.{Constraint}
use Rattle.fragment_types.specs.Fragment.{Pieces}
use Rattle.box_arena.specs.Arena.{Keeps}
use Rattle.box_arena.specs.At.{IsAbove, Node, Slots, first_at, kept_at, links_at, node_at, text_at}
use Rattle.box_arena.specs.Boxes.{StandFrom}
use Rattle.box_arena.specs.Links.{IsIn, IsLinked}
use Rattle.box_gen.specs.Tree.{Boxes, none as no_boxes}
use Rattle.para_prepare.specs.Preparation.{Preparation}
use Rattle.relayout.specs.declared.row.Row.{Row}
use Rattle.relayout.specs.declared.row.RowBox.{RowBox}
use Rattle.relayout.specs.declared.flowing.Begun.{Begun}
use Rattle.relayout.specs.declared.flowing.SizedBox.{SizedBox}
use Rattle.relayout.specs.declared.sizes.Containing.{Containing}
use Rattle.relayout.specs.declared.sizing.InlineSize.{InlineSize}
use Rattle.relayout.specs.declared.sizing.Sizing.{Sizing}
use Rattle.relayout.specs.Asks.{contributes_by, contributes_under, put_by, put_under}
use Rattle.relayout.specs.Boxed.{handed_on}
use Rattle.relayout.specs.Counts.{AreFounded, Ask, Counters, Covers, HasSeen, HaveKeys, IsFounded, IsRowKept, RowCosts, RowDone, SeeingCosts, kept_for, missing, textless}
use Rattle.relayout.specs.Flow.{members}
use Rattle.relayout.specs.Flowing.{IsBegun, IsSized}
use Rattle.relayout.specs.Inline.{Outside}
use Rattle.relayout.specs.Kept.{containing_at}
use Rattle.relayout.specs.Paragraph.{HasText}
use Rattle.relayout.specs.Row.{StandsIn, row_in}
use Rattle.relayout.specs.Sizes.{containing_of}
use Rattle.relayout.specs.Step.{contributing, definite_under, inline_size_by, inline_size_of, is_measured, laid_inside, sizing_of, under, used_in}
use Rattle.relayout.proofs.CountLaws.{Follows, above_on, covers_on, follows_then, founded_here, founded_same, have_keys_on, if_some_on, is_in_on, lacking_falls, lacking_less, lacking_some, row_kept_on, same_first, stand_on, stood_back}
use Rattle.relayout.proofs.Counting.{BoxCosts, BoxCovered, BoxDone, ChildrenCovered, KeysIn}
use Rattle.relayout.proofs.KeptLaws.{constraint_cases}
use Rattle.relayout.proofs.RowLaws.{Arena}

-- a box on the way: nothing is kept for it yet, and what was spent is kept
pub record SoFar (outside : Outside) (old now : Slots Preparation) (own : RowBox) (was is : Counters) : Type 0 where
  pub gone : kept_at old own.key own.c ≡ None
  pub follows : Follows old now
  pub same : (k : ℕ) → IsAbove old k own.key → (c : Constraint) → kept_at now k c ≡ kept_at old k c
  pub founded : AreFounded outside old → AreFounded outside now
  pub texts : (node : Node) → node_at old own.key ≡ Some node → (inner : Boxes) → StandFrom old (first_at old own.key) inner → (keys : List ℕ) → KeysIn keys old own node inner
      → is.texts + textless now keys ≤ was.texts + textless old keys
  pub arranged : (node : Node) → node_at old own.key ≡ Some node → (inner : Boxes) → StandFrom old (first_at old own.key) inner → (asks : List Ask) → BoxCovered asks outside old own node inner
      → is.arranged + missing now asks ≤ was.arranged + missing old asks

missing_less : (old new : Slots Preparation) → Follows old new → (asks : List Ask) → missing new asks ≤ missing old asks
missing_less old new follows asks = lacking_less (kept_for old) (kept_for new) (λ ask. follows.kept ask.key ask.constraint) asks

textless_less : (old new : Slots Preparation) → Follows old new → (keys : List ℕ) → textless new keys ≤ textless old keys
textless_less old new follows keys = lacking_less (text_at old) (text_at new) follows.texts keys

-- ---- its text

pub seeing_costs : (outside : Outside) (old new : Slots Preparation) (own : RowBox) (was is : Counters) → Follows old new → SeeingCosts old new own.key was is → BoxCosts outside old new own was is
seeing_costs outside old new own was is follows costs = record {
  above = λ k up apart c. costs.kept k c;
  founded = founded_same outside old new follows costs.kept;
  texts = λ node at inner stand keys have. costs.texts node at keys have.0;
  arranged = λ node at inner stand asks covered. let same = costs.arranged in omega (arith, same);
}

pub so_far_seen : (outside : Outside) (old new : Slots Preparation) (own : RowBox) (was is : Counters) → kept_at old own.key own.c ≡ None → Follows old new → SeeingCosts old new own.key was is → HasSeen old new own.key was is
    → SoFar outside old new own was is
so_far_seen outside old new own was is gone follows costs seen = record {
  gone = gone;
  follows = follows;
  same = λ k up c. costs.kept k c;
  founded = founded_same outside old new follows costs.kept;
  texts = λ node at inner stand keys have. seen node at keys have.0;
  arranged = λ node at inner stand asks covered.
      let same = costs.arranged in
      let fewer = missing_less old new follows asks in
      omega (arith, same, fewer);
}

-- ---- its children

-- a row of its children: a tree that stands there, which is covered where they are
pub record IsChildRow (outside : Outside) (slots : Slots Preparation) (own : RowBox) (node : Node) (inner : Boxes) (row : Row) : Type 0 where
  pub inside : IsIn (links_at slots) own.key row.from
  pub tree : Boxes
  pub stand : StandFrom slots row.from tree
  pub keys : (keys : List ℕ) → HaveKeys keys slots (first_at slots own.key) inner → HaveKeys keys slots row.from tree
  pub asks : (asks : List Ask) → ChildrenCovered asks outside slots own node inner → Covers asks outside slots row.from row.containing tree row.c

abbrev pub IsRowInside : Outside → Slots Preparation → RowBox → Row → Type 0
IsRowInside outside slots own row = (node : Node) → node_at slots own.key ≡ Some node → (inner : Boxes) → StandFrom slots (first_at slots own.key) inner → IsChildRow outside slots own node inner row

children_on : (asks : List Ask) (outside : Outside) (old now : Slots Preparation) (own : RowBox) (node : Node) (inner : Boxes) → Follows old now → ChildrenCovered asks outside old own node inner
    → ChildrenCovered asks outside now own node inner
children_on asks outside old now own node inner follows covered =
    (if_some_on (contributes_under own.containing node own.c) A B on covered.0, if_some_on (put_under outside own.containing node own.c inner) A B on covered.1) where
      A : Constraint → Type 0
      A d = Covers asks outside old (first_at old own.key) (containing_of node.style) inner d

      B : Constraint → Type 0
      B d = Covers asks outside now (first_at now own.key) (containing_of node.style) inner d

      on : (d : Constraint) → A d → B d
      on d holds =
          let P : Option ℕ → Type 0 = λ o. Covers asks outside now o (containing_of node.style) inner d in
          subst P (sym (same_first old now follows.links own.key)) (covers_on old now follows asks outside (first_at old own.key) (containing_of node.style) inner d holds)

module _ (outside : Outside) (old now new : Slots Preparation) (own : RowBox) (row : Row) (was mid is : Counters) (far : SoFar outside old now own was mid) (node_there : (node : Node) × (node_at old own.key ≡ Some node))
    (inner_there : (inner : Boxes) × StandFrom old (first_at old own.key) inner) (rows : IsRowInside outside now own row) (follows : Follows now new) (costs : RowCosts outside now new row mid is) where
  node_now : (node : Node) → node_at old own.key ≡ Some node → node_at now own.key ≡ Some node
  node_now node at = far.follows.nodes own.key ∙ at

  stand_now : (inner : Boxes) → StandFrom old (first_at old own.key) inner → StandFrom now (first_at now own.key) inner
  stand_now inner stand =
      let P : Option ℕ → Type 0 = λ o. StandFrom now o inner in
      subst P (sym (same_first old now far.follows.links own.key)) (stand_on old now far.follows (first_at old own.key) inner stand)

  keys_now : (keys : List ℕ) (inner : Boxes) → HaveKeys keys old (first_at old own.key) inner → HaveKeys keys now (first_at now own.key) inner
  keys_now keys inner have =
      let P : Option ℕ → Type 0 = λ o. HaveKeys keys now o inner in
      subst P (sym (same_first old now far.follows.links own.key)) (have_keys_on old now far.follows.links keys (first_at old own.key) inner have)

  same_new : (k : ℕ) → IsAbove old k own.key → (c : Constraint) → kept_at new k c ≡ kept_at old k c
  same_new k up c =
      let child = rows node_there.0 (node_now node_there.0 node_there.1) inner_there.0 (stand_now inner_there.0 inner_there.1) in
      costs.above own.key k child.inside (above_on old now far.follows.links k own.key up) c ∙ far.same k up c

  pub row_breaks : BoxCosts outside old new own was is
  row_breaks = record {
    above = λ k up apart c. same_new k up c;
    founded = λ founded. costs.founded (far.founded founded);
    texts = λ node at inner stand keys have.
        let child = rows node (node_now node at) inner (stand_now inner stand) in
        let spent = far.texts node at inner stand keys have in
        let one = costs.texts child.tree child.stand keys (child.keys keys (keys_now keys inner have.1)) in
        omega (arith, spent, one);
    arranged = λ node at inner stand asks covered.
        let child = rows node (node_now node at) inner (stand_now inner stand) in
        let spent = far.arranged node at inner stand asks covered in
        let one = costs.arranged child.tree child.stand asks (child.asks asks (children_on asks outside old now own node inner far.follows (covered.1 far.gone))) in
        omega (arith, spent, one);
  }

  pub row_added : RowDone outside now new row mid is → SoFar outside old new own was is
  row_added done = record {
    gone = far.gone;
    follows = follows_then old now new far.follows follows;
    same = same_new;
    founded = λ founded. costs.founded (far.founded founded);
    texts = λ node at inner stand keys have.
        let child = rows node (node_now node at) inner (stand_now inner stand) in
        let spent = far.texts node at inner stand keys have in
        let one = done.texts child.tree child.stand keys (child.keys keys (keys_now keys inner have.1)) in
        omega (arith, spent, one);
    arranged = λ node at inner stand asks covered.
        let child = rows node (node_now node at) inner (stand_now inner stand) in
        let spent = far.arranged node at inner stand asks covered in
        let one = done.arranged child.tree child.stand asks (child.asks asks (children_on asks outside old now own node inner far.follows (covered.1 far.gone))) in
        omega (arith, spent, one);
  }

-- ---- the two rows of its children

module _ (outside : Outside) (slots : Slots Preparation) (own : RowBox) (first_in : IsIn (links_at slots) own.key (first_at slots own.key)) (node : Node) (inner : Boxes)
    (stand : StandFrom slots (first_at slots own.key) inner) where
  abbrev handed : Option ℤ
  handed = handed_on own.containing node own.c

  -- those whose contributions count
  abbrev tree_for : (definite : Option ℤ) → Boxes
  tree_for None = inner
  tree_for (Some size) = no_boxes

  for_inside : (definite : Option ℤ) → IsIn (links_at slots) own.key (contributing definite (first_at slots own.key))
  for_inside None = first_in
  for_inside (Some size) = tt

  for_stand : (definite : Option ℤ) → StandFrom slots (contributing definite (first_at slots own.key)) (tree_for definite)
  for_stand None = stand
  for_stand (Some size) = refl

  for_keys : (definite : Option ℤ) (keys : List ℕ) → HaveKeys keys slots (first_at slots own.key) inner → HaveKeys keys slots (contributing definite (first_at slots own.key)) (tree_for definite)
  for_keys None keys have = have
  for_keys (Some size) keys have = tt

  for_asks : (definite : Option ℤ) (asks : List Ask) → IfSome (contributes_by definite handed) (Covers asks outside slots (first_at slots own.key) (containing_of node.style) inner)
      → Covers asks outside slots (contributing definite (first_at slots own.key)) (containing_of node.style) (tree_for definite) (under None handed)
  for_asks None asks covers = covers
  for_asks (Some size) asks covers = tt

  for_kept : (definite : Option ℤ) (results : Slots Preparation) → IsRowKept results slots (contributing definite (first_at slots own.key)) (tree_for definite) (under None handed)
      → IfSome (contributes_by definite handed) (IsRowKept results slots (first_at slots own.key) inner)
  for_kept None results kept = kept
  for_kept (Some size) results kept = tt

  -- those that are put in it
  abbrev tree_in : (measures : Bool) → Boxes
  tree_in true = no_boxes
  tree_in false = inner

  abbrev size_by : (measures : Bool) → InlineSize
  size_by measures = inline_size_by measures outside own.containing node own.c (members outside (containing_of node.style) inner)

  in_inside : (measures : Bool) → IsIn (links_at slots) own.key (laid_inside (size_by measures) (first_at slots own.key))
  in_inside true = tt
  in_inside false = first_in

  in_stand : (measures : Bool) → StandFrom slots (laid_inside (size_by measures) (first_at slots own.key)) (tree_in measures)
  in_stand true = refl
  in_stand false = stand

  in_keys : (measures : Bool) (keys : List ℕ) → HaveKeys keys slots (first_at slots own.key) inner → HaveKeys keys slots (laid_inside (size_by measures) (first_at slots own.key)) (tree_in measures)
  in_keys true keys have = tt
  in_keys false keys have = have

  in_asks : (measures : Bool) (asks : List Ask) → IfSome (put_by measures outside own.containing node own.c inner) (Covers asks outside slots (first_at slots own.key) (containing_of node.style) inner)
      → Covers asks outside slots (laid_inside (size_by measures) (first_at slots own.key)) (containing_of node.style) (tree_in measures) (under (used_in (size_by measures)) handed)
  in_asks true asks covers = tt
  in_asks false asks covers = covers

  in_kept : (measures : Bool) (results : Slots Preparation) → IsRowKept results slots (laid_inside (size_by measures) (first_at slots own.key)) (tree_in measures) (under (used_in (size_by measures)) handed)
      → IfSome (put_by measures outside own.containing node own.c inner) (IsRowKept results slots (first_at slots own.key) inner)
  in_kept true results kept = tt
  in_kept false results kept = kept

  abbrev measures_of : Bool
  measures_of = is_measured own.containing node.style own.c

  abbrev definite_of : Option ℤ
  definite_of = definite_under measures_of own.containing node.style own.c

  abbrev sizing : Sizing
  sizing = sizing_of own.containing node own.c

  abbrev size : InlineSize
  size = inline_size_of outside own.containing node own.c (members outside (containing_of node.style) inner)

  for_child : IsChildRow outside slots own node inner (row_in own sizing (contributing sizing.definite (first_at slots own.key)) None)
  unfolding sizing_of
  for_child = record {
    inside = for_inside definite_of;
    tree = tree_for definite_of;
    stand = for_stand definite_of;
    keys = for_keys definite_of;
    asks = λ asks covered. for_asks definite_of asks covered.0;
  }

  in_child : IsChildRow outside slots own node inner (row_in own sizing (laid_inside size (first_at slots own.key)) (used_in size))
  unfolding sizing_of inline_size_of
  in_child = record {
    inside = in_inside measures_of;
    tree = tree_in measures_of;
    stand = in_stand measures_of;
    keys = in_keys measures_of;
    asks = λ asks covered. in_asks measures_of asks covered.1;
  }

  for_child_kept : (results : Slots Preparation) (row : Row) → row ≡ row_in own sizing (contributing sizing.definite (first_at slots own.key)) None
      → ((tree : Boxes) → StandFrom slots row.from tree → IsRowKept results slots row.from tree row.c) → IfSome (contributes_under own.containing node own.c) (IsRowKept results slots (first_at slots own.key) inner)
  unfolding sizing_of
  for_child_kept results row is kept =
      let P : Row → Type 0 = λ r. (tree : Boxes) → StandFrom slots r.from tree → IsRowKept results slots r.from tree r.c in
      for_kept definite_of results ((subst P is kept) (tree_for definite_of) (for_stand definite_of))

  in_child_kept : (results : Slots Preparation) (row : Row) → row ≡ row_in own sizing (laid_inside size (first_at slots own.key)) (used_in size)
      → ((tree : Boxes) → StandFrom slots row.from tree → IsRowKept results slots row.from tree row.c) → IfSome (put_under outside own.containing node own.c inner) (IsRowKept results slots (first_at slots own.key) inner)
  unfolding sizing_of inline_size_of
  in_child_kept results row is kept =
      let P : Row → Type 0 = λ r. (tree : Boxes) → StandFrom slots r.from tree → IsRowKept results slots r.from tree r.c in
      in_kept measures_of results ((subst P is kept) (tree_in measures_of) (in_stand measures_of))

begun_row : (outside : Outside) (slots : Slots Preparation) (own : RowBox) (begun : Begun) (is : IsBegun outside slots own begun) (node : Node) → node_at slots own.key ≡ Some node
    → begun.contributing ≡ row_in own (sizing_of own.containing node own.c) (contributing (sizing_of own.containing node own.c).definite (first_at slots own.key)) None
begun_row outside slots own begun is node at =
    is.row ∙ ap (λ (s : Sizing). row_in own s (contributing s.definite (first_at slots own.key)) None) (is.sizing ∙ ap (λ (n : Node). sizing_of own.containing n own.c) (same_Some is.seen.box.node node (sym is.seen.box.is ∙ at)))

sized_row : (outside : Outside) (slots : Slots Preparation) (own : RowBox) (sized : SizedBox) (is : IsSized outside slots own sized) (node : Node) → node_at slots own.key ≡ Some node
    → (inner : Boxes) → StandFrom slots (first_at slots own.key) inner
    → sized.inside ≡ row_in own (sizing_of own.containing node own.c) (laid_inside (inline_size_of outside own.containing node own.c (members outside (containing_of node.style) inner)) (first_at slots own.key))
    (used_in (inline_size_of outside own.containing node own.c (members outside (containing_of node.style) inner)))
sized_row outside slots own sized is node at inner stand =
    is.row ∙ ap (λ (s : InlineSize). row_in own (sizing_of own.containing is.seen.box.node own.c) (laid_inside s (first_at slots own.key)) (used_in s)) (is.size inner stand)
    ∙ ap (λ (n : Node). row_in own (sizing_of own.containing n own.c) (laid_inside (inline_size_of outside own.containing n own.c (members outside (containing_of n.style) inner)) (first_at slots own.key))
    (used_in (inline_size_of outside own.containing n own.c (members outside (containing_of n.style) inner)))) (same_Some is.seen.box.node node (sym is.seen.box.is ∙ at))

pub begun_inside : (outside : Outside) (slots : Slots Preparation) (own : RowBox) (begun : Begun) → IsBegun outside slots own begun → IsIn (links_at slots) own.key (first_at slots own.key)
    → IsRowInside outside slots own begun.contributing
begun_inside outside slots own begun is first_in node at inner stand =
    let P : Row → Type 0 = λ row. IsChildRow outside slots own node inner row in
    subst P (sym (begun_row outside slots own begun is node at)) (for_child outside slots own first_in node inner stand)

pub sized_inside : (outside : Outside) (slots : Slots Preparation) (own : RowBox) (sized : SizedBox) → IsSized outside slots own sized → IsIn (links_at slots) own.key (first_at slots own.key)
    → IsRowInside outside slots own sized.inside
sized_inside outside slots own sized is first_in node at inner stand =
    let P : Row → Type 0 = λ row. IsChildRow outside slots own node inner row in
    subst P (sym (sized_row outside slots own sized is node at inner stand)) (in_child outside slots own first_in node inner stand)

-- the first child of a box is in it
pub first_inside : (old new : Slots Preparation) → Follows old new → IsLinked (links_at old) → (key : ℕ) → IsIn (links_at new) key (first_at new key)
first_inside old new follows linked key =
    let P : Option ℕ → Type 0 = λ o. IsIn (links_at new) key o in
    subst P (sym (same_first old new follows.links key)) (is_in_on old new follows.links key (first_at old key) (linked.on key None tt))

-- ---- it is finished

still_gone : (outside : Outside) (old now : Slots Preparation) (own : RowBox) (was is : Counters) → SoFar outside old now own was is → kept_at now own.key own.c ≡ None
still_gone outside old now own was is far = far.same own.key (zero, refl) own.c ∙ far.gone

-- and it isn't kept, for want of memory
pub finish_breaks : (outside : Outside) (old now : Slots Preparation) (own : RowBox) (was mid is : Counters) → SoFar outside old now own was mid → is.texts ≡ mid.texts → is.arranged ≤ mid.arranged + 1
    → BoxCosts outside old now own was is
finish_breaks outside old now own was mid is far same most = record {
  above = λ k up apart c. far.same k up c;
  founded = far.founded;
  texts = λ node at inner stand keys have. let spent = far.texts node at inner stand keys have in omega (arith, spent, same);
  arranged = λ node at inner stand asks covered.
      let spent = far.arranged node at inner stand asks covered in
      let one = lacking_some (kept_for now) asks (record { key = own.key; constraint = own.c }) covered.0 (still_gone outside old now own was mid far) in
      omega (arith, spent, one, most);
}

-- where nothing has changed since its children were laid out
pub so_far_costs : (outside : Outside) (old now : Slots Preparation) (own : RowBox) (was mid : Counters) → SoFar outside old now own was mid → BoxCosts outside old now own was mid
so_far_costs outside old now own was mid far = finish_breaks outside old now own was mid mid far refl (omega arith)

founded_kept : (outside : Outside) (old new : Arena) (key : ℕ) (c : Constraint) (result : Pieces) → Follows old.slots new.slots → Keeps old new key c result → AreFounded outside old.slots
    → ((node : Node) → node_at new.slots key ≡ Some node → (inner : Boxes) → StandFrom new.slots (first_at new.slots key) inner → IsFounded outside new.slots key (containing_at new.slots key node.style) node inner c)
    → AreFounded outside new.slots
founded_kept outside old new key c result follows keeps founded own k d there = elim (cases_eq k key) [
  | inl same ↦
      let P : ℕ → Type 0 = λ j.
      IsSome (kept_at new.slots j d) → (node : Node) → node_at new.slots j ≡ Some node → (inner : Boxes) → StandFrom new.slots (first_at new.slots j) inner
      → IsFounded outside new.slots j (containing_at new.slots j node.style) node inner d in
      subst P (sym same) here there
  | inr apart ↦
      let Q : Option Pieces → Type 0 = λ o. IsSome o in
      founded_here outside old.slots new.slots follows founded k d (subst Q (keeps.elsewhere k apart d) there)
] where
  here : IsSome (kept_at new.slots key d) → (node : Node) → node_at new.slots key ≡ Some node → (inner : Boxes) → StandFrom new.slots (first_at new.slots key) inner
      → IsFounded outside new.slots key (containing_at new.slots key node.style) node inner d
  here some = elim (constraint_cases d c) [
    | inl same ↦
        let P : Constraint → Type 0 = λ e.
        (node : Node) → node_at new.slots key ≡ Some node → (inner : Boxes) → StandFrom new.slots (first_at new.slots key) inner
        → IsFounded outside new.slots key (containing_at new.slots key node.style) node inner e in
        subst P (sym same) own
    | inr apart ↦
        let Q : Option Pieces → Type 0 = λ o. IsSome o in
        founded_here outside old.slots new.slots follows founded key d (subst Q (keeps.beside d apart) some)
  ]

module _ (outside : Outside) (old : Slots Preparation) (now new : Arena) (own : RowBox) (result : Pieces) (was mid is : Counters) (far : SoFar outside old now.slots own was mid) (follows : Follows now.slots new.slots)
    (keeps : Keeps now new own.key own.c result) (same : is.texts ≡ mid.texts) (most : is.arranged ≤ mid.arranged + 1) where
  there : IsSome (kept_at new.slots own.key own.c)
  there = let P : Option Pieces → Type 0 = λ o. IsSome o in subst P (sym keeps.here) refl

  pub finish_done : BoxDone outside old new.slots own was is
  finish_done = record {
    kept = there;
    texts = λ node at inner stand keys have.
        let spent = far.texts node at inner stand keys have in
        let fewer = textless_less now.slots new.slots follows keys in
        omega (arith, spent, fewer, same);
    arranged = λ node at inner stand asks covered.
        let spent = far.arranged node at inner stand asks covered in
        let falls = lacking_falls (kept_for now.slots) (kept_for new.slots) (λ ask. follows.kept ask.key ask.constraint) asks (record { key = own.key; constraint = own.c }) covered.0 (still_gone outside old now.slots own was mid far) there in
        omega (arith, spent, falls, most);
  }

  pub finish_costs : ((node : Node) → node_at new.slots own.key ≡ Some node → (inner : Boxes) → StandFrom new.slots (first_at new.slots own.key) inner
      → IsFounded outside new.slots own.key (containing_at new.slots own.key node.style) node inner own.c) → BoxCosts outside old new.slots own was is
  finish_costs founded = record {
    above = λ k up apart c. keeps.elsewhere k apart c ∙ far.same k up c;
    founded = λ was_founded. founded_kept outside now new own.key own.c result follows keeps (far.founded was_founded) founded;
    texts = λ node at inner stand keys have. let spent = finish_done.texts node at inner stand keys have in omega (arith, spent);
    arranged = λ node at inner stand asks covered. let spent = finish_done.arranged node at inner stand asks covered in omega (arith, spent);
  }

-- what it rests on: what was laid out of its children, with all of which it was finished
pub own_founded : (outside : Outside) (one two three new : Slots Preparation) (own : RowBox) (begun : Begun) (sized : SizedBox) (was mid is : Counters) → IsBegun outside one own begun → IsIn (links_at one) own.key (first_at one own.key)
    → RowDone outside one two begun.contributing was mid → IsSized outside two own sized → IsIn (links_at two) own.key (first_at two own.key) → RowDone outside two three sized.inside mid is
    → Follows one two → Follows two three → Follows three new → StandsIn new (Some own.key) own.containing → ((node : Node) → node_at new own.key ≡ Some node → HasText node.content (text_at new own.key))
    → (node : Node) → node_at new own.key ≡ Some node → (inner : Boxes) → StandFrom new (first_at new own.key) inner → IsFounded outside new own.key (containing_at new own.key node.style) node inner own.c
own_founded outside one two three new own begun sized was mid is is_begun in_one contributed is_sized in_two put step on last place text node at inner stand =
    let P : Containing → Type 0 = λ x. IsFounded outside new own.key x node inner own.c in
    subst P (sym (place node at)) (record {
      text = text node at;
      contributions = if_some_on (contributes_under own.containing node own.c) (IsRowKept two one (first_at one own.key) inner) B (λ d kept. moved one two (follows_then one two new step from_two) from_two d kept)
          (for_child_kept outside one own in_one node inner (back one (follows_then one two new step from_two)) two begun.contributing (begun_row outside one own begun is_begun node (at_in one (follows_then one two new step from_two))) contributed.kept);
      inside = if_some_on (put_under outside own.containing node own.c inner) (IsRowKept three two (first_at two own.key) inner) B (λ d kept. moved two three from_two last d kept)
          (in_child_kept outside two own in_two node inner (back two from_two) three sized.inside (sized_row outside two own sized is_sized node (at_in two from_two) inner (back two from_two)) put.kept);
    }) where
      from_two : Follows two new
      from_two = follows_then two three new on last

      B : Constraint → Type 0
      B d = IsRowKept new new (first_at new own.key) inner d

      at_in : (slots : Slots Preparation) → Follows slots new → node_at slots own.key ≡ Some node
      at_in slots follows = sym (follows.nodes own.key) ∙ at

      back : (slots : Slots Preparation) → Follows slots new → StandFrom slots (first_at slots own.key) inner
      back slots follows =
          let P : Option ℕ → Type 0 = λ o. StandFrom slots o inner in
          subst P (same_first slots new follows.links own.key) (stood_back slots new follows (first_at new own.key) inner stand)

      moved : (slots results : Slots Preparation) → Follows slots new → Follows results new → (d : Constraint) → IsRowKept results slots (first_at slots own.key) inner d → B d
      moved slots results follows later d kept =
          let P : Option ℕ → Type 0 = λ o. IsRowKept new new o inner d in
          subst P (sym (same_first slots new follows.links own.key)) (row_kept_on slots new follows.links results new d (λ k. later.kept k d) (first_at slots own.key) inner kept)
