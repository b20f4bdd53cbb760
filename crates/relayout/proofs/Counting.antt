-- What a row has cost so far, box by box.
use Rattle.std.proofs.Common.{◌≡◌, ◌∙◌, ◌≢◌, refl, sym, ap, subst, arith, ℕ, suc, ◌+◌, ◌≤◌, List, Option, Some, None}
use Rattle.std.specs.Prelude.{Contains, IfSome, IsSome}
use Rattle.std.proofs.lemmas.Option.{none-some, same_Some}
use Rattle.fragment_types.specs.declared.constraint.Constraint.{Constraint}
use Rattle.fragment_types.specs.declared.item.BoxName.{BoxName}
use Rattle.style_types.specs.declared.style.Style.{Style}
use Rattle.box_arena.specs.At.{IsAbove, Node, Slots, first_at, kept_at, links_at, next_at, node_at, parent_at}
use Rattle.box_arena.specs.Boxes.{StandFrom}
use Rattle.box_arena.specs.Links.{Climbs, IsIn, IsLinked, next_of}
use Rattle.box_gen.specs.Tree.{Boxes, Content, box, none as no_boxes}
use Rattle.para_prepare.specs.Preparation.{Preparation}
use Rattle.relayout.specs.declared.row.Row.{Row}
use Rattle.relayout.specs.declared.row.RowBox.{RowBox}
use Rattle.relayout.specs.Asks.{contributes_under, put_under}
use Rattle.relayout.specs.Counts.{AreFounded, Ask, Counters, Covers, HasKey, HaveKeys, IsRowKept, RowCosts, RowDone, SameAbove, missing, textless}
use Rattle.relayout.specs.Inline.{Outside}
use Rattle.relayout.specs.Row.{box_in}
use Rattle.relayout.specs.Sizes.{containing_of}
use Rattle.relayout.proofs.CountLaws.{Follows, above_on, covers_on, have_keys_on, if_some_on, is_in_on, none_before, same_first, stand_on}

-- ---- a box

-- what covers all that its children are asked for
abbrev pub ChildrenCovered : List Ask → Outside → Slots Preparation → RowBox → Node → (inner : Boxes) → Type 0
ChildrenCovered asks outside slots own node inner =
    IfSome (contributes_under own.containing node own.c) (Covers asks outside slots (first_at slots own.key) (containing_of node.style) inner)
    × IfSome (put_under outside own.containing node own.c inner) (Covers asks outside slots (first_at slots own.key) (containing_of node.style) inner)

-- and the box itself
abbrev pub BoxCovered : List Ask → Outside → Slots Preparation → RowBox → Node → (inner : Boxes) → Type 0
BoxCovered asks outside slots own node inner =
    Contains asks (record { key = own.key; constraint = own.c }) × (kept_at slots own.key own.c ≡ None → ChildrenCovered asks outside slots own node inner)

abbrev pub KeysIn : List ℕ → Slots Preparation → RowBox → Node → (inner : Boxes) → Type 0
KeysIn keys slots own node inner = HasKey keys node.content own.key × HaveKeys keys slots (first_at slots own.key) inner

-- what laying out a box costs, whatever comes of it
pub record BoxCosts (outside : Outside) (old new : Slots Preparation) (own : RowBox) (was is : Counters) : Type 0 where
  pub above : (k : ℕ) → IsAbove old k own.key → k ≢ own.key → (c : Constraint) → kept_at new k c ≡ kept_at old k c
  pub founded : AreFounded outside old → AreFounded outside new
  pub texts : (node : Node) → node_at old own.key ≡ Some node → (inner : Boxes) → StandFrom old (first_at old own.key) inner → (keys : List ℕ) → KeysIn keys old own node inner → is.texts ≤ was.texts + textless old keys
  pub arranged : (node : Node) → node_at old own.key ≡ Some node → (inner : Boxes) → StandFrom old (first_at old own.key) inner → (asks : List Ask) → BoxCovered asks outside old own node inner
      → is.arranged ≤ was.arranged + missing old asks

pub record BoxDone (outside : Outside) (old new : Slots Preparation) (own : RowBox) (was is : Counters) : Type 0 where
  pub kept : IsSome (kept_at new own.key own.c)
  pub texts : (node : Node) → node_at old own.key ≡ Some node → (inner : Boxes) → StandFrom old (first_at old own.key) inner → (keys : List ℕ) → KeysIn keys old own node inner
      → is.texts + textless new keys ≤ was.texts + textless old keys
  pub arranged : (node : Node) → node_at old own.key ≡ Some node → (inner : Boxes) → StandFrom old (first_at old own.key) inner → (asks : List Ask) → BoxCovered asks outside old own node inner
      → is.arranged + missing new asks ≤ was.arranged + missing old asks

-- ---- a row, up to a box

-- what is left of a tree, and what the boxes before that have cost
pub record Left (outside : Outside) (old now : Slots Preparation) (row : Row) (next : Option ℕ) (was is : Counters) (tree : Boxes) : Type 0 where
  pub rest : Boxes
  pub stand : StandFrom old next rest
  pub texts : (keys : List ℕ) → HaveKeys keys old row.from tree → (is.texts + textless now keys ≤ was.texts + textless old keys) × HaveKeys keys old next rest
  pub arranged : (asks : List Ask) → Covers asks outside old row.from row.containing tree row.c → (is.arranged + missing now asks ≤ was.arranged + missing old asks) × Covers asks outside old next row.containing rest row.c
  pub kept : (later : Slots Preparation) → ((k : ℕ) → IsSome (kept_at now k row.c) → IsSome (kept_at later k row.c)) → IsRowKept later old next rest row.c → IsRowKept later old row.from tree row.c

pub record Counting (outside : Outside) (old now : Slots Preparation) (row : Row) (next : Option ℕ) (was is : Counters) : Type 0 where
  pub inside : (p : ℕ) → IsIn (links_at old) p row.from → IsIn (links_at old) p next
  pub above : SameAbove old now row.from
  pub founded : AreFounded outside old → AreFounded outside now
  pub left : (tree : Boxes) → StandFrom old row.from tree → Left outside old now row next was is tree

pub counting_first : (outside : Outside) (old : Slots Preparation) (row : Row) (was : Counters) → Counting outside old old row row.from was was
counting_first outside old row was = record {
  inside = λ p there. there;
  above = λ p k inside up c. refl;
  founded = λ founded. founded;
  left = λ tree stand.
      record {
        rest = tree;
        stand = stand;
        texts = λ keys have. (omega arith, have);
        arranged = λ asks covers. (omega arith, covers);
        kept = λ later on kept. kept;
      };
}

pub counting_costs : (outside : Outside) (old now : Slots Preparation) (row : Row) (next : Option ℕ) (was is : Counters) → Counting outside old now row next was is → RowCosts outside old now row was is
counting_costs outside old now row next was is counting = record {
  above = counting.above;
  founded = counting.founded;
  texts = λ tree stand keys have. let spent = ((counting.left tree stand).texts keys have).0 in omega (arith, spent);
  arranged = λ tree stand asks covers. let spent = ((counting.left tree stand).arranged asks covers).0 in omega (arith, spent);
}

-- none is left
row_of_none : (later slots : Slots Preparation) (next : Option ℕ) (rest : Boxes) (c : Constraint) → next ≡ None → IsRowKept later slots next rest c
row_of_none later slots next no_boxes c is = tt
row_of_none later slots next (box name style content inner others) c is = λ key at. absurd (none-some key (sym is ∙ at))

pub counting_ends : (outside : Outside) (old now : Slots Preparation) (row : Row) (next : Option ℕ) (was is : Counters) → Counting outside old now row next was is → next ≡ None → RowDone outside old now row was is
counting_ends outside old now row next was is counting none_is = record {
  kept = λ tree stand. let left = counting.left tree stand in left.kept now (λ k there. there) (row_of_none now old next left.rest row.c none_is);
  texts = λ tree stand keys have. ((counting.left tree stand).texts keys have).0;
  arranged = λ tree stand asks covers. ((counting.left tree stand).arranged asks covers).0;
}

-- ---- one box more

abbrev pub ahead_is : Slots Preparation → (key : ℕ) (name : BoxName) (style : Style) (content : Content) (inner others : Boxes) → Type 0
ahead_is slots key name style content inner others =
    (node_at slots key ≡ Some (record { name = name; style = style; content = content })) × StandFrom slots (first_at slots key) inner × StandFrom slots (next_at slots key) others

pub stands_head : (slots : Slots Preparation) (next : Option ℕ) (key : ℕ) (name : BoxName) (style : Style) (content : Content) (inner others : Boxes) → next ≡ Some key → StandFrom slots next (box name style content inner others)
    → ahead_is slots key name style content inner others
stands_head slots next key name style content inner others is (k, at, node, within, behind) =
    let P : ℕ → Type 0 = λ j. ahead_is slots j name style content inner others in
    subst P (same_Some k key (sym at ∙ is)) (node, within, behind)

module _ (outside : Outside) (old now new : Slots Preparation) (row : Row) (next : Option ℕ) (key : ℕ) (was mid is : Counters) (so_far : Follows old now) (step : Follows now new)
    (linked : IsLinked (links_at now)) (counting : Counting outside old now row next was mid) (here : next ≡ Some key) where
  own : RowBox
  own = box_in row key

  parent_is : (p : ℕ) → IsIn (links_at old) p row.from → parent_at now key ≡ Some p
  parent_is p inside =
      let P : Option ℕ → Type 0 = λ o. IsIn (links_at now) p o in
      subst P here (is_in_on old now so_far.links p next (counting.inside p inside))

  row_above : BoxCosts outside now new (box_in row key) mid is → SameAbove old new row.from
  row_above costs p k inside up c = costs.above k (suc (up_now.0), (key, refl, let P : Option ℕ → Type 0 = λ o. Climbs (up_now.0) (links_at now) o k in subst P (sym (parent_is p inside)) up_now.1)) apart c ∙ counting.above p k inside up c where
    up_now : IsAbove now k p
    up_now = above_on old now so_far.links k p up

    apart : k ≢ key
    apart same =
        let P : Option ℕ → Type 0 = λ o. Climbs (up_now.0) (links_at now) o k in
        let Q : ℕ → Type 0 = λ j. Climbs (suc (up_now.0)) (links_at now) (Some j) k in
        linked.acyclic k (up_now.0) (subst Q (sym same) (key, refl, subst P (sym (parent_is p inside)) up_now.1))

  costs_texts : BoxCosts outside now new (box_in row key) mid is → (keys : List ℕ) (rest : Boxes) → StandFrom old next rest → HaveKeys keys old next rest → is.texts ≤ mid.texts + textless now keys
  costs_texts costs keys no_boxes stand have = absurd (none-some key (sym stand ∙ here))
  costs_texts costs keys (box name style content inner others) stand have =
      let (node, within, behind) = stands_head old next key name style content inner others here stand in
      let (mine, below, after) = have key here in
      let P : Option ℕ → Type 0 = λ o. StandFrom now o inner in
      let Q : Option ℕ → Type 0 = λ o. HaveKeys keys now o inner in
      let first = sym (same_first old now so_far.links key) in
      costs.texts (record { name = name; style = style; content = content }) (so_far.nodes key ∙ node) inner (subst P first (stand_on old now so_far (first_at old key) inner within)) keys
      (mine, subst Q first (have_keys_on old now so_far.links keys (first_at old key) inner below))

  box_covered : (asks : List Ask) (name : BoxName) (style : Style) (content : Content) (inner others : Boxes) → Covers asks outside old next row.containing (box name style content inner others) row.c
      → BoxCovered asks outside now (box_in row key) (record { name = name; style = style; content = content }) inner
  box_covered asks name style content inner others covers =
      let (mine, below, after) = covers key here in
      let node : Node = record { name = name; style = style; content = content } in
      let A : Constraint → Type 0 = λ d. Covers asks outside old (first_at old key) (containing_of style) inner d in
      let B : Constraint → Type 0 = λ d. Covers asks outside now (first_at now key) (containing_of style) inner d in
      let on : (d : Constraint) → A d → B d = λ d holds.
      let P : Option ℕ → Type 0 = λ o. Covers asks outside now o (containing_of style) inner d in
      subst P (sym (same_first old now so_far.links key)) (covers_on old now so_far asks outside (first_at old key) (containing_of style) inner d holds) in (
        mine,
        λ gone.
            let both = below (none_before (kept_at old key row.c) (kept_at now key row.c) (so_far.kept key row.c) gone) in
            (if_some_on (contributes_under row.containing node row.c) A B on both.0, if_some_on (put_under outside row.containing node row.c inner) A B on both.1),
      )

  costs_arranged : BoxCosts outside now new (box_in row key) mid is → (asks : List Ask) (rest : Boxes) → StandFrom old next rest → Covers asks outside old next row.containing rest row.c → is.arranged ≤ mid.arranged + missing now asks
  costs_arranged costs asks no_boxes stand covers = absurd (none-some key (sym stand ∙ here))
  costs_arranged costs asks (box name style content inner others) stand covers =
      let (node, within, behind) = stands_head old next key name style content inner others here stand in
      let P : Option ℕ → Type 0 = λ o. StandFrom now o inner in
      costs.arranged (record { name = name; style = style; content = content }) (so_far.nodes key ∙ node) inner (subst P (sym (same_first old now so_far.links key)) (stand_on old now so_far (first_at old key) inner within)) asks
      (box_covered asks name style content inner others covers)

  -- the row up to this box, and what the box has cost
  pub counting_breaks : BoxCosts outside now new (box_in row key) mid is → RowCosts outside old new row was is
  counting_breaks costs = record {
    above = row_above costs;
    founded = λ founded. costs.founded (counting.founded founded);
    texts = λ tree stand keys have.
        let left = counting.left tree stand in
        let both = left.texts keys have in
        let spent = both.0 in
        let one = costs_texts costs keys left.rest left.stand both.1 in
        omega (arith, spent, one);
    arranged = λ tree stand asks covers.
        let left = counting.left tree stand in
        let both = left.arranged asks covers in
        let spent = both.0 in
        let one = costs_arranged costs asks left.rest left.stand both.1 in
        omega (arith, spent, one);
  }

  module _ (after : Option ℕ) (follows : after ≡ next_at now key) (costs : BoxCosts outside now new (box_in row key) mid is) (done : BoxDone outside now new (box_in row key) mid is) where
    after_old : after ≡ next_at old key
    after_old = follows ∙ ap next_of (so_far.links key)

    more : (tree rest : Boxes) → StandFrom old next rest
        → ((keys : List ℕ) → HaveKeys keys old row.from tree → (mid.texts + textless now keys ≤ was.texts + textless old keys) × HaveKeys keys old next rest)
        → ((asks : List Ask) → Covers asks outside old row.from row.containing tree row.c → (mid.arranged + missing now asks ≤ was.arranged + missing old asks) × Covers asks outside old next row.containing rest row.c)
        → ((later : Slots Preparation) → ((k : ℕ) → IsSome (kept_at now k row.c) → IsSome (kept_at later k row.c)) → IsRowKept later old next rest row.c → IsRowKept later old row.from tree row.c)
        → Left outside old new row after was is tree
    more tree no_boxes stand texts arranged kept = absurd (none-some key (sym stand ∙ here))
    more tree (box name style content inner others) stand texts arranged kept = record {
      rest = others;
      stand = let P : Option ℕ → Type 0 = λ o. StandFrom old o others in subst P (sym after_old) (stands_head old next key name style content inner others here stand).2;
      texts = λ keys have.
          let both = texts keys have in
          let (mine, below, behind) = both.1 key here in
          let P : Option ℕ → Type 0 = λ o. HaveKeys keys old o others in
          let Q : Option ℕ → Type 0 = λ o. HaveKeys keys now o inner in
          let spent = both.0 in
          let one = done.texts node node_is inner within keys (mine, subst Q first (have_keys_on old now so_far.links keys (first_at old key) inner below)) in
          (omega (arith, spent, one), subst P (sym after_old) behind);
      arranged = λ asks covers.
          let both = arranged asks covers in
          let (mine, below, behind) = both.1 key here in
          let P : Option ℕ → Type 0 = λ o. Covers asks outside old o row.containing others row.c in
          let spent = both.0 in
          let one = done.arranged node node_is inner within asks (box_covered asks name style content inner others both.1) in
          (omega (arith, spent, one), subst P (sym after_old) behind);
      kept = λ later on behind.
          let P : Option ℕ → Type 0 = λ o. IsRowKept later old o others row.c in
          let Q : ℕ → Type 0 = λ j. IsSome (kept_at later j row.c) × IsRowKept later old (next_at old j) others row.c in
          kept later (λ k there. on k (step.kept k row.c there)) (λ k at. subst Q (same_Some key k (sym here ∙ at)) (on key done.kept, subst P after_old behind));
    } where
      node : Node
      node = record { name = name; style = style; content = content }

      first : first_at old key ≡ first_at now key
      first = sym (same_first old now so_far.links key)

      node_is : node_at now key ≡ Some node
      node_is = so_far.nodes key ∙ (stands_head old next key name style content inner others here stand).0

      within : StandFrom now (first_at now key) inner
      within = let P : Option ℕ → Type 0 = λ o. StandFrom now o inner in subst P first (stand_on old now so_far (first_at old key) inner (stands_head old next key name style content inner others here stand).1)

    pub counting_next : Counting outside old new row after was is
    counting_next = record {
      inside = λ p inside.
          let P : Option ℕ → Type 0 = λ o. IsIn (links_at old) p o in
          subst P (sym follows) (is_in_on now old (λ k. sym (so_far.links k)) p (next_at now key) (linked.on p (Some key) (parent_is p inside)));
      above = row_above costs;
      founded = λ founded. costs.founded (counting.founded founded);
      left = λ tree stand. let left = counting.left tree stand in more tree left.rest left.stand left.texts left.arranged left.kept;
    }

-- ---- a box that is kept

pub kept_costs : (outside : Outside) (slots : Slots Preparation) (own : RowBox) (was : Counters) → BoxCosts outside slots slots own was was
kept_costs outside slots own was = record {
  above = λ k up apart c. refl;
  founded = λ founded. founded;
  texts = λ node at inner stand keys have. omega arith;
  arranged = λ node at inner stand asks covered. omega arith;
}

pub kept_done : (outside : Outside) (slots : Slots Preparation) (own : RowBox) (was : Counters) → IsSome (kept_at slots own.key own.c) → BoxDone outside slots slots own was was
kept_done outside slots own was there = record {
  kept = there;
  texts = λ node at inner stand keys have. omega arith;
  arranged = λ node at inner stand asks covered. omega arith;
}
