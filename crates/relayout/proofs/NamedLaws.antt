-- What `relayout` says of its counters by the keys of an arena, said by the names of boxes.
use Rattle.std.proofs.Common.{◌≡◌, ◌∙◌, refl, sym, ap, ap₂, subst, arith, ℕ, ◌+◌, ◌≤◌, Bool, true, false, List, [], ◌∷◌, ◌++◌, length, Option, Some, None, inl, inr}
use Rattle.std.specs.Prelude.{◌⊎◌, ⊤, Contains, IsSome, filter}
use Rattle.std.proofs.lemmas.List.{length-append}
use Rattle.std.proofs.lemmas.Option.{same_Some}
use Rattle.std.proofs.lemmas.List.Elements.{Contains-append_cases, Contains-append_left, Contains-append_right, filter-append}
use Rattle.slab.proofs.SlabLemmas.{Contains-cons, Contains-cons_cases}
use Rattle.face_api.specs.Table.{Table}
use Rattle.wm_modes.specs.Mode.{is_horizontal}
use Rattle.wm_units.specs.declared.view.View.{View}
use Rattle.fragment_types.specs.declared.constraint.Constraint.{Constraint}
use Rattle.fragment_types.specs.declared.item.BoxName.{BoxName}
use Rattle.fragment_types.specs.Item.{Entry}
use Rattle.style_types.specs.declared.style.Style.{Style}
use Rattle.box_arena.specs.At.{Node, Slots, first_at, kept_at, next_at, node_at, text_at}
use Rattle.box_arena.specs.Boxes.{StandFrom}
use Rattle.box_gen.specs.Places.{AreAlike, IsAmong, IsPlaceOf, Place, paragraphs, with_paragraph}
use Rattle.box_gen.specs.Tree.{Boxes, Content, blocks, box, inline, none as no_boxes}
use Rattle.para_prepare.specs.Preparation.{Preparation}
use Rattle.relayout.specs.Asks.{Pair, asks, each_once, met}
use Rattle.relayout.specs.Counts.{AreAllKeptUnder, ArrangedRise, Ask, EachMet, HasKey, HaveKeys, HaveTexts, TextsRise, lacking, missing, one_if_none, textless}
use Rattle.relayout.specs.Flow.{on_page}
use Rattle.relayout.specs.Inline.{Outside}
use Rattle.relayout.specs.Named.{ArrangesOwed, CountsAreByName, FindsResult, FindsText, HasMode, HasResultOf, HasTextOf, IsPageUnder, PreparesOwed}
use Rattle.relayout.specs.Paragraph.{HasText}
use Rattle.relayout.specs.Sizes.{containing_of}
use Rattle.relayout.specs.Step.{under}
use Rattle.relayout.proofs.MetPairs.{HoldsFor, MetAt, contained_often, contained_once, contains_head, contains_none, each_by_name, each_has_place}
use Rattle.relayout.proofs.PagePlaces.{node_of_place, page_stands, place_stands, style_around}

-- ---- one more that is owed or there

at_most_one : {A : Type 0} (o : Option A) → one_if_none o ≤ 1
at_most_one None = omega arith
at_most_one (Some x) = omega arith

none_lacks : {A : Type 0} (o : Option A) → IsSome o → one_if_none o ≡ 0
none_lacks None there = absurd (cc)
none_lacks (Some x) there = refl

-- one that isn't owed is there
one_more : {A B : Type 0} (owed : A → Bool) (x : A) (xs : List A) (o : Option B) (n : ℕ) → (owed x ≡ false → IsSome o) → n ≤ length (filter owed xs) → one_if_none o + n ≤ length (filter owed (x ∷ xs))
one_more {A} {B} owed x xs o n there few = by (owed x) refl where
  by : (b : Bool) → owed x ≡ b → one_if_none o + n ≤ length (filter owed (x ∷ xs))
  by true is =
      let one = at_most_one o in
      let same : length (filter owed (x ∷ xs)) ≡ length (filter owed xs) + 1 = rw (is) omega arith in
      omega (arith, one, same, few)
  by false is =
      let no_more = none_lacks o (there is) in
      let same : length (filter owed (x ∷ xs)) ≡ length (filter owed xs) = rw (is) refl in
      omega (arith, no_more, same, few)

lacking_append : {A B : Type 0} (find : A → Option B) (xs ys : List A) → lacking find (xs ++ ys) ≡ lacking find xs + lacking find ys
lacking_append find [] ys = omega arith
lacking_append find (x ∷ xs) ys = let others = lacking_append find xs ys in omega (arith, others)

filtered_append : {A : Type 0} (owed : A → Bool) (xs ys : List A) → length (filter owed (xs ++ ys)) ≡ length (filter owed xs) + length (filter owed ys)
filtered_append owed xs ys = ap length (filter-append owed xs ys) ∙ length-append (filter owed xs) (filter owed ys)

-- ---- a page, and the root's mode

has_mode : (slots : Slots Preparation) (root : ℕ) (page : Boxes) → IsPageUnder slots root page → HasMode slots root page
has_mode slots root no_boxes is_page = absurd is_page.stands
has_mode slots root (box name style content inner next) is_page = (record { name = name; style = style; content = content }, is_page.stands.0, refl)

-- ---- texts

-- keys of the paragraphs of a row, without a text for no more than are owed
record TextKeys (slots : Slots Preparation) (owed : BoxName → Bool) (from : Option ℕ) (row : Boxes) : Type 0 where
  keys : List ℕ
  have : HaveKeys keys slots from row
  few : textless slots keys ≤ length (filter owed (paragraphs row))

has_key_more : (keys all : List ℕ) → ((key : ℕ) → Contains keys key → Contains all key) → (content : Content) (key : ℕ) → HasKey keys content key → HasKey all content key
has_key_more keys all more blocks key has = tt
has_key_more keys all more (inline items) key has = more key has

have_keys_more : (slots : Slots Preparation) (keys all : List ℕ) → ((key : ℕ) → Contains keys key → Contains all key) → (from : Option ℕ) (row : Boxes) → HaveKeys keys slots from row → HaveKeys all slots from row
have_keys_more slots keys all more from no_boxes have = tt
have_keys_more slots keys all more from (box name style content inner next) have = λ key is.
    let (here, below, behind) = have key is in (
      has_key_more keys all more content key here,
      have_keys_more slots keys all more (first_at slots key) inner below,
      have_keys_more slots keys all more (next_at slots key) next behind,
    )

-- a paragraph is listed before all others
listed_before : (name : BoxName) (content : Content) (others : List BoxName) (other : BoxName) → Contains others other → Contains (with_paragraph name content others) other
listed_before name blocks others other there = there
listed_before name (inline items) others other there = Contains-cons name other others there

module _ (slots : Slots Preparation) (root : ℕ) (page : Boxes) (is_page : IsPageUnder slots root page) where
  named_once : (one other : ℕ) (node same : Node) → node_at slots one ≡ Some node → node_at slots other ≡ Some same → node.name ≡ same.name → one ≡ other
  named_once = is_page.named

  -- a text that is found under any key is under each key of that name
  text_found : (place : Place) (key : ℕ) → node_at slots key ≡ Some (node_of_place place) → HasTextOf slots place → IsSome (text_at slots key)
  text_found place key there found =
      let P : ℕ → Type 0 = λ k. IsSome (text_at slots k) in
      subst P (named_once found.key key (node_of_place place) (node_of_place place) found.node there refl) found.text

  module _ (owed : BoxName → Bool) (finds : (name : BoxName) → Contains (paragraphs page) name → owed name ≡ false → FindsText slots root page name) where
    -- one box before the others
    with_box : (from : Option ℕ) (around : Option Style) (key : ℕ) (name : BoxName) (style : Style) (content : Content) (inner next : Boxes) → from ≡ Some key
        → node_at slots key ≡ Some (record { name = name; style = style; content = content }) → ((place : Place) → IsAmong around (box name style content inner next) place → IsPlaceOf page place)
        → ((other : BoxName) → Contains (paragraphs (box name style content inner next)) other → Contains (paragraphs page) other)
        → TextKeys slots owed (first_at slots key) inner → TextKeys slots owed (next_at slots key) next → TextKeys slots owed from (box name style content inner next)
    with_box from around key name style blocks inner next is there inside listed below behind = record {
      keys = below.keys ++ behind.keys;
      have = λ k at.
          let P : ℕ → Type 0 = λ j. HaveKeys (below.keys ++ behind.keys) slots (first_at slots j) inner × HaveKeys (below.keys ++ behind.keys) slots (next_at slots j) next in
          let both = subst P (same_Some key k (sym is ∙ at)) (
            have_keys_more slots below.keys (below.keys ++ behind.keys) (λ j. Contains-append_left below.keys behind.keys j) (first_at slots key) inner below.have,
            have_keys_more slots behind.keys (below.keys ++ behind.keys) (λ j. Contains-append_right below.keys behind.keys j) (next_at slots key) next behind.have,
          ) in
          (tt, both.0, both.1);
      few =
          let here = below.few in
          let there = behind.few in
          let all = lacking_append (text_at slots) below.keys behind.keys in
          let list = filtered_append owed (paragraphs inner) (paragraphs next) in
          omega (arith, here, there, all, list);
    }
    with_box from around key name style (inline items) inner next is there inside listed below behind = record {
      keys = key ∷ (below.keys ++ behind.keys);
      have = λ k at.
          let P : ℕ → Type 0 = λ j. Contains (key ∷ (below.keys ++ behind.keys)) j × HaveKeys (key ∷ (below.keys ++ behind.keys)) slots (first_at slots j) inner × HaveKeys (key ∷ (below.keys ++ behind.keys)) slots (next_at slots j) next in
          subst P (same_Some key k (sym is ∙ at)) (
            contains_head key key (below.keys ++ behind.keys) refl,
            have_keys_more slots below.keys (key ∷ (below.keys ++ behind.keys)) (λ j in_it. Contains-cons key j (below.keys ++ behind.keys) (Contains-append_left below.keys behind.keys j in_it)) (first_at slots key) inner below.have,
            have_keys_more slots behind.keys (key ∷ (below.keys ++ behind.keys)) (λ j in_it. Contains-cons key j (below.keys ++ behind.keys) (Contains-append_right below.keys behind.keys j in_it)) (next_at slots key) next behind.have,
          );
      few =
          let place : Place = record { around = around; name = name; style = style; content = inline items; inner = inner } in
          let kept : owed name ≡ false → IsSome (text_at slots key) = λ not_owed.
          text_found place key there ((finds name (listed name (contains_head name name (paragraphs inner ++ paragraphs next) refl)) not_owed).text place (inside place (inl refl)) refl) in
          let here = below.few in
          let there = behind.few in
          let all = lacking_append (text_at slots) below.keys behind.keys in
          let list = filtered_append owed (paragraphs inner) (paragraphs next) in
          one_more owed name (paragraphs inner ++ paragraphs next) (text_at slots key) (textless slots (below.keys ++ behind.keys)) kept (omega (arith, here, there, all, list));
    }

    text_keys : (from : Option ℕ) (around : Option Style) (row : Boxes) → StandFrom slots from row → ((place : Place) → IsAmong around row place → IsPlaceOf page place)
        → ((name : BoxName) → Contains (paragraphs row) name → Contains (paragraphs page) name) → TextKeys slots owed from row
    text_keys from around no_boxes stand inside listed = record { keys = []; have = tt; few = omega arith }
    text_keys from around (box name style content inner next) (key, is, there, within, behind) inside listed =
        with_box from around key name style content inner next is there inside listed
        (text_keys (first_at slots key) (Some style) inner within (λ p among. inside p (inr (inl among)))
        (λ other in_it. listed other (listed_before name content (paragraphs inner ++ paragraphs next) other (Contains-append_left (paragraphs inner) (paragraphs next) other in_it))))
        (text_keys (next_at slots key) around next behind (λ p among. inside p (inr (inr among)))
        (λ other in_it. listed other (listed_before name content (paragraphs inner ++ paragraphs next) other (Contains-append_right (paragraphs inner) (paragraphs next) other in_it))))

  texts_by_name : (was is : ℕ) → TextsRise slots root was is → PreparesOwed slots root page was is
  texts_by_name was is rise owed finds =
      let all = text_keys owed finds (Some root) None page (page_stands slots root page is_page) (λ p among. among) (λ name there. there) in
      let rises = rise page is_page.stands all.keys all.have in
      let few = all.few in
      omega (arith, rises, few)

  -- ---- contents

  -- what is asked for the boxes of pairs by their keys, missing for no more than are owed
  record PairAsks (owed : Pair → Bool) (pairs : List Pair) : Type 0 where
    asks : List Ask
    has : (pair : Pair) → Contains pairs pair → HoldsFor slots (λ key c. Contains asks (record { key = key; constraint = c })) pair
    few : missing slots asks ≤ length (filter owed pairs)

  result_found : (place : Place) (key : ℕ) (c : Constraint) → node_at slots key ≡ Some (node_of_place place) → HasResultOf slots place c → IsSome (kept_at slots key c)
  result_found place key c there found =
      let P : ℕ → Type 0 = λ k. IsSome (kept_at slots k c) in
      subst P (named_once found.key key (node_of_place place) (node_of_place place) found.tree.0 there refl) found.kept

  abbrev ask_of : (key : ℕ) → Constraint → Ask
  ask_of key c = record { key = key; constraint = c }

  has_one : (first : Pair) (pairs : List Pair) (at : MetAt slots page (λ key c. ⊤) first) (asks : List Ask) → ((pair : Pair) → Contains pairs pair → HoldsFor slots (λ key c. Contains asks (ask_of key c)) pair)
      → (pair : Pair) → (first ≡ pair) ⊎ Contains pairs pair → HoldsFor slots (λ key c. Contains (ask_of at.key first.constraint ∷ asks) (ask_of key c)) pair
  has_one first pairs at asks has pair (inl same) key node there name =
      let one = named_once at.key key (node_of_place at.place) node at.there there (at.name ∙ ap (λ (p : Pair). p.name) same ∙ sym name) in
      contains_head (ask_of at.key first.constraint) (ask_of key pair.constraint) asks (ap₂ ask_of one (ap (λ (p : Pair). p.constraint) same))
  has_one first pairs at asks has pair (inr behind) key node there name = Contains-cons (ask_of at.key first.constraint) (ask_of key pair.constraint) asks (has pair behind key node there name)

  pair_asks : (owed : Pair → Bool) (pairs : List Pair) → ((pair : Pair) → Contains pairs pair → MetAt slots page (λ key c. ⊤) pair)
      → ((pair : Pair) → Contains pairs pair → owed pair ≡ false → FindsResult slots root page pair) → PairAsks owed pairs
  pair_asks owed [] met_at finds = record { asks = []; has = λ pair there. absurd (contains_none pair there); few = omega arith }
  pair_asks owed (first ∷ pairs) met_at finds =
      let at = met_at first (contains_head first first pairs refl) in
      let others = pair_asks owed pairs (λ pair there. met_at pair (Contains-cons first pair pairs there)) (λ pair there. finds pair (Contains-cons first pair pairs there)) in
      let found : owed first ≡ false → IsSome (kept_at slots at.key first.constraint) = λ not_owed.
      result_found at.place at.key first.constraint at.there ((finds first (contains_head first first pairs refl) not_owed).result at.place at.among at.name) in
      record {
        asks = ask_of at.key first.constraint ∷ others.asks;
        has = λ pair there. has_one first pairs at others.asks others.has pair (Contains-cons_cases first pair pairs there);
        few = one_more owed first pairs (kept_at slots at.key first.constraint) (missing slots others.asks) found others.few;
      }

-- the root of a page stands alone
root_stands : (slots : Slots Preparation) (root : ℕ) (name : BoxName) (style : Style) (content : Content) (inner next : Boxes) → IsPageUnder slots root (box name style content inner next)
    → StandFrom slots (Some root) (box name style content inner no_boxes)
root_stands slots root name style content inner next is_page = (root, refl, is_page.stands.0, is_page.stands.1, (is_page.sound.linked.alone root is_page.free).0)

-- a place of it is one of the page
root_places : (name : BoxName) (style : Style) (content : Content) (inner next : Boxes) (place : Place) → IsAmong None (box name style content inner no_boxes) place → IsPlaceOf (box name style content inner next) place
root_places name style content inner next place (inl same) = inl same
root_places name style content inner next place (inr (inl among)) = inr (inl among)
root_places name style content inner next place (inr (inr among)) = absurd among

arranged_by_name : (faces : List (Option Table)) (view : View) (slots : Slots Preparation) (root : ℕ) (page : Boxes) (was is : ℕ) → IsPageUnder slots root page → ArrangedRise faces view slots root was is
    → ArrangesOwed faces view slots root page was is
arranged_by_name faces view slots root no_boxes was is is_page rise owed finds = absurd is_page.stands
arranged_by_name faces view slots root (box name style content inner next) was is is_page rise owed finds =
    let page : Boxes = box name style content inner next in
    let tree : Boxes = box name style content inner no_boxes in
    let outside : Outside = on_page (is_horizontal style.mode) faces view.inline view.block in
    let c : Constraint = under (Some view.inline) (Some view.block) in
    let stand = root_stands slots root name style content inner next is_page in
    let pairs : List Pair = met outside (containing_of style) tree c in
    let each : EachMet (λ key d. ⊤) (λ key d. ⊤) outside slots (Some root) (containing_of style) tree c =
    each_by_name slots outside (λ key d. ⊤) (λ key d. ⊤) (Some root) (containing_of style) tree c stand (λ pair there key node at same. tt) in
    let all = pair_asks slots root page is_page owed (each_once pairs)
    (λ pair there. each_has_place slots outside (λ key d. ⊤) (λ key d. ⊤) page (λ key d. tt) (Some root) None (containing_of style) tree c stand (root_places name style content inner next) each pair (contained_often pairs pair there))
    finds in
    let covers = each_by_name slots outside (λ key d. Contains all.asks (record { key = key; constraint = d })) (λ key d. kept_at slots key d ≡ None) (Some root) (containing_of style) tree c stand
    (λ pair there. all.has pair (contained_once pairs pair there)) in
    let rises = rise page is_page.stands all.asks covers in
    let few = all.few in
    omega (arith, rises, few)

-- ---- all is kept

-- the text of the paragraph of this name is kept
record HasTextNamed (slots : Slots Preparation) (name : BoxName) : Type 0 where
  key : ℕ
  node : Node
  there : node_at slots key ≡ Some node
  same : node.name ≡ name
  text : IsSome (text_at slots key)

text_named : (slots : Slots Preparation) (from : Option ℕ) (row : Boxes) → StandFrom slots from row → HaveTexts slots from row → (name : BoxName) → Contains (paragraphs row) name → HasTextNamed slots name
text_named slots from no_boxes stand have name there = absurd (contains_none name there)
text_named slots from (box own style content inner next) (key, is, node, within, behind) have name listed =
    by content node (have key is).0 listed (text_named slots (first_at slots key) inner within (have key is).1 name) (text_named slots (next_at slots key) next behind (have key is).2 name) where
      among : Contains (paragraphs inner) name ⊎ Contains (paragraphs next) name → (Contains (paragraphs inner) name → HasTextNamed slots name) → (Contains (paragraphs next) name → HasTextNamed slots name) → HasTextNamed slots name
      among (inl first) below after = below first
      among (inr second) below after = after second

      here : (items : List Entry) → node_at slots key ≡ Some (record { name = own; style = style; content = inline items }) → IsSome (text_at slots key) → (own ≡ name) ⊎ Contains (paragraphs inner ++ paragraphs next) name
          → (Contains (paragraphs inner) name → HasTextNamed slots name) → (Contains (paragraphs next) name → HasTextNamed slots name) → HasTextNamed slots name
      here items there text (inl same) below after = record { key = key; node = record { name = own; style = style; content = inline items }; there = there; same = same; text = text }
      here items there text (inr others) below after = among (Contains-append_cases (paragraphs inner) (paragraphs next) name others) below after

      by : (held : Content) → node_at slots key ≡ Some (record { name = own; style = style; content = held }) → HasText held (text_at slots key) → Contains (with_paragraph own held (paragraphs inner ++ paragraphs next)) name
          → (Contains (paragraphs inner) name → HasTextNamed slots name) → (Contains (paragraphs next) name → HasTextNamed slots name) → HasTextNamed slots name
      by blocks there text listed below after = among (Contains-append_cases (paragraphs inner) (paragraphs next) name listed) below after
      by (inline items) there text listed below after = here items there text (Contains-cons_cases own name (paragraphs inner ++ paragraphs next) listed) below after

alike_itself : (around : Option Style) → AreAlike around around
alike_itself None = tt
alike_itself (Some style) = record { mode = refl; direction = refl; orientation = refl }

module _ (faces : List (Option Table)) (view : View) (slots : Slots Preparation) (root : ℕ) where
  texts_kept : (page : Boxes) → IsPageUnder slots root page → HaveTexts slots (Some root) page → (name : BoxName) → Contains (paragraphs page) name → FindsText slots root page name
  texts_kept page is_page have name listed = record {
    mode = has_mode slots root page is_page;
    text = λ place among same.
        let at = place_stands slots root page is_page place among in
        let kept = text_named slots (Some root) page (page_stands slots root page is_page) have name listed in
        let P : ℕ → Type 0 = λ k. IsSome (text_at slots k) in
        let one : kept.key ≡ at.key = is_page.named kept.key at.key kept.node (node_of_place place) kept.there at.tree.0 (kept.same ∙ sym same) in
        record { key = at.key; node = at.tree.0; text = subst P one kept.text };
  }

  result_kept : (page : Boxes) → IsPageUnder slots root page → (pair : Pair) → MetAt slots page (λ key c. IsSome (kept_at slots key c)) pair → FindsResult slots root page pair
  result_kept page is_page pair found = record {
    mode = has_mode slots root page is_page;
    result = λ place among same.
        let at = place_stands slots root page is_page place among in
        let P : ℕ → Type 0 = λ k. IsSome (kept_at slots k pair.constraint) in
        let Q : Option Style → Type 0 = λ o. AreAlike (style_around slots at.key) o in
        let one : found.key ≡ at.key = is_page.named found.key at.key (node_of_place found.place) (node_of_place place) found.there at.tree.0 (found.name ∙ sym same) in
        record { key = at.key; tree = at.tree; around = subst Q at.around (alike_itself (style_around slots at.key)); kept = subst P one found.holds };
  }

  results_kept : (page : Boxes) → IsPageUnder slots root page → AreAllKeptUnder faces view slots root page → (pair : Pair) → Contains (asks faces view page) pair → FindsResult slots root page pair
  results_kept no_boxes is_page kept pair asked = absurd is_page.stands
  results_kept (box name style content inner next) is_page kept pair asked =
      let page : Boxes = box name style content inner next in
      let tree : Boxes = box name style content inner no_boxes in
      let outside : Outside = on_page (is_horizontal style.mode) faces view.inline view.block in
      let c : Constraint = under (Some view.inline) (Some view.block) in
      let pairs : List Pair = met outside (containing_of style) tree c in
      result_kept page is_page pair
      (each_has_place slots outside (λ key d. IsSome (kept_at slots key d)) (λ key d. ⊤) page (λ key d. tt) (Some root) None (containing_of style) tree c (root_stands slots root name style content inner next is_page)
      (root_places name style content inner next) kept pair (contained_often pairs pair asked))

pub counts_by_name : CountsAreByName
counts_by_name = record {
  texts = λ slots root page was is is_page. texts_by_name slots root page is_page was is;
  arranged = arranged_by_name;
  kept = λ faces view slots root page is_page kept.
      let both = kept page is_page.stands in
      record { texts = texts_kept faces view slots root page is_page both.1; results = results_kept faces view slots root page is_page both.0 };
}
