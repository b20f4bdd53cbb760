-- A text is set in the one box of an arena that holds it: the page with its letters stands, what is kept is right, and all that was found for the
-- page with these letters is found still.
use Rattle.std.proofs.Common.{◌≡◌, ◌∙◌, ◌⊎◌, ℕ, zero, suc, List, Option, Some, None, IsSome, option_map, option_and_then, refl, sym, ap, subst, inl, inr}
use Rattle.std.proofs.lemmas.Bool.{cases_eq}
use Rattle.std.proofs.lemmas.Option.{same_Some}
use Rattle.slab.specs.Slab.{Slab}
use Rattle.face_api.specs.Table.{Table}
use Rattle.wm_modes.specs.Mode.{is_horizontal}
use Rattle.wm_units.specs.declared.view.View.{View}
use Rattle.fragment_types.specs.declared.constraint.Constraint.{Constraint}
use Rattle.fragment_types.specs.Fragment.{Pieces}
use Rattle.style_types.specs.declared.style.Style.{Style}
use Rattle.box_gen.specs.Places.{AreAlike, IsPlaceOf, Place, tree_of}
use Rattle.box_gen.specs.Tree.{Boxes, Content, box, none}
use Rattle.box_arena.specs.declared.entry.Entry.{Entry}
use Rattle.box_arena.specs.At.{IsAbove, Node, first_at, links_at, next_at, node_at, parent_at}
use Rattle.box_arena.specs.Boxes.{StandFrom, Stands}
use Rattle.box_arena.specs.Links.{Climbs, IsIn, first_of, next_of, parent_of}
use Rattle.box_arena.specs.Reusing.{AreNamedOnce}
use Rattle.box_arena.proofs.AllHanded.{IsInRow, above_split, in_row}
use Rattle.box_arena.proofs.Climbs.{reaches_itself}
use Rattle.box_arena.proofs.Survival.{survive_restyle}
use Rattle.para_prepare.specs.Preparation.{Preparation}
use Rattle.relayout.specs.Flow.{on_page}
use Rattle.relayout.specs.Kept.{AreRight}
use Rattle.relayout.specs.Laws.{RestyledAlikeIsRight}
use Rattle.relayout.specs.Named.{HasMode, HasResultOf, HasTextOf, IsPageUnder}
use Rattle.relayout.specs.Relayout.{AreRightUnder}
use Rattle.relayout.proofs.PagePlaces.{node_of_place, place_stands, style_around}
use Rattle.text_boxes.specs.Boxes.{boxes_with, content_with, node_with}
use Rattle.text_boxes.specs.Setting.{SetsTextIn}
use Rattle.text_boxes.proofs.SetPlaces.{content_stays, place_before, place_with}

module _ (old new : Slab (Entry Preparation)) (root number : ℕ) (letters : List ℕ) (page : Boxes) (setting : SetsTextIn old new root number letters page) where
  -- ---- the page

  -- a box under the root has the letters, if it holds the text
  node_set : (k : ℕ) (node : Node) → IsAbove old.slots root k → node_at old.slots k ≡ Some node → node_at new.slots k ≡ Some (node_with number letters node)
  node_set k node below is = elim (cases_eq k setting.sets.key) [
    | inl same ↦
        let P : ℕ → Type 0 = λ j. node_at old.slots j ≡ Some node in
        let own : setting.sets.node ≡ node = same_Some setting.sets.node node (sym setting.sets.was ∙ subst P same is) in
        ap (node_at new.slots) same ∙ setting.sets.restyles.here ∙ ap (λ (n : Node). Some (node_with number letters n)) own
    | inr apart ↦
        let stays = content_stays number letters node.content (setting.sets.only.others k node below apart is) in
        let with_it : Content → Option Node = λ content. Some (record { name = node.name; style = node.style; content = content }) in
        setting.sets.restyles.elsewhere k apart ∙ is ∙ ap with_it (sym stays)
  ]

  -- a child of a box under the root is under it
  below_too : (p k : ℕ) → IsAbove old.slots root p → parent_at old.slots k ≡ Some p → IsAbove old.slots root k
  below_too p k (n, climbs) parent = let P : Option ℕ → Type 0 = λ o. Climbs n (links_at old.slots) o root in (suc n, (k, refl, subst P (sym parent) climbs))

  -- so have all boxes of a row under it
  row_set : (p : ℕ) (from : Option ℕ) (row : Boxes) → IsAbove old.slots root p → IsIn (links_at old.slots) p from → StandFrom old.slots from row → StandFrom new.slots from (boxes_with number letters row)
  row_set p from none below inside is = is
  row_set p from (box name style content inner next) below inside (key, is, node, within, behind) =
      let P : Option ℕ → Type 0 = λ o. IsIn (links_at old.slots) p o in
      let Q : Option ℕ → Type 0 = λ o. StandFrom new.slots o (boxes_with number letters inner) in
      let R : Option ℕ → Type 0 = λ o. StandFrom new.slots o (boxes_with number letters next) in
      let parent : parent_at old.slots key ≡ Some p = subst P is inside in
      let low = below_too p key below parent in (
        key,
        is,
        node_set key (record { name = name; style = style; content = content }) low node,
        subst Q (sym (ap first_of (setting.sets.restyles.links key))) (row_set key (first_at old.slots key) inner low (setting.under.sound.linked.on key None tt) within),
        subst R (sym (ap next_of (setting.sets.restyles.links key))) (row_set p (next_at old.slots key) next below (setting.under.sound.linked.on p (Some key) parent) behind),
      )

  -- and all of its tree
  tree_set : (tree : Boxes) → Stands old.slots root tree → Stands new.slots root (boxes_with number letters tree)
  tree_set none stands = absurd stands
  tree_set (box name style content inner next) (node, within, alone) =
      let P : Option ℕ → Type 0 = λ o. StandFrom new.slots o (boxes_with number letters inner) in
      let below = reaches_itself (links_at old.slots) root in (
        node_set root (record { name = name; style = style; content = content }) below node,
        subst P (sym (ap first_of (setting.sets.restyles.links root))) (row_set root (first_at old.slots root) inner below (setting.under.sound.linked.on root None tt) within),
        ap (boxes_with number letters) alone,
      )

  -- each box has the name and the style that it had
  pub node_was : (k : ℕ) (node : Node) → node_at new.slots k ≡ Some node → (was : Node) × (node_at old.slots k ≡ Some was) × (was.name ≡ node.name) × (was.style ≡ node.style)
  node_was k node is = elim (cases_eq k setting.sets.key) [
    | inl same ↦
        let P : ℕ → Type 0 = λ j. node_at new.slots j ≡ Some node in
        let own : node_with number letters setting.sets.node ≡ node = same_Some (node_with number letters setting.sets.node) node (sym setting.sets.restyles.here ∙ subst P same is) in
        (setting.sets.node, ap (node_at old.slots) same ∙ setting.sets.was, ap (λ (n : Node). n.name) own, ap (λ (n : Node). n.style) own)
    | inr apart ↦ (node, sym (setting.sets.restyles.elsewhere k apart) ∙ is, refl, refl)
  ]

  -- so each is told by its name
  still_named : AreNamedOnce new.slots
  still_named one other node same is also alike =
      let (was, there, name, style) = node_was one node is in
      let (before, at, called, styled) = node_was other same also in
      setting.under.named one other was before there at (name ∙ alike ∙ sym called)

  -- the page with the letters stands
  pub page_set : IsPageUnder new.slots root (boxes_with number letters page)
  page_set = record {
    stands = tree_set page setting.under.stands;
    free = ap parent_of (setting.sets.restyles.links root) ∙ setting.under.free;
    named = still_named;
    sound = setting.sound;
  }

  -- ---- what is right

  -- a law of restyles, for the page of the root, whose mode stays
  pub right_set : RestyledAlikeIsRight → (faces : List (Option Table)) (view : View) → AreRightUnder faces view old.slots root → AreRightUnder faces view new.slots root
  right_set law faces view right node is =
      let (was, there, name, style) = node_was root node is in
      let P : Style → Type 0 = λ s. AreRight (on_page (is_horizontal s.mode) faces view.inline view.block) new.slots in
      subst P style
      (law (on_page (is_horizontal was.style.mode) faces view.inline view.block) old new setting.sets.key setting.sets.node (node_with number letters setting.sets.node) setting.under.sound.linked (right was there) setting.sets.was refl
      setting.sets.restyles)

  -- ---- where a place of the page with the letters stood already

  -- the letters make a difference in their box
  never_same : (node : Node) → node_at old.slots setting.sets.key ≡ Some node → content_with number letters node.content ≡ node.content → ⊥
  never_same node is same =
      let P : Node → Type 0 = λ n. content_with number letters n.content ≡ n.content in
      setting.sets.differs (subst P (same_Some node setting.sets.node (sym is ∙ setting.sets.was)) same)

  -- one of a row that stands with these letters and without them
  one_of_both : (from : Option ℕ) (row : Boxes) (c : ℕ) → StandFrom old.slots from row → StandFrom old.slots from (boxes_with number letters row) → IsInRow old.slots from row c
      → (tree : Boxes) × Stands old.slots c tree × Stands old.slots c (boxes_with number letters tree)
  one_of_both from none c plain lettered in_it = absurd in_it
  one_of_both from (box name style content inner next) c (a, a_is, a_node, a_within, a_behind) (b, b_is, b_node, b_within, b_behind) (key, is, found) =
      let P : ℕ → Type 0 = λ j. Stands old.slots j (box name style content inner none) × StandFrom old.slots (next_at old.slots j) next in
      let Q : ℕ → Type 0 = λ j. Stands old.slots j (boxes_with number letters (box name style content inner none)) × StandFrom old.slots (next_at old.slots j) (boxes_with number letters next) in
      let one = subst P (same_Some a key (sym a_is ∙ is)) ((a_node, a_within, refl), a_behind) in
      let other = subst Q (same_Some b key (sym b_is ∙ is)) ((b_node, b_within, refl), b_behind) in
      by one.0 other.0 (λ later. one_of_both (next_at old.slots key) next c one.1 other.1 later) found
    where
      by : Stands old.slots key (box name style content inner none) → Stands old.slots key (boxes_with number letters (box name style content inner none))
          → (IsInRow old.slots (next_at old.slots key) next c → (tree : Boxes) × Stands old.slots c tree × Stands old.slots c (boxes_with number letters tree))
          → (key ≡ c) ⊎ IsInRow old.slots (next_at old.slots key) next c → (tree : Boxes) × Stands old.slots c tree × Stands old.slots c (boxes_with number letters tree)
      by plain lettered behind (inl same) =
          let tree : Boxes = box name style content inner none in
          let R : ℕ → Type 0 = λ j. Stands old.slots j tree × Stands old.slots j (boxes_with number letters tree) in
          let both = subst R same (plain, lettered) in
          (tree, both.0, both.1)
      by plain lettered behind (inr later) = behind later

  -- a tree that stands with these letters and without them doesn't hold the text
  never_inside : (n k : ℕ) (tree : Boxes) → Stands old.slots k tree → Stands old.slots k (boxes_with number letters tree) → Climbs n (links_at old.slots) (Some setting.sets.key) k → ⊥
  never_inside n k none plain lettered climbs = absurd plain
  never_inside zero k (box name style content inner next) (node, within, alone) (lettered, others, last) climbs =
      let P : ℕ → Type 0 = λ j. node_at old.slots j ≡ Some (record { name = name; style = style; content = content }) in
      let same = same_Some _ _ (sym lettered ∙ node) in
      never_same (record { name = name; style = style; content = content }) (subst P (sym (same_Some setting.sets.key k climbs)) node) (ap (λ (n : Node). n.content) same)
  never_inside (suc n) k (box name style content inner next) (node, within, alone) (lettered, others, last) climbs =
      let (c, climb, parent) = above_split (links_at old.slots) n (Some setting.sets.key) k climbs in
      let all = setting.under.sound.linked.children k in
      let row = in_row old.slots (first_at old.slots k) all.list inner c all.chain within (all.whole c parent) in
      let (tree, plain, with_it) = one_of_both (first_at old.slots k) inner c within others row in
      never_inside n c tree plain with_it climb

  -- the place of the page that a place with the letters was, and where it stands
  record StoodAt (place : Place) (key : ℕ) : Type 0 where
    was : Place
    is : place ≡ place_with number letters was
    tree : Stands old.slots key (tree_of was)

  stood_at : (place : Place) → IsPlaceOf (boxes_with number letters page) place → (key : ℕ) → node_at old.slots key ≡ Some (node_of_place place) → StoodAt place key
  stood_at place among key node =
      let from = place_before number letters None page place among in
      let at = place_stands old.slots root page setting.under from.was from.among in
      let one : at.key ≡ key = setting.under.named at.key key (node_of_place from.was) (node_of_place place) at.tree.0 node (sym (ap (λ (p : Place). p.name) from.is)) in
      let P : ℕ → Type 0 = λ j. Stands old.slots j (tree_of from.was) in
      record { was = from.was; is = from.is; tree = subst P one at.tree }

  -- ---- what is found

  -- the root's mode is that of its page
  has_mode : (tree : Boxes) → Stands new.slots root tree → HasMode new.slots root tree
  has_mode none stands = absurd stands
  has_mode (box name style content inner next) (node, within, alone) = (record { name = name; style = style; content = content }, node, refl)

  pub mode_set : HasMode new.slots root (boxes_with number letters page)
  mode_set = has_mode (boxes_with number letters page) (tree_set page setting.under.stands)

  -- a text that is found isn't that of the box in which the letters are set
  pub text_stays : (place : Place) → IsPlaceOf (boxes_with number letters page) place → HasTextOf old.slots place → HasTextOf new.slots place
  text_stays place among found = elim (cases_eq found.key setting.sets.key) [
    | inl same ↦
        let stood = stood_at place among found.key found.node in
        let P : Place → Type 0 = λ p. node_at old.slots found.key ≡ Some (node_of_place p) in
        let lettered = subst P stood.is found.node in
        let Q : ℕ → Type 0 = λ j. node_at old.slots j ≡ Some (node_of_place stood.was) in
        absurd (never_same (node_of_place stood.was) (subst Q same stood.tree.0) (ap (λ (n : Node). n.content) (same_Some _ _ (sym lettered ∙ stood.tree.0))))
    | inr apart ↦
        let P : Option Preparation → Type 0 = λ o. IsSome o in
        record { key = found.key; node = setting.sets.restyles.elsewhere found.key apart ∙ found.node; text = subst P (sym (setting.sets.restyles.texts found.key apart)) found.text }
  ]

  -- a box stands in one of the style that it stood in
  style_stays : (k : ℕ) → style_around new.slots k ≡ style_around old.slots k
  style_stays k = ap (λ (o : Option ℕ). option_map (λ (n : Node). n.style) (option_and_then (node_at new.slots) o)) (ap parent_of (setting.sets.restyles.links k)) ∙ by (parent_at old.slots k)
    where
      at : (p : ℕ) → option_map (λ (n : Node). n.style) (node_at new.slots p) ≡ option_map (λ (n : Node). n.style) (node_at old.slots p)
      at p = elim (cases_eq p setting.sets.key) [
        | inl same ↦
            let P : ℕ → Type 0 = λ j. option_map (λ (n : Node). n.style) (node_at new.slots j) ≡ option_map (λ (n : Node). n.style) (node_at old.slots j) in
            subst P (sym same) (ap (option_map (λ (n : Node). n.style)) setting.sets.restyles.here ∙ sym (ap (option_map (λ (n : Node). n.style)) setting.sets.was))
        | inr apart ↦ ap (option_map (λ (n : Node). n.style)) (setting.sets.restyles.elsewhere p apart)
      ]

      by : (o : Option ℕ) → option_map (λ (n : Node). n.style) (option_and_then (node_at new.slots) o) ≡ option_map (λ (n : Node). n.style) (option_and_then (node_at old.slots) o)
      by None = refl
      by (Some p) = at p

  -- nor is a result that of the box or of one above it
  pub result_stays : (place : Place) (c : Constraint) → IsPlaceOf (boxes_with number letters page) place → HasResultOf old.slots place c → HasResultOf new.slots place c
  result_stays place c among found =
      let stood = stood_at place among found.key found.tree.0 in
      let P : Place → Type 0 = λ p. Stands old.slots found.key (tree_of p) in
      let lettered : Stands old.slots found.key (boxes_with number letters (tree_of stood.was)) = subst P stood.is found.tree in
      let free : IsAbove old.slots found.key setting.sets.key → ⊥ = λ above. never_inside above.0 found.key (tree_of stood.was) stood.tree lettered above.1 in
      let still = survive_restyle old new setting.sets.key (node_with number letters setting.sets.node) setting.under.sound.linked setting.sets.restyles found.key free in
      let Q : Option Style → Type 0 = λ o. AreAlike o place.around in
      let R : Option Pieces → Type 0 = λ o. IsSome o in
      record { key = found.key; tree = still.on (tree_of place) found.tree; around = subst Q (sym (style_stays found.key)) found.around; kept = subst R (sym (still.kept c)) found.kept }
