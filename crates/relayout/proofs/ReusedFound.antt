-- What is kept of the boxes of an earlier page is found for those of a page that stand as they did, with all on which it rests.
use Rattle.std.proofs.Common.{◌≡◌, ◌∙◌, ◌⊎◌, ℕ, suc, List, Option, Some, None, IsSome, option_map, option_and_then, refl, sym, ap, subst, inl, inr}
use Rattle.std.proofs.lemmas.Option.{none-some, same_Some}
use Rattle.slab.specs.Slab.{Slab}
use Rattle.face_api.specs.Table.{Table}
use Rattle.wm_modes.specs.Mode.{is_horizontal}
use Rattle.wm_modes.specs.declared.mode.WritingMode.{WritingMode}
use Rattle.wm_units.specs.declared.view.View.{View}
use Rattle.fragment_types.specs.declared.constraint.Constraint.{Constraint}
use Rattle.fragment_types.specs.Fragment.{Pieces}
use Rattle.style_types.specs.declared.style.Style.{Style}
use Rattle.box_gen.specs.Places.{AreAlike, IsAmong, IsPlaceOf, Place, tree_of}
use Rattle.box_gen.specs.Tree.{Boxes, Content, blocks, box, inline, none}
use Rattle.box_arena.specs.declared.entry.Entry.{Entry}
use Rattle.box_arena.specs.At.{IsAbove, IsSound, Node, Slots, first_at, kept_at, links_at, next_at, node_at, parent_at, text_at}
use Rattle.box_arena.specs.Boxes.{StandFrom, Stands}
use Rattle.box_arena.specs.Links.{Climbs, IsIn, IsLinked, first_of}
use Rattle.box_arena.specs.Reusing.{AreAround, IsResultFrom, around_at}
use Rattle.box_arena.proofs.AllHanded.{inside_on}
use Rattle.box_arena.proofs.Climbs.{reaches_itself}
use Rattle.box_arena.proofs.Handovers.{same_around, stood}
use Rattle.para_prepare.specs.Preparation.{Preparation}
use Rattle.relayout.specs.declared.sizes.Containing.{Containing}
use Rattle.relayout.specs.Asks.{contributes_under, put_under}
use Rattle.relayout.specs.Counts.{AreFounded, AreFoundedUnder, IsFounded, IsRowKept}
use Rattle.relayout.specs.Flow.{on_page}
use Rattle.relayout.specs.Inline.{Outside}
use Rattle.relayout.specs.Kept.{containing_at}
use Rattle.relayout.specs.Named.{BareIsFounded, HandsOver, HasMode, HasResultOf, HasTextOf, ReusedIsFound}
use Rattle.relayout.specs.Paragraph.{HasText}
use Rattle.relayout.proofs.CountLaws.{if_some_on}
use Rattle.relayout.proofs.KeptLaws.{same_containing}
use Rattle.relayout.proofs.ReuseLaws.{same_block}

abbrev Arena : Type 0
Arena = Slab (Entry Preparation)

abbrev style_of : Option Node → Option Style
style_of o = option_map (λ node. node.style) o

alike_itself : (style : Option Style) → AreAlike style style
alike_itself None = tt
alike_itself (Some style) = record { mode = refl; direction = refl; orientation = refl }

around_alike : (one other : Option Node) → AreAlike (style_of one) (style_of other) → AreAround one other
around_alike None None alike = alike
around_alike None (Some other) alike = alike
around_alike (Some one) None alike = alike
around_alike (Some one) (Some other) alike = alike

around_itself : (node : Option Node) → AreAround node node
around_itself None = tt
around_itself (Some node) = record { mode = refl; direction = refl; orientation = refl }

-- what is there goes over, whatever it is
some_over : {A : Type 0} (one other : Option A) → ((x : A) → one ≡ Some x → other ≡ Some x) → IsSome one → IsSome other
some_over None other over is = absurd (cc)
some_over (Some x) other over is = let P : Option _ → Type 0 = λ o. IsSome o in subst P (sym (over x refl)) is

-- ---- a place of a page, in the arena in which the page stands

record IsPlaced (slots : Slots Preparation) (root : ℕ) (place : Place) : Type 0 where
  key : ℕ
  above : IsAbove slots root key
  tree : Stands slots key (tree_of place)
  around : style_of (around_at slots key) ≡ place.around

-- a box in another one is below all above that
in_box : (slots : Slots Preparation) (root p k : ℕ) → IsAbove slots root p → parent_at slots k ≡ Some p → IsAbove slots root k
in_box slots root p k (n, climbs) parent = let P : Option ℕ → Type 0 = λ o. Climbs n (links_at slots) o root in (suc n, (k, refl, subst P (sym parent) climbs))

placed_in : (slots : Slots Preparation) → IsLinked (links_at slots) → (root p : ℕ) (outer : Node) → node_at slots p ≡ Some outer → IsAbove slots root p → (boxes : Boxes) (from : Option ℕ) → IsIn (links_at slots) p from
    → StandFrom slots from boxes → (place : Place) → IsAmong (Some outer.style) boxes place → IsPlaced slots root place
placed_in slots linked root p outer is above none from inside stands place among = absurd among
placed_in slots linked root p outer is above (box name style content inner next) from inside (key, at, node, within, behind) place (inl same) =
    let P : Option ℕ → Type 0 = λ o. IsIn (links_at slots) p o in
    let parent : parent_at slots key ≡ Some p = subst P at inside in
    let Q : Place → Type 0 = λ pl. Stands slots key (tree_of pl) in
    record {
      key = key;
      above = in_box slots root p key above parent;
      tree = subst Q (sym same) (node, within, refl);
      around = ap style_of (ap (option_and_then (node_at slots)) parent ∙ is) ∙ sym (ap (λ (pl : Place). pl.around) same);
    }
placed_in slots linked root p outer is above (box name style content inner next) from inside (key, at, node, within, behind) place (inr (inl deep)) =
    let P : Option ℕ → Type 0 = λ o. IsIn (links_at slots) p o in
    placed_in slots linked root key (record { name = name; style = style; content = content }) node (in_box slots root p key above (subst P at inside)) inner (first_at slots key) (linked.on key None tt) within place deep
placed_in slots linked root p outer is above (box name style content inner next) from inside (key, at, node, within, behind) place (inr (inr later)) =
    let P : Option ℕ → Type 0 = λ o. IsIn (links_at slots) p o in
    placed_in slots linked root p outer is above next (next_at slots key) (linked.on p (Some key) (subst P at inside)) behind place later

placed : (slots : Slots Preparation) → IsLinked (links_at slots) → (root : ℕ) → parent_at slots root ≡ None → (page : Boxes) → Stands slots root page → (place : Place) → IsPlaceOf page place → IsPlaced slots root place
placed slots linked root free none stands place among = absurd stands
placed slots linked root free (box name style content inner next) (node, within, alone) place (inl same) =
    let Q : Place → Type 0 = λ pl. Stands slots root (tree_of pl) in
    record {
      key = root;
      above = reaches_itself (links_at slots) root;
      tree = subst Q (sym same) (node, within, refl);
      around = ap style_of (ap (option_and_then (node_at slots)) free) ∙ sym (ap (λ (pl : Place). pl.around) same);
    }
placed slots linked root free (box name style content inner next) (node, within, alone) place (inr (inl deep)) =
    placed_in slots linked root root (record { name = name; style = style; content = content }) node (reaches_itself (links_at slots) root) inner (first_at slots root) (linked.on root None tt) within place deep
placed slots linked root free (box name style content inner next) (node, within, alone) place (inr (inr later)) =
    let P : Boxes → Type 0 = λ b. IsAmong None b place in
    absurd (subst P alone later)

-- ---- what goes over

module _ (giver given old new : Arena) (root : ℕ) (page : Boxes) (over : HandsOver giver given old new root page) where
  linked : IsLinked (links_at old.slots)
  linked = over.under.sound.linked

  has_mode : (page : Boxes) → Stands old.slots root page → HasMode new.slots root page
  has_mode none stands = absurd stands
  has_mode (box name style content inner next) (node, within, alone) = (record { name = name; style = style; content = content }, over.reuses.nodes root ∙ node, refl)

  stands_still : (key : ℕ) (tree : Boxes) → Stands old.slots key tree → Stands new.slots key tree
  stands_still = stood new.slots old.slots (λ k. sym (over.reuses.links k)) (λ k. sym (over.reuses.nodes k))

  text_found : (place : Place) → IsPlaceOf page place → HasTextOf giver.slots place → HasTextOf new.slots place
  text_found place here was =
      let at = placed old.slots linked root over.under.free page over.under.stands place here in
      let node : Node = record { name = place.name; style = place.style; content = place.content } in
      record {
        key = at.key;
        node = over.reuses.nodes at.key ∙ at.tree.0;
        text = some_over (text_at giver.slots was.key) (text_at new.slots at.key) (λ text is. over.all.texts at.key was.key node text at.above at.tree.0 was.node is) was.text;
      }

  result_found : (place : Place) (c : Constraint) → IsPlaceOf page place → HasResultOf giver.slots place c → HasResultOf new.slots place c
  result_found place c here was =
      let at = placed old.slots linked root over.under.free page over.under.stands place here in
      let P : Option Style → Type 0 = λ o. AreAlike (style_of (around_at giver.slots was.key)) o in
      let Q : Option Style → Type 0 = λ o. AreAlike o place.around in
      let around = around_alike (around_at giver.slots was.key) (around_at old.slots at.key) (subst P (sym at.around) was.around) in
      record {
        key = at.key;
        tree = stands_still at.key (tree_of place) at.tree;
        around = subst Q (sym (ap style_of (same_around old.slots new.slots over.reuses.nodes over.reuses.links at.key) ∙ at.around)) (alike_itself place.around);
        kept = some_over (kept_at giver.slots was.key c) (kept_at new.slots at.key c) (λ result is. over.all.results at.key was.key (tree_of place) c result at.above at.tree was.tree around is) was.kept;
      }

  -- ---- what a result rests on

  module _ (sound : IsSound giver.slots) (outer : Node) (from key : ℕ) (is : node_at giver.slots from ≡ Some outer) (also : node_at old.slots key ≡ Some outer) (above : IsAbove old.slots root key) where
    row_over : (c : Constraint) (boxes : Boxes) (x y : Option ℕ) → IsIn (links_at giver.slots) from x → IsIn (links_at old.slots) key y → StandFrom giver.slots x boxes → StandFrom new.slots y boxes
        → IsRowKept giver.slots giver.slots x boxes c → IsRowKept new.slots new.slots y boxes c
    row_over c none x y in_x in_y stands_x stands_y kept = kept
    row_over c (box name style content inner next) x y in_x in_y (a, at_a, node_a, within_a, behind_a) (b, at_b, node_b, within_b, behind_b) kept = λ k k_is.
        let same : b ≡ k = same_Some b k (sym at_b ∙ k_is) in
        let P : Option ℕ → Type 0 = λ o. IsIn (links_at giver.slots) from o in
        let Q : Option ℕ → Type 0 = λ o. IsIn (links_at old.slots) key o in
        let tree = box name style content inner none in
        let stands_b : Stands old.slots b tree = stood old.slots new.slots over.reuses.links over.reuses.nodes b tree (node_b, within_b, refl) in
        let around_a : around_at giver.slots a ≡ Some outer = ap (option_and_then (node_at giver.slots)) (subst P at_a in_x) ∙ is in
        let around_b : around_at old.slots b ≡ Some outer = ap (option_and_then (node_at old.slots)) (subst Q at_b in_y) ∙ also in
        let A : Option Node → Type 0 = λ o. AreAround o (around_at old.slots b) in
        let B : Option Node → Type 0 = λ o. AreAround (Some outer) o in
        let around : AreAround (around_at giver.slots a) (around_at old.slots b) = subst A (sym around_a) (subst B (sym around_b) (around_itself (Some outer))) in
        let (here, later) = kept a at_a in
        let gone = some_over (kept_at giver.slots a c) (kept_at new.slots b c) (λ result kept_a. over.all.results b a tree c result (in_box old.slots root key b above (subst Q at_b in_y)) stands_b (node_a, within_a, refl) around kept_a) here in
        let rest = row_over c next (next_at giver.slots a) (next_at new.slots b) (sound.linked.on from (Some a) (subst P at_a in_x)) (inside_on old.slots new.slots key b y linked over.reuses.links in_y at_b) behind_a behind_b later in
        let R : ℕ → Type 0 = λ j. IsSome (kept_at new.slots j c) × IsRowKept new.slots new.slots (next_at new.slots j) next c in
        subst R same (gone, rest)

    text_over : (content : Content) → outer.content ≡ content → HasText content (text_at giver.slots from) → HasText content (text_at new.slots key)
    text_over blocks is_content text = tt
    text_over (inline items) is_content text = some_over (text_at giver.slots from) (text_at new.slots key) (λ t was. over.all.texts key from outer t above also is was) text

    founded_over : (outside : Outside) (containing : Containing) (inner : Boxes) (c : Constraint) → StandFrom giver.slots (first_at giver.slots from) inner → StandFrom new.slots (first_at new.slots key) inner
        → IsFounded outside giver.slots from containing outer inner c → IsFounded outside new.slots key containing outer inner c
    founded_over outside containing inner c there here founded =
        let P : Option ℕ → Type 0 = λ o. IsIn (links_at old.slots) key o in
        let first : IsIn (links_at old.slots) key (first_at new.slots key) = subst P (sym (ap first_of (over.reuses.links key))) (linked.on key None tt) in
        let row : (d : Constraint) → IsRowKept giver.slots giver.slots (first_at giver.slots from) inner d → IsRowKept new.slots new.slots (first_at new.slots key) inner d
        = λ d kept. row_over d inner (first_at giver.slots from) (first_at new.slots key) (sound.linked.on from None tt) first there here kept in
        record {
          text = text_over outer.content refl founded.text;
          contributions = if_some_on (contributes_under containing outer c) _ _ row founded.contributions;
          inside = if_some_on (put_under outside containing outer c inner) _ _ row founded.inside;
        }

  -- a result that is kept came from a box that was the same
  came_from : (key : ℕ) (c : Constraint) (result : Pieces) → kept_at new.slots key c ≡ Some result → IsResultFrom giver.slots old.slots key c result × IsAbove old.slots root key
  came_from key c result is = (from (over.reuses.results key c result is), under (over.all.elsewhere key c result is))
    where
      from : (kept_at old.slots key c ≡ Some result) ⊎ IsResultFrom giver.slots old.slots key c result → IsResultFrom giver.slots old.slots key c result
      from (inl kept) = absurd (none-some result (sym (over.bare.kept key c) ∙ kept))
      from (inr came) = came

      under : (kept_at old.slots key c ≡ Some result) ⊎ IsAbove old.slots root key → IsAbove old.slots root key
      under (inl kept) = absurd (none-some result (sym (over.bare.kept key c) ∙ kept))
      under (inr above) = above

  all_founded : (outside : Outside) → IsSound giver.slots → AreFounded outside giver.slots → AreFounded outside new.slots
  all_founded outside sound founded key c kept node is inner stands = by (kept_at new.slots key c) refl kept
    where
      by : (o : Option Pieces) → kept_at new.slots key c ≡ o → IsSome o → IsFounded outside new.slots key (containing_at new.slots key node.style) node inner c
      by None at some = absurd (cc)
      by (Some result) at some =
          let (came, above) = came_from key c result at in
          let tree = box node.name node.style node.content inner none in
          let (there, within, alone) = came.tree tree (stood old.slots new.slots over.reuses.links over.reuses.nodes key tree (is, stands, refl)) in
          let P : Option Pieces → Type 0 = λ o. IsSome o in
          let rests = founded came.from c (subst P (sym came.was) refl) node there inner within in
          let same : containing_at giver.slots came.from node.style ≡ containing_at new.slots key node.style =
          same_block (around_at giver.slots came.from) (around_at old.slots key) node.style came.around
          ∙ sym (same_containing old.slots new.slots over.reuses.links over.reuses.nodes key node.style) in
          let Q : Containing → Type 0 = λ x. IsFounded outside new.slots key x node inner c in
          subst Q same (founded_over sound node came.from key there (sym (over.reuses.nodes key) ∙ is) above outside (containing_at giver.slots came.from node.style) inner c within stands rests)

  mode_founded : (faces : List (Option Table)) (view : View) (from : ℕ) → IsSound giver.slots → (page : Boxes) → Stands old.slots root page → HasMode giver.slots from page → AreFoundedUnder faces view giver.slots from
      → AreFoundedUnder faces view new.slots root
  mode_founded faces view from sound none stands mode founded = absurd stands
  mode_founded faces view from sound (box name style content inner next) (at, within, alone) (was, there, mode) founded = λ node is.
      let here : record { name = name; style = style; content = content } ≡ node = same_Some _ _ (sym (over.reuses.nodes root ∙ at) ∙ is) in
      let same : was.style.mode ≡ node.style.mode = mode ∙ ap (λ (n : Node). n.style.mode) here in
      let P : WritingMode → Type 0 = λ m. AreFounded (on_page (is_horizontal m) faces view.inline view.block) new.slots in
      subst P same (all_founded (on_page (is_horizontal was.style.mode) faces view.inline view.block) sound (founded was there))

pub reused_is_found : ReusedIsFound
reused_is_found = record {
  texts = λ giver given old new from root page name over finds. record {
    mode = has_mode giver given old new root page over page over.under.stands;
    text = λ place here is. text_found giver given old new root page over place here (finds.text place here is);
  };
  results = λ giver given old new from root page pair over finds. record {
    mode = has_mode giver given old new root page over page over.under.stands;
    result = λ place here is. result_found giver given old new root page over place pair.constraint here (finds.result place here is);
  };
  founded = λ faces view giver given old new from root page over sound mode founded. mode_founded giver given old new root page over faces view from sound page over.under.stands mode founded;
}

pub bare_is_founded : BareIsFounded
bare_is_founded faces view slots root bare node is key c kept =
    let P : Option Pieces → Type 0 = λ o. IsSome o in
    let never = subst P (bare.kept key c) kept in
    absurd (cc)
