-- Boxes in an arena that stand side by side, one by one.
use Rattle.std.proofs.Common.{◌≡◌, ◌∙◌, refl, sym, ap, subst, arith, ℕ, suc, ◌+◌, ◌-◌, ◌*◌, ◌≤◌, ◌^◌, List, [], ◌∷◌, ◌++◌, length, map, Option, Some, None, ℤ, inl, inr}
use Rattle.std.specs.Prelude.{All, IsSome, max, option_and_then, option_map, slice_index_or}
use Rattle.std.proofs.lemmas.List.Elements.{All-cons, All-nil}
use Rattle.std.proofs.lemmas.Bool.{cases_eq}
use Rattle.std.proofs.lemmas.Option.{none-some, same_Some}
use Rattle.slab.specs.Slab.{Slab, ContainsKey, get}
use Rattle.fragment_types.specs.declared.constraint.Constraint.{Constraint}
use Rattle.fragment_types.specs.declared.fragment.Fragment.{Fragment}
use Rattle.fragment_types.specs.declared.item.BoxName.{BoxName}
use Rattle.style_types.specs.declared.style.Style.{Style}
use Rattle.fragment_types.specs.Fragment.{Pieces, moved_to, none, piece_of}
use Rattle.style_types.specs.Style.{IsBounded}
use Rattle.line_place.proofs.Fragments.{as_piece}
use Rattle.box_arena.specs.declared.entry.Entry.{Entry}
use Rattle.box_arena.specs.Arena.{Keeps, KeepsText}
use Rattle.box_arena.specs.At.{Node, Slots, first_at, kept_at, links_at, next_at, node_at, node_of, parent_at, text_at}
use Rattle.box_arena.specs.Boxes.{StandFrom}
use Rattle.box_arena.specs.Links as linking
use Rattle.box_arena.specs.Links.{IsLinked}
use Rattle.box_gen.specs.Tree.{Boxes, Content, blocks, box, inline, none as no_boxes, count, siblings}
use Rattle.para_prepare.specs.Preparation.{Preparation}
use Rattle.relayout.specs.declared.flowed.LaidBox.{LaidBox}
use Rattle.relayout.specs.declared.sizes.Containing.{Containing}
use Rattle.relayout.specs.Fit.{AreFit, heaviest, reach_of, room_in, weight}
use Rattle.relayout.specs.Flow.{flow_step, laid_under, members}
use Rattle.relayout.specs.Flowed.{AreLaid, Member, Part, at, part_of}
use Rattle.relayout.specs.Inline.{Outside}
use Rattle.relayout.specs.Intrinsic.{IsTextOf}
use Rattle.relayout.specs.Kept.{AreRight, IsResultAt, IsTextAt, IsTextIn, containing_by, inside}
use Rattle.relayout.specs.Near.{AreBounded, HasReach, IsNearLaid, IsNearMember, IsNearPart}
use Rattle.relayout.specs.Paragraph.{IsReadyFor, IsReadyIn}
use Rattle.relayout.specs.Row.{IsFlowed, IsSteady, Lead, StandsIn}
use Rattle.relayout.specs.Sizes.{containing_of}
use Rattle.relayout.specs.Step.{AreUnder, under}
use Rattle.relayout.proofs.FlowLaws.{flows_near, step_margins}
use Rattle.box_arena.proofs.Handovers.{stand_before}
use Rattle.relayout.proofs.KeptLaws.{constraint_cases, kept_is_right, kept_text_is_right, same_containing}

abbrev pub Arena : Type 0
Arena = Slab (Entry Preparation)

-- ---- a fragment at its own place

pub moved_there : (fragment : Fragment) → moved_to (part_of fragment).rect (piece_of fragment) ≡ piece_of fragment
moved_there fragment = ap (moved_to (part_of fragment).rect) (as_piece fragment none) ∙ sym (as_piece fragment none)

-- ---- a box that is there

pub lives_there : (boxes : Arena) (key : ℕ) (node : Node) → node_at boxes.slots key ≡ Some node → ContainsKey boxes key
lives_there boxes key node is = by (get boxes key) is where
  by : (entry : Option (Entry Preparation)) → option_map (λ held. node_of held.node) (option_map (λ entry. entry.held) entry) ≡ Some node → IsSome entry
  by None is = absurd (none-some node is)
  by (Some entry) is = refl

-- a box of a row, and those behind it
pub row_on : (boxes : Arena) (next : Option ℕ) (key : ℕ) → (rest : Boxes) × StandFrom boxes.slots next rest → next ≡ Some key
    → ContainsKey boxes key × ((others : Boxes) × StandFrom boxes.slots (next_at boxes.slots key) others)
row_on boxes next key (rest, stand) is = by rest stand where
  by : (rest : Boxes) → StandFrom boxes.slots next rest → ContainsKey boxes key × ((others : Boxes) × StandFrom boxes.slots (next_at boxes.slots key) others)
  by no_boxes stand = absurd (none-some key (sym stand ∙ is))
  by (box name style content inner others) (k, at, node, within, behind) =
      let same : k ≡ key = same_Some k key (sym at ∙ is) in
      let A : ℕ → Type 0 = λ n. node_at boxes.slots n ≡ Some (record { name = name; style = style; content = content }) in
      let B : ℕ → Type 0 = λ n. StandFrom boxes.slots (next_at boxes.slots n) others in
      (lives_there boxes key (record { name = name; style = style; content = content }) (subst A same node), (others, subst B same behind))

node_lives : (slots : Slots Preparation) (key : ℕ) → IsSome (links_at slots key) → (node : Node) × (node_at slots key ≡ Some node)
node_lives slots key live = by (slice_index_or slots key None) live where
  by : (entry : Option (Entry Preparation)) → IsSome (option_map (λ entry. entry.links) entry) → (node : Node) × (option_map (λ held. node_of held.node) (option_map (λ entry. entry.held) entry) ≡ Some node)
  by None live = absurd (cc)
  by (Some entry) live = (node_of entry.held.node, refl)

-- ---- what containing blocks are to boxes

parent_in : (slots : Slots Preparation) (parent : ℕ) (node : Node) (o : Option ℕ) → node_at slots parent ≡ Some node → linking.IsIn (links_at slots) parent o → StandsIn slots o (containing_of node.style)
parent_in slots parent node None is inside = tt
parent_in slots parent node (Some child) is inside = λ own there.
    ap (λ (p : Option ℕ). containing_by (option_and_then (node_at slots) p) own.style) inside ∙ ap (λ (n : Option Node). containing_by n own.style) is

-- the first child of a box
pub inside_first : (slots : Slots Preparation) (key : ℕ) (node : Node) → IsLinked (links_at slots) → node_at slots key ≡ Some node → StandsIn slots (first_at slots key) (containing_of node.style)
inside_first slots key node linked is = parent_in slots key node (first_at slots key) is (linked.on key None tt)

-- the sibling behind a box
pub inside_next : (slots : Slots Preparation) (key : ℕ) (node : Node) (containing : Containing) → IsLinked (links_at slots) → node_at slots key ≡ Some node → StandsIn slots (Some key) containing
    → StandsIn slots (next_at slots key) containing
inside_next slots key node containing linked is inside = by (parent_at slots key) refl where
  by : (parent : Option ℕ) → parent_at slots key ≡ parent → StandsIn slots (next_at slots key) containing
  by None free = let P : Option ℕ → Type 0 = λ o. StandsIn slots o containing in subst P (sym (linked.alone key free).0) tt
  by (Some parent) own =
      let there = node_lives slots parent (linked.live key parent own) in
      let same : containing_of there.0.style ≡ containing =
      sym (ap (λ (p : Option ℕ). containing_by (option_and_then (node_at slots) p) node.style) own ∙ ap (λ (n : Option Node). containing_by n node.style) there.1) ∙ inside node is in
      let P : Containing → Type 0 = λ x. StandsIn slots (next_at slots key) x in
      subst P same (parent_in slots parent there.0 (next_at slots key) there.1 (linked.on parent (Some key) own))

-- ---- where links and nodes stay

pub steady_itself : (outside : Outside) (boxes : Arena) → AreRight outside boxes.slots → IsSteady outside boxes boxes
steady_itself outside boxes right = record {
  links = λ k. refl;
  nodes = λ k. refl;
  live = λ k there. there;
  room = λ n room. room;
  texts = λ k there. there;
  kept = λ k c there. there;
  right = right;
}

pub steady_then : (outside : Outside) (old mid new : Arena) → IsSteady outside old mid → IsSteady outside mid new → IsSteady outside old new
steady_then outside old mid new one other = record {
  links = λ k. other.links k ∙ one.links k;
  nodes = λ k. other.nodes k ∙ one.nodes k;
  live = λ k there. other.live k (one.live k there);
  room = λ n room. other.room n (one.room n room);
  texts = λ k there. other.texts k (one.texts k there);
  kept = λ k c there. other.kept k c (one.kept k c there);
  right = other.right;
}

pub some_of : (text one : Option Preparation) → one ≡ text → IsSome text → IsSome one
some_of text one is there = let P : Option Preparation → Type 0 = λ t. IsSome t in subst P (sym is) there

-- a result that is right is kept
pub steady_kept : (outside : Outside) (old new : Arena) (key : ℕ) (c : Constraint) (result : Pieces) → AreRight outside old.slots → IsResultAt outside old.slots key c result → Keeps old new key c result
    → IsSteady outside old new
steady_kept outside old new key c result right is keeps = record {
  links = keeps.links;
  nodes = keeps.nodes;
  live = keeps.live;
  room = keeps.room;
  texts = λ k there. some_of (text_at old.slots k) (text_at new.slots k) (keeps.texts k) there;
  kept = kept;
  right = kept_is_right outside old new key c result right is keeps;
} where
  there_of : (one other : Option Pieces) → other ≡ one → IsSome one → IsSome other
  there_of one other same there = let P : Option Pieces → Type 0 = λ o. IsSome o in subst P (sym same) there

  here : (d : Constraint) → IsSome (kept_at old.slots key d) → IsSome (kept_at new.slots key d)
  here d was = elim (constraint_cases d c) [
    | inl same ↦ there_of (Some result) (kept_at new.slots key d) (ap (kept_at new.slots key) same ∙ keeps.here) refl
    | inr apart ↦ there_of (kept_at old.slots key d) (kept_at new.slots key d) (keeps.beside d apart) was
  ]

  kept : (k : ℕ) (d : Constraint) → IsSome (kept_at old.slots k d) → IsSome (kept_at new.slots k d)
  kept k d was = elim (cases_eq k key) [
    | inl same ↦
        let P : ℕ → Type 0 = λ j. IsSome (kept_at old.slots j d) → IsSome (kept_at new.slots j d) in
        subst P (sym same) (here d) was
    | inr apart ↦ there_of (kept_at old.slots k d) (kept_at new.slots k d) (keeps.elsewhere k apart d) was
  ]

-- ---- texts

ready_for : (content : Content) (text : Preparation) → IsReadyIn content (Some text) → IsReadyFor content text
ready_for blocks text ready = tt
ready_for (inline entries) text ready = ready.1

-- a text that is right is kept
pub steady_text : (outside : Outside) (old new : Arena) (key : ℕ) (node : Node) (text : Preparation) → AreRight outside old.slots → node_at old.slots key ≡ Some node
    → IsTextOf outside.faces node.style node.content (Some text) → IsReadyIn node.content (Some text) → KeepsText old new key text → IsSteady outside old new
steady_text outside old new key node text right there is ready keeps = record {
  links = keeps.put.links;
  nodes = keeps.put.nodes;
  live = keeps.put.live;
  room = keeps.put.room;
  texts = texts;
  kept = λ k c there. let P : Option Pieces → Type 0 = λ o. IsSome o in subst P (sym (keeps.kept k c)) there;
  right = kept_text_is_right outside old new key text right own keeps;
} where
  own : IsTextAt outside old.slots key text
  own other at =
      let P : Node → Type 0 = λ n. IsTextIn outside n text in
      subst P (same_Some node other (sym there ∙ at)) (record { value = is; ready = ready_for node.content text ready })

  texts : (k : ℕ) → IsSome (text_at old.slots k) → IsSome (text_at new.slots k)
  texts k was = elim (cases_eq k key) [
    | inl same ↦
        let P : ℕ → Type 0 = λ j. IsSome (text_at new.slots j) in
        subst P (sym same) (some_of (Some text) (text_at new.slots key) keeps.put.here refl)
    | inr apart ↦ some_of (text_at old.slots k) (text_at new.slots k) (keeps.put.elsewhere k apart) was
  ]

module _ (outside : Outside) (old new : Arena) (steady : IsSteady outside old new) where
  -- the same trees stand after as before
  pub stands_on : (o : Option ℕ) (tree : Boxes) → StandFrom old.slots o tree → StandFrom new.slots o tree
  stands_on = stand_before new.slots old.slots (λ k. sym (steady.links k)) (λ k. sym (steady.nodes k))

  pub stood_from : (o : Option ℕ) (tree : Boxes) → StandFrom new.slots o tree → StandFrom old.slots o tree
  stood_from = stand_before old.slots new.slots steady.links steady.nodes

  pub inside_on : (o : Option ℕ) (containing : Containing) → StandsIn old.slots o containing → StandsIn new.slots o containing
  inside_on None containing inside = tt
  inside_on (Some key) containing inside = λ node is. same_containing old.slots new.slots steady.links steady.nodes key node.style ∙ inside node (sym (steady.nodes key) ∙ is)

-- ---- the numbers of trees

bounded_fit : (tree : Boxes) → AreFit tree → AreBounded tree
bounded_fit no_boxes fit = tt
bounded_fit (box name style content inner next) fit = (fit.0.bounded, bounded_fit inner fit.1, bounded_fit next fit.2)

pub few_siblings : (tree : Boxes) → siblings tree ≤ count tree
few_siblings no_boxes = omega arith
few_siblings (box name style content inner next) = let few = few_siblings next in omega arith

-- ---- what has been laid out

abbrev member_first : Outside → Containing → BoxName → Style → Content → (inner : Boxes) → Member
member_first outside containing name style content inner =
    record { style = style; flow = flow_step outside containing (record { name = name; style = style; content = content }) (members outside (containing_of style) inner) }

module _ (outside : Outside) (containing : Containing) (c : Constraint) where
  pub lead_count : (laid : List LaidBox) (tree left : Boxes) → Lead outside containing c laid tree left → length laid + siblings left ≡ siblings tree
  lead_count [] tree left lead = let same : siblings tree ≡ siblings left = ap siblings lead in omega (arith, same)
  lead_count (own ∷ laid) no_boxes left lead = absurd lead
  lead_count (own ∷ laid) (box name style content inner next) left lead = let others = lead_count laid next left lead.1 in omega arith

  -- one more
  pub lead_more : (laid : List LaidBox) (tree : Boxes) (own : LaidBox) (name : BoxName) (style : Style) (content : Content) (inner next : Boxes) → Lead outside containing c laid tree (box name style content inner next)
      → IsFlowed outside containing c own name style content inner → Lead outside containing c (laid ++ own ∷ []) tree next
  lead_more [] tree own name style content inner next lead is =
      let P : Boxes → Type 0 = λ t. Lead outside containing c (own ∷ []) t next in
      subst P (sym lead) (is, refl)
  lead_more (first ∷ laid) no_boxes own name style content inner next lead is = absurd lead
  lead_more (first ∷ laid) (box n s b i others) own name style content inner next lead is = (lead.0, lead_more laid others own name style content inner next lead.1 is)

  -- they are what members come to
  pub lead_under : (laid : List LaidBox) (tree : Boxes) → Lead outside containing c laid tree no_boxes → AreUnder c laid (members outside containing tree)
  lead_under [] no_boxes lead = tt
  lead_under [] (box name style content inner next) lead = absurd (cc)
  lead_under (own ∷ laid) no_boxes lead = absurd lead
  lead_under (own ∷ laid) (box name style content inner next) lead = (record { style = lead.0.same; part = lead.0.part }, lead_under laid next lead.1)

  -- how far what stands in them reaches
  pub lead_reach : (laid : List LaidBox) (tree : Boxes) (n : ℕ) → Lead outside containing c laid tree no_boxes → heaviest tree + 2 ^ 38 ≤ n → All (HasReach n) laid
  lead_reach [] tree n lead light = All-nil (HasReach n)
  lead_reach (own ∷ laid) no_boxes n lead light = absurd lead
  lead_reach (own ∷ laid) (box name style content inner next) n lead light =
      let near = lead.0.reach in
      let lighter : max (room_in content + weight inner) (heaviest next) + 2 ^ 38 ≤ n = light in
      All-cons (HasReach n) own laid (omega (arith, near, lighter)) (lead_reach laid next n lead.1 (omega (arith, lighter)))

  pub lead_near : (laid : List LaidBox) (tree : Boxes) → Lead outside containing c laid tree no_boxes → AreFit tree → weight tree ≤ 2 ^ 60 - 2 ^ 38 → All IsNearLaid laid
  lead_near [] tree lead fit light = All-nil IsNearLaid
  lead_near (own ∷ laid) no_boxes lead fit light = absurd lead
  lead_near (own ∷ laid) (box name style content inner next) lead fit light = All-cons IsNearLaid own laid near (lead_near laid next lead.1 fit.2 (omega (arith, lighter))) where
    lighter : suc (siblings next) * 2 ^ 39 + max (room_in content + weight inner) (heaviest next) ≤ 2 ^ 60 - 2 ^ 38
    lighter = light

    members_near : All IsNearMember (members outside containing (box name style content inner next))
    members_near = flows_near outside containing (box name style content inner next) (bounded_fit (box name style content inner next) fit)

    reach : HasReach (reach_of content inner) own
    reach = lead.0.reach

    near : IsNearLaid own
    near =
        let P : Style → Type 0 = λ s. IsBounded s in
        let Q : Part → Type 0 = λ p. IsNearPart p in
        record {
          style = subst P (sym lead.0.same) fit.0.bounded;
          part = subst Q (sym lead.0.part) (members_near 0 (member_first outside containing name style content inner) (omega arith) c).part;
          inner = omega (arith, reach, lighter);
        }

-- where their inline size is known, they are boxes with the definition's margins
pub lead_laid : (outside : Outside) (containing : Containing) (size : ℤ) (handed : Option ℤ) (laid : List LaidBox) (tree : Boxes) → Lead outside containing (under (Some size) handed) laid tree no_boxes
    → AreLaid laid (map (laid_under (under (Some size) handed)) (members outside containing tree))
lead_laid outside containing size handed [] no_boxes lead = tt
lead_laid outside containing size handed [] (box name style content inner next) lead = absurd (cc)
lead_laid outside containing size handed (own ∷ laid) no_boxes lead = absurd lead
lead_laid outside containing size handed (own ∷ laid) (box name style content inner next) lead = (
  record { style = lead.0.same; part = lead.0.part; margins = step_margins outside containing (record { name = name; style = style; content = content }) (members outside (containing_of style) inner) size handed },
  lead_laid outside containing size handed laid next lead.1,
)
