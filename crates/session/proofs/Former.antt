-- What is kept of the boxes of an earlier page, in those of the one that is.
use Rattle.std.proofs.Common.{◌≡◌, ◌∙◌, sym, ap, subst, ℕ, List, Option, Some}
use Rattle.std.proofs.lemmas.Option.{same_Some}
use Rattle.slab.specs.Slab.{Slab}
use Rattle.face_api.specs.Table.{Table}
use Rattle.wm_modes.specs.Mode.{is_horizontal}
use Rattle.wm_modes.specs.declared.mode.WritingMode.{WritingMode}
use Rattle.wm_units.specs.declared.view.View.{View}
use Rattle.style_types.specs.Tree.{Nodes}
use Rattle.box_gen.specs.Boxes.{root_boxes}
use Rattle.box_gen.specs.Tree.{Boxes, box, none}
use Rattle.box_arena.specs.At.{IsSound, Node, Slots, node_at}
use Rattle.box_arena.specs.Boxes.{Stands}
use Rattle.box_arena.specs.Planting as planting
use Rattle.box_arena.specs.Reusing.{IsTree, Reuses, ReusesAll}
use Rattle.box_arena.specs.declared.entry.Entry.{Entry}
use Rattle.para_prepare.specs.Preparation.{Preparation}
use Rattle.relayout.specs.Flow.{on_page}
use Rattle.relayout.specs.Kept.{AreRight}
use Rattle.relayout.specs.Laws.{ReusedIsRight}
use Rattle.relayout.specs.Named.{HandsOver, HasMode, ReusedIsFound}
use Rattle.relayout.specs.Relayout.{AreRightUnder}
use Rattle.session.specs.State.{AreReady, IsFormer}
use Rattle.session.specs.Found.{KeepsAll}
use Rattle.session.specs.declared.keeping.KeptBoxes.TheVariants.{Current, Former}
use Rattle.session.specs.declared.planting.Rooted.{Rooted}
use Rattle.session.proofs.Standing.{named_on, same_parent, stands_on}

-- boxes that stand are a tree
pub tree_of : (slots : Slots Preparation) (root : _) (boxes : Boxes) → Stands slots root boxes → IsTree slots root
tree_of slots root none stands = absurd stands
tree_of slots root (box name style content inner next) stands = record { node = record { name = name; style = style; content = content }; inner = inner; is = stands.0; inside = stands.1 }

-- what is handed over has the mode of the page where its root has that of the page's
pub page_mode : (former made : Slots Preparation) (from root : ℕ) (page : Boxes) (was is : Node) → Stands made root page → node_at former from ≡ Some was → node_at made root ≡ Some is → was.style.mode ≡ is.style.mode → HasMode former from page
page_mode former made from root none was is stands there here same = absurd stands
page_mode former made from root (box name style content inner next) was is stands there here same =
    let told : is ≡ record { name = name; style = style; content = content } = same_Some _ _ (sym here ∙ stands.0) in
    (was, there, same ∙ ap (λ (n : Node). n.style.mode) told)

-- and only there
root_mode : (former made : Slots Preparation) (from root : ℕ) (page : Boxes) (was is : Node) → Stands made root page → node_at former from ≡ Some was → node_at made root ≡ Some is → HasMode former from page → was.style.mode ≡ is.style.mode
root_mode former made from root none was is stands there here mode = absurd stands
root_mode former made from root (box name style content inner next) was is stands there here mode =
    let told : is ≡ record { name = name; style = style; content = content } = same_Some _ _ (sym here ∙ stands.0) in
    ap (λ (n : Node). n.style.mode) (same_Some _ _ (sym there ∙ mode.1)) ∙ mode.2 ∙ sym (ap (λ (n : Node). n.style.mode) told)

module _ (faces : List (Option Table)) (view : View) (nodes : Nodes) (former made : Rooted) (was is : Node) (there : node_at former.arena.slots former.root ≡ Some was)
    (here : node_at made.arena.slots made.root ≡ Some is) (ready : AreReady faces view nodes made) where
  -- where the modes differ nothing is found for the page
  pub keeps_apart : (was.style.mode ≡ is.style.mode → ⊥) → KeepsAll (Some (Former former)) (Some (Current made)) (root_boxes nodes)
  keeps_apart apart =
      let mode = root_mode former.arena.slots made.arena.slots former.root made.root (root_boxes nodes) was is ready.stands there here in
      record { texts = λ name has. absurd (apart (mode has.mode)); results = λ pair has. absurd (apart (mode has.mode)) }

  module _ (given taken : Slab (Entry Preparation)) (same : was.style.mode ≡ is.style.mode) (reuses : Reuses former.arena given made.arena taken) (all : ReusesAll former.arena.slots made.arena.slots taken.slots made.root)
      (kept : IsFormer faces view former) (sound : IsSound made.arena.slots) (bare : (key : ℕ) → planting.IsBare made.arena.slots key) (finds : ReusedIsFound) where
    handed : HandsOver former.arena given made.arena taken made.root (root_boxes nodes)
    handed = record {
      under = record { stands = ready.stands; free = ready.free; named = ready.named; sound = sound };
      bare = record { kept = λ key c. (bare key).kept c; texts = λ key. (bare key).text };
      reuses = reuses;
      all = all kept.named ready.named (root_boxes nodes) ready.stands ready.fit.low ready.fit.few;
    }

    pub keeps_reused : KeepsAll (Some (Former former)) (Some (Current (record made { arena = taken }))) (root_boxes nodes)
    keeps_reused = record {
      texts = λ name. finds.texts former.arena given made.arena taken former.root made.root (root_boxes nodes) name handed;
      results = λ pair. finds.results former.arena given made.arena taken former.root made.root (root_boxes nodes) pair handed;
    }

    module _ (reused : ReusedIsRight) (giver_sound : IsSound former.arena.slots) where
      abbrev Right : Slots Preparation → WritingMode → Type 0
      Right slots mode = AreRight (on_page (is_horizontal mode) faces view.inline view.block) slots

      right : AreRightUnder faces view taken.slots made.root
      right node at =
          let told : is ≡ node = same_Some _ _ (sym here ∙ sym (reuses.nodes made.root) ∙ at) in
          let mode : is.style.mode ≡ node.style.mode = ap (λ (n : Node). n.style.mode) told in
          reused (on_page (is_horizontal node.style.mode) faces view.inline view.block) former.arena given made.arena taken
          (subst (Right former.arena.slots) (same ∙ mode) (kept.right was there))
          (subst (Right made.arena.slots) mode (ready.right is here)) reuses

      pub reused_ready : AreReady faces view nodes (record made { arena = taken })
      reused_ready = record {
        stands = stands_on made.arena.slots taken.slots reuses.links reuses.nodes made.root (root_boxes nodes) ready.stands;
        free = same_parent made.arena.slots taken.slots reuses.links reuses.nodes made.root ∙ ready.free;
        fit = ready.fit;
        named = named_on made.arena.slots taken.slots reuses.links reuses.nodes ready.named;
        right = right;
        founded = finds.founded faces view former.arena given made.arena taken former.root made.root (root_boxes nodes) handed giver_sound
            (page_mode former.arena.slots made.arena.slots former.root made.root (root_boxes nodes) was is ready.stands there here same) kept.founded;
        within = ready.within;
        positions = ready.positions;
      }

-- the boxes of an earlier page
pub former_of : (faces : List (Option Table)) (view : View) (nodes : Nodes) (made : Rooted) → AreReady faces view nodes made → IsFormer faces view made
former_of faces view nodes made ready = record { tree = tree_of made.arena.slots made.root (root_boxes nodes) ready.stands; named = ready.named; right = ready.right; founded = ready.founded }
