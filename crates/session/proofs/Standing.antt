-- The boxes of a session stand in its arena through all that is laid out and forgotten.
use Rattle.std.proofs.Common.{◌≡◌, ◌∙◌, sym, ap, subst, ℕ, List, Option, Some, None, IfSome}
use Rattle.dom_store.specs.declared.document.Document.{Document}
use Rattle.dom_store.specs.State.{State, state_of}
use Rattle.cascade.specs.Index.{index_rules}
use Rattle.cascade.specs.declared.index.RuleIndex.{RuleIndex}
use Rattle.css_types.specs.Rule.{Ruling, rulings_of}
use Rattle.css_types.specs.declared.rule.Rule.{Rule}
use Rattle.std.specs.declared.alloc.Global.{Global}
use Rattle.std.specs.declared.vec.Vec.{Vec}
use Rattle.style_tree.specs.Styling.{styled_document}
use Rattle.style_types.specs.Tree.{Nodes}
use Rattle.box_gen.specs.Boxes.{root_boxes}
use Rattle.box_gen.specs.Tree.{Boxes, box, none}
use Rattle.box_arena.specs.Arena.{SameLinks, SameNodes}
use Rattle.box_arena.specs.At as arenas
use Rattle.box_arena.specs.At.{Node, Slots, first_at, next_at, node_at, parent_at}
use Rattle.box_arena.specs.Links as links
use Rattle.box_arena.specs.Boxes.{StandFrom, Stands}
use Rattle.box_arena.specs.Reusing.{AreNamedOnce}
use Rattle.box_arena.specs.declared.entry.Entry.{Entry}
use Rattle.edits.specs.State as edited
use Rattle.undo_log.specs.History.{standing_of}
use Rattle.face_api.specs.Table.{Table}
use Rattle.face_api.specs.declared.faces.Faces.{Faces}
use Rattle.para_prepare.specs.Preparation.{Preparation}
use Rattle.relayout.specs.Counts.{AreFoundedUnder}
use Rattle.relayout.specs.Named.{IsPageUnder}
use Rattle.relayout.specs.Relayout.{AreRightUnder, IsSteadyUnder}
use Rattle.session.specs.Document.{CanBeOpen, most_bytes}
use Rattle.session.specs.History.{IsHistory}
use Rattle.session.specs.State.{AreKept, AreReady, IsSound, rules_in, styled_in}
use Rattle.session.specs.declared.keeping.KeptBoxes.{KeptBoxes}
use Rattle.session.specs.declared.planting.Rooted.{Rooted}
use Rattle.session.specs.declared.session.Session.{Session}
use Rattle.slab.specs.Slab.{Slab}
use Rattle.wm_units.specs.declared.view.View.{View}

module _ (old new : Slots Preparation) (same : SameLinks old new) (nodes : SameNodes old new) where
  same_first : (key : ℕ) → first_at new key ≡ first_at old key
  same_first key = ap links.first_of (same key)

  same_next : (key : ℕ) → next_at new key ≡ next_at old key
  same_next key = ap links.next_of (same key)

  pub same_parent : (key : ℕ) → parent_at new key ≡ parent_at old key
  same_parent key = ap links.parent_of (same key)

  pub stand_on : (from : Option ℕ) (tree : Boxes) → StandFrom old from tree → StandFrom new from tree
  stand_on from none stand = stand
  stand_on from (box name style content inner next) (key, is, node, inside, behind) =
      let P : Option ℕ → Type 0 = λ o. StandFrom new o inner in
      let Q : Option ℕ → Type 0 = λ o. StandFrom new o next in
      (key, is, nodes key ∙ node, subst P (sym (same_first key)) (stand_on (first_at old key) inner inside), subst Q (sym (same_next key)) (stand_on (next_at old key) next behind))

  pub stands_on : (key : ℕ) (tree : Boxes) → Stands old key tree → Stands new key tree
  stands_on key none stands = stands
  stands_on key (box name style content inner next) (node, inside, last) =
      let P : Option ℕ → Type 0 = λ o. StandFrom new o inner in
      (nodes key ∙ node, subst P (sym (same_first key)) (stand_on (first_at old key) inner inside), last)

  pub named_on : AreNamedOnce old → AreNamedOnce new
  named_on named one other node also is at same = named one other node also (sym (nodes one) ∙ is) (sym (nodes other) ∙ at) same

-- a tree that stands has a root
pub root_of : (slots : Slots Preparation) (key : ℕ) (tree : Boxes) → Stands slots key tree → (node : Node) × (node_at slots key ≡ Some node)
root_of slots key none stands = absurd stands
root_of slots key (box name style content inner next) stands = (record { name = name; style = style; content = content }, stands.0)

-- after a layout the same tree stands, and what is kept is right
steady : (faces : List (Option Table)) (view : View) (old new : Slab (Entry Preparation)) (root : ℕ) (tree : Boxes) → Stands old.slots root tree → parent_at old.slots root ≡ None
    → IsSteadyUnder faces view old new root → Stands new.slots root tree × (parent_at new.slots root ≡ None) × AreRightUnder faces view new.slots root × (AreNamedOnce old.slots → AreNamedOnce new.slots)
steady faces view old new root tree stands free under =
    let own = root_of old.slots root tree stands in
    let same = under own.0 own.1 in (
      stands_on old.slots new.slots same.links same.nodes root tree stands,
      same_parent old.slots new.slots same.links same.nodes root ∙ free,
      λ node is. (under node (sym (same.nodes root) ∙ is)).right,
      named_on old.slots new.slots same.links same.nodes,
    )

-- what was ready is ready after a layout
pub steady_ready : (faces : List (Option Table)) (view : View) (nodes : Nodes) (made : Rooted) (arena : Slab (Entry Preparation)) (sets : ℕ) → AreReady faces view nodes made → IsSteadyUnder faces view made.arena arena made.root
    → (AreFoundedUnder faces view made.arena.slots made.root → AreFoundedUnder faces view arena.slots made.root) → AreReady faces view nodes (record made { arena = arena; sets = sets })
steady_ready faces view nodes made arena sets ready under founds =
    let all = steady faces view made.arena arena made.root (root_boxes nodes) ready.stands ready.free under in
    record { stands = all.0; free = all.1; fit = ready.fit; named = all.3 ready.named; right = all.2; founded = founds ready.founded; within = ready.within; positions = ready.positions }

-- its page stands in its arena
pub page_under : {faces : List (Option Table)} {view : View} {nodes : Nodes} {made : Rooted} → AreReady faces view nodes made → arenas.IsSound made.arena.slots → IsPageUnder made.arena.slots made.root (root_boxes nodes)
page_under ready linked = record { stands = ready.stands; free = ready.free; named = ready.named; sound = linked }

-- the index that is there is one of the rules
pub indexed_by : (index : Option RuleIndex) (one : RuleIndex) (rules : List Ruling) → Some one ≡ index → IfSome index (λ index. index_rules index ≡ rules) → index_rules one ≡ rules
indexed_by index one rules is indexed = subst (λ (o : Option RuleIndex). IfSome o (λ index. index_rules index ≡ rules)) (sym is) indexed

module _ {I : Type 0} {D : I → Type 0} where
  -- a session with other boxes is sound where those are ready
  pub sound_on : (faces : List (Option Table)) (session : Session I D) (boxes : Option KeptBoxes) → IsSound faces session → IfSome boxes (AreKept faces session.view (styled_in session)) → IsSound faces (record session { boxes = boxes })
  sound_on faces session boxes sound ready = record { document = sound.document; index = sound.index; view = sound.view; ready = ready; history = sound.history }

  -- so it is with another index of the same rules
  pub sound_by : (faces : List (Option Table)) (session : Session I D) (index : Option RuleIndex) → IfSome index (λ index. index_rules index ≡ rules_in session) → IsSound faces session
      → IsSound faces (record session { index = index })
  sound_by faces session index indexed sound = record { document = sound.document; index = indexed; view = sound.view; ready = sound.ready; history = sound.history }

  -- so it is where its document has the same state
  pub sound_in : (faces : List (Option Table)) (session : Session I D) (document : Document) → state_of document ≡ state_of session.document → IsSound faces session → IsSound faces (record session { document = document })
  sound_in faces session document same sound =
      let at : State → edited.State = λ (state : State). record { tree = state; rules = rules_in session; faces = faces } in
      record {
        document = subst (λ (state : State). CanBeOpen most_bytes (at state)) (sym same) sound.document;
        index = sound.index;
        view = sound.view;
        ready = subst (λ (state : State). IfSome session.boxes (AreKept faces session.view (styled_document (rules_in session) state))) (sym same) sound.ready;
        history = (sound.history.0, subst (λ (state : State). IsHistory state.next most_bytes session.log sound.history.0 (standing_of (at state))) (sym same) sound.history.1);
      }

  -- and where its faces have the same tables
  pub sound_with : (old new : List (Option Table)) (session : Session I D) (faces : Faces I D) → new ≡ old → IsSound old session → IsSound new (record session { faces = faces })
  sound_with old new session faces same sound =
      let at : List (Option Table) → edited.State = λ (tables : List (Option Table)). record { tree = state_of session.document; rules = rules_in session; faces = tables } in
      record {
        document = subst (λ (tables : List (Option Table)). CanBeOpen most_bytes (at tables)) (sym same) sound.document;
        index = sound.index;
        view = sound.view;
        ready = subst (λ (tables : List (Option Table)). IfSome session.boxes (AreKept tables session.view (styled_in session))) (sym same) sound.ready;
        history = (sound.history.0, subst (λ (tables : List (Option Table)). IsHistory (at tables).tree.next most_bytes session.log sound.history.0 (standing_of (at tables))) (sym same) sound.history.1);
      }

  -- rules that lie elsewhere are the same
  pub sound_moved : (faces : List (Option Table)) (session : Session I D) (rules : Vec Rule Global) → rules.items ≡ session.rules.items → IsSound faces session → IsSound faces (record session { rules = rules })
  sound_moved faces session rules same sound =
      let at : List Rule → edited.State = λ (items : List Rule). record { tree = state_of session.document; rules = rulings_of items; faces = faces } in
      record {
        document = subst (λ (items : List Rule). CanBeOpen most_bytes (at items)) (sym same) sound.document;
        index = subst (λ (items : List Rule). IfSome session.index (λ index. index_rules index ≡ rulings_of items)) (sym same) sound.index;
        view = sound.view;
        ready = subst (λ (items : List Rule). IfSome session.boxes (AreKept faces session.view (styled_document (rulings_of items) (state_of session.document)))) (sym same) sound.ready;
        history = (sound.history.0, subst (λ (items : List Rule). IsHistory (at items).tree.next most_bytes session.log sound.history.0 (standing_of (at items))) (sym same) sound.history.1);
      }
