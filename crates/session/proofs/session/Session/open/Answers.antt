use Rattle.std.proofs.Common.{◌≡◌, ◌∙◌, sym, subst, List, map, Err, ap, arith, refl}
use Rattle.std.proofs.lemmas.Result.{err_from_is_err_and}
use Rattle.face_api.specs.Faces.{faces_of}
use Rattle.css_types.specs.Rule.{Ruling, rulings_of}
use Rattle.html_read.specs.Values.{nodes_of}
use Rattle.box_gen.specs.Limit.{IsWithinLimits}
use Rattle.dom_store.specs.State.{State, state_of}
use Rattle.style_tree.specs.Styling.{styled_document}
use Rattle.cascade.specs.Index.{index_rules}
use Rattle.cascade.specs.Winners.{AreSaidRules}
use Rattle.dom_store.specs.Opening.{opened}
use Rattle.session.specs.Opening.{MakesBoxes}
use Rattle.edits.specs.Exact.{StepOf}
use Rattle.undo_log.specs.History.{standing_of}
use Rattle.undo_log.specs.Log.{Log, empty}
use Rattle.edits.specs.State as edited
use Rattle.tree_laws.specs.Weight.{bytes, total}
use Rattle.session.specs.Document.{CanBeOpen, most_bytes}
use Rattle.session.specs.History.{IsHistory}
use Rattle.session.specs.State.{AreReady}
use Rattle.session.proofs.Fresh.{few_boxes, fits, founded, named, right, same_opened, same_positions, stand}
use Rattle.session.proofs.Histories.{begins, holding}
use Rattle.session.proofs.Refusals.{refused_opening}
use Rattle.session.proofs.session.Session.open.Goals as goal

pub boxes_in-requires-clause-rules : goal.boxes_in-requires-clause-rules
boxes_in-requires-clause-rules g c =
    let copied : rulings_of c.in_ok-rules.rules.items ≡ rulings_of c.args.styled.now.rules.items = c.in_ok-rules.ensures ∙ ap rulings_of c.deref.ensures.value in
    let indexed : index_rules c.in_ok-index.index ≡ rulings_of c.in_ok-rules.rules.items = c.in_ok-index.ensures ∙ ap rulings_of c.deref-2.ensures.value in
    subst AreSaidRules (sym (indexed ∙ copied)) c.requires.rules

pub returns-in_err-boxes-clause-opens : goal.returns-in_err-boxes-clause-opens
returns-in_err-boxes-clause-opens g c =
    let copied : rulings_of c.in_ok-rules.rules.items ≡ rulings_of c.args.styled.now.rules.items = c.in_ok-rules.ensures ∙ ap rulings_of c.deref.ensures.value in
    let indexed : index_rules c.in_ok-index.index ≡ rulings_of c.in_ok-rules.rules.items = c.in_ok-index.ensures ∙ ap rulings_of c.deref-2.ensures.value in
    let error = c.in_err-boxes.field-0.0 in
    let nodes = nodes_of c.args.read.now.nodes.items in
    let own = map (λ own. own.items) c.args.styled.now.styles.items in
    let P : List Ruling → Type 0 = λ rules. MakesBoxes (styled_document rules (opened nodes own)) (Err error) in
    let Q : State → Type 0 = λ state. MakesBoxes (styled_document (index_rules c.in_ok-index.index) state) (Err error) in
    let refused = refused_opening nodes own (rulings_of c.args.styled.now.rules.items) error c.in_ok-document.ensures.stores.0 (subst P (indexed ∙ copied) (subst Q c.in_ok-document.ensures.stores.1 c.in_err-boxes.ensures.makes)) in
    let p = err_from_is_err_and c.from_residual-in_err-boxes.result c.from_residual-in_err-boxes.ensures.1 in
    rw (p.1, p.2) refused

pub returns-clause-opens : goal.returns-clause-opens
returns-clause-opens g c =
    let copied : rulings_of c.in_ok-rules.rules.items ≡ rulings_of c.args.styled.now.rules.items = c.in_ok-rules.ensures ∙ ap rulings_of c.deref.ensures.value in
    let indexed : index_rules c.in_ok-index.index ≡ rulings_of c.in_ok-rules.rules.items = c.in_ok-index.ensures ∙ ap rulings_of c.deref-2.ensures.value in
    let nodes = nodes_of c.args.read.now.nodes.items in
    let own = map (λ own. own.items) c.args.styled.now.styles.items in
    let rules = rulings_of c.args.styled.now.rules.items in
    let state = state_of c.in_ok-document.document in
    let stores = c.in_ok-document.ensures.stores in
    let makes = c.in_ok-boxes.ensures.makes in
    let ruled : index_rules c.in_ok-index.index ≡ rules = indexed ∙ copied in
    let as_read : styled_document (index_rules c.in_ok-index.index) state ≡ styled_document rules (opened nodes own) =
    ap (λ (r : List Ruling). styled_document r state) ruled ∙ ap (styled_document rules) stores.1 in (
      record {
        few = stores.0;
        within = subst IsWithinLimits as_read makes.0;
      },
      stores.1,
      copied,
    )

pub grown-requires : goal.grown-requires
grown-requires g c =
    let nodes = nodes_of c.args.read.now.nodes.items in
    let own = map (λ own. own.items) c.args.styled.now.styles.items in
    let state = state_of c.in_ok-document.document in
    let stores = c.in_ok-document.ensures.stores in
    let opened = c.opened_documents_are_whole.ensures nodes own state c.requires.shaped (same_opened state (opened nodes own) stores.1) in
    let counts = c.live_counts_are_totals.ensures state in
    let number = opened.1 in
    let few = stores.0.few in
    let letters = opened.2 in
    let short = c.requires.bytes in
    record {
      few =
          few_boxes _ c.in_ok-boxes.boxes.tree c.in_ok-boxes.ensures.makes.1
          (fits c.documents_within_limits_fit.ensures c.boxes_within_limits_fit.ensures (index_rules c.in_ok-index.index) state opened.0 (omega (arith, counts, number, few)) (omega (arith, letters, short)) c.in_ok-boxes.ensures.bounded);
      named = named _ c.in_ok-boxes.boxes.tree c.in_ok-boxes.ensures.makes.1 (c.pages_name_boxes_once.ensures (index_rules c.in_ok-index.index) state c.in_ok-document.ensures.rooted opened.0);
    }

pub returns-clause-bytes : goal.returns-clause-bytes
returns-clause-bytes g c =
    let nodes = nodes_of c.args.read.now.nodes.items in
    let own = map (λ own. own.items) c.args.styled.now.styles.items in
    let state = state_of c.in_ok-document.document in
    (c.opened_documents_are_whole.ensures nodes own state c.requires.shaped (same_opened state (opened nodes own) c.in_ok-document.ensures.stores.1)).2

pub returns-clause-sound : goal.returns-clause-sound
returns-clause-sound g c =
    let copied : rulings_of c.in_ok-rules.rules.items ≡ rulings_of c.args.styled.now.rules.items = c.in_ok-rules.ensures ∙ ap rulings_of c.deref.ensures.value in
    let indexed : index_rules c.in_ok-index.index ≡ rulings_of c.in_ok-rules.rules.items = c.in_ok-index.ensures ∙ ap rulings_of c.deref-2.ensures.value in
    let nodes = nodes_of c.args.read.now.nodes.items in
    let own = map (λ own. own.items) c.args.styled.now.styles.items in
    let state = state_of c.in_ok-document.document in
    let stores = c.in_ok-document.ensures.stores in
    let same = same_opened state (opened nodes own) stores.1 in
    let opened = c.opened_documents_are_whole.ensures nodes own state c.requires.shaped same in
    let counts = c.live_counts_are_totals.ensures state in
    let number = opened.1 in
    let few = stores.0.few in
    let letters = opened.2 in
    let short = c.requires.bytes in
    let tables = faces_of (λ vtable. (g.dyn-1.0.entry vtable).1) c.args.faces in
    let can : CanBeOpen most_bytes (record { tree = state; rules = rulings_of c.in_ok-rules.rules.items; faces = tables }) = record {
      rooted = c.in_ok-document.ensures.rooted;
      said = c.in_ok-document.ensures.said;
      whole = opened.0;
      reached = c.opened_documents_are_reached.ensures nodes own state c.requires.shaped c.requires.ordered stores.0.low same;
      held = c.opened_documents_are_held.ensures nodes own state c.requires.shaped same;
      leaves = c.texts_of_opened_documents_are_leaves.ensures nodes own state c.requires.shaped same;
      few = omega (arith, counts, number, few);
      short = omega (arith, letters, short);
      rules = subst AreSaidRules (sym copied) c.requires.rules;
      within = subst (λ (rules : List Ruling). IsWithinLimits (styled_document rules state)) indexed c.in_ok-boxes.ensures.makes.0;
    } in
    let own : edited.State = record { tree = state; rules = rulings_of c.in_ok-rules.rules.items; faces = tables } in
    record {
      document = can;
      index = indexed;
      view = c.requires.view;
      history = (empty, subst (λ (log : Log StepOf). IsHistory state.next most_bytes log empty (standing_of own)) (sym c.in_ok-log.ensures) (begins c.logs_stand_for_states.ensures state.next most_bytes (standing_of own) can));
      ready = subst (λ (rules : List Ruling). AreReady (faces_of (λ vtable. (g.dyn-1.0.entry vtable).1) c.args.faces) c.args.view (styled_document rules state) c.in_ok-grown.grown) indexed (record {
        stands = stand _ c.in_ok-boxes.boxes.tree c.in_ok-grown.grown.arena.slots c.in_ok-grown.grown.root c.in_ok-boxes.ensures.makes.1 c.in_ok-grown.ensures.stands;
        free = c.in_ok-grown.ensures.free;
        fit = fits c.documents_within_limits_fit.ensures c.boxes_within_limits_fit.ensures (index_rules c.in_ok-index.index) state opened.0 (omega (arith, counts, number, few)) (omega (arith, letters, short)) c.in_ok-boxes.ensures.bounded;
        named = c.in_ok-grown.ensures.named;
        founded = founded c.what_is_reused_is_found.ensures.bare (faces_of (λ vtable. (g.dyn-1.0.entry vtable).1) c.args.faces) c.args.view c.in_ok-grown.grown.arena.slots c.in_ok-grown.grown.root c.in_ok-grown.ensures.bare;
        right = right c.what_is_not_kept_is_right.ensures.bare (faces_of (λ vtable. (g.dyn-1.0.entry vtable).1) c.args.faces) c.args.view c.in_ok-grown.grown.arena.slots c.in_ok-grown.grown.root c.in_ok-grown.ensures.bare;
        within = c.documents_within_limits_fit.ensures (index_rules c.in_ok-index.index) state opened.0 (omega (arith, counts, number, few)) (omega (arith, letters, short)) c.in_ok-boxes.ensures.bounded;
        positions = same_positions _ _ _ c.in_ok-grown.ensures.positions c.in_ok-boxes.ensures.makes.2;
      });
    }

pub returns-clause-unedited : goal.returns-clause-unedited
returns-clause-unedited g c =
    let copied : rulings_of c.in_ok-rules.rules.items ≡ rulings_of c.args.styled.now.rules.items = c.in_ok-rules.ensures ∙ ap rulings_of c.deref.ensures.value in
    let indexed : index_rules c.in_ok-index.index ≡ rulings_of c.in_ok-rules.rules.items = c.in_ok-index.ensures ∙ ap rulings_of c.deref-2.ensures.value in
    let nodes = nodes_of c.args.read.now.nodes.items in
    let own = map (λ own. own.items) c.args.styled.now.styles.items in
    let state = state_of c.in_ok-document.document in
    let stores = c.in_ok-document.ensures.stores in
    let same = same_opened state (opened nodes own) stores.1 in
    let opened = c.opened_documents_are_whole.ensures nodes own state c.requires.shaped same in
    let counts = c.live_counts_are_totals.ensures state in
    let number = opened.1 in
    let few = stores.0.few in
    let letters = opened.2 in
    let short = c.requires.bytes in
    let tables = faces_of (λ vtable. (g.dyn-1.0.entry vtable).1) c.args.faces in
    let can : CanBeOpen most_bytes (record { tree = state; rules = rulings_of c.in_ok-rules.rules.items; faces = tables }) = record {
      rooted = c.in_ok-document.ensures.rooted;
      said = c.in_ok-document.ensures.said;
      whole = opened.0;
      reached = c.opened_documents_are_reached.ensures nodes own state c.requires.shaped c.requires.ordered stores.0.low same;
      held = c.opened_documents_are_held.ensures nodes own state c.requires.shaped same;
      leaves = c.texts_of_opened_documents_are_leaves.ensures nodes own state c.requires.shaped same;
      few = omega (arith, counts, number, few);
      short = omega (arith, letters, short);
      rules = subst AreSaidRules (sym copied) c.requires.rules;
      within = subst (λ (rules : List Ruling). IsWithinLimits (styled_document rules state)) indexed c.in_ok-boxes.ensures.makes.0;
    } in
    let own : edited.State = record { tree = state; rules = rulings_of c.in_ok-rules.rules.items; faces = tables } in
    let much = total bytes state in
    let least = holding most_bytes much own (omega arith) can in
    record {
      log = c.in_ok-log.ensures;
      holds = record {
        state = refl;
        history = subst (λ (log : Log StepOf). IsHistory state.next much log empty (standing_of own)) (sym c.in_ok-log.ensures) (begins c.logs_stand_for_states.ensures state.next much (standing_of own) least);
      };
    }
