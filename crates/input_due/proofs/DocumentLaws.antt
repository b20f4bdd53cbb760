-- What comes of a document, by what was read of it; what is due and what is owed for that.
use Rattle.std.proofs.Common.{◌≡◌, ◌↔◌, ◌⊎◌, ◌∙◌, refl, sym, ap, subst, arith, inl, inr, ℕ, ◌+◌, ◌-◌, ◌<◌, ◌≤◌, List, length, drop, Option, Some, None, Ok, Err}
use Rattle.std.specs.Prelude.{IfOk, Result, codes, ⊤}
use Rattle.std.proofs.lemmas.List.{length-drop}
use Rattle.std.proofs.lemmas.Option.{same_Some}
use Rattle.face_api.specs.Faces.{faces_of}
use Rattle.face_api.specs.Table.{Table}
use Rattle.face_api.specs.declared.face.Face.{Ghosts}
use Rattle.wm_units.specs.declared.view.View.{View}
use Rattle.css_values.specs.declared.error.Refusal as css
use Rattle.css_values.specs.Error.{kind_word as style_word}
use Rattle.css_sheet.specs.Styled.{Placed, styling}
use Rattle.css_types.specs.Rule.{Ruling, Styling}
use Rattle.reading.specs.Readers.{Read, ReadOr}
use Rattle.html_tokens.specs.declared.error.Refusal.{Refusal}
use Rattle.html_tokens.specs.declared.error.Refusal.TheVariants.{Syntax}
use Rattle.html_tokens.specs.Error.{Fault, kind_word, syntax}
use Rattle.html_read.specs.Error.{place_in}
use Rattle.html_read.specs.Reading as reading
use Rattle.html_read.specs.declared.node.ReadDocument.{ReadDocument}
use Rattle.html_read.specs.Answered.{IsTheDocument}
use Rattle.html_read.specs.Grammar.{IsDocument}
use Rattle.html_read.specs.Shape.{text_bytes}
use Rattle.html_read.specs.Values.{Node, Whole, nodes_of, whole_of}
use Rattle.dom_store.specs.Opening.{opened}
use Rattle.dom_store.specs.State.{State, state_of}
use Rattle.edits.specs.State as edited
use Rattle.session.specs.History.{unedited}
use Rattle.session.specs.State.{IsSound, IsUnedited, rules_in, state_in}
use Rattle.edit_script.specs.Views.{steps_of}
use Rattle.session.specs.Error.{open_word}
use Rattle.session.specs.Opening.{CanOpen, HasOneAnswer, IsRefused}
use Rattle.session.specs.declared.error.OpenError.{OpenError}
use Rattle.session.specs.declared.error.OpenError.TheVariants as open_errors
use Rattle.session.specs.declared.session.Session.{Session}
use Rattle.edit_job.specs.Owed.{Owed}
use Rattle.input_due.specs.Due.{End, IsDueBy, IsOf, IsReady, cause_word, node_of, not_opened}
use Rattle.input_due.specs.declared.follows.Follows.{Follows}
use Rattle.tree_laws.specs.Weight as weight
use Rattle.input_due.specs.Asked.{Asked, AskedOr, FitsAsked, asked_at, asked_behind, bytes_asked, has_lines, modes, probes, steps}
use Rattle.input_due.specs.Input.{ComesOfAsked, ComesOfDocument, ComesOfInput, ComesOfOpen, ComesOfOpened, ComesOfRead, ComesOfStyling, ComesOfTail, ComesOfWhole, IsDueOfDocument, IsDueOfRefusal, IsDueOver, longest_input, opened_with, tied}
use Rattle.input_due.specs.Owed.{IsOwedBy, IsOwedByDocument, IsOwedFor, OwesNothing, OwesOver}
use Rattle.input_due.specs.Document.{IsDueAs, IsOpening, IsRefusing, IsSeenIn, Outcome, asked_of, due_by_tie, due_over, opens, outcome_of, refuses}
use Rattle.style_modes.specs.Tying.{NoneIsFirstWhereTurnable, first_of, tying_places}
use Rattle.input_due.specs.declared.lines.Lines.{Lines}
use Rattle.input_due.specs.declared.lines.Lines.TheVariants as code
use Rattle.input_due.specs.declared.due.Due.{Due}
use Rattle.input_due.specs.declared.due.Due.TheVariants as dues
use Rattle.input_due.specs.declared.due.Cause.{Cause}
use Rattle.input_due.specs.declared.due.Cause.TheVariants as causes

-- ---- the outcome that comes of a document

module _ {I : Type 0} {D : I → Type 0} (members : (x : I) → Ghosts (D x)) (faces : List (Option Table)) (view : View) where
  -- a refusal comes of what is refused so
  told_refused : (word : List ℕ) (at : ℕ) (cause : Cause) (place : ℕ) → cause_word cause ≡ word → place ≡ at → IsDueAs members (IsRefusing word at) view (dues.Refused cause place)
  told_refused word at cause place is here = record { comes = ap (λ (w : List ℕ). refuses w place) is ∙ ap (λ (p : ℕ). refuses word p) here; seen = tt }

  -- ---- a document that can be opened, or not

  same_state : (session : Session I D) (nodes : List Node) (styles : Styling) → faces_of members session.faces ≡ faces → state_of session.document ≡ opened nodes styles.own → rules_in session ≡ styles.rules
      → state_in (faces_of members session.faces) session ≡ opened_with faces nodes styles
  same_state session nodes styles own state rules =
      ap (λ (f : List (Option Table)). state_in f session) own
      ∙ ap (λ (r : List Ruling). record { tree = state_of session.document; rules = r; faces = faces }) rules
      ∙ ap (λ (tree : State). record { tree = tree; rules = styles.rules; faces = faces }) state

  -- a session with its lines is its document, open, with what they ask of it, but where a declaration stands against that
  comes_by_tie : (session : Session I D) (tie : Option ℕ)
      → ComesOfOpen IsOpening IsRefusing faces tie (state_in (faces_of members session.faces) session) modes (outcome_of members (due_by_tie session tie))
  unfolding cause_word
  comes_by_tie session None = refl
  comes_by_tie session (Some place) = refl

  comes_over : (session : Session I D) (lines : Lines)
      → ComesOfOpen IsOpening IsRefusing faces (tied (state_in (faces_of members session.faces) session) (asked_of lines)) (state_in (faces_of members session.faces) session) (asked_of lines) (outcome_of members (due_over session lines))
  comes_over session (code.Steps script) = refl
  comes_over session (code.Probes asked) = refl
  comes_over session code.Modes = comes_by_tie session (first_of (tying_places (rules_in session) (state_of session.document)))

  seen_by_tie : (session : Session I D) (tie : Option ℕ) → session.view ≡ view → IsSeenIn members view (due_by_tie session tie)
  seen_by_tie session None sees = sees
  seen_by_tie session (Some place) sees = tt

  seen_over : (session : Session I D) (lines : Lines) → session.view ≡ view → IsSeenIn members view (due_over session lines)
  seen_over session (code.Steps script) sees = sees
  seen_over session (code.Probes asked) sees = sees
  seen_over session code.Modes sees = seen_by_tie session (first_of (tying_places (rules_in session) (state_of session.document))) sees

  pub due_of_opened : (session : Session I D) (lines : Lines) (nodes : List Node) (styles : Styling) → faces_of members session.faces ≡ faces → session.view ≡ view → state_of session.document ≡ opened nodes styles.own → rules_in session ≡ styles.rules
      → CanOpen nodes styles.own styles.rules → IsDueAs members (ComesOfOpened IsOpening IsRefusing faces nodes styles (asked_of lines)) view (due_over session lines)
  due_of_opened session lines nodes styles own sees state rules can = record {
    comes = inl (
      can,
      subst (λ (s : edited.State). ComesOfOpen IsOpening IsRefusing faces (tied s (asked_of lines)) s (asked_of lines) (outcome_of members (due_over session lines))) (same_state session nodes styles own state rules) (comes_over session lines),
    );
    seen = seen_over session lines sees;
  }

  told_not_opened : (nodes : List Node) (styles : Styling) (asked : Asked) (error : OpenError) → IsRefused nodes styles.own styles.rules error
      → IsDueAs members (ComesOfOpened IsOpening IsRefusing faces nodes styles asked) view (dues.Refused (causes.Opening error) (node_of error))
  unfolding cause_word
  told_not_opened nodes styles asked error refused = record { comes = inr (error, refused, refl); seen = tt }

  -- what is told of a document that can't be opened is due for it
  pub due_of_error : (nodes : List Node) (styles : Styling) (asked : Asked) (error : OpenError) (due : Due I D) → not_opened error ≡ Some due
      → (error ≡ open_errors.Memory) ⊎ IsRefused nodes styles.own styles.rules error → IsDueAs members (ComesOfOpened IsOpening IsRefusing faces nodes styles asked) view due
  due_of_error nodes styles asked error due is answer = by error is answer
    where
      told : (e : OpenError) → dues.Refused (causes.Opening e) (node_of e) ≡ due → IsRefused nodes styles.own styles.rules e → IsDueAs members (ComesOfOpened IsOpening IsRefusing faces nodes styles asked) view due
      told e same refused = subst (λ (d : Due I D). IsDueAs members (ComesOfOpened IsOpening IsRefusing faces nodes styles asked) view d) same (told_not_opened nodes styles asked e refused)

      by : (e : OpenError) → not_opened e ≡ Some due → (e ≡ open_errors.Memory) ⊎ IsRefused nodes styles.own styles.rules e → IsDueAs members (ComesOfOpened IsOpening IsRefusing faces nodes styles asked) view due
      by open_errors.Memory is' answer' = absurd cc
      by (open_errors.TooManyNodes n) is' (inl memory) = absurd cc
      by (open_errors.TooManyNodes n) is' (inr refused) = told (open_errors.TooManyNodes n) (same_Some _ due is') refused
      by (open_errors.TooDeep n) is' (inl memory) = absurd cc
      by (open_errors.TooDeep n) is' (inr refused) = told (open_errors.TooDeep n) (same_Some _ due is') refused
      by (open_errors.Limit limit) is' (inl memory) = absurd cc
      by (open_errors.Limit limit) is' (inr refused) = told (open_errors.Limit limit) (same_Some _ due is') refused

  -- ---- the lines behind it and its styles

  pub lines_read : (nodes : List Node) (styles : Styling) (read : AskedOr) (asked : Asked) (due : Due I D) → read ≡ Ok asked → IsDueAs members (ComesOfOpened IsOpening IsRefusing faces nodes styles asked) view due
      → IsDueAs members (ComesOfAsked IsOpening IsRefusing faces nodes styles read) view due
  lines_read nodes styles read asked due is by = subst (λ (r : AskedOr). IsDueAs members (ComesOfAsked IsOpening IsRefusing faces nodes styles r) view due) (sym is) by

  pub no_lines : (nodes : List Node) (styles : Styling) (read : AskedOr) (cause c : Cause) (place p : ℕ) → read ≡ Err (cause_word c, p) → cause ≡ c → place ≡ p
      → IsDueAs members (ComesOfAsked IsOpening IsRefusing faces nodes styles read) view (dues.Refused cause place)
  no_lines nodes styles read cause c place p is what at =
      subst (λ (r : AskedOr). IsDueAs members (ComesOfAsked IsOpening IsRefusing faces nodes styles r) view (dues.Refused cause place)) (sym is)
      (told_refused (cause_word c) p cause place (ap (λ (w : Cause). cause_word w) what) at)

  pub styles_read : (document : Whole) (asked : AskedOr) (styles : Styling) (due : Due I D) → styling document ≡ Ok styles → IsDueAs members (ComesOfAsked IsOpening IsRefusing faces document.nodes styles asked) view due
      → IsDueAs members (ComesOfWhole IsOpening IsRefusing faces document asked) view due
  styles_read document asked styles due is by = subst (λ (p : Placed Styling). IsDueAs members (ComesOfStyling IsOpening IsRefusing faces document.nodes p asked) view due) (sym is) by

  pub no_styles : (document : Whole) (asked : AskedOr) (kind k : css.Refusal) (place p : ℕ) → styling document ≡ Err (k, p) → kind ≡ k → place ≡ p
      → IsDueAs members (ComesOfWhole IsOpening IsRefusing faces document asked) view (dues.Refused (causes.Style kind) place)
  unfolding cause_word
  no_styles document asked kind k place p is what at =
      subst (λ (r : Placed Styling). IsDueAs members (ComesOfStyling IsOpening IsRefusing faces document.nodes r asked) view (dues.Refused (causes.Style kind) place)) (sym is)
      (told_refused (style_word k) p (causes.Style kind) place (ap (λ (w : css.Refusal). style_word w) what) at)

  -- ---- what stands behind it, and the input

  pub tail_read : (follows : Follows) (size : ℕ) (document : Whole) (read : Read ⊤) (rest : List ℕ) (due : Due I D) → read ≡ Ok (tt, rest) → IsDueAs members (ComesOfWhole IsOpening IsRefusing faces document (asked_behind follows size rest)) view due
      → IsDueAs members (ComesOfTail IsOpening IsRefusing faces follows size document read) view due
  tail_read follows size document read rest due is by = subst (λ (r : Read ⊤). IsDueAs members (ComesOfTail IsOpening IsRefusing faces follows size document r) view due) (sym is) by

  pub no_tail : (follows : Follows) (size : ℕ) (document : Whole) (read : Read ⊤) (kind : Refusal) (left : List ℕ) (place : ℕ) → kind ≡ Syntax → read ≡ Err left → place ≡ place_in size left
      → IsDueAs members (ComesOfTail IsOpening IsRefusing faces follows size document read) view (dues.Refused (causes.Document kind) place)
  unfolding cause_word
  no_tail follows size document read kind left place what is at =
      subst (λ (r : Read ⊤). IsDueAs members (ComesOfTail IsOpening IsRefusing faces follows size document r) view (dues.Refused (causes.Document kind) place)) (sym is)
      (told_refused (kind_word Syntax) (place_in size left) (causes.Document kind) place (ap (λ (k : Refusal). kind_word k) what) at)

  pub document_read : (follows : Follows) (bytes : List ℕ) (read : Whole × List ℕ) (due : Due I D) → reading.input bytes ≡ Ok read → IsDueAs members (ComesOfRead IsOpening IsRefusing faces follows bytes (Ok read)) view due
      → IsDueAs members (ComesOfDocument IsOpening IsRefusing faces follows bytes) view due
  document_read follows bytes read due is by = subst (λ (r : ReadOr Fault Whole). IsDueAs members (ComesOfRead IsOpening IsRefusing faces follows bytes r) view due) (sym is) by

  pub no_document : (follows : Follows) (bytes : List ℕ) (kind : Refusal) (left : List ℕ) (place : ℕ) → reading.input bytes ≡ Err (kind, left) → place ≡ place_in (length bytes) left
      → IsDueAs members (ComesOfDocument IsOpening IsRefusing faces follows bytes) view (dues.Refused (causes.Document kind) place)
  unfolding cause_word
  no_document follows bytes kind left place is at =
      subst (λ (r : ReadOr Fault Whole). IsDueAs members (ComesOfRead IsOpening IsRefusing faces follows bytes r) view (dues.Refused (causes.Document kind) place)) (sym is)
      (told_refused (kind_word kind) (place_in (length bytes) left) (causes.Document kind) place refl at)

-- ---- what comes of it besides

module _ {X : Type 0} (Over : edited.State → Asked → X → Type 0) (RefusedAs : List ℕ → ℕ → X → Type 0) where
  -- what is told of an outcome
  abbrev OfOutcome : Outcome → X → Type 0
  OfOutcome (opens state asked) told = Over state asked told
  OfOutcome (refuses word place) told = RefusedAs word place told

  -- What comes of a document is what is told of its outcome: each lemma for one step of what was read of it.
  module _ (faces : List (Option Table)) (one : HasOneAnswer) (outcome : Outcome) (told : X) where
    refused_same : (word : List ℕ) (place : ℕ) → IsRefusing word place outcome → RefusedAs word place told ↔ OfOutcome outcome told
    refused_same word place is = subst (λ (o : Outcome). RefusedAs word place told ↔ OfOutcome o told) (sym is) (λ r. r, λ r. r)

    open_same : (tie : Option ℕ) (state : edited.State) (asked : Asked) → ComesOfOpen IsOpening IsRefusing faces tie state asked outcome
        → ComesOfOpen Over RefusedAs faces tie state asked told ↔ OfOutcome outcome told
    open_same None state asked is = subst (λ (o : Outcome). Over state asked told ↔ OfOutcome o told) (sym is) (λ over. over, λ over. over)
    open_same (Some place) state asked is = refused_same (codes "NotTurnable") place is

    opened_same : (nodes : List Node) (styles : Styling) (asked : Asked) → ComesOfOpened IsOpening IsRefusing faces nodes styles asked outcome
        → ComesOfOpened Over RefusedAs faces nodes styles asked told ↔ OfOutcome outcome told
    opened_same nodes styles asked (inl (can, comes)) = (λ of. same.0 (there of), λ of. inl (can, same.1 of)) where
      same : ComesOfOpen Over RefusedAs faces (tied (opened_with faces nodes styles) asked) (opened_with faces nodes styles) asked told ↔ OfOutcome outcome told
      same = open_same (tied (opened_with faces nodes styles) asked) (opened_with faces nodes styles) asked comes

      there : ComesOfOpened Over RefusedAs faces nodes styles asked told → ComesOfOpen Over RefusedAs faces (tied (opened_with faces nodes styles) asked) (opened_with faces nodes styles) asked told
      there (inl (also, over)) = over
      there (inr (error, refused, line)) = absurd ((one.only nodes styles.own styles.rules error refused).0 can)
    opened_same nodes styles asked (inr (error, refused, is)) =
        subst (λ (o : Outcome). ComesOfOpened Over RefusedAs faces nodes styles asked told ↔ OfOutcome o told) (sym is) (there, λ line. inr (error, refused, line)) where
          there : ComesOfOpened Over RefusedAs faces nodes styles asked told → RefusedAs (open_word error) (node_of error) told
          there (inl (can, over)) = absurd ((one.only nodes styles.own styles.rules error refused).0 can)
          there (inr (other, also, line)) = subst (λ (e : OpenError). RefusedAs (open_word e) (node_of e) told) ((one.only nodes styles.own styles.rules error refused).1 other also) line

    asked_same : (nodes : List Node) (styles : Styling) (read : AskedOr) → ComesOfAsked IsOpening IsRefusing faces nodes styles read outcome
        → ComesOfAsked Over RefusedAs faces nodes styles read told ↔ OfOutcome outcome told
    asked_same nodes styles (Ok asked) comes = opened_same nodes styles asked comes
    asked_same nodes styles (Err refused) comes = refused_same refused.0 refused.1 comes

    styling_same : (nodes : List Node) (read : Placed Styling) (asked : AskedOr) → ComesOfStyling IsOpening IsRefusing faces nodes read asked outcome
        → ComesOfStyling Over RefusedAs faces nodes read asked told ↔ OfOutcome outcome told
    styling_same nodes (Ok styles) asked comes = asked_same nodes styles asked comes
    styling_same nodes (Err refused) asked comes = refused_same (style_word refused.0) refused.1 comes

    tail_same : (follows : Follows) (size : ℕ) (document : Whole) (read : Read ⊤) → ComesOfTail IsOpening IsRefusing faces follows size document read outcome
        → ComesOfTail Over RefusedAs faces follows size document read told ↔ OfOutcome outcome told
    tail_same follows size document (Ok behind) comes = styling_same document.nodes (styling document) (asked_behind follows size behind.1) comes
    tail_same follows size document (Err left) comes = refused_same (kind_word (syntax left).0) (place_in size (syntax left).1) comes

    read_same : (follows : Follows) (bytes : List ℕ) (read : ReadOr Fault Whole) → ComesOfRead IsOpening IsRefusing faces follows bytes read outcome
        → ComesOfRead Over RefusedAs faces follows bytes read told ↔ OfOutcome outcome told
    read_same follows bytes (Ok read) comes = tail_same follows (length bytes) read.0 (reading.tail (has_lines follows) (drop read.0.length bytes)) comes
    read_same follows bytes (Err fault) comes = refused_same (kind_word fault.0) (place_in (length bytes) fault.1) comes

  module _ (faces : List (Option Table)) (follows : Follows) (input : List ℕ) (told : X) where
    -- an input that is too long is refused
    pub too_long : longest_input < length input → ComesOfInput Over RefusedAs faces follows input told ↔ RefusedAs (codes "TooLong") longest_input told
    too_long long = (there, λ line. inl (long, line)) where
      there : ComesOfInput Over RefusedAs faces follows input told → RefusedAs (codes "TooLong") longest_input told
      there (inl q) = q.1
      there (inr q) = absurd (let short = q.0 in omega (arith, short, long))

    -- what comes of one that isn't too long comes of its document
    pub short_enough : (P : Type 0) → length input ≤ longest_input → ComesOfDocument Over RefusedAs faces follows input told ↔ P → ComesOfInput Over RefusedAs faces follows input told ↔ P
    short_enough P short by = (there, λ p. inr (short, by.1 p)) where
      there : ComesOfInput Over RefusedAs faces follows input told → P
      there (inl q) = absurd (let long = q.0 in omega (arith, short, long))
      there (inr q) = by.0 q.1

-- ---- what is due and what is owed

module _ {I : Type 0} {D : I → Type 0} (members : (x : I) → Ghosts (D x)) (view : View) where
  -- what is due over an outcome is what this has that is due for it
  due_same : (due : Due I D) (end_ : End) (bytes : List ℕ) → IsSeenIn members view due → OfOutcome (IsDueOver view) IsDueOfRefusal (outcome_of members due) (end_, bytes) ≡ IsOf members due end_ bytes
  due_same (dues.Steps session script) end_ bytes sees = ap (λ (v : View). IsDueOver v (state_in (faces_of members session.faces) session) (steps (steps_of script.items)) (end_, bytes)) (sym sees)
  due_same (dues.Answers session asked) end_ bytes sees = ap (λ (v : View). IsDueOver v (state_in (faces_of members session.faces) session) (probes asked.items) (end_, bytes)) (sym sees)
  due_same (dues.Pages session) end_ bytes sees = ap (λ (v : View). IsDueOver v (state_in (faces_of members session.faces) session) modes (end_, bytes)) (sym sees)
  due_same (dues.Refused cause place) end_ bytes sees = refl

  -- so for what is owed
  owed_same : (due : Due I D) (owed : Owed) → IsSeenIn members view due → OfOutcome (OwesOver view) OwesNothing (outcome_of members due) owed ≡ IsOwedFor members due owed
  owed_same (dues.Steps session script) owed sees = ap (λ (v : View). OwesOver v (state_in (faces_of members session.faces) session) (steps (steps_of script.items)) owed) (sym sees)
  owed_same (dues.Answers session asked) owed sees = ap (λ (v : View). OwesOver v (state_in (faces_of members session.faces) session) (probes asked.items) owed) (sym sees)
  owed_same (dues.Pages session) owed sees = ap (λ (v : View). OwesOver v (state_in (faces_of members session.faces) session) modes owed) (sym sees)
  owed_same (dues.Refused cause place) owed sees = refl

  module _ (faces : List (Option Table)) (one : HasOneAnswer) (follows : Follows) (input : List ℕ) (due : Due I D) (by : IsDueAs members (ComesOfDocument IsOpening IsRefusing faces follows input) view due) where
    pub due_by : IsDueBy members (IsDueOfDocument faces view follows input) due
    due_by = λ end_ bytes. subst (λ (P : Type 0). IsDueOfDocument faces view follows input end_ bytes ↔ P) (due_same due end_ bytes by.seen)
        (read_same (IsDueOver view) IsDueOfRefusal faces one (outcome_of members due) (end_, bytes) follows input (reading.input input) by.comes)

    pub owed_by : IsOwedBy members (IsOwedByDocument faces view follows input) due
    owed_by = λ owed. subst (λ (P : Type 0). IsOwedByDocument faces view follows input owed ↔ P) (owed_same due owed by.seen)
        (read_same (OwesOver view) OwesNothing faces one (outcome_of members due) owed follows input (reading.input input) by.comes)

-- ---- what can be told

module _ {I : Type 0} {D : I → Type 0} (members : (x : I) → Ghosts (D x)) (none_tie : NoneIsFirstWhereTurnable) where
  ready_by_tie : (session : Session I D) → IsSound (faces_of members session.faces) session → (tie : Option ℕ) → first_of (tying_places (rules_in session) (state_of session.document)) ≡ tie
      → IsReady members (due_by_tie session tie)
  ready_by_tie session sound None is = (sound, (none_tie (rules_in session) (state_of session.document) sound.document.reached).0 is)
  ready_by_tie session sound (Some place) is = tt

  pub ready_over : (session : Session I D) (lines : Lines) → IsSound (faces_of members session.faces) session → IsUnedited (faces_of members session.faces) session → FitsAsked (asked_of lines)
      → weight.total weight.bytes (state_of session.document) + bytes_asked (asked_of lines) ≤ 1048576 → IsReady members (due_over session lines)
  ready_over session (code.Steps script) sound new fits room = record {
    sound = sound;
    unedited = new;
    fit = fits;
    room = (weight.total weight.bytes (state_of session.document), unedited (state_in (faces_of members session.faces) session), new.holds, room);
  }
  ready_over session (code.Probes asked) sound new fits room = sound
  ready_over session code.Modes sound new fits room = ready_by_tie session sound (first_of (tying_places (rules_in session) (state_of session.document))) refl

-- ---- answers

pub if_ok : {X E : Type 0} {P Q : X → Type 0} (r : Result X E) → ((x : X) → P x → Q x) → IfOk r P → IfOk r Q
if_ok (Ok x) more p = more x p
if_ok (Err error) more p = tt

-- lines at their place in the input
pub lines_here : (follows : Follows) (input text : List ℕ) (place : ℕ) → place ≤ length input → text ≡ drop place input → asked_behind follows (length input) (drop place input) ≡ asked_at follows place text
lines_here follows input text place within is =
    let long = length-drop place input in
    let at : length input - length (drop place input) ≡ place = omega (arith, long, within) in
    ap (λ (n : ℕ). asked_at follows n (drop place input)) at ∙ ap (λ (t : List ℕ). asked_at follows place t) (sym is)

-- the texts of a document have no more bytes than it
pub read_before : ((text behind : List ℕ) (whole : Whole) → IsDocument text behind whole → text_bytes whole.nodes ≤ length text) → (bytes : List ℕ) (read : ReadDocument) → IsTheDocument bytes (whole_of read) → text_bytes (nodes_of read.nodes.items) ≤ read.end
read_before shorter bytes read the =
    let most = shorter the.text the.rest (whole_of read) the.is in
    let ends = the.is.ends in
    omega (arith, most, ends)
