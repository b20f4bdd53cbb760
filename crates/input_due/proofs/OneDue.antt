-- Something is due for every input, and nothing else is; so for what is owed to its pages.
use Rattle.std.proofs.Common.{◌≡◌, ◌⊎◌, ◌∙◌, refl, sym, ap, subst, arith, inl, inr, ℕ, ◌<◌, ◌≤◌, Bool, true, false, List, length, drop, Option, Some, None, Ok, Err}
use Rattle.std.specs.Prelude.{codes, nat_lt, ⊤}
use Rattle.std.proofs.lemmas.Bool.Decides.{nat_tests}
use Rattle.face_api.specs.Table.{Table}
use Rattle.wm_units.specs.declared.view.View.{View}
use Rattle.css_values.specs.Error.{kind_word as style_word}
use Rattle.css_sheet.specs.Styled.{Placed, styling}
use Rattle.css_types.specs.Rule.{Styling}
use Rattle.reading.specs.Readers.{Read, ReadOr}
use Rattle.html_tokens.specs.Error.{Fault, kind_word, syntax}
use Rattle.html_read.specs.Error.{place_in}
use Rattle.html_read.specs.Reading as reading
use Rattle.html_read.specs.Values.{Node, Whole}
use Rattle.edits.specs.State.{State}
use Rattle.session.specs.Opening.{CanOpen, HasOneAnswer, IsRefused}
use Rattle.session.specs.declared.error.OpenError.{OpenError}
use Rattle.edit_job.specs.Owed.{AreOwedOnce, Owed, after_page, at_first, unlogged}
use Rattle.edit_job.specs.Refusal.{refusal}
use Rattle.edit_job.specs.Steps.{HaveAnEnd, HaveOneEnd}
use Rattle.session.specs.Error.{open_word}
use Rattle.input_due.specs.Due.{Done, Refused, node_of}
use Rattle.input_due.specs.declared.follows.Follows.{Follows}
use Rattle.modes_job.specs.Telling.{modes_of}
use Rattle.probe_job.specs.Answers.{answers}
use Rattle.page_modes.specs.Pages.{page_of}
use Rattle.session.specs.Document.{styled_of}
use Rattle.session.specs.History.{unedited}
use Rattle.input_due.specs.Asked.{Asked, AskedOr, asked_behind, has_lines, modes, probes, steps}
use Rattle.input_due.specs.Input.{ComesOfAsked, ComesOfInput, ComesOfOpen, ComesOfOpened, ComesOfRead, ComesOfStyling, ComesOfTail, IsDueOfRefusal, IsDueOver, Told, longest_input, opened_with, tied}
use Rattle.input_due.specs.Owed.{OwesNothing, OwesOver, nothing_owed, owed_so_far}
use Rattle.input_due.specs.Laws.{HaveOneDue, OweOnce}

either_way : (input : List ℕ) → (longest_input < length input) ⊎ (length input ≤ longest_input)
either_way input = by (nat_lt longest_input (length input)) refl
  where
    by : (b : Bool) → nat_lt longest_input (length input) ≡ b → (longest_input < length input) ⊎ (length input ≤ longest_input)
    by true is = inl (grind (arith, nat_tests))
    by false is = inr (grind (arith, nat_tests))

never_both : (m n : ℕ) → m < n → n ≤ m → ⊥
never_both m n less most = absurd (omega (arith, less, most))

-- ---- something comes of every input, and one thing alone

module _ {X : Type 0} (Over : State → Asked → X → Type 0) (RefusedAs : List ℕ → ℕ → X → Type 0) (faces : List (Option Table)) (answer : HasOneAnswer) where
  -- Something comes of every document that is open, and of every refusal.
  module _ (over : (state : State) (asked : Asked) → (told : X) × Over state asked told) (line : (word : List ℕ) (place : ℕ) → (told : X) × RefusedAs word place told) where
    tied_some : (tie : Option ℕ) (state : State) (asked : Asked) → (told : X) × ComesOfOpen Over RefusedAs faces tie state asked told
    tied_some None state asked = over state asked
    tied_some (Some place) state asked = line (codes "NotTurnable") place

    opened_some : (nodes : List Node) (styles : Styling) (asked : Asked) → CanOpen nodes styles.own styles.rules ⊎ ((error : OpenError) × IsRefused nodes styles.own styles.rules error)
        → (told : X) × ComesOfOpened Over RefusedAs faces nodes styles asked told
    opened_some nodes styles asked (inl can) = let some = tied_some (tied (opened_with faces nodes styles) asked) (opened_with faces nodes styles) asked in (some.0, inl (can, some.1))
    opened_some nodes styles asked (inr (error, refused)) = let some = line (open_word error) (node_of error) in (some.0, inr (error, refused, some.1))

    asked_some : (nodes : List Node) (styles : Styling) (asked : AskedOr) → (told : X) × ComesOfAsked Over RefusedAs faces nodes styles asked told
    asked_some nodes styles (Ok asked) = opened_some nodes styles asked (answer.some nodes styles.own styles.rules)
    asked_some nodes styles (Err refused) = line refused.0 refused.1

    styling_some : (nodes : List Node) (read : Placed Styling) (asked : AskedOr) → (told : X) × ComesOfStyling Over RefusedAs faces nodes read asked told
    styling_some nodes (Ok styles) asked = asked_some nodes styles asked
    styling_some nodes (Err refused) asked = line (style_word refused.0) refused.1

    tail_some : (follows : Follows) (size : ℕ) (document : Whole) (behind : Read ⊤) → (told : X) × ComesOfTail Over RefusedAs faces follows size document behind told
    tail_some follows size document (Ok behind) = styling_some document.nodes (styling document) (asked_behind follows size behind.1)
    tail_some follows size document (Err left) = line (kind_word (syntax left).0) (place_in size (syntax left).1)

    read_some : (follows : Follows) (bytes : List ℕ) (read : ReadOr Fault Whole) → (told : X) × ComesOfRead Over RefusedAs faces follows bytes read told
    read_some follows bytes (Ok read) = tail_some follows (length bytes) read.0 (reading.tail (has_lines follows) (drop read.0.length bytes))
    read_some follows bytes (Err fault) = line (kind_word fault.0) (place_in (length bytes) fault.1)

    input_some : (follows : Follows) (input : List ℕ) → (longest_input < length input) ⊎ (length input ≤ longest_input) → (told : X) × ComesOfInput Over RefusedAs faces follows input told
    input_some follows input (inl long) = let some = line (codes "TooLong") longest_input in (some.0, inl (long, some.1))
    input_some follows input (inr short) = let some = read_some follows input (reading.input input) in (some.0, inr (short, some.1))

  -- One thing alone comes of each of them.
  module _ (over : (state : State) (asked : Asked) (one other : X) → Over state asked one → Over state asked other → other ≡ one)
      (line : (word : List ℕ) (place : ℕ) (one other : X) → RefusedAs word place one → RefusedAs word place other → other ≡ one) (one other : X) where
    tied_only : (tie : Option ℕ) (state : State) (asked : Asked) → ComesOfOpen Over RefusedAs faces tie state asked one → ComesOfOpen Over RefusedAs faces tie state asked other → other ≡ one
    tied_only None state asked here there = over state asked one other here there
    tied_only (Some place) state asked here there = line (codes "NotTurnable") place one other here there

    opened_only : (nodes : List Node) (styles : Styling) (asked : Asked) → ComesOfOpened Over RefusedAs faces nodes styles asked one → ComesOfOpened Over RefusedAs faces nodes styles asked other → other ≡ one
    opened_only nodes styles asked (inl (can, here)) (inl (also, there)) = tied_only (tied (opened_with faces nodes styles) asked) (opened_with faces nodes styles) asked here there
    opened_only nodes styles asked (inl (can, here)) (inr (error, refused, there)) = absurd ((answer.only nodes styles.own styles.rules error refused).0 can)
    opened_only nodes styles asked (inr (error, refused, here)) (inl (can, there)) = absurd ((answer.only nodes styles.own styles.rules error refused).0 can)
    opened_only nodes styles asked (inr (error, refused, here)) (inr (reason, also, there)) =
        line (open_word error) (node_of error) one other here
        (subst (λ (e : OpenError). RefusedAs (open_word e) (node_of e) other) ((answer.only nodes styles.own styles.rules error refused).1 reason also) there)

    asked_only : (nodes : List Node) (styles : Styling) (asked : AskedOr) → ComesOfAsked Over RefusedAs faces nodes styles asked one → ComesOfAsked Over RefusedAs faces nodes styles asked other → other ≡ one
    asked_only nodes styles (Ok asked) here there = opened_only nodes styles asked here there
    asked_only nodes styles (Err refused) here there = line refused.0 refused.1 one other here there

    styling_only : (nodes : List Node) (read : Placed Styling) (asked : AskedOr) → ComesOfStyling Over RefusedAs faces nodes read asked one → ComesOfStyling Over RefusedAs faces nodes read asked other → other ≡ one
    styling_only nodes (Ok styles) asked here there = asked_only nodes styles asked here there
    styling_only nodes (Err refused) asked here there = line (style_word refused.0) refused.1 one other here there

    tail_only : (follows : Follows) (size : ℕ) (document : Whole) (behind : Read ⊤) → ComesOfTail Over RefusedAs faces follows size document behind one → ComesOfTail Over RefusedAs faces follows size document behind other
        → other ≡ one
    tail_only follows size document (Ok behind) here there = styling_only document.nodes (styling document) (asked_behind follows size behind.1) here there
    tail_only follows size document (Err left) here there = line (kind_word (syntax left).0) (place_in size (syntax left).1) one other here there

    read_only : (follows : Follows) (bytes : List ℕ) (read : ReadOr Fault Whole) → ComesOfRead Over RefusedAs faces follows bytes read one → ComesOfRead Over RefusedAs faces follows bytes read other → other ≡ one
    read_only follows bytes (Ok read) here there = tail_only follows (length bytes) read.0 (reading.tail (has_lines follows) (drop read.0.length bytes)) here there
    read_only follows bytes (Err fault) here there = line (kind_word fault.0) (place_in (length bytes) fault.1) one other here there

    input_only : (follows : Follows) (input : List ℕ) → ComesOfInput Over RefusedAs faces follows input one → ComesOfInput Over RefusedAs faces follows input other → other ≡ one
    input_only follows input (inl (long, here)) (inl (also, there)) = line (codes "TooLong") longest_input one other here there
    input_only follows input (inl (long, here)) (inr (short, there)) = absurd (never_both longest_input (length input) long short)
    input_only follows input (inr (short, here)) (inl (long, there)) = absurd (never_both longest_input (length input) long short)
    input_only follows input (inr (short, here)) (inr (also, there)) = read_only follows input (reading.input input) here there

-- ---- what is due

due_some : HaveAnEnd → (view : View) (state : State) (asked : Asked) → (told : Told) × IsDueOver view state asked told
due_some leads view state (steps said) = let end_ = leads view (unedited state) said in ((Done, end_.1), (refl, end_.0, end_.2))
due_some leads view state (probes asked) = ((Done, answers (page_of state.faces view (styled_of state)) asked), (refl, refl))
due_some leads view state modes = ((Done, modes_of state.faces view state.rules state.tree), (refl, refl))

same_told : (one other : Told) → other.0 ≡ one.0 → other.1 ≡ one.1 → other ≡ one
same_told one other ends bytes = ap (λ e. (e, other.1)) ends ∙ ap (λ b. (one.0, b)) bytes

due_only : HaveOneEnd → (view : View) (state : State) (asked : Asked) (one other : Told) → IsDueOver view state asked one → IsDueOver view state asked other → other ≡ one
due_only ends view state (steps said) one other (is, last, here) (is', last', there) = same_told one other (is' ∙ sym is) (ends view (unedited state) said last last' one.1 other.1 here there).1
due_only ends view state (probes asked) one other (is, d) (is', d') = same_told one other (is' ∙ sym is) (d' ∙ sym d)
due_only ends view state modes one other (is, d) (is', d') = same_told one other (is' ∙ sym is) (d' ∙ sym d)

line_some : (word : List ℕ) (place : ℕ) → (told : Told) × IsDueOfRefusal word place told
line_some word place = ((Refused, refusal word place), (refl, refl))

line_only : (word : List ℕ) (place : ℕ) (one other : Told) → IsDueOfRefusal word place one → IsDueOfRefusal word place other → other ≡ one
line_only word place one other (is, d) (is', d') = same_told one other (is' ∙ sym is) (d' ∙ sym d)

pub one_due : HasOneAnswer → HaveAnEnd → HaveOneEnd → HaveOneDue
one_due answer leads ends = record {
  document_some = λ faces view follows bytes.
      let some = read_some (IsDueOver view) IsDueOfRefusal faces answer (due_some leads view) line_some follows bytes (reading.input bytes) in (some.0.0, some.0.1, some.1);
  document_only = λ faces view follows bytes end_ other due more is also.
      let same = read_only (IsDueOver view) IsDueOfRefusal faces answer (due_only ends view) line_only (end_, due) (other, more) follows bytes (reading.input bytes) is also in
      (ap (λ (t : Told). t.0) same, ap (λ (t : Told). t.1) same);
  some = λ faces view follows input.
      let some = input_some (IsDueOver view) IsDueOfRefusal faces answer (due_some leads view) line_some follows input (either_way input) in (some.0.0, some.0.1, some.1);
  only = λ faces view follows input end_ other due more is also.
      let same = input_only (IsDueOver view) IsDueOfRefusal faces answer (due_only ends view) line_only (end_, due) (other, more) follows input is also in
      (ap (λ (t : Told). t.0) same, ap (λ (t : Told). t.1) same);
}

-- ---- what is owed

owed_some : AreOwedOnce → (view : View) (state : State) (asked : Asked) → (owed : Owed) × OwesOver view state asked owed
owed_some owes view state (steps said) = let last = owes.some view (unlogged state) (at_first state) said in (owed_so_far last.0, (last.0, last.1, refl))
owed_some owes view state (probes asked) = (owed_so_far (after_page view state (at_first state)), refl)
owed_some owes view state modes = (owed_so_far (after_page view state (at_first state)), refl)

owed_only : AreOwedOnce → (view : View) (state : State) (asked : Asked) (one other : Owed) → OwesOver view state asked one → OwesOver view state asked other → other ≡ one
owed_only owes view state (steps said) one other (last, here, is) (last', there, is') = is' ∙ ap owed_so_far (owes.only view (unlogged state) (at_first state) said last last' here there) ∙ sym is
owed_only owes view state (probes asked) one other is is' = is' ∙ sym is
owed_only owes view state modes one other is is' = is' ∙ sym is

nothing_some : (word : List ℕ) (place : ℕ) → (owed : Owed) × OwesNothing word place owed
nothing_some word place = (nothing_owed, refl)

nothing_only : (word : List ℕ) (place : ℕ) (one other : Owed) → OwesNothing word place one → OwesNothing word place other → other ≡ one
nothing_only word place one other is is' = is' ∙ sym is

pub owe_once : HasOneAnswer → AreOwedOnce → OweOnce
owe_once answer owes = record {
  document_some = λ faces view follows bytes. read_some (OwesOver view) OwesNothing faces answer (owed_some owes view) nothing_some follows bytes (reading.input bytes);
  document_only = λ faces view follows bytes one other is also. read_only (OwesOver view) OwesNothing faces answer (owed_only owes view) nothing_only one other follows bytes (reading.input bytes) is also;
  some = λ faces view follows input. input_some (OwesOver view) OwesNothing faces answer (owed_some owes view) nothing_some follows input (either_way input);
  only = λ faces view follows input one other is also. input_only (OwesOver view) OwesNothing faces answer (owed_only owes view) nothing_only one other follows input is also;
}
