-- Scripts by the grammar: what their lines say, and how it is counted.
use Rattle.std.proofs.Common.{◌≡◌, ℕ, ◌+◌, ◌<◌, ◌≤◌, Bool, true, false, cond, nat_lt, List, [], ◌∷◌, ◌++◌, length, Option, Some, None, Ok, Err, refl, sym, ap, subst, ◌∙◌, append_assoc, arith}
use Rattle.std.specs.Prelude.{Result}
use Rattle.std.specs.List.{slice_split}
use Rattle.std.specs.Str.Lines.{strip_carriage_return}
use Rattle.std.proofs.lemmas.Bool.{lt-ltb, ltb-true}
use Rattle.std.proofs.lemmas.List.{append-nil}
use Rattle.reading.specs.Readers.{Read}
use Rattle.dom_store.specs.Edits as tree
use Rattle.edits.specs.Change as changes
use Rattle.edits.specs.Change.{Change}
use Rattle.edit_script.specs.declared.error.Refusal.{Refusal}
use Rattle.edit_script.specs.declared.error.Refusal.TheVariants as kinds
use Rattle.html_read.specs.Judging as judging
use Rattle.edit_script.specs.Command.{Command, command}
use Rattle.edit_script.specs.Command as commands
use Rattle.edit_script.specs.Grammar.{AreLines, IsScript, Means, Says, edits_in, edits_of, numbered, shows_in, shows_of}
use Rattle.edit_script.specs.Meaning.{Said, Step, and_then, meaning}
use Rattle.edit_script.specs.Meaning as meanings
use Rattle.edit_script.specs.Script.{Begun, StepAt, at_place, counted, counted_edit, counted_show, empty, is_blank, is_lf, judged, lines_from, passed, script, unless_blank, with_line, with_step}
use Rattle.edit_script.proofs.CommandLaws.{command_again, command_is}
use Rattle.edit_script.proofs.MeaningLaws.{AreSpelled, means, means_again, same_there, then_ok, there}

-- ---- counts

-- the next state has counted this step
record IsCounted (b : Begun) (what : Step) (next : Begun) : Type 0 where
  said : next.said ≡ b.said
  lines : next.lines ≡ b.lines
  edits : next.edits ≡ b.edits + edits_in what
  shows : next.shows ≡ b.shows + shows_in what
  few_edits : b.edits ≤ 10000 → next.edits ≤ 10000
  few_shows : b.shows ≤ 64 → next.shows ≤ 64

edit_more : Begun → Begun
edit_more b = record { said = b.said; lines = b.lines; edits = b.edits + 1; shows = b.shows }

show_more : Begun → Begun
show_more b = record { said = b.said; lines = b.lines; edits = b.edits; shows = b.shows + 1 }

-- a step counts as one edit
abbrev IsOneEdit : Step → Type 0
IsOneEdit what = (edits_in what ≡ 1) × (shows_in what ≡ 0)

edit_counts : (b : Begun) (what : Step) → IsOneEdit what → b.edits < 10000 → IsCounted b what (edit_more b)
unfolding edit_more
edit_counts b what (one, none) lt = record { said = refl; lines = refl; edits = omega (arith, one); shows = omega (arith, none); few_edits = λ few. omega (arith, lt); few_shows = λ few. few }

show_counts : (b : Begun) → b.shows < 64 → IsCounted b meanings.show (show_more b)
unfolding show_more
show_counts b lt = record { said = refl; lines = refl; edits = omega arith; shows = refl; few_edits = λ few. few; few_shows = λ few. omega (arith, lt) }

edit_by : (b next : Begun) (what : Step) (t : Bool) → IsOneEdit what → nat_lt b.edits 10000 ≡ t → cond t (there (edit_more b)) (Err kinds.TooManyEdits) ≡ there next → IsCounted b what next
edit_by b next what true one lt e = subst (λ (z : Begun). IsCounted b what z) (same_there (edit_more b) next e) (edit_counts b what one (ltb-true b.edits 10000 lt))
edit_by b next what false one lt e = absurd cc

edit_counted : (b next : Begun) (what : Step) → IsOneEdit what → counted_edit b ≡ there next → IsCounted b what next
unfolding edit_more edit_by
edit_counted b next what one e = edit_by b next what (nat_lt b.edits 10000) one refl e

show_by : (b next : Begun) (t : Bool) → nat_lt b.shows 64 ≡ t → cond t (there (show_more b)) (Err kinds.TooManyShows) ≡ there next → IsCounted b meanings.show next
show_by b next true lt e = subst (λ (z : Begun). IsCounted b meanings.show z) (same_there (show_more b) next e) (show_counts b (ltb-true b.shows 64 lt))
show_by b next false lt e = absurd cc

show_counted : (b next : Begun) → counted_show b ≡ there next → IsCounted b meanings.show next
unfolding show_more show_by
show_counted b next e = show_by b next (nat_lt b.shows 64) refl e

an_edit : (b next : Begun) (change : Change) (what : Step) → what ≡ meanings.edit change → counted_edit b ≡ there next → IsCounted b what next
an_edit b next change what is e = subst (λ (w : Step). IsCounted b w next) (sym is) (edit_counted b next (meanings.edit change) (refl, refl) e)

is_counted : (c : Command) (b next : Begun) (what : Step) → Means c what → counted c b ≡ there next → IsCounted b what next
is_counted commands.show b next what m e = subst (λ (w : Step). IsCounted b w next) (sym m) (show_counted b next e)
is_counted (commands.text node rest) b next what m e = an_edit b next (changes.of_tree (tree.set_text node m.0)) what m.2 e
is_counted (commands.style node rest) b next what m e = an_edit b next (changes.of_tree (tree.set_style node m.0)) what m.2 e
is_counted (commands.class node rest) b next what m e = an_edit b next (changes.of_tree (tree.set_class node (judging.words rest))) what m e
is_counted (commands.insert parent index rest) b next what m e = an_edit b next (changes.of_tree (tree.insert parent index m.0 m.1)) what m.4 e
is_counted (commands.remove node) b next what m e = an_edit b next (changes.of_tree (tree.remove node)) what m e
is_counted (commands.move node parent index) b next what m e = an_edit b next (changes.of_tree (tree.move_to node parent index)) what m e
is_counted (commands.metric face c upright value) b next what m e = an_edit b next (changes.metric face c upright value) what m e
is_counted (commands.retire face) b next what m e = an_edit b next (changes.retire face) what m e
is_counted (commands.rule rest) b next what m e = an_edit b next (changes.rule m.0.rules) what m.2 e
is_counted (commands.unrule index) b next what m e = an_edit b next (changes.unrule index) what m e
is_counted commands.undo b next what m e = subst (λ (w : Step). IsCounted b w next) (sym m) (edit_counted b next meanings.undo (refl, refl) e)
is_counted commands.redo b next what m e = subst (λ (w : Step). IsCounted b w next) (sym m) (edit_counted b next meanings.redo (refl, refl) e)

-- a step that may still come is counted
record Counts (c : Command) (b : Begun) : Type 0 where
  next : Begun
  is : counted c b ≡ there next

edit_may : (b : Begun) → b.edits < 10000 → counted_edit b ≡ there (edit_more b)
unfolding edit_more
edit_may b lt = ap (λ (t : Bool). cond t (there (edit_more b)) (Err kinds.TooManyEdits)) (lt-ltb b.edits 10000 lt)

show_may : (b : Begun) → b.shows < 64 → counted_show b ≡ there (show_more b)
unfolding show_more
show_may b lt = ap (λ (t : Bool). cond t (there (show_more b)) (Err kinds.TooManyShows)) (lt-ltb b.shows 64 lt)

edit_fits : (b : Begun) (change : Change) (what : Step) → what ≡ meanings.edit change → b.edits + edits_in what ≤ 10000 → b.edits < 10000
edit_fits b change what is few =
    let one : edits_in what ≡ 1 = ap edits_in is in
    omega (arith, one, few)

step_fits : (b : Begun) (step what : Step) → IsOneEdit step → what ≡ step → b.edits + edits_in what ≤ 10000 → b.edits < 10000
step_fits b step what one is few =
    let same : edits_in what ≡ 1 = ap edits_in is ∙ one.0 in
    omega (arith, same, few)

show_fits : (b : Begun) (what : Step) → what ≡ meanings.show → b.shows + shows_in what ≤ 64 → b.shows < 64
show_fits b what is few =
    let one : shows_in what ≡ 1 = ap shows_in is in
    omega (arith, one, few)

may_count : (c : Command) (b : Begun) (what : Step) → Means c what → b.edits + edits_in what ≤ 10000 → b.shows + shows_in what ≤ 64 → Counts c b
may_count commands.show b what m edits shows = record { next = show_more b; is = show_may b (show_fits b what m shows) }
may_count (commands.text node rest) b what m edits shows = record { next = edit_more b; is = edit_may b (edit_fits b (changes.of_tree (tree.set_text node m.0)) what m.2 edits) }
may_count (commands.style node rest) b what m edits shows = record { next = edit_more b; is = edit_may b (edit_fits b (changes.of_tree (tree.set_style node m.0)) what m.2 edits) }
may_count (commands.class node rest) b what m edits shows = record { next = edit_more b; is = edit_may b (edit_fits b (changes.of_tree (tree.set_class node (judging.words rest))) what m edits) }
may_count (commands.insert parent index rest) b what m edits shows = record { next = edit_more b; is = edit_may b (edit_fits b (changes.of_tree (tree.insert parent index m.0 m.1)) what m.4 edits) }
may_count (commands.remove node) b what m edits shows = record { next = edit_more b; is = edit_may b (edit_fits b (changes.of_tree (tree.remove node)) what m edits) }
may_count (commands.move node parent index) b what m edits shows = record { next = edit_more b; is = edit_may b (edit_fits b (changes.of_tree (tree.move_to node parent index)) what m edits) }
may_count (commands.metric face c upright value) b what m edits shows = record { next = edit_more b; is = edit_may b (edit_fits b (changes.metric face c upright value) what m edits) }
may_count (commands.retire face) b what m edits shows = record { next = edit_more b; is = edit_may b (edit_fits b (changes.retire face) what m edits) }
may_count (commands.rule rest) b what m edits shows = record { next = edit_more b; is = edit_may b (edit_fits b (changes.rule m.0.rules) what m.2 edits) }
may_count (commands.unrule index) b what m edits shows = record { next = edit_more b; is = edit_may b (edit_fits b (changes.unrule index) what m edits) }
may_count commands.undo b what m edits shows = record { next = edit_more b; is = edit_may b (step_fits b meanings.undo what (refl, refl) m edits) }
may_count commands.redo b what m edits shows = record { next = edit_more b; is = edit_may b (step_fits b meanings.redo what (refl, refl) m edits) }

-- ---- a line

-- the state behind a line that says this, or nothing
record IsNext (b : Begun) (line : List ℕ) (next : Begun) : Type 0 where
  first : Option Step
  says : Says (strip_carriage_return line) first
  lines : next.lines ≡ b.lines + 1
  said : next.said ≡ b.said ++ numbered (b.lines + 1) first []
  edits : next.edits ≡ b.edits + edits_of (numbered (b.lines + 1) first [])
  shows : next.shows ≡ b.shows + shows_of (numbered (b.lines + 1) first [])
  few_edits : b.edits ≤ 10000 → next.edits ≤ 10000
  few_shows : b.shows ≤ 64 → next.shows ≤ 64

blank_next : (b : Begun) (line : List ℕ) → is_blank (strip_carriage_return line) ≡ true → IsNext b line (passed b)
blank_next b line blank = record {
  first = None;
  says = blank;
  lines = refl;
  said = sym (append-nil b.said);
  edits = omega arith;
  shows = omega arith;
  few_edits = λ few. few;
  few_shows = λ few. few;
}

step_said : (b mid : Begun) (what : Step) → IsCounted (passed b) what mid → (with_step mid what).said ≡ b.said ++ numbered (b.lines + 1) (Some what) []
step_said b mid what counts = rw (counts.said, counts.lines) refl

step_edits : (b mid : Begun) (what : Step) → IsCounted (passed b) what mid → mid.edits ≡ b.edits + edits_of (numbered (b.lines + 1) (Some what) [])
step_edits b mid what counts = omega (arith, counts.edits)

step_shows : (b mid : Begun) (what : Step) → IsCounted (passed b) what mid → mid.shows ≡ b.shows + shows_of (numbered (b.lines + 1) (Some what) [])
step_shows b mid what counts = omega (arith, counts.shows)

step_next : (b mid : Begun) (line : List ℕ) (what : Step) → Says (strip_carriage_return line) (Some what) → IsCounted (passed b) what mid → IsNext b line (with_step mid what)
step_next b mid line what says counts = record {
  first = Some what;
  says = says;
  lines = counts.lines;
  said = step_said b mid what counts;
  edits = step_edits b mid what counts;
  shows = step_shows b mid what counts;
  few_edits = counts.few_edits;
  few_shows = counts.few_shows;
}

command_next : AreSpelled → (b next : Begun) (line : List ℕ) (r : Read Command) → is_blank (strip_carriage_return line) ≡ false → command (strip_carriage_return line) ≡ r → judged r (passed b) ≡ there next → IsNext b line next
command_next spelled b next line (Err left) some e j = absurd cc
command_next spelled b next line (Ok read) some e j =
    let a = then_ok (counted read.0 (passed b)) (λ (mid : Begun). and_then (meaning read.0) (λ what. there (with_step mid what))) next j in
    let d = then_ok (meaning read.0) (λ (what : Step). there (with_step a.0 what)) next a.2 in
    let m = means spelled read.0 d.0 d.1 in
    let is = command_is (strip_carriage_return line) read.1 read.0 e in
    subst (λ (z : Begun). IsNext b line z) (same_there (with_step a.0 d.0) next d.2)
    (step_next b a.0 line d.0 (some, read.0, is, m) (is_counted read.0 (passed b) a.0 d.0 m a.1))

next_by : AreSpelled → (b next : Begun) (line : List ℕ) (t : Bool) → is_blank (strip_carriage_return line) ≡ t → unless_blank t (strip_carriage_return line) (passed b) ≡ there next → IsNext b line next
next_by spelled b next line true blank e = subst (λ (z : Begun). IsNext b line z) (same_there (passed b) next e) (blank_next b line blank)
next_by spelled b next line false some e = command_next spelled b next line (command (strip_carriage_return line)) some refl e

line_next : AreSpelled → (b next : Begun) (line : List ℕ) → with_line b line ≡ there next → IsNext b line next
unfolding with_line
line_next spelled b next line e = next_by spelled b next line (is_blank (strip_carriage_return line)) refl e

-- a line that may still come is read
record Reads (b : Begun) (line : List ℕ) (first : Option Step) : Type 0 where
  next : Begun
  is : with_line b line ≡ there next
  lines : next.lines ≡ b.lines + 1
  said : next.said ≡ b.said ++ numbered (b.lines + 1) first []
  edits : next.edits ≡ b.edits + edits_of (numbered (b.lines + 1) first [])
  shows : next.shows ≡ b.shows + shows_of (numbered (b.lines + 1) first [])

pub blank_line : (b : Begun) (line : List ℕ) → is_blank (strip_carriage_return line) ≡ true → with_line b line ≡ there (passed b)
unfolding with_line
blank_line b line blank = ap (λ (t : Bool). unless_blank t (strip_carriage_return line) (passed b)) blank

step_line : (b mid : Begun) (line : List ℕ) (c : Command) (what : Step) → is_blank (strip_carriage_return line) ≡ false → command (strip_carriage_return line) ≡ Ok (c, []) → counted c (passed b) ≡ there mid → meaning c ≡ there what
    → with_line b line ≡ there (with_step mid what)
unfolding with_line
step_line b mid line c what some read counts means_ =
    ap (λ (t : Bool). unless_blank t (strip_carriage_return line) (passed b)) some ∙ ap (λ (r : Read Command). judged r (passed b)) read
    ∙ ap (λ (r : Said Begun). and_then r (λ next. and_then (meaning c) (λ w. there (with_step next w)))) counts ∙ ap (λ (r : Said Step). and_then r (λ w. there (with_step mid w))) means_

line_reads : AreSpelled → (b : Begun) (line : List ℕ) (first : Option Step) → Says (strip_carriage_return line) first → b.edits + edits_of (numbered (b.lines + 1) first []) ≤ 10000
    → b.shows + shows_of (numbered (b.lines + 1) first []) ≤ 64 → Reads b line first
line_reads spelled b line None blank edits shows =
    record { next = passed b; is = blank_line b line blank; lines = refl; said = sym (append-nil b.said); edits = omega arith; shows = omega arith }
line_reads spelled b line (Some what) says edits shows =
    let counts = may_count says.1 (passed b) what says.3 (omega (arith, edits)) (omega (arith, shows)) in
    let more = is_counted says.1 (passed b) counts.next what says.3 counts.is in
    record {
      next = with_step counts.next what;
      is = step_line b counts.next line says.1 what says.0 (command_again (strip_carriage_return line) says.1 says.2) counts.is (means_again spelled says.1 what says.3);
      lines = more.lines;
      said = step_said b counts.next what more;
      edits = step_edits b counts.next what more;
      shows = step_shows b counts.next what more;
    }

-- ---- all lines

-- what lines say behind others
record IsFurther (b : Begun) (lines : List (List ℕ)) (said : List StepAt) : Type 0 where
  more : List StepAt
  are : AreLines (b.lines + 1) lines more
  whole : said ≡ b.said ++ more
  edits : b.edits + edits_of more ≤ 10000
  shows : b.shows + shows_of more ≤ 64

at_place_ok : {A : Type 0} (place : ℕ) (r : Said Begun) (others : Begun → Result A (Refusal × ℕ)) (x : A) → at_place place r others ≡ Ok x → (next : Begun) × (r ≡ there next) × (others next ≡ Ok x)
at_place_ok place (Ok b) others x e = (b, refl, e)
at_place_ok place (Err kind) others x e = absurd cc

numbered_more : (number : ℕ) (first : Option Step) (more : List StepAt) → numbered number first [] ++ more ≡ numbered number first more
numbered_more number None more = refl
numbered_more number (Some what) more = refl

edits_more : (number : ℕ) (first : Option Step) (more : List StepAt) → edits_of (numbered number first more) ≡ edits_of (numbered number first []) + edits_of more
edits_more number None more = omega arith
edits_more number (Some what) more = omega arith

shows_more : (number : ℕ) (first : Option Step) (more : List StepAt) → shows_of (numbered number first more) ≡ shows_of (numbered number first []) + shows_of more
shows_more number None more = omega arith
shows_more number (Some what) more = omega arith

further_line : (b next : Begun) (line : List ℕ) (others : List (List ℕ)) (said : List StepAt) → IsNext b line next → IsFurther next others said → IsFurther b (line ∷ others) said
further_line b next line others said n f = record {
  more = numbered (b.lines + 1) n.first f.more;
  are = (n.first, f.more, n.says, subst (λ (k : ℕ). AreLines (k + 1) others f.more) n.lines f.are, refl);
  whole = f.whole ∙ ap (λ (l : List StepAt). l ++ f.more) n.said ∙ append_assoc b.said (numbered (b.lines + 1) n.first []) f.more ∙ ap (λ (l : List StepAt). b.said ++ l) (numbered_more (b.lines + 1) n.first f.more);
  edits = omega (arith, f.edits, n.edits, edits_more (b.lines + 1) n.first f.more);
  shows = omega (arith, f.shows, n.shows, shows_more (b.lines + 1) n.first f.more);
}

abbrev pub read : List StepAt → Result (List StepAt) (Refusal × ℕ)
read said = Ok said

pub ok_said : (one other : List StepAt) → read one ≡ read other → one ≡ other
ok_said one other e = cc

further : AreSpelled → (place : ℕ) (b : Begun) (lines : List (List ℕ)) (said : List StepAt) → b.edits ≤ 10000 → b.shows ≤ 64 → lines_from place b lines ≡ Ok said → IsFurther b lines said
unfolding lines_from
further spelled place b [] said edits shows e = record { more = []; are = refl; whole = sym (append-nil b.said ∙ ok_said b.said said e); edits = omega (arith, edits); shows = omega (arith, shows) }
further spelled place b (line ∷ others) said edits shows e =
    let a = at_place_ok place (with_line b line) (λ (next : Begun). lines_from (place + length line + 1) next others) said e in
    let n = line_next spelled b a.0 line a.1 in
    further_line b a.0 line others said n (further spelled (place + length line + 1) a.0 others said (n.few_edits edits) (n.few_shows shows) a.2)

again : AreSpelled → (place : ℕ) (b : Begun) (lines : List (List ℕ)) (more : List StepAt) → AreLines (b.lines + 1) lines more → b.edits + edits_of more ≤ 10000 → b.shows + shows_of more ≤ 64
    → lines_from place b lines ≡ Ok (b.said ++ more)
unfolding lines_from
again spelled place b [] more none edits shows = ap read (sym (append-nil b.said) ∙ ap (λ (l : List StepAt). b.said ++ l) (sym none))
again spelled place b (line ∷ others) more are edits shows =
    let first : Option Step = are.0 in
    let number : ℕ = b.lines + 1 in
    let all_edits : edits_of more ≡ edits_of (numbered number first []) + edits_of are.1 = ap edits_of are.4 ∙ edits_more number first are.1 in
    let all_shows : shows_of more ≡ shows_of (numbered number first []) + shows_of are.1 = ap shows_of are.4 ∙ shows_more number first are.1 in
    let r = line_reads spelled b line first are.2 (omega (arith, edits, all_edits)) (omega (arith, shows, all_shows)) in
    let later = again spelled (place + length line + 1) r.next others are.1 (subst (λ (k : ℕ). AreLines (k + 1) others are.1) (sym r.lines) are.3)
    (omega (arith, r.edits, all_edits, edits)) (omega (arith, r.shows, all_shows, shows)) in
    ap (λ (s : Said Begun). at_place place s (λ next. lines_from (place + length line + 1) next others)) r.is ∙ later
    ∙ ap read
    (ap (λ (l : List StepAt). l ++ are.1) r.said ∙ append_assoc b.said (numbered number first []) are.1 ∙ ap (λ (l : List StepAt). b.said ++ l) (numbered_more number first are.1 ∙ sym are.4))

-- ---- scripts

pub script_is : AreSpelled → (text : List ℕ) (said : List StepAt) → script text ≡ Ok said → IsScript text said
unfolding script
script_is spelled text said e =
    let f = further spelled 0 empty (slice_split is_lf text) said (omega arith) (omega arith) e in
    let edits : edits_of f.more ≤ 10000 = omega (arith, f.edits) in
    let shows : shows_of f.more ≤ 64 = omega (arith, f.shows) in
    subst (λ (l : List StepAt). IsScript text l) (sym f.whole) (record { are_lines = f.are; few_edits = edits; few_shows = shows })

pub script_again : AreSpelled → (text : List ℕ) (said : List StepAt) → IsScript text said → script text ≡ Ok said
unfolding script
script_again spelled text said is = again spelled 0 empty (slice_split is_lf text) said is.are_lines (omega (arith, is.few_edits)) (omega (arith, is.few_shows))
