-- What a script brings to a document.
use Rattle.std.proofs.Common.{◌≡◌, ℕ, suc, ◌+◌, ◌-◌, ◌≤◌, ◌==◌, Bool, true, false, cond, take, slice_index, List, [], ◌∷◌, length, Some, None, Ok, Err, refl, ap, sym, subst, inl, inr, arith}
use Rattle.std.specs.Prelude.{IfOk, Result}
use Rattle.std.specs.List.{onto_first, slice_split}
use Rattle.std.specs.Str.Lines.{strip_carriage_return}
use Rattle.std.proofs.lemmas.List.{length-take}
use Rattle.std.proofs.lemmas.List.Splits.{slice_split-cons_no, slice_split-cons_yes}
use Rattle.basic_laws.proofs.Lists.{back_fits}
use Rattle.html_tokens.specs.Grammar.{IsGap}
use Rattle.html_read.specs.Grammar.{IsFragment}
use Rattle.html_read.specs.Shape.{text_bytes}
use Rattle.html_read.specs.Values.{Node}
use Rattle.edit_script.specs.Command as commands
use Rattle.edit_script.specs.Command.{Command, command}
use Rattle.edit_script.specs.declared.command.Word.{Word}
use Rattle.edit_script.specs.declared.command.Word.TheVariants as words_
use Rattle.edit_script.specs.declared.error.ScriptError.{ScriptError}
use Rattle.edit_script.specs.Answered.{Told}
use Rattle.edit_script.specs.Fitting.{AllFit, BringNoMore, HasFitting, bytes_in, bytes_of}
use Rattle.edit_script.specs.Grammar.{AreArguments, AreLines, IsCommand, IsNodeAndRest, IsRest, Means}
use Rattle.edit_script.specs.Meaning.{Step}
use Rattle.edit_script.specs.Script.{Begun, StepAt, empty, is_lf, script}
use Rattle.edit_script.proofs.AnsweredLaws.{told_script}
use Rattle.edit_script.proofs.CommandLaws.{command_is, good}
use Rattle.edit_script.proofs.MeaningLaws.{AreSpelled}

-- ---- what stands behind the words of a line

rest_of : Command → List ℕ
rest_of (commands.text node rest) = rest
rest_of (commands.style node rest) = rest
rest_of (commands.class node rest) = rest
rest_of (commands.insert parent index rest) = rest
rest_of (commands.remove node) = []
rest_of (commands.move node parent index) = []
rest_of (commands.metric face c upright value) = []
rest_of (commands.retire face) = []
rest_of (commands.rule rest) = rest
rest_of (commands.unrule index) = []
rest_of commands.undo = []
rest_of commands.redo = []
rest_of commands.show = []

rest_within : (text rest : List ℕ) → IsRest text rest → length rest ≤ length text
rest_within text rest (inl is) = let long : length text ≡ suc (length rest) = ap (λ (t : List ℕ). length t) is in omega (arith, long)
rest_within text rest (inr (none, is)) = let long : length rest ≡ 0 = ap (λ (t : List ℕ). length t) is in omega (arith, long)

pair_within : (text : List ℕ) (r : ℕ × List ℕ) → IsNodeAndRest text r → length r.1 ≤ length text
pair_within text r (node, front, back, number, (rest, is, same), cut) =
    let within = rest_within back rest is in
    let most = back_fits front back text cut in
    let long : length r.1 ≡ length rest = ap (λ (q : ℕ × List ℕ). length q.1) same in
    omega (arith, within, most, long)

same_rest : (c other : Command) → c ≡ other → length (rest_of c) ≡ length (rest_of other)
same_rest c other same = ap (λ (d : Command). length (rest_of d)) same

arguments_within : (word : Word) (text : List ℕ) (c : Command) → AreArguments word text c → length (rest_of c) ≤ length text
unfolding rest_of
arguments_within words_.Text text c (r, is, same) = let within = pair_within text r is in let long = same_rest c (commands.text r.0 r.1) same in omega (arith, within, long)
arguments_within words_.Style text c (r, is, same) = let within = pair_within text r is in let long = same_rest c (commands.style r.0 r.1) same in omega (arith, within, long)
arguments_within words_.Class text c (r, is, same) = let within = pair_within text r is in let long = same_rest c (commands.class r.0 r.1) same in omega (arith, within, long)
arguments_within words_.Insert text c (parent, front, back, number, (index, between, last, other, (rest, is, same), cut), whole) =
    let within = rest_within last rest is in
    let most = back_fits between last back cut in
    let all = back_fits front back text whole in
    let long = same_rest c (commands.insert parent index rest) same in
    omega (arith, within, most, all, long)
arguments_within words_.Remove text c (node, is, same) = let long = same_rest c (commands.remove node) same in omega (arith, long)
arguments_within words_.Move text c (node, front, back, number, (parent, between, last, other, (index, is, same), cut), whole) =
    let long = same_rest c (commands.move node parent index) same in omega (arith, long)
arguments_within words_.Metric text c (face, f1, b1, number, (code, f2, b2, character, (upright, f3, b3, orientation, (value, is, same), w3), w2), w1) =
    let long = same_rest c (commands.metric face code upright value) same in omega (arith, long)
arguments_within words_.Retire text c (face, is, same) = let long = same_rest c (commands.retire face) same in omega (arith, long)
arguments_within words_.Rule text c (rest, is, same) = let within = rest_within text rest is in let long = same_rest c (commands.rule rest) same in omega (arith, within, long)
arguments_within words_.Unrule text c (index, is, same) = let long = same_rest c (commands.unrule index) same in omega (arith, long)
arguments_within words_.Undo text c (none, same) = let long = same_rest c commands.undo same in omega (arith, long)
arguments_within words_.Redo text c (none, same) = let long = same_rest c commands.redo same in omega (arith, long)
arguments_within words_.Show text c (none, same) = let long = same_rest c commands.show same in omega (arith, long)

command_within : (line : List ℕ) (c : Command) → IsCommand line c → length (rest_of c) ≤ length line
command_within line c (word, front, back, is, arguments, cut) =
    let within = arguments_within word back c arguments in
    let most = back_fits front back line cut in
    omega (arith, within, most)

-- ---- numbers that fit

arguments_fit : (word : Word) (text : List ℕ) (c : Command) → AreArguments word text c → HasFitting c
arguments_fit words_.Text text c (r, is, same) = subst HasFitting (sym same) tt
arguments_fit words_.Style text c (r, is, same) = subst HasFitting (sym same) tt
arguments_fit words_.Class text c (r, is, same) = subst HasFitting (sym same) tt
arguments_fit words_.Insert text c (parent, front, back, number, (index, between, last, other, (rest, is, same), cut), whole) = subst HasFitting (sym same) tt
arguments_fit words_.Remove text c (node, is, same) = subst HasFitting (sym same) tt
arguments_fit words_.Move text c (node, front, back, number, (parent, between, last, other, (index, is, same), cut), whole) = subst HasFitting (sym same) tt
arguments_fit words_.Metric text c (face, f1, b1, number, (code, f2, b2, character, (upright, f3, b3, orientation, (value, is, same), w3), w2), w1) = subst HasFitting (sym same) is.2
arguments_fit words_.Retire text c (face, is, same) = subst HasFitting (sym same) is.1
arguments_fit words_.Rule text c (rest, is, same) = subst HasFitting (sym same) tt
arguments_fit words_.Unrule text c (index, is, same) = subst HasFitting (sym same) tt
arguments_fit words_.Undo text c (none, same) = subst HasFitting (sym same) tt
arguments_fit words_.Redo text c (none, same) = subst HasFitting (sym same) tt
arguments_fit words_.Show text c (none, same) = subst HasFitting (sym same) tt

pub command_fits : (line rest : List ℕ) (c : Command) → command line ≡ good (c, rest) → HasFitting c
command_fits line rest c e =
    let is = command_is line rest c e in
    arguments_fit is.0 is.2 c is.4

-- ---- lines

abbrev total : List (List ℕ) → ℕ
total [] = 0
total (line ∷ others) = length line + total others

onto_total : (byte : ℕ) (lines : List (List ℕ)) → total (onto_first byte lines) ≤ suc (total lines)
onto_total byte [] = omega arith
onto_total byte (line ∷ others) = omega arith

split_by : (byte : ℕ) (bytes : List ℕ) (t : Bool) → is_lf byte ≡ t → total (slice_split is_lf bytes) ≤ length bytes → total (slice_split is_lf (byte ∷ bytes)) ≤ suc (length bytes)
split_by byte bytes true is within =
    let long : total (slice_split is_lf (byte ∷ bytes)) ≡ total ([] ∷ slice_split is_lf bytes) = ap (λ (l : List (List ℕ)). total l) (slice_split-cons_yes is_lf byte bytes is) in
    omega (arith, within, long)
split_by byte bytes false is within =
    let long : total (slice_split is_lf (byte ∷ bytes)) ≡ total (onto_first byte (slice_split is_lf bytes)) = ap (λ (l : List (List ℕ)). total l) (slice_split-cons_no is_lf byte bytes is) in
    let more = onto_total byte (slice_split is_lf bytes) in
    omega (arith, within, long, more)

split_within : (bytes : List ℕ) → total (slice_split is_lf bytes) ≤ length bytes
split_within [] = omega arith
split_within (byte ∷ bytes) = split_by byte bytes (is_lf byte) refl (split_within bytes)

cut_by : (line : List ℕ) (t : Bool) → length (cond t (take (length line - 1) line) line) ≤ length line
cut_by line true = let long = length-take (length line - 1) line in omega (arith, long)
cut_by line false = omega arith

strip_within : (line : List ℕ) → length (strip_carriage_return line) ≤ length line
strip_within line = cut_by line (slice_index line (length line - 1) == 13)

module _ (shorter : (text letters : List ℕ) → IsGap text letters → length letters ≤ length text) (fragments : (text : List ℕ) (nodes : List Node) → IsFragment text nodes → text_bytes nodes ≤ length text) where
  same_bytes : (what other : Step) → what ≡ other → bytes_in what ≡ bytes_in other
  same_bytes what other same = ap (λ (s : Step). bytes_in s) same

  means_within : (c : Command) (what : Step) → Means c what → bytes_in what ≤ length (rest_of c)
  unfolding rest_of
  means_within (commands.text node rest) what (letters, is, same) = let long = same_bytes what _ same in let within = shorter rest letters is.0 in omega (arith, long, within)
  means_within (commands.style node rest) what (own, are, same) = let long = same_bytes what _ same in omega (arith, long)
  means_within (commands.class node rest) what same = let long = same_bytes what _ same in omega (arith, long)
  means_within (commands.insert parent index rest) what (nodes, own, is, each, same) = let long = same_bytes what _ same in let within = fragments rest nodes is in omega (arith, long, within)
  means_within (commands.remove node) what same = let long = same_bytes what _ same in omega (arith, long)
  means_within (commands.move node parent index) what same = let long = same_bytes what _ same in omega (arith, long)
  means_within (commands.metric face c upright value) what same = let long = same_bytes what _ same in omega (arith, long)
  means_within (commands.retire face) what same = let long = same_bytes what _ same in omega (arith, long)
  means_within (commands.rule rest) what (all, is, same) = let long = same_bytes what _ same in omega (arith, long)
  means_within (commands.unrule index) what same = let long = same_bytes what _ same in omega (arith, long)
  means_within commands.undo what same = let long = same_bytes what _ same in omega (arith, long)
  means_within commands.redo what same = let long = same_bytes what _ same in omega (arith, long)
  means_within commands.show what same = let long = same_bytes what _ same in omega (arith, long)

  lines_within : (number : ℕ) (lines : List (List ℕ)) (said : List StepAt) → AreLines number lines said → bytes_of said ≤ total lines
  lines_within number [] said none = let long : bytes_of said ≡ 0 = ap (λ (s : List StepAt). bytes_of s) none in omega (arith, long)
  lines_within number (line ∷ others) said (None, more, says, are, same) =
      let long : bytes_of said ≡ bytes_of more = ap (λ (s : List StepAt). bytes_of s) same in
      let within = lines_within (number + 1) others more are in
      omega (arith, long, within)
  lines_within number (line ∷ others) said (Some what, more, (some, c, is, means), are, same) =
      let long : bytes_of said ≡ bytes_in what + bytes_of more = ap (λ (s : List StepAt). bytes_of s) same in
      let within = lines_within (number + 1) others more are in
      let here = means_within c what means in
      let front = command_within (strip_carriage_return line) c is in
      let cut = strip_within line in
      omega (arith, long, within, here, front, cut)

  pub bring_no_more : BringNoMore
  bring_no_more text said is =
      let within = lines_within 1 (slice_split is_lf text) said is.are_lines in
      let split = split_within text in
      omega (arith, within, split)

-- ---- what the call answers

pub none_fit : (begun : Begun) → begun ≡ empty → AllFit begun.said
none_fit begun is = subst (λ (b : Begun). AllFit b.said) (sym is) (λ place other within. absurd (omega (arith, within)))

pub told_bytes : {X : Type 0} → BringNoMore → AreSpelled → (view : X → List StepAt) (start : ℕ) (text : List ℕ) (r : Result X ScriptError) → Told start view r (script text) → IfOk r (λ x. bytes_of (view x) ≤ length text)
told_bytes no_more spelled view start text (Ok x) e = no_more text (view x) (told_script spelled view start text (Ok x) e).is
told_bytes no_more spelled view start text (Err error) e = tt
