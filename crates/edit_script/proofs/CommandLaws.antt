-- The words of a line: what is spelled so is read, and what is read is spelled so.
use Rattle.std.proofs.Common.{◌≡◌, inl, inr, ℕ, true, false, List, [], ◌∷◌, ◌++◌, length, codes, Ok, refl, sym, ap, subst, ◌∙◌, arith}
use Rattle.std.specs.Prelude.{⊤}
use Rattle.std.proofs.lemmas.Bool.{ne_eqb}
use Rattle.std.proofs.lemmas.List.{append-nil}
use Rattle.reading.specs.Readers.{◌>>=◌, Read, Reader, follow, give, mapped, one_word}
use Rattle.reading.specs.Decimals.{NoDigit}
use Rattle.reading.specs.Grammars.{After, Either, Given, Grammar}
use Rattle.reading.specs.Spelling.{Spells}
use Rattle.reading.specs.Words.{all_differ}
use Rattle.reading.proofs.SpellLaws.{after_spells, bind_ok, choice_spells, follow_spells, give_spells, mapped_spells, same_answer, spells_as, spells_before}
use Rattle.reading.proofs.DecimalLaws.{decimal_spells}
use Rattle.reading.proofs.WordLaws.{one_word_spells}
use Rattle.edit_script.specs.declared.command.Word.{Word}
use Rattle.edit_script.specs.declared.command.Word.TheVariants as words_
use Rattle.edit_script.specs.Command.{Command, all, argument, argument_within, arguments, command, insert_arguments, is_end, metric_arguments, move_arguments, node_and_rest, nothing, rest, words}
use Rattle.edit_script.specs.Command as commands
use Rattle.edit_script.specs.Grammar.{AreArguments, IsArgument, IsArgumentWithin, IsCommand, IsMetric, IsNodeAndRest, IsRest}
use Rattle.edit_script.proofs.CharacterLaws.{character_spells, from_within, is_within, orientation_no_digit, orientation_spells, passing, passing_spells, to_within}

abbrev pub good : {A : Type 0} → A × List ℕ → Read A
good x = Ok x

-- nothing stands behind
abbrev pub AtEnd : List ℕ → Type 0
AtEnd behind = behind ≡ []

-- ---- arguments

argument_spells : Spells argument IsArgument NoDigit
unfolding argument
argument_spells = after_spells (codes " ") (decimal_spells 7)

end_no_digit : (behind : List ℕ) → AtEnd behind → NoDigit behind
end_no_digit behind none = subst NoDigit (sym none) tt

argument_last : Spells argument IsArgument AtEnd
argument_last = spells_before argument_spells end_no_digit

argument_no_digit : (text behind : List ℕ) (n : ℕ) → IsArgument text n → NoDigit (text ++ behind)
argument_no_digit text behind n a = subst (λ (t : List ℕ). NoDigit (t ++ behind)) (sym a.2) refl

-- an argument and more behind it
more_no_digit : (text front more behind : List ℕ) (n : ℕ) → IsArgument front n → text ≡ front ++ more → NoDigit (text ++ behind)
more_no_digit text front more behind n a whole =
    subst (λ (t : List ℕ). NoDigit (t ++ behind)) (sym whole) (subst (λ (f : List ℕ). NoDigit ((f ++ more) ++ behind)) (sym a.2) refl)

-- a space with which a text begins is no digit
spaced_no_digit : (text front more behind inside : List ℕ) → text ≡ front ++ more → front ≡ 32 ∷ inside → NoDigit (text ++ behind)
spaced_no_digit text front more behind inside whole is =
    subst (λ (t : List ℕ). NoDigit (t ++ behind)) (sym whole) (subst (λ (f : List ℕ). NoDigit ((f ++ more) ++ behind)) (sym is) refl)

within_spells : (least most : ℕ) → Spells (argument_within least most) (IsArgumentWithin least most) NoDigit
unfolding argument_within passing is_within
within_spells least most =
    spells_as (passing_spells (is_within least most) argument_spells) (λ text n is. (is.0, (to_within least most n is.1).0, (to_within least most n is.1).1))
    (λ text n is. (is.0, from_within least most n is.1 is.2))

within_last : (least most : ℕ) → Spells (argument_within least most) (IsArgumentWithin least most) AtEnd
within_last least most = spells_before (within_spells least most) end_no_digit

-- ---- what stands behind them

IsAll : Grammar (List ℕ)
IsAll text x = x ≡ text

all_spells : Spells all IsAll AtEnd
unfolding IsAll
all_spells = record {
  takes = λ bytes x left e.
      let same = same_answer {E = List ℕ} bytes x [] left e in
      (bytes, sym same.0, sym (ap (λ (l : List ℕ). bytes ++ l) (sym same.1) ∙ append-nil bytes));
  again = λ text x left is none. rw (none, is) (ap (λ (t : List ℕ). good (t, [])) (append-nil text));
}

to_rest : (text x : List ℕ) → Either (Given []) (After (codes " ") IsAll) text x → IsRest text x
unfolding IsAll
to_rest text x (inl none) = inr none
to_rest text x (inr behind) = inl (behind.2 ∙ ap (λ (t : List ℕ). 32 ∷ t) (sym behind.1))

from_rest : (text x : List ℕ) → IsRest text x → Either (Given []) (After (codes " ") IsAll) text x
unfolding IsAll
from_rest text x (inl whole) = inr (x, refl, whole)
from_rest text x (inr none) = inl none

none_is_end : (text behind : List ℕ) → text ≡ [] → AtEnd behind → is_end (text ++ behind) ≡ true
none_is_end text behind none last = rw (none, last) refl

space_no_end : (inside behind : List ℕ) → is_end ((32 ∷ inside) ++ behind) ≡ false
space_no_end inside behind = ne_eqb (length ((32 ∷ inside) ++ behind)) 0 (λ z. omega arith)

rest_spells : Spells rest IsRest AtEnd
unfolding rest
rest_spells =
    spells_as
    (choice_spells is_end (spells_before (give_spells []) (λ behind last. tt)) (after_spells (codes " ") all_spells)
    (λ text x behind given last. none_is_end text behind given.0 last)
    (λ text x behind spaced last. subst (λ (t : List ℕ). is_end (t ++ behind) ≡ false) (sym spaced.2) (space_no_end spaced.0 behind)))
    to_rest from_rest

rest_no_digit : (text x behind : List ℕ) → IsRest text x → AtEnd behind → NoDigit (text ++ behind)
rest_no_digit text x behind (inl whole) last = subst (λ (t : List ℕ). NoDigit (t ++ behind)) (sym whole) refl
rest_no_digit text x behind (inr none) last = subst (λ (t : List ℕ). NoDigit (t ++ behind)) (sym none.0) (end_no_digit behind last)

node_and_rest_spells : Spells node_and_rest IsNodeAndRest AtEnd
unfolding node_and_rest
node_and_rest_spells =
    follow_spells argument_spells (λ node. mapped_spells (λ behind. (node, behind)) rest_spells)
    (λ node y back behind r last. rest_no_digit back r.0 behind r.1 last)

metric_spells : Spells metric_arguments IsMetric AtEnd
unfolding metric_arguments
metric_spells =
    follow_spells (within_spells 0 7)
    (λ face. follow_spells character_spells
    (λ c. follow_spells orientation_spells (λ upright. mapped_spells (λ value. commands.metric face c upright value) (within_last 0 10000)) (λ upright y back behind r last. tt))
    (λ c y back behind r last. orientation_no_digit back r.1 r.2 behind r.0 r.3 r.5))
    (λ face y back behind r last. spaced_no_digit back r.1 r.2 behind _ r.5 r.3.2)

-- ---- what stands behind each word

arguments_spell : (word : Word) → Spells (arguments word) (AreArguments word) AtEnd
unfolding arguments insert_arguments move_arguments
arguments_spell words_.Text = mapped_spells (λ r. commands.text r.0 r.1) node_and_rest_spells
arguments_spell words_.Style = mapped_spells (λ r. commands.style r.0 r.1) node_and_rest_spells
arguments_spell words_.Class = mapped_spells (λ r. commands.class r.0 r.1) node_and_rest_spells
arguments_spell words_.Insert =
    follow_spells argument_spells
    (λ parent. follow_spells argument_spells (λ index. mapped_spells (λ behind. commands.insert parent index behind) rest_spells)
    (λ index y back behind r last. rest_no_digit back r.0 behind r.1 last))
    (λ parent y back behind r last. more_no_digit back r.1 r.2 behind r.0 r.3 r.5)
arguments_spell words_.Remove = mapped_spells (λ node. commands.remove node) argument_last
arguments_spell words_.Move =
    follow_spells argument_spells
    (λ node. follow_spells argument_spells (λ parent. mapped_spells (λ index. commands.move node parent index) argument_last)
    (λ parent y back behind r last. argument_no_digit back behind r.0 r.1))
    (λ node y back behind r last. more_no_digit back r.1 r.2 behind r.0 r.3 r.5)
arguments_spell words_.Metric = metric_spells
arguments_spell words_.Retire = mapped_spells (λ face. commands.retire face) (within_last 1 7)
arguments_spell words_.Rule = mapped_spells (λ behind. commands.rule behind) rest_spells
arguments_spell words_.Unrule = mapped_spells (λ index. commands.unrule index) argument_last
arguments_spell words_.Undo = spells_before (give_spells commands.undo) (λ behind last. tt)
arguments_spell words_.Redo = spells_before (give_spells commands.redo) (λ behind last. tt)
arguments_spell words_.Show = spells_before (give_spells commands.show) (λ behind last. tt)

-- ---- to the end of the line

pub nothing_takes : (bytes rest : List ℕ) (u : ⊤) → nothing bytes ≡ good (u, rest) → (bytes ≡ []) × (rest ≡ [])
nothing_takes [] rest u e = (refl, sym (same_answer {E = List ℕ} tt u [] rest e).1)
nothing_takes (byte ∷ bytes) rest u e = absurd cc

to_end : {A : Type 0} → Reader A → Reader A
to_end f = follow f (λ c. mapped (λ u. c) nothing)

-- what was read to the end
record IsToEnd {A : Type 0} (f : Reader A) (bytes rest : List ℕ) (x : A) : Type 0 where
  left : List ℕ
  read : f bytes ≡ good (x, left)
  ends : left ≡ []
  rests : rest ≡ []

end_takes : {A : Type 0} (f : Reader A) (bytes rest : List ℕ) (x : A) → to_end f bytes ≡ good (x, rest) → IsToEnd f bytes rest x
unfolding to_end
end_takes {A = A} f bytes rest x e =
    let a = bind_ok (f bytes) (λ (p : A × List ℕ). mapped (λ u. p.0) nothing p.1) (x, rest) e in
    let b = bind_ok (nothing a.0.1) (λ (p : ⊤ × List ℕ). give a.0.0 p.1) (x, rest) a.2 in
    let n = nothing_takes a.0.1 b.0.1 b.0.0 b.1 in
    let same = same_answer {E = List ℕ} a.0.0 x b.0.1 rest b.2 in
    record { left = a.0.1; read = a.1 ∙ ap (λ (z : A). good (z, a.0.1)) same.0; ends = n.0; rests = sym same.1 ∙ n.1 }

to_end_spells : {A : Type 0} {f : Reader A} {R : Grammar A} → Spells f R AtEnd → Spells (to_end f) R AtEnd
unfolding to_end
to_end_spells {A = A} {f = f} {R = R} p = record {
  takes = λ bytes x rest e.
      let t = end_takes f bytes rest x e in
      let u = p.takes bytes x t.left t.read in
      (u.0, u.1, u.2 ∙ ap (λ (l : List ℕ). u.0 ++ l) (t.ends ∙ sym t.rests));
  again = λ text x rest r last.
      ap (λ (s : Read A). s >>= λ (q : A × List ℕ). mapped (λ u. q.0) nothing q.1) (p.again text x rest r last)
      ∙ subst (λ (l : List ℕ). mapped (λ u. x) nothing l ≡ good (x, l)) (sym last) refl;
}

-- ---- lines

words_differ : all_differ words ≡ true
unfolding words
words_differ = refl

command_spells : Spells command IsCommand AtEnd
unfolding command to_end
command_spells = follow_spells (one_word_spells words words_differ) (λ word. to_end_spells (arguments_spell word)) (λ word y back behind r last. tt)

-- the whole line is read
pub command_ends : (line rest : List ℕ) (c : Command) → command line ≡ good (c, rest) → rest ≡ []
unfolding command to_end
command_ends line rest c e =
    let a = bind_ok (one_word words line) (λ (w : Word × List ℕ). follow (arguments w.0) (λ d. mapped (λ u. d) nothing) w.1) (c, rest) e in
    (end_takes (arguments a.0.0) a.0.1 rest c a.2).rests

pub command_is : (line rest : List ℕ) (c : Command) → command line ≡ good (c, rest) → IsCommand line c
command_is line rest c e =
    let t = command_spells.takes line c rest e in
    let same : line ≡ t.0 = t.2 ∙ ap (λ (l : List ℕ). t.0 ++ l) (command_ends line rest c e) ∙ append-nil t.0 in
    subst (λ (l : List ℕ). IsCommand l c) (sym same) t.1

pub command_again : (line : List ℕ) (c : Command) → IsCommand line c → command line ≡ good (c, [])
command_again line c is = ap command (sym (append-nil line)) ∙ command_spells.again line c [] is refl
