-- Which texts are probes, and what they ask (docs/PROFILE/points.md).
--
--   probe      = line (LF line)*
--   line       = "" | "#" bytes | "point" coordinate coordinate | "caret" argument argument
--   coordinate = " " "-"? 1 to 10 decimal digits
--   argument   = " " 1 to 7 decimal digits
--
-- One CR at the end of a line is cut; no other line end stands within a line.
use Rattle.std.specs.Prelude.{◌≡◌, ℕ, ◌≤◌, true, false, List, [], ◌∷◌, length, codes, Option, Some, None, ℤ, pos}
use Rattle.std.specs.List.{cons_option, slice_split}
use Rattle.std.specs.Str.Lines.{strip_carriage_return}
use Rattle.reading.specs.Decimals.{IsDecimal}
use Rattle.reading.specs.Grammars.{After, Either, Grammar, Mapped, OneWord, Seq}
use Rattle.hit_caret.specs.declared.probe_line.Word.{Word}
use Rattle.hit_caret.specs.declared.probe_line.Word.TheVariants as words_
use Rattle.hit_caret.specs.declared.probes.Probe.{Probe}
use Rattle.hit_caret.specs.declared.probes.Probe.TheVariants as probes
use Rattle.hit_caret.specs.ProbeLine.{negated, words}
use Rattle.hit_caret.specs.Probing.{is_blank, is_lf}

abbrev pub IsSignedNumber : Grammar ℤ
IsSignedNumber = Either (After (codes "-") (Mapped negated (IsDecimal 10))) (Mapped pos (IsDecimal 10))

abbrev pub IsCoordinate : Grammar ℤ
IsCoordinate = After (codes " ") IsSignedNumber

abbrev pub IsArgument : Grammar ℕ
IsArgument = After (codes " ") (IsDecimal 7)

abbrev pub AreArguments : Word → Grammar Probe
AreArguments words_.Point = Seq IsCoordinate (λ x. Mapped (λ y. probes.At x y) IsCoordinate)
AreArguments words_.Caret = Seq IsArgument (λ node. Mapped (λ place. probes.Caret node place) IsArgument)

-- a line that asks something
abbrev pub IsProbeLine : Grammar Probe
IsProbeLine = Seq (OneWord words) AreArguments

-- what a line asks, if anything
abbrev pub Asks : List ℕ → Option Probe → Type 0
Asks line None = is_blank line ≡ true
Asks line (Some p) = (is_blank line ≡ false) × IsProbeLine line p

abbrev pub AreLines : List (List ℕ) → List Probe → Type 0
AreLines [] asked = asked ≡ []
AreLines (line ∷ others) asked = (first : Option Probe) × (more : List Probe) × Asks (strip_carriage_return line) first × AreLines others more × (asked ≡ cons_option first more)

-- a text is cut at each LF
pub record IsProbe (text : List ℕ) (asked : List Probe) : Type 0 where
  pub are_lines : AreLines (slice_split is_lf text) asked
  pub few : length asked ≤ 10000
