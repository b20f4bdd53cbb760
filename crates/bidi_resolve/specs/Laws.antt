-- What holds of the rules.
use Rattle.std.specs.List.{concat, list_all}
use Rattle.std.specs.List.Sorted.{IsPermutation}
use Rattle.std.specs.Prelude.{fold, map, Bool, ⊤, ◌∷◌, ◌≡◌, ◌≢◌, ℕ, ◌+◌, ◌<◌, ◌≤◌, true, false, List, [], ◌∷◌, ⊤, length, get_or, take, drop, replicate, reverse, All}
use Rattle.wm_chars.specs.declared.classes.BidiClass.{BidiClass}
use Rattle.wm_chars.specs.declared.classes.BidiClass.TheVariants.{L}
use Rattle.bidi_explicit.specs.Sequences.{Rises, kept_places}
use Rattle.bidi_explicit.specs.Sequences.{Sequence}
use Rattle.bidi_explicit.specs.declared.paragraph.Levels.{Levels}
use Rattle.bidi_explicit.specs.declared.paragraph.Run.{Run}
use Rattle.wm_chars.specs.Classes.{is_neutral}
use Rattle.bidi_resolve.specs.Neutral.{raised}
use Rattle.bidi_resolve.specs.Passes.{each}
use Rattle.bidi_resolve.specs.Paragraph.{is_left_to_right, paragraph_levels, resolved_from}
use Rattle.bidi_resolve.specs.Places.{gathered, scattered}
use Rattle.bidi_resolve.specs.Sequence.{sequence_classes, sequence_levels, resolved, run_classes, run_levels, classes_with, levels_with}

-- elsewhere the paragraph stays as it was
pub record StayOutside : Type 0 where
  pub classes : (chars : List ℕ) (levels : Levels) (run : Run) (k : ℕ) (d : BidiClass) → All (λ p. k ≢ p) run.places.items
      → get_or (classes_with chars levels run) k d ≡ get_or levels.class.items k d
  pub levels : (chars : List ℕ) (levels : Levels) (run : Run) (k d : ℕ) → All (λ p. k ≢ p) run.places.items
      → get_or (levels_with chars levels run) k d ≡ get_or levels.level.items k d

-- at the places of the sequence, which rise, stands what the rules give
pub record StandInside : Type 0 where
  pub classes : (chars : List ℕ) (levels : Levels) (run : Run) → Rises run.places.items → All (λ p. p < length levels.class.items) run.places.items
      → gathered L (classes_with chars levels run) run.places.items ≡ run_classes chars levels run
  pub levels : (chars : List ℕ) (levels : Levels) (run : Run) → Rises run.places.items → All (λ p. p < length levels.level.items) run.places.items
      → gathered 0 (levels_with chars levels run) run.places.items ≡ run_levels chars levels run

-- what a rule gives at a place hangs on what stands before it, nearest first, on its own class and on what stands
-- behind it
abbrev pub RulesLookAround : Type 0
RulesLookAround = (rule : List BidiClass → BidiClass → List BidiClass → BidiClass) (classes : List BidiClass) (k : ℕ) (d : BidiClass) → k < length classes
    → get_or (each rule [] classes) k d ≡ rule (reverse (take k classes)) (get_or classes k d) (drop (k + 1) classes)

-- no neutral is left
abbrev pub NoNeutralIsLeft : Type 0
NoNeutralIsLeft = (level : ℕ) (sos eos : BidiClass) (chars : List ℕ) (originals classes : List BidiClass)
    → All (λ c. is_neutral c ≡ false) (resolved level sos eos chars originals classes)

-- a level is raised by at most two
abbrev pub RaiseByTwo : Type 0
RaiseByTwo = (level : ℕ) (c : BidiClass) → (level ≤ raised level c) × (raised level c ≤ level + 2)

-- ---- one sequence after the other

-- the levels and classes of a paragraph on their way
pub record Lists : Type 0 where
  pub levels : List ℕ
  pub classes : List BidiClass

-- with one more sequence resolved
abbrev pub resolved_next : (chars : List ℕ) → (originals : List BidiClass) → Lists → Sequence → Lists
resolved_next chars originals lists sequence = record {
  levels = scattered sequence.places (sequence_levels chars originals lists.levels lists.classes sequence) lists.levels;
  classes = scattered sequence.places (sequence_classes chars originals lists.levels lists.classes sequence) lists.classes;
}

-- the sequences have no place in common with these places, and none with each other
abbrev pub AreApartFrom : (places : List ℕ) → List Sequence → Type 0
AreApartFrom places [] = ⊤
AreApartFrom places (sequence ∷ sequences) = All (λ q. All (λ p. q ≢ p) places) sequence.places × AreApartFrom places sequences

abbrev pub AreApart : List Sequence → Type 0
AreApart [] = ⊤
AreApart (sequence ∷ sequences) = AreApartFrom sequence.places sequences × AreApart sequences

-- sequences that are apart may be resolved one after the other in the same lists: each gives what it gives by itself
abbrev pub MayComeInTurn : Type 0
MayComeInTurn = (chars : List ℕ) (originals : List BidiClass) (levels : List ℕ) (classes : List BidiClass) (sequences : List Sequence) → AreApart sequences
    → (fold (resolved_next chars originals) (record { levels = levels; classes = classes }) sequences).levels ≡ resolved_from chars originals levels classes sequences levels

-- sequences that together have each place that is kept once are apart
abbrev pub AreApartWhereTheyCover : Type 0
AreApartWhereTheyCover = (marks : List Bool) (sequences : List Sequence) → IsPermutation (kept_places marks) (concat (map (λ s. s.places) sequences)) → AreApart sequences

-- ---- text that runs from left to right alone

-- a paragraph of base level 0 in which no class asks for another level has level 0 everywhere, whatever its characters
abbrev pub LeftToRightHasLevelZero : Type 0
LeftToRightHasLevelZero = (chars : List ℕ) (classes : List BidiClass) → list_all is_left_to_right classes ≡ true → paragraph_levels chars classes 0 ≡ replicate (length classes) 0
