-- The explicit levels (UAX 9, 3.3.2): the rules X1 to X8 on the directional status stack, and X9.
use Rattle.std.specs.Prelude.{ℕ, ◌+◌, ◌-◌, ◌%◌, Bool, true, false, ◌&&◌, cond, eqb, leb, List, [], ◌∷◌, map, Option, Some, None}
use Rattle.std.specs.Option.{unwrap_or}
use Rattle.wm_chars.specs.Classes.{is_removed}
use Rattle.wm_chars.specs.declared.classes.BidiClass.{BidiClass}
use Rattle.wm_chars.specs.declared.classes.BidiClass.TheVariants.{L, R, B, LRE, LRO, RLE, RLO, PDF, LRI, RLI, FSI, PDI}
use Rattle.bidi_explicit.specs.declared.machine.Entry.{Entry}
use Rattle.bidi_explicit.specs.Base.{turns_right}

-- the stack and the three counts; the last entry stands apart, and those below it follow, the nearest first
pub record State : Type 0 where
  pub top : Entry
  pub below : List Entry
  pub overflow_isolates : ℕ
  pub overflow_embeddings : ℕ
  pub valid_isolates : ℕ

-- X1: one entry of the base level, no override, no isolate, and counts of 0
abbrev pub begin : ℕ → State
begin base = record {
  top = record { level = base; instead = None; isolate = false };
  below = [];
  overflow_isolates = 0;
  overflow_embeddings = 0;
  valid_isolates = 0;
}

-- the least odd level above this one
abbrev pub next_odd : ℕ → ℕ
next_odd level = level + 1 + level % 2

-- the least even level above this one
abbrev pub next_even : ℕ → ℕ
next_even level = level + 2 - level % 2

-- whether an entry of this level can be pushed: no level is above 125, and nothing is while an overflow lasts
abbrev pub has_room : State → ℕ → Bool
has_room s level = leb level 125 && (eqb s.overflow_isolates 0 && eqb s.overflow_embeddings 0)

abbrev pub pushed : Entry → State → State
pushed entry s = record s { top = entry; below = s.top ∷ s.below }

-- X2 to X5: an embedding or an override of this level; without room it overflows, but not in an isolate that does
abbrev pub embedded : ℕ → Option BidiClass → State → State
embedded level instead s =
    cond (has_room s level)
    (pushed (record { level = level; instead = instead; isolate = false }) s)
    (cond (eqb s.overflow_isolates 0) (record s { overflow_embeddings = s.overflow_embeddings + 1 }) s)

-- X5a, X5b: an isolate of this level; without room it overflows
abbrev pub isolated : ℕ → State → State
isolated level s =
    cond (has_room s level)
    (pushed (record { level = level; instead = None; isolate = true }) (record s { valid_isolates = s.valid_isolates + 1 }))
    (record s { overflow_isolates = s.overflow_isolates + 1 })

-- with these entries, or unchanged where there is none: the stack always has one
abbrev pub standing_on : List Entry → State → State
standing_on [] s = s
standing_on (entry ∷ below) s = record s { top = entry; below = below }

-- what is below the last isolate, where `top` and `below` are the stack; the first entry is never taken away
abbrev pub below_isolate : Entry → List Entry → List Entry
below_isolate top [] = top ∷ []
below_isolate top (entry ∷ below) = cond top.isolate (entry ∷ below) (below_isolate entry below)

-- X6a: a PDI ends an overflow isolate; else it ends the last valid isolate with all in it, if there is one
abbrev pub closed : State → State
closed s =
    cond (eqb s.overflow_isolates 0)
    (cond (eqb s.valid_isolates 0)
    s
    (standing_on (below_isolate s.top s.below) (record s { overflow_embeddings = 0; valid_isolates = s.valid_isolates - 1 })))
    (record s { overflow_isolates = s.overflow_isolates - 1 })

-- X7: a PDF ends an overflow embedding, else an embedding or override, but nothing outside the isolate that it
-- stands in
abbrev pub left : State → State
left s =
    cond (eqb s.overflow_isolates 0)
    (cond (eqb s.overflow_embeddings 0)
    (cond s.top.isolate s (standing_on s.below s))
    (record s { overflow_embeddings = s.overflow_embeddings - 1 }))
    s

-- X5c: an FSI is treated as an RLI or as an LRI, by the text that follows it
abbrev pub plain : BidiClass → List BidiClass → BidiClass
plain FSI after = cond (turns_right after) RLI LRI
plain c after = c

-- what a character does to the stack
abbrev pub entered : BidiClass → State → State
entered RLE s = embedded (next_odd s.top.level) None s
entered LRE s = embedded (next_even s.top.level) None s
entered RLO s = embedded (next_odd s.top.level) (Some R) s
entered LRO s = embedded (next_even s.top.level) (Some L) s
entered RLI s = isolated (next_odd s.top.level) s
entered LRI s = isolated (next_even s.top.level) s
entered PDI s = closed s
entered PDF s = left s
entered _ s = s

-- X5a to X6a: a PDI takes the last entry as it stands behind it, each other character as it stands before it
abbrev pub taken : BidiClass → State → State → Entry
taken PDI before behind = behind.top
taken _ before behind = before.top

-- X1 to X8: the entry that each character takes, where the first meets this state
abbrev pub entries : State → List BidiClass → List Entry
entries s [] = []
entries s (c ∷ after) = taken c s (entered (plain c after) s) ∷ entries (entered (plain c after) s) after

-- the level of a character by its entry: a B has the base level, and what X9 removes the level of the character
-- before it
abbrev pub level_at : ℕ → ℕ → BidiClass → Entry → ℕ
level_at base last B entry = base
level_at base last c entry = cond (is_removed c) last entry.level

-- X1 to X9: the levels, where `last` is that of the character before the first
abbrev pub levels_by : ℕ → ℕ → List BidiClass → List Entry → List ℕ
levels_by base last [] entries = []
levels_by base last (c ∷ classes) [] = []
levels_by base last (c ∷ classes) (entry ∷ entries) =
    level_at base last c entry ∷ levels_by base (level_at base last c entry) classes entries

-- the class of a character by its entry: an override stands in place of its own, but not of a B or of what X9
-- removes
abbrev pub class_at : BidiClass → Entry → BidiClass
class_at B entry = B
class_at c entry = cond (is_removed c) c (unwrap_or entry.instead c)

abbrev pub classes_by : List BidiClass → List Entry → List BidiClass
classes_by [] entries = []
classes_by (c ∷ classes) [] = []
classes_by (c ∷ classes) (entry ∷ entries) = class_at c entry ∷ classes_by classes entries

-- X1 to X9 on a paragraph with this base level: the levels
unfoldable pub explicit_levels : ℕ → List BidiClass → List ℕ
explicit_levels base classes = levels_by base base classes (entries (begin base) classes)

-- the classes
unfoldable pub explicit_classes : ℕ → List BidiClass → List BidiClass
explicit_classes base classes = classes_by classes (entries (begin base) classes)

-- and the marks of what X9 removes
abbrev pub removed_marks : List BidiClass → List Bool
removed_marks classes = map is_removed classes
