-- Isolating run sequences (UAX 9, BD7, BD13, X10).
use Rattle.std.specs.Prelude.{◌≡◌, ℕ, ◌+◌, ◌%◌, ◌<◌, ⊤, max, Bool, true, false, cond, eqb, ltb, List, [], ◌∷◌, ◌++◌, length, map, drop, slice_index_or, Option, Some, None}
use Rattle.std.specs.List.{All}
use Rattle.std.specs.Option.{option_map}
use Rattle.wm_chars.specs.declared.classes.BidiClass.{BidiClass}
use Rattle.wm_chars.specs.declared.classes.BidiClass.TheVariants.{L, R}
use Rattle.bidi_explicit.specs.declared.isolates.Kind.{Kind}
use Rattle.bidi_explicit.specs.declared.isolates.Kind.TheVariants.{Opens}
use Rattle.bidi_explicit.specs.Isolates.{kind_of, closing}

-- the places of what isn't removed, where the first mark is that of the place `at`
abbrev pub kept_from : ℕ → List Bool → List ℕ
kept_from at [] = []
kept_from at (removed ∷ marks) = cond removed (kept_from (at + 1) marks) (at ∷ kept_from (at + 1) marks)

-- a place before the level runs of what follows it: it begins the first of them longer, or a run of its own
abbrev pub run_on : (ℕ → ℕ) → ℕ → List (List ℕ) → List (List ℕ)
run_on level p [] = (p ∷ []) ∷ []
run_on level p ([] ∷ runs) = (p ∷ []) ∷ runs
run_on level p ((q ∷ run) ∷ runs) = cond (eqb (level p) (level q)) ((p ∷ q ∷ run) ∷ runs) ((p ∷ []) ∷ (q ∷ run) ∷ runs)

-- BD7: the level runs of these places, which are the longest runs of one level
abbrev pub level_runs : (ℕ → ℕ) → List ℕ → List (List ℕ)
level_runs level [] = []
level_runs level (p ∷ places) = run_on level p (level_runs level places)

-- how far behind an isolate initiator its matching PDI stands, if this is the kind of a character and the text
-- behind it
abbrev pub distance : Kind → List BidiClass → Option ℕ
distance Opens after = closing after 0
distance _ after = None

-- BD9: the place of the matching PDI, if an isolate initiator that has one stands at this place
abbrev pub match_at : List BidiClass → ℕ → Option ℕ
match_at classes p = option_map (λ n. p + 1 + n) (distance (kind_of (slice_index_or classes p L)) (drop (p + 1) classes))

-- BD9: whether an isolate initiator without a matching PDI stands at this place
abbrev pub is_open_at : Kind → Option ℕ → Bool
is_open_at Opens None = true
is_open_at _ _ = false

abbrev pub is_unmatched : List BidiClass → ℕ → Bool
is_unmatched classes p = is_open_at (kind_of (slice_index_or classes p L)) (match_at classes p)

-- the last place, where this one and these are the places
abbrev pub last_of : ℕ → List ℕ → ℕ
last_of p [] = p
last_of p (q ∷ places) = last_of q places

-- the sequence that begins with this place, or nothing
abbrev pub beginning_with : ℕ → List (List ℕ) → List ℕ
beginning_with q [] = []
beginning_with q ([] ∷ sequences) = beginning_with q sequences
beginning_with q ((p ∷ places) ∷ sequences) = cond (eqb p q) (p ∷ places) (beginning_with q sequences)

-- the sequences without that one
abbrev pub others_than : ℕ → List (List ℕ) → List (List ℕ)
others_than q [] = []
others_than q ([] ∷ sequences) = [] ∷ others_than q sequences
others_than q ((p ∷ places) ∷ sequences) = cond (eqb p q) sequences ((p ∷ places) ∷ others_than q sequences)

-- a level run before the sequences of what follows it: where a PDI matches its last character, the sequence that
-- begins with that PDI goes on with it
abbrev pub joined : Option ℕ → List ℕ → List (List ℕ) → List (List ℕ)
joined None run sequences = run ∷ sequences
joined (Some q) run sequences = (run ++ beginning_with q sequences) ∷ others_than q sequences

abbrev pub match_of_last : List BidiClass → List ℕ → Option ℕ
match_of_last classes [] = None
match_of_last classes (p ∷ places) = match_at classes (last_of p places)

-- BD13: the isolating run sequences of these level runs, in the order of their first characters
abbrev pub sequences : List BidiClass → List (List ℕ) → List (List ℕ)
sequences classes [] = []
sequences classes (run ∷ runs) = joined (match_of_last classes run) run (sequences classes runs)

-- the level of the last of these places that stand before this one, or the base level where none does
abbrev pub level_before : (ℕ → ℕ) → ℕ → List ℕ → ℕ → ℕ
level_before level base [] p = base
level_before level base (q ∷ places) p = cond (ltb q p) (level_before level (level q) places p) base

-- the level of the first of these places that stand behind this one, or the base level where none does
abbrev pub level_behind : (ℕ → ℕ) → ℕ → List ℕ → ℕ → ℕ
level_behind level base [] p = base
level_behind level base (q ∷ places) p = cond (ltb p q) (level q) (level_behind level base places p)

-- X10: the level behind a sequence that ends at this place, which for an isolate initiator without a matching PDI
-- is the base level
abbrev pub level_at_end : ℕ → (ℕ → ℕ) → List BidiClass → List ℕ → ℕ → ℕ
level_at_end base level classes kept p = cond (is_unmatched classes p) base (level_behind level base kept p)

-- the class for the direction of a level: R where it is odd, L where it is even
abbrev pub direction : ℕ → BidiClass
direction level = cond (eqb (level % 2) 0) L R

-- an isolating run sequence: its places, and what stands before its first and behind its last character
pub record Sequence : Type 0 where
  pub places : List ℕ
  pub sos : BidiClass
  pub eos : BidiClass

-- X10: sos and eos of a sequence, by the higher of its own level and that of the character before it or behind it;
-- at the ends of the paragraph the base level takes the place of the latter
abbrev pub with_sides : ℕ → (ℕ → ℕ) → List BidiClass → List ℕ → List ℕ → Sequence
with_sides base level classes kept [] = record { places = []; sos = L; eos = L }
with_sides base level classes kept (p ∷ places) = record {
  places = p ∷ places;
  sos = direction (max (level p) (level_before level base kept p));
  eos = direction (max (level p) (level_at_end base level classes kept (last_of p places)));
}

abbrev pub level_in : List ℕ → ℕ → ℕ
level_in levels p = slice_index_or levels p 0

-- X10 on a paragraph with this base level, these levels, these classes as they were handed in, and these marks
unfoldable pub isolating_runs : ℕ → List ℕ → List BidiClass → List Bool → List Sequence
isolating_runs base levels classes marks =
    map (with_sides base (level_in levels) classes (kept_from 0 marks)) (sequences classes (level_runs (level_in levels) (kept_from 0 marks)))

-- ---- what the runs of a paragraph are for the rules that follow

-- the places of what isn't removed
abbrev pub kept_places : List Bool → List ℕ
kept_places marks = kept_from 0 marks

-- the places rise
abbrev pub Rises : List ℕ → Type 0
Rises [] = ⊤
Rises (p ∷ places) = All (λ q. p < q) places × Rises places

-- the places of one run: they rise, and are places of characters that aren't removed
pub record IsRunOf (marks : List Bool) (places : List ℕ) : Type 0 where
  pub rise : Rises places
  pub within : All (λ p. p < length marks) places
  pub kept : All (λ p. slice_index_or marks p true ≡ false) places

-- all of them have the level of the first
abbrev pub HasOneLevel : List ℕ → List ℕ → Type 0
HasOneLevel levels [] = ⊤
HasOneLevel levels (p ∷ places) = All (λ q. slice_index_or levels q 0 ≡ slice_index_or levels p 0) places
