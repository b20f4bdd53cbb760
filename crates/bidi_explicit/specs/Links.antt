-- How the code of X10 holds the sequences of the places from one on: each place knows the one behind it in its
-- sequence, and whether it begins one.
use Rattle.std.specs.Prelude.{ℕ, zero, suc, max, ◌+◌, ◌<◌, ◌≤◌, ◌≡◌, Bool, true, false, ◌||◌, cond, eqb, List, [], ◌∷◌, drop, length, slice_index_or, slice_set, Option, Some, None}
use Rattle.wm_chars.specs.declared.classes.BidiClass.{BidiClass}
use Rattle.bidi_explicit.specs.declared.isolates.Kind.{Kind}
use Rattle.bidi_explicit.specs.declared.isolates.Kind.TheVariants.{Opens, Closes}
use Rattle.bidi_explicit.specs.declared.links.Link.{Link}
use Rattle.bidi_explicit.specs.declared.paragraph.Levels.{Levels}
use Rattle.bidi_explicit.specs.declared.paragraph.Run.{Run}
use Rattle.bidi_explicit.specs.Isolates.{kind_of}
use Rattle.bidi_explicit.specs.Sequences.{Sequence, direction, last_of, is_open_at, match_at, joined, kept_from, level_at_end, level_in, level_runs, sequences}

-- ---- matching

abbrev pub first_of : {X : Type 0} → List X → Option X
first_of [] = None
first_of (x ∷ xs) = Some x

abbrev pub rest_of : {X : Type 0} → List X → List X
rest_of [] = []
rest_of (x ∷ xs) = xs

-- the places of the PDIs that close what was open before, the nearest first, with one more character in front
abbrev pub closers_at : Kind → ℕ → List ℕ → List ℕ
closers_at Opens at closers = rest_of closers
closers_at Closes at closers = at ∷ closers
closers_at _ at closers = closers

-- the same, where this is the text from that place on
abbrev pub closers : ℕ → List BidiClass → List ℕ
closers at [] = []
closers at (c ∷ after) = closers_at (kind_of c) at (closers (at + 1) after)

-- the matching PDI of a character of this kind, where these PDIs close what is open before it
abbrev pub matched_by : Kind → List ℕ → Option ℕ
matched_by Opens closers = first_of closers
matched_by _ closers = None

-- ---- sequences, place by place

-- the place behind this one in its sequence, if one begins there: the next kept one, if it has the same level; else
-- the matching PDI
abbrev pub followed : (ℕ → ℕ) → ℕ → Option ℕ → Option ℕ → Option ℕ
followed level p None matched = matched
followed level p (Some q) matched = cond (eqb (level p) (level q)) (Some q) matched

-- the sequences of kept places, from the last one on
abbrev pub chains : (ℕ → ℕ) → List BidiClass → List ℕ → List (List ℕ)
chains level classes [] = []
chains level classes (p ∷ places) = joined (followed level p (first_of places) (match_at classes p)) (p ∷ []) (chains level classes places)

-- the level behind a sequence that ends at a character of this kind, with its matching PDI and the next kept place
abbrev pub behind_of : ℕ → (ℕ → ℕ) → Kind → Option ℕ → Option ℕ → ℕ
behind_of base level kind matched None = base
behind_of base level kind matched (Some next) = cond (is_open_at kind matched) base (level next)

-- ---- what the code holds

abbrev pub no_link : Link
no_link = record { next = None; begins = false; behind = 0 }

abbrev pub next_at : List Link → ℕ → Option ℕ
next_at links p = (slice_index_or links p no_link).next

abbrev pub begins_at : List Link → ℕ → Bool
begins_at links p = (slice_index_or links p no_link).begins

abbrev pub behind_at : List Link → ℕ → ℕ
behind_at links p = (slice_index_or links p no_link).behind

-- no sequence begins with the place any more
abbrev pub freed : List Link → ℕ → List Link
freed links q = slice_set links q (record (slice_index_or links q no_link) { begins = false })

-- a sequence begins with the place i, which takes up the one that begins with the place that follows it, if one does
abbrev pub linked : List Link → ℕ → Option ℕ → ℕ → List Link
linked links i None behind = slice_set links i (record { next = None; begins = true; behind = behind })
linked links i (Some q) behind = slice_set (freed links q) i (record { next = cond (begins_at links q) (Some q) None; begins = true; behind = behind })

-- none does, since the place is removed
abbrev pub skipped : List Link → ℕ → ℕ → List Link
skipped links i behind = slice_set links i (record { next = None; begins = false; behind = behind })

-- whether one of the sequences begins with the place
abbrev pub is_first : ℕ → List (List ℕ) → Bool
is_first q [] = false
is_first q ([] ∷ sequences) = is_first q sequences
is_first q ((p ∷ places) ∷ sequences) = eqb p q || is_first q sequences

-- from this place the links lead through those places and end
abbrev pub Follows : List Link → ℕ → List ℕ → Type 0
Follows links p [] = (p < length links) × (next_at links p ≡ None)
Follows links p (q ∷ places) = (p < length links) × (next_at links p ≡ Some q) × (p < q) × Follows links q places

-- the links lead through each of the sequences, whose first places rise and don't stand before that place
abbrev pub AreChains : List Link → ℕ → List (List ℕ) → Type 0
AreChains links i [] = Unit {0}
AreChains links i ([] ∷ sequences) = ⊥
AreChains links i ((p ∷ places) ∷ sequences) = (i ≤ p) × Follows links p places × AreChains links (p + 1) sequences

-- the links of the places from i on hold these sequences
pub record Hold (links : List Link) (i : ℕ) (sequences : List (List ℕ)) : Type 0 where
  pub chains : AreChains links i sequences
  pub first : (q : ℕ) → i ≤ q → begins_at links q ≡ is_first q sequences

abbrev pub kept_behind : Levels → ℕ → List ℕ
kept_behind levels i = kept_from i (drop i levels.removed.items)

-- the pass from the end has come to the place i: these are the links, the PDIs that close what is open before, and
-- the next kept place
pub record IsLinked (levels : Levels) (i : ℕ) (links : List Link) (pdis : List ℕ) (nearest : Option ℕ) : Type 0 where
  pub pending : pdis ≡ closers i (drop i levels.original.items)
  pub next : nearest ≡ first_of (kept_behind levels i)
  pub hold : Hold links i (chains (level_in levels.level.items) levels.original.items (kept_behind levels i))
  pub behind : (p : ℕ) → i ≤ p → p < length levels.original.items → behind_at links p ≡ level_at_end levels.base (level_in levels.level.items) levels.original.items (kept_from 0 levels.removed.items) p
  pub length : length links ≡ length levels.original.items

-- the pass has come to the front
pub record IsLinkedWhole (levels : Levels) (links : List Link) : Type 0 where
  pub hold : Hold links 0 (sequences levels.original.items (level_runs (level_in levels.level.items) (kept_from 0 levels.removed.items)))
  pub behind : (p : ℕ) → p < length levels.original.items → behind_at links p ≡ level_at_end levels.base (level_in levels.level.items) levels.original.items (kept_from 0 levels.removed.items) p
  pub length : length links ≡ length levels.original.items

-- a character of this kind matches no other
pub record MatchesNone (kind : Kind) : Type 0 where
  pub matched : (closers : List ℕ) → matched_by kind closers ≡ None
  pub closers : (at : ℕ) (closers : List ℕ) → closers_at kind at closers ≡ closers
  pub behind : (base : ℕ) (level : ℕ → ℕ) (next : ℕ) → behind_of base level kind None (Some next) ≡ level next

-- so does the one at this place, which is kept and has the level of the next kept place q
pub record GoesOn (levels : Levels) (kind : Kind) (i : ℕ) (nearest : Option ℕ) (q : ℕ) : Type 0 where
  pub next : nearest ≡ Some q
  pub level : level_in levels.level.items i ≡ level_in levels.level.items q
  pub kept : slice_index_or levels.removed.items i false ≡ false
  pub none : MatchesNone kind

-- ---- what is read out of the links

-- the links lead from this place to an end
pub record HasChain (links : List Link) (p : ℕ) : Type 0 where
  pub places : List ℕ
  pub follows : Follows links p places

-- the level of the last place before this one that isn't removed, or the base level
abbrev pub before_at : Levels → ℕ → ℕ
before_at levels zero = levels.base
before_at levels (suc i) = cond (slice_index_or levels.removed.items i false) (before_at levels i) (level_in levels.level.items i)

-- a run as a sequence
abbrev pub sequence_of : Run → Sequence
sequence_of run = record { places = run.places.items; sos = run.sos; eos = run.eos }

-- the sequence of these places, with that level before it
abbrev pub sequence_by : (ℕ → ℕ) → List Link → ℕ → List ℕ → ℕ → Sequence
sequence_by level links p places before = record {
  places = p ∷ places;
  sos = direction (max (level p) before);
  eos = direction (max (level p) (behind_at links (last_of p places)));
}
