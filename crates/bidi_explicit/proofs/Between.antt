-- Explicit levels lie between the base level and 125, and there is one for each character.
use Rattle.std.proofs.Common.{◌≡◌, refl, ap, ℕ, suc, ◌+◌, ◌-◌, ◌≤◌, Bool, true, false, ◌&&◌, cond, eqb, leb, List, [], ◌∷◌, length, Option, Some, None, arith}
use Rattle.std.specs.Prelude.{⊤}
use Rattle.std.specs.List.{All}
use Rattle.std.proofs.lemmas.Bool.{leb-true, and_parts}
use Rattle.std.proofs.lemmas.List.{length-map}
use Rattle.std.proofs.lemmas.List.Elements.{All-nil, All-cons}
use Rattle.wm_chars.specs.declared.classes.BidiClass.{BidiClass}
use Rattle.wm_chars.specs.declared.classes.BidiClass.TheVariants.{L, R, B, LRE, LRO, RLE, RLO, PDF, LRI, RLI, PDI}
use Rattle.bidi_explicit.specs.declared.machine.Entry.{Entry}
use Rattle.bidi_explicit.specs.Paragraph.{IsBetween}
use Rattle.wm_chars.specs.Classes.{is_removed}
use Rattle.bidi_explicit.specs.Explicit.{State, begin, next_odd, next_even, has_room, pushed, embedded, isolated, standing_on, below_isolate, closed, left, plain, entered, taken, entries, level_at, levels_by, classes_by, explicit_levels, explicit_classes, removed_marks}

module _ (base : ℕ) where
  abbrev AllBetween : List Entry → Type 0
  AllBetween [] = ⊤
  AllBetween (entry ∷ below) = IsBetween base entry.level × AllBetween below

  record Stays (s : State) : Type 0 where
    top : IsBetween base s.top.level
    below : AllBetween s.below

  pushed_stays : (entry : Entry) (s : State) → IsBetween base entry.level → Stays s → Stays (pushed entry s)
  pushed_stays entry s b k = record { top = b; below = (k.top, k.below) }

  -- a level above the last one for which there is room
  roomy : (level : ℕ) (s : State) → Stays s → s.top.level ≤ level → has_room s level ≡ true → IsBetween base level
  roomy level s k up room =
      let low : base ≤ s.top.level = k.top.low in
      record { low = omega arith; high = leb-true level 125 (and_parts (leb level 125) (eqb s.overflow_isolates 0 && eqb s.overflow_embeddings 0) room).0 }

  embedded_stays : (level : ℕ) (instead : Option BidiClass) (s : State) → Stays s → s.top.level ≤ level → Stays (embedded level instead s)
  embedded_stays level instead s k up = go (has_room s level) refl (eqb s.overflow_isolates 0)
    where
      go : (room : Bool) → has_room s level ≡ room → (none : Bool) → Stays (cond room (pushed (record { level = level; instead = instead; isolate = false }) s) (cond none (record s { overflow_embeddings = s.overflow_embeddings + 1 }) s))
      go true e n = pushed_stays _ s (roomy level s k up e) k
      go false e true = record { top = k.top; below = k.below }
      go false e false = k

  isolated_stays : (level : ℕ) (s : State) → Stays s → s.top.level ≤ level → Stays (isolated level s)
  isolated_stays level s k up = go (has_room s level) refl
    where
      go : (room : Bool) → has_room s level ≡ room → Stays (cond room (pushed (record { level = level; instead = None; isolate = true }) (record s { valid_isolates = s.valid_isolates + 1 })) (record s { overflow_isolates = s.overflow_isolates + 1 }))
      go true e = pushed_stays _ _ (roomy level s k up e) (record { top = k.top; below = k.below })
      go false e = record { top = k.top; below = k.below }

  standing_stays : (below : List Entry) (s : State) → AllBetween below → Stays s → Stays (standing_on below s)
  standing_stays [] s a k = k
  standing_stays (entry ∷ below) s a k = record { top = a.0; below = a.1 }

  below_stays : (top : Entry) (below : List Entry) → IsBetween base top.level → AllBetween below → AllBetween (below_isolate top below)
  below_stays top [] t b = (t, tt)
  below_stays top (entry ∷ below) t b = go top.isolate (below_stays entry below b.0 b.1)
    where
      go : (ends : Bool) → AllBetween (below_isolate entry below) → AllBetween (cond ends (entry ∷ below) (below_isolate entry below))
      go true r = b
      go false r = r

  closed_stays : (s : State) → Stays s → Stays (closed s)
  closed_stays s k = go (eqb s.overflow_isolates 0) (eqb s.valid_isolates 0)
    where
      go : (none nil : Bool) → Stays (cond none (cond nil s (standing_on (below_isolate s.top s.below) (record s { overflow_embeddings = 0; valid_isolates = s.valid_isolates - 1 }))) (record s { overflow_isolates = s.overflow_isolates - 1 }))
      go true true = k
      go true false = standing_stays (below_isolate s.top s.below) _ (below_stays s.top s.below k.top k.below) (record { top = k.top; below = k.below })
      go false nil = record { top = k.top; below = k.below }

  left_stays : (s : State) → Stays s → Stays (left s)
  left_stays s k = go (eqb s.overflow_isolates 0) (eqb s.overflow_embeddings 0) s.top.isolate
    where
      go : (none nil isolate : Bool) → Stays (cond none (cond nil (cond isolate s (standing_on s.below s)) (record s { overflow_embeddings = s.overflow_embeddings - 1 })) s)
      go true true true = k
      go true true false = standing_stays s.below s k.below k
      go true false isolate = record { top = k.top; below = k.below }
      go false nil isolate = k

  odd_above : (n : ℕ) → n ≤ next_odd n
  odd_above n = omega arith

  even_above : (n : ℕ) → n ≤ next_even n
  even_above n = omega arith

  entered_stays : (c : BidiClass) (s : State) → Stays s → Stays (entered c s)
  entered_stays RLE s k = embedded_stays (next_odd s.top.level) None s k (odd_above s.top.level)
  entered_stays LRE s k = embedded_stays (next_even s.top.level) None s k (even_above s.top.level)
  entered_stays RLO s k = embedded_stays (next_odd s.top.level) (Some R) s k (odd_above s.top.level)
  entered_stays LRO s k = embedded_stays (next_even s.top.level) (Some L) s k (even_above s.top.level)
  entered_stays RLI s k = isolated_stays (next_odd s.top.level) s k (odd_above s.top.level)
  entered_stays LRI s k = isolated_stays (next_even s.top.level) s k (even_above s.top.level)
  entered_stays PDI s k = closed_stays s k
  entered_stays PDF s k = left_stays s k
  entered_stays _ s k = k

  taken_between : (c : BidiClass) (s t : State) → Stays s → Stays t → IsBetween base (taken c s t).level
  taken_between PDI s t k l = l.top
  taken_between _ s t k l = k.top

  entries_between : (s : State) (cs : List BidiClass) → Stays s → AllBetween (entries s cs)
  entries_between s [] k = tt
  entries_between s (c ∷ after) k =
      let l = entered_stays (plain c after) s k in
      (taken_between c s (entered (plain c after) s) k l, entries_between (entered (plain c after) s) after l)

  level_between : (last : ℕ) (c : BidiClass) (entry : Entry) → IsBetween base base → IsBetween base last → IsBetween base entry.level → IsBetween base (level_at base last c entry)
  level_between last B entry b l e = b
  level_between last LRE entry b l e = l
  level_between last LRO entry b l e = l
  level_between last RLE entry b l e = l
  level_between last RLO entry b l e = l
  level_between last PDF entry b l e = l
  level_between last _ entry b l e = e

  levels_between : (last : ℕ) (cs : List BidiClass) (es : List Entry) → IsBetween base base → IsBetween base last → AllBetween es → All (IsBetween base) (levels_by base last cs es)
  levels_between last [] es b l a = All-nil (IsBetween base)
  levels_between last (c ∷ cs) [] b l a = All-nil (IsBetween base)
  levels_between last (c ∷ cs) (e ∷ es) b l a =
      let k = level_between last c e b l a.0 in
      All-cons (IsBetween base) (level_at base last c e) (levels_by base (level_at base last c e) cs es) k (levels_between (level_at base last c e) cs es b k a.1)

  pub explicit_between : (classes : List BidiClass) → base ≤ 1 → All (IsBetween base) (explicit_levels base classes)
  unfolding explicit_levels
  explicit_between classes small =
      let b : IsBetween base base = record { low = omega arith; high = omega arith } in
      levels_between base classes (entries (begin base) classes) b b (entries_between (begin base) classes (record { top = b; below = tt }))

-- ---- lengths

pub entries_length : (s : State) (cs : List BidiClass) → length (entries s cs) ≡ length cs
entries_length s [] = refl
entries_length s (c ∷ after) = ap suc (entries_length (entered (plain c after) s) after)

levels_length : (base last : ℕ) (cs : List BidiClass) (es : List Entry) → length es ≡ length cs → length (levels_by base last cs es) ≡ length cs
levels_length base last [] es e = refl
levels_length base last (c ∷ cs) [] e = absurd (cc)
levels_length base last (c ∷ cs) (x ∷ es) e = ap suc (levels_length base (level_at base last c x) cs es (cc))

classes_length : (cs : List BidiClass) (es : List Entry) → length es ≡ length cs → length (classes_by cs es) ≡ length cs
classes_length [] es e = refl
classes_length (c ∷ cs) [] e = absurd (cc)
classes_length (c ∷ cs) (x ∷ es) e = ap suc (classes_length cs es (cc))

pub explicit_levels_length : (base : ℕ) (classes : List BidiClass) → length (explicit_levels base classes) ≡ length classes
unfolding explicit_levels
explicit_levels_length base classes = levels_length base base classes (entries (begin base) classes) (entries_length (begin base) classes)

pub explicit_classes_length : (base : ℕ) (classes : List BidiClass) → length (explicit_classes base classes) ≡ length classes
unfolding explicit_classes
explicit_classes_length base classes = classes_length classes (entries (begin base) classes) (entries_length (begin base) classes)

pub removed_marks_length : (classes : List BidiClass) → length (removed_marks classes) ≡ length classes
removed_marks_length classes = length-map classes is_removed
