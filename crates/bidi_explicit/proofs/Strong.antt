-- P2 and P3 by a count of the isolates that are open, and what they find.
use Rattle.std.proofs.Common.{◌≡◌, refl, ℕ, zero, suc, ◌≤◌, List, [], ◌∷◌, length, Option, Some, None, arith}
use Rattle.std.specs.Prelude.{IfSome}
use Rattle.std.specs.Option.{option_map}
use Rattle.wm_chars.specs.declared.classes.BidiClass.{BidiClass}
use Rattle.wm_chars.specs.declared.classes.BidiClass.TheVariants.{L, R, AL}
use Rattle.bidi_explicit.specs.declared.isolates.Kind.{Kind}
use Rattle.bidi_explicit.specs.declared.isolates.Kind.TheVariants.{Strong, Opens, Closes, Other}
use Rattle.bidi_explicit.specs.Isolates.{kind_of, closing, closing_at, up_to}
use Rattle.bidi_explicit.specs.Base.{strong_at, strong_from, first_strong}

-- one step of `counted`
abbrev pub counted_at : Kind → (ℕ → Option ℕ) → ℕ → Option ℕ
counted_at (Strong level) rest zero = Some level
counted_at (Strong level) rest (suc depth) = rest (suc depth)
counted_at Opens rest depth = rest (suc depth)
counted_at Closes rest zero = rest 0
counted_at Closes rest (suc depth) = rest depth
counted_at Other rest depth = rest depth

-- the level of the first strong character that stands in no isolate, where so many isolates are still open
abbrev pub counted : List BidiClass → (depth : ℕ) → Option ℕ
counted [] depth = None
counted (c ∷ after) depth = counted_at (kind_of c) (counted after) depth

-- how many characters stand before the PDI that closes the last of the isolates that are open beyond these
abbrev held : List BidiClass → (depth : ℕ) → ℕ
held cs depth = length (up_to (closing cs depth) cs)

held_more : (o : Option ℕ) (c : BidiClass) (cs : List BidiClass) → length (up_to (option_map suc o) (c ∷ cs)) ≡ suc (length (up_to o cs))
held_more None c cs = refl
held_more (Some n) c cs = refl

-- what the count passes over is what the isolates hold
record Counts (cs : List BidiClass) : Type 0 where
  outside : counted cs 0 ≡ strong_from cs 0
  inside : (depth : ℕ) → counted cs (suc depth) ≡ strong_from cs (held cs depth)

module _ (c : BidiClass) (cs : List BidiClass) (counts : Counts cs) where
  outside_at : (k : Kind) → counted_at k (counted cs) 0 ≡ strong_at k cs (strong_from cs)
  outside_at (Strong level) = refl
  outside_at Opens = counts.inside 0
  outside_at Closes = counts.outside
  outside_at Other = counts.outside

  on : (depth : ℕ) → counted cs (suc depth) ≡ strong_from (c ∷ cs) (length (up_to (option_map suc (closing cs depth)) (c ∷ cs)))
  on depth = rw (held_more (closing cs depth) c cs) (counts.inside depth)

  inside_at : (k : Kind) → kind_of c ≡ k → (depth : ℕ) → counted_at k (counted cs) (suc depth) ≡ strong_from (c ∷ cs) (length (up_to (closing_at k (closing cs) depth) (c ∷ cs)))
  inside_at (Strong level) e depth = on depth
  inside_at Opens e depth = on (suc depth)
  inside_at Closes e zero = rw e (counts.outside)
  inside_at Closes e (suc depth) = on depth
  inside_at Other e depth = on depth

counts : (cs : List BidiClass) → Counts cs
counts [] = record { outside = refl; inside = λ depth. refl }
counts (c ∷ cs) = record { outside = outside_at c cs (counts cs) (kind_of c); inside = inside_at c cs (counts cs) (kind_of c) refl }

pub count_finds : (cs : List BidiClass) → counted cs 0 ≡ first_strong cs
count_finds cs = (counts cs).outside

level_low : (c : BidiClass) (level : ℕ) → kind_of c ≡ Strong level → level ≤ 1
level_low L level e = let z : 0 ≡ level = cc in omega arith
level_low R level e = let z : 1 ≡ level = cc in omega arith
level_low AL level e = let z : 1 ≡ level = cc in omega arith
level_low _ level e = absurd (cc)

low_from : (cs : List BidiClass) (d : ℕ) → IfSome (counted cs d) (λ level. level ≤ 1)
low_from [] d = tt
low_from (c ∷ cs) d = step (kind_of c) refl d (low_from cs)
  where
    step : (k : Kind) → kind_of c ≡ k → (d : ℕ) → ((d : ℕ) → IfSome (counted cs d) (λ level. level ≤ 1)) → IfSome (counted_at k (counted cs) d) (λ level. level ≤ 1)
    step (Strong level) e zero low = level_low c level e
    step (Strong level) e (suc d) low = low (suc d)
    step Opens e d low = low (suc d)
    step Closes e zero low = low 0
    step Closes e (suc d) low = low d
    step Other e d low = low d

pub found_low : (cs : List BidiClass) (found : Option ℕ) → found ≡ first_strong cs → IfSome found (λ level. level ≤ 1)
found_low cs found e = rw (e, ← count_finds cs) (low_from cs 0)
