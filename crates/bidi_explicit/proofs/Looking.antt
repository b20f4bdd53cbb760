-- The pass from the end finds what P2 and P3 find in each isolate.
use Rattle.std.proofs.Common.{◌≡◌, ◌∙◌, ap, refl, ℕ, zero, suc, Bool, false, List, [], ◌∷◌, get_or, Option, Some, None, ◌+◌, ◌-◌, ◌<◌, ◌≤◌, drop, take, length, arith}
use Rattle.std.specs.List.{slice_range}
use Rattle.std.proofs.lemmas.List.{drop_more, drop-drop, get_or-drop, length-drop}
use Rattle.std.specs.Option.{option_map}
use Rattle.wm_chars.specs.declared.classes.BidiClass.{BidiClass}
use Rattle.bidi_explicit.specs.declared.isolates.Kind.{Kind}
use Rattle.bidi_explicit.specs.declared.isolates.Kind.TheVariants.{Strong, Opens, Closes, Other}
use Rattle.bidi_explicit.specs.Base.{is_one, turns_right}
use Rattle.bidi_explicit.proofs.Strong.{counted, counted_at, count_finds}
use Rattle.bidi_explicit.specs.Isolates.{kind_of, closing, closing_at, up_to}
use Rattle.wm_chars.specs.declared.classes.BidiClass.TheVariants.{L, LRI, RLI, FSI, PDI}
use Rattle.wm_chars.specs.Classes.{is_isolate_formatting}
use Rattle.bidi_explicit.specs.Ahead.{Ahead, ahead, ahead_at, found_at, found_before, rest_of, rights, is_right}

-- what it finds `depth` closing PDIs on
abbrev at_depth : ℕ → Ahead → Bool
at_depth zero a = a.found
at_depth (suc depth) a = get_or a.pending depth false

up_to_suc : (o : Option ℕ) (c : BidiClass) (cs : List BidiClass) → up_to (option_map suc o) (c ∷ cs) ≡ c ∷ up_to o cs
up_to_suc None c cs = refl
up_to_suc (Some n) c cs = refl

no_more : (xs : List Bool) (n : ℕ) → get_or xs (suc n) false ≡ get_or (rest_of xs) n false
no_more [] n = refl
no_more (x ∷ xs) n = refl

ones : (level : ℕ) → is_one (Some level) ≡ is_right level
ones zero = refl
ones (suc zero) = refl
ones (suc (suc n)) = refl

abbrev Finds : List BidiClass → Type 0
Finds cs = (d : ℕ) → is_one (counted (up_to (closing cs d) cs) d) ≡ at_depth d (ahead cs)

module _ (c : BidiClass) (cs : List BidiClass) (found : Finds cs) where
  shown : (k : Kind) → kind_of c ≡ k → (o : Option ℕ) (d : ℕ) → is_one (counted (up_to (option_map suc o) (c ∷ cs)) d) ≡ is_one (counted_at k (counted (up_to o cs)) d)
  shown k e o d = rw (up_to_suc o c cs) (rw e refl)

  behind : (d : ℕ) → at_depth d (ahead cs) ≡ get_or ((ahead cs).found ∷ (ahead cs).pending) d false
  behind zero = refl
  behind (suc d) = refl

  step : (k : Kind) → kind_of c ≡ k → (d : ℕ) → is_one (counted (up_to (closing_at k (closing cs) d) (c ∷ cs)) d) ≡ at_depth d (ahead_at k (ahead cs))
  step (Strong level) e zero = shown (Strong level) e (closing cs 0) 0 ∙ ones level
  step (Strong level) e (suc d) = shown (Strong level) e (closing cs (suc d)) (suc d) ∙ found (suc d)
  step Opens e zero = shown Opens e (closing cs 1) 0 ∙ found 1
  step Opens e (suc d) = shown Opens e (closing cs (suc (suc d))) (suc d) ∙ found (suc (suc d)) ∙ no_more (ahead cs).pending d
  step Closes e zero = refl
  step Closes e (suc d) = shown Closes e (closing cs d) (suc d) ∙ found d ∙ behind d
  step Other e zero = shown Other e (closing cs 0) 0 ∙ found 0
  step Other e (suc d) = shown Other e (closing cs (suc d)) (suc d) ∙ found (suc d)

finds : (cs : List BidiClass) → Finds cs
finds [] zero = refl
finds [] (suc d) = refl
finds (c ∷ cs) d = step c cs (finds cs) (kind_of c) refl d

pub turns_right_found : (cs : List BidiClass) → turns_right cs ≡ (ahead cs).found
turns_right_found cs = rw (← count_finds (up_to (closing cs 0) cs)) (finds cs 0)

-- one step of a loop from the end
pub drop_less : {X : Type 0} (xs : List X) (i j : ℕ) (d : X) → j + 1 ≡ i → j < length xs → drop j xs ≡ get_or xs j d ∷ drop i xs
drop_less xs i j d e l = rw (← e) (drop_more xs j d l)

-- ---- what stands between isolates

-- a character that neither begins nor ends an isolate
plain_ahead : (c : BidiClass) (a : Ahead) → is_isolate_formatting c ≡ false → ahead_at (kind_of c) a ≡ record { found = found_at (kind_of c) a.found; pending = a.pending }
plain_ahead PDI a is = absurd (cc)
plain_ahead LRI a is = absurd (cc)
plain_ahead RLI a is = absurd (cc)
plain_ahead FSI a is = absurd (cc)
plain_ahead c a is = refl

pub plain_rights : (c : BidiClass) (after : List BidiClass) → is_isolate_formatting c ≡ false → rights (c ∷ after) ≡ rights after
plain_rights FSI after is = absurd (cc)
plain_rights c after is = refl

-- so many of them from the front on
pub plain_front : (n : ℕ) (cs : List BidiClass) → n ≤ length cs → ((k : ℕ) → k < n → is_isolate_formatting (get_or cs k L) ≡ false)
    → ahead cs ≡ record { found = found_before (take n cs) (ahead (drop n cs)).found; pending = (ahead (drop n cs)).pending }
plain_front zero cs high plain = refl
plain_front (suc n) [] high plain = absurd (omega arith)
plain_front (suc n) (c ∷ cs) high plain =
    rw (plain_ahead c (ahead cs) (plain 0 (omega arith)), plain_front n cs (omega arith) (λ k lt. plain (suc k) (omega arith))) refl

-- so many of them from a place on
module _ (cs : List BidiClass) (from read_from : ℕ) (order : from ≤ read_from) (within : read_from ≤ length cs) (plain : (k : ℕ) → from ≤ k → k < read_from → is_isolate_formatting (get_or cs k L) ≡ false) where
  pub plain_between : ahead (drop from cs) ≡ record { found = found_before (slice_range cs from read_from) (ahead (drop read_from cs)).found; pending = (ahead (drop read_from cs)).pending }
  plain_between =
      let rest : length (drop from cs) ≡ length cs - from = length-drop from cs in
      let whole : from + (read_from - from) ≡ read_from = omega arith in
      let behind : drop (read_from - from) (drop from cs) ≡ drop read_from cs = drop-drop (read_from - from) from cs ∙ ap (λ (k : ℕ). drop k cs) whole in
      let all : (k : ℕ) → k < read_from - from → is_isolate_formatting (get_or (drop from cs) k L) ≡ false = λ k lt. ap is_isolate_formatting (get_or-drop from cs k L) ∙ plain (from + k) (omega arith) (omega arith) in
      plain_front (read_from - from) (drop from cs) (omega arith) all
      ∙ ap (λ (l : List BidiClass). record { found = found_before (slice_range cs from read_from) (ahead l).found; pending = (ahead l).pending }) behind
