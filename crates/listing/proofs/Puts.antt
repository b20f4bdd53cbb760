-- A text that is put piece by piece behind what waits for a sink.
use Rattle.std.proofs.Common.{◌≡◌, sym, ap, subst, ◌∙◌, ℕ, ◌+◌, ◌<◌, List, [], ◌∷◌, ◌++◌, length, drop, get_or, append_assoc, append-nil}
use Rattle.std.proofs.lemmas.List.{drop_more}
use Rattle.std.specs.declared.option.Option.{Option}
use Rattle.std.specs.Prelude.{Result, Ok, OnOk}
use Rattle.std.proofs.lemmas.Result.{on_ok_weaker}
use Rattle.io_edge.proofs.Growth.{front_of_longer, put_front, put_more, starts, waits_on}
use Rattle.io_edge.specs.Edge.{AppendsUpTo, AppendsFront}
use Rattle.listing.specs.Runs.{character, glyphs, told}

-- ---- one piece of what is left

pub next_put : (old mid new : Option (List ℕ)) (bytes waiting piece rest left : List ℕ)
    → AppendsUpTo old mid bytes (waiting ++ (piece ++ rest)) → AppendsUpTo mid new (waiting ++ piece) left → AppendsUpTo old new bytes (left ++ rest)
next_put old mid new bytes waiting piece rest left so_far put =
    waits_on old mid new bytes (waiting ++ piece) left rest (subst (λ (l : List ℕ). AppendsUpTo old mid bytes l) (sym (append_assoc waiting piece rest)) so_far) put

-- a front of it all is written where putting a piece broke off
pub next_broken : (old mid new : Option (List ℕ)) (bytes waiting piece rest : List ℕ)
    → AppendsUpTo old mid bytes (waiting ++ (piece ++ rest)) → AppendsFront mid new (waiting ++ piece) → AppendsFront old new bytes
next_broken old mid new bytes waiting piece rest so_far broken = (broken.0 ++ rest, next_put old mid new bytes waiting piece rest broken.0 so_far broken.1)

-- nothing is left
pub none_left : (old now : Option (List ℕ)) (bytes waiting left : List ℕ) → left ≡ [] → AppendsUpTo old now bytes (waiting ++ left) → AppendsUpTo old now bytes waiting
none_left old now bytes waiting left e so_far = subst (λ (l : List ℕ). AppendsUpTo old now bytes l) (ap (λ (l : List ℕ). waiting ++ l) e ∙ append-nil waiting) so_far

-- ---- things that are told one after the other

module _ {A : Type 0} (tell : ℕ → A → List ℕ) (sign others : ℕ) (xs : List A) (k : ℕ) where
  told_next : (d x : A) (piece : List ℕ) → k < length xs → x ≡ get_or xs k d → piece ≡ tell sign x
      → told tell sign others (drop k xs) ≡ piece ++ told tell others others (drop (k + 1) xs)
  told_next d x piece h is made =
      ap (told tell sign others) (drop_more xs k d h)
      ∙ ap (λ (p : List ℕ). p ++ told tell others others (drop (k + 1) xs)) (ap (tell sign) (sym is) ∙ sym made)

  module _ (old mid new : Option (List ℕ)) (bytes waiting : List ℕ) (d x : A) (piece : List ℕ) (h : k < length xs) (is : x ≡ get_or xs k d) (made : piece ≡ tell sign x)
      (so_far : AppendsUpTo old mid bytes (waiting ++ told tell sign others (drop k xs))) where
    same : AppendsUpTo old mid bytes (waiting ++ (piece ++ told tell others others (drop (k + 1) xs)))
    same = subst (λ (l : List ℕ). AppendsUpTo old mid bytes (waiting ++ l)) (told_next d x piece h is made) so_far

    pub told_put : (left : List ℕ) → AppendsUpTo mid new (waiting ++ piece) left → AppendsUpTo old new bytes (left ++ told tell others others (drop (k + 1) xs))
    told_put left put = next_put old mid new bytes waiting piece (told tell others others (drop (k + 1) xs)) left same put

    pub told_broken : AppendsFront mid new (waiting ++ piece) → AppendsFront old new bytes
    told_broken broken = next_broken old mid new bytes waiting piece (told tell others others (drop (k + 1) xs)) same broken

-- ---- pieces one after the other

module _ (old : Option (List ℕ)) (waiting a b c : List ℕ) where
  three : (waiting ++ a) ++ b ++ c ≡ waiting ++ (a ++ b ++ c)
  three = append_assoc (waiting ++ a) b c ∙ append_assoc waiting a (b ++ c) ∙ ap (λ (l : List ℕ). waiting ++ l) (sym (append_assoc a b c))

  module _ (s1 : Option (List ℕ)) where
    pub first_broken : AppendsFront old s1 (waiting ++ a) → AppendsFront old s1 (waiting ++ (a ++ b ++ c))
    first_broken broken = subst (AppendsFront old s1) three (front_of_longer old s1 (waiting ++ a ++ b) c (front_of_longer old s1 (waiting ++ a) b broken))

    module _ (s2 : Option (List ℕ)) (w1 : List ℕ) (one : AppendsUpTo old s1 (waiting ++ a) w1) where
      pub second_broken : AppendsFront s1 s2 (w1 ++ b) → AppendsFront old s2 (waiting ++ (a ++ b ++ c))
      second_broken broken = subst (AppendsFront old s2) three (front_of_longer old s2 (waiting ++ a ++ b) c (put_front old s1 s2 (waiting ++ a) w1 b one broken))

      module _ (s3 : Option (List ℕ)) (w2 : List ℕ) (two : AppendsUpTo s1 s2 (w1 ++ b) w2) where
        pub third_broken : AppendsFront s2 s3 (w2 ++ c) → AppendsFront old s3 (waiting ++ (a ++ b ++ c))
        third_broken broken = subst (AppendsFront old s3) three (put_front old s2 s3 (waiting ++ a ++ b) w2 c (put_more old s1 s2 (waiting ++ a) w1 b w2 one two) broken)

        pub three_put : (w3 : List ℕ) → AppendsUpTo s2 s3 (w2 ++ c) w3 → AppendsUpTo old s3 (waiting ++ (a ++ b ++ c)) w3
        three_put w3 last = subst (λ (l : List ℕ). AppendsUpTo old s3 l w3) three (put_more old s2 s3 (waiting ++ a ++ b) w2 c w3 (put_more old s1 s2 (waiting ++ a) w1 b w2 one two) last)

-- the same text in other words
module _ (old new : Option (List ℕ)) (waiting piece text : List ℕ) (same : piece ≡ text) where
  pub front_of_same : AppendsFront old new (waiting ++ piece) → AppendsFront old new (waiting ++ text)
  front_of_same = subst (λ (l : List ℕ). AppendsFront old new (waiting ++ l)) same

  pub put_from : (left : List ℕ) → AppendsUpTo old new (waiting ++ piece) left → AppendsUpTo old new (waiting ++ text) left
  put_from left = subst (λ (l : List ℕ). AppendsUpTo old new (waiting ++ l) left) same

  pub put_same : {A E : Type 0} (r : Result A E) (left : List ℕ) → OnOk r (AppendsUpTo old new (waiting ++ piece) left) → OnOk r (AppendsUpTo old new (waiting ++ text) left)
  put_same r left = on_ok_weaker r (put_from left)

-- where nothing is put, what waits still waits
pub nothing_put : (sink : Option (List ℕ)) (waiting : List ℕ) → AppendsUpTo sink sink (waiting ++ []) waiting
nothing_put sink waiting = subst (λ (l : List ℕ). AppendsUpTo sink sink l waiting) (sym (append-nil waiting)) (starts sink waiting)

pub nothing : (sink : Option (List ℕ)) (waiting : List ℕ) → AppendsFront sink sink (waiting ++ [])
nothing sink waiting = (waiting, nothing_put sink waiting)

abbrev pub done : Result (Unit {0}) (Unit {0})
done = Ok tt

-- ---- one unit of one character

-- it is told as that character is
told_alone : (sign c : ℕ) (units : List (List ℕ)) → (c ∷ []) ∷ [] ≡ units → character sign c ≡ glyphs sign units
told_alone sign c units is = sym (append-nil (character sign c)) ∙ sym (append-nil (character sign c ++ [])) ∙ ap (glyphs sign) is

module _ (sign c : ℕ) (units : List (List ℕ)) (is : (c ∷ []) ∷ [] ≡ units) (old new : Option (List ℕ)) (waiting : List ℕ) where
  pub one_character_front : AppendsFront old new (waiting ++ character sign c) → AppendsFront old new (waiting ++ glyphs sign units)
  one_character_front = front_of_same old new waiting (character sign c) (glyphs sign units) (told_alone sign c units is)

  pub one_character_put : (left : List ℕ) → AppendsUpTo old new (waiting ++ character sign c) left → AppendsUpTo old new (waiting ++ glyphs sign units) left
  one_character_put = put_from old new waiting (character sign c) (glyphs sign units) (told_alone sign c units is)
