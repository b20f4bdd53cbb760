-- What stands before and behind a part, and what the marks of ends come to at its place.
use Rattle.std.proofs.Common.{◌≡◌, refl, sym, ap, ℕ, zero, suc, ◌+◌, ◌-◌, ◌≤◌, ◌<◌, Bool, List, [], ◌∷◌, ◌++◌, length, map, take, drop, get_or, set, ◌^◌, Option, Some, None, arith, ◌∙◌}
use Rattle.std.specs.Prelude.{IfSome}
use Rattle.para_prepare.specs.declared.boxes.Kind.{Kind}
use Rattle.para_prepare.specs.declared.boxes.Kind.TheVariants.{Opening, Closing, Content, Aside}
use Rattle.para_prepare.specs.Boxes.{flipped, meets, takes, takes_from}
use Rattle.para_prepare.specs.Reach.{reach_at, reach, reaches, closing_takes, opening_takes, closings_from, code_kind}
use Rattle.para_prepare.specs.declared.parts.Part as code
use Rattle.std.proofs.lemmas.List.{append_assoc, drop_all, drop-set, get_or-take, length-drop, length-map, length-set, take-set}

-- what stands before a place, the nearest first
abbrev pub before_at : ℕ → List Kind → List Kind → List Kind
before_at zero before kinds = before
before_at (suc k) before [] = before
before_at (suc k) before (kind ∷ kinds) = before_at k (kind ∷ before) kinds

pub before_more : (k : ℕ) (before kinds : List Kind) (kind : Kind) (rest : List Kind) → drop k kinds ≡ kind ∷ rest → before_at (suc k) before kinds ≡ kind ∷ before_at k before kinds
before_more zero before (x ∷ kinds) kind rest e = search
before_more zero before [] kind rest e = search
before_more (suc k) before (x ∷ kinds) kind rest e = before_more k (x ∷ before) kinds kind rest e
before_more (suc k) before [] kind rest e = search

-- whether an item is met is told by the number
reach_tells_at : (kind : Kind) (least : Option ℕ) (depth : ℕ) (way : List Kind) → ((depth : ℕ) → meets way depth ≡ reaches least depth) → meets (kind ∷ way) depth ≡ reaches (reach_at kind least) depth
reach_tells_at Opening None depth way h = h (suc depth)
reach_tells_at Opening (Some zero) depth way h = h (suc depth)
reach_tells_at Opening (Some (suc n)) depth way h = h (suc depth)
reach_tells_at Closing None zero way h = refl
reach_tells_at Closing None (suc depth) way h = h depth
reach_tells_at Closing (Some n) zero way h = refl
reach_tells_at Closing (Some n) (suc depth) way h = h depth
reach_tells_at Content least depth way h = refl
reach_tells_at Aside least depth way h = h depth

pub reach_tells : (way : List Kind) (depth : ℕ) → meets way depth ≡ reaches (reach way) depth
reach_tells [] depth = refl
reach_tells (kind ∷ way) depth = reach_tells_at kind (reach way) depth way (reach_tells way)

-- the number is at most the length of the way
bounded_at : (kind : Kind) (least : Option ℕ) (n : ℕ) → IfSome least (λ l. l ≤ n) → IfSome (reach_at kind least) (λ l. l ≤ suc n)
bounded_at Opening None n h = tt
bounded_at Opening (Some zero) n h = omega arith
bounded_at Opening (Some (suc l)) n h = omega arith
bounded_at Closing None n h = tt
bounded_at Closing (Some l) n h = omega arith
bounded_at Content least n h = omega arith
bounded_at Aside None n h = tt
bounded_at Aside (Some l) n h = omega arith

pub bounded : (way : List Kind) → IfSome (reach way) (λ l. l ≤ length way)
bounded [] = tt
bounded (kind ∷ way) = bounded_at kind (reach way) (length way) (bounded way)

-- both marks together
pub marks_meet : (before after : List Kind) (kind : Kind) → opening_takes (reach after) kind (closing_takes (reach (map flipped before)) kind) ≡ takes before kind after
marks_meet before after Opening = sym (reach_tells after 0)
marks_meet before after Closing = sym (reach_tells (map flipped before) 0)
marks_meet before after Content = refl
marks_meet before after Aside = refl

pub closings_drop : (k : ℕ) (before kinds : List Kind) → drop k (closings_from before kinds) ≡ closings_from (before_at k before kinds) (drop k kinds)
closings_drop zero before kinds = refl
closings_drop (suc k) before [] = refl
closings_drop (suc k) before (kind ∷ kinds) = closings_drop k (kind ∷ before) kinds

pub closings_length : (before kinds : List Kind) → length (closings_from before kinds) ≡ length kinds
closings_length before [] = refl
closings_length before (kind ∷ kinds) = ap suc (closings_length (kind ∷ before) kinds)

pub before_length : (k : ℕ) (before kinds : List Kind) → k ≤ length kinds → length (before_at k before kinds) ≡ k + length before
before_length zero before kinds h = omega arith
before_length (suc k) before [] h = omega arith
before_length (suc k) before (kind ∷ kinds) h =
    let h' : length (before_at k (kind ∷ before) kinds) ≡ k + length (kind ∷ before) = before_length k (kind ∷ before) kinds (omega arith) in
    omega arith

-- the kinds from a place on begin with that of the part there
pub kinds_drop : (parts : List code.Part) (k : ℕ) (part : code.Part) → k < length parts → part ≡ get_or parts k part → drop k (map code_kind parts) ≡ code_kind part ∷ drop (suc k) (map code_kind parts)
kinds_drop [] k part h e = absurd (omega arith)
kinds_drop (p ∷ parts) zero part h e = rw e refl
kinds_drop (p ∷ parts) (suc k) part h e = kinds_drop parts k part (omega arith) e

tail_of : {X : Type 0} (k : ℕ) (xs : List X) (x : X) (rest : List X) → drop k xs ≡ x ∷ rest → drop (suc k) xs ≡ rest
tail_of zero (y ∷ xs) x rest e = search
tail_of zero [] x rest e = search
tail_of (suc k) (y ∷ xs) x rest e = tail_of k xs x rest e
tail_of (suc k) [] x rest e = search

-- the marks of the first parts, and what the way back from the next one comes to
pub record Closes (marks : List Bool) (before : Option ℕ) (k : ℕ) (kinds : List Kind) : Type 0 where
  pub done : marks ++ closings_from (before_at k [] kinds) (drop k kinds) ≡ closings_from [] kinds
  pub way_back : before ≡ reach (map flipped (before_at k [] kinds))

closings_at : (done before rest : List Kind) (kind : Kind) (back : Option ℕ) (marks : List Bool) → back ≡ reach (map flipped before) → marks ++ closings_from before (kind ∷ rest) ≡ (marks ++ (closing_takes back kind ∷ [])) ++ closings_from (kind ∷ before) rest
closings_at done before rest kind back marks e = rw e (sym (append_assoc marks (closing_takes (reach (map flipped before)) kind ∷ []) (closings_from (kind ∷ before) rest)))

pub closes_more : (k : ℕ) (kinds : List Kind) (kind : Kind) (rest : List Kind) (marks : List Bool) (before : Option ℕ) → drop k kinds ≡ kind ∷ rest → Closes marks before k kinds → Closes (marks ++ (closing_takes before kind ∷ [])) (reach_at (flipped kind) before) (suc k) kinds
closes_more k kinds kind rest marks before e h =
    let more : before_at (suc k) [] kinds ≡ kind ∷ before_at k [] kinds = before_more k [] kinds kind rest e in
    let tail : drop (suc k) kinds ≡ rest = tail_of k kinds kind rest e in
    let done : marks ++ closings_from (before_at k [] kinds) (kind ∷ rest) ≡ closings_from [] kinds = rw e at h.done in
    record {
      done = rw more (rw tail (sym (closings_at kinds (before_at k [] kinds) rest kind before marks h.way_back) ∙ done));
      way_back = rw more (ap (reach_at (flipped kind)) h.way_back);
    }

-- the marks of the parts from a place on, and what the way from there on comes to
pub record Opens (marks : List Bool) (after : Option ℕ) (k : ℕ) (kinds : List Kind) : Type 0 where
  pub front : take k marks ≡ take k (closings_from [] kinds)
  pub back : drop k marks ≡ takes_from (before_at k [] kinds) (drop k kinds)
  pub way : after ≡ reach (drop k kinds)
  pub within : k ≤ length kinds
  pub same : length marks ≡ length kinds

pub opens_start : (marks : List Bool) (kinds : List Kind) → marks ≡ closings_from [] kinds → Opens marks None (length kinds) kinds
opens_start marks kinds e =
    let none : drop (length kinds) kinds ≡ [] = drop_all (length kinds) kinds (omega arith) in
    let many : length marks ≡ length kinds = rw e (closings_length [] kinds) in
    record {
      front = ap (take (length kinds)) e;
      back = rw none (drop_all (length kinds) marks (omega arith));
      way = rw none refl;
      within = omega arith;
      same = many;
    }

head_of : {X : Type 0} (k : ℕ) (xs : List X) (x : X) (rest : List X) (d : X) → drop k xs ≡ x ∷ rest → get_or xs k d ≡ x
head_of zero (y ∷ xs) x rest d e = search
head_of zero [] x rest d e = search
head_of (suc k) (y ∷ xs) x rest d e = head_of k xs x rest d e
head_of (suc k) [] x rest d e = search

take_less : {X : Type 0} (k : ℕ) (xs : List X) → take k (take (suc k) xs) ≡ take k xs
take_less zero xs = refl
take_less (suc k) [] = refl
take_less (suc k) (x ∷ xs) = ap (λ xs. x ∷ xs) (take_less k xs)

-- the mark by what stands before, at a place
mark_there : (k : ℕ) (before kinds : List Kind) (kind : Kind) (rest : List Kind) → drop k kinds ≡ kind ∷ rest → drop k (closings_from before kinds) ≡ closing_takes (reach (map flipped (before_at k before kinds))) kind ∷ closings_from (kind ∷ before_at k before kinds) rest
mark_there k before kinds kind rest e = closings_drop k before kinds ∙ rw e refl

pub opens_more : (k : ℕ) (kinds : List Kind) (kind : Kind) (rest : List Kind) (marks : List Bool) (after : Option ℕ) (mark : Bool)
    → drop k kinds ≡ kind ∷ rest → mark ≡ get_or marks k mark → Opens marks after (suc k) kinds
    → Opens (set marks k (opening_takes after kind mark)) (reach_at kind after) k kinds
opens_more k kinds kind rest marks after mark e m h =
    let tail : drop (suc k) kinds ≡ rest = tail_of k kinds kind rest e in
    let more : before_at (suc k) [] kinds ≡ kind ∷ before_at k [] kinds = before_more k [] kinds kind rest e in
    let there : mark ≡ closing_takes (reach (map flipped (before_at k [] kinds))) kind =
    m ∙ sym (get_or-take (suc k) marks k mark (omega arith)) ∙ ap (λ xs. get_or xs k mark) h.front ∙ get_or-take (suc k) (closings_from [] kinds) k mark (omega arith)
    ∙ head_of k (closings_from [] kinds) _ _ mark (mark_there k [] kinds kind rest e) in
    let way : after ≡ reach rest = h.way ∙ ap reach tail in
    let value : opening_takes after kind mark ≡ takes (before_at k [] kinds) kind rest =
    rw way (rw there (marks_meet (before_at k [] kinds) rest kind)) in
    let low : k < length kinds = h.within in
    let many : length marks ≡ length kinds = h.same in
    let next : k + 1 ≡ suc k = omega arith in
    let behind : drop (k + 1) marks ≡ takes_from (kind ∷ before_at k [] kinds) rest = rw next (h.back ∙ rw more (rw tail refl)) in
    record {
      front = take-set marks k (opening_takes after kind mark) ∙ sym (take_less k marks) ∙ ap (take k) h.front ∙ take_less k (closings_from [] kinds);
      back = drop-set marks k (opening_takes after kind mark) (omega arith) ∙ rw value (rw behind (rw e refl));
      way = rw e (ap (reach_at kind) way);
      within = omega arith;
      same = length-set marks k (opening_takes after kind mark) ∙ many;
    }

bounded_by : (least : Option ℕ) (n : ℕ) → IfSome least (λ l. l ≤ n) → n + 1 < 2 ^ 64 → IfSome least (λ l. l + 1 < 2 ^ 64)
bounded_by None n h w = tt
bounded_by (Some l) n h w = omega arith

-- the number of the way back, and that of the way on, fit
pub closes_fits : (marks : List Bool) (before : Option ℕ) (k : ℕ) (kinds : List Kind) → Closes marks before k kinds → k ≤ length kinds → k + 1 < 2 ^ 64 → IfSome before (λ l. l + 1 < 2 ^ 64)
closes_fits marks before k kinds h w f =
    let many : length (map flipped (before_at k [] kinds)) ≡ k = length-map (before_at k [] kinds) flipped ∙ before_length k [] kinds w ∙ (let z : k + 0 ≡ k = omega arith in z) in
    let b : IfSome (reach (map flipped (before_at k [] kinds))) (λ l. l ≤ length (map flipped (before_at k [] kinds))) = bounded (map flipped (before_at k [] kinds)) in
    rw h.way_back (bounded_by (reach (map flipped (before_at k [] kinds))) k (rw many at b) f)

pub opens_fits : (marks : List Bool) (after : Option ℕ) (k : ℕ) (kinds : List Kind) → Opens marks after k kinds → 0 < k → length kinds < 2 ^ 64 → IfSome after (λ l. l + 1 < 2 ^ 64)
opens_fits marks after k kinds h some f =
    let low : k ≤ length kinds = h.within in
    let many : length (drop k kinds) ≡ length kinds - k = length-drop k kinds in
    let b : IfSome (reach (drop k kinds)) (λ l. l ≤ length (drop k kinds)) = bounded (drop k kinds) in
    rw h.way (bounded_by (reach (drop k kinds)) (length kinds - k) (rw many at b) (omega arith))
