-- Sets of classes, and the nodes whose classes they are.
use Rattle.std.proofs.Common.{◌≡◌, ◌≢◌, ℕ, ◌+◌, ◌-◌, ◌<◌, ◌≤◌, Bool, true, false, ◌||◌, ◌&&◌, List, [], ◌∷◌, length, map, take, drop, set, get_or, bytes_eq, refl, sym, subst, ap, ◌∙◌, arith, Option, Some, None}
use Rattle.std.specs.Borrow.{Bor}
use Rattle.std.specs.Prelude.{cond, Decides, IfSome, option_map}
use Rattle.std.specs.BTreeSet.{BTreeSet, contains_text}
use Rattle.std.specs.String.{string_bytes}
use Rattle.std.proofs.lemmas.List.{take_all, drop-set, length-drop, drop_more, drop_all, drop-drop}
use Rattle.std.proofs.Math.Bool.{or-false}
use Rattle.std.proofs.lemmas.Slice.Eq.{bytes_eq-Decides}
use Rattle.dom_store.specs.declared.node.Node.{Node}
use Rattle.dom_store.specs.State.{What, element, what_of}
use Rattle.html_tokens.specs.declared.tag.Tag.{Tag}
use Rattle.css_types.specs.declared.value.Declaration.{Declaration}
use Rattle.wm_modes.specs.declared.mode.Direction.{Direction}
use Rattle.cascade.specs.declared.class_sets.ClassSet.{ClassSet}
use Rattle.cascade.specs.declared.class_sets.ClassSets.{ClassSets}
use Rattle.cascade.specs.ClassSets.{is_in, set_at, AreClasses, AreOf}
use Rattle.cascade.specs.Matching.{some, each, has_class}
use Rattle.cascade.proofs.Shelving.{Letters}

-- ---- the line of a set

pub none_are_of : (sets : ClassSets) → sets.at ≡ None → (line : List (Bor Node)) → AreOf sets line
none_are_of sets none [] = tt
none_are_of sets none (node ∷ above) = (subst (λ all. AreClasses (set_at (record { at = all }) (length above)) (what_of node.now.kind)) (sym none) tt, none_are_of sets none above)

rest_of : (node : Bor Node) (line : List (Bor Node)) → take (length (node ∷ line) - 1) line ≡ line
rest_of node line =
    let less : length (node ∷ line) - 1 ≡ length line = omega arith in
    ap (λ (n : ℕ). take n line) less ∙ take_all (length line) line (omega arith)

pub above_are_of : (sets : ClassSets) (line : List (Bor Node)) → 1 ≤ length line → AreOf sets line → AreOf sets (take (length line - 1) (drop 1 line))
above_are_of sets [] le are = absurd (omega arith)
above_are_of sets (node ∷ line) le are = subst (AreOf sets) (sym (rest_of node line)) are.1

pub first_are_of : (sets : ClassSets) (line : List (Bor Node)) (node : Bor Node) → 1 ≤ length line → node ≡ get_or line 0 node → AreOf sets line
    → AreClasses (set_at sets (length (take (length line - 1) (drop 1 line)))) (what_of node.now.kind)
first_are_of sets [] node le is are = absurd (omega arith)
first_are_of sets (first ∷ line) node le is are =
    subst (λ (above : List (Bor Node)). AreClasses (set_at sets (length above)) (what_of node.now.kind)) (sym (rest_of first line))
    (subst (λ (n : Bor Node). AreClasses (set_at sets (length line)) (what_of n.now.kind)) (sym is) are.0)

behind_are_of : (sets : ClassSets) (line : List (Bor Node)) → AreOf sets line → AreOf sets (drop 1 line)
behind_are_of sets [] are = tt
behind_are_of sets (node ∷ line) are = are.1

same_are_of : (sets after : ClassSets) (line : List (Bor Node)) → ((height : ℕ) → height < length line → set_at after height ≡ set_at sets height) → AreOf sets line → AreOf after line
same_are_of sets after [] same are = tt
same_are_of sets after (node ∷ above) same are = (
  subst (λ (s : Option ClassSet). AreClasses s (what_of node.now.kind)) (sym (same (length above) (omega arith))) are.0,
  same_are_of sets after above (λ height lt. same height (omega (arith, lt))) are.1,
)

-- ---- one set

-- a class and those behind it
or_one : (b here old rest all : Bool) → (old || (here || rest)) ≡ all → b ≡ here → (cond b true old || rest) ≡ all
or_one true true true rest all is same = is
or_one true true false rest all is same = is
or_one true false old rest all is same = absurd cc
or_one false true old rest all is same = absurd cc
or_one false false old rest all is same = is

flip_from : (one other : List ℕ) (b r : Bool) → Decides b (one ≡ other) → Decides r (other ≡ one) → b ≡ r
flip_from one other true true here there = refl
flip_from one other false false here there = refl
flip_from one other true false here there = sym (there.1 (sym (here.0 refl)))
flip_from one other false true here there = here.1 (sym (there.0 refl))

flip : (one other : List ℕ) → bytes_eq one other ≡ bytes_eq other one
flip one other = flip_from one other (bytes_eq one other) (bytes_eq other one) (bytes_eq-Decides one other) (bytes_eq-Decides other one)

pub one_more : (all after : BTreeSet Letters) (classes : List Letters) (i : ℕ) (name : Letters) (key class : List ℕ) (whole : Bool) → i < length classes → name ≡ get_or classes i name → key ≡ string_bytes name
    → contains_text after class ≡ cond (bytes_eq key class) true (contains_text all class)
    → (contains_text all class || some (bytes_eq class) (map (λ c. string_bytes c) (drop i classes))) ≡ whole
    → (contains_text after class || some (bytes_eq class) (map (λ c. string_bytes c) (drop (i + 1) classes))) ≡ whole
unfolding some
one_more all after classes i name key class whole lt is named put before =
    let parted : drop i classes ≡ name ∷ drop (i + 1) classes = drop_more classes i name lt ∙ ap (λ (n : Letters). n ∷ drop (i + 1) classes) (sym is) in
    let rest = some (bytes_eq class) (map (λ (c : Letters). string_bytes c) (drop (i + 1) classes)) in
    let now : (contains_text all class || (bytes_eq class (string_bytes name) || rest)) ≡ whole =
    ap (λ (l : List Letters). contains_text all class || some (bytes_eq class) (map (λ (c : Letters). string_bytes c) l)) (sym parted) ∙ before in
    ap (λ (b : Bool). b || rest) put
    ∙ or_one (bytes_eq key class) (bytes_eq class (string_bytes name)) (contains_text all class) rest whole now (flip key class ∙ ap (bytes_eq class) named)

pub none_more : (all : BTreeSet Letters) (classes : List Letters) (i : ℕ) (class : List ℕ) (whole : Bool) → length classes ≤ i
    → (contains_text all class || some (bytes_eq class) (map (λ c. string_bytes c) (drop i classes))) ≡ whole → contains_text all class ≡ whole
unfolding some
none_more all classes i class whole le before =
    sym (or-false (contains_text all class)) ∙ ap (λ (l : List Letters). contains_text all class || some (bytes_eq class) (map (λ (c : Letters). string_bytes c) l)) (sym (drop_all i classes le)) ∙ before

pub each_same : (one other : List ℕ → Bool) (names : List (List ℕ)) → ((name : List ℕ) → one name ≡ other name) → each one names ≡ each other names
unfolding each
each_same one other [] same = refl
each_same one other (name ∷ names) same = rw (same name, each_same one other names same) refl

-- ---- the set of a node of the line

-- ---- the line that is kept

pub further_are_of : (sets : ClassSets) (nodes : List (Bor Node)) (start : ℕ) → AreOf sets (drop start nodes) → AreOf sets (drop (start + 1) nodes)
further_are_of sets nodes start are = rw (← drop-drop 1 start nodes) (behind_are_of sets (drop start nodes) are)

-- a node before the first
pub with_first_are_of : (sets after : ClassSets) (nodes : List (Bor Node)) (start place : ℕ) (node : Bor Node) → start ≡ place + 1 → start ≤ 64 → length nodes ≡ 64
    → ((height : ℕ) → height ≢ 64 - start → set_at after height ≡ set_at sets height) → AreClasses (set_at after (64 - start)) (what_of node.now.kind)
    → AreOf sets (drop start nodes) → AreOf after (drop place (set nodes place node))
with_first_are_of sets after nodes start place node next le long others placed are =
    let height : length (drop start nodes) ≡ 64 - start = length-drop start nodes ∙ ap (λ (n : ℕ). n - start) long in
    rw (drop-set nodes place node (omega (arith, long, next, le)), ← next) (
      subst (λ (n : ℕ). AreClasses (set_at after n) (what_of node.now.kind)) (sym height) placed,
      same_are_of sets after (drop start nodes) (λ h lt. others h (λ same. absurd (omega (arith, lt, height, same)))) are,
    )
