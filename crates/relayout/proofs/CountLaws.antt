-- How often boxes are laid out and texts prepared, step by step.
use Rattle.std.proofs.Common.{◌≡◌, ◌∙◌, refl, sym, ap, subst, arith, ℕ, zero, suc, ◌+◌, ◌≤◌, List, [], ◌∷◌, Option, Some, None}
use Rattle.std.specs.Prelude.{Contains, IfSome, IsSome, option_and_then}
use Rattle.std.proofs.lemmas.Option.{none-some}
use Rattle.fragment_types.specs.declared.constraint.Constraint.{Constraint}
use Rattle.style_types.specs.declared.style.Style.{Style}
use Rattle.fragment_types.specs.Fragment.{Pieces}
use Rattle.box_arena.specs.Arena.{SameLinks, SameNodes}
use Rattle.box_arena.specs.At.{IsAbove, Node, Slots, first_at, kept_at, links_at, next_at, node_at, parent_at, text_at}
use Rattle.box_arena.specs.Boxes.{StandFrom}
use Rattle.box_arena.specs.Links.{Climbs, IsIn, first_of, next_of, parent_of}
use Rattle.box_gen.specs.Tree.{Boxes, Content, blocks, box, inline, none as no_boxes}
use Rattle.para_prepare.specs.Preparation.{Preparation}
use Rattle.relayout.specs.declared.sizes.Containing.{Containing}
use Rattle.relayout.specs.Asks.{contributes_under, put_under}
use Rattle.relayout.specs.Counts.{AreFounded, Ask, Covers, EachMet, HaveKeys, IsFounded, IsRowKept, lacking, one_if_none}
use Rattle.relayout.specs.Inline.{Outside}
use Rattle.relayout.specs.Kept.{containing_at, containing_by}
use Rattle.relayout.specs.Paragraph.{HasText}
use Rattle.relayout.specs.Sizes.{containing_of}

-- ---- what is lacking

module _ {A B : Type 0} (find later : A → Option B) where
  one_less : (one other : Option B) → (IsSome one → IsSome other) → one_if_none other ≤ one_if_none one
  one_less None None on = omega arith
  one_less None (Some y) on = omega arith
  one_less (Some x) None on = let p = on refl in absurd (cc)
  one_less (Some x) (Some y) on = omega arith

  one_falls : (one other : Option B) → one ≡ None → IsSome other → one_if_none other + 1 ≤ one_if_none one
  one_falls None None gone there = absurd (cc)
  one_falls None (Some y) gone there = omega arith
  one_falls (Some x) other gone there = absurd (none-some x (sym gone))

  pub lacking_less : ((x : A) → IsSome (find x) → IsSome (later x)) → (xs : List A) → lacking later xs ≤ lacking find xs
  lacking_less on [] = omega arith
  lacking_less on (x ∷ xs) =
      let one = one_less (find x) (later x) (on x) in
      let others = lacking_less on xs in
      omega (arith, one, others)

  pub lacking_falls : ((x : A) → IsSome (find x) → IsSome (later x)) → (xs : List A) (x : A) → Contains xs x → find x ≡ None → IsSome (later x) → lacking later xs + 1 ≤ lacking find xs
  lacking_falls on [] x (n, short, is) gone there = absurd (omega (arith, short))
  lacking_falls on (y ∷ xs) x (zero, short, is) gone there =
      let P : A → Type 0 = λ z. one_if_none (later z) + 1 ≤ one_if_none (find z) in
      let one = subst P (sym is) (one_falls (find x) (later x) gone there) in
      let others = lacking_less on xs in
      omega (arith, one, others)
  lacking_falls on (y ∷ xs) x (suc n, short, is) gone there =
      let one = one_less (find y) (later y) (on y) in
      let others = lacking_falls on xs x (n, omega (arith, short), is) gone there in
      omega (arith, one, others)

-- one that is lacking counts
pub lacking_some : {A B : Type 0} (find : A → Option B) (xs : List A) (x : A) → Contains xs x → find x ≡ None → 1 ≤ lacking find xs
lacking_some find [] x (n, short, is) gone = absurd (omega (arith, short))
lacking_some {A} {B} find (y ∷ xs) x (zero, short, is) gone =
    let P : A → Type 0 = λ z. 1 ≤ one_if_none (find z) in
    let Q : Option B → Type 0 = λ o. 1 ≤ one_if_none o in
    let one = subst P (sym is) (subst Q (sym gone) (omega arith)) in
    omega (arith, one)
lacking_some find (y ∷ xs) x (suc n, short, is) gone =
    let others = lacking_some find xs x (n, omega (arith, short), is) gone in
    omega (arith, others)

-- ---- where the same boxes stand, and what was kept is kept

pub record Follows (old new : Slots Preparation) : Type 0 where
  pub links : SameLinks old new
  pub nodes : SameNodes old new
  pub texts : (k : ℕ) → IsSome (text_at old k) → IsSome (text_at new k)
  pub kept : (k : ℕ) (c : Constraint) → IsSome (kept_at old k c) → IsSome (kept_at new k c)

pub follows_then : (old mid new : Slots Preparation) → Follows old mid → Follows mid new → Follows old new
follows_then old mid new one other = record {
  links = λ k. other.links k ∙ one.links k;
  nodes = λ k. other.nodes k ∙ one.nodes k;
  texts = λ k there. other.texts k (one.texts k there);
  kept = λ k c there. other.kept k c (one.kept k c there);
}

pub if_some_on : (o : Option Constraint) (P Q : Constraint → Type 0) → ((c : Constraint) → P c → Q c) → IfSome o P → IfSome o Q
if_some_on None P Q on holds = tt
if_some_on (Some c) P Q on holds = on c holds

pub none_before : {A : Type 0} (one other : Option A) → (IsSome one → IsSome other) → other ≡ None → one ≡ None
none_before None other on gone = refl
none_before {A} (Some x) other on gone =
    let P : Option A → Type 0 = λ o. IsSome o in
    let there = subst P gone (on refl) in
    absurd (cc)

module _ (old new : Slots Preparation) (links : SameLinks old new) where
  pub same_first : (k : ℕ) → first_at new k ≡ first_at old k
  same_first k = ap first_of (links k)

  pub same_next : (k : ℕ) → next_at new k ≡ next_at old k
  same_next k = ap next_of (links k)

  climbs_on : (n : ℕ) (from : Option ℕ) (k : ℕ) → Climbs n (links_at old) from k → Climbs n (links_at new) from k
  climbs_on zero from k is = is
  climbs_on (suc n) from k (p, is, rest) =
      let P : Option ℕ → Type 0 = λ o. Climbs n (links_at new) o k in
      (p, is, subst P (sym (ap parent_of (links p))) (climbs_on n (parent_at old p) k rest))

  pub above_on : (k key : ℕ) → IsAbove old k key → IsAbove new k key
  above_on k key (n, climbs) = (n, climbs_on n (Some key) k climbs)

  pub is_in_on : (p : ℕ) (o : Option ℕ) → IsIn (links_at old) p o → IsIn (links_at new) p o
  is_in_on p None inside = tt
  is_in_on p (Some k) inside = ap parent_of (links k) ∙ inside

  pub have_keys_on : (keys : List ℕ) (from : Option ℕ) (tree : Boxes) → HaveKeys keys old from tree → HaveKeys keys new from tree
  have_keys_on keys from no_boxes have = tt
  have_keys_on keys from (box name style content inner next) have = λ key is.
      let (here, below, behind) = have key is in
      let P : Option ℕ → Type 0 = λ o. HaveKeys keys new o inner in
      let Q : Option ℕ → Type 0 = λ o. HaveKeys keys new o next in
      (here, subst P (sym (same_first key)) (have_keys_on keys (first_at old key) inner below), subst Q (sym (same_next key)) (have_keys_on keys (next_at old key) next behind))

  module _ (results later : Slots Preparation) (c : Constraint) (on : (k : ℕ) → IsSome (kept_at results k c) → IsSome (kept_at later k c)) where
    pub row_kept_on : (from : Option ℕ) (tree : Boxes) → IsRowKept results old from tree c → IsRowKept later new from tree c
    row_kept_on from no_boxes kept = tt
    row_kept_on from (box name style content inner next) kept = λ key is.
        let (here, behind) = kept key is in
        let P : Option ℕ → Type 0 = λ o. IsRowKept later new o next c in
        (on key here, subst P (sym (same_next key)) (row_kept_on (next_at old key) next behind))

  module _ (outside : Outside) (P Goes Q Went : ℕ → Constraint → Type 0) (on : (k : ℕ) (c : Constraint) → P k c → Q k c) (back : (k : ℕ) (c : Constraint) → Went k c → Goes k c) where
    met_on : (from : Option ℕ) (containing : Containing) (tree : Boxes) (c : Constraint) → EachMet P Goes outside old from containing tree c → EachMet Q Went outside new from containing tree c
    met_on from containing no_boxes c each = tt
    met_on from containing (box name style content inner next) c each = λ key is.
        let (here, below, behind) = each key is in
        let node : Node = record { name = name; style = style; content = content } in
        let A : Constraint → Type 0 = λ d. EachMet P Goes outside old (first_at old key) (containing_of style) inner d in
        let B : Constraint → Type 0 = λ d. EachMet Q Went outside new (first_at new key) (containing_of style) inner d in
        let C : Option ℕ → Type 0 = λ o. EachMet Q Went outside new o containing next c in
        let step : (d : Constraint) → A d → B d = λ d holds.
        let D : Option ℕ → Type 0 = λ o. EachMet Q Went outside new o (containing_of style) inner d in
        subst D (sym (same_first key)) (met_on (first_at old key) (containing_of style) inner d holds) in (
          on key c here,
          (λ went. let both = below (back key c went) in (if_some_on (contributes_under containing node c) A B step both.0, if_some_on (put_under outside containing node c inner) A B step both.1)),
          subst C (sym (same_next key)) (met_on (next_at old key) containing next c behind),
        )

-- what covers all that is met goes on covering it
pub covers_on : (old new : Slots Preparation) → Follows old new → (asks : List Ask) (outside : Outside) (from : Option ℕ) (containing : Containing) (tree : Boxes) (c : Constraint)
    → Covers asks outside old from containing tree c → Covers asks outside new from containing tree c
covers_on old new follows asks outside =
    met_on old new follows.links outside (λ key c. Contains asks (record { key = key; constraint = c })) (λ key c. kept_at old key c ≡ None) (λ key c. Contains asks (record { key = key; constraint = c })) (λ key c. kept_at new key c ≡ None)
    (λ k c holds. holds) (λ k c gone. none_before (kept_at old k c) (kept_at new k c) (follows.kept k c) gone)

pub stand_on : (old new : Slots Preparation) → Follows old new → (from : Option ℕ) (tree : Boxes) → StandFrom old from tree → StandFrom new from tree
stand_on old new follows from no_boxes stand = stand
stand_on old new follows from (box name style content inner next) (key, is, node, within, behind) =
    let P : Option ℕ → Type 0 = λ o. StandFrom new o inner in
    let Q : Option ℕ → Type 0 = λ o. StandFrom new o next in (
      key,
      is,
      follows.nodes key ∙ node,
      subst P (sym (ap first_of (follows.links key))) (stand_on old new follows (first_at old key) inner within),
      subst Q (sym (ap next_of (follows.links key))) (stand_on old new follows (next_at old key) next behind),
    )

-- ---- what results rest on

pub has_text_on : (content : Content) (one other : Option Preparation) → (IsSome one → IsSome other) → HasText content one → HasText content other
has_text_on blocks one other on has = tt
has_text_on (inline items) one other on has = on has

pub founded_on : (outside : Outside) (old new : Slots Preparation) → Follows old new → (key : ℕ) (containing : Containing) (node : Node) (inner : Boxes) (c : Constraint)
    → IsFounded outside old key containing node inner c → IsFounded outside new key containing node inner c
founded_on outside old new follows key containing node inner c is = record {
  text = has_text_on node.content (text_at old key) (text_at new key) (follows.texts key) is.text;
  contributions = if_some_on (contributes_under containing node c) A B step is.contributions;
  inside = if_some_on (put_under outside containing node c inner) A B step is.inside;
} where
  A : Constraint → Type 0
  A d = IsRowKept old old (first_at old key) inner d

  B : Constraint → Type 0
  B d = IsRowKept new new (first_at new key) inner d

  step : (d : Constraint) → A d → B d
  step d kept =
      let P : Option ℕ → Type 0 = λ o. IsRowKept new new o inner d in
      subst P (sym (ap first_of (follows.links key))) (row_kept_on old new follows.links old new d (λ k. follows.kept k d) (first_at old key) inner kept)

-- one box's standing, moved back
pub stood_back : (old new : Slots Preparation) → Follows old new → (from : Option ℕ) (tree : Boxes) → StandFrom new from tree → StandFrom old from tree
stood_back old new follows from no_boxes stand = stand
stood_back old new follows from (box name style content inner next) (key, is, node, within, behind) =
    let P : Option ℕ → Type 0 = λ o. StandFrom new o inner in
    let Q : Option ℕ → Type 0 = λ o. StandFrom new o next in (
      key,
      is,
      sym (follows.nodes key) ∙ node,
      stood_back old new follows (first_at old key) inner (subst P (ap first_of (follows.links key)) within),
      stood_back old new follows (next_at old key) next (subst Q (ap next_of (follows.links key)) behind),
    )

pub same_place : (old new : Slots Preparation) → Follows old new → (key : ℕ) (style : Style) → containing_at new key style ≡ containing_at old key style
same_place old new follows key style =
    ap (λ (parent : Option ℕ). containing_by (option_and_then (node_at new) parent) style) (ap parent_of (follows.links key))
    ∙ ap (λ (node : Option Node). containing_by node style) (by (parent_at old key)) where
      by : (parent : Option ℕ) → option_and_then (node_at new) parent ≡ option_and_then (node_at old) parent
      by None = refl
      by (Some p) = follows.nodes p

-- where all results that are kept were kept
pub founded_here : (outside : Outside) (old new : Slots Preparation) → Follows old new → AreFounded outside old → (key : ℕ) (c : Constraint) → IsSome (kept_at old key c)
    → (node : Node) → node_at new key ≡ Some node → (inner : Boxes) → StandFrom new (first_at new key) inner → IsFounded outside new key (containing_at new key node.style) node inner c
founded_here outside old new follows founded key c there node is inner within =
    let P : Option ℕ → Type 0 = λ o. StandFrom new o inner in
    let Q : Containing → Type 0 = λ x. IsFounded outside new key x node inner c in
    subst Q (sym (same_place old new follows key node.style))
    (founded_on outside old new follows key (containing_at old key node.style) node inner c
    (founded key c there node (sym (follows.nodes key) ∙ is) inner (stood_back old new follows (first_at old key) inner (subst P (ap first_of (follows.links key)) within))))

pub founded_same : (outside : Outside) (old new : Slots Preparation) → Follows old new → ((k : ℕ) (c : Constraint) → kept_at new k c ≡ kept_at old k c) → AreFounded outside old → AreFounded outside new
founded_same outside old new follows same founded key c there =
    let P : Option Pieces → Type 0 = λ o. IsSome o in
    founded_here outside old new follows founded key c (subst P (same key c) there)
