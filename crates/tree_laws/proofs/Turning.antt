-- Nodes that went can stand again one after the other: in document order each stands behind its parent, and none is there twice.
use Rattle.std.proofs.Common.{◌≡◌, ◌∙◌, ℕ, zero, suc, ◌+◌, ◌≤◌, List, [], ◌∷◌, ◌++◌, append-nil, append_assoc, refl, ap, sym, subst, arith, Option, Some, None, inl, inr}
use Rattle.std.specs.Prelude.{filter_map, flat_map, is_some, option_to_list, unwrap_or, ⊤}
use Rattle.std.specs.List.{Contains}
use Rattle.std.proofs.lemmas.Bool.{cases_eq}
use Rattle.std.proofs.lemmas.List.Elements.{Contains-append_cases, Contains-append_left, Contains-append_right}
use Rattle.std.proofs.lemmas.Option.{none-some}
use Rattle.basic_laws.proofs.Lists.{any_contained, contains_first, contains_only, contains_other}
use Rattle.dom_store.specs.State.{Entry, State}
use Rattle.dom_store.specs.Standing.{below_levels, children_at, parent_at}
use Rattle.dom_store.specs.Exactly.{CanStand}
use Rattle.dom_store.specs.Steps.{numbered_of}
use Rattle.tree_laws.specs.Reached.{IsAtLevel}
use Rattle.tree_laws.specs.Wholeness.{IsWhole, times}
use Rattle.tree_laws.proofs.Judging.{not_among}
use Rattle.tree_laws.proofs.Keeping.{parent_of}
use Rattle.tree_laws.proofs.Levels.{IsBelow, chain_of_descendant, flat_contained, level_below, parent_of_child, times_contained}
use Rattle.tree_laws.proofs.Refusing.{lives_below}
use Rattle.tree_laws.proofs.Times.{hit, hit_apart, hit_same}
use Rattle.tree_laws.proofs.Uniqueness.{lower_apart, one_above, one_level}

-- ---- numbers in turn

-- each number isn't among these yet, and its parent is, where it joins those before the next one
abbrev InTurn : State → (standing : List ℕ) → List ℕ → Type 0
InTurn state standing [] = ⊤
InTurn state standing (number ∷ numbers) =
    (Contains standing number → ⊥) × ((parent : ℕ) × (parent_at state number ≡ Some parent) × Contains standing parent) × InTurn state (standing ++ number ∷ []) numbers

both_in_turn : (state : State) (standing one two : List ℕ) → InTurn state standing one → InTurn state (standing ++ one) two → InTurn state standing (one ++ two)
both_in_turn state standing [] two first later = subst (λ (l : List ℕ). InTurn state l two) (append-nil standing) later
both_in_turn state standing (number ∷ one) two (new, parent, first) later =
    (new, parent, both_in_turn state (standing ++ number ∷ []) one two first (subst (λ (l : List ℕ). InTurn state l two) (sym (append_assoc standing (number ∷ []) one)) later))

-- none of these is among those
abbrev AreNew : (standing numbers : List ℕ) → Type 0
AreNew standing numbers = (number : ℕ) → Contains numbers number → Contains standing number → ⊥

hit_few : (number other : ℕ) → hit number other ≤ 1
hit_few number other = elim (cases_eq number other) [
  | inl same ↦ omega (arith, subst (λ (n : ℕ). hit number n ≡ 1) same (hit_same number))
  | inr apart ↦ omega (arith, hit_apart number other apart)
]

-- ---- a node and those below it

module _ (state : State) (whole : IsWhole state) where
  abbrev part : (levels top : ℕ) → List ℕ
  part levels top = below_levels 0 levels state top

  abbrev TurnsBelow : (levels level : ℕ) → Type 0
  TurnsBelow levels level = (top upper : ℕ) (standing : List ℕ) → IsAtLevel state level upper → Contains (children_at state upper) top → Contains standing upper → AreNew standing (part levels top) → InTurn state standing (part levels top)

  -- two nodes at one level have nothing below them in common
  parts_apart : (most level one other number : ℕ) → IsAtLevel state level one → IsAtLevel state level other → Contains (part most one) number → Contains (part most other) number → one ≡ other
  parts_apart most level one other number here there in_one in_other =
      let (deep, none, few, below) = chain_of_descendant state most 0 one number in_one in
      let (far, free, low, also) = chain_of_descendant state most 0 other number in_other in
      let sum : level + deep ≡ level + far = one_level state whole (level + deep) (level + far) number (level_below state level deep one number here below) (level_below state level far other number there also) in
      let same : far ≡ deep = omega (arith, sum) in
      one_above state whole deep one other number below (subst (λ (n : ℕ). IsBelow state other n number) same also)

  module _ (most level top : ℕ) (at : IsAtLevel state level top) (turns : TurnsBelow most level) where
    children_turn : (children standing : List ℕ) → ((child : ℕ) → Contains children child → Contains (children_at state top) child) → ((child : ℕ) → times child children ≤ 1) → Contains standing top
        → AreNew standing (flat_map (part most) children) → InTurn state standing (flat_map (part most) children)
    children_turn [] standing are once stands new = tt
    children_turn (child ∷ children) standing are once stands new =
        both_in_turn state standing (part most child) (flat_map (part most) children)
        (turns child top standing at (are child (contains_first child children)) stands (λ number there. new number (Contains-append_left (part most child) (flat_map (part most) children) number there)))
        (children_turn children (standing ++ part most child) (λ other among. are other (contains_other child other children among)) (λ other. omega (arith, once other))
        (Contains-append_left standing (part most child) top stands)
        (λ number there before. elim (Contains-append_cases standing (part most child) number before) [
          | inl early ↦ new number (Contains-append_right (part most child) (flat_map (part most) children) number there) early
          | inr within ↦
              let (other, among, inner) = flat_contained (part most) children number there in
              let same : child ≡ other =
              parts_apart most (suc level) child other number (top, at, are child (contains_first child children)) (top, at, are other (contains_other child other children among)) within inner in
              let twice : 1 ≤ times child children = times_contained children child (subst (Contains children) (sym same) among) in
              absurd (omega (arith, twice, once child, hit_same child))
        ]))

  once_among : (upper child : ℕ) → times child (children_at state upper) ≤ 1
  once_among upper child = by (parent_at state child) (whole.inside upper child)
    where
      by : (parent : Option ℕ) → times child (children_at state upper) ≤ times upper (option_to_list parent) → times child (children_at state upper) ≤ 1
      by None inside = omega (arith, inside)
      by (Some parent) inside = omega (arith, inside, hit_few upper parent)

  pub turns_below : (most level : ℕ) → TurnsBelow most level
  unfolding below_levels
  turns_below zero level top upper standing at there stands new = tt
  turns_below (suc most) level top upper standing at there stands new = (
    new top (contains_first top (flat_map (part most) (children_at state top))),
    (upper, parent_of_child state whole upper top there, stands),
    children_turn most (suc level) top (upper, at, there) (turns_below most (suc level)) (children_at state top) (standing ++ top ∷ []) (λ child among. among) (once_among top)
        (Contains-append_right standing (top ∷ []) top (contains_first top []))
        (λ number below before. elim (Contains-append_cases standing (top ∷ []) number before) [
          | inl early ↦ new number (contains_other top number (flat_map (part most) (children_at state top)) below) early
          | inr last ↦
              let (child, among, inner) = flat_contained (part most) (children_at state top) number below in
              let (levels, none, few, chain) = chain_of_descendant state most 0 child number inner in
              let lower = level_below state (suc (suc level)) levels child number (top, (upper, at, there), among) chain in
              absurd (lower_apart state whole (suc level) (suc (suc level) + levels) top number (upper, at, there) lower (omega arith) (contains_only top number last))
        ]),
  )

-- ---- the nodes of numbers in turn

module _ (state later : State) (whole : IsWhole state) (drawn : state.next ≤ later.next) where
  pub can_stand : (numbers standing : List ℕ) → ((number : ℕ) → Contains numbers number → later.node_at number ≡ None) → InTurn state standing numbers → CanStand later standing (filter_map (numbered_of state) numbers)
  unfolding CanStand
  can_stand [] standing gone turn = tt
  can_stand (number ∷ numbers) standing gone (new, (parent, is, stands), turn) =
      by (state.node_at number) refl (can_stand numbers (standing ++ number ∷ []) (λ other there. gone other (contains_other number other numbers there)) turn)
    where
      by : (o : Option Entry) → state.node_at number ≡ o → CanStand later (standing ++ number ∷ []) (filter_map (numbered_of state) numbers) → CanStand later standing (filter_map (numbered_of state) (number ∷ numbers))
      by None at others = absurd (none-some parent (sym (ap parent_of at) ∙ is))
      by (Some entry) at others =
          let own : unwrap_or entry.parent 0 ≡ parent = ap (λ (o : Option ℕ). unwrap_or o 0) (sym (ap parent_of at) ∙ is) in
          let alive = ap (λ (o : Option Entry). is_some o) at in
          rw at (
            record {
              drawn = omega (arith, drawn, lives_below state whole number alive);
              gone = gone number (contains_first number numbers);
              once = not_among standing number new;
              parent = any_contained standing (unwrap_or entry.parent 0) (subst (Contains standing) (sym own) stands);
            },
            others,
          )
