-- No two boxes have one name, where no two nodes have one number.
use Rattle.std.proofs.Common.{◌≡◌, ℕ, suc, ◌+◌, ◌≤◌, Bool, true, false, ◌&&◌, List, [], ◌∷◌, ◌++◌, refl, ap, arith, inl, inr}
use Rattle.std.specs.Prelude.{nat_eq, nat_lt}
use Rattle.std.specs.List.{AllByRecursion, IsDistinct}
use Rattle.std.proofs.lemmas.Bool.{cases_lt, eq-eqb, le-ltb, lt-ltb}
use Rattle.std.proofs.lemmas.Bool.Decides.{eqb_tells}
use Rattle.fragment_types.specs.declared.item.BoxName.{BoxName}
use Rattle.style_types.specs.declared.style.Style.{Style}
use Rattle.style_types.specs.Tree as styled
use Rattle.style_types.specs.Tree.{Nodes}
use Rattle.box_gen.specs.declared.opened.Opened.{Opened}
use Rattle.box_gen.specs.Boxes.{Blocks, Role, Run, atom, block_level, container, content, inline_box, join, line_break, made, no_more, nothing, parts_by, role_of, root_boxes, runs, stacked, then, without_innermost, words, wrapped}
use Rattle.box_gen.specs.Parts as part
use Rattle.box_gen.specs.Parts.{Part, has_block}
use Rattle.box_gen.specs.Places.{AreNamedOnce, BoxesAreNamedOnce, names, numbers, same_name}
use Rattle.box_gen.specs.Tree.{Boxes, box, none}

-- ---- how often something is in a list

abbrev pub one_if : Bool → ℕ
one_if true = 1
one_if false = 0

module _ {A : Type 0} (same : A → A → Bool) where
  unfoldable pub tally : A → List A → ℕ
  tally one [] = 0
  tally one (other ∷ others) = one_if (same one other) + tally one others

  pub tally_both : (one : A) (some others : List A) → tally one (some ++ others) ≡ tally one some + tally one others
  unfolding tally
  tally_both one [] others = omega arith
  tally_both one (other ∷ some) others = omega (arith, tally_both one some others)

  apart_by : (told : Bool) (rest : ℕ) → one_if told + rest ≤ 0 → (told ≡ false) × (rest ≤ 0)
  apart_by true rest few = absurd (omega (arith, few))
  apart_by false rest few = (refl, omega (arith, few))

  none_same : (one : A) (others : List A) → tally one others ≤ 0 → AllByRecursion (λ other. same one other ≡ false) others
  unfolding tally
  none_same one [] few = tt
  none_same one (other ∷ others) few = let (here, later) = apart_by (same one other) (tally one others) few in (here, none_same one others later)

  -- each is there no more than once
  distinct : ((one : A) → same one one ≡ true) → (some : List A) → ((one : A) → tally one some ≤ 1) → IsDistinct same some
  unfolding tally IsDistinct
  distinct itself [] once = tt
  distinct itself (first ∷ others) once =
      let here : one_if (same first first) ≡ 1 = ap one_if (itself first) in (
        none_same first others (omega (arith, here, once first)),
        distinct itself others (λ one. omega (arith, once one)),
      )

  -- not there
  never : (one : A) (others : List A) → AllByRecursion (λ other. same one other ≡ false) others → tally one others ≡ 0
  unfolding tally
  never one [] apart = refl
  never one (other ∷ others) (here, later) = rw here (omega (arith, never one others later))

-- how often a number is in a list
hit : (number other : ℕ) → ℕ
hit number other = one_if (nat_eq number other)

number_once : (number : ℕ) (some : List ℕ) → IsDistinct nat_eq some → tally nat_eq number some ≤ 1
unfolding tally IsDistinct
number_once number [] distinct_ = omega arith
number_once number (other ∷ others) (apart, rest) = elim (eqb_tells number other) [
  | inl (here, is) ↦ rw here (omega (arith, ap (λ (n : ℕ). tally nat_eq n others) is, never nat_eq other others apart))
  | inr (there, differ) ↦ rw there (omega (arith, number_once number others rest))
]

name_itself : (name : BoxName) → same_name name name ≡ true
name_itself name = rw (eq-eqb name.node name.node refl) (eq-eqb name.ordinal name.ordinal refl)

-- ---- how often boxes have a name

module _ (name : BoxName) where
  hits : BoxName → ℕ
  hits other = one_if (same_name name other)

  met : Boxes → ℕ
  met none = 0
  met (box own style content inner next) = hits own + (met inner + met next)

  met_named : (boxes : Boxes) → tally same_name name (names boxes) ≡ met boxes
  unfolding met hits tally
  met_named none = refl
  met_named (box own style content inner next) = omega (arith, tally_both same_name name (names inner) (names next), met_named inner, met_named next)

  met_join : (boxes others : Boxes) → met (join boxes others) ≡ met boxes + met others
  unfolding met join
  met_join none others = omega arith
  met_join (box own style content inner next) others = omega (arith, met_join next others)

  -- ---- of a list of parts, and of its runs

  parts_met : List Part → ℕ
  parts_met [] = 0
  parts_met (part.words number letters style ∷ parts) = parts_met parts
  parts_met (part.line_break number ∷ parts) = parts_met parts
  parts_met (part.atom number own ∷ parts) = met own + parts_met parts
  parts_met (part.block_level own ∷ parts) = met own + parts_met parts
  parts_met (part.starts number style ∷ parts) = parts_met parts
  parts_met (part.stops number is_cut ∷ parts) = parts_met parts

  parts_both : (one two : List Part) → parts_met (one ++ two) ≡ parts_met one + parts_met two
  unfolding parts_met
  parts_both [] two = omega arith
  parts_both (part.words number letters style ∷ one) two = parts_both one two
  parts_both (part.line_break number ∷ one) two = parts_both one two
  parts_both (part.atom number own ∷ one) two = omega (arith, parts_both one two)
  parts_both (part.block_level own ∷ one) two = omega (arith, parts_both one two)
  parts_both (part.starts number style ∷ one) two = parts_both one two
  parts_both (part.stops number is_cut ∷ one) two = parts_both one two

  blocks_met : Blocks → ℕ
  blocks_met no_more = 0
  blocks_met (then block run others) = met block + (met run.atoms + blocks_met others)

  runs_met : (opened : List Opened) (parts : List Part) → met (runs opened parts).first.atoms + blocks_met (runs opened parts).others ≡ parts_met parts
  unfolding runs join met parts_met blocks_met
  runs_met opened [] = refl
  runs_met opened (part.words number letters style ∷ parts) = runs_met opened parts
  runs_met opened (part.line_break number ∷ parts) = runs_met opened parts
  runs_met opened (part.atom number own ∷ parts) = omega (arith, met_join own (runs opened parts).first.atoms, runs_met opened parts)
  runs_met opened (part.block_level own ∷ parts) = omega (arith, runs_met opened parts)
  runs_met opened (part.starts number style ∷ parts) = runs_met ((record { node = number; style = style }) ∷ opened) parts
  runs_met opened (part.stops number is_cut ∷ parts) = runs_met (without_innermost opened) parts

  -- ---- of a container

  -- whether it is the name of an anonymous block behind the one of this ordinal
  late : (number ordinal : ℕ) → ℕ
  late number ordinal = one_if (nat_eq name.node number && nat_lt ordinal name.ordinal)

  next_by : (told : Bool) (ordinal : ℕ)
      → one_if (told && nat_eq name.ordinal (suc ordinal)) + one_if (told && nat_lt (suc ordinal) name.ordinal) ≤ one_if (told && nat_lt ordinal name.ordinal)
  next_by false ordinal = omega arith
  next_by true ordinal = elim (eqb_tells name.ordinal (suc ordinal)) [
    | inl (here, is) ↦
        let past : nat_lt (suc ordinal) name.ordinal ≡ false = le-ltb (suc ordinal) name.ordinal (omega (arith, is)) in
        let before : nat_lt ordinal name.ordinal ≡ true = lt-ltb ordinal name.ordinal (omega (arith, is)) in
        rw here (rw past (rw before (omega arith)))
    | inr (there, apart) ↦ rw there (elim (cases_lt (suc ordinal) name.ordinal) [
      | inl less ↦ rw (lt-ltb (suc ordinal) name.ordinal less) (rw (lt-ltb ordinal name.ordinal (omega (arith, less))) (omega arith))
      | inr more ↦ rw (le-ltb (suc ordinal) name.ordinal more) (omega arith)
    ])
  ]

  first_by : (told : Bool) → one_if (told && nat_eq name.ordinal 0) + one_if (told && nat_lt 0 name.ordinal) ≤ one_if told
  first_by false = omega arith
  first_by true = elim (eqb_tells name.ordinal 0) [
    | inl (here, is) ↦
        let past : nat_lt 0 name.ordinal ≡ false = le-ltb 0 name.ordinal (omega (arith, is)) in
        rw here (rw past (omega arith))
    | inr (there, apart) ↦ rw there (elim (cases_lt 0 name.ordinal) [
      | inl less ↦ rw (lt-ltb 0 name.ordinal less) (omega arith)
      | inr more ↦ rw (le-ltb 0 name.ordinal more) (omega arith)
    ])
  ]

  module _ (number : ℕ) (style : Style) where
    wrapped_met : (blank : Bool) (ordinal : ℕ) (run : Run) (others : ℕ → Boxes) (rest : ℕ) → ((n : ℕ) → met (others n) ≤ late number n + rest)
        → met (wrapped blank number ordinal style run others) ≤ late number ordinal + (met run.atoms + rest)
    unfolding met hits late
    wrapped_met true ordinal run others rest each = omega (arith, each ordinal)
    wrapped_met false ordinal run others rest each = omega (arith, each (suc ordinal), next_by (nat_eq name.node number) ordinal)

    stacked_met : (held : Blocks) (ordinal : ℕ) → met (stacked number style held ordinal) ≤ late number ordinal + blocks_met held
    unfolding stacked met blocks_met
    stacked_met no_more ordinal = omega arith
    stacked_met (then block run others) ordinal = omega (
      arith,
      met_join block (wrapped run.blank number ordinal style run (stacked number style others)),
      wrapped_met run.blank ordinal run (stacked number style others) (blocks_met others) (stacked_met others),
    )

    container_met : (first : Run) (others : Blocks) → met (container number style first others) ≤ hit name.node number + (met first.atoms + blocks_met others)
    unfolding met hits hit late blocks_met
    container_met first no_more = omega (arith, first_by (nat_eq name.node number))
    container_met first (then block run others) = omega (
      arith,
      first_by (nat_eq name.node number),
      wrapped_met first.blank 0 first (stacked number style (then block run others)) (blocks_met (then block run others)) (stacked_met (then block run others)),
    )

    made_met : (parts : List Part) → met (made number style parts) ≤ hit name.node number + parts_met parts
    made_met parts = omega (arith, container_met (runs [] parts).first (runs [] parts).others, runs_met [] parts)

  -- ---- of the content of nodes

  role_met : (role : Role) (number : ℕ) (style : Style) (inner : List Part) → parts_met (parts_by role number style inner) ≤ hit name.node number + parts_met inner
  unfolding parts_met
  role_met nothing number style inner = omega arith
  role_met (words letters) number style inner = omega arith
  role_met line_break number style inner = omega arith
  role_met inline_box number style inner = omega (arith, parts_both inner (part.stops number (has_block inner) ∷ []))
  role_met atom number style inner = omega (arith, made_met number style inner)
  role_met block_level number style inner = omega (arith, made_met number style inner)

  content_met : (nodes : Nodes) → parts_met (content nodes) ≤ tally nat_eq name.node (numbers nodes)
  unfolding content parts_met tally hit
  content_met styled.none = omega arith
  content_met (styled.node number kind style inner next) = omega (
    arith,
    parts_both (parts_by (role_of kind style) number style (content inner)) (content next),
    role_met (role_of kind style) number style (content inner),
    content_met inner,
    content_met next,
    tally_both nat_eq name.node (numbers inner) (numbers next),
  )

  page_met : (nodes : Nodes) → met (root_boxes nodes) ≤ tally nat_eq name.node (numbers nodes)
  unfolding met tally hit
  page_met styled.none = omega arith
  page_met (styled.node number kind style inner next) =
      omega (arith, made_met number style (content inner), content_met inner, tally_both nat_eq name.node (numbers inner) (numbers next))

-- where each number is there no more than once
pub named_once : (nodes : Nodes) → ((number : ℕ) → tally nat_eq number (numbers nodes) ≤ 1) → AreNamedOnce (root_boxes nodes)
named_once nodes once =
    distinct same_name name_itself (names (root_boxes nodes)) (λ name. omega (arith, met_named name (root_boxes nodes), page_met name nodes, once name.node))

pub boxes_are_named_once : BoxesAreNamedOnce
boxes_are_named_once nodes distinct_ = named_once nodes (λ number. number_once number (numbers nodes) distinct_)
