-- Names of boxes in an arena in which one tree stands alone.
use Rattle.std.proofs.Common.{◌≡◌, ◌∙◌, ℕ, zero, suc, List, [], ◌∷◌, ◌++◌, Bool, nat_eq, true, false, Option, Some, None, refl, sym, ap, ap₂, subst, arith, inl, inr}
use Rattle.std.specs.Prelude.{◌⊎◌, ◌&&◌}
use Rattle.std.specs.List.{AllByRecursion, IsDistinct}
use Rattle.std.proofs.lemmas.Bool.Decides.{nat_tests}
use Rattle.std.proofs.lemmas.Option.{same_Some}
use Rattle.fragment_types.specs.declared.item.BoxName.{BoxName}
use Rattle.style_types.specs.declared.style.Style.{Style}
use Rattle.box_gen.specs.Places.{names, same_name}
use Rattle.box_gen.specs.Tree.{Boxes, Content, box, none}
use Rattle.box_arena.specs.At.{Node, Slots, first_at, links_at, next_at, node_at}
use Rattle.box_arena.specs.Boxes.{StandFrom, Stands}
use Rattle.box_arena.specs.Laws.{PlantedAreNamedOnce}
use Rattle.box_arena.specs.Links.{Climbs, IsLinked}
use Rattle.box_arena.proofs.AllHanded.{IsInRow, above_split, in_row}
use Rattle.box_arena.proofs.Planted.{lives}

number_itself : (n : ℕ) → nat_eq n n ≡ true
number_itself n = grind (arith, nat_tests)

differ : (a b : BoxName) → a ≡ b → same_name a b ≡ false → ⊥
differ a b is apart =
    let P : BoxName → Type 0 = λ n. same_name a n ≡ false in
    let same : same_name a a ≡ true = ap₂ (λ one other. one && other) (number_itself a.node) (number_itself a.ordinal) in
    let never : true ≡ false = sym same ∙ subst P (sym is) apart in
    absurd (cc)

-- ---- lists in two parts

all_parts : {X : Type 0} (P : X → Type 0) (xs ys : List X) → AllByRecursion P (xs ++ ys) → AllByRecursion P xs × AllByRecursion P ys
all_parts P [] ys all = (tt, all)
all_parts P (x ∷ xs) ys (here, all) = let (one, other) = all_parts P xs ys all in ((here, one), other)

distinct_parts : {X : Type 0} (e : X → X → Bool) (xs ys : List X) → IsDistinct e (xs ++ ys) → IsDistinct e xs × IsDistinct e ys × AllByRecursion (λ x. AllByRecursion (λ y. e x y ≡ false) ys) xs
unfolding IsDistinct
distinct_parts e [] ys all = (tt, all, tt)
distinct_parts e (x ∷ xs) ys (here, all) =
    let (one, other, apart) = distinct_parts e xs ys all in
    let (own, others) = all_parts (λ y. e x y ≡ false) xs ys here in
    ((own, one), other, (others, apart))

module _ {T : Type 0} where
  -- it is one of the boxes that stand from there on, or inside one of them
  abbrev IsUnder : Slots T → (from : Option ℕ) → Boxes → ℕ → Type 0
  IsUnder slots from none k = ⊥
  IsUnder slots from (box name style content inner next) k =
      (key : ℕ) × (from ≡ Some key) × ((key ≡ k) ⊎ (IsUnder slots (first_at slots key) inner k ⊎ IsUnder slots (next_at slots key) next k))

  -- what is inside one of a row
  row_under : (slots : Slots T) (from : Option ℕ) (boxes : Boxes) (c k : ℕ) → IsInRow slots from boxes c → StandFrom slots from boxes → ((tree : Boxes) → Stands slots c tree → IsUnder slots (Some c) tree k)
      → IsUnder slots from boxes k
  row_under slots from none c k row stands under = absurd row
  row_under slots from (box name style content inner next) c k (key, is, inl same) (other, at, node, inside, behind) under =
      let there : other ≡ c = same_Some other key (sym at ∙ is) ∙ same in
      let P : ℕ → Type 0 = λ j. Stands slots j (box name style content inner none) in
      let Q : ℕ → Type 0 = λ j. IsUnder slots (Some j) (box name style content inner none) k in
      let (one, one_is, found) = subst Q (sym there) (under (box name style content inner none) (subst P there (node, inside, refl))) in
      (other, at, by one (same_Some other one one_is) found)
    where
      by : (one : ℕ) → other ≡ one → (one ≡ k) ⊎ (IsUnder slots (first_at slots one) inner k ⊎ IsUnder slots (next_at slots one) none k) → (other ≡ k) ⊎ (IsUnder slots (first_at slots other) inner k ⊎ IsUnder slots (next_at slots other) next k)
      by one is (inl found) = inl (is ∙ found)
      by one is (inr (inl found)) = let R : ℕ → Type 0 = λ j. IsUnder slots (first_at slots j) inner k in inr (inl (subst R (sym is) found))
      by one is (inr (inr found)) = absurd found
  row_under slots from (box name style content inner next) c k (key, is, inr later) (other, at, node, inside, behind) under =
      let there : other ≡ key = same_Some other key (sym at ∙ is) in
      let P : ℕ → Type 0 = λ j. StandFrom slots (next_at slots j) next in
      (key, is, inr (inr (row_under slots (next_at slots key) next c k later (subst P there behind) under)))

  -- all boxes that a box is above are inside it
  above_under : (slots : Slots T) → IsLinked (links_at slots) → (n key : ℕ) (tree : Boxes) (k : ℕ) → Stands slots key tree → Climbs n (links_at slots) (Some k) key → IsUnder slots (Some key) tree k
  above_under slots linked n key none k stands climbs = absurd stands
  above_under slots linked zero key (box name style content inner next) k (node, inside, alone) climbs = (key, refl, inl (sym (same_Some k key climbs)))
  above_under slots linked (suc n) key (box name style content inner next) k (node, inside, alone) climbs =
      let (c, climb, parent) = above_split (links_at slots) n (Some k) key climbs in
      let all = linked.children key in
      let row = in_row slots (first_at slots key) all.list inner c all.chain inside (all.whole c parent) in
      (key, refl, inr (inl (row_under slots (first_at slots key) inner c k row inside (λ tree stands. above_under slots linked n c tree k stands climb))))

  -- it is the first of them, or inside it, or behind it
  opened : (slots : Slots T) (from : Option ℕ) (key k : ℕ) (name : BoxName) (style : Style) (content : Content) (inner next : Boxes) → from ≡ Some key → IsUnder slots from (box name style content inner next) k
      → (key ≡ k) ⊎ (IsUnder slots (first_at slots key) inner k ⊎ IsUnder slots (next_at slots key) next k)
  opened slots from key k name style content inner next at (other, also, found) =
      let P : ℕ → Type 0 = λ j. (j ≡ k) ⊎ (IsUnder slots (first_at slots j) inner k ⊎ IsUnder slots (next_at slots j) next k) in
      subst P (same_Some other key (sym also ∙ at)) found

  -- what holds of all names holds of a box's
  name_under : (P : BoxName → Type 0) (slots : Slots T) (from : Option ℕ) (boxes : Boxes) → AllByRecursion P (names boxes) → StandFrom slots from boxes → (k : ℕ) → IsUnder slots from boxes k → (node : Node)
      → node_at slots k ≡ Some node → P node.name
  name_under P slots from none all stands k under node is = absurd under
  name_under P slots from (box name style content inner next) (here, all) (key, at, there, inside, behind) k under node is =
      let (within, later) = all_parts P (names inner) (names next) all in
      by (opened slots from key k name style content inner next at under) (λ u. name_under P slots (first_at slots key) inner within inside k u node is)
      (λ u. name_under P slots (next_at slots key) next later behind k u node is)
    where
      by : (key ≡ k) ⊎ (IsUnder slots (first_at slots key) inner k ⊎ IsUnder slots (next_at slots key) next k) → (IsUnder slots (first_at slots key) inner k → P node.name)
          → (IsUnder slots (next_at slots key) next k → P node.name) → P node.name
      by (inl found) in_it after =
          let Q : ℕ → Type 0 = λ j. node_at slots j ≡ Some node in
          let R : Node → Type 0 = λ n. P n.name in
          subst R (same_Some _ _ (sym there ∙ subst Q (sym found) is)) here
      by (inr (inl u)) in_it after = in_it u
      by (inr (inr u)) in_it after = after u

  named_once : (slots : Slots T) (from : Option ℕ) (boxes : Boxes) → IsDistinct same_name (names boxes) → StandFrom slots from boxes → (j k : ℕ) → IsUnder slots from boxes j → IsUnder slots from boxes k
      → (one other : Node) → node_at slots j ≡ Some one → node_at slots k ≡ Some other → one.name ≡ other.name → j ≡ k
  unfolding IsDistinct
  named_once slots from none all stands j k first second one other is also alike = absurd first
  named_once slots from (box name style content inner next) (here, all) (key, at, there, inside, behind) j k first second one other is also alike =
      let (own, others, apart) = distinct_parts same_name (names inner) (names next) all in
      let (unlike, different) = all_parts (λ y. same_name name y ≡ false) (names inner) (names next) here in
      by unlike different apart (opened slots from key j name style content inner next at first) (opened slots from key k name style content inner next at second)
      (λ u v. named_once slots (first_at slots key) inner own inside j k u v one other is also alike) (λ u v. named_once slots (next_at slots key) next others behind j k u v one other is also alike)
    where
      name_is : (i : ℕ) (node : Node) → key ≡ i → node_at slots i ≡ Some node → name ≡ node.name
      name_is i node same at_it = let Q : ℕ → Type 0 = λ l. node_at slots l ≡ Some node in ap (λ (n : Node). n.name) (same_Some _ _ (sym there ∙ subst Q (sym same) at_it))

      inner_apart : (i : ℕ) (node : Node) → AllByRecursion (λ y. same_name name y ≡ false) (names inner) → IsUnder slots (first_at slots key) inner i → node_at slots i ≡ Some node → name ≡ node.name → ⊥
      inner_apart i node unlike u at_it same = differ name node.name same (name_under (λ y. same_name name y ≡ false) slots (first_at slots key) inner unlike inside i u node at_it)

      next_apart : (i : ℕ) (node : Node) → AllByRecursion (λ y. same_name name y ≡ false) (names next) → IsUnder slots (next_at slots key) next i → node_at slots i ≡ Some node → name ≡ node.name → ⊥
      next_apart i node unlike u at_it same = differ name node.name same (name_under (λ y. same_name name y ≡ false) slots (next_at slots key) next unlike behind i u node at_it)

      both_apart : (i l : ℕ) (a b : Node) → AllByRecursion (λ x. AllByRecursion (λ y. same_name x y ≡ false) (names next)) (names inner) → IsUnder slots (first_at slots key) inner i
          → IsUnder slots (next_at slots key) next l → node_at slots i ≡ Some a → node_at slots l ≡ Some b → a.name ≡ b.name → ⊥
      both_apart i l a b apart u v at_a at_b same =
          differ a.name b.name same
          (name_under (λ y. same_name a.name y ≡ false) slots (next_at slots key) next
          (name_under (λ x. AllByRecursion (λ y. same_name x y ≡ false) (names next)) slots (first_at slots key) inner apart inside i u a at_a) behind l v b at_b)

      by : AllByRecursion (λ y. same_name name y ≡ false) (names inner) → AllByRecursion (λ y. same_name name y ≡ false) (names next)
          → AllByRecursion (λ x. AllByRecursion (λ y. same_name x y ≡ false) (names next)) (names inner)
          → (key ≡ j) ⊎ (IsUnder slots (first_at slots key) inner j ⊎ IsUnder slots (next_at slots key) next j)
          → (key ≡ k) ⊎ (IsUnder slots (first_at slots key) inner k ⊎ IsUnder slots (next_at slots key) next k)
          → (IsUnder slots (first_at slots key) inner j → IsUnder slots (first_at slots key) inner k → j ≡ k) → (IsUnder slots (next_at slots key) next j → IsUnder slots (next_at slots key) next k → j ≡ k) → j ≡ k
      by unlike different apart (inl a) (inl b) within later = sym a ∙ b
      by unlike different apart (inl a) (inr (inl v)) within later = absurd (inner_apart k other unlike v also (name_is j one a is ∙ alike))
      by unlike different apart (inl a) (inr (inr v)) within later = absurd (next_apart k other different v also (name_is j one a is ∙ alike))
      by unlike different apart (inr (inl u)) (inl b) within later = absurd (inner_apart j one unlike u is (name_is k other b also ∙ sym alike))
      by unlike different apart (inr (inr u)) (inl b) within later = absurd (next_apart j one different u is (name_is k other b also ∙ sym alike))
      by unlike different apart (inr (inl u)) (inr (inl v)) within later = within u v
      by unlike different apart (inr (inr u)) (inr (inr v)) within later = later u v
      by unlike different apart (inr (inl u)) (inr (inr v)) within later = absurd (both_apart j k one other apart u v is also alike)
      by unlike different apart (inr (inr u)) (inr (inl v)) within later = absurd (both_apart k j other one apart v u also is (sym alike))

  -- the tree of a box that isn't attached
  pub stands_alone : (slots : Slots T) (key : ℕ) (tree : Boxes) → next_at slots key ≡ None → Stands slots key tree → StandFrom slots (Some key) tree
  stands_alone slots key none last stands = absurd stands
  stands_alone slots key (box name style content inner next) last (node, inside, alone) =
      let P : Boxes → Type 0 = λ b. StandFrom slots (next_at slots key) b in
      (key, refl, node, inside, subst P (sym alone) last)

  pub planted_named_once : PlantedAreNamedOnce T
  planted_named_once old new key tree empty sound names_apart plants one other node same is also alike =
      named_once new.slots (Some key) tree names_apart (stands_alone new.slots key tree (sound.linked.alone key plants.apart).0 plants.stands) one other (under one node is) (under other same also) node same is also alike
    where
      under : (k : ℕ) (node : Node) → node_at new.slots k ≡ Some node → IsUnder new.slots (Some key) tree k
      under k node at = let (n, climbs) = plants.only k (empty k) (lives new k node at) in above_under new.slots sound.linked n key tree k plants.stands climbs
