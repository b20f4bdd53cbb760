-- Which boxes are met where a box and all boxes inside it are gone through, child after child, and what is found of them.
use Rattle.std.proofs.Common.{◌≡◌, ◌∙◌, ℕ, zero, suc, List, [], ◌∷◌, Option, Some, None, sym, subst, inl, inr}
use Rattle.std.specs.Prelude.{◌⊎◌}
use Rattle.std.proofs.lemmas.Bool.{cases_eq}
use Rattle.std.proofs.lemmas.Option.{none-some, same_Some}
use Rattle.box_gen.specs.Tree.{Boxes, none, box}
use Rattle.box_arena.specs.At.{IsAbove, Slots, first_at, links_at, next_at, parent_at}
use Rattle.box_arena.specs.Boxes.{StandFrom}
use Rattle.box_arena.specs.Links.{Chain, Children, Has, IsIn, IsLinked}
use Rattle.box_arena.specs.Reusing.{IsTree}
use Rattle.box_arena.proofs.AllHanded.{above_split}
use Rattle.box_arena.proofs.Climbs.{reaches_on}
use Rattle.text_boxes.specs.Finding.{IsFound, found_in_both}
use Rattle.text_boxes.specs.declared.finding.Found.{Found}
use Rattle.text_boxes.specs.declared.finding.Found.TheVariants.{In, Nowhere, Unsure}

module _ {T : Type 0} where
  -- ---- what is found of boxes

  -- what is found of some boxes is found of fewer of them, which stand under a root above
  pub found_of_fewer : (slots : Slots T) (root top number : ℕ) (Some_ Fewer : ℕ → Type 0) (found : Found) → ((k : ℕ) → IsAbove slots root k → IsAbove slots top k) → ((k : ℕ) → Fewer k → Some_ k)
      → IsFound slots root Some_ number found → IsFound slots top Fewer number found
  found_of_fewer slots root top number Some_ Fewer Nowhere up is_some found = λ k node is at. found k node (is_some k is) at
  found_of_fewer slots root top number Some_ Fewer (In key) up is_some found = record {
    inside = up key found.inside;
    node = found.node;
    is = found.is;
    others = λ k node is apart at. found.others k node (is_some k is) apart at;
  }
  found_of_fewer slots root top number Some_ Fewer Unsure up is_some found = tt

  -- what is found of some boxes and of others is found of all of them
  pub found_of_both : (slots : Slots T) (root number : ℕ) (One Other Each : ℕ → Type 0) (some others : Found) → ((k : ℕ) → Each k → One k ⊎ Other k)
      → IsFound slots root One number some → IsFound slots root Other number others → IsFound slots root Each number (found_in_both some others)
  found_of_both slots root number One Other Each Nowhere Nowhere of one other = λ k node is at. elim (of k is) [ inl a ↦ one k node a at | inr b ↦ other k node b at ]
  found_of_both slots root number One Other Each Nowhere (In key) of one other = record {
    inside = other.inside;
    node = other.node;
    is = other.is;
    others = λ k node is apart at. elim (of k is) [ inl a ↦ one k node a at | inr b ↦ other.others k node b apart at ];
  }
  found_of_both slots root number One Other Each Nowhere Unsure of one other = tt
  found_of_both slots root number One Other Each (In key) Nowhere of one other = record {
    inside = one.inside;
    node = one.node;
    is = one.is;
    others = λ k node is apart at. elim (of k is) [ inl a ↦ one.others k node a apart at | inr b ↦ other k node b at ];
  }
  found_of_both slots root number One Other Each (In key) (In key') of one other = tt
  found_of_both slots root number One Other Each (In key) Unsure of one other = tt
  found_of_both slots root number One Other Each Unsure others of one other = tt

  -- ---- the boxes inside one

  -- a box inside another one is inside one of its children
  inside_child : (slots : Slots T) (key k : ℕ) → IsAbove slots key k → (k ≡ key) ⊎ ((c : ℕ) × IsAbove slots c k × (parent_at slots c ≡ Some key))
  inside_child slots key k (zero, is) = inl (same_Some k key is)
  inside_child slots key k (suc n, climbs) = let (c, climb, inside) = above_split (links_at slots) n (Some k) key climbs in inr (c, (n, climb), inside)

  -- the box, and those inside its children but these
  abbrev IsMet : (slots : Slots T) (key : ℕ) (left : List ℕ) (k : ℕ) → Type 0
  IsMet slots key left k = (k ≡ key) ⊎ ((c : ℕ) × IsAbove slots c k × (parent_at slots c ≡ Some key) × (Has left c → ⊥))

  -- so much is found of them where the children from the next one on are left
  pub record IsOnWay (slots : Slots T) (key number : ℕ) (next : Option ℕ) (found : Found) : Type 0 where
    pub rest : (boxes : Boxes) × StandFrom slots next boxes
    pub inside : IsIn (links_at slots) key next
    pub left : List ℕ
    pub chain : Chain (links_at slots) next left
    pub is : IsFound slots key (IsMet slots key left) number found

  -- the box itself
  pub way_begins : (slots : Slots T) (key number : ℕ) (next : Option ℕ) (found : Found) → IsLinked (links_at slots) → IsTree slots key → next ≡ first_at slots key
      → IsFound slots key (λ k. k ≡ key) number found → IsOnWay slots key number next found
  way_begins slots key number next found linked tree first is = subst (λ (o : Option ℕ). IsOnWay slots key number o found) (sym first) (record {
    rest = (tree.inner, tree.inside);
    inside = linked.on key None tt;
    left = children.list;
    chain = children.chain;
    is = found_of_fewer slots key key number (λ k. k ≡ key) (IsMet slots key children.list) found (λ k above. above) own is;
  })
    where
      children : Children (links_at slots) key
      children = linked.children key

      own : (k : ℕ) → IsMet slots key children.list k → k ≡ key
      own k (inl same) = same
      own k (inr (c, above, parent, not)) = absurd (not (children.whole c parent))

  -- the next child is a box that stands with those inside it
  pub way_tree : (slots : Slots T) (key number child : ℕ) (next : Option ℕ) (found : Found) → IsOnWay slots key number next found → next ≡ Some child → IsTree slots child
  way_tree slots key number child next found way is = by way.rest
    where
      by : (boxes : Boxes) × StandFrom slots next boxes → IsTree slots child
      by (none, at) = absurd (none-some child (sym at ∙ is))
      by (box name style content inner behind, (k, at, here, within, after)) =
          let P : ℕ → Type 0 = λ j. IsTree slots j in
          subst P (same_Some k child (sym at ∙ is)) (record { node = record { name = name; style = style; content = content }; inner = inner; is = here; inside = within })

  -- one child more
  pub way_on : (slots : Slots T) (key number child : ℕ) (next after : Option ℕ) (found inside more : Found) → IsLinked (links_at slots) → IsOnWay slots key number next found → next ≡ Some child
      → after ≡ next_at slots child → IsFound slots child (IsAbove slots child) number inside → more ≡ found_in_both found inside → IsOnWay slots key number after more
  way_on slots key number child next after found inside more linked way is at own both =
      subst (λ (o : Option ℕ). IsOnWay slots key number o more) (sym at) (subst (λ (f : Found). IsOnWay slots key number (next_at slots child) f) (sym both) (by way.left way.chain way.is))
    where
      parent : parent_at slots child ≡ Some key
      parent = let P : Option ℕ → Type 0 = λ o. IsIn (links_at slots) key o in subst P is way.inside

      behind : (boxes : Boxes) × StandFrom slots next boxes → (boxes : Boxes) × StandFrom slots (next_at slots child) boxes
      behind (none, end_) = absurd (none-some child (sym end_ ∙ is))
      behind (box name style content inner others, (k, first, here, within, rest)) =
          let P : ℕ → Type 0 = λ j. StandFrom slots (next_at slots j) others in
          (others, subst P (same_Some k child (sym first ∙ is)) rest)

      by : (left : List ℕ) → Chain (links_at slots) next left → IsFound slots key (IsMet slots key left) number found → IsOnWay slots key number (next_at slots child) (found_in_both found inside)
      by [] end_ before = absurd (none-some child (sym end_ ∙ is))
      by (c ∷ left) (first, chain) before = record {
        rest = behind way.rest;
        inside = linked.on key (Some child) parent;
        left = left;
        chain = let P : ℕ → Type 0 = λ j. Chain (links_at slots) (next_at slots j) left in subst P here chain;
        is = found_of_both slots key number (IsMet slots key (c ∷ left)) (IsAbove slots child) (IsMet slots key left) found inside met before
            (found_of_fewer slots child key number (IsAbove slots child) (IsAbove slots child) inside (λ k above. reaches_on (links_at slots) child key k above parent) (λ k above. above) own);
      }
        where
          here : c ≡ child
          here = same_Some c child (sym first ∙ is)

          met : (k : ℕ) → IsMet slots key left k → IsMet slots key (c ∷ left) k ⊎ IsAbove slots child k
          met k (inl same) = inl (inl same)
          met k (inr (d, above, parent_is, not)) = elim (cases_eq child d) [
            | inl same ↦ let P : ℕ → Type 0 = λ j. IsAbove slots j k in inr (subst P (sym same) above)
            | inr apart ↦ inl (inr (d, above, parent_is, (λ has. elim has [ inl it ↦ apart (sym here ∙ it) | inr later ↦ not later ])))
          ]

  -- all children
  pub way_ends : (slots : Slots T) (key number : ℕ) (next : Option ℕ) (found : Found) → IsOnWay slots key number next found → next ≡ None → IsFound slots key (IsAbove slots key) number found
  way_ends slots key number next found way end_ = by way.left way.chain way.is
    where
      by : (left : List ℕ) → Chain (links_at slots) next left → IsFound slots key (IsMet slots key left) number found → IsFound slots key (IsAbove slots key) number found
      by (c ∷ left) (at, chain) before = absurd (none-some c (sym end_ ∙ at))
      by [] at before = found_of_fewer slots key key number (IsMet slots key []) (IsAbove slots key) found (λ k above. above) all before
        where
          all : (k : ℕ) → IsAbove slots key k → IsMet slots key [] k
          all k above = elim (inside_child slots key k above) [
            | inl same ↦ inl same
            | inr (c, inside, parent) ↦ inr (c, inside, parent, (λ has. has))
          ]
