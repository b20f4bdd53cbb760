-- What is found, number by number.
use Rattle.std.proofs.Common.{◌≡◌, ◌∙◌, ℕ, zero, suc, ◌+◌, ◌<◌, ◌≤◌, List, [], length, drop, get_or, sym, ap, subst, arith, Option, Some, None}
use Rattle.std.proofs.lemmas.List.{drop_all, drop_more}
use Rattle.style_types.specs.declared.style.Style.{Style}
use Rattle.css_types.specs.Rule.{Ruling}
use Rattle.style_types.specs.Tree as styled
use Rattle.dom_store.specs.State as dom
use Rattle.dom_store.specs.State.{What, Entry, State, Tree, tree_to, tree_with}
use Rattle.style_tree.specs.Styling.{kind_of, style_at, styled_in, styled_one}
use Rattle.box_gen.specs.declared.found.Found.{Found}
use Rattle.box_gen.specs.declared.site.Site.{Site}
use Rattle.box_gen.specs.Found.{both, found_from, nothing_found}
use Rattle.box_gen.proofs.Founds.{both_assoc, both_nothing, found_alone, found_none, found_split}
use Rattle.box_limits.specs.declared.place.Place.{Place}
use Rattle.box_limits.specs.Lines.{place_in}
use Rattle.box_limits.specs.Judging.{found_there}

-- ---- a node

module _ (rules : List Ruling) (state : State) where
  pub node_found : (number : ℕ) (what : What) (children : List ℕ) (depth : ℕ) (place : Place) (style : Style) → style ≡ style_at rules state number what place.style
      → (inside : Place) → inside ≡ place_in what style place → (numbers : List ℕ) → numbers ≡ children → (below : Found) → below ≡ found_from inside.site (styled_in rules state inside.style (tree_to depth state numbers))
      → (own all : Found) → own ≡ found_there number what style place.site → all ≡ both own below → all ≡ found_from place.site (styled_one rules state place.style number what (tree_to depth state children) styled.none)
  node_found number what children depth place style is inside in_ numbers are below found own all here together =
      let inner = styled_in rules state style (tree_to depth state children) in
      let lower : below ≡ found_from (place_in what style place).site inner =
      found ∙ ap (λ (p : Place). found_from p.site (styled_in rules state p.style (tree_to depth state numbers))) in_
      ∙ ap (λ (l : List ℕ). found_from (place_in what style place).site (styled_in rules state style (tree_to depth state l))) are in
      together
      ∙ ap (λ (f : Found). both f below) here
      ∙ ap (both (found_there number what style place.site)) lower
      ∙ sym (found_alone place.site number (kind_of what) style inner)
      ∙ ap (λ (s : Style). found_from place.site (styled.node number (kind_of what) s (styled_in rules state s (tree_to depth state children)) styled.none)) is

-- ---- nodes one after the other

module _ (rules : List Ruling) (state : State) (site : Site) (style : Style) where
  abbrev pub found_in : (depth : ℕ) → List ℕ → Found
  found_in depth numbers = found_from site (styled_in rules state style (tree_to depth state numbers))

  module _ (numbers : List ℕ) where
    -- with those that are left what is found is what is found of all
    abbrev pub IsGoing : (depth i : ℕ) → Found → Type 0
    IsGoing depth i found = both found (found_in depth (drop i numbers)) ≡ found_in depth numbers

    left_is : (depth i d : ℕ) → i < length numbers → tree_to (suc depth) state (drop i numbers)
        ≡ tree_with (state.node_at (get_or numbers i d)) (get_or numbers i d) (tree_to depth state) (tree_to (suc depth) state (drop (i + 1) numbers))
    unfolding tree_to
    left_is depth i d lt = ap (tree_to (suc depth) state) (drop_more numbers i d lt)

    some_goes : (depth i d : ℕ) (entry : Entry) (found one : Found) → i < length numbers → state.node_at (get_or numbers i d) ≡ Some entry
        → one ≡ found_from site (styled_one rules state style (get_or numbers i d) entry.what (tree_to depth state entry.children) styled.none)
        → IsGoing (suc depth) i found → IsGoing (suc depth) (i + 1) (both found one)
    unfolding styled_in
    some_goes depth i d entry found one lt is here now =
        let number = get_or numbers i d in
        let rest = tree_to (suc depth) state (drop (i + 1) numbers) in
        let own = style_at rules state number entry.what style in
        let inner = styled_in rules state own (tree_to depth state entry.children) in
        let left : tree_to (suc depth) state (drop i numbers) ≡ dom.node number entry.what (tree_to depth state entry.children) rest =
        left_is depth i d lt ∙ ap (λ (o : Option Entry). tree_with o number (tree_to depth state) rest) is in
        let split : found_in (suc depth) (drop i numbers) ≡ both one (found_in (suc depth) (drop (i + 1) numbers)) =
        ap (λ (t : Tree). found_from site (styled_in rules state style t)) left
        ∙ found_split site number (kind_of entry.what) own inner (styled_in rules state style rest)
        ∙ ap (λ (f : Found). both f (found_in (suc depth) (drop (i + 1) numbers))) (sym here) in
        both_assoc found one (found_in (suc depth) (drop (i + 1) numbers)) ∙ ap (both found) (sym split) ∙ now

    none_goes : (depth i d : ℕ) (found : Found) → i < length numbers → state.node_at (get_or numbers i d) ≡ None → IsGoing (suc depth) i found → IsGoing (suc depth) (i + 1) found
    none_goes depth i d found lt is now =
        let number = get_or numbers i d in
        let rest = tree_to (suc depth) state (drop (i + 1) numbers) in
        let left : tree_to (suc depth) state (drop i numbers) ≡ rest = left_is depth i d lt ∙ ap (λ (o : Option Entry). tree_with o number (tree_to depth state) rest) is in
        ap (λ (t : Tree). both found (found_from site (styled_in rules state style t))) (sym left) ∙ now

    -- where the depth isn't used up
    pub some_goes_on : (depth less i d : ℕ) (entry : Entry) (found one new : Found) → suc less ≡ depth → i < length numbers → Some entry ≡ state.node_at (get_or numbers i d)
        → one ≡ found_from site (styled_one rules state style (get_or numbers i d) entry.what (tree_to less state entry.children) styled.none)
        → new ≡ both found one → IsGoing depth i found → IsGoing depth (i + 1) new
    some_goes_on depth less i d entry found one new more lt is here pushed now =
        let now_ = subst (λ (k : ℕ). IsGoing k i found) (sym more) now in
        subst (IsGoing depth (i + 1)) (sym pushed) (subst (λ (k : ℕ). IsGoing k (i + 1) (both found one)) more (some_goes less i d entry found one lt (sym is) here now_))

    pub none_goes_on : (depth less i d : ℕ) (found new : Found) → suc less ≡ depth → i < length numbers → None ≡ state.node_at (get_or numbers i d) → new ≡ found → IsGoing depth i found → IsGoing depth (i + 1) new
    none_goes_on depth less i d found new more lt is same now =
        let now_ = subst (λ (k : ℕ). IsGoing k i found) (sym more) now in
        subst (IsGoing depth (i + 1)) (sym same) (subst (λ (k : ℕ). IsGoing k (i + 1) found) more (none_goes less i d found lt (sym is) now_))

    pub starts : (depth : ℕ) (found : Found) → found ≡ nothing_found → IsGoing depth 0 found
    starts depth found is = ap (λ (f : Found). both f (found_in depth numbers)) is

    nothing_left : (depth : ℕ) → found_in depth [] ≡ nothing_found
    unfolding styled_in tree_to
    nothing_left zero = found_none site
    nothing_left (suc depth) = found_none site

    pub ends : (depth i : ℕ) (found : Found) → length numbers ≤ i → IsGoing depth i found → found ≡ found_in depth numbers
    ends depth i found le now =
        sym (both_nothing found) ∙ ap (both found) (sym (nothing_left depth)) ∙ ap (λ (l : List ℕ). both found (found_in depth l)) (sym (drop_all i numbers le)) ∙ now

    -- where it is
    pub used_up : (depth : ℕ) (found : Found) → found ≡ nothing_found → depth ≡ 0 → found ≡ found_in depth numbers
    unfolding styled_in tree_to
    used_up zero found is none = is ∙ sym (found_none site)
    used_up (suc depth) found is none = absurd (omega (arith, none))
