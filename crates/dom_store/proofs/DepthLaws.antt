-- The depths of nodes, as they are found one after the other.
use Rattle.std.proofs.Common.{◌≡◌, ◌∙◌, ℕ, zero, suc, ◌+◌, ◌<◌, ◌≤◌, Bool, true, false, List, [], ◌∷◌, ◌++◌, length, length-append, get_or, drop, refl, ap, sym, subst, arith, Option, Some, None, option_map, Result, Ok, Err}
use Rattle.std.specs.Prelude.{nat_lt, position, unwrap_or}
use Rattle.std.specs.List.{All, position_or_len, slice_get}
use Rattle.std.proofs.lemmas.Bool.{le-ltb, lt-ltb}
use Rattle.std.proofs.lemmas.Option.{get_or_from_slice_get, none-some, slice_get_within}
use Rattle.html_read.specs.Values.{Node}
use Rattle.css_types.specs.declared.value.Declaration.{Declaration}
use Rattle.dom_store.specs.declared.error.EditError.{EditError}
use Rattle.dom_store.specs.declared.error.EditError.TheVariants.{NoNode, IsRoot, NotText, NotElement, Inside, BadIndex, TooManyNodes, TooDeep, Memory}
use Rattle.std.specs.Result.{IsErrAnd}
use Rattle.basic_laws.proofs.Lists.{slice_get_last}
use Rattle.dom_store.specs.declared.document.Document.{Document}
use Rattle.dom_store.specs.Building.{FindsTooDeep, JudgesDepths}
use Rattle.dom_store.specs.Opening.{Opens, greatest_count, depth_in, depths, depths_from}
use Rattle.dom_store.specs.Refusals.{too_deep_under}
use Rattle.dom_store.specs.Standing.{depth_at}
use Rattle.dom_store.specs.State.{State, greatest_depth}
use Rattle.dom_store.proofs.Places.{drop_at, slice_get_left}

-- depths that are known stay
pub known_stay : (before : List ℕ) (nodes : List Node) (place : ℕ) → place < length before → slice_get (depths_from before nodes) place ≡ slice_get before place
unfolding depths_from
known_stay before [] place within = refl
known_stay before (node ∷ nodes) place within =
    let more = before ++ depth_in before node.parent ∷ [] in
    let longer : place < length more = omega (arith, length-append before (depth_in before node.parent ∷ [])) in
    known_stay more nodes place longer ∙ slice_get_left before (depth_in before node.parent ∷ []) place 0 within

-- one more is known
pub one_more : (before : List ℕ) (nodes : List Node) (place depth : ℕ) (node : Node) → slice_get nodes place ≡ Some node → depth ≡ depth_in before node.parent
    → depths_from (before ++ depth ∷ []) (drop (place + 1) nodes) ≡ depths_from before (drop place nodes)
unfolding depths_from
one_more before nodes place depth node here is = rw (drop_at nodes place node here, is)

-- all are known
pub all_known : (before : List ℕ) → depths_from before [] ≡ before
unfolding depths_from
all_known before = refl

-- nor past the limit alone
pub weaker : (before known : List ℕ) → known ≡ before → (above : ℕ) → All (λ depth. above + depth ≤ greatest_depth) before → All (λ depth. depth ≤ greatest_depth) known
weaker before known same above shallow = subst (λ (l : List ℕ). All (λ depth. depth ≤ greatest_depth) l) (sym same) (λ place d within. omega (arith, shallow place d within))

module _ (above : ℕ) (nodes : List Node) (before : List ℕ) (shallow : All (λ depth. above + depth ≤ greatest_depth) before) where
  -- a node past the limit behind depths that are not is the first
  pub finds : (place depth : ℕ) (node : Node) → length before ≡ place → depths_from before (drop place nodes) ≡ depths nodes
      → slice_get nodes place ≡ Some node → depth ≡ depth_in before node.parent → greatest_depth < above + depth → FindsTooDeep above nodes (Some place)
  finds place depth node so_far same here is deep =
      let longer : place < length (before ++ depth ∷ []) = omega (arith, length-append before (depth ∷ [])) in
      let all : depths_from (before ++ depth ∷ []) (drop (place + 1) nodes) ≡ depths nodes = one_more before nodes place depth node here is ∙ same in
      let last : slice_get (before ++ depth ∷ []) place ≡ Some depth = ap (slice_get (before ++ depth ∷ [])) (sym so_far) ∙ slice_get_last before depth in
      let stay : slice_get (depths nodes) place ≡ Some depth = ap (λ all. slice_get all place) (sym all) ∙ (known_stay (before ++ depth ∷ []) (drop (place + 1) nodes) place longer ∙ last) in (
        depth,
        stay,
        deep,
        λ other lesser earlier at.
            let within : other < length before = omega (arith, so_far, earlier) in
            let stands : slice_get before other ≡ Some lesser = sym (known_stay before (drop place nodes) other within) ∙ (ap (λ all. slice_get all other) same ∙ at) in
            let limit : above + get_or before other lesser ≤ greatest_depth = shallow other lesser within in
            let value : get_or before other lesser ≡ lesser = get_or_from_slice_get before other lesser lesser stands in
            omega (arith, limit, value),
      )

  -- where all are known, none is past the limit
  pub finds_none : depths_from before [] ≡ depths nodes → FindsTooDeep above nodes None
  finds_none same = subst (λ (known : List ℕ). All (λ depth. above + depth ≤ greatest_depth) known) (sym (all_known before) ∙ same) shallow

-- ---- the first of a list

module _ {X : Type 0} (test : X → Bool) where
  -- the first that passes
  prefix_is : (xs : List X) (place : ℕ) (x : X) → slice_get xs place ≡ Some x → test x ≡ true → ((other : ℕ) (y : X) → other < place → slice_get xs other ≡ Some y → test y ≡ false) → position_or_len test xs ≡ place
  prefix_is [] place x at here before = absurd (none-some x at)
  prefix_is (first ∷ xs) zero x at here before =
      let same : first ≡ x = ap (λ (o : Option X). unwrap_or o first) at in
      let passes : test first ≡ true = ap test same ∙ here in
      rw passes refl
  prefix_is (first ∷ xs) (suc place) x at here before =
      let fails : test first ≡ false = before 0 first (omega arith) refl in
      let rest = prefix_is xs place x at here (λ other y less is. before (suc other) y (omega (arith, less)) is) in
      rw fails (ap (λ (n : ℕ). 1 + n) rest ∙ omega arith)

  pub position_is : (xs : List X) (place : ℕ) (x : X) → slice_get xs place ≡ Some x → test x ≡ true → ((other : ℕ) (y : X) → other < place → slice_get xs other ≡ Some y → test y ≡ false) → position test xs ≡ Some place
  position_is xs place x at here before =
      let is = prefix_is xs place x at here before in
      let within : nat_lt place (length xs) ≡ true = lt-ltb place (length xs) (slice_get_within xs place x at) in
      rw (is, within) refl

  prefix_all : (xs : List X) → ((other : ℕ) (y : X) → slice_get xs other ≡ Some y → test y ≡ false) → position_or_len test xs ≡ length xs
  prefix_all [] none = refl
  prefix_all (first ∷ xs) none = rw (none 0 first refl) (ap (λ (n : ℕ). 1 + n) (prefix_all xs (λ other y is. none (suc other) y is)) ∙ omega arith)

  -- where none passes there is no first
  pub position_none : (xs : List X) → ((other : ℕ) (y : X) → slice_get xs other ≡ Some y → test y ≡ false) → position test xs ≡ None
  position_none xs none =
      let all = prefix_all xs none in
      rw (all, le-ltb (length xs) (length xs) (omega arith)) refl

-- what is found is the first that is past the limit
pub found_at : (above : ℕ) (nodes : List Node) (place : Option ℕ) → FindsTooDeep above nodes place → position (λ depth. nat_lt greatest_depth (above + depth)) (depths nodes) ≡ place
found_at above nodes None shallow = position_none (λ depth. nat_lt greatest_depth (above + depth)) (depths nodes) (λ other depth at.
    let limit = shallow other depth (slice_get_within (depths nodes) other depth at) in
    let value = get_or_from_slice_get (depths nodes) other depth depth at in
    le-ltb greatest_depth (above + depth) (omega (arith, limit, value)))
found_at above nodes (Some place) (depth, at, deep, earlier) = position_is (λ depth. nat_lt greatest_depth (above + depth)) (depths nodes) place depth at (lt-ltb greatest_depth (above + depth) deep)
    (λ other lesser before is. le-ltb greatest_depth (above + lesser) (earlier other lesser before is))

-- what is refused for its depth is refused where the nodes are few enough
pub refused : (nodes : List Node) (own : List (List Declaration)) (error : EditError) → length nodes ≤ greatest_count → JudgesDepths nodes (Err error) → Opens nodes own (Err error)
refused nodes own (TooManyNodes number) few judged = absurd judged
refused nodes own (TooDeep number) few judged = (few, judged.0, judged.1)
refused nodes own Memory few judged = tt
refused nodes own NoNode few judged = absurd judged
refused nodes own IsRoot few judged = absurd judged
refused nodes own NotText few judged = absurd judged
refused nodes own NotElement few judged = absurd judged
refused nodes own Inside few judged = absurd judged
refused nodes own BadIndex few judged = absurd judged

-- the same, for an answer with this refusal
pub refused_as : (nodes : List Node) (own : List (List Declaration)) (error : EditError) (answer : Result Document EditError) → IsErrAnd answer (λ e. e ≡ error) → length nodes ≤ greatest_count → JudgesDepths nodes (Err error) → Opens nodes own answer
refused_as nodes own error (Ok document) is few judged = absurd is
refused_as nodes own error (Err e) is few judged = refused nodes own e few (subst (λ (x : EditError). JudgesDepths nodes (Err x)) (sym is) judged)

-- why inserted nodes are refused for their depths
pub too_deep_at : (state : State) (parent above : ℕ) (nodes : List Node) (place : Option ℕ) → above ≡ depth_at state parent → FindsTooDeep above nodes place → too_deep_under state parent nodes ≡ option_map (λ p. TooDeep (state.next + p)) place
too_deep_at state parent above nodes place is finds =
    ap (option_map (λ (p : ℕ). TooDeep (state.next + p))) (found_at (depth_at state parent) nodes place (subst (λ (n : ℕ). FindsTooDeep n nodes place) is finds))
