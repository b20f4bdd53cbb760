-- The tree of a document that was opened is whole.
use Rattle.std.proofs.Common.{◌≡◌, ◌∙◌, ℕ, zero, suc, ◌+◌, ◌<◌, ◌≤◌, Bool, false, List, [], ◌∷◌, ◌++◌, length, length-append, get_or, drop, refl, ap, sym, subst, arith, Option, Some, None, Ok, Err, IfOk}
use Rattle.std.specs.Prelude.{Result}
use Rattle.std.specs.List.{All, slice_get}
use Rattle.std.proofs.lemmas.Bool.{ne_eqb}
use Rattle.std.proofs.lemmas.Option.{none-some, slice_get_read, slice_get_within, get_or_from_slice_get, same_Some}
use Rattle.basic_laws.proofs.Lists.{none_behind, slice_get_last}
use Rattle.html_read.specs.Values.{Node, is_text}
use Rattle.html_read.specs.Shape.{AreInOrder, IsInDocumentOrder, IsShaped, with_opened}
use Rattle.css_types.specs.declared.value.Declaration.{Declaration}
use Rattle.dom_store.specs.declared.document.Document.{Document}
use Rattle.dom_store.specs.declared.error.EditError.{EditError}
use Rattle.dom_store.specs.Building.{FollowParents}
use Rattle.dom_store.specs.State.{Entry, State, greatest_depth, state_of, tree_of}
use Rattle.dom_store.specs.Opening as opening
use Rattle.dom_store.specs.Opening.{Opens, children_from, depth_in, depths, depths_from, entry_at, put_if, stands_in, what_of}
use Rattle.dom_store.specs.Whole.{listed, numbered}
use Rattle.dom_store.proofs.DepthLaws.{known_stay}
use Rattle.dom_store.proofs.OpenElements.{AreBelow, AreDeep, below_opened, below_still, deep_opened, deep_still}
use Rattle.dom_store.proofs.Places.{begins_at, shape_follows}
use Rattle.dom_store.proofs.SameLaws.{are_equal}
use Rattle.dom_store.proofs.TreeLaws.{Live, Stands, first_listed}

-- ---- what was read

-- a node whose parent is before this place stands in none from it on
parent_before : (place number : ℕ) (of : Option ℕ) → ((parent : ℕ) → of ≡ Some parent → parent < place) → place ≤ number → stands_in number of ≡ false
parent_before place number None before behind = refl
parent_before place number (Some parent) before behind = ne_eqb number parent (λ is. omega (arith, before parent refl, behind, is))

-- each node lives under its place, and its children are behind it
lives : (all : List Node) (own : List (List Declaration)) (nodes : List Node) (place : ℕ) → FollowParents all → nodes ≡ drop place all
    → ((number : ℕ) → place ≤ number + 1 → children_from 0 number all ≡ children_from place number nodes) → Live (opening.opened all own) own place nodes
unfolding children_from
lives all own [] place follow left are = tt
lives all own (read ∷ nodes) place follow left are =
    let begins = begins_at all place read nodes left in
    let here : slice_get all place ≡ Some read = slice_get_read all (length all) place read refl begins.within begins.is in
    let behind : (number : ℕ) → place + 1 ≤ number + 1 → children_from 0 number all ≡ children_from (place + 1) number nodes = λ number later.
    are number (omega (arith, later)) ∙ ap (λ (b : Bool). put_if b place (children_from (place + 1) number nodes))
    (parent_before place number read.parent (λ parent is. follow.each place parent read here is) (omega (arith, later))) in
    let entry : List ℕ → Option Entry = λ children. Some (record { parent = read.parent; children = children; what = what_of read.kind (get_or own place []) }) in (
      ap (entry_at all own place) here ∙ ap entry (behind place (omega arith)),
      lives all own nodes (place + 1) follow begins.rest behind,
    )

-- none stands at the top
abbrev HaveParents : List Node → Type 0
HaveParents nodes = (place : ℕ) (read : Node) → slice_get nodes place ≡ Some read → (parent : ℕ) × (read.parent ≡ Some parent)

-- nodes in document order, where none is past the limit of depths
stand : (nodes : List Node) (opened : List ℕ) (after : Bool) (known : List ℕ) (place : ℕ) → HaveParents nodes → AreInOrder opened after place nodes → length known ≡ place
    → AreBelow place opened → AreDeep known opened → All (λ depth. depth ≤ greatest_depth) (depths_from known nodes) → Stands greatest_depth opened place nodes
unfolding depths_from
stand [] opened after known place have order count below deep shallow = tt
stand (read ∷ nodes) opened after known place have (closed, [], parts, is, may, order) count below deep shallow = let parent = have 0 read refl in absurd (none-some parent.0 (sym is ∙ parent.1))
stand (read ∷ nodes) opened after known place have (closed, parent ∷ above, parts, is, may, order) count below deep shallow =
    let still : AreBelow place (parent ∷ above) = below_still closed (parent ∷ above) place (subst (AreBelow place) parts below) in
    let inner : AreDeep known (parent ∷ above) = deep_still known closed (parent ∷ above) (subst (AreDeep known) parts deep) in
    let depth : ℕ = depth_in known read.parent in
    let value : depth ≡ length (parent ∷ above) + 1 = ap (depth_in known) is ∙ ap (λ (n : ℕ). n + 1) inner.0 in
    let longer : length (known ++ depth ∷ []) ≡ place + 1 = omega (arith, length-append known (depth ∷ []), count) in
    let stays : slice_get (depths_from (known ++ depth ∷ []) nodes) place ≡ Some depth =
    known_stay (known ++ depth ∷ []) nodes place (omega (arith, longer)) ∙ (ap (slice_get (known ++ depth ∷ [])) (sym count) ∙ slice_get_last known depth) in
    let limit : get_or (depths_from (known ++ depth ∷ []) nodes) place depth ≤ greatest_depth = shallow place depth (slice_get_within (depths_from (known ++ depth ∷ []) nodes) place depth stays) in
    let same : get_or (depths_from (known ++ depth ∷ []) nodes) place depth ≡ depth = get_or_from_slice_get (depths_from (known ++ depth ∷ []) nodes) place depth depth stays in
    let few : length (parent ∷ above) < greatest_depth = omega (arith, limit, same, value) in (
      closed,
      parent,
      above,
      parts,
      is,
      few,
      stand nodes (with_opened read.kind place (parent ∷ above)) (is_text read.kind) (known ++ depth ∷ []) (place + 1) (λ other next here. have (suc other) next here) order longer
          (below_opened read.kind place (parent ∷ above) still) (deep_opened read.kind known (parent ∷ above) place depth count still inner value) shallow,
    )

-- ---- a document

-- only the first has no parent
have_parents : (first : Node) (nodes : List Node) → IsShaped (first ∷ nodes) → HaveParents nodes
have_parents first nodes shaped zero read here = (0, ap (λ (n : Node). n.parent) (same_Some read _ (sym here ∙ shaped.body.1)))
have_parents first nodes shaped (suc place) read here = let stands = shaped.others (suc (suc place)) read (omega arith) here in (stands.0, stands.1)

whole : (nodes : List Node) (own : List (List Declaration)) → IsShaped nodes → IsInDocumentOrder nodes → All (λ depth. depth ≤ greatest_depth) (depths nodes)
    → listed None (tree_of (opening.opened nodes own)) ≡ numbered nodes own
unfolding depths_from
whole [] own shaped order shallow = absurd (none-some _ shaped.html.1)
whole (first ∷ nodes) own shaped (closed, still, parts, is, may, order) shallow =
    let html = same_Some first _ shaped.html.1 in
    let alone : first.parent ≡ None = ap (λ (n : Node). n.parent) html in
    let begun : with_opened first.kind 0 still ≡ 0 ∷ [] = ap (λ (n : Node). with_opened n.kind 0 still) html ∙ ap (λ (l : List ℕ). 0 ∷ l) (none_behind closed still parts) in
    let behind : AreInOrder (0 ∷ []) (is_text first.kind) 1 nodes = subst (λ (l : List ℕ). AreInOrder l (is_text first.kind) 1 nodes) begun order in
    let deep : AreDeep (depth_in [] first.parent ∷ []) (0 ∷ []) = (ap (depth_in []) alone, tt) in
    let stands = stand nodes (0 ∷ []) (is_text first.kind) (depth_in [] first.parent ∷ []) 1 (have_parents first nodes shaped) behind refl (omega arith, tt) deep shallow in
    first_listed greatest_depth (opening.opened (first ∷ nodes) own) own 63 first nodes alone refl
    (lives (first ∷ nodes) own (first ∷ nodes) 0 (shape_follows (first ∷ nodes) shaped) refl (λ number behind. refl)) stands

-- the tree of a document that was opened has exactly the nodes that were read
pub opens_whole : (nodes : List Node) (own : List (List Declaration)) (result : Result Document EditError) → IsShaped nodes → Opens nodes own result → IsInDocumentOrder nodes
    → IfOk result (λ document. listed None (tree_of (state_of document)) ≡ numbered nodes own)
opens_whole nodes own (Ok document) shaped opens order = ap (λ (state : State). listed None (tree_of state)) (are_equal (state_of document) (opening.opened nodes own) opens.2) ∙ whole nodes own shaped order opens.1
opens_whole nodes own (Err error) shaped opens order = tt
