-- The styles of a document, sheet by sheet and node by node.
use Rattle.std.proofs.Common.{◌≡◌, ℕ, ◌<◌, ◌≤◌, ◌+◌, List, [], ◌∷◌, ◌++◌, length, drop, get_or, map, Ok, Err, refl, sym, ap, ◌∙◌, append_assoc}
use Rattle.std.proofs.lemmas.List.{drop_all, append-nil, map-append, drop_more}
use Rattle.css_types.specs.declared.value.Declaration.{Declaration}
use Rattle.html_read.specs.declared.node.PlacedText.{PlacedText}
use Rattle.html_read.specs.declared.node.ReadNode.{ReadNode}
use Rattle.html_read.specs.Values.{Node, TextAt, kind_of, node_of, nodes_of, sheets_of, text_at}
use Rattle.std.specs.declared.vec.Vec.{Vec}
use Rattle.css_values.specs.declared.error.CssError.{CssError}
use Rattle.css_values.specs.declared.error.CssError.TheVariants as errors
use Rattle.css_sheet.specs.Sheet.{Sheet, empty}
use Rattle.css_sheet.specs.Styled.{Fails, Placed, and_then, attributes, before_others, moved_to, own_of_kind, sheet_at, sheets}

-- ---- declarations at one place

-- these, and those that are left at the place, are all at the place
abbrev pub IsMoving : (place : ℕ) → (own : List Declaration) → (i : ℕ) → (moved : List Declaration) → Type 0
IsMoving place own i moved = moved ++ moved_to place (drop i own) ≡ moved_to place own

abbrev placed : List Declaration → Placed (List Declaration)
placed own = Ok own

pub moving_goes_on : (place : ℕ) (own : List Declaration) (i : ℕ) (d : Declaration) (moved new : List Declaration) → i < length own
    → new ≡ moved ++ record { property = (get_or own i d).property; value = (get_or own i d).value; important = (get_or own i d).important; place = place } ∷ [] → IsMoving place own i moved → IsMoving place own (i + 1) new
moving_goes_on place own i d moved new lt e now =
    ap (λ (l : List Declaration). l ++ moved_to place (drop (i + 1) own)) e
    ∙ append_assoc moved (moved_to place (get_or own i d ∷ [])) (moved_to place (drop (i + 1) own))
    ∙ ap (λ (l : List Declaration). moved ++ moved_to place l) (sym (drop_more own i d lt)) ∙ now

pub moving_ends : (place : ℕ) (own : List Declaration) (i : ℕ) (moved : List Declaration) → length own ≤ i → IsMoving place own i moved → placed (moved_to place own) ≡ placed moved
moving_ends place own i moved le now =
    let none : drop i own ≡ [] = drop_all i own le in
    ap placed (sym now ∙ ap (λ (l : List Declaration). moved ++ moved_to place l) none ∙ append-nil moved)

-- ---- sheets

abbrev pub IsReading : (texts : List PlacedText) → (i : ℕ) → Sheet → Type 0
IsReading texts i now = sheets (sheets_of (drop i texts)) now ≡ sheets (sheets_of texts) empty

one_more : (t : TextAt) (others : List TextAt) (s : Sheet) → sheets (t ∷ others) s ≡ and_then (sheet_at t s) (sheets others)
unfolding sheets
one_more t others s = refl

no_more : (s : Sheet) → sheets [] s ≡ Ok s
unfolding sheets
no_more s = refl

here : (texts : List PlacedText) (i : ℕ) (d : PlacedText) (now : Sheet) (r : Placed Sheet) → i < length texts → sheet_at (text_at (get_or texts i d)) now ≡ r
    → sheets (sheets_of (drop i texts)) now ≡ and_then r (sheets (sheets_of (drop (i + 1) texts)))
here texts i d now r lt e =
    rw (drop_more texts i d lt) (one_more (text_at (get_or texts i d)) (sheets_of (drop (i + 1) texts)) now
    ∙ ap (λ (x : Placed Sheet). and_then x (sheets (sheets_of (drop (i + 1) texts)))) e)

pub sheets_go_on : (texts : List PlacedText) (i : ℕ) (d : PlacedText) (now new : Sheet) → i < length texts → sheet_at (text_at (get_or texts i d)) now ≡ Ok new → IsReading texts i now → IsReading texts (i + 1) new
sheets_go_on texts i d now new lt e is = sym (here texts i d now (Ok new) lt e) ∙ is

pub sheets_stop : (texts : List PlacedText) (i : ℕ) (d : PlacedText) (now : Sheet) (error : CssError) → i < length texts → Fails error (sheet_at (text_at (get_or texts i d)) now) → IsReading texts i now
    → Fails error (sheets (sheets_of texts) empty)
sheets_stop texts i d now (errors.Refused kind place) lt e is = sym is ∙ here texts i d now (Err (kind, place)) lt e
sheets_stop texts i d now errors.Memory lt e is = tt

pub sheets_end : (texts : List PlacedText) (i : ℕ) (now : Sheet) → length texts ≤ i → IsReading texts i now → sheets (sheets_of texts) empty ≡ Ok now
sheets_end texts i now le is =
    let none : drop i texts ≡ [] = drop_all i texts le in
    sym is ∙ ap (λ (l : List PlacedText). sheets (sheets_of l) now) none ∙ no_more now

-- ---- nodes

abbrev pub behind : List (List Declaration) → Placed (List (List Declaration)) → Placed (List (List Declaration))
behind all (Ok others) = Ok (all ++ others)
behind all (Err refused) = Err refused

abbrev pub IsTaking : (nodes : List ReadNode) → (i : ℕ) → List (List Declaration) → Type 0
IsTaking nodes i all = behind all (attributes (nodes_of (drop i nodes))) ≡ attributes (nodes_of nodes)

one_node : (node : Node) (others : List Node) → attributes (node ∷ others) ≡ and_then (own_of_kind node.kind) (λ own. before_others own (attributes others))
unfolding attributes
one_node node others = refl

no_node : attributes [] ≡ Ok []
unfolding attributes
no_node = refl

moved : (all : List (List Declaration)) (own : List Declaration) (others : Placed (List (List Declaration))) → behind all (before_others own others) ≡ behind (all ++ own ∷ []) others
moved all own (Ok others) = ap Ok (sym (append_assoc all (own ∷ []) others))
moved all own (Err refused) = refl

own_here : (nodes : List ReadNode) (i : ℕ) (d : ReadNode) (r : Placed (List Declaration)) → i < length nodes → own_of_kind (kind_of (get_or nodes i d).kind) ≡ r
    → attributes (nodes_of (drop i nodes)) ≡ and_then r (λ own. before_others own (attributes (nodes_of (drop (i + 1) nodes))))
own_here nodes i d r lt e =
    rw (drop_more nodes i d lt) (one_node (node_of (get_or nodes i d)) (nodes_of (drop (i + 1) nodes))
    ∙ ap (λ (x : Placed (List Declaration)). and_then x (λ own. before_others own (attributes (nodes_of (drop (i + 1) nodes))))) e)

pub attributes_go_on : (nodes : List ReadNode) (i : ℕ) (d : ReadNode) (all new : List (List Declaration)) (own : List Declaration) → i < length nodes → own_of_kind (kind_of (get_or nodes i d).kind) ≡ Ok own → new ≡ all ++ own ∷ []
    → IsTaking nodes i all → IsTaking nodes (i + 1) new
attributes_go_on nodes i d all new own lt e made is =
    ap (λ (l : List (List Declaration)). behind l (attributes (nodes_of (drop (i + 1) nodes)))) made
    ∙ sym (ap (behind all) (own_here nodes i d (Ok own) lt e) ∙ moved all own (attributes (nodes_of (drop (i + 1) nodes)))) ∙ is

pub attributes_stop : (nodes : List ReadNode) (i : ℕ) (d : ReadNode) (all : List (List Declaration)) (error : CssError) → i < length nodes
    → Fails error (own_of_kind (kind_of (get_or nodes i d).kind)) → IsTaking nodes i all
    → Fails error (attributes (nodes_of nodes))
attributes_stop nodes i d all (errors.Refused kind place) lt e is = sym is ∙ ap (behind all) (own_here nodes i d (Err (kind, place)) lt e)
attributes_stop nodes i d all errors.Memory lt e is = tt

pub attributes_end : (nodes : List ReadNode) (i : ℕ) (all : List (List Declaration)) → length nodes ≤ i → IsTaking nodes i all → attributes (nodes_of nodes) ≡ Ok all
attributes_end nodes i all le is =
    let none : drop i nodes ≡ [] = drop_all i nodes le in
    sym is ∙ ap (λ (l : List ReadNode). behind all (attributes (nodes_of l))) none ∙ ap (behind all) no_node ∙ ap Ok (append-nil all)

pub owned_more : {Y : Type 0} (all : List (Vec Declaration Y)) (own : Vec Declaration Y) → map (λ (v : Vec Declaration Y). v.items) (all ++ own ∷ []) ≡ map (λ (v : Vec Declaration Y). v.items) all ++ own.items ∷ []
owned_more all own = map-append (λ v. v.items) all (own ∷ [])
