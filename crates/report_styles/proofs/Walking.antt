-- The sheets and the nodes of a document, one after the other, and what is told of them.
use Rattle.std.proofs.Common.{◌≡◌, ℕ, ◌<◌, ◌≤◌, ◌+◌, Bool, ◌||◌, List, [], ◌∷◌, length, drop, get_or, refl, sym, ap, ◌∙◌}
use Rattle.std.specs.List.{list_any}
use Rattle.std.proofs.lemmas.List.{drop_all, drop_more}
use Rattle.html_read.specs.declared.node.PlacedText.{PlacedText}
use Rattle.html_read.specs.declared.node.ReadNode.{ReadNode}
use Rattle.html_read.specs.Values.{kind_of, nodes_of, sheets_of, text_at}
use Rattle.report_styles.specs.Told.{Told, is_limit, with_kind, with_nodes, with_sheet, with_sheets}
use Rattle.report_styles.specs.Views.{all_of, told_of}
use Rattle.report_styles.specs.declared.telling.Told as code

-- what is told with the sheets that are left is what is told with all of them
abbrev pub AreTelling : (begun : List Told) → (sheets : List PlacedText) → (i : ℕ) → (now : List Told) → Type 0
AreTelling begun sheets i now = with_sheets now (sheets_of (drop i sheets)) ≡ with_sheets begun (sheets_of sheets)

pub sheets_go_on : (begun now new : List Told) (sheets : List PlacedText) (i : ℕ) (d : PlacedText) → i < length sheets → new ≡ with_sheet now (text_at (get_or sheets i d)) → AreTelling begun sheets i now → AreTelling begun sheets (i + 1) new
sheets_go_on begun now new sheets i d lt e is =
    ap (λ (t : List Told). with_sheets t (sheets_of (drop (i + 1) sheets))) e
    ∙ ap (λ (l : List PlacedText). with_sheets now (sheets_of l)) (sym (drop_more sheets i d lt)) ∙ is

pub sheets_end : (begun now : List Told) (sheets : List PlacedText) (i : ℕ) → length sheets ≤ i → AreTelling begun sheets i now → now ≡ with_sheets begun (sheets_of sheets)
sheets_end begun now sheets i le is =
    let none : drop i sheets ≡ [] = drop_all i sheets le in
    ap (λ (l : List PlacedText). with_sheets now (sheets_of l)) (sym none) ∙ is

-- the same of the nodes
abbrev pub AreWalked : (begun : List Told) → (nodes : List ReadNode) → (i : ℕ) → (now : List Told) → Type 0
AreWalked begun nodes i now = with_nodes now (nodes_of (drop i nodes)) ≡ with_nodes begun (nodes_of nodes)

pub nodes_go_on : (begun now new : List Told) (nodes : List ReadNode) (i : ℕ) (d : ReadNode) → i < length nodes → new ≡ with_kind now (kind_of (get_or nodes i d).kind) → AreWalked begun nodes i now → AreWalked begun nodes (i + 1) new
nodes_go_on begun now new nodes i d lt e is =
    ap (λ (t : List Told). with_nodes t (nodes_of (drop (i + 1) nodes))) e
    ∙ ap (λ (l : List ReadNode). with_nodes now (nodes_of l)) (sym (drop_more nodes i d lt)) ∙ is

pub nodes_end : (begun now : List Told) (nodes : List ReadNode) (i : ℕ) → length nodes ≤ i → AreWalked begun nodes i now → now ≡ with_nodes begun (nodes_of nodes)
nodes_end begun now nodes i le is =
    let none : drop i nodes ≡ [] = drop_all i nodes le in
    ap (λ (l : List ReadNode). with_nodes now (nodes_of l)) (sym none) ∙ is

-- whether one of them tells of a limit
pub limits_are : (told : List code.Told) → list_any (λ one. is_limit (told_of one)) told ≡ list_any is_limit (all_of told)
limits_are [] = refl
limits_are (one ∷ told) = ap (λ (b : Bool). is_limit (told_of one) || b) (limits_are told)
