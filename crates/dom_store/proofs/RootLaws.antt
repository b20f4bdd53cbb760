-- What holds of the state that a document begins with: where `html` and `body` stand, and which numbers its declarations have.
use Rattle.std.proofs.Common.{◌≡◌, ◌∙◌, ℕ, suc, ◌+◌, ◌≤◌, Bool, false, List, [], ◌∷◌, length, map, get_or, refl, ap, sym, subst, arith, Option, Some, None, Ok, Err, IfOk, inl, inr}
use Rattle.std.specs.Prelude.{Result}
use Rattle.std.specs.List.{All, slice_get}
use Rattle.std.specs.Global.{Vec}
use Rattle.std.proofs.lemmas.Bool.{cases_lt, ne_eqb}
use Rattle.std.proofs.lemmas.List.{get_or_past}
use Rattle.std.proofs.lemmas.List.Elements.{All-map, All-nil}
use Rattle.css_types.specs.Value.{HasSayable}
use Rattle.std.proofs.lemmas.Option.{none-some, slice_get_within, same_Some}
use Rattle.html_read.specs.Shape.{IsShaped}
use Rattle.html_read.specs.Values as html
use Rattle.html_read.specs.Values.{Node}
use Rattle.css_types.specs.declared.value.Declaration.{Declaration}
use Rattle.dom_store.specs.declared.document.Document.{Document}
use Rattle.dom_store.specs.declared.error.EditError.{EditError}
use Rattle.dom_store.specs.State.{Entry, State, AreSaid, IsRooted, IsSaid, IsSaidState, state_of}
use Rattle.dom_store.specs.Opening.{AreSame, Opens, children_from, entry_at, opened, put_if, stands_in, what_of}

-- ---- the roots

-- nodes whose parents aren't the first node
no_more : (rest : List Node) (at : ℕ) → ((k : ℕ) (node : Node) → slice_get rest k ≡ Some node → (p : ℕ) × (node.parent ≡ Some p) × (1 ≤ p)) → children_from at 0 rest ≡ []
unfolding children_from
no_more [] at above = refl
no_more (node ∷ rest) at above =
    let first = above 0 node refl in
    let apart : stands_in 0 node.parent ≡ false = ap (stands_in 0) first.1 ∙ ne_eqb 0 first.0 (λ is. omega (arith, first.2, is)) in
    ap (λ (b : Bool). put_if b at (children_from (at + 1) 0 rest)) apart ∙ no_more rest (at + 1) (λ k other is. above (suc k) other is)

-- `body` alone stands in `html`
body_alone : (nodes : List Node) → IsShaped nodes → children_from 0 0 nodes ≡ 1 ∷ []
unfolding children_from
body_alone [] shaped = absurd (none-some _ shaped.html.1)
body_alone (first ∷ []) shaped = absurd (none-some _ shaped.body.1)
body_alone (first ∷ second ∷ rest) shaped =
    let one : first.parent ≡ None = ap (λ (n : Node). n.parent) (same_Some first _ shaped.html.1) in
    let two : second.parent ≡ Some 0 = ap (λ (n : Node). n.parent) (same_Some second _ shaped.body.1) in
    ap (λ (p : Option ℕ). put_if (stands_in 0 p) 0 (put_if (stands_in 0 second.parent) 1 (children_from 2 0 rest))) one
    ∙ ap (λ (p : Option ℕ). put_if (stands_in 0 p) 1 (children_from 2 0 rest)) two
    ∙ ap (λ (l : List ℕ). 1 ∷ l) (no_more rest 2 (λ k node is. let stands = shaped.others (suc (suc k)) node (omega arith) is in (stands.0, stands.1, stands.2)))

rooted : (nodes : List Node) (own : List (List Declaration)) → IsShaped nodes → IsRooted (opened nodes own)
rooted nodes own shaped = record {
  html = (_, ap (entry_at nodes own 0) shaped.html.1, tt, refl, body_alone nodes shaped);
  body = (_, ap (entry_at nodes own 1) shaped.body.1, tt, refl);
  drawn = slice_get_within nodes 1 _ shaped.body.1;
}

rooted_as : (one other : State) → AreSame one other → IsRooted other → IsRooted one
rooted_as one other same root = record {
  html = (root.html.0, same.nodes 0 ∙ root.html.1, root.html.2, root.html.3, root.html.4);
  body = (root.body.0, same.nodes 1 ∙ root.body.1, root.body.2, root.body.3);
  drawn = omega (arith, same.next, root.drawn);
}

pub opens_rooted : (nodes : List Node) (own : List (List Declaration)) (result : Result Document EditError) → IsShaped nodes → Opens nodes own result → IfOk result (λ document. IsRooted (state_of document))
opens_rooted nodes own (Ok document) shaped opens = rooted_as (state_of document) (opened nodes own) opens.2 (rooted nodes own shaped)
opens_rooted nodes own (Err error) shaped opens = tt

-- ---- the numbers of declarations

pub said_at : (own : List (List Declaration)) (place : ℕ) → All AreSaid own → AreSaid (get_or own place [])
said_at own place said = elim (cases_lt place (length own)) [
  | inl within ↦ said place [] within
  | inr past ↦ subst AreSaid (sym (get_or_past own place [] past)) (All-nil (λ (d : Declaration). HasSayable d.value))
]

pub said_what : (kind : html.Kind) (own : List Declaration) → AreSaid own → IsSaid (what_of kind own)
said_what (html.element tag acting) own said = said
said_what (html.text letters) own said = tt

said_entry : (nodes : List Node) (own : List (List Declaration)) (number : ℕ) (node : Option Node) (entry : Entry) → All AreSaid own → entry_at nodes own number node ≡ Some entry → IsSaid entry.what
said_entry nodes own number None entry said is = absurd (none-some entry is)
said_entry nodes own number (Some node) entry said is =
    subst (λ (e : Entry). IsSaid e.what) (same_Some _ entry is) (said_what node.kind (get_or own number []) (said_at own number said))

said_of : (lists : List (Vec Declaration)) → All (λ own. AreSaid own.items) lists → All AreSaid (map (λ own. own.items) lists)
said_of lists said = All-map AreSaid (λ (own : Vec Declaration). own.items) lists said

pub opens_said : (nodes : List Node) (lists : List (Vec Declaration)) (result : Result Document EditError) → Opens nodes (map (λ own. own.items) lists) result
    → All (λ own. AreSaid own.items) lists → IfOk result (λ document. IsSaidState (state_of document))
opens_said nodes lists (Ok document) opens said = λ number entry is. said_entry nodes _ number (slice_get nodes number) entry (said_of lists said) (sym (opens.2.nodes number) ∙ is)
opens_said nodes lists (Err error) opens said = tt
