-- A document that is filled with the nodes that were read.
use Rattle.std.proofs.Common.{◌≡◌, ◌∙◌, ℕ, ◌<◌, List, [], length, get_or, map, ap, sym, arith, Some, inl, inr}
use Rattle.std.specs.Global.{Vec}
use Rattle.std.proofs.lemmas.Bool.{cases_eq, cases_lt}
use Rattle.std.proofs.lemmas.List.{get_or-map}
use Rattle.std.proofs.lemmas.Option.{slice_get_past}
use Rattle.css_types.specs.declared.value.Declaration.{Declaration}
use Rattle.html_read.specs.declared.node.ReadNode.{ReadNode}
use Rattle.html_read.specs.Values.{Node, kind_of, nodes_of}
use Rattle.dom_store.specs.Building.{Adds, IsFilledFrom, numbers_at}
use Rattle.dom_store.specs.Opening.{AreSame, children_from, entry_at, opened, what_of}
use Rattle.dom_store.specs.State.{Entry, State}
use Rattle.dom_store.proofs.Places.{read_at}

-- one node more
pub filled_more : (whole old new : State) (entry : Entry) → IsFilledFrom whole old → Adds old new entry → whole.node_at old.next ≡ Some entry → IsFilledFrom whole new
filled_more whole old new entry filled adds is = record {
  below = λ number low. elim (cases_eq number old.next) [
    | inl same ↦
        let here = adds.here in
        cc
    | inr apart ↦ adds.others number apart ∙ filled.below number (omega (arith, adds.next))
  ];
  above = λ number high. adds.others number (omega (arith, adds.next)) ∙ filled.above number (omega (arith, adds.next));
}

-- no node is left
pub filled_whole : (nodes : List Node) (own : List (List Declaration)) (state : State) → IsFilledFrom (opened nodes own) state → state.next ≡ length nodes → AreSame state (opened nodes own)
filled_whole nodes own state filled all = record {
  nodes = λ number. elim (cases_lt number state.next) [
    | inl low ↦ filled.below number low
    | inr high ↦ filled.above number high ∙ sym (ap (entry_at nodes own number) (slice_get_past nodes number (omega arith)))
  ];
  next = all;
}

module _ (reads : List ReadNode) (styles : List (Vec Declaration)) (lists : List (Vec ℕ)) (place : ℕ) (read : ReadNode) (own : Vec Declaration) (children : Vec ℕ) where
  -- the node at this place, with its children and its own declarations
  pub entry_here : place < length reads → read ≡ get_or reads place read → place < length styles → own ≡ get_or styles place own → place < length lists → children ≡ get_or lists place children
      → ((at : ℕ) → numbers_at lists at ≡ children_from 0 at (nodes_of reads))
      → (opened (nodes_of reads) (map (λ own. own.items) styles)).node_at place ≡ Some (record { parent = read.parent; children = children.items; what = what_of (kind_of read.kind) own.items })
  entry_here within is styled owned listed childed all =
      let owns = λ (o : Vec Declaration). o.items in
      let numbers = λ (list : Vec ℕ). list.items in
      let its_own : get_or (map owns styles) place [] ≡ own.items = get_or-map owns styles place own [] styled ∙ sym (ap owns owned) in
      let its_children : children_from 0 place (nodes_of reads) ≡ children.items = sym (all place) ∙ (get_or-map numbers lists place children [] listed ∙ sym (ap numbers childed)) in
      ap (entry_at (nodes_of reads) (map owns styles) place) (read_at reads place read within is)
      ∙ (ap (λ (c : List ℕ). Some (record { parent = read.parent; children = c; what = what_of (kind_of read.kind) (get_or (map owns styles) place []) })) its_children
      ∙ ap (λ (o : List Declaration). Some (record { parent = read.parent; children = children.items; what = what_of (kind_of read.kind) o })) its_own)
