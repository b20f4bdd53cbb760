-- The nodes that are listed stand in document order.
use Rattle.std.proofs.Common.{◌≡◌, ◌≢◌, ℕ, suc, ◌+◌, Bool, true, false, List, [], ◌∷◌, ◌++◌, length, Some, None, refl, sym, ap, subst, ◌∙◌, arith, append_assoc}
use Rattle.std.specs.Prelude.{Option}
use Rattle.html_tokens.specs.declared.tag.Tag.{Tag}
use Rattle.html_tokens.specs.declared.tag.Tag.TheVariants.{Html, Body, Br}
use Rattle.html_read.specs.Values.{Acting, Node, element, text, is_text}
use Rattle.html_read.specs.Tree.{Items, none, pair, line_break, with_text, with_element, listed, roots, AreNodes}
use Rattle.html_read.specs.Grammar.{IsFragment}
use Rattle.html_read.specs.Shape.{innermost, with_opened, MayFollow, AreInOrder, IsInDocumentOrder}

-- ---- nodes behind others

-- the same, with what is open behind the last of them, and whether that is a text
abbrev LeadsTo : (opened : List ℕ) (after : Bool) (place : ℕ) → List Node → (last : List ℕ) (text_last : Bool) → Type 0
LeadsTo opened after place [] last text_last = (opened ≡ last) × (after ≡ text_last)
LeadsTo opened after place (node ∷ nodes) last text_last = (closed still : List ℕ) × (opened ≡ closed ++ still) × (node.parent ≡ innermost still)
    × MayFollow after closed node.kind × LeadsTo (with_opened node.kind place still) (is_text node.kind) (place + 1) nodes last text_last

in_order : (nodes : List Node) (opened : List ℕ) (after : Bool) (place : ℕ) (last : List ℕ) (text_last : Bool) → LeadsTo opened after place nodes last text_last → AreInOrder opened after place nodes
in_order [] opened after place last text_last l = tt
in_order (node ∷ nodes) opened after place last text_last (closed, still, parts, parent, follows, more) =
    (closed, still, parts, parent, follows, in_order nodes (with_opened node.kind place still) (is_text node.kind) (place + 1) last text_last more)

leads_on : (nodes : List Node) (node : Node) (opened : List ℕ) (after : Bool) (place : ℕ) (last : List ℕ) (text_last : Bool) (closed still : List ℕ)
    → LeadsTo opened after place nodes last text_last → last ≡ closed ++ still → node.parent ≡ innermost still → MayFollow text_last closed node.kind
    → LeadsTo opened after place (nodes ++ node ∷ []) (with_opened node.kind (place + length nodes) still) (is_text node.kind)
leads_on [] node opened after place last text_last closed still l parts parent follows =
    let here : place ≡ place + 0 = omega arith in
    (closed, still, l.0 ∙ parts, parent, subst (λ (t : Bool). MayFollow t closed node.kind) (sym l.1) follows, (ap (λ (p : ℕ). with_opened node.kind p still) here, refl))
leads_on (first ∷ nodes) node opened after place last text_last closed still (c, s, p, q, f, more) parts parent follows =
    let there : place + 1 + length nodes ≡ place + suc (length nodes) = omega arith in
    let on = leads_on nodes node (with_opened first.kind place s) (is_text first.kind) (place + 1) last text_last closed still more parts parent follows in
    (c, s, p, q, f, subst (λ (n : ℕ). LeadsTo (with_opened first.kind place s) (is_text first.kind) (place + 1) (nodes ++ node ∷ []) (with_opened node.kind n still) (is_text node.kind)) there on)

-- ---- what is open behind nodes

-- These elements are open behind the nodes, perhaps with some within them. Where `free` says so, a text may stand next
-- in the innermost of these.
record Leaves (free : Bool) (nodes : List Node) (opened : List ℕ) : Type 0 where
  within : List ℕ
  after : Bool
  leads : LeadsTo [] false 0 nodes (within ++ opened) after
  open_to_text : free ≡ true → after ≡ true → within ≢ []

at_begin : Leaves true [] []
at_begin = record { within = []; after = false; leads = (refl, refl); open_to_text = λ e is. absurd cc }

element_put : (free : Bool) (nodes : List Node) (opened : List ℕ) (parent : Option ℕ) (tag : Tag) (acting : Acting)
    → Leaves free nodes opened → parent ≡ innermost opened → Leaves true (with_element parent tag acting nodes) (length nodes ∷ opened)
element_put free nodes opened parent tag acting l e =
    let at_ : 0 + length nodes ≡ length nodes = omega arith in
    record {
      within = [];
      after = false;
      leads = subst (λ (n : ℕ). LeadsTo [] false 0 (with_element parent tag acting nodes) (n ∷ opened) false) at_
          (leads_on nodes (record { parent = parent; kind = element tag acting }) [] false 0 (l.within ++ opened) l.after l.within opened l.leads refl e tt);
      open_to_text = λ is now. absurd cc;
    }

text_put : (nodes : List Node) (opened : List ℕ) (parent : Option ℕ) (letters : List ℕ)
    → Leaves true nodes opened → parent ≡ innermost opened → Leaves false (with_text parent letters nodes) opened
text_put nodes opened parent [] l e = record { within = l.within; after = l.after; leads = l.leads; open_to_text = λ is now. absurd cc }
text_put nodes opened parent (byte ∷ letters) l e = record {
  within = [];
  after = true;
  leads = leads_on nodes (record { parent = parent; kind = text (byte ∷ letters) }) [] false 0 (l.within ++ opened) l.after l.within opened l.leads refl e
      ((λ none. absurd cc), l.open_to_text refl);
  open_to_text = λ is now. absurd cc;
}

not_none : (xs : List ℕ) (x : ℕ) → (xs ++ x ∷ []) ≢ []
not_none [] x e = absurd cc
not_none (y ∷ xs) x e = absurd cc

-- the innermost of them may be closed
closed_one : (free : Bool) (nodes : List Node) (opened : List ℕ) (number : ℕ) → Leaves free nodes (number ∷ opened) → Leaves true nodes opened
closed_one free nodes opened number l = record {
  within = l.within ++ number ∷ [];
  after = l.after;
  leads = subst (λ (o : List ℕ). LeadsTo [] false 0 nodes o l.after) (sym (append_assoc l.within (number ∷ []) opened)) l.leads;
  open_to_text = λ is now. not_none l.within number;
}

less_free : (free : Bool) (nodes : List Node) (opened : List ℕ) → Leaves free nodes opened → Leaves false nodes opened
less_free free nodes opened l = record { within = l.within; after = l.after; leads = l.leads; open_to_text = λ is now. absurd cc }

-- ---- the nodes of items

items_put : (items : Items) (free : Bool) (nodes : List Node) (opened : List ℕ) (parent : Option ℕ)
    → Leaves free nodes opened → parent ≡ innermost opened → Leaves false (listed items parent nodes) opened
items_put none free nodes opened parent l e = less_free free nodes opened l
items_put (pair tag acting letters inner after_ next) free nodes opened parent l e =
    let number = length nodes in
    let n1 = with_element parent tag acting nodes in
    let n2 = with_text (Some number) letters n1 in
    let n3 = listed inner (Some number) n2 in
    let l1 = element_put free nodes opened parent tag acting l e in
    let l2 = text_put n1 (number ∷ opened) (Some number) letters l1 refl in
    let l3 = items_put inner false n2 (number ∷ opened) (Some number) l2 refl in
    let l4 = text_put n3 opened parent after_ (closed_one false n3 opened number l3) e in
    items_put next false (with_text parent after_ n3) opened parent l4 e
items_put (line_break acting after_ next) free nodes opened parent l e =
    let number = length nodes in
    let n1 = with_element parent Br acting nodes in
    let l1 = element_put free nodes opened parent Br acting l e in
    let l2 = text_put n1 opened parent after_ (closed_one true n1 opened number l1) e in
    items_put next false (with_text parent after_ n1) opened parent l2 e

all_in_order : (free : Bool) (nodes : List Node) (opened : List ℕ) → Leaves free nodes opened → IsInDocumentOrder nodes
all_in_order free nodes opened l = in_order nodes [] false 0 (l.within ++ opened) l.after l.leads

-- ---- documents and fragments

pub nodes_in_order : (nodes : List Node) → AreNodes nodes → IsInDocumentOrder nodes
nodes_in_order nodes are =
    let html = with_element None Html are.html [] in
    let l1 = element_put true [] [] None Html are.html at_begin refl in
    let l2 = element_put true html (0 ∷ []) (Some 0) Body are.body l1 refl in
    let begun = with_text (Some 1) are.first (roots are.html are.body) in
    let l3 = text_put (roots are.html are.body) (1 ∷ 0 ∷ []) (Some 1) are.first l2 refl in
    let l4 = items_put are.items false begun (1 ∷ 0 ∷ []) (Some 1) l3 refl in
    subst (λ (l : List Node). IsInDocumentOrder l) (sym are.are) (all_in_order false (listed are.items (Some 1) begun) (1 ∷ 0 ∷ []) l4)

pub fragment_in_order : (text_ : List ℕ) (nodes : List Node) → IsFragment text_ nodes → IsInDocumentOrder nodes
fragment_in_order text_ nodes is =
    let begun = with_text None is.letters [] in
    let l1 = text_put [] [] None is.letters at_begin refl in
    let l2 = items_put is.items false begun [] None l1 refl in
    subst (λ (l : List Node). IsInDocumentOrder l) (sym is.made) (all_in_order false (listed is.items None begun) [] l2)
