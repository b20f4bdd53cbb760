-- What the texts among nodes are: not empty, of the repertoire, apart from one another, and no longer than the input.
use Rattle.std.proofs.Common.{◌≡◌, ◌≢◌, ℕ, zero, suc, ◌+◌, ◌<◌, ◌≤◌, Bool, true, false, List, [], ◌∷◌, ◌++◌, length, length-append, Some, None, refl, sym, ap, subst, ◌∙◌, arith}
use Rattle.std.specs.Prelude.{⊤, Option}
use Rattle.std.proofs.lemmas.List.Prefix.{front_fits}
use Rattle.basic_laws.proofs.Lists.{back_fits}
use Rattle.html_tokens.specs.declared.tag.Tag.{Tag}
use Rattle.html_tokens.specs.declared.tag.Tag.TheVariants.{Br}
use Rattle.html_tokens.specs.Text.{IsOfRepertoire}
use Rattle.html_tokens.proofs.GapTexts.{gap_shorter, gap_of_repertoire}
use Rattle.html_read.specs.Values.{TextAt, Acting, Kind, Node, Whole, element, text, is_text}
use Rattle.html_read.specs.Tree.{Items, none, pair, line_break, with_text, with_element, listed, roots}
use Rattle.html_read.specs.Grammar.{AreItems, IsContent, IsBody, IsHtml, IsDocument, IsFragment}
use Rattle.html_read.specs.Shape.{IsNodeAt, innermost, with_opened, MayFollow, AreInOrder, IsInDocumentOrder, AreTexts, text_bytes}
use Rattle.html_read.proofs.OrderLaws.{nodes_in_order, fragment_in_order}
use Rattle.html_read.proofs.NodesLaws.{document_nodes}

-- ---- no text is empty, and no two stand side by side

-- each is less than the one before it, and the first less than the limit
abbrev AreBelow : (limit : ℕ) → List ℕ → Type 0
AreBelow limit [] = ⊤
AreBelow limit (number ∷ opened) = (number < limit) × AreBelow number opened

below_more : (limit more : ℕ) (opened : List ℕ) → limit ≤ more → AreBelow limit opened → AreBelow more opened
below_more limit more [] le b = tt
below_more limit more (number ∷ opened) le b = (omega (arith, le, b.0), b.1)

below_still : (closed still : List ℕ) (limit : ℕ) → AreBelow limit (closed ++ still) → AreBelow limit still
below_still [] still limit b = b
below_still (number ∷ closed) still limit b =
    let less : number < limit = b.0 in
    below_more number limit still (omega (arith, less)) (below_still closed still number b.1)

below_opened : (kind : Kind) (place : ℕ) (still : List ℕ) → AreBelow place still → AreBelow (place + 1) (with_opened kind place still)
below_opened (element tag acting) place still b = (omega arith, b)
below_opened (text letters) place still b = below_more place (place + 1) still (omega arith) b

others_within : (closed still : List ℕ) (limit : ℕ) → AreBelow limit (closed ++ still) → closed ≢ [] → innermost (closed ++ still) ≡ innermost still → ⊥
others_within [] still limit b some e = some refl
others_within (number ∷ closed) [] limit b some e = absurd cc
others_within (number ∷ closed) (other ∷ still) limit b some e =
    let inner : AreBelow number (other ∷ still) = below_still closed (other ∷ still) number b.1 in
    let less : other < number = inner.0 in
    let same : number ≡ other = cc in
    absurd (omega (arith, less, same))

text_opens_none : (kind : Kind) (place : ℕ) (still : List ℕ) → is_text kind ≡ true → with_opened kind place still ≡ still
text_opens_none (element tag acting) place still is = absurd cc
text_opens_none (text letters) place still is = refl

text_follows : (kind : Kind) (after : Bool) (closed : List ℕ) → MayFollow after closed kind → is_text kind ≡ true → after ≡ true → closed ≢ []
text_follows (element tag acting) after closed f is now = absurd cc
text_follows (text letters) after closed f is now = f.1 now

some_letters : (kind : Kind) (after : Bool) (closed letters : List ℕ) → MayFollow after closed kind → kind ≡ text letters → letters ≢ []
some_letters (element tag acting) after closed letters f e = absurd cc
some_letters (text others) after closed letters f e =
    let same : others ≡ letters = cc in
    λ none. f.0 (same ∙ none)

texts_some : (nodes : List Node) (opened : List ℕ) (after : Bool) (first place : ℕ) (node : Node) (letters : List ℕ)
    → AreInOrder opened after first nodes → IsNodeAt nodes place node → node.kind ≡ text letters → letters ≢ []
texts_some [] opened after first place node letters o at_ e = absurd cc
texts_some (x ∷ nodes) opened after first zero node letters (closed, still, parts, parent, follows, more) at_ e =
    let same : x ≡ node = cc in
    some_letters x.kind after closed letters follows (ap (λ (n : Node). n.kind) same ∙ e)
texts_some (x ∷ nodes) opened after first (suc place) node letters (closed, still, parts, parent, follows, more) at_ e =
    texts_some nodes (with_opened x.kind first still) (is_text x.kind) (first + 1) place node letters more at_ e

neighbours : (one two : Node) (nodes : List Node) (opened : List ℕ) (after : Bool) (first : ℕ) → AreBelow first opened → AreInOrder opened after first (one ∷ two ∷ nodes)
    → is_text one.kind ≡ true → is_text two.kind ≡ true → one.parent ≢ two.parent
neighbours one two nodes opened after first b (closed, still, parts, parent, follows, (closed2, still2, parts2, parent2, follows2, more)) is is2 e =
    let open_ : still ≡ closed2 ++ still2 = sym (text_opens_none one.kind first still is) ∙ parts2 in
    let some : closed2 ≢ [] = text_follows two.kind (is_text one.kind) closed2 follows2 is2 is in
    let here : AreBelow first still = below_still closed still first (subst (λ (o : List ℕ). AreBelow first o) parts b) in
    let within : AreBelow first (closed2 ++ still2) = subst (λ (o : List ℕ). AreBelow first o) open_ here in
    others_within closed2 still2 first within some (ap innermost (sym open_) ∙ sym parent ∙ e ∙ parent2)

texts_apart : (nodes : List Node) (opened : List ℕ) (after : Bool) (first place : ℕ) (one two : Node) → AreBelow first opened → AreInOrder opened after first nodes
    → IsNodeAt nodes place one → IsNodeAt nodes (suc place) two → is_text one.kind ≡ true → is_text two.kind ≡ true → one.parent ≢ two.parent
texts_apart [] opened after first place one two b o at_ at2 is is2 e = absurd cc
texts_apart (x ∷ []) opened after first zero one two b o at_ at2 is is2 e = absurd cc
texts_apart (x ∷ y ∷ nodes) opened after first zero one two b o at_ at2 is is2 e =
    let same : x ≡ one = cc in
    let same2 : y ≡ two = cc in
    neighbours x y nodes opened after first b o (ap (λ (n : Node). is_text n.kind) same ∙ is) (ap (λ (n : Node). is_text n.kind) same2 ∙ is2)
    (ap (λ (n : Node). n.parent) same ∙ e ∙ sym (ap (λ (n : Node). n.parent) same2))
texts_apart (x ∷ nodes) opened after first (suc place) one two b (closed, still, parts, parent, follows, more) at_ at2 is is2 e =
    let here : AreBelow first still = below_still closed still first (subst (λ (o : List ℕ). AreBelow first o) parts b) in
    texts_apart nodes (with_opened x.kind first still) (is_text x.kind) (first + 1) place one two (below_opened x.kind first still here) more at_ at2 is is2 e

-- ---- the repertoire

abbrev IsKindOfRepertoire : Kind → Type 0
IsKindOfRepertoire (element tag acting) = ⊤
IsKindOfRepertoire (text letters) = IsOfRepertoire letters

abbrev AreOfRepertoire : List Node → Type 0
AreOfRepertoire [] = ⊤
AreOfRepertoire (node ∷ nodes) = IsKindOfRepertoire node.kind × AreOfRepertoire nodes

put_of_repertoire : (nodes : List Node) (node : Node) → AreOfRepertoire nodes → IsKindOfRepertoire node.kind → AreOfRepertoire (nodes ++ node ∷ [])
put_of_repertoire [] node r k = (k, tt)
put_of_repertoire (first ∷ nodes) node r k = (r.0, put_of_repertoire nodes node r.1 k)

text_of_repertoire : (parent : Option ℕ) (letters : List ℕ) (nodes : List Node) → AreOfRepertoire nodes → IsOfRepertoire letters → AreOfRepertoire (with_text parent letters nodes)
text_of_repertoire parent [] nodes r k = r
text_of_repertoire parent (byte ∷ letters) nodes r k = put_of_repertoire nodes (record { parent = parent; kind = text (byte ∷ letters) }) r k

element_of_repertoire : (parent : Option ℕ) (tag : Tag) (acting : Acting) (nodes : List Node) → AreOfRepertoire nodes → AreOfRepertoire (with_element parent tag acting nodes)
element_of_repertoire parent tag acting nodes r = put_of_repertoire nodes (record { parent = parent; kind = element tag acting }) r tt

items_of_repertoire : (items : Items) (size : ℕ) (text_ behind : List ℕ) (parent : Option ℕ) (nodes : List Node) → AreItems size text_ behind items → AreOfRepertoire nodes → AreOfRepertoire (listed items parent nodes)
items_of_repertoire none size text_ behind parent nodes is r = r
items_of_repertoire (pair tag acting first inner after_ next) size text_ behind parent nodes (name, start, gap_, inside, ending_, later, more, is, open_, is_gap, inner_is, end_is, is_later, next_is, whole) r =
    let number = Some (length nodes) in
    let n1 = with_element parent tag acting nodes in
    let n2 = with_text number first n1 in
    let n3 = listed inner number n2 in
    let r2 = text_of_repertoire number first n1 (element_of_repertoire parent tag acting nodes r) (gap_of_repertoire gap_ first is_gap) in
    let r3 = items_of_repertoire inner size inside (ending_ ++ (later ++ (more ++ behind))) number n2 inner_is r2 in
    let r4 = text_of_repertoire parent after_ n3 r3 (gap_of_repertoire later after_ is_later) in
    items_of_repertoire next size more behind parent (with_text parent after_ n3) next_is r4
items_of_repertoire (line_break acting after_ next) size text_ behind parent nodes (name, start, gap_, more, is, void_, is_gap, next_is, whole) r =
    let n1 = with_element parent Br acting nodes in
    let r2 = text_of_repertoire parent after_ n1 (element_of_repertoire parent Br acting nodes r) (gap_of_repertoire gap_ after_ is_gap) in
    items_of_repertoire next size more behind parent (with_text parent after_ n1) next_is r2

content_of_repertoire : (size : ℕ) (parent : Option ℕ) (nodes : List Node) (text_ behind : List ℕ) (all : List Node) → IsContent size parent nodes text_ behind all → AreOfRepertoire nodes → AreOfRepertoire all
content_of_repertoire size parent nodes text_ behind all is r =
    let begun = text_of_repertoire parent is.letters nodes r (gap_of_repertoire is.gap is.letters is.is_gap) in
    subst (λ (l : List Node). AreOfRepertoire l) (sym is.made) (items_of_repertoire is.items size is.back behind parent (with_text parent is.letters nodes) is.are_items begun)

kind_at : (kind : Kind) (letters : List ℕ) → IsKindOfRepertoire kind → kind ≡ text letters → IsOfRepertoire letters
kind_at (element tag acting) letters r e = absurd cc
kind_at (text others) letters r e =
    let same : others ≡ letters = cc in
    subst (λ (l : List ℕ). IsOfRepertoire l) same r

repertoire_at : (nodes : List Node) (place : ℕ) (node : Node) (letters : List ℕ) → AreOfRepertoire nodes → IsNodeAt nodes place node → node.kind ≡ text letters → IsOfRepertoire letters
repertoire_at [] place node letters r at_ e = absurd cc
repertoire_at (x ∷ nodes) zero node letters r at_ e =
    let same : x ≡ node = cc in
    kind_at x.kind letters r.0 (ap (λ (n : Node). n.kind) same ∙ e)
repertoire_at (x ∷ nodes) (suc place) node letters r at_ e = repertoire_at nodes place node letters r.1 at_ e

all_texts : (nodes : List Node) → IsInDocumentOrder nodes → AreOfRepertoire nodes → AreTexts nodes
all_texts nodes o r = record {
  some = λ place node letters at_ e. texts_some nodes [] false 0 place node letters o at_ e;
  repertoire = λ place node letters at_ e. repertoire_at nodes place node letters r at_ e;
  apart = λ place one two at_ at2 is is2.
      let next : place + 1 ≡ suc place = omega arith in
      texts_apart nodes [] false 0 place one two tt o at_ (subst (λ (p : ℕ). IsNodeAt nodes p two) next at2) is is2;
}

-- ---- how many bytes

bytes_both : (xs ys : List Node) → text_bytes (xs ++ ys) ≡ text_bytes xs + text_bytes ys
bytes_both [] ys = omega arith
bytes_both (x ∷ xs) ys = omega (arith, bytes_both xs ys)

text_put_bytes : (parent : Option ℕ) (letters : List ℕ) (nodes : List Node) → text_bytes (with_text parent letters nodes) ≡ text_bytes nodes + length letters
text_put_bytes parent [] nodes = omega arith
text_put_bytes parent (byte ∷ letters) nodes = omega (arith, bytes_both nodes (record { parent = parent; kind = text (byte ∷ letters) } ∷ []))

element_put_bytes : (parent : Option ℕ) (tag : Tag) (acting : Acting) (nodes : List Node) → text_bytes (with_element parent tag acting nodes) ≡ text_bytes nodes
element_put_bytes parent tag acting nodes = omega (arith, bytes_both nodes (record { parent = parent; kind = element tag acting } ∷ []))

items_put_bytes : (items : Items) (size : ℕ) (text_ behind : List ℕ) (parent : Option ℕ) (nodes : List Node) → AreItems size text_ behind items
    → text_bytes (listed items parent nodes) ≤ text_bytes nodes + length text_
items_put_bytes none size text_ behind parent nodes is = omega arith
items_put_bytes (pair tag acting first inner after_ next) size text_ behind parent nodes (name, start, gap_, inside, ending_, later, more, is, open_, is_gap, inner_is, end_is, is_later, next_is, whole) =
    let number = Some (length nodes) in
    let n1 = with_element parent tag acting nodes in
    let n2 = with_text number first n1 in
    let n3 = listed inner number n2 in
    let n4 = with_text parent after_ n3 in
    let b1 = element_put_bytes parent tag acting nodes in
    let b2 = text_put_bytes number first n1 in
    let b3 = items_put_bytes inner size inside (ending_ ++ (later ++ (more ++ behind))) number n2 inner_is in
    let b4 = text_put_bytes parent after_ n3 in
    let b5 = items_put_bytes next size more behind parent n4 next_is in
    let g1 = gap_shorter gap_ first is_gap in
    let g2 = gap_shorter later after_ is_later in
    let s0 = ap length whole in
    let s1 = length-append start (gap_ ++ (inside ++ (ending_ ++ (later ++ more)))) in
    let s2 = length-append gap_ (inside ++ (ending_ ++ (later ++ more))) in
    let s3 = length-append inside (ending_ ++ (later ++ more)) in
    let s4 = length-append ending_ (later ++ more) in
    let s5 = length-append later more in
    omega (arith, b1, b2, b3, b4, b5, g1, g2, s0, s1, s2, s3, s4, s5)
items_put_bytes (line_break acting after_ next) size text_ behind parent nodes (name, start, gap_, more, is, void_, is_gap, next_is, whole) =
    let n1 = with_element parent Br acting nodes in
    let b1 = element_put_bytes parent Br acting nodes in
    let b2 = text_put_bytes parent after_ n1 in
    let b3 = items_put_bytes next size more behind parent (with_text parent after_ n1) next_is in
    let g1 = gap_shorter gap_ after_ is_gap in
    omega (arith, b1, b2, b3, g1, ap length whole, length-append start (gap_ ++ more), length-append gap_ more)

content_bytes : (size : ℕ) (parent : Option ℕ) (nodes : List Node) (text_ behind : List ℕ) (all : List Node) → IsContent size parent nodes text_ behind all → text_bytes all ≤ text_bytes nodes + length text_
content_bytes size parent nodes text_ behind all is =
    let b1 = text_put_bytes parent is.letters nodes in
    let b2 = items_put_bytes is.items size is.back behind parent (with_text parent is.letters nodes) is.are_items in
    let g = gap_shorter is.gap is.letters is.is_gap in
    omega (arith, b1, b2, g, ap text_bytes is.made, ap length is.whole, length-append is.gap is.back)

-- ---- documents and fragments

-- the texts of nodes that were read from a text of this length
record AreReadFrom (size : ℕ) (nodes : List Node) : Type 0 where
  repertoire : AreOfRepertoire nodes
  short : text_bytes nodes ≤ size

longer : (less more : ℕ) (nodes : List Node) → less ≤ more → AreReadFrom less nodes → AreReadFrom more nodes
longer less more nodes le a = record { repertoire = a.repertoire; short = omega (arith, le, a.short) }

body_texts : (size : ℕ) (html : Acting) (text_ behind : List ℕ) (nodes : List Node) → IsBody size html text_ behind nodes → AreReadFrom (length text_) nodes
body_texts size html text_ behind nodes r =
    let inner = r.4 in
    let few = content_bytes size (Some 1) (roots html r.0) inner.1 (inner.2 ++ behind) inner.0 inner.3 in
    let whole : AreReadFrom (length text_) inner.0 = record {
      repertoire = content_of_repertoire size (Some 1) (roots html r.0) inner.1 (inner.2 ++ behind) inner.0 inner.3 (tt, (tt, tt));
      short = omega (arith, few, front_fits r.2 inner.1 inner.2 inner.5, back_fits r.1 r.2 text_ r.5);
    } in
    subst (λ (l : List Node). AreReadFrom (length text_) l) (sym inner.4.1) whole

html_texts : (size : ℕ) (text_ behind : List ℕ) (all : List Node × List TextAt) → IsHtml size text_ behind all → AreReadFrom (length text_) all.0
html_texts size text_ behind all r =
    let from_misc = r.4 in
    let from_head = from_misc.4 in
    let from_body = from_head.4 in
    let last = from_body.4 in
    let made = body_texts size r.0 from_body.1 (from_body.2 ++ behind) from_body.0 from_body.3 in
    let s1 = front_fits from_head.2 from_body.1 from_body.2 from_body.5 in
    let s2 = back_fits from_head.1 from_head.2 from_misc.2 from_head.5 in
    let s3 = back_fits from_misc.1 from_misc.2 r.2 from_misc.5 in
    let s4 = back_fits r.1 r.2 text_ r.5 in
    subst (λ (p : List Node × List TextAt). AreReadFrom (length text_) p.0) (sym last.4.2) (longer (length from_body.1) (length text_) from_body.0 (omega (arith, s1, s2, s3, s4)) made)

document_read : (text_ behind : List ℕ) (whole : Whole) → IsDocument text_ behind whole → AreReadFrom (length text_) whole.nodes
document_read text_ behind whole is =
    longer (length is.parts.2) (length text_) whole.nodes (back_fits is.parts.1 is.parts.2 text_ is.parts.5)
    (html_texts (length (text_ ++ behind)) is.parts.2 behind (whole.nodes, whole.sheets) is.parts.4)

pub document_texts : (text_ behind : List ℕ) (whole : Whole) → IsDocument text_ behind whole → AreTexts whole.nodes
document_texts text_ behind whole is =
    all_texts whole.nodes (nodes_in_order whole.nodes (document_nodes text_ behind whole is)) (document_read text_ behind whole is).repertoire

pub document_bytes : (text_ behind : List ℕ) (whole : Whole) → IsDocument text_ behind whole → text_bytes whole.nodes ≤ length text_
document_bytes text_ behind whole is = (document_read text_ behind whole is).short

pub fragment_texts : (text_ : List ℕ) (nodes : List Node) → IsFragment text_ nodes → AreTexts nodes
fragment_texts text_ nodes is =
    all_texts nodes (fragment_in_order text_ nodes is) (content_of_repertoire (length text_) None [] text_ [] nodes is tt)

pub fragment_bytes : (text_ : List ℕ) (nodes : List Node) → IsFragment text_ nodes → text_bytes nodes ≤ length text_
fragment_bytes text_ nodes is = omega (arith, content_bytes (length text_) None [] text_ [] nodes is)
