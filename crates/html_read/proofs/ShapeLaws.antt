-- The shape of the nodes that are read.
use Rattle.std.proofs.Common.{◌≡◌, ◌⊎◌, inl, inr, ℕ, zero, suc, ◌<◌, ◌≤◌, Bool, true, false, not, cond, ◌&&◌, ◌||◌, List, [], ◌∷◌, ◌++◌, length, codes, Option, Some, None, refl, sym, ap, subst, ◌∙◌, append_assoc, length-append, arith}
use Rattle.std.specs.Prelude.{⊤, find, option_map, bytes_eq}
use Rattle.std.proofs.lemmas.Bool.{and_parts}
use Rattle.std.proofs.lemmas.List.{append-nil}
use Rattle.std.proofs.lemmas.Slice.Eq.{bytes_eq-Decides}
use Rattle.html_tokens.specs.declared.tag.Tag.{Tag}
use Rattle.html_tokens.specs.declared.tag.Tag.TheVariants.{Html, Body, Br}
use Rattle.reading.specs.Names.{lowered, named}
use Rattle.html_tokens.specs.Tag.{body_tags, tag_named, is_void}
use Rattle.html_read.specs.Tree.{Items, none, pair, line_break, with_text, listed}
use Rattle.html_read.specs.Values.{TextAt, Acting, Node, element, text, Whole}
use Rattle.html_read.specs.Grammar.{AreItems, IsContent, IsBody, IsHtml, IsDocument, IsFragment}
use Rattle.html_read.specs.Shape.{IsNodeAt, IsHolder, StandsIn, IsShaped, IsFragmentShaped}

-- ---- places in a list that grows

at_longer : (xs ys : List Node) (place : ℕ) (node : Node) → IsNodeAt xs place node → IsNodeAt (xs ++ ys) place node
at_longer [] ys place node e = absurd cc
at_longer (x ∷ xs) ys zero node e = e
at_longer (x ∷ xs) ys (suc place) node e = at_longer xs ys place node e

at_last : (xs : List Node) (y : Node) → IsNodeAt (xs ++ y ∷ []) (length xs) y
at_last [] y = refl
at_last (x ∷ xs) y = at_last xs y

at_one : (y : Node) (place : ℕ) (node : Node) → IsNodeAt (y ∷ []) place node → (place ≡ 0) × (y ≡ node)
at_one y zero node e = (refl, cc)
at_one y (suc place) node e = absurd cc

-- a node of a list with one more is one of the list, or that one
data AtPushed (xs : List Node) (y : Node) (place : ℕ) (node : Node) : Type 0 where
  before : IsNodeAt xs place node → AtPushed xs y place node
  pushed : place ≡ length xs → y ≡ node → AtPushed xs y place node

one_up : (x : Node) (xs : List Node) (y : Node) (place : ℕ) (node : Node) → AtPushed xs y place node → AtPushed (x ∷ xs) y (suc place) node
one_up x xs y place node (before e) = before e
one_up x xs y place node (pushed e same) = pushed (omega (arith, e)) same

at_pushed : (xs : List Node) (y : Node) (place : ℕ) (node : Node) → IsNodeAt (xs ++ y ∷ []) place node → AtPushed xs y place node
at_pushed [] y place node e =
    let one = at_one y place node e in
    pushed one.0 one.1
at_pushed (x ∷ xs) y zero node e = before e
at_pushed (x ∷ xs) y (suc place) node e = one_up x xs y place node (at_pushed xs y place node e)

holder_longer : (xs ys : List Node) (place : ℕ) → IsHolder xs place → IsHolder (xs ++ ys) place
holder_longer xs ys place (node, tag, acting, is, kind, other) = (node, tag, acting, at_longer xs ys place node is, kind, other)

-- ---- nodes that hang in a list

-- from `first` on each node has the parent of the outermost nodes, or stands in another from there on
record AreHung (base : Option ℕ) (first : ℕ) (nodes : List Node) : Type 0 where
  each : (place : ℕ) (node : Node) → first ≤ place → IsNodeAt nodes place node → (node.parent ≡ base) ⊎ StandsIn nodes first place node

-- a node may be put so behind these
abbrev MayHang : Option ℕ → ℕ → List Node → Option ℕ → Type 0
MayHang base first nodes parent = (parent ≡ base) ⊎ ((place : ℕ) × (parent ≡ Some place) × (first ≤ place) × (place < length nodes) × IsHolder nodes place)

record AreKept (base : Option ℕ) (first : ℕ) (nodes later : List Node) : Type 0 where
  hung : AreHung base first later
  more : List Node
  same : later ≡ nodes ++ more

stands_longer : (xs ys : List Node) (first place : ℕ) (node : Node) → StandsIn xs first place node → StandsIn (xs ++ ys) first place node
stands_longer xs ys first place node (parent, is, low, lt, holder) = (parent, is, low, lt, holder_longer xs ys parent holder)

hangs_longer : (base : Option ℕ) (xs ys : List Node) (first place : ℕ) (node : Node) → (node.parent ≡ base) ⊎ StandsIn xs first place node → (node.parent ≡ base) ⊎ StandsIn (xs ++ ys) first place node
hangs_longer base xs ys first place node (inl e) = inl e
hangs_longer base xs ys first place node (inr s) = inr (stands_longer xs ys first place node s)

may_hang_longer : (base : Option ℕ) (first : ℕ) (nodes more : List Node) (parent : Option ℕ) → MayHang base first nodes parent → MayHang base first (nodes ++ more) parent
may_hang_longer base first nodes more parent (inl e) = inl e
may_hang_longer base first nodes more parent (inr (place, is, low, lt, holder)) = inr (place, is, low, omega (arith, lt, length-append nodes more), holder_longer nodes more place holder)

last_hangs : (base : Option ℕ) (first : ℕ) (nodes : List Node) (x : Node) → MayHang base first nodes x.parent → (x.parent ≡ base) ⊎ StandsIn (nodes ++ x ∷ []) first (length nodes) x
last_hangs base first nodes x (inl e) = inl e
last_hangs base first nodes x (inr (place, is, low, lt, holder)) = inr (place, is, low, lt, holder_longer nodes (x ∷ []) place holder)

push_by : (base : Option ℕ) (first : ℕ) (nodes : List Node) (x : Node) (place : ℕ) (node : Node) → AreHung base first nodes → MayHang base first nodes x.parent → first ≤ place → AtPushed nodes x place node
    → (node.parent ≡ base) ⊎ StandsIn (nodes ++ x ∷ []) first place node
push_by base first nodes x place node h m low (before e) = hangs_longer base nodes (x ∷ []) first place node (h.each place node low e)
push_by base first nodes x place node h m low (pushed at_ same) =
    subst (λ (n : Node). (n.parent ≡ base) ⊎ StandsIn (nodes ++ x ∷ []) first place n) same
    (subst (λ (p : ℕ). (x.parent ≡ base) ⊎ StandsIn (nodes ++ x ∷ []) first p x) (sym at_) (last_hangs base first nodes x m))

push_kept : (base : Option ℕ) (first : ℕ) (nodes : List Node) (x : Node) → AreHung base first nodes → MayHang base first nodes x.parent → AreKept base first nodes (nodes ++ x ∷ [])
push_kept base first nodes x h m = record {
  hung = record { each = λ place node low e. push_by base first nodes x place node h m low (at_pushed nodes x place node e) };
  more = x ∷ [];
  same = refl;
}

text_kept : (base : Option ℕ) (first : ℕ) (nodes : List Node) (parent : Option ℕ) (letters : List ℕ) → AreHung base first nodes → MayHang base first nodes parent → AreKept base first nodes (with_text parent letters nodes)
text_kept base first nodes parent [] h m = record { hung = h; more = []; same = sym (append-nil nodes) }
text_kept base first nodes parent (letter ∷ letters) h m = push_kept base first nodes (record { parent = parent; kind = text (letter ∷ letters) }) h m

kept_on : (base : Option ℕ) (first : ℕ) (a b c : List Node) → AreKept base first a b → AreKept base first b c → AreKept base first a c
kept_on base first a b c p q = record { hung = q.hung; more = p.more ++ q.more; same = q.same ∙ ap (λ (l : List Node). l ++ q.more) p.same ∙ append_assoc a p.more q.more }

may_hang_later : (base : Option ℕ) (first : ℕ) (nodes later : List Node) (parent : Option ℕ) → AreKept base first nodes later → MayHang base first nodes parent → MayHang base first later parent
may_hang_later base first nodes later parent k m = subst (λ (l : List Node). MayHang base first l parent) (sym k.same) (may_hang_longer base first nodes k.more parent m)

low_later : (base : Option ℕ) (first : ℕ) (nodes later : List Node) → AreKept base first nodes later → first ≤ length nodes → first ≤ length later
low_later base first nodes later k low =
    let size : length later ≡ length (nodes ++ k.more) = ap (λ (l : List Node). length l) k.same in
    omega (arith, size, length-append nodes k.more, low)

-- ---- the nodes of items

-- pairs of tags aren't `br`
abbrev NoBr : Items → Type 0
NoBr none = ⊤
NoBr (pair tag acting first inner after_ next) = (tag ≡ Br → ⊥) × NoBr inner × NoBr next
NoBr (line_break acting after_ next) = NoBr next

items_kept : (items : Items) (base : Option ℕ) (first : ℕ) (nodes : List Node) (parent : Option ℕ) → NoBr items → AreHung base first nodes → first ≤ length nodes → MayHang base first nodes parent
    → AreKept base first nodes (listed items parent nodes)
items_kept none base first nodes parent pairs h low m = record { hung = h; more = []; same = sym (append-nil nodes) }
items_kept (pair tag acting letters inner after_ next) base first nodes parent pairs h low m =
    let x : Node = record { parent = parent; kind = element tag acting } in
    let inside = Some (length nodes) in
    let n1 = nodes ++ x ∷ [] in
    let n2 = with_text inside letters n1 in
    let n3 = listed inner inside n2 in
    let n4 = with_text parent after_ n3 in
    let k1 = push_kept base first nodes x h m in
    let lt : length nodes < length n1 = omega (arith, length-append nodes (x ∷ [])) in
    let m1 : MayHang base first n1 inside = inr (length nodes, refl, low, lt, (x, tag, acting, at_last nodes x, refl, pairs.0)) in
    let k2 = text_kept base first n1 inside letters k1.hung m1 in
    let low2 = low_later base first n1 n2 k2 (low_later base first nodes n1 k1 low) in
    let k3 = items_kept inner base first n2 inside pairs.1 k2.hung low2 (may_hang_later base first n1 n2 inside k2 m1) in
    let k13 = kept_on base first nodes n1 n3 k1 (kept_on base first n1 n2 n3 k2 k3) in
    let k4 = text_kept base first n3 parent after_ k3.hung (may_hang_later base first nodes n3 parent k13 m) in
    let k14 = kept_on base first nodes n3 n4 k13 k4 in
    let k5 = items_kept next base first n4 parent pairs.2 k4.hung (low_later base first nodes n4 k14 low) (may_hang_later base first nodes n4 parent k14 m) in
    kept_on base first nodes n4 (listed next parent n4) k14 k5
items_kept (line_break acting after_ next) base first nodes parent pairs h low m =
    let x : Node = record { parent = parent; kind = element Br acting } in
    let n1 = nodes ++ x ∷ [] in
    let n2 = with_text parent after_ n1 in
    let k1 = push_kept base first nodes x h m in
    let k2 = text_kept base first n1 parent after_ k1.hung (may_hang_later base first nodes n1 parent k1 m) in
    let k12 = kept_on base first nodes n1 n2 k1 k2 in
    let k3 = items_kept next base first n2 parent pairs k2.hung (low_later base first nodes n2 k12 low) (may_hang_later base first nodes n2 parent k12 m) in
    kept_on base first nodes n2 (listed next parent n2) k12 k3

-- ---- `br` alone is named so

abbrev is_br : Tag → Bool
is_br Br = true
is_br other = false

abbrev br_only : List (List ℕ × Tag) → Bool
br_only [] = true
br_only (row ∷ rows) = (not (is_br row.1) || bytes_eq (lowered row.0) (codes "br")) && br_only rows

br_row : (row : List ℕ × Tag) → row.1 ≡ Br → (not (is_br row.1) || bytes_eq (lowered row.0) (codes "br")) ≡ true → lowered row.0 ≡ codes "br"
br_row row e known =
    let here : (not (is_br Br) || bytes_eq (lowered row.0) (codes "br")) ≡ true = subst (λ (t : Tag). (not (is_br t) || bytes_eq (lowered row.0) (codes "br")) ≡ true) e known in
    (bytes_eq-Decides (lowered row.0) (codes "br")).0 here

br_found_by : (name : List ℕ) (row : List ℕ × Tag) (rows : List (List ℕ × Tag)) (t : Bool) → bytes_eq (lowered row.0) name ≡ t → (not (is_br row.1) || bytes_eq (lowered row.0) (codes "br")) ≡ true
    → (named rows name ≡ Some Br → name ≡ codes "br")
    → option_map (λ (r : List ℕ × Tag). r.1) (cond t (Some row) (find (λ (r : List ℕ × Tag). bytes_eq (lowered r.0) name) rows)) ≡ Some Br → name ≡ codes "br"
br_found_by name row rows true is known later e =
    let tag : row.1 ≡ Br = cc in
    sym ((bytes_eq-Decides (lowered row.0) name).0 is) ∙ br_row row tag known
br_found_by name row rows false is known later e = later e

br_found : (table : List (List ℕ × Tag)) (name : List ℕ) → br_only table ≡ true → named table name ≡ Some Br → name ≡ codes "br"
br_found [] name known e = absurd cc
br_found (row ∷ rows) name known e =
    let both = and_parts (not (is_br row.1) || bytes_eq (lowered row.0) (codes "br")) (br_only rows) known in
    br_found_by name row rows (bytes_eq (lowered row.0) name) refl both.0 (br_found rows name both.1) e

tags_known : br_only body_tags ≡ true
unfolding body_tags
tags_known = refl

void_only : (name : List ℕ) (tag : Tag) → tag_named name ≡ Some tag → is_void name ≡ false → tag ≡ Br → ⊥
unfolding tag_named is_void
void_only name tag known void_ e =
    let n : name ≡ codes "br" = br_found body_tags name tags_known (known ∙ ap (λ (t : Tag). Some t) e) in
    let clash : true ≡ false = sym ((bytes_eq-Decides name (codes "br")).1 n) ∙ void_ in
    absurd cc

items_no_br : (items : Items) (size : ℕ) (text_ behind : List ℕ) → AreItems size text_ behind items → NoBr items
items_no_br none size text_ behind r = tt
items_no_br (pair tag acting first inner after_ next) size text_ behind (name, start, gap_, inside, ending_, later, more, is, open_, is_gap, inner_is, end_is, is_later, next_is, whole) = (
  void_only name tag is.3 open_,
  items_no_br inner size inside (ending_ ++ (later ++ (more ++ behind))) inner_is,
  items_no_br next size more behind next_is,
)
items_no_br (line_break acting after_ next) size text_ behind (name, start, gap_, more, is, void_, is_gap, next_is, whole) = items_no_br next size more behind next_is

content_kept : (size : ℕ) (base : Option ℕ) (first : ℕ) (nodes : List Node) (text_ behind : List ℕ) (all : List Node) → IsContent size base nodes text_ behind all → AreHung base first nodes → first ≤ length nodes → AreKept base first nodes all
content_kept size base first nodes text_ behind all is h low =
    let begun = with_text base is.letters nodes in
    let k1 = text_kept base first nodes base is.letters h (inl refl) in
    let k2 = items_kept is.items base first begun base (items_no_br is.items size is.back behind is.are_items) k1.hung (low_later base first nodes begun k1 low) (inl refl) in
    subst (λ (l : List Node). AreKept base first nodes l) (sym is.made) (kept_on base first nodes begun (listed is.items base begun) k1 k2)

-- ---- documents

abbrev html_node : Acting → Node
html_node acting = record { parent = None; kind = element Html acting }

abbrev body_node : Acting → Node
body_node acting = record { parent = Some 0; kind = element Body acting }

roots_hung_by : (a b : Node) (place : ℕ) (node : Node) → 2 ≤ place → IsNodeAt (a ∷ b ∷ []) place node → ⊥
roots_hung_by a b zero node low e = absurd (omega (arith, low))
roots_hung_by a b (suc zero) node low e = absurd (omega (arith, low))
roots_hung_by a b (suc (suc place)) node low e = absurd cc

roots_hung : (html body : Acting) → AreHung (Some 1) 2 (html_node html ∷ body_node body ∷ [])
roots_hung html body = record { each = λ place node low e. absurd (roots_hung_by (html_node html) (body_node body) place node low e) }

abbrev RootsOf : Acting → Acting → List Node
RootsOf html body = html_node html ∷ body_node body ∷ []

body_holds : (html body : Acting) (more : List Node) → IsHolder (RootsOf html body ++ more) 1
body_holds html body more = (body_node body, Body, body, refl, refl, λ e. absurd cc)

in_body : (html body : Acting) (more : List Node) (place : ℕ) (node : Node) → 2 ≤ place → (node.parent ≡ Some 1) ⊎ StandsIn (RootsOf html body ++ more) 2 place node → StandsIn (RootsOf html body ++ more) 1 place node
in_body html body more place node low (inl e) = (1, e, omega arith, omega (arith, low), body_holds html body more)
in_body html body more place node low (inr (parent, is, least, lt, holder)) = (parent, is, omega (arith, least), lt, holder)

shaped : (html body : Acting) (all : List Node) → AreKept (Some 1) 2 (RootsOf html body) all → IsShaped all
shaped html body all k =
    let here : AreHung (Some 1) 2 (RootsOf html body ++ k.more) = subst (λ (l : List Node). AreHung (Some 1) 2 l) k.same k.hung in
    let made : IsShaped (RootsOf html body ++ k.more) = record {
      html = (html, refl);
      body = (body, refl);
      others = λ place node low e. in_body html body k.more place node low (here.each place node low e);
    } in
    subst (λ (l : List Node). IsShaped l) (sym k.same) made

body_shaped : (size : ℕ) (html : Acting) (text_ behind : List ℕ) (nodes : List Node) → IsBody size html text_ behind nodes → IsShaped nodes
body_shaped size html text_ behind nodes r =
    let inner = r.4 in
    let made = shaped html r.0 inner.0 (content_kept size (Some 1) 2 (RootsOf html r.0) inner.1 (inner.2 ++ behind) inner.0 inner.3 (roots_hung html r.0) (omega arith)) in
    subst (λ (l : List Node). IsShaped l) (sym inner.4.1) made

html_shaped : (size : ℕ) (text_ behind : List ℕ) (all : List Node × List TextAt) → IsHtml size text_ behind all → IsShaped all.0
html_shaped size text_ behind all r =
    let from_misc = r.4 in
    let from_head = from_misc.4 in
    let from_body = from_head.4 in
    let last = from_body.4 in
    let made = body_shaped size r.0 from_body.1 (from_body.2 ++ behind) from_body.0 from_body.3 in
    subst (λ (p : List Node × List TextAt). IsShaped p.0) (sym last.4.2) made

pub document_shaped : (text_ behind : List ℕ) (whole : Whole) → IsDocument text_ behind whole → IsShaped whole.nodes
document_shaped text_ behind whole is = html_shaped (length (text_ ++ behind)) is.parts.2 behind (whole.nodes, whole.sheets) is.parts.4

-- ---- fragments

none_hung_by : (place : ℕ) (node : Node) → IsNodeAt [] place node → ⊥
none_hung_by place node e = absurd cc

none_hung : AreHung None 0 []
none_hung = record { each = λ place node low e. absurd (none_hung_by place node e) }

pub fragment_shaped : (text_ : List ℕ) (nodes : List Node) → IsFragment text_ nodes → IsFragmentShaped nodes
fragment_shaped text_ nodes is =
    let k = content_kept (length text_) None 0 [] text_ [] nodes is none_hung (omega arith) in
    record { each = λ place node e. k.hung.each place node (omega arith) e }
