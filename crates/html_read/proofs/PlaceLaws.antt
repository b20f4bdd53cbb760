-- The places of nodes: with them the bytes are read as without them, and at each place its node is read.
use Rattle.std.proofs.Common.{◌≡◌, ◌⊎◌, inl, inr, ℕ, ◌-◌, ◌<◌, ◌≤◌, Bool, true, false, cond, eqb, List, [], ◌∷◌, ◌++◌, length, drop, codes, All, AllPairs, Some, None, Ok, Err, IfOk, refl, sym, ap, subst, ◌∙◌, append_assoc, length-append, arith}
use Rattle.std.specs.Prelude.{⊤, Option, Result}
use Rattle.std.specs.List.{AllZip}
use Rattle.std.proofs.Math.Seq.{drop-append_seam}
use Rattle.std.proofs.lemmas.Bool.{lt-ltb, le-ltb}
use Rattle.std.proofs.lemmas.List.Elements.{All-append}
use Rattle.std.proofs.lemmas.List.Quantifiers.{all_pairs_push}
use Rattle.std.specs.Str.Lossy.{utf8_valid_len}
use Rattle.std.proofs.lemmas.Slice.Zip.{AllZip-long}
use Rattle.basic_laws.proofs.Lists.{all_alone}
use Rattle.reading.specs.Readers.{ReadOr, ReaderOr, ◌>>=◌, give, follow, mapped, strip, starts, after, repeat}
use Rattle.reading.proofs.SpellLaws.{bind_ok, same_answer, mapped_spells, telling_spells}
use Rattle.html_tokens.specs.declared.error.Refusal.TheVariants.{Utf8}
use Rattle.html_tokens.specs.declared.tag.Tag.TheVariants.{Html, Body}
use Rattle.html_tokens.specs.Error.{Fault, Judged, syntax, spelled}
use Rattle.html_tokens.specs.Grammar.{IsGap}
use Rattle.html_tokens.specs.Lexing.{misc, end_of}
use Rattle.html_tokens.specs.Text.{gap}
use Rattle.html_tokens.proofs.GapTexts.{gap_shorter}
use Rattle.html_tokens.proofs.TextLaws.{gap_spells}
use Rattle.html_read.specs.declared.content.Base.TheVariants as bases
use Rattle.html_read.specs.declared.error.HtmlError.{HtmlError}
use Rattle.html_read.specs.declared.error.HtmlError.TheVariants as errors
use Rattle.html_read.specs.Error.{Told}
use Rattle.html_read.specs.Places.{Placed, placed, with_place, placed_step, placed_turn, placed_content, placed_body, placed_html, placed_document, placed_input, IsKindAt, AreReadAt, ArePlaces}
use Rattle.html_read.specs.Reading.{Start, Open, Content, content_of, parent_in, goes_on, begun, ending, markup, with_letters, with_gap, turn, content, start_of, start_tag, end_tag, maybe_head, prolog, body, html, ended, document, input}
use Rattle.html_read.specs.Tree.{roots, with_text}
use Rattle.html_read.specs.Values.{Acting, element, text, Node, TextAt, Whole}
use Rattle.html_read.proofs.Agreeing.{Agree, agree_view, agree_follow, agree_first, agree_then, agree_told, agree_cond, agree_repeat, agree_mapped}
use Rattle.html_read.proofs.ContentLaws.{start_is_tag, tag_size, never}
use Rattle.html_read.proofs.DocumentLaws.{prolog_spells}
use Rattle.html_read.proofs.HeadLaws.{opening_start, opening_some, misc_here, maybe_head_spells}
use Rattle.html_read.proofs.TagLaws.{start_of_spells, start_tag_spells, end_tag_spells}

-- ---- nodes and their places, behind which these bytes are left

record Stand (bytes : List ℕ) (nodes : List Node) (places rest : List ℕ) : Type 0 where
  front : List ℕ
  parts : bytes ≡ front ++ rest
  read : AreReadAt bytes nodes places
  order : AllPairs (λ earlier later. earlier < later) places
  before : All (λ place. place < length front) places

all_before : (places : List ℕ) (n m : ℕ) → n ≤ m → All (λ place. place < n) places → All (λ place. place < m) places
all_before places n m le is = λ k d within. omega (arith, le, is k d within)

zip_push : {A B : Type 0} (R : A → B → Type 0) (xs : List A) (ys : List B) (x : A) (y : B) → AllZip R xs ys → R x y → AllZip R (xs ++ x ∷ []) (ys ++ y ∷ [])
zip_push R [] [] x y h r = (r, tt)
zip_push R [] (b ∷ ys) x y h r = absurd h
zip_push R (a ∷ xs) [] x y h r = absurd h
zip_push R (a ∷ xs) (b ∷ ys) x y h r = (h.0, zip_push R xs ys x y h.1 r)

place_left : (bytes front here : List ℕ) → bytes ≡ front ++ here → length bytes - length here ≡ length front
place_left bytes front here parts = omega (arith, ap length parts, length-append front here)

-- no node comes
stand_on : (bytes : List ℕ) (nodes : List Node) (places here more rest : List ℕ) → Stand bytes nodes places here → here ≡ more ++ rest → Stand bytes nodes places rest
stand_on bytes nodes places here more rest is parts = record {
  front = is.front ++ more;
  parts = is.parts ∙ ap (λ (s : List ℕ). is.front ++ s) parts ∙ sym (append_assoc is.front more rest);
  read = is.read;
  order = is.order;
  before = all_before places (length is.front) (length (is.front ++ more)) (omega (arith, length-append is.front more)) is.before;
}

-- a node comes, which is read here
stand_more : (bytes : List ℕ) (nodes : List Node) (places here more rest : List ℕ) (node : Node) → Stand bytes nodes places here → here ≡ more ++ rest → 0 < length more → IsKindAt (length bytes) node.kind here
    → Stand bytes (nodes ++ node ∷ []) (places ++ (length bytes - length here) ∷ []) rest
stand_more bytes nodes places here more rest node is parts some kind =
    let at = length is.front in
    let long : at < length (is.front ++ more) = omega (arith, some, length-append is.front more) in
    let there : drop at bytes ≡ here = ap (drop at) is.parts ∙ drop-append_seam is.front here in
    let made : Stand bytes (nodes ++ node ∷ []) (places ++ at ∷ []) rest = record {
      front = is.front ++ more;
      parts = is.parts ∙ ap (λ (s : List ℕ). is.front ++ s) parts ∙ sym (append_assoc is.front more rest);
      read = zip_push (λ (n : Node) (p : ℕ). IsKindAt (length bytes) n.kind (drop p bytes)) nodes places node at is.read (subst (λ (s : List ℕ). IsKindAt (length bytes) node.kind s) (sym there) kind);
      order = all_pairs_push (λ (x y : ℕ). x < y) places at is.order is.before;
      before = All-append (λ (p : ℕ). p < length (is.front ++ more)) places (at ∷ []) (all_before places at (length (is.front ++ more)) (omega (arith, long)) is.before) (all_alone (λ (p : ℕ). p < (length (is.front ++ more))) at long);
    } in
    subst (λ (n : ℕ). Stand bytes (nodes ++ node ∷ []) (places ++ n ∷ []) rest) (sym (place_left bytes is.front here is.parts)) made

-- ---- what a step adds

record AddsNode (size : ℕ) (old new : List Node) (more here : List ℕ) : Type 0 where
  node : Node
  is : new ≡ old ++ node ∷ []
  some : 0 < length more
  kind : IsKindAt size node.kind here

record Adds (size : ℕ) (old new : List Node) (here rest : List ℕ) : Type 0 where
  more : List ℕ
  parts : here ≡ more ++ rest
  adds : (new ≡ old) ⊎ AddsNode size old new more here

letters_add : (size : ℕ) (parent : Option ℕ) (nodes : List Node) (letters more here rest : List ℕ) → gap here ≡ Ok (letters, rest) → IsGap more letters → (with_text parent letters nodes ≡ nodes) ⊎ AddsNode size nodes (with_text parent letters nodes) more here
letters_add size parent nodes [] more here rest e is = inl refl
letters_add size parent nodes (byte ∷ letters) more here rest e is = inr (record {
  node = record { parent = parent; kind = text (byte ∷ letters) };
  is = refl;
  some = omega (arith, gap_shorter more (byte ∷ letters) is);
  kind = (rest, e);
})

gap_adds : (size : ℕ) (c later : Content) (here rest : List ℕ) → with_gap bases.Body c here ≡ Ok (later, rest) → Adds size c.nodes later.nodes here rest
unfolding with_gap
gap_adds size c later here rest e =
    let a = bind_ok (gap here) (λ (x : List ℕ × List ℕ). give (with_letters bases.Body c x.0) x.1) (later, rest) e in
    let same = same_answer {E = Fault} (with_letters bases.Body c a.0.0) later a.0.1 rest a.2 in
    let read : gap here ≡ Ok (a.0.0, rest) = a.1 ∙ ap (λ (r : List ℕ). Ok (a.0.0, r)) same.1 in
    let t = gap_spells.takes here a.0.0 rest read in
    let made : Adds size c.nodes (with_letters bases.Body c a.0.0).nodes here rest = record {
      more = t.0;
      parts = t.2;
      adds = letters_add size (parent_in bases.Body c.opened) c.nodes a.0.0 t.0 here rest read t.1;
    } in
    subst (λ (l : Content). Adds size c.nodes l.nodes here rest) same.0 made

ending_adds : (size : ℕ) (opened : List Open) (nodes : List Node) (later : Content) (here rest : List ℕ) → ending opened nodes here ≡ Ok (later, rest) → Adds size nodes later.nodes here rest
unfolding after
ending_adds size [] nodes later here rest e = absurd (never (strip (codes "<") here) later rest e)
ending_adds size (o ∷ opened) nodes later here rest e =
    let t = (mapped_spells (λ (u : ⊤). content_of opened nodes) (end_tag_spells o.name)).takes here later rest e in
    record { more = t.0; parts = t.2; adds = inl (ap (λ (l : Content). l.nodes) t.1.2) }

begun_nodes : (c : Content) (start : Start) → (begun bases.Body c start).nodes ≡ c.nodes ++ record { parent = parent_in bases.Body c.opened; kind = element start.tag start.acting } ∷ []
unfolding begun
begun_nodes c start = refl

start_adds : (size : ℕ) (c later : Content) (here rest : List ℕ) → mapped (λ start. begun bases.Body c start) (start_tag size) here ≡ Ok (later, rest) → Adds size c.nodes later.nodes here rest
start_adds size c later here rest e =
    let a = bind_ok (start_tag size here) (λ (x : Start × List ℕ). give (begun bases.Body c x.0) x.1) (later, rest) e in
    let same = same_answer {E = Fault} (begun bases.Body c a.0.0) later a.0.1 rest a.2 in
    let read : start_tag size here ≡ Ok (a.0.0, rest) = a.1 ∙ ap (λ (r : List ℕ). Ok (a.0.0, r)) same.1 in
    let t = (start_tag_spells size).takes here a.0.0 rest read in
    record {
      more = t.0;
      parts = t.2;
      adds = inr (record {
        node = record { parent = parent_in bases.Body c.opened; kind = element a.0.0.tag a.0.0.acting };
        is = ap (λ (l : Content). l.nodes) (sym same.0) ∙ begun_nodes c a.0.0;
        some = tag_size t.0 (start_is_tag size t.0 rest a.0.0 t.1);
        kind = inr (inr (a.0.0.name, rest, read));
      });
    }

markup_by : (size : ℕ) (c later : Content) (here rest : List ℕ) (t : Bool) → cond t (ending c.opened c.nodes here) (mapped (λ start. begun bases.Body c start) (start_tag size) here) ≡ Ok (later, rest) → Adds size c.nodes later.nodes here rest
markup_by size c later here rest true e = ending_adds size c.opened c.nodes later here rest e
markup_by size c later here rest false e = start_adds size c later here rest e

markup_adds : (size : ℕ) (c later : Content) (here rest : List ℕ) → markup size bases.Body c here ≡ Ok (later, rest) → Adds size c.nodes later.nodes here rest
unfolding markup
markup_adds size c later here rest e = markup_by size c later here rest (starts (codes "</") here) e

-- ---- a step with the place of what it adds

abbrev SameContent : (bytes : List ℕ) → Placed → Content → (rest : List ℕ) → Type 0
SameContent bytes p c rest = (p.content ≡ c) × Stand bytes c.nodes p.places rest

put_none : (old new : List Node) (place : ℕ) (places : List ℕ) → new ≡ old → with_place (length old) (length new) place places ≡ places
put_none old new place places e = rw (e, le-ltb (length old) (length old) (omega arith)) refl

put_one : (old new : List Node) (node : Node) (place : ℕ) (places : List ℕ) → new ≡ old ++ node ∷ [] → with_place (length old) (length new) place places ≡ places ++ place ∷ []
put_one old new node place places e =
    let longer : length old < length new = omega (arith, ap length e, length-append old (node ∷ [])) in
    rw (lt-ltb (length old) (length new) longer) refl

step_stands : (bytes : List ℕ) (old new : List Node) (places more here rest : List ℕ) → Stand bytes old places here → here ≡ more ++ rest → (new ≡ old) ⊎ AddsNode (length bytes) old new more here
    → Stand bytes new (with_place (length old) (length new) (length bytes - length here) places) rest
step_stands bytes old new places more here rest is parts (inl e) =
    let place = length bytes - length here in
    subst (λ (l : List ℕ). Stand bytes new l rest) (sym (put_none old new place places e)) (subst (λ (l : List Node). Stand bytes l places rest) (sym e) (stand_on bytes old places here more rest is parts))
step_stands bytes old new places more here rest is parts (inr a) =
    let place = length bytes - length here in
    subst (λ (l : List ℕ). Stand bytes new l rest) (sym (put_one old new a.node place places a.is))
    (subst (λ (l : List Node). Stand bytes l (places ++ place ∷ []) rest) (sym a.is) (stand_more bytes old places here more rest a.node is parts a.some a.kind))

step_agrees : (bytes : List ℕ) (step : Content → Judged Content) (p : Placed) (c : Content) (here : List ℕ) → SameContent bytes p c here
    → ((later : Content) (rest : List ℕ) → step c here ≡ Ok (later, rest) → Adds (length bytes) c.nodes later.nodes here rest)
    → Agree (SameContent bytes) (placed_step (length bytes) step p here) (step c here)
unfolding placed_step
step_agrees bytes step p c here is adds =
    let view : Content → Placed = λ later. placed later (with_place (length c.nodes) (length later.nodes) (length bytes - length here) p.places) in
    rw is.0 (agree_view (SameContent bytes) view (step c here) (λ later rest e.
    let a = adds later rest e in
    (refl, step_stands bytes c.nodes later.nodes p.places a.more here rest is.1 a.parts a.adds)))

turn_agrees : (bytes : List ℕ) (p : Placed) (c : Content) (here : List ℕ) → SameContent bytes p c here → Agree (SameContent bytes) (placed_turn (length bytes) p here) (turn (length bytes) bases.Body c here)
unfolding placed_turn turn
turn_agrees bytes p c here is =
    agree_follow (SameContent bytes) (SameContent bytes) (placed_step (length bytes) (markup (length bytes) bases.Body) p here) (markup (length bytes) bases.Body c here)
    (λ q. placed_step (length bytes) (with_gap bases.Body) q) (with_gap bases.Body)
    (step_agrees bytes (markup (length bytes) bases.Body) p c here is (λ later rest e. markup_adds (length bytes) c later here rest e))
    (λ q d there same. step_agrees bytes (with_gap bases.Body) q d there same (λ later rest e. gap_adds (length bytes) d later there rest e))

-- ---- what stands in `body`

abbrev StandIn : (bytes places : List ℕ) → List Node → (rest : List ℕ) → Type 0
StandIn bytes places nodes rest = Stand bytes nodes places rest

content_agrees : (bytes : List ℕ) (nodes : List Node) (places here : List ℕ) → Stand bytes nodes places here
    → Agree (StandIn bytes) (placed_content (length bytes) (placed (content_of [] nodes) places) here) (content (length bytes) bases.Body nodes here)
unfolding placed_content content
content_agrees bytes nodes places here is =
    let size = length bytes in
    let first = content_of [] nodes in
    agree_follow (SameContent bytes) (StandIn bytes) (placed_step size (with_gap bases.Body) (placed first places) here) (with_gap bases.Body first here)
    (λ (p : Placed). mapped (λ (whole : Placed). whole.places) (repeat (λ (later : Placed). goes_on bases.Body later.content) (placed_turn size) p))
    (λ (c : Content). mapped (λ (whole : Content). whole.nodes) (repeat (goes_on bases.Body) (turn size bases.Body) c))
    (step_agrees bytes (with_gap bases.Body) (placed first places) first here (refl, is) (λ later rest e. gap_adds size first later here rest e))
    (λ p c there same. agree_follow (SameContent bytes) (StandIn bytes)
    (repeat (λ (later : Placed). goes_on bases.Body later.content) (placed_turn size) p there) (repeat (goes_on bases.Body) (turn size bases.Body) c there)
    (λ (whole : Placed). give whole.places) (λ (whole : Content). give whole.nodes)
    (agree_repeat (SameContent bytes) (λ (later : Placed). goes_on bases.Body later.content) (placed_turn size) (goes_on bases.Body) (turn size bases.Body)
    (λ q d x s. ap (λ (l : Content). goes_on bases.Body l x) s.0) (turn_agrees bytes) p c there same)
    (λ q d rest s. (refl, s.1)))

-- ---- documents

-- the end tag of `body`, and what ends a document, behind which this is given
abbrev body_ends : {A : Type 0} → A → Judged A
body_ends x = mapped (λ u. x) (end_tag (codes "body"))

abbrev html_ends : {A : Type 0} → A → Judged A
html_ends x = spelled (follow (misc (codes "<!")) (λ u. mapped (λ u. x) (end_of (codes "html"))))

-- these are the places of the nodes
abbrev AreOf : (bytes places : List ℕ) → List Node → Type 0
AreOf bytes places nodes = AreReadAt bytes nodes places × AllPairs (λ earlier later. earlier < later) places × All (λ place. place < length bytes) places

are_of : (bytes places : List ℕ) (nodes : List Node) (rest : List ℕ) → Stand bytes nodes places rest → AreOf bytes places nodes
are_of bytes places nodes rest is =
    (is.read, is.order, all_before places (length is.front) (length bytes) (omega (arith, ap length is.parts, length-append is.front rest)) is.before)

abbrev html_node : Acting → Node
html_node acting = record { parent = None; kind = element Html acting }

abbrev body_node : Acting → Node
body_node acting = record { parent = Some 0; kind = element Body acting }

stand_first : (bytes front here : List ℕ) → bytes ≡ front ++ here → Stand bytes [] [] here
stand_first bytes front here parts = record {
  front = front;
  parts = parts;
  read = tt;
  order = λ i j d lt within. absurd (omega (arith, within));
  before = λ k d within. absurd (omega (arith, within));
}

body_begins : (bytes : List ℕ) (page acting : Acting) (place : ℕ) (here rest : List ℕ) → Stand bytes (html_node page ∷ []) (place ∷ []) here → start_of (length bytes) (codes "<body") false here ≡ Ok (acting, rest)
    → Stand bytes (roots page acting) (place ∷ (length bytes - length here) ∷ []) rest
body_begins bytes page acting place here rest is e =
    let t = (start_of_spells (length bytes) (codes "<body") false).takes here acting rest e in
    stand_more bytes (html_node page ∷ []) (place ∷ []) here t.0 rest (body_node acting) is t.2
    (opening_some 98 t.0 (opening_start (length bytes) (codes "ody") 98 false t.0 rest acting t.1)) (inr (inl (refl, rest, e)))

html_begins : (bytes : List ℕ) (page : Acting) (here rest : List ℕ) → Stand bytes [] [] here → start_of (length bytes) (codes "<html") false here ≡ Ok (page, rest)
    → Stand bytes (html_node page ∷ []) ((length bytes - length here) ∷ []) rest
html_begins bytes page here rest is e =
    let t = (start_of_spells (length bytes) (codes "<html") false).takes here page rest e in
    stand_more bytes [] [] here t.0 rest (html_node page) is t.2
    (opening_some 104 t.0 (opening_start (length bytes) (codes "tml") 104 false t.0 rest page t.1)) (inl (refl, rest, e))

abbrev AreIn : (bytes places : List ℕ) → List Node → (rest : List ℕ) → Type 0
AreIn bytes places nodes rest = AreOf bytes places nodes

body_agrees : (bytes : List ℕ) (page : Acting) (place : ℕ) (here : List ℕ) → Stand bytes (html_node page ∷ []) (place ∷ []) here
    → Agree (AreIn bytes) (placed_body (length bytes) page place here) (body (length bytes) page here)
unfolding placed_body body
body_agrees bytes page place here is =
    let size = length bytes in
    let places_of : Acting → Judged (List ℕ) = λ acting. placed_content size (placed (content_of [] (roots page acting)) (place ∷ (size - length here) ∷ [])) in
    let nodes_of : Acting → Judged (List Node) = λ acting. content size bases.Body (roots page acting) in
    agree_first (AreIn bytes) (start_of size (codes "<body") false here) (λ acting. follow (places_of acting) body_ends) (λ acting. follow (nodes_of acting) body_ends)
    (λ acting rest e.
    agree_follow (StandIn bytes) (AreIn bytes) (places_of acting rest) (nodes_of acting rest) body_ends body_ends
    (content_agrees bytes (roots page acting) (place ∷ (size - length here) ∷ []) rest (body_begins bytes page acting place here rest is e))
    (λ places nodes there s. agree_first (AreIn bytes) (end_tag (codes "body") there) (λ (u : ⊤). give places) (λ (u : ⊤). give nodes) (λ u more ends. (refl, are_of bytes places nodes there s))))

abbrev AreOfBoth : (bytes places : List ℕ) → List Node × List TextAt → (rest : List ℕ) → Type 0
AreOfBoth bytes places read rest = AreOf bytes places read.0

html_ends_agree : (bytes places : List ℕ) (nodes : List Node) (sheets : List TextAt) (here : List ℕ) → AreOf bytes places nodes → Agree (AreOfBoth bytes) (html_ends places here) (html_ends (nodes, sheets) here)
html_ends_agree bytes places nodes sheets here is =
    let told : List ℕ → ReaderOr (List ℕ) (List ℕ) = λ x. mapped (λ (u : ⊤). x) (end_of (codes "html")) in
    let read : List Node × List TextAt → ReaderOr (List ℕ) (List Node × List TextAt) = λ x. mapped (λ (u : ⊤). x) (end_of (codes "html")) in
    agree_told (AreOfBoth bytes) syntax (follow (misc (codes "<!")) (λ u. told places) here) (follow (misc (codes "<!")) (λ u. read (nodes, sheets)) here)
    (agree_first (AreOfBoth bytes) (misc (codes "<!") here) (λ (u : ⊤). told places) (λ (u : ⊤). read (nodes, sheets))
    (λ u more e. agree_first (AreOfBoth bytes) (end_of (codes "html") more) (λ (u : ⊤). give places) (λ (u : ⊤). give (nodes, sheets)) (λ u end_ f. (refl, is))))

-- what stands behind the start tag of `html`, where this reads `body`
abbrev behind_html : {A B : Type 0} (size : ℕ) → Judged A → (A → List TextAt → B) → Judged B
behind_html size inner made = follow (spelled (misc (codes "<!"))) (λ u. follow (maybe_head size) (λ sheets. follow inner (λ read. html_ends (made read sheets))))

behind_html_agrees : (bytes : List ℕ) (page : Acting) (place : ℕ) (here : List ℕ) → Stand bytes (html_node page ∷ []) (place ∷ []) here
    → Agree (AreOfBoth bytes) (behind_html (length bytes) (placed_body (length bytes) page place) (λ places sheets. places) here) (behind_html (length bytes) (body (length bytes) page) (λ nodes sheets. (nodes, sheets)) here)
behind_html_agrees bytes page place here is =
    let size = length bytes in
    let places_of : Judged (List ℕ) = placed_body size page place in
    let nodes_of : Judged (List Node) = body size page in
    agree_first (AreOfBoth bytes) (spelled (misc (codes "<!")) here)
    (λ (u : ⊤). follow (maybe_head size) (λ sheets. follow places_of html_ends)) (λ (u : ⊤). follow (maybe_head size) (λ sheets. follow nodes_of (λ nodes. html_ends (nodes, sheets))))
    (λ u there e.
    let m = (telling_spells syntax misc_here).takes here u there e in
    agree_first (AreOfBoth bytes) (maybe_head size there) (λ (sheets : List TextAt). follow places_of html_ends) (λ (sheets : List TextAt). follow nodes_of (λ nodes. html_ends (nodes, sheets)))
    (λ sheets rest f.
    let h = (maybe_head_spells size).takes there sheets rest f in
    let stands = stand_on bytes (html_node page ∷ []) (place ∷ []) there h.0 rest (stand_on bytes (html_node page ∷ []) (place ∷ []) here m.0 there is m.2) h.2 in
    agree_follow (AreIn bytes) (AreOfBoth bytes) (places_of rest) (nodes_of rest) html_ends (λ (nodes : List Node). html_ends (nodes, sheets))
    (body_agrees bytes page place rest stands) (λ places nodes last s. html_ends_agree bytes places nodes sheets last s)))

html_agrees : (bytes here : List ℕ) → Stand bytes [] [] here → Agree (AreOfBoth bytes) (placed_html (length bytes) here) (html (length bytes) here)
unfolding placed_html html
html_agrees bytes here is =
    let size = length bytes in
    agree_first (AreOfBoth bytes) (start_of size (codes "<html") false here)
    (λ (page : Acting). behind_html size (placed_body size page (size - length here)) (λ places sheets. places)) (λ (page : Acting). behind_html size (body size page) (λ nodes sheets. (nodes, sheets)))
    (λ page rest e. behind_html_agrees bytes page (size - length here) rest (html_begins bytes page here rest is e))

abbrev AreOfWhole : (bytes places : List ℕ) → Whole → (rest : List ℕ) → Type 0
AreOfWhole bytes places whole rest = AreOf bytes places whole.nodes

document_agrees : (bytes : List ℕ) → Agree (AreOfWhole bytes) (placed_document (length bytes) bytes) (document (length bytes) bytes)
unfolding placed_document document ended
document_agrees bytes =
    let size = length bytes in
    agree_first (AreOfWhole bytes) (spelled prolog bytes) (λ (u : ⊤). placed_html size) (λ (u : ⊤). follow (html size) (λ read. ended size read))
    (λ u here e.
    let t = (telling_spells syntax prolog_spells).takes bytes u here e in
    agree_then (AreOfBoth bytes) (AreOfWhole bytes) (placed_html size here) (html size here) (λ read rest. record { nodes = read.0; sheets = read.1; length = size - length rest })
    (html_agrees bytes here (stand_first bytes t.0 here t.2)) (λ places read rest is. is))

places_agree : (bytes : List ℕ) → Agree (AreOfWhole bytes) (placed_input bytes) (input bytes)
unfolding placed_input input
places_agree bytes =
    agree_cond (AreOfWhole bytes) (eqb (utf8_valid_len bytes) (length bytes)) (placed_document (length bytes) bytes) (Err (Utf8, drop (utf8_valid_len bytes) bytes))
    (document (length bytes) bytes) (Err (Utf8, drop (utf8_valid_len bytes) bytes)) (document_agrees bytes) refl

-- ---- what follows

pub read_alike : (bytes : List ℕ) → mapped (λ places. length places) placed_input bytes ≡ mapped (λ whole. length whole.nodes) input bytes
read_alike bytes =
    agree_mapped (AreOfWhole bytes) (λ (places : List ℕ). length places) (λ (whole : Whole). length whole.nodes) (placed_input bytes) (input bytes) (places_agree bytes)
    (λ places whole rest is. AllZip-long (λ (n : Node) (p : ℕ). IsKindAt (length bytes) n.kind (drop p bytes)) whole.nodes places is.0)

found_by : (bytes rest places : List ℕ) (q : ReadOr Fault Whole) → input bytes ≡ q → Agree (AreOfWhole bytes) (Ok (places, rest)) q → ArePlaces bytes places
found_by bytes rest places (Ok w) e is = record {
  whole = w.0;
  rest = w.1;
  is = e;
  read = is.1.0;
  order = is.1.1;
  within = is.1.2;
}
found_by bytes rest places (Err f) e is = absurd is

pub places_found : (bytes places rest : List ℕ) → placed_input bytes ≡ Ok (places, rest) → ArePlaces bytes places
places_found bytes places rest e = found_by bytes rest places (input bytes) refl (subst (λ (r : ReadOr Fault (List ℕ)). Agree (AreOfWhole bytes) r (input bytes)) e (places_agree bytes))

pub told_alike : {X : Type 0} (view : X → List ℕ) (bytes : List ℕ) (r : Result X HtmlError) → Told (length bytes) view r (placed_input bytes)
    → Told (length bytes) (λ x. length (view x)) r (mapped (λ whole. length whole.nodes) input bytes)
told_alike view bytes (Ok x) t = (t.0, sym (read_alike bytes) ∙ ap (λ (r : ReadOr Fault (List ℕ)). r >>= λ (p : List ℕ × List ℕ). give (length p.0) p.1) t.1)
told_alike view bytes (Err (errors.Refused kind place)) t = (t.0, sym (read_alike bytes) ∙ ap (λ (r : ReadOr Fault (List ℕ)). r >>= λ (p : List ℕ × List ℕ). give (length p.0) p.1) t.1, t.2)
told_alike view bytes (Err errors.Memory) t = tt

pub told_places : {X : Type 0} (view : X → List ℕ) (bytes : List ℕ) (r : Result X HtmlError) → Told (length bytes) view r (placed_input bytes) → IfOk r (λ x. ArePlaces bytes (view x))
told_places view bytes (Ok x) t = places_found bytes (view x) t.0 t.1
told_places view bytes (Err error) t = tt
