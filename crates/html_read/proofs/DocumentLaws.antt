-- Documents and fragments: what is read is spelled so, and what is spelled so is read.
use Rattle.std.proofs.Common.{◌≡◌, ◌↔◌, ◌⊎◌, inl, inr, ℕ, zero, suc, ◌-◌, ◌≤◌, Bool, true, false, cond, eqb, List, [], ◌∷◌, ◌++◌, length, take, drop, codes, None, Ok, Err, map, refl, sym, ap, subst, ◌∙◌, append_assoc, length-append, arith}
use Rattle.std.specs.Prelude.{⊤}
use Rattle.std.specs.Char.{to_ascii_lowercase}
use Rattle.std.specs.Str.{IsUtf8, is_utf8}
use Rattle.std.specs.Str.Lossy.{utf8_valid_len, valid_len_up_to}
use Rattle.std.proofs.lemmas.Str.{IsUtf8-nil, IsUtf8-from_is_utf8, utf8_valid_len-IsUtf8}
use Rattle.std.proofs.lemmas.Bool.{eqb-true, eq-eqb}
use Rattle.std.proofs.lemmas.List.{append-nil, take_all}
use Rattle.reading.specs.Readers.{ReadOr, ◌>>=◌, follow, mapped, strip, starts}
use Rattle.reading.specs.Grammars.{Seq, Each, Mapped, Either, Given}
use Rattle.reading.specs.Spelling.{Anything, Spells}
use Rattle.reading.specs.Placed.{PlacedGrammar, Anywhere, PlacedSeq, SpellsPlaced}
use Rattle.reading.proofs.SpellLaws.{bind_ok, give_spells, strip_spells, follow_spells, mapped_spells, choice_spells, telling_spells, spells_as, spells_before}
use Rattle.reading.proofs.PlacedLaws.{anywhere_spells, placed_follow}
use Rattle.html_read.specs.declared.content.Base.TheVariants as bases
use Rattle.html_tokens.specs.declared.error.Refusal.TheVariants.{Utf8}
use Rattle.reading.specs.White.{is_white}
use Rattle.html_tokens.specs.Error.{Fault, syntax, spelled}
use Rattle.html_tokens.specs.Lexing.{misc, in_misc, end_of}
use Rattle.html_read.specs.Tree.{roots}
use Rattle.html_read.specs.Reading.{content, end_tag, mark, maybe_mark, maybe_doctype, prolog, body, html, ended, document, input, fragment}
use Rattle.html_read.specs.Values.{TextAt, Acting, Node, Whole}
use Rattle.html_tokens.specs.Grammar.{IsMiscPiece, IsMisc, IsDoctype, IsEndOf, IsEndName}
use Rattle.html_read.specs.Grammar.{IsContent, IsMaybeHead, IsBody, IsHtml, IsMark, IsProlog, IsDocument, IsFragment}
use Rattle.html_tokens.proofs.MiscLaws.{IsOpening, cased_first, NoMisc, misc_spells, doctype_spells, end_of_spells, lower_mark}
use Rattle.html_tokens.proofs.TextLaws.{good}
use Rattle.html_read.proofs.TagLaws.{start_of_spells, end_tag_spells}
use Rattle.html_read.proofs.ContentLaws.{EndsContent, content_spells, content_takes, end_no_text, end_first}
use Rattle.html_read.proofs.HeadLaws.{opening_start, opening_front, opening_not_ahead, opening_no_misc, end_no_misc, misc_here, EndsHead, head_opening, maybe_head_spells, slash_here}

-- ---- body

end_content : (text : List ℕ) (rest : List ℕ) → IsEndName text (codes "body") → EndsContent bases.Body (text ++ rest)
end_content text rest r =
    let f = end_first text (codes "body") rest r in
    record { no_text = end_no_text text (codes "body") rest r; ends = ap (starts (codes "</")) f.1 ∙ slash_here f.0 }

body_end : (nodes : List Node) → Spells (mapped (λ u. nodes) (end_tag (codes "body"))) (λ text all. IsEndName text (codes "body") × (all ≡ nodes)) Anything
body_end nodes =
    spells_as (mapped_spells (λ (u : ⊤). nodes) (end_tag_spells (codes "body"))) (λ text all r. (r.1, r.2)) (λ text all r. (tt, r.0, r.1))

pub body_spells : (size : ℕ) (html_ : Acting) → SpellsPlaced (body size html_) (IsBody size html_) Anything
unfolding body
body_spells size html_ =
    placed_follow (start_of_spells size (codes "<body") false)
    (λ acting. placed_follow (content_spells size bases.Body (roots html_ acting)) (λ nodes. anywhere_spells (body_end nodes)) (λ x y back rest r any. end_content back rest r.0))
    (λ x y back rest r any. tt)

body_opening : (size : ℕ) (html_ : Acting) (text behind : List ℕ) (nodes : List Node) → IsBody size html_ text behind nodes → IsOpening 98 text
body_opening size html_ text behind nodes r = opening_front 98 text r.1 r.2 (opening_start size (codes "ody") 98 false r.1 (r.2 ++ behind) r.0 r.3) r.5

-- ---- html

abbrev LastOf : (nodes : List Node) (sheets : List TextAt) (text : List ℕ) (all : List Node × List TextAt) → Type 0
LastOf nodes sheets = Seq IsMisc (λ u. Mapped (λ u. (nodes, sheets)) (IsEndOf (codes "html")))

last_spells : (nodes : List Node) (sheets : List TextAt) → Spells (spelled (follow (misc (codes "<!")) (λ u. mapped (λ u. (nodes, sheets)) (end_of (codes "html"))))) (LastOf nodes sheets) Anything
last_spells nodes sheets =
    telling_spells syntax (follow_spells misc_here (λ u. mapped_spells (λ (u : ⊤). (nodes, sheets)) (end_of_spells (codes "html"))) (λ x y back rest r any. end_no_misc back rest (codes "html") r.0 r.1))

-- `body` and what stands behind it
abbrev Behind : (size : ℕ) (acting : Acting) (sheets : List TextAt) → PlacedGrammar (List Node × List TextAt)
Behind size acting sheets = PlacedSeq (IsBody size acting) (λ nodes. Anywhere (LastOf nodes sheets))

behind_opening : (size : ℕ) (acting : Acting) (sheets : List TextAt) (text behind : List ℕ) (all : List Node × List TextAt) → Behind size acting sheets text behind all → IsOpening 98 text
behind_opening size acting sheets text behind all r = opening_front 98 text r.1 r.2 (body_opening size acting r.1 (r.2 ++ behind) r.0 r.3) r.5

behind_ends_head : (size : ℕ) (acting : Acting) (sheets : List TextAt) (text behind : List ℕ) (all : List Node × List TextAt) → Behind size acting sheets text behind all → EndsHead (text ++ behind)
behind_ends_head size acting sheets text behind all r =
    let o = behind_opening size acting sheets text behind all r in
    record { no_misc = opening_no_misc 98 text behind refl o; no_head = opening_not_ahead 98 104 text behind refl o }

-- the head, if there is one, before it
head_no_misc : (size : ℕ) (text rest : List ℕ) (sheets : List TextAt) → IsMaybeHead size text rest sheets → NoMisc (codes "<!") rest → NoMisc (codes "<!") (text ++ rest)
head_no_misc size text rest sheets (inl r) ends = opening_no_misc 104 text rest refl (opening_front 104 text r.1 r.2 (head_opening size r.1 (r.2 ++ rest) r.0 r.3) r.5)
head_no_misc size text rest sheets (inr r) ends = ap (λ (s : List ℕ). in_misc (codes "<!") (s ++ rest)) r.0 ∙ ends

both_no_misc : (size : ℕ) (acting : Acting) (text behind : List ℕ) (all : List Node × List TextAt) → PlacedSeq (IsMaybeHead size) (λ sheets. Behind size acting sheets) text behind all → NoMisc (codes "<!") (text ++ behind)
both_no_misc size acting text behind all r =
    let whole : text ++ behind ≡ r.1 ++ (r.2 ++ behind) = ap (λ (s : List ℕ). s ++ behind) r.5 ∙ append_assoc r.1 r.2 behind in
    ap (in_misc (codes "<!")) whole ∙ head_no_misc size r.1 (r.2 ++ behind) r.0 r.3 (behind_ends_head size acting r.0 r.2 behind all r.4).no_misc

pub html_spells : (size : ℕ) → SpellsPlaced (html size) (IsHtml size) Anything
unfolding html
html_spells size =
    placed_follow (start_of_spells size (codes "<html") false)
    (λ acting. placed_follow (anywhere_spells (telling_spells syntax misc_here))
    (λ u. placed_follow (maybe_head_spells size)
    (λ sheets. placed_follow (body_spells size acting) (λ nodes. anywhere_spells (last_spells nodes sheets)) (λ x y back rest r any. tt))
    (λ sheets all back rest r any. behind_ends_head size acting sheets back rest all r))
    (λ u all back rest r any. both_no_misc size acting back rest all r))
    (λ x y back rest r any. tt)

html_opening : (size : ℕ) (text behind : List ℕ) (all : List Node × List TextAt) → IsHtml size text behind all → IsOpening 104 text
html_opening size text behind all r = opening_front 104 text r.1 r.2 (opening_start size (codes "tml") 104 false r.1 (r.2 ++ behind) r.0 r.3) r.5

-- ---- what stands before html

-- `<` and another byte than `!`
pub record EndsProlog (rest : List ℕ) : Type 0 where
  pub byte : ℕ
  pub more : List ℕ
  pub other : eqb byte 33 ≡ false
  pub is : rest ≡ 60 ∷ byte ∷ more

not_bang : (byte : ℕ) → to_ascii_lowercase byte ≡ 104 → eqb byte 33 ≡ false
not_bang byte e = grind arith

html_ends_prolog : (size : ℕ) (text behind : List ℕ) (all : List Node × List TextAt) → IsHtml size text behind all → EndsProlog (text ++ behind)
html_ends_prolog size text behind all r =
    let o = html_opening size text behind all r in
    record { byte = o.byte; more = o.more ++ behind; other = not_bang o.byte o.lower; is = ap (λ (s : List ℕ). s ++ behind) o.is }

bang_false : (byte : ℕ) (more : List ℕ) → eqb byte 33 ≡ false → (starts (codes "<!") (60 ∷ byte ∷ more) ≡ false) × (starts (codes "<!-") (60 ∷ byte ∷ more) ≡ false)
unfolding starts strip
bang_false byte more e = (rw e refl, rw e refl)

prolog_no_doctype : (rest : List ℕ) → EndsProlog rest → starts (codes "<!") rest ≡ false
prolog_no_doctype rest e = ap (starts (codes "<!")) e.is ∙ (bang_false e.byte e.more e.other).0

prolog_no_misc : (rest : List ℕ) → EndsProlog rest → NoMisc (codes "<!") rest
prolog_no_misc rest e = ap (in_misc (codes "<!")) e.is ∙ (bang_false e.byte e.more e.other).0

prolog_no_comment : (rest : List ℕ) → EndsProlog rest → NoMisc (codes "<!-") rest
prolog_no_comment rest e = ap (in_misc (codes "<!-")) e.is ∙ (bang_false e.byte e.more e.other).1

-- a doctype, by its first three bytes
bang_only : (byte : ℕ) → to_ascii_lowercase byte ≡ 33 → byte ≡ 33
bang_only byte e = grind arith

not_dash : (byte : ℕ) → to_ascii_lowercase byte ≡ 100 → eqb byte 45 ≡ false
not_dash byte e = grind arith

record IsDoctypeFirst (text : List ℕ) : Type 0 where
  byte : ℕ
  more : List ℕ
  other : eqb byte 45 ≡ false
  is : text ≡ 60 ∷ 33 ∷ byte ∷ more

word_first : (text : List ℕ) → map to_ascii_lowercase text ≡ codes "<!doctype" → IsDoctypeFirst text
word_first text e =
    let one = cased_first text (codes "!doctype") 60 e in
    let two = cased_first one.1 (codes "doctype") 33 one.4 in
    let three = cased_first two.1 (codes "octype") 100 two.4 in
    record {
      byte = three.0;
      more = three.1;
      other = not_dash three.0 three.3;
      is = one.2 ∙ ap (λ (b : ℕ). b ∷ one.1) (lower_mark one.0 one.3) ∙ ap (λ (m : List ℕ). 60 ∷ m) (two.2 ∙ ap (λ (b : ℕ). b ∷ two.1) (bang_only two.0 two.3) ∙ ap (λ (m : List ℕ). 33 ∷ m) three.2);
    }

doctype_first : (text : List ℕ) (u : ⊤) → Seq IsDoctype (λ u. IsMisc) text u → IsDoctypeFirst text
doctype_first text u r =
    let inner = r.3 in
    let f = word_first inner.1 inner.3 in
    record { byte = f.byte; more = (f.more ++ inner.2) ++ r.2; other = f.other; is = r.5 ∙ ap (λ (s : List ℕ). s ++ r.2) (inner.5 ∙ ap (λ (s : List ℕ). s ++ inner.2) f.is) }

doctype_bang : (byte : ℕ) (more : List ℕ) → eqb byte 45 ≡ false → (starts (codes "<!") (60 ∷ 33 ∷ byte ∷ more) ≡ true) × (starts (codes "<!-") (60 ∷ 33 ∷ byte ∷ more) ≡ false)
unfolding starts strip
doctype_bang byte more e = (refl, rw e refl)

pub maybe_doctype_spells : Spells maybe_doctype (Either (Seq IsDoctype (λ u. IsMisc)) (Given tt)) EndsProlog
unfolding maybe_doctype
maybe_doctype_spells =
    choice_spells (starts (codes "<!"))
    (follow_spells doctype_spells (λ u. spells_before misc_here prolog_no_misc) (λ x y back rest r any. tt))
    (spells_before (give_spells tt) (λ rest ends. tt))
    (λ text x rest r ends.
    let f = doctype_first text x r in
    ap (λ (s : List ℕ). starts (codes "<!") (s ++ rest)) f.is ∙ (doctype_bang f.byte (f.more ++ rest) f.other).0)
    (λ text x rest r ends. ap (λ (s : List ℕ). starts (codes "<!") (s ++ rest)) r.0 ∙ prolog_no_doctype rest ends)

doctype_no_comment : (text rest : List ℕ) (u : ⊤) → Either (Seq IsDoctype (λ u. IsMisc)) (Given tt) text u → EndsProlog rest → NoMisc (codes "<!-") (text ++ rest)
doctype_no_comment text rest u (inl r) ends =
    let f = doctype_first text u r in
    ap (λ (s : List ℕ). in_misc (codes "<!-") (s ++ rest)) f.is ∙ (doctype_bang f.byte (f.more ++ rest) f.other).1
doctype_no_comment text rest u (inr r) ends = ap (λ (s : List ℕ). in_misc (codes "<!-") (s ++ rest)) r.0 ∙ prolog_no_comment rest ends

pub misc_in_prolog : Spells (misc (codes "<!-")) IsMisc (NoMisc (codes "<!-"))
unfolding starts strip
misc_in_prolog = misc_spells (codes "<!-") (λ more. refl)

-- the first byte isn't that of a byte order mark
record IsLow (text : List ℕ) : Type 0 where
  byte : ℕ
  more : List ℕ
  low : byte ≤ 60
  is : text ≡ byte ∷ more

white_low : (byte : ℕ) → is_white byte ≡ true → byte ≤ 60
white_low byte e = grind arith

piece_low : (text x rest : List ℕ) → IsMiscPiece text x → IsLow (text ++ rest)
piece_low text x rest (inl r) = record { byte = r.1.0; more = rest; low = white_low r.1.0 r.1.1.1; is = ap (λ (s : List ℕ). s ++ rest) r.1.1.0 }
piece_low text x rest (inr r) = record { byte = 60; more = 33 ∷ 45 ∷ 45 ∷ (r.1.0 ++ rest); low = omega arith; is = ap (λ (s : List ℕ). s ++ rest) r.1.2 }

pieces_low : (pieces : List (List ℕ)) (text rest : List ℕ) → Each IsMiscPiece text pieces → IsLow rest → IsLow (text ++ rest)
pieces_low [] text rest r low = subst (λ (s : List ℕ). IsLow (s ++ rest)) (sym r) low
pieces_low (x ∷ pieces) text rest (front, back, is, others, whole) low =
    subst (λ (s : List ℕ). IsLow s) (sym (ap (λ (s : List ℕ). s ++ rest) whole ∙ append_assoc front back rest)) (piece_low front x (back ++ rest) is)

abbrev AfterMark : (text : List ℕ) (u : ⊤) → Type 0
AfterMark = Seq IsMisc (λ u. Either (Seq IsDoctype (λ u. IsMisc)) (Given tt))

doctype_low : (text rest : List ℕ) (u : ⊤) → Either (Seq IsDoctype (λ u. IsMisc)) (Given tt) text u → EndsProlog rest → IsLow (text ++ rest)
doctype_low text rest u (inl r) ends =
    let f = doctype_first text u r in
    record { byte = 60; more = 33 ∷ f.byte ∷ (f.more ++ rest); low = omega arith; is = ap (λ (s : List ℕ). s ++ rest) f.is }
doctype_low text rest u (inr r) ends = record { byte = 60; more = ends.byte ∷ ends.more; low = omega arith; is = ap (λ (s : List ℕ). s ++ rest) r.0 ∙ ends.is }

after_low : (text rest : List ℕ) (u : ⊤) → AfterMark text u → EndsProlog rest → IsLow (text ++ rest)
after_low text rest u r ends =
    subst (λ (s : List ℕ). IsLow s) (sym (ap (λ (s : List ℕ). s ++ rest) r.5 ∙ append_assoc r.1 r.2 rest))
    (pieces_low r.3.1.0 r.1 (r.2 ++ rest) r.3.1.1 (doctype_low r.2 rest u r.4 ends))

abbrev pub NoMark : List ℕ → Type 0
NoMark rest = starts mark rest ≡ false

low_other : (byte : ℕ) → byte ≤ 60 → eqb byte 239 ≡ false
low_other byte le = grind (arith, le)

low_no_mark : (rest : List ℕ) → IsLow rest → NoMark rest
unfolding starts strip mark
low_no_mark rest l = rw (l.is, low_other l.byte l.low) refl

mark_starts : (rest : List ℕ) → starts mark (mark ++ rest) ≡ true
unfolding starts strip mark
mark_starts rest = refl

pub mark_spells : Spells maybe_mark IsMark NoMark
unfolding maybe_mark
mark_spells =
    choice_spells (starts mark) (spells_before (strip_spells mark) (λ rest ends. tt)) (spells_before (give_spells tt) (λ rest ends. tt))
    (λ text x rest r ends. ap (λ (s : List ℕ). starts mark (s ++ rest)) r ∙ mark_starts rest)
    (λ text x rest r ends. ap (λ (s : List ℕ). starts mark (s ++ rest)) r.0 ∙ ends)

pub prolog_spells : Spells prolog IsProlog EndsProlog
unfolding prolog
prolog_spells =
    follow_spells mark_spells
    (λ u. follow_spells misc_in_prolog (λ u. maybe_doctype_spells) (λ x y back rest r ends. doctype_no_comment back rest y r ends))
    (λ x y back rest r ends. low_no_mark (back ++ rest) (after_low back rest y r ends))

-- ---- documents

abbrev Parts : (size : ℕ) → PlacedGrammar (List Node × List TextAt)
Parts size = PlacedSeq (Anywhere IsProlog) (λ u. IsHtml size)

parts_spell : (size : ℕ) → SpellsPlaced (follow (spelled prolog) (λ u. html size)) (Parts size) Anything
parts_spell size =
    placed_follow (anywhere_spells (telling_spells syntax prolog_spells)) (λ u. html_spells size) (λ u all back rest r any. html_ends_prolog size back rest all r)

in_turn : {E A B C : Type 0} (r : ReadOr E A) (f : A × List ℕ → ReadOr E B) (g : B × List ℕ → ReadOr E C) → (r >>= λ (x : A × List ℕ). f x >>= g) ≡ ((r >>= f) >>= g)
in_turn (Ok x) f g = refl
in_turn (Err e) f g = refl

document_is : (size : ℕ) (bytes : List ℕ) → document size bytes ≡ (follow (spelled prolog) (λ u. html size) bytes >>= λ (v : (List Node × List TextAt) × List ℕ). ended size v.0 v.1)
unfolding document
document_is size bytes = in_turn (spelled prolog bytes) (λ (u : ⊤ × List ℕ). html size u.1) (λ (v : (List Node × List TextAt) × List ℕ). ended size v.0 v.1)

ended_is : (size : ℕ) (read : List Node × List TextAt) (rest : List ℕ) → ended size read rest ≡ good (record { nodes = read.0; sheets = read.1; length = size - length rest }, rest)
unfolding ended
ended_is size read rest = refl

placed_length : (text rest : List ℕ) → length (text ++ rest) - length rest ≡ length text
placed_length text rest = omega (arith, length-append text rest)

-- what was read of a document
ended_same : (a b : Whole × List ℕ) → good a ≡ good b → a ≡ b
ended_same a b e = cc

abbrev whole_of : Whole → ℕ → Whole
whole_of whole n = record { nodes = whole.nodes; sheets = whole.sheets; length = n }

record IsDocumentRead (bytes rest : List ℕ) (whole : Whole) : Type 0 where
  text : List ℕ
  parts : Parts (length bytes) text rest (whole.nodes, whole.sheets)
  ends : whole.length ≡ length text
  is : bytes ≡ text ++ rest

document_takes : (bytes rest : List ℕ) (whole : Whole) → document (length bytes) bytes ≡ good (whole, rest) → IsDocumentRead bytes rest whole
document_takes bytes rest whole e =
    let size = length bytes in
    let a = bind_ok (follow (spelled prolog) (λ u. html size) bytes) (λ (v : (List Node × List TextAt) × List ℕ). ended size v.0 v.1) (whole, rest) (sym (document_is size bytes) ∙ e) in
    let made : Whole = record { nodes = a.0.0.0; sheets = a.0.0.1; length = size - length a.0.1 } in
    let pair : ◌≡◌ {A = Whole × List ℕ} (made, a.0.1) (whole, rest) = ended_same (made, a.0.1) (whole, rest) (sym (ended_is size a.0.0 a.0.1) ∙ a.2) in
    let t = (parts_spell size).takes bytes a.0.0 a.0.1 a.1 in
    let place : size - length a.0.1 ≡ length t.0 = ap (λ (s : List ℕ). length s - length a.0.1) t.2 ∙ placed_length t.0 a.0.1 in
    let read : IsDocumentRead bytes a.0.1 made = record { text = t.0; parts = t.1; ends = place; is = t.2 } in
    subst (λ (p : Whole × List ℕ). IsDocumentRead bytes p.1 p.0) pair read

document_again : (text rest : List ℕ) (whole : Whole) → Parts (length (text ++ rest)) text rest (whole.nodes, whole.sheets) → whole.length ≡ length text → document (length (text ++ rest)) (text ++ rest) ≡ good (whole, rest)
document_again text rest whole parts ends =
    let size = length (text ++ rest) in
    let first = (parts_spell size).again text (whole.nodes, whole.sheets) rest parts tt in
    let place : size - length rest ≡ whole.length = placed_length text rest ∙ sym ends in
    document_is size (text ++ rest)
    ∙ ap (λ (s : ReadOr Fault (List Node × List TextAt)). s >>= λ (v : (List Node × List TextAt) × List ℕ). ended size v.0 v.1) first
    ∙ ended_is size (whole.nodes, whole.sheets) rest
    ∙ ap (λ (n : ℕ). good (whole_of whole n, rest)) place

-- ---- UTF-8

valid_le_by : (n valid : ℕ) (t : Bool) → valid ≤ n → cond t (suc n) valid ≤ suc n
valid_le_by n valid true le = omega arith
valid_le_by n valid false le = omega (arith, le)

all_valid_by : (n valid : ℕ) (t : Bool) → valid ≤ n → cond t (suc n) valid ≡ suc n → (suc n ≡ 0) ⊎ (t ≡ true)
all_valid_by n valid true le e = inr refl
all_valid_by n valid false le e = absurd (omega (arith, le, e))

valid_le : (bytes : List ℕ) (n : ℕ) → valid_len_up_to bytes n ≤ n
valid_le bytes zero = omega arith
valid_le bytes (suc n) = valid_le_by n (valid_len_up_to bytes n) (is_utf8 (take (suc n) bytes)) (valid_le bytes n)

all_valid : (bytes : List ℕ) (n : ℕ) → valid_len_up_to bytes n ≡ n → (n ≡ 0) ⊎ (is_utf8 (take n bytes) ≡ true)
all_valid bytes zero e = inl refl
all_valid bytes (suc n) e = all_valid_by n (valid_len_up_to bytes n) (is_utf8 (take (suc n) bytes)) (valid_le bytes n) e

utf8_by : (bytes : List ℕ) → (length bytes ≡ 0) ⊎ (is_utf8 (take (length bytes) bytes) ≡ true) → IsUtf8 bytes
utf8_by [] (inl none) = IsUtf8-nil
utf8_by (byte ∷ bytes) (inl none) = absurd (omega (arith, none))
utf8_by bytes (inr is) = IsUtf8-from_is_utf8 bytes (ap is_utf8 (sym (take_all (length bytes) bytes (omega arith))) ∙ is)

pub all_utf8 : (bytes : List ℕ) → utf8_valid_len bytes ≡ length bytes → IsUtf8 bytes
unfolding utf8_valid_len
all_utf8 bytes e = utf8_by bytes (all_valid bytes (length bytes) e)

-- ---- inputs

input_by : (bytes rest : List ℕ) (whole : Whole) (t : Bool) → eqb (utf8_valid_len bytes) (length bytes) ≡ t
    → cond t (document (length bytes) bytes) (Err (Utf8, drop (utf8_valid_len bytes) bytes)) ≡ good (whole, rest)
    → (text : List ℕ) × IsDocument text rest whole × (bytes ≡ text ++ rest)
input_by bytes rest whole true is e =
    let d = document_takes bytes rest whole e in
    let utf8 : IsUtf8 bytes = all_utf8 bytes (eqb-true (utf8_valid_len bytes) (length bytes) is) in (
      d.text,
      record {
        utf8 = subst (λ (s : List ℕ). IsUtf8 s) d.is utf8;
        parts = subst (λ (s : List ℕ). Parts (length s) d.text rest (whole.nodes, whole.sheets)) d.is d.parts;
        ends = d.ends;
      },
      d.is,
    )
input_by bytes rest whole false is e = absurd cc

pub input_takes : (bytes rest : List ℕ) (whole : Whole) → input bytes ≡ good (whole, rest) → (text : List ℕ) × IsDocument text rest whole × (bytes ≡ text ++ rest)
unfolding input
input_takes bytes rest whole e = input_by bytes rest whole (eqb (utf8_valid_len bytes) (length bytes)) refl e

input_read : (bytes : List ℕ) → IsUtf8 bytes → input bytes ≡ document (length bytes) bytes
unfolding input
input_read bytes is = rw (eq-eqb (utf8_valid_len bytes) (length bytes) (utf8_valid_len-IsUtf8 bytes is)) refl

pub input_again : (text rest : List ℕ) (whole : Whole) → IsDocument text rest whole → input (text ++ rest) ≡ good (whole, rest)
input_again text rest whole is = input_read (text ++ rest) is.utf8 ∙ document_again text rest whole is.parts is.ends

-- ---- fragments

nothing_left : (rest : List ℕ) → eqb (length rest) 0 ≡ true → rest ≡ []
nothing_left [] e = refl
nothing_left (byte ∷ rest) e =
    let none : length (byte ∷ rest) ≡ 0 = eqb-true (length (byte ∷ rest)) 0 e in
    absurd (omega (arith, none))

pub fragment_ends : (text rest : List ℕ) (nodes : List Node) → fragment text ≡ good (nodes, rest) → rest ≡ []
unfolding fragment
fragment_ends text rest nodes e = nothing_left rest (content_takes (length text) bases.Fragment [] text rest nodes e).ends

pub fragment_takes : (text rest : List ℕ) (nodes : List Node) → fragment text ≡ good (nodes, rest) → IsFragment text nodes
unfolding fragment
fragment_takes text rest nodes e =
    let r = content_takes (length text) bases.Fragment [] text rest nodes e in
    let none = nothing_left rest r.ends in
    let same : text ≡ r.text = r.parts ∙ ap (λ (s : List ℕ). r.text ++ s) none ∙ append-nil r.text in
    subst (λ (s : List ℕ). IsContent (length text) None [] s [] nodes) (sym same) (subst (λ (s : List ℕ). IsContent (length text) None [] r.text s nodes) none r.is)

pub fragment_again : (text : List ℕ) (nodes : List Node) → IsFragment text nodes → fragment text ≡ good (nodes, [])
unfolding fragment
fragment_again text nodes is =
    let read = (content_spells (length text) bases.Fragment []).again text nodes [] is (record { no_text = refl; ends = refl }) in
    ap (content (length text) bases.Fragment []) (sym (append-nil text)) ∙ read

-- ---- as equivalences

pub documents_are : (bytes rest : List ℕ) (whole : Whole) → (input bytes ≡ Ok (whole, rest)) ↔ ((text : List ℕ) × IsDocument text rest whole × (bytes ≡ text ++ rest))
documents_are bytes rest whole = (λ e. input_takes bytes rest whole e, λ d. ap input d.2 ∙ input_again d.0 rest whole d.1)

pub fragments_are : (text : List ℕ) (nodes : List Node) → ((rest : List ℕ) × (fragment text ≡ Ok (nodes, rest))) ↔ IsFragment text nodes
fragments_are text nodes = (λ r. fragment_takes text r.0 nodes r.1, λ is. ([], fragment_again text nodes is))
