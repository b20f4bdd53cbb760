-- The head of a document: what is read is spelled so, and what is spelled so is read.
use Rattle.std.proofs.Common.{◌≡◌, inl, inr, ℕ, suc, ◌-◌, ◌<◌, Bool, true, false, not, eqb, List, [], ◌∷◌, ◌++◌, length, codes, Ok, Err, refl, sym, ap, subst, ◌∙◌, append_assoc, length-append, arith}
use Rattle.std.specs.Prelude.{⊤}
use Rattle.std.specs.Char.{to_ascii_lowercase}
use Rattle.std.proofs.lemmas.Bool.{eqb-true, eq-eqb}
use Rattle.std.proofs.lemmas.List.{append-nil}
use Rattle.reading.specs.Readers.{Read, ◌>>=◌, refuse, mapped, read_or, choice, strip, strip_either_case, starts, next_is, after, repeat}
use Rattle.reading.specs.Grammars.{Mapped}
use Rattle.reading.specs.Spelling.{Anything, Spells}
use Rattle.reading.specs.Placed.{PlacedGrammar, Anywhere, PlacedMapped, PlacedEither, SpellsPlaced}
use Rattle.reading.proofs.SpellLaws.{give_spells, mapped_spells, telling_spells, spells_before}
use Rattle.reading.proofs.PlacedLaws.{anywhere_spells, placed_before, placed_follow, placed_mapped, placed_choice}
use Rattle.reading.proofs.Turns.{Leads, leads_nowhere, leads_on, one_turn, leads_to_end, turns_back}
use Rattle.html_tokens.specs.declared.raw_text.RawEnd.TheVariants as ends
use Rattle.reading.specs.White.{is_white}
use Rattle.html_tokens.specs.Error.{syntax, spelled}
use Rattle.html_tokens.specs.Lexing.{raw, in_misc, misc}
use Rattle.html_read.specs.Reading.{ahead, title, meta, sheet, style, head_turn, head_items, head, maybe_head}
use Rattle.html_read.specs.Values.{TextAt, Acting}
use Rattle.html_tokens.specs.Grammar.{IsWhite, IsEndOf, IsRaw, IsComment, IsMisc}
use Rattle.html_read.specs.Grammar.{IsStartOf, IsTitle, IsMeta, IsSheet, IsStyle, IsHeadPiece, AreHeadPieces, all_of, IsHead, IsMaybeHead}
use Rattle.html_tokens.proofs.MiscLaws.{IsOpening, opening_of, NoMisc, white_spells, raw_spells, comment_spells, misc_spells, end_of_spells}
use Rattle.html_read.proofs.TagLaws.{start_of_spells}
use Rattle.html_tokens.proofs.TextLaws.{good}

-- ---- what begins with `<` and a byte in either case

pub opening_start : (size : ℕ) (word : List ℕ) (second : ℕ) (slash : Bool) (text behind : List ℕ) (acting : Acting) → IsStartOf size (60 ∷ second ∷ word) slash text behind acting → IsOpening second text
opening_start size word second slash text behind acting r =
    let o = opening_of r.1 word second r.3 in
    record { byte = o.byte; more = o.more ++ r.2; lower = o.lower; is = r.5 ∙ ap (λ (s : List ℕ). s ++ r.2) o.is }

-- something before the rest
pub opening_front : (second : ℕ) (text front back : List ℕ) → IsOpening second front → text ≡ front ++ back → IsOpening second text
opening_front second text front back o whole = record { byte = o.byte; more = o.more ++ back; lower = o.lower; is = whole ∙ ap (λ (s : List ℕ). s ++ back) o.is }

other_by : (byte second other : ℕ) (t : Bool) → eqb byte other ≡ t → to_ascii_lowercase byte ≡ second → eqb second (to_ascii_lowercase other) ≡ false → eqb byte other ≡ false
other_by byte second other true e lower differs =
    let same : second ≡ to_ascii_lowercase other = sym lower ∙ ap to_ascii_lowercase (eqb-true byte other e) in
    let clash : true ≡ false = sym (eq-eqb (to_ascii_lowercase other) (to_ascii_lowercase other) refl) ∙ ap (λ (n : ℕ). eqb n (to_ascii_lowercase other)) (sym same) ∙ differs in
    absurd cc
other_by byte second other false e lower differs = e

other_second : (byte second other : ℕ) → to_ascii_lowercase byte ≡ second → eqb second (to_ascii_lowercase other) ≡ false → eqb byte other ≡ false
other_second byte second other lower differs = other_by byte second other (eqb byte other) refl lower differs

two_differ : (byte other : ℕ) (more : List ℕ) → eqb byte other ≡ false → starts (60 ∷ other ∷ []) (60 ∷ byte ∷ more) ≡ false
unfolding starts strip
two_differ byte other more e = rw e refl

-- another second byte
pub opening_starts : (second other : ℕ) (text rest : List ℕ) → eqb second (to_ascii_lowercase other) ≡ false → IsOpening second text → starts (60 ∷ other ∷ []) (text ++ rest) ≡ false
opening_starts second other text rest differs o =
    ap (λ (s : List ℕ). starts (60 ∷ other ∷ []) (s ++ rest)) o.is ∙ two_differ o.byte other (o.more ++ rest) (other_second o.byte second other o.lower differs)

cased_same : (byte wanted : ℕ) (more : List ℕ) → eqb (to_ascii_lowercase byte) wanted ≡ true → ahead (60 ∷ wanted ∷ []) (60 ∷ byte ∷ more) ≡ true
unfolding strip_either_case
cased_same byte wanted more e = rw e refl

cased_other : (byte wanted : ℕ) (more : List ℕ) → eqb (to_ascii_lowercase byte) wanted ≡ false → ahead (60 ∷ wanted ∷ []) (60 ∷ byte ∷ more) ≡ false
unfolding strip_either_case
cased_other byte wanted more e = rw e refl

pub opening_ahead : (second : ℕ) (text rest : List ℕ) → eqb second second ≡ true → IsOpening second text → ahead (60 ∷ second ∷ []) (text ++ rest) ≡ true
opening_ahead second text rest same o =
    ap (λ (s : List ℕ). ahead (60 ∷ second ∷ []) (s ++ rest)) o.is ∙ cased_same o.byte second (o.more ++ rest) (ap (λ (n : ℕ). eqb n second) o.lower ∙ same)

pub opening_not_ahead : (second wanted : ℕ) (text rest : List ℕ) → eqb second wanted ≡ false → IsOpening second text → ahead (60 ∷ wanted ∷ []) (text ++ rest) ≡ false
opening_not_ahead second wanted text rest differs o =
    ap (λ (s : List ℕ). ahead (60 ∷ wanted ∷ []) (s ++ rest)) o.is ∙ cased_other o.byte wanted (o.more ++ rest) (ap (λ (n : ℕ). eqb n wanted) o.lower ∙ differs)

pub opening_not_white : (second : ℕ) (text rest : List ℕ) → IsOpening second text → next_is is_white (text ++ rest) ≡ false
opening_not_white second text rest o = ap (λ (s : List ℕ). next_is is_white (s ++ rest)) o.is

pub opening_no_misc : (second : ℕ) (text rest : List ℕ) → eqb second 33 ≡ false → IsOpening second text → NoMisc (codes "<!") (text ++ rest)
opening_no_misc second text rest differs o = rw (opening_not_white second text rest o) (opening_starts second 33 text rest differs o)

pub opening_some : (second : ℕ) (text : List ℕ) → IsOpening second text → 0 < length text
opening_some second text o = subst (λ (s : List ℕ). 0 < length s) (sym o.is) (omega arith)

-- ---- the parts of the head

pub title_spells : (size : ℕ) → SpellsPlaced (title size) (IsTitle size) Anything
unfolding title
title_spells size =
    placed_follow (start_of_spells size (codes "<title") false) (λ acting. anywhere_spells (telling_spells syntax (mapped_spells (λ (inside : List ℕ). tt) (raw_spells ends.Title)))) (λ x y back rest r any. tt)

pub meta_spells : (size : ℕ) → SpellsPlaced (meta size) (IsMeta size) Anything
unfolding meta
meta_spells size = placed_mapped (λ (acting : Acting). tt) (start_of_spells size (codes "<meta") true)

abbrev sheet_at : (size : ℕ) (here inside : List ℕ) → TextAt
sheet_at size here inside = record { text = inside; place = size - length here }

sheet_from : (size : ℕ) (here : List ℕ) → Spells (spelled (mapped (λ inside. sheet_at size here inside) (raw ends.Style))) (Mapped (λ inside. sheet_at size here inside) (IsRaw ends.Style)) Anything
sheet_from size here = telling_spells syntax (mapped_spells (λ inside. sheet_at size here inside) (raw_spells ends.Style))

pub sheet_spells : (size : ℕ) → SpellsPlaced (sheet size) (IsSheet size) Anything
unfolding sheet
sheet_spells size = record {
  takes = λ bytes s rest e.
      let t = (sheet_from size bytes).takes bytes s rest e in
      (t.0, subst (λ (here : List ℕ). Mapped (λ inside. sheet_at size here inside) (IsRaw ends.Style) t.0 s) t.2 t.1, t.2);
  again = λ text s rest r any. (sheet_from size (text ++ rest)).again text s rest r tt;
}

pub style_spells : (size : ℕ) → SpellsPlaced (style size) (IsStyle size) Anything
unfolding style
style_spells size = placed_follow (start_of_spells size (codes "<style") false) (λ acting. sheet_spells size) (λ x y back rest r any. tt)

-- ---- what comes next in the head

abbrev None_ : PlacedGrammar (List TextAt)
None_ text behind x = ⊥

never : (r : Read ⊤) (x : List TextAt) (y : List ℕ) → read_or syntax (r >>= λ (u : ⊤ × List ℕ). refuse u.1) ≡ good (x, y) → ⊥
never (Ok u) x y e = absurd cc
never (Err left) x y e = absurd cc

none_spells : SpellsPlaced (spelled (after (codes "<") refuse)) None_ Anything
unfolding after
none_spells = record {
  takes = λ bytes x rest e. absurd (never (strip (codes "<") bytes) x rest e);
  again = λ text x rest r any. absurd r;
}

abbrev WhiteFirst : List TextAt → PlacedGrammar (List TextAt)
WhiteFirst sheets = Anywhere (Mapped (λ u. sheets) IsWhite)

abbrev CommentFirst : List TextAt → PlacedGrammar (List TextAt)
CommentFirst sheets = Anywhere (Mapped (λ u. sheets) IsComment)

abbrev TitleFirst : ℕ → List TextAt → PlacedGrammar (List TextAt)
TitleFirst size sheets = PlacedMapped (λ u. sheets) (IsTitle size)

abbrev MetaFirst : ℕ → List TextAt → PlacedGrammar (List TextAt)
MetaFirst size sheets = PlacedMapped (λ u. sheets) (IsMeta size)

abbrev StyleFirst : ℕ → List TextAt → PlacedGrammar (List TextAt)
StyleFirst size sheets = PlacedMapped (λ sheet. sheets ++ sheet ∷ []) (IsStyle size)

abbrev Turned : ℕ → List TextAt → PlacedGrammar (List TextAt)
Turned size sheets = PlacedEither (WhiteFirst sheets) (PlacedEither (CommentFirst sheets) (PlacedEither (TitleFirst size sheets) (PlacedEither (MetaFirst size sheets) (PlacedEither (StyleFirst size sheets) None_))))

comment_opening : (text : List ℕ) (u : ⊤) → IsComment text u → IsOpening 33 text
comment_opening text u r = record { byte = 33; more = 45 ∷ 45 ∷ r.0; lower = refl; is = r.2 }

title_opening : (size : ℕ) (text behind : List ℕ) (u : ⊤) → IsTitle size text behind u → IsOpening 116 text
title_opening size text behind u r = opening_front 116 text r.1 r.2 (opening_start size (codes "itle") 116 false r.1 (r.2 ++ behind) r.0 r.3) r.5

meta_opening : (size : ℕ) (text behind : List ℕ) (u : ⊤) → IsMeta size text behind u → IsOpening 109 text
meta_opening size text behind u r = opening_start size (codes "eta") 109 true text behind r.0 r.1

style_opening : (size : ℕ) (text behind : List ℕ) (s : TextAt) → IsStyle size text behind s → IsOpening 115 text
style_opening size text behind s r = opening_front 115 text r.1 r.2 (opening_start size (codes "tyle") 115 false r.1 (r.2 ++ behind) r.0 r.3) r.5

bang_here : (more : List ℕ) → starts (codes "<!") (60 ∷ 33 ∷ more) ≡ true
unfolding starts strip
bang_here more = refl

comment_starts : (text rest : List ℕ) (u : ⊤) → IsComment text u → starts (codes "<!") (text ++ rest) ≡ true
comment_starts text rest u r = ap (λ (s : List ℕ). starts (codes "<!") (s ++ rest)) r.2 ∙ bang_here (45 ∷ 45 ∷ (r.0 ++ rest))

style_or_none : (size : ℕ) (sheets : List TextAt) → SpellsPlaced (choice (ahead (codes "<s")) (mapped (λ sheet. sheets ++ sheet ∷ []) (style size)) (spelled (after (codes "<") refuse))) (PlacedEither (StyleFirst size sheets) None_) Anything
style_or_none size sheets =
    placed_choice (ahead (codes "<s")) (placed_mapped (λ sheet. sheets ++ sheet ∷ []) (style_spells size)) none_spells
    (λ text x rest r any. opening_ahead 115 text rest refl (style_opening size text rest r.0 r.1))
    (λ text x rest r any. absurd r)

-- the second byte of what is left
meta_onwards : (size : ℕ) (sheets : List TextAt) (text rest x_rest : List ℕ) (x : List TextAt) (wanted : ℕ) → eqb 115 wanted ≡ false → PlacedEither (StyleFirst size sheets) None_ text rest x → ahead (60 ∷ wanted ∷ []) (text ++ x_rest) ≡ false
meta_onwards size sheets text rest x_rest x wanted s (inl r) = opening_not_ahead 115 wanted text x_rest s (style_opening size text rest r.0 r.1)
meta_onwards size sheets text rest x_rest x wanted s (inr r) = absurd r

meta_or : (size : ℕ) (sheets : List TextAt) → SpellsPlaced (choice (ahead (codes "<m")) (mapped (λ u. sheets) (meta size)) (choice (ahead (codes "<s")) (mapped (λ sheet. sheets ++ sheet ∷ []) (style size)) (spelled (after (codes "<") refuse))))
    (PlacedEither (MetaFirst size sheets) (PlacedEither (StyleFirst size sheets) None_)) Anything
meta_or size sheets =
    placed_choice (ahead (codes "<m")) (placed_mapped (λ (u : ⊤). sheets) (meta_spells size)) (style_or_none size sheets)
    (λ text x rest r any. opening_ahead 109 text rest refl (meta_opening size text rest r.0 r.1))
    (λ text x rest r any. meta_onwards size sheets text rest rest x 109 refl r)

not_title : (size : ℕ) (sheets : List TextAt) (text rest : List ℕ) (x : List TextAt) → PlacedEither (MetaFirst size sheets) (PlacedEither (StyleFirst size sheets) None_) text rest x → ahead (codes "<t") (text ++ rest) ≡ false
not_title size sheets text rest x (inl r) = opening_not_ahead 109 116 text rest refl (meta_opening size text rest r.0 r.1)
not_title size sheets text rest x (inr r) = meta_onwards size sheets text rest rest x 116 refl r

title_or : (size : ℕ) (sheets : List TextAt) → SpellsPlaced (choice (ahead (codes "<t")) (mapped (λ u. sheets) (title size)) (choice (ahead (codes "<m")) (mapped (λ u. sheets) (meta size)) (choice (ahead (codes "<s")) (mapped (λ sheet. sheets ++ sheet ∷ []) (style size)) (spelled (after (codes "<") refuse)))))
    (PlacedEither (TitleFirst size sheets) (PlacedEither (MetaFirst size sheets) (PlacedEither (StyleFirst size sheets) None_))) Anything
title_or size sheets =
    placed_choice (ahead (codes "<t")) (placed_mapped (λ (u : ⊤). sheets) (title_spells size)) (meta_or size sheets)
    (λ text x rest r any. opening_ahead 116 text rest refl (title_opening size text rest r.0 r.1))
    (λ text x rest r any. not_title size sheets text rest x r)

-- an element of the head begins
record IsElement (text : List ℕ) : Type 0 where
  second : ℕ
  opening : IsOpening second text
  no_bang : eqb second 33 ≡ false
  no_slash : eqb second 47 ≡ false

element_of : (size : ℕ) (sheets : List TextAt) (text rest : List ℕ) (x : List TextAt) → PlacedEither (TitleFirst size sheets) (PlacedEither (MetaFirst size sheets) (PlacedEither (StyleFirst size sheets) None_)) text rest x → IsElement text
element_of size sheets text rest x (inl r) = record { second = 116; opening = title_opening size text rest r.0 r.1; no_bang = refl; no_slash = refl }
element_of size sheets text rest x (inr (inl r)) = record { second = 109; opening = meta_opening size text rest r.0 r.1; no_bang = refl; no_slash = refl }
element_of size sheets text rest x (inr (inr (inl r))) = record { second = 115; opening = style_opening size text rest r.0 r.1; no_bang = refl; no_slash = refl }
element_of size sheets text rest x (inr (inr (inr r))) = absurd r

turned_no_white : (size : ℕ) (sheets : List TextAt) (text rest : List ℕ) (x : List TextAt) → PlacedEither (CommentFirst sheets) (PlacedEither (TitleFirst size sheets) (PlacedEither (MetaFirst size sheets) (PlacedEither (StyleFirst size sheets) None_))) text rest x
    → next_is is_white (text ++ rest) ≡ false
turned_no_white size sheets text rest x (inl r) = opening_not_white 33 text rest (comment_opening text r.0 r.1)
turned_no_white size sheets text rest x (inr r) =
    let e = element_of size sheets text rest x r in
    opening_not_white e.second text rest e.opening

turn_spells : (size : ℕ) (sheets : List TextAt) → SpellsPlaced (head_turn size sheets) (Turned size sheets) Anything
unfolding head_turn
turn_spells size sheets =
    placed_choice (next_is is_white) (anywhere_spells (telling_spells syntax (mapped_spells (λ (u : ⊤). sheets) white_spells)))
    (placed_choice (starts (codes "<!")) (anywhere_spells (telling_spells syntax (mapped_spells (λ (u : ⊤). sheets) comment_spells))) (title_or size sheets)
    (λ text x rest r any. comment_starts text rest r.0 r.1)
    (λ text x rest r any.
    let e = element_of size sheets text rest x r in
    opening_starts e.second 33 text rest e.no_bang e.opening))
    (λ text x rest r any. ap (λ (s : List ℕ). next_is is_white (s ++ rest)) r.1.1.0 ∙ r.1.1.1)
    (λ text x rest r any. turned_no_white size sheets text rest x r)

-- a piece, and the sheets with it
record IsPiece (size : ℕ) (sheets : List TextAt) (text behind : List ℕ) (later : List TextAt) : Type 0 where
  piece : List TextAt
  is : IsHeadPiece size text behind piece
  then_ : later ≡ sheets ++ piece

to_piece : (size : ℕ) (sheets : List TextAt) (text behind : List ℕ) (later : List TextAt) → Turned size sheets text behind later → IsPiece size sheets text behind later
to_piece size sheets text behind later (inl r) = record { piece = []; is = inl (r.0, r.1, refl); then_ = r.2 ∙ sym (append-nil sheets) }
to_piece size sheets text behind later (inr (inl r)) = record { piece = []; is = inr (inl (r.0, r.1, refl)); then_ = r.2 ∙ sym (append-nil sheets) }
to_piece size sheets text behind later (inr (inr (inl r))) = record { piece = []; is = inr (inr (inl (r.0, r.1, refl))); then_ = r.2 ∙ sym (append-nil sheets) }
to_piece size sheets text behind later (inr (inr (inr (inl r)))) = record { piece = []; is = inr (inr (inr (inl (r.0, r.1, refl)))); then_ = r.2 ∙ sym (append-nil sheets) }
to_piece size sheets text behind later (inr (inr (inr (inr (inl r))))) = record { piece = r.0 ∷ []; is = inr (inr (inr (inr (r.0, r.1, refl)))); then_ = r.2 }
to_piece size sheets text behind later (inr (inr (inr (inr (inr r))))) = absurd r

no_sheet : (sheets piece : List TextAt) → piece ≡ [] → sheets ++ piece ≡ sheets
no_sheet sheets piece e = ap (λ (p : List TextAt). sheets ++ p) e ∙ append-nil sheets

from_piece : (size : ℕ) (sheets piece : List TextAt) (text behind : List ℕ) → IsHeadPiece size text behind piece → Turned size sheets text behind (sheets ++ piece)
from_piece size sheets piece text behind (inl r) = inl (r.0, r.1, no_sheet sheets piece r.2)
from_piece size sheets piece text behind (inr (inl r)) = inr (inl (r.0, r.1, no_sheet sheets piece r.2))
from_piece size sheets piece text behind (inr (inr (inl r))) = inr (inr (inl (r.0, r.1, no_sheet sheets piece r.2)))
from_piece size sheets piece text behind (inr (inr (inr (inl r)))) = inr (inr (inr (inl (r.0, r.1, no_sheet sheets piece r.2))))
from_piece size sheets piece text behind (inr (inr (inr (inr r)))) = inr (inr (inr (inr (inl (r.0, r.1, ap (λ (p : List TextAt). sheets ++ p) r.2)))))

-- ---- all parts

white_not_mark : (byte : ℕ) → is_white byte ≡ true → eqb byte 60 ≡ false
white_not_mark byte is = grind arith

not_mark : (byte : ℕ) (more : List ℕ) → eqb byte 60 ≡ false → starts (codes "</") (byte ∷ more) ≡ false
unfolding starts strip
not_mark byte more e = rw e refl

turned_no_end : (size : ℕ) (sheets : List TextAt) (text rest : List ℕ) (x : List TextAt) → Turned size sheets text rest x → (starts (codes "</") (text ++ rest) ≡ false) × (0 < length text)
turned_no_end size sheets text rest x (inl r) = (
  ap (λ (s : List ℕ). starts (codes "</") (s ++ rest)) r.1.1.0 ∙ not_mark r.1.0 rest (white_not_mark r.1.0 r.1.1.1),
  rw r.1.1.0 (omega arith),
)
turned_no_end size sheets text rest x (inr (inl r)) =
    let o = comment_opening text r.0 r.1 in
    (opening_starts 33 47 text rest refl o, opening_some 33 text o)
turned_no_end size sheets text rest x (inr (inr r)) =
    let e = element_of size sheets text rest x r in
    (opening_starts e.second 47 text rest e.no_slash e.opening, opening_some e.second text e.opening)

abbrev goes : List TextAt → List ℕ → Bool
goes sheets bytes = not (starts (codes "</") bytes)

abbrev LeadsTo : ℕ → List TextAt → List ℕ → List TextAt → List ℕ → Type 0
LeadsTo size = Leads goes (head_turn size)

pieces_read : (pieces : List (List TextAt)) (size : ℕ) (text behind : List ℕ) (sheets : List TextAt) → AreHeadPieces size text behind pieces → LeadsTo size sheets (text ++ behind) (sheets ++ all_of pieces) behind
pieces_read [] size text behind sheets r =
    subst (λ (l : List TextAt). LeadsTo size sheets (text ++ behind) l behind) (sym (append-nil sheets))
    (subst (λ (t : List ℕ). LeadsTo size sheets (t ++ behind) sheets behind) (sym r) (leads_nowhere goes (head_turn size) sheets behind))
pieces_read (piece ∷ pieces) size text behind sheets (here, back, is, others, whole) =
    let turned = from_piece size sheets piece here (back ++ behind) is in
    let facts = turned_no_end size sheets here (back ++ behind) (sheets ++ piece) turned in
    let one = one_turn goes (head_turn size) sheets (sheets ++ piece) (here ++ (back ++ behind)) (back ++ behind)
    (ap not facts.0) ((turn_spells size sheets).again here (sheets ++ piece) (back ++ behind) turned tt)
    (omega (arith, length-append here (back ++ behind), facts.1)) in
    let later = pieces_read pieces size back behind (sheets ++ piece) others in
    let all : text ++ behind ≡ here ++ (back ++ behind) = ap (λ (s : List ℕ). s ++ behind) whole ∙ append_assoc here back behind in
    subst (λ (s : List ℕ). LeadsTo size sheets s (sheets ++ all_of (piece ∷ pieces)) behind) (sym all)
    (subst (λ (l : List TextAt). LeadsTo size sheets (here ++ (back ++ behind)) l behind) (append_assoc sheets piece (all_of pieces)) (leads_on one later))

-- what is left is pieces behind the sheets so far
record AreLeft (size : ℕ) (all : List TextAt) (rest : List ℕ) (sheets : List TextAt) (bytes : List ℕ) : Type 0 where
  pieces : List (List TextAt)
  text : List ℕ
  are : AreHeadPieces size text rest pieces
  same : all ≡ sheets ++ all_of pieces
  parts : bytes ≡ text ++ rest

piece_back : (size : ℕ) (all : List TextAt) (rest : List ℕ) (sheets later : List TextAt) (x y : List ℕ) → head_turn size sheets x ≡ good (later, y) → AreLeft size all rest later y → AreLeft size all rest sheets x
piece_back size all rest sheets later x y e l =
    let t = (turn_spells size sheets).takes x later y e in
    let p = to_piece size sheets t.0 y later t.1 in
    record {
      pieces = p.piece ∷ l.pieces;
      text = t.0 ++ l.text;
      are = (t.0, l.text, subst (λ (b : List ℕ). IsHeadPiece size t.0 b p.piece) l.parts p.is, l.are, refl);
      same = l.same ∙ ap (λ (s : List TextAt). s ++ all_of l.pieces) p.then_ ∙ append_assoc sheets p.piece (all_of l.pieces);
      parts = t.2 ∙ ap (λ (b : List ℕ). t.0 ++ b) l.parts ∙ sym (append_assoc t.0 l.text rest);
    }

turn_shortens : (size : ℕ) (sheets later : List TextAt) (x y : List ℕ) → head_turn size sheets x ≡ good (later, y) → length y < length x
turn_shortens size sheets later x y e =
    let t = (turn_spells size sheets).takes x later y e in
    let facts = turned_no_end size sheets t.0 y later t.1 in
    let whole : length x ≡ length (t.0 ++ y) = ap (λ (s : List ℕ). length s) t.2 in
    omega (arith, whole, length-append t.0 y, facts.1)

-- an end tag comes
abbrev pub AtEnd : List ℕ → Type 0
AtEnd rest = starts (codes "</") rest ≡ true

pub items_spells : (size : ℕ) → SpellsPlaced (head_items size) (PlacedMapped all_of (AreHeadPieces size)) AtEnd
unfolding head_items repeat
items_spells size = record {
  takes = λ bytes all rest e.
      let l = turns_back goes (head_turn size) (AreLeft size all rest) all rest
      (λ g. record { pieces = []; text = []; are = refl; same = sym (append-nil all); parts = refl })
      (λ s later x y g turned left. piece_back size all rest s later x y turned left)
      (λ s later x y g turned. turn_shortens size s later x y turned)
      (suc (length bytes)) [] bytes (omega arith) e in
      (l.text, (l.pieces, l.are, l.same), l.parts);
  again = λ text all rest r ends.
      rw r.2 (leads_to_end goes (head_turn size) [] (all_of r.0) (text ++ rest) rest (pieces_read r.0 size text rest [] r.1) (ap not ends));
}

-- ---- the head

end_begins : (text rest word : List ℕ) (u : ⊤) → IsEndOf word text u → (more : List ℕ) × (text ++ rest ≡ 60 ∷ 47 ∷ more)
end_begins text rest word u r = (r.2 ++ rest, rw (r.5, r.3) refl)

pub slash_here : (more : List ℕ) → starts (codes "</") (60 ∷ 47 ∷ more) ≡ true
unfolding starts strip
slash_here more = refl

end_at : (text rest word : List ℕ) (u : ⊤) → IsEndOf word text u → starts (codes "</") (text ++ rest) ≡ true
end_at text rest word u r =
    let b = end_begins text rest word u r in
    ap (starts (codes "</")) b.1 ∙ slash_here b.0

slash_no_misc : (more : List ℕ) → NoMisc (codes "<!") (60 ∷ 47 ∷ more)
unfolding starts strip
slash_no_misc more = refl

pub end_no_misc : (text rest word : List ℕ) (u : ⊤) → IsEndOf word text u → NoMisc (codes "<!") (text ++ rest)
end_no_misc text rest word u r =
    let b = end_begins text rest word u r in
    ap (in_misc (codes "<!")) b.1 ∙ slash_no_misc b.0

pub head_spells : (size : ℕ) → SpellsPlaced (head size) (IsHead size) Anything
unfolding head
head_spells size =
    placed_follow (start_of_spells size (codes "<head") false)
    (λ acting. placed_follow (items_spells size)
    (λ sheets. anywhere_spells (mapped_spells (λ (u : ⊤). sheets) (telling_spells syntax (end_of_spells (codes "head")))))
    (λ x y back rest r any. end_at back rest (codes "head") r.0 r.1))
    (λ x y back rest r any. tt)

pub misc_here : Spells (misc (codes "<!")) IsMisc (NoMisc (codes "<!"))
unfolding starts strip
misc_here = misc_spells (codes "<!") (λ more. refl)

-- what may stand behind the head
pub record EndsHead (rest : List ℕ) : Type 0 where
  pub no_misc : NoMisc (codes "<!") rest
  pub no_head : ahead (codes "<h") rest ≡ false

pub head_opening : (size : ℕ) (text behind : List ℕ) (sheets : List TextAt) → IsHead size text behind sheets → IsOpening 104 text
head_opening size text behind sheets r = opening_front 104 text r.1 r.2 (opening_start size (codes "ead") 104 false r.1 (r.2 ++ behind) r.0 r.3) r.5

pub maybe_head_spells : (size : ℕ) → SpellsPlaced (maybe_head size) (IsMaybeHead size) EndsHead
unfolding maybe_head
maybe_head_spells size =
    placed_choice (ahead (codes "<h"))
    (placed_follow (head_spells size) (λ sheets. anywhere_spells (spells_before (mapped_spells (λ (u : ⊤). sheets) (telling_spells syntax misc_here)) (λ rest ends. ends.no_misc))) (λ x y back rest r any. tt))
    (placed_before (anywhere_spells (give_spells [])) (λ rest ends. tt))
    (λ text x rest r ends. opening_ahead 104 text rest refl (opening_front 104 text r.1 r.2 (head_opening size r.1 (r.2 ++ rest) r.0 r.3) r.5))
    (λ text x rest r ends. ap (λ (s : List ℕ). ahead (codes "<h") (s ++ rest)) r.0 ∙ ends.no_head)
