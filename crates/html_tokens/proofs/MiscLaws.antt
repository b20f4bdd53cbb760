-- White space, names, comments and the doctype: what is read stands in the grammar, and what stands in the grammar is read.
use Rattle.std.proofs.Common.{◌≡◌, inl, inr, ℕ, ◌<◌, ◌≤◌, Bool, true, false, cond, List, [], ◌∷◌, ◌++◌, length, codes, Ok, Err, is_ok, map, refl, sym, ap, ◌∙◌, append_assoc, arith}
use Rattle.std.specs.Prelude.{⊤}
use Rattle.std.specs.Char.{to_ascii_lowercase}
use Rattle.reading.specs.Readers.{Read, Reader, ◌>>=◌, follow, strip, strip_either_case, starts, next_is, with_byte, run_of, skip}
use Rattle.reading.specs.Grammars.{AllPass}
use Rattle.reading.specs.Spelling.{Anything, Spells, IsTestOf, SeesWithin}
use Rattle.reading.specs.Closings.{closing, Closing}
use Rattle.reading.proofs.SpellLaws.{ok, strip_spells, one_of_spells, follow_spells, mapped_spells, after_spells, choice_spells}
use Rattle.reading.proofs.RunLaws.{run_of_spells, either_case_spells}
use Rattle.reading.proofs.ManyLaws.{joined_spells}
use Rattle.reading.proofs.UpToLaws.{strip_sees, closing_sees, up_to_spells}
use Rattle.reading.proofs.PlacedLaws.{skip_spells}
use Rattle.html_tokens.specs.declared.raw_text.RawEnd.{RawEnd}
use Rattle.html_tokens.specs.declared.raw_text.RawEnd.TheVariants as ends
use Rattle.reading.specs.White.{is_white, spaces, white}
use Rattle.reading.specs.Names.{lowered}
use Rattle.html_tokens.specs.Characters.{is_letter, is_name_byte}
use Rattle.html_tokens.specs.Lexing.{name, end_of, raw_end, raw, comment, in_misc, misc_piece, misc, doctype, end_name}
use Rattle.html_tokens.specs.Grammar.{IsSpaces, IsWhite, IsName, IsEndOf, IsRawEnd, IsRaw, IsComment, IsMiscPiece, IsMisc, IsDoctype, IsEndName}

-- ---- texts in either case, by their first bytes

-- the first byte of a text in either case
pub cased_first : (text word : List ℕ) (wanted : ℕ) → map to_ascii_lowercase text ≡ wanted ∷ word → (byte : ℕ) × (more : List ℕ) × (text ≡ byte ∷ more) × (to_ascii_lowercase byte ≡ wanted) × (map to_ascii_lowercase more ≡ word)
cased_first [] word wanted e = absurd cc
cased_first (byte ∷ more) word wanted e = (byte, more, refl, cc, cc)

pub lower_mark : (byte : ℕ) → to_ascii_lowercase byte ≡ 60 → byte ≡ 60
lower_mark byte e = grind arith

lower_not_white : (byte : ℕ) → to_ascii_lowercase byte ≡ 104 → is_white byte ≡ false
lower_not_white byte e = grind arith

-- a text that begins with `<`, in either case, by its first two bytes
pub record IsOpening (second : ℕ) (text : List ℕ) : Type 0 where
  pub byte : ℕ
  pub more : List ℕ
  pub lower : to_ascii_lowercase byte ≡ second
  pub is : text ≡ 60 ∷ byte ∷ more

pub opening_of : (text word : List ℕ) (second : ℕ) → map to_ascii_lowercase text ≡ 60 ∷ second ∷ word → IsOpening second text
opening_of text word second e =
    let one = cased_first text (second ∷ word) 60 e in
    let two = cased_first one.1 word second one.4 in
    let mark : one.0 ≡ 60 = lower_mark one.0 one.3 in
    record { byte = two.0; more = two.1; lower = two.3; is = one.2 ∙ ap (λ (b : ℕ). b ∷ one.1) mark ∙ ap (λ (m : List ℕ). 60 ∷ m) two.2 }

-- ---- white space and names

abbrev pub NoWhite : List ℕ → Type 0
NoWhite rest = next_is is_white rest ≡ false

abbrev pub NoNameByte : List ℕ → Type 0
NoNameByte rest = next_is is_name_byte rest ≡ false

pub spaces_spells : Spells spaces IsSpaces NoWhite
unfolding spaces
spaces_spells = skip_spells is_white

pub white_spells : Spells white IsWhite Anything
unfolding white
white_spells = mapped_spells (λ (byte : ℕ). tt) (one_of_spells is_white)

pub name_spells : Spells name IsName NoNameByte
unfolding name
name_spells = follow_spells (one_of_spells is_letter) (λ first. mapped_spells (λ more. lowered (first ∷ more)) (run_of_spells is_name_byte)) (λ x y back rest s ends. tt)

white_low : (byte : ℕ) → is_white byte ≡ true → byte ≤ 32
white_low byte e = grind arith

low_no_name : (byte : ℕ) → byte ≤ 32 → is_name_byte byte ≡ false
low_no_name byte e = grind arith

pub white_no_name : (byte : ℕ) → is_white byte ≡ true → is_name_byte byte ≡ false
white_no_name byte e = low_no_name byte (white_low byte e)

-- white space comes behind a name, or what isn't part of one
pub blank_ends_name : (blank rest : List ℕ) → AllPass is_white blank → NoNameByte rest → NoNameByte (blank ++ rest)
blank_ends_name [] rest pass ends = ends
blank_ends_name (byte ∷ blank) rest pass ends = white_no_name byte pass.0

-- ---- end tags

pub end_of_spells : (word : List ℕ) → Spells (end_of word) (IsEndOf word) Anything
unfolding end_of
end_of_spells word =
    follow_spells (strip_spells (codes "</"))
    (λ u. follow_spells (either_case_spells word)
    (λ v. follow_spells spaces_spells (λ w. strip_spells (codes ">")) (λ x y back rest is any. rw is refl))
    (λ x y back rest is any. tt))
    (λ x y back rest is any. tt)

pub end_name_spells : Spells end_name IsEndName Anything
unfolding end_name
end_name_spells =
    follow_spells (strip_spells (codes "</"))
    (λ u. follow_spells name_spells
    (λ n. follow_spells spaces_spells (λ w. mapped_spells (λ (u : ⊤). n) (strip_spells (codes ">"))) (λ x y back rest is any. rw is.1 refl))
    (λ n y back rest is any. rw is.5 (rw (append_assoc is.1 is.2 rest, is.4.1) (blank_ends_name is.1 (codes ">" ++ rest) is.3 refl))))
    (λ x y back rest is any. tt)

-- ---- characters that may be any

behind_byte : {A : Type 0} (g : Reader A) (byte : ℕ) (r : Read (List ℕ)) → (with_byte byte r >>= λ (x : List ℕ × List ℕ). g x.1) ≡ (r >>= λ (x : List ℕ × List ℕ). g x.1)
behind_byte g byte (Ok x) = refl
behind_byte g byte (Err left) = refl

skip_as_run_by : {A : Type 0} (test : ℕ → Bool) (g : Reader A) (byte : ℕ) (bytes : List ℕ) (t : Bool)
    → (skip test bytes >>= λ (x : ⊤ × List ℕ). g x.1) ≡ (run_of test bytes >>= λ (x : List ℕ × List ℕ). g x.1)
    → (cond t (skip test bytes) (ok (tt, byte ∷ bytes)) >>= λ (x : ⊤ × List ℕ). g x.1) ≡ (cond t (with_byte byte (run_of test bytes)) (ok ([], byte ∷ bytes)) >>= λ (x : List ℕ × List ℕ). g x.1)
skip_as_run_by test g byte bytes true later = later ∙ sym (behind_byte g byte (run_of test bytes))
skip_as_run_by test g byte bytes false later = refl

-- over white space by its run
skip_as_run : {A : Type 0} (test : ℕ → Bool) (g : Reader A) (bytes : List ℕ) → (skip test bytes >>= λ (x : ⊤ × List ℕ). g x.1) ≡ (run_of test bytes >>= λ (x : List ℕ × List ℕ). g x.1)
unfolding skip run_of
skip_as_run test g [] = refl
skip_as_run test g (byte ∷ bytes) = skip_as_run_by test g byte bytes (test byte) (skip_as_run test g bytes)

behind_word : (r : Read ⊤) (f g : Reader ⊤) → ((bytes : List ℕ) → f bytes ≡ g bytes) → (r >>= λ (x : ⊤ × List ℕ). f x.1) ≡ (r >>= λ (x : ⊤ × List ℕ). g x.1)
behind_word (Ok x) f g same = same x.1
behind_word (Err left) f g same = refl

-- the end tag of a name is a closing
end_as_closing : (word bytes : List ℕ) → end_of word bytes ≡ closing (codes "</") word is_white (codes ">") bytes
unfolding end_of spaces
end_as_closing word bytes =
    behind_word (strip (codes "</") bytes) (follow (strip_either_case word) (λ u. follow (skip is_white) (λ u. strip (codes ">")))) (follow (strip_either_case word) (λ u. follow (run_of is_white) (λ u. strip (codes ">"))))
    (λ rest. behind_word (strip_either_case word rest) (follow (skip is_white) (λ u. strip (codes ">"))) (follow (run_of is_white) (λ u. strip (codes ">")))
    (λ last. skip_as_run is_white (strip (codes ">")) last))

to_closing : (word text : List ℕ) (u : ⊤) → IsEndOf word text u → Closing (codes "</") word is_white (codes ">") text u
to_closing word text u r =
    let inner = r.4 in
    let blank = inner.4 in
    (r.0, r.1, r.2, r.3, (inner.0, inner.1, inner.2, inner.3, (blank.1, blank.1, blank.2, (refl, blank.3), blank.4, blank.5), inner.5), r.5)

end_of_sees : (word : List ℕ) → SeesWithin (end_of word) (IsEndOf word)
end_of_sees word = record {
  sees = λ byte before end_ rest x r read.
      let c = closing_sees (codes "</") word is_white 62 [] refl in
      ap (λ (s : Read ⊤). is_ok s) (end_as_closing word ((byte ∷ before) ++ (end_ ++ rest)))
      ∙ c.sees byte before end_ rest x (to_closing word end_ x r) (sym (end_as_closing word (end_ ++ rest)) ∙ read)
      ∙ sym (ap (λ (s : Read ⊤). is_ok s) (end_as_closing word ((byte ∷ before) ++ end_)));
}

pub raw_end_spells : (end_ : RawEnd) → Spells (raw_end end_) (IsRawEnd end_) Anything
raw_end_spells ends.Comment = strip_spells (codes "-->")
raw_end_spells ends.Title = end_of_spells (codes "title")
raw_end_spells ends.Style = end_of_spells (codes "style")

pub raw_end_sees : (end_ : RawEnd) → SeesWithin (raw_end end_) (IsRawEnd end_)
raw_end_sees ends.Comment = strip_sees (codes "-->")
raw_end_sees ends.Title = end_of_sees (codes "title")
raw_end_sees ends.Style = end_of_sees (codes "style")

pub raw_spells : (end_ : RawEnd) → Spells (raw end_) (IsRaw end_) Anything
unfolding raw
raw_spells end_ = up_to_spells (raw_end_spells end_) (raw_end_sees end_)

-- ---- comments, and white space with them

pub comment_spells : Spells comment IsComment Anything
unfolding comment
comment_spells = after_spells (codes "<!--") (mapped_spells (λ (inside : List ℕ). tt) (raw_spells ends.Comment))

pub misc_piece_spells : Spells misc_piece IsMiscPiece Anything
unfolding misc_piece
misc_piece_spells =
    choice_spells (next_is is_white) (mapped_spells (λ (u : ⊤). []) white_spells) (mapped_spells (λ (u : ⊤). []) comment_spells)
    (λ text x rest r ends. ap (λ (t : List ℕ). next_is is_white (t ++ rest)) r.1.1.0 ∙ r.1.1.1)
    (λ text x rest r ends. ap (λ (t : List ℕ). next_is is_white (t ++ rest)) r.1.2)

-- comments begin so
abbrev pub BeginsComments : List ℕ → Type 0
BeginsComments mark = (more : List ℕ) → starts mark (codes "<!--" ++ more) ≡ true

abbrev pub NoMisc : (mark : List ℕ) → List ℕ → Type 0
NoMisc mark rest = in_misc mark rest ≡ false

white_begins : (mark text rest : List ℕ) (u : ⊤) → IsWhite text u → in_misc mark (text ++ rest) ≡ true
white_begins mark text rest u r = rw (r.1.0, r.1.1) refl

comment_begins : (mark text rest : List ℕ) (u : ⊤) → BeginsComments mark → IsComment text u → in_misc mark (text ++ rest) ≡ true
comment_begins mark text rest u begins r =
    let whole : text ++ rest ≡ codes "<!--" ++ (r.0 ++ rest) = rw r.2 refl in
    rw whole (begins (r.0 ++ rest))

misc_some : (text x : List ℕ) → IsMiscPiece text x → 0 < length text
misc_some text x (inl r) = rw r.1.1.0 (omega arith)
misc_some text x (inr r) = rw r.1.2 (omega arith)

pub misc_begins : (mark text x rest : List ℕ) → BeginsComments mark → IsMiscPiece text x → in_misc mark (text ++ rest) ≡ true
misc_begins mark text x rest begins (inl r) = white_begins mark text rest tt r.1
misc_begins mark text x rest begins (inr r) = comment_begins mark text rest tt begins r.1

pub misc_test : (mark : List ℕ) → BeginsComments mark → IsTestOf (in_misc mark) IsMiscPiece Anything (NoMisc mark)
misc_test mark begins = record {
  some = λ text x r. misc_some text x r;
  begins = λ text x rest r any. misc_begins mark text x rest begins r;
  next = λ rest is. tt;
  last = λ rest more. tt;
  ends = λ rest more. more;
}

pub misc_spells : (mark : List ℕ) → BeginsComments mark → Spells (misc mark) IsMisc (NoMisc mark)
unfolding misc
misc_spells mark begins = mapped_spells (λ (text : List ℕ). tt) (joined_spells misc_piece_spells (misc_test mark begins))

-- ---- the doctype

opens_html : (text rest : List ℕ) → map to_ascii_lowercase text ≡ codes "html" → NoWhite (text ++ rest)
opens_html text rest e =
    let one = cased_first text (codes "tml") 104 e in
    rw one.2 (lower_not_white one.0 one.3)

pub doctype_spells : Spells doctype IsDoctype Anything
unfolding doctype
doctype_spells =
    follow_spells (either_case_spells (codes "<!doctype"))
    (λ u. follow_spells white_spells
    (λ u. follow_spells spaces_spells
    (λ u. follow_spells (either_case_spells (codes "html"))
    (λ u. follow_spells spaces_spells (λ u. strip_spells (codes ">")) (λ x y back rest is any. rw is refl))
    (λ x y back rest is any. tt))
    (λ x y back rest is any. rw (is.5, append_assoc is.1 is.2 rest) (opens_html is.1 (is.2 ++ rest) is.3)))
    (λ x y back rest is any. tt))
    (λ x y back rest is any. tt)
