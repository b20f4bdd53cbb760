-- The attributes of a tag: what is read is spelled so, and what is spelled so is read.
use Rattle.std.proofs.Common.{◌≡◌, ◌⊎◌, inl, inr, ℕ, suc, ◌<◌, Bool, true, false, cond, eqb, ◌||◌, List, [], ◌∷◌, ◌++◌, length, Ok, is_ok, refl, sym, ap, subst, ◌∙◌, append_assoc, length-append, arith}
use Rattle.std.specs.Prelude.{⊤}
use Rattle.std.proofs.lemmas.Bool.{eqb-true}
use Rattle.std.proofs.lemmas.List.{append-nil}
use Rattle.reading.specs.Readers.{Reader, ◌>>=◌, give, follow, mapped, one_of, next_is, can_read, turns, repeat}
use Rattle.reading.specs.Grammars.{Grammar, AllPass, Seq, Mapped}
use Rattle.reading.specs.Spelling.{Spells}
use Rattle.reading.specs.Placed.{SpellsPlaced}
use Rattle.reading.proofs.SpellLaws.{ok, stop, bind_ok, same_answer, follow_spells, mapped_spells, spells_before}
use Rattle.reading.proofs.Turns.{Leads, leads_nowhere, leads_on, one_turn, leads_to_end, turns_back}
use Rattle.reading.proofs.PlacedLaws.{skip_again}
use Rattle.reading.specs.White.{is_white, spaces, white}
use Rattle.html_tokens.specs.Characters.{is_letter, is_name_byte}
use Rattle.html_tokens.specs.Written.{Attribute}
use Rattle.html_tokens.specs.Lexing.{name, value, attribute, name_ahead, next_attribute, attributes}
use Rattle.html_tokens.specs.Grammar.{IsName, IsValue, IsAttribute, AreAttributes}
use Rattle.html_tokens.proofs.MiscLaws.{NoWhite, NoNameByte, spaces_spells, name_spells, blank_ends_name, white_no_name}
use Rattle.html_tokens.proofs.ValueLaws.{NoEquals, value_spells, value_ends_name, no_equals}

-- ---- one attribute

-- where an attribute may end
abbrev pub EndsAttribute : List ℕ → Type 0
EndsAttribute rest = NoNameByte rest × NoEquals rest

abbrev pub attribute_of : (left n v : List ℕ) → Attribute
attribute_of left n v = record { name = n; value = v; left = left }

abbrev pub attribute_from : (left : List ℕ) → Reader Attribute
attribute_from left = follow name (λ n. mapped (λ v. attribute_of left n v) value)

abbrev pub IsAttributeFrom : (left : List ℕ) → Grammar Attribute
IsAttributeFrom left = Seq IsName (λ n. Mapped (λ v. attribute_of left n v) IsValue)

pub from_spells : (left : List ℕ) → Spells (attribute_from left) (IsAttributeFrom left) EndsAttribute
from_spells left =
    follow_spells name_spells (λ n. spells_before (mapped_spells (λ v. attribute_of left n v) value_spells) (λ rest ends. ends.1)) (λ x y back rest r ends. value_ends_name back r.0 rest r.1 ends.0)

pub attribute_spells : SpellsPlaced attribute IsAttribute EndsAttribute
unfolding attribute
attribute_spells = record {
  takes = λ bytes a rest e.
      let t = (from_spells bytes).takes bytes a rest e in
      (t.0, subst (λ (left : List ℕ). IsAttributeFrom left t.0 a) t.2 t.1, t.2);
  again = λ text a rest r ends. (from_spells (text ++ rest)).again text a rest r ends;
}

-- ---- where an attribute begins

-- a letter comes first
pub record IsNamed (text : List ℕ) : Type 0 where
  pub byte : ℕ
  pub more : List ℕ
  pub letter : is_letter byte ≡ true
  pub is : text ≡ byte ∷ more

pub name_named : (text n : List ℕ) → IsName text n → IsNamed text
name_named text n r = record { byte = r.0; more = r.2; letter = r.3.1; is = rw (r.5, r.3.0) refl }

pub attribute_named : (text left : List ℕ) (a : Attribute) → IsAttributeFrom left text a → IsNamed text
attribute_named text left a r =
    let n = name_named r.1 r.0 r.3 in
    record { byte = n.byte; more = n.more ++ r.2; letter = n.letter; is = r.5 ∙ ap (λ (t : List ℕ). t ++ r.2) n.is }

pub letter_not_white : (byte : ℕ) → is_letter byte ≡ true → is_white byte ≡ false
letter_not_white byte is = grind arith

pub letter_not_equals : (byte : ℕ) → is_letter byte ≡ true → eqb byte 61 ≡ false
letter_not_equals byte is = grind arith

pub named_no_white : (text rest : List ℕ) → IsNamed text → NoWhite (text ++ rest)
named_no_white text rest n = rw n.is (letter_not_white n.byte n.letter)

-- ---- what stands behind the attributes: the end of the tag

pub record IsTagNext (rest : List ℕ) : Type 0 where
  pub byte : ℕ
  pub more : List ℕ
  pub is : rest ≡ byte ∷ more
  pub which : (byte ≡ 62) ⊎ (byte ≡ 47)

-- white space, and a byte that is none
record IsBlank (rest : List ℕ) : Type 0 where
  blank : List ℕ
  byte : ℕ
  more : List ℕ
  pass : AllPass is_white blank
  stops : is_white byte ≡ false
  other : eqb byte 61 ≡ false
  ends_name : NoNameByte rest
  parts : rest ≡ blank ++ byte ∷ more

tag_white : (byte : ℕ) → (byte ≡ 62) ⊎ (byte ≡ 47) → is_white byte ≡ false
tag_white byte (inl e) = rw e refl
tag_white byte (inr e) = rw e refl

tag_other : (byte : ℕ) → (byte ≡ 62) ⊎ (byte ≡ 47) → eqb byte 61 ≡ false
tag_other byte (inl e) = rw e refl
tag_other byte (inr e) = rw e refl

tag_ends_name : (byte : ℕ) → (byte ≡ 62) ⊎ (byte ≡ 47) → is_name_byte byte ≡ false
tag_ends_name byte (inl e) = rw e refl
tag_ends_name byte (inr e) = rw e refl

tag_letter : (byte : ℕ) → (byte ≡ 62) ⊎ (byte ≡ 47) → is_letter byte ≡ false
tag_letter byte (inl e) = rw e refl
tag_letter byte (inr e) = rw e refl

tag_no_white : (rest : List ℕ) → IsTagNext rest → NoWhite rest
tag_no_white rest t = rw t.is (tag_white t.byte t.which)

tag_no_name : (rest : List ℕ) → IsTagNext rest → NoNameByte rest
tag_no_name rest t = rw t.is (tag_ends_name t.byte t.which)

pub some_blank : (blank rest : List ℕ) → 0 < length blank → AllPass is_white blank → NoNameByte (blank ++ rest)
some_blank [] rest some pass = absurd (omega (arith, some))
some_blank (byte ∷ blank) rest some pass = white_no_name byte pass.0

blank_before : (list : List Attribute) (text behind : List ℕ) → AreAttributes text behind list → IsTagNext behind → IsBlank (text ++ behind)
blank_before [] text behind r t = record {
  blank = text;
  byte = t.byte;
  more = t.more;
  pass = r;
  stops = tag_white t.byte t.which;
  other = tag_other t.byte t.which;
  ends_name = blank_ends_name text behind r (tag_no_name behind t);
  parts = ap (λ (b : List ℕ). text ++ b) t.is;
}
blank_before (a ∷ others) text behind r t =
    let blank = r.0 in
    let here = r.1 in
    let n = attribute_named here (here ++ (r.2 ++ behind)) a r.5 in
    let whole : text ++ behind ≡ blank ++ (here ++ (r.2 ++ behind)) =
    ap (λ (s : List ℕ). s ++ behind) r.7 ∙ append_assoc blank (here ++ r.2) behind ∙ ap (λ (s : List ℕ). blank ++ s) (append_assoc here r.2 behind) in
    record {
      blank = blank;
      byte = n.byte;
      more = n.more ++ (r.2 ++ behind);
      pass = r.4;
      stops = letter_not_white n.byte n.letter;
      other = letter_not_equals n.byte n.letter;
      ends_name = subst (λ (s : List ℕ). NoNameByte s) (sym whole) (some_blank blank (here ++ (r.2 ++ behind)) r.3 r.4);
      parts = whole ∙ ap (λ (s : List ℕ). blank ++ (s ++ (r.2 ++ behind))) n.is;
    }

blank_ends_attribute : (rest : List ℕ) → IsBlank rest → EndsAttribute rest
blank_ends_attribute rest b = (b.ends_name, subst (λ (s : List ℕ). NoEquals s) (sym b.parts) (no_equals b.blank b.more b.byte b.pass b.stops b.other))

-- a name may end before the attributes
pub attributes_end_name : (list : List Attribute) (text behind : List ℕ) → AreAttributes text behind list → IsTagNext behind → NoNameByte (text ++ behind)
attributes_end_name list text behind r t = (blank_before list text behind r t).ends_name

-- ---- what is spelled so is read

abbrev pub goes : List Attribute → List ℕ → Bool
goes so_far bytes = can_read name_ahead bytes

abbrev LeadsTo : List Attribute → List ℕ → List Attribute → List ℕ → Type 0
LeadsTo = Leads goes next_attribute

ahead_by : (byte : ℕ) (blank more : List ℕ) (letter : ℕ) → is_white byte ≡ true → AllPass is_white blank → is_letter letter ≡ true → can_read name_ahead (byte ∷ (blank ++ letter ∷ more)) ≡ true
unfolding name_ahead white spaces one_of
ahead_by byte blank more letter is pass l = rw (is, skip_again is_white blank (letter ∷ more) pass (letter_not_white letter l), l) refl

pub ahead : (blank more : List ℕ) (letter : ℕ) → 0 < length blank → AllPass is_white blank → is_letter letter ≡ true → can_read name_ahead (blank ++ letter ∷ more) ≡ true
ahead [] more letter some pass l = absurd (omega (arith, some))
ahead (byte ∷ blank) more letter some pass l = ahead_by byte blank more letter pass.0 pass.1 l

none_by : (byte : ℕ) (blank more : List ℕ) (other : ℕ) → is_white byte ≡ true → AllPass is_white blank → is_white other ≡ false → is_letter other ≡ false → can_read name_ahead (byte ∷ (blank ++ other ∷ more)) ≡ false
unfolding name_ahead white spaces one_of
none_by byte blank more other is pass w l = rw (is, skip_again is_white blank (other ∷ more) pass w, l) refl

none_here : (more : List ℕ) (other : ℕ) → is_white other ≡ false → can_read name_ahead (other ∷ more) ≡ false
unfolding name_ahead white spaces one_of
none_here more other w = rw w refl

none_ahead : (blank more : List ℕ) (other : ℕ) → AllPass is_white blank → is_white other ≡ false → is_letter other ≡ false → can_read name_ahead (blank ++ other ∷ more) ≡ false
none_ahead [] more other pass w l = none_here more other w
none_ahead (byte ∷ blank) more other pass w l = none_by byte blank more other pass.0 pass.1 w l

pub next_again : (so_far : List Attribute) (blank here rest : List ℕ) (a : Attribute) → AllPass is_white blank → IsAttribute here rest a → EndsAttribute rest
    → next_attribute so_far (blank ++ (here ++ rest)) ≡ Ok (so_far ++ a ∷ [], rest)
unfolding next_attribute spaces
next_again so_far blank here rest a pass r ends =
    rw (skip_again is_white blank (here ++ rest) pass (named_no_white here rest (attribute_named here (here ++ rest) a r)), attribute_spells.again here a rest r ends) refl

-- the attributes lead to the white space behind them
record AreLed (so_far list : List Attribute) (bytes behind : List ℕ) : Type 0 where
  blank : List ℕ
  pass : AllPass is_white blank
  leads : LeadsTo so_far bytes (so_far ++ list) (blank ++ behind)

are_led : (list so_far : List Attribute) (text behind : List ℕ) → AreAttributes text behind list → IsTagNext behind → AreLed so_far list (text ++ behind) behind
are_led [] so_far text behind r t = record {
  blank = text;
  pass = r;
  leads = subst (λ (l : List Attribute). LeadsTo so_far (text ++ behind) l (text ++ behind)) (sym (append-nil so_far)) (leads_nowhere goes next_attribute so_far (text ++ behind));
}
are_led (a ∷ others) so_far text behind r t =
    let blank = r.0 in
    let here = r.1 in
    let back = r.2 in
    let n = attribute_named here (here ++ (back ++ behind)) a r.5 in
    let whole : text ++ behind ≡ blank ++ (here ++ (back ++ behind)) =
    ap (λ (s : List ℕ). s ++ behind) r.7 ∙ append_assoc blank (here ++ back) behind ∙ ap (λ (s : List ℕ). blank ++ s) (append_assoc here back behind) in
    let begins : goes so_far (blank ++ (here ++ (back ++ behind))) ≡ true =
    ap (λ (s : List ℕ). can_read name_ahead (blank ++ (s ++ (back ++ behind)))) n.is ∙ ahead blank (n.more ++ (back ++ behind)) n.byte r.3 r.4 n.letter in
    let size : 0 < length here = subst (λ (s : List ℕ). 0 < length s) (sym n.is) (omega arith) in
    let one = one_turn goes next_attribute so_far (so_far ++ a ∷ []) (blank ++ (here ++ (back ++ behind))) (back ++ behind) begins
    (next_again so_far blank here (back ++ behind) a r.4 r.5 (blank_ends_attribute (back ++ behind) (blank_before others back behind r.6 t)))
    (omega (arith, size, length-append blank (here ++ (back ++ behind)), length-append here (back ++ behind))) in
    let later = are_led others (so_far ++ a ∷ []) back behind r.6 t in
    let all : LeadsTo so_far (blank ++ (here ++ (back ++ behind))) ((so_far ++ a ∷ []) ++ others) (later.blank ++ behind) = leads_on one later.leads in
    record {
      blank = later.blank;
      pass = later.pass;
      leads = subst (λ (b : List ℕ). LeadsTo so_far b (so_far ++ a ∷ others) (later.blank ++ behind)) (sym whole)
          (subst (λ (l : List Attribute). LeadsTo so_far (blank ++ (here ++ (back ++ behind))) l (later.blank ++ behind)) (append_assoc so_far (a ∷ []) others) all);
    }

attributes_again : (list : List Attribute) (text behind : List ℕ) → AreAttributes text behind list → IsTagNext behind → attributes (text ++ behind) ≡ Ok (list, behind)
unfolding attributes spaces
attributes_again list text behind r t =
    let l = are_led list [] text behind r t in
    let stops : goes ([] ++ list) (l.blank ++ behind) ≡ false =
    ap (λ (s : List ℕ). can_read name_ahead (l.blank ++ s)) t.is ∙ none_ahead l.blank t.more t.byte l.pass (tag_white t.byte t.which) (tag_letter t.byte t.which) in
    let read = leads_to_end goes next_attribute [] ([] ++ list) (text ++ behind) (l.blank ++ behind) l.leads stops in
    rw (read, skip_again is_white l.blank behind l.pass (tag_no_white behind t)) refl

-- ---- what is read is spelled so

white_next_by : (byte : ℕ) (more : List ℕ) (t : Bool) → is_white byte ≡ t
    → is_ok (cond t (ok (byte, more)) (stop (byte ∷ more)) >>= (λ (v : ℕ × List ℕ). give tt v.1) >>= λ (v : ⊤ × List ℕ). spaces v.1 >>= λ (w : ⊤ × List ℕ). one_of is_letter w.1) ≡ true → is_white byte ≡ true
white_next_by byte more true is e = is
white_next_by byte more false is e = absurd cc

pub white_next : (x : List ℕ) → can_read name_ahead x ≡ true → next_is is_white x ≡ true
unfolding name_ahead white one_of
white_next [] e = absurd cc
white_next (byte ∷ more) e = white_next_by byte more (is_white byte) refl e

-- something of white space was read
pub blank_some : (blank here rest : List ℕ) → next_is is_white (blank ++ (here ++ rest)) ≡ true → IsNamed here → 0 < length blank
blank_some [] here rest e n =
    let clash : true ≡ false = sym e ∙ named_no_white here rest n in
    absurd cc
blank_some (byte ∷ blank) here rest e n = omega arith

-- what a turn reads
pub record IsNext (so_far later : List Attribute) (x y : List ℕ) : Type 0 where
  pub blank : List ℕ
  pub here : List ℕ
  pub one : Attribute
  pub pass : AllPass is_white blank
  pub is : IsAttribute here y one
  pub then_ : later ≡ so_far ++ one ∷ []
  pub parts : x ≡ blank ++ (here ++ y)

pub next_makes : (so_far later : List Attribute) (x y : List ℕ) → next_attribute so_far x ≡ ok (later, y) → IsNext so_far later x y
unfolding next_attribute
next_makes so_far later x y e =
    let a = bind_ok (spaces x) (λ (v : ⊤ × List ℕ). attribute v.1 >>= λ (w : Attribute × List ℕ). give (so_far ++ w.0 ∷ []) w.1) (later, y) e in
    let b = bind_ok (attribute a.0.1) (λ (w : Attribute × List ℕ). give (so_far ++ w.0 ∷ []) w.1) (later, y) a.2 in
    let same = same_answer {E = List ℕ} (so_far ++ b.0.0 ∷ []) later b.0.1 y b.2 in
    let first = spaces_spells.takes x a.0.0 a.0.1 a.1 in
    let second = attribute_spells.takes a.0.1 b.0.0 b.0.1 b.1 in
    record {
      blank = first.0;
      here = second.0;
      one = b.0.0;
      pass = first.1;
      is = subst (λ (s : List ℕ). IsAttribute second.0 s b.0.0) same.1 second.1;
      then_ = sym same.0;
      parts = first.2 ∙ ap (λ (s : List ℕ). first.0 ++ s) (second.2 ∙ ap (λ (s : List ℕ). second.0 ++ s) same.1);
    }

pub next_shortens : (so_far later : List Attribute) (x y : List ℕ) → IsNext so_far later x y → length y < length x
next_shortens so_far later x y n =
    let named = attribute_named n.here (n.here ++ y) n.one n.is in
    let size : 0 < length n.here = subst (λ (s : List ℕ). 0 < length s) (sym named.is) (omega arith) in
    let whole : length x ≡ length (n.blank ++ (n.here ++ y)) = ap (λ (s : List ℕ). length s) n.parts in
    omega (arith, whole, size, length-append n.blank (n.here ++ y), length-append n.here y)

-- what is left is attributes behind those so far, up to this rest
record AreLeft (all : List Attribute) (rest : List ℕ) (so_far : List Attribute) (bytes : List ℕ) : Type 0 where
  more : List Attribute
  text : List ℕ
  are : AreAttributes text rest more
  same : all ≡ so_far ++ more
  parts : bytes ≡ text ++ rest

next_back : (all : List Attribute) (rest : List ℕ) (so_far later : List Attribute) (x y : List ℕ) → goes so_far x ≡ true → IsNext so_far later x y → AreLeft all rest later y → AreLeft all rest so_far x
next_back all rest so_far later x y g n l =
    let named = attribute_named n.here (n.here ++ y) n.one n.is in
    let begins : next_is is_white (n.blank ++ (n.here ++ y)) ≡ true = subst (λ (s : List ℕ). next_is is_white s ≡ true) n.parts (white_next x g) in
    record {
      more = n.one ∷ l.more;
      text = n.blank ++ (n.here ++ l.text);
      are = (n.blank, n.here, l.text, blank_some n.blank n.here y begins named, n.pass, subst (λ (s : List ℕ). IsAttribute n.here s n.one) l.parts n.is, l.are, refl);
      same = l.same ∙ ap (λ (s : List Attribute). s ++ l.more) n.then_ ∙ append_assoc so_far (n.one ∷ []) l.more;
      parts = n.parts ∙ ap (λ (s : List ℕ). n.blank ++ (n.here ++ s)) l.parts
          ∙ ap (λ (s : List ℕ). n.blank ++ s) (sym (append_assoc n.here l.text rest)) ∙ sym (append_assoc n.blank (n.here ++ l.text) rest);
    }

pub attributes_takes : (bytes rest : List ℕ) (list : List Attribute) → attributes bytes ≡ ok (list, rest) → (text : List ℕ) × AreAttributes text rest list × (bytes ≡ text ++ rest)
unfolding attributes repeat
attributes_takes bytes rest list e =
    let a = bind_ok (turns goes next_attribute (suc (length bytes)) [] bytes) (λ (v : List Attribute × List ℕ). spaces v.1 >>= λ (w : ⊤ × List ℕ). give v.0 w.1) (list, rest) e in
    let b = bind_ok (spaces a.0.1) (λ (w : ⊤ × List ℕ). give a.0.0 w.1) (list, rest) a.2 in
    let same = same_answer {E = List ℕ} a.0.0 list b.0.1 rest b.2 in
    let last = spaces_spells.takes a.0.1 b.0.0 b.0.1 b.1 in
    let l = turns_back goes next_attribute (AreLeft a.0.0 rest) a.0.0 a.0.1
    (λ g. record { more = []; text = last.0; are = last.1; same = sym (append-nil a.0.0); parts = last.2 ∙ ap (λ (s : List ℕ). last.0 ++ s) same.1 })
    (λ s later x y g turned left. next_back a.0.0 rest s later x y g (next_makes s later x y turned) left)
    (λ s later x y g turned. next_shortens s later x y (next_makes s later x y turned))
    (suc (length bytes)) [] bytes (omega arith) a.1 in
    (l.text, subst (λ (s : List Attribute). AreAttributes l.text rest s) (sym l.same ∙ same.0) l.are, l.parts)

pub attributes_spells : SpellsPlaced attributes AreAttributes IsTagNext
attributes_spells = record {
  takes = λ bytes list rest e. attributes_takes bytes rest list e;
  again = λ text list rest r ends. attributes_again list text rest r ends;
}

pub is_tag_next : (rest more : List ℕ) → (rest ≡ 62 ∷ more) ⊎ (rest ≡ 47 ∷ more) → IsTagNext rest
is_tag_next rest more (inl e) = record { byte = 62; more = more; is = e; which = inl refl }
is_tag_next rest more (inr e) = record { byte = 47; more = more; is = e; which = inr refl }

tag_byte_by : (byte : ℕ) (rest : List ℕ) (t : Bool) → eqb byte 62 ≡ t → (t || eqb byte 47) ≡ true → IsTagNext (byte ∷ rest)
tag_byte_by byte rest true is e = record { byte = byte; more = rest; is = refl; which = inl (eqb-true byte 62 is) }
tag_byte_by byte rest false is e = record { byte = byte; more = rest; is = refl; which = inr (eqb-true byte 47 e) }

pub tag_byte_next : (rest : List ℕ) → next_is (λ (byte : ℕ). eqb byte 62 || eqb byte 47) rest ≡ true → IsTagNext rest
tag_byte_next [] e = absurd cc
tag_byte_next (byte ∷ rest) e = tag_byte_by byte rest (eqb byte 62) refl e
