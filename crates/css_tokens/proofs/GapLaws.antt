-- White space and comments: what is read is spelled so, and what is spelled so is read.
use Rattle.std.proofs.Common.{◌≡◌, inl, inr, ℕ, ◌<◌, Bool, true, false, ◌||◌, cond, List, [], ◌∷◌, ◌++◌, length, codes, Ok, Err, fold, refl, sym, ap, ◌∙◌, arith}
use Rattle.std.specs.Prelude.{⊤}
use Rattle.std.specs.List.{list_any}
use Rattle.reading.specs.Readers.{Read, Reader, ◌>>=◌, give, mapped, choice, strip, starts, next_is, repeat}
use Rattle.reading.specs.Grammars.{OneOf, Mapped}
use Rattle.reading.specs.Placed.{SpellsPlaced}
use Rattle.reading.specs.Spelling.{Anything, Spells, IsTestOf}
use Rattle.reading.specs.White.{is_white, white}
use Rattle.reading.proofs.SpellLaws.{ok, strip_spells, one_of_spells, mapped_spells, after_spells, choice_spells}
use Rattle.reading.proofs.UpToLaws.{strip_sees, up_to_spells}
use Rattle.reading.proofs.ManyLaws.{push_one, Gathered, item_shortens, gathered_spells}
use Rattle.css_tokens.specs.Lexing.{comment, in_gap, gap_piece, gap}
use Rattle.css_tokens.specs.Grammar.{IsComment, IsGapPiece, IsGap}
use Rattle.reading.proofs.TurnLaws.{repeat_same, repeat_ends}

-- ---- comments

pub comment_spells : Spells comment IsComment Anything
unfolding comment
comment_spells = after_spells (codes "/*") (mapped_spells (λ (inside : List ℕ). tt) (up_to_spells (strip_spells (codes "*/")) (strip_sees (codes "*/"))))

-- ---- one piece

-- whether it is white space
abbrev piece : Reader Bool
piece = choice (next_is is_white) (mapped (λ (u : ⊤). true) white) (mapped (λ (u : ⊤). false) comment)

white_spells : Spells (mapped (λ (u : ⊤). true) white) (Mapped (λ (byte : ℕ). true) (OneOf is_white)) Anything
unfolding white
white_spells = record {
  takes = λ bytes x rest e.
      let t = (mapped_spells (λ (u : ⊤). true) (mapped_spells (λ (byte : ℕ). tt) (one_of_spells is_white))).takes bytes x rest e in
      (t.0, (t.1.1.0, t.1.1.1, t.1.2), t.2);
  again = λ text x rest r ends.
      (mapped_spells (λ (u : ⊤). true) (mapped_spells (λ (byte : ℕ). tt) (one_of_spells is_white))).again text x rest (tt, (r.0, r.1, refl), r.2) ends;
}

white_first : (text rest : List ℕ) (x : Bool) → Mapped (λ (byte : ℕ). true) (OneOf is_white) text x → next_is is_white (text ++ rest) ≡ true
white_first text rest x r = ap (λ (t : List ℕ). next_is is_white (t ++ rest)) r.1.0 ∙ r.1.1

slash_first : (text rest : List ℕ) (x : Bool) → Mapped (λ (u : ⊤). false) IsComment text x → next_is is_white (text ++ rest) ≡ false
slash_first text rest x r = ap (λ (t : List ℕ). next_is is_white (t ++ rest)) r.1.2

piece_spells : Spells piece IsGapPiece Anything
piece_spells =
    choice_spells (next_is is_white) white_spells (mapped_spells (λ (u : ⊤). false) comment_spells)
    (λ text x rest r ends. white_first text rest x r)
    (λ text x rest r ends. slash_first text rest x r)

-- ---- all of them

abbrev NoGap : List ℕ → Type 0
NoGap rest = in_gap rest ≡ false

piece_some : (text : List ℕ) (x : Bool) → IsGapPiece text x → 0 < length text
piece_some text x (inl r) = rw r.1.0 (omega arith)
piece_some text x (inr r) = rw r.1.2 (omega arith)

piece_begins : (text : List ℕ) (x : Bool) (rest : List ℕ) → IsGapPiece text x → in_gap (text ++ rest) ≡ true
unfolding starts strip
piece_begins text x rest (inl r) = rw (r.1.0, r.1.1) refl
piece_begins text x rest (inr r) = rw r.1.2 refl

gap_test : IsTestOf in_gap IsGapPiece Anything NoGap
gap_test = record {
  some = λ text x r. piece_some text x r;
  begins = λ text x rest r any. piece_begins text x rest r;
  next = λ rest is. tt;
  last = λ rest more. tt;
  ends = λ rest more. more;
}

-- white space was there before, or there is some now
abbrev or_white : Bool → Bool → Bool
or_white was is = is || was

turn_by : (t : Bool) (w c : Read ⊤) (was : Bool)
    → cond t (w >>= λ (x : ⊤ × List ℕ). give true x.1) (c >>= λ (x : ⊤ × List ℕ). give was x.1)
    ≡ (cond t (w >>= λ (x : ⊤ × List ℕ). give true x.1) (c >>= λ (x : ⊤ × List ℕ). give false x.1) >>= λ (x : Bool × List ℕ). give (or_white was x.0) x.1)
turn_by true (Ok x) c was = refl
turn_by true (Err left) c was = refl
turn_by false w (Ok x) was = refl
turn_by false w (Err left) was = refl

gap_by_pieces : (bytes : List ℕ) → gap bytes ≡ repeat (λ (s : Bool) b. in_gap b) (push_one or_white piece) false bytes
unfolding gap
gap_by_pieces bytes =
    repeat_same (λ (s : Bool) b. in_gap b) gap_piece (push_one or_white piece) (λ s b g. turn_by (next_is is_white b) (white b) (comment b) s) false bytes

pieces_spell : Spells (repeat (λ (s : Bool) b. in_gap b) (push_one or_white piece) false) (Gathered or_white false IsGapPiece) NoGap
pieces_spell = gathered_spells or_white false piece_spells gap_test

any_by : (a b c : Bool) → ((b || a) || c) ≡ (a || (b || c))
any_by true true c = refl
any_by true false c = refl
any_by false true c = refl
any_by false false c = refl

or_none : (a : Bool) → a ≡ (a || false)
or_none true = refl
or_none false = refl

any_white : (was : Bool) (pieces : List Bool) → fold or_white was pieces ≡ (was || list_any (λ (p : Bool). p) pieces)
any_white was [] = or_none was
any_white was (p ∷ pieces) = any_white (p || was) pieces ∙ any_by was p (list_any (λ (q : Bool). q) pieces)

gap_ends : (bytes : List ℕ) (x : Bool) (rest : List ℕ) → gap bytes ≡ ok (x, rest) → in_gap rest ≡ false
gap_ends bytes x rest e =
    repeat_ends (λ (s : Bool) b. in_gap b) (push_one or_white piece)
    (λ s later a b g turned. item_shortens or_white piece IsGapPiece Anything NoGap in_gap s later a b piece_spells gap_test turned)
    false x bytes rest (sym (gap_by_pieces bytes) ∙ e)

pub gap_spells : SpellsPlaced gap IsGap Anything
gap_spells = record {
  takes = λ bytes x rest e.
      let t = pieces_spell.takes bytes x rest (sym (gap_by_pieces bytes) ∙ e) in
      (t.0, (t.1.0, t.1.1, t.1.2 ∙ any_white false t.1.0, gap_ends bytes x rest e), t.2);
  again = λ text x rest r any.
      gap_by_pieces (text ++ rest) ∙ pieces_spell.again text x rest (r.0, r.1, r.2 ∙ sym (any_white false r.0)) r.3;
}
