-- The numbers of what is read: none is greater than a style sheet can say.
use Rattle.std.proofs.Common.{◌≡◌, ℕ, Bool, true, false, cond, List, [], ◌∷◌, ◌++◌, length, take, codes, ◌-◌, subst}
use Rattle.std.specs.Prelude.{⊤}
use Rattle.std.specs.List.{All}
use Rattle.std.proofs.lemmas.List.Elements.{All-nil, All-push, All-take}
use Rattle.reading.specs.Readers.{give, follow, mapped, one_of, strip, repeat}
use Rattle.reading.proofs.SpellLaws.{ok, stop, bind_ok, same_answer}
use Rattle.reading.proofs.Turns.{repeat_keeps}
use Rattle.wm_units.specs.Numbers.{IsSayable}
use Rattle.css_tokens.specs.Grammar.{IsToken}
use Rattle.css_tokens.specs.Lexing.{gap, token}
use Rattle.css_tokens.specs.Tokens as tokens
use Rattle.css_tokens.specs.Tokens.{Lexeme}
use Rattle.css_tokens.proofs.NumberBounds.{number_is_small}
use Rattle.css_tokens.proofs.TokenLaws.{token_spells}
use Rattle.css_values.specs.Declarations.{Stated, property_name, stated}
use Rattle.css_values.specs.Value.{Begun, Written, begun, closed, closes, ends_important, finished, goes_on, no_items, piece, turn, value, with_lexeme, without_mark, written_of}
use Rattle.css_values.specs.declared.within.Within.{Within}

abbrev pub IsSaid : Lexeme → Type 0
IsSaid (tokens.number n) = IsSayable n
IsSaid (tokens.percentage n) = IsSayable n
IsSaid (tokens.dimension n unit) = IsSayable n
IsSaid other = ⊤

abbrev pub AreSaid : List Lexeme → Type 0
AreSaid lexemes = All IsSaid lexemes

-- ---- tokens

token_is : (text behind : List ℕ) (x : Lexeme) → IsToken text behind x → IsSaid x
token_is text behind (tokens.number n) is = number_is_small text behind n is.0
token_is text behind (tokens.percentage n) (front, is, whole) = number_is_small front (37 ∷ behind) n is
token_is text behind (tokens.dimension n unit) (front, is, unit_is, whole) = number_is_small front (unit ++ behind) n is
token_is text behind (tokens.name n) is = tt
token_is text behind (tokens.function n) is = tt
token_is text behind (tokens.quoted inside) is = tt
token_is text behind (tokens.hash word) is = tt
token_is text behind tokens.round is = tt
token_is text behind tokens.square is = tt
token_is text behind (tokens.sign byte) is = tt

token_is_said : (bytes rest : List ℕ) (x : Lexeme) → token bytes ≡ ok (x, rest) → IsSaid x
token_is_said bytes rest x e =
    let t = token_spells.takes bytes x rest e in
    token_is t.0 rest x t.1

-- ---- values

with_by : (b : Begun) (lexeme : Lexeme) (t : Bool) → AreSaid b.lexemes → IsSaid lexeme → AreSaid (cond t (b.lexemes ++ lexeme ∷ []) b.lexemes)
with_by b lexeme true all one = All-push IsSaid b.lexemes lexeme all one
with_by b lexeme false all one = all

piece_by : (b later : Begun) (bytes rest : List ℕ) (t : Bool) → AreSaid b.lexemes
    → cond t (mapped (λ (byte : ℕ). closed b) (one_of (λ byte. true)) bytes) (mapped (with_lexeme bytes b) token bytes) ≡ ok (later, rest) → AreSaid later.lexemes
piece_by b later bytes rest true all e =
    let a = bind_ok (one_of (λ byte. true) bytes) (λ (x : ℕ × List ℕ). give (closed b) x.1) (later, rest) e in
    subst (λ (z : Begun). AreSaid z.lexemes) (same_answer {E = List ℕ} (closed b) later a.0.1 rest a.2).0 all
piece_by b later bytes rest false all e =
    let a = bind_ok (token bytes) (λ (x : Lexeme × List ℕ). give (with_lexeme bytes b x.0) x.1) (later, rest) e in
    subst (λ (z : Begun). AreSaid z.lexemes) (same_answer {E = List ℕ} (with_lexeme bytes b a.0.0) later a.0.1 rest a.2).0
    (with_by b a.0.0 (no_items b.closers) all (token_is_said bytes a.0.1 a.0.0 a.1))

turn_keeps : (b later : Begun) (bytes rest : List ℕ) → turn b bytes ≡ ok (later, rest) → AreSaid b.lexemes → AreSaid later.lexemes
turn_keeps b later bytes rest e all =
    let a = bind_ok (piece b bytes) (λ (x : Begun × List ℕ). mapped (λ (white : Bool). x.0) gap x.1) (later, rest) e in
    let g = bind_ok (gap a.0.1) (λ (x : Bool × List ℕ). give a.0.0 x.1) (later, rest) a.2 in
    subst (λ (z : Begun). AreSaid z.lexemes) (same_answer {E = List ℕ} a.0.0 later g.0.1 rest g.2).0
    (piece_by b a.0.0 bytes a.0.1 (closes b.closers bytes) all a.1)

mark_by : (lexemes : List Lexeme) (t : Bool) → AreSaid lexemes → AreSaid (cond t (take (length lexemes - 2) lexemes) lexemes)
mark_by lexemes true all = All-take IsSaid (length lexemes - 2) lexemes all
mark_by lexemes false all = all

finished_by : (b : Begun) (w : Written) (bytes rest : List ℕ) (t : Bool) → AreSaid b.lexemes → cond t (stop bytes) (ok (written_of b, bytes)) ≡ ok (w, rest) → AreSaid w.lexemes
finished_by b w bytes rest true all e = absurd cc
finished_by b w bytes rest false all e =
    subst (λ (z : Written). AreSaid z.lexemes) (same_answer {E = List ℕ} (written_of b) w bytes rest e).0 (mark_by b.lexemes (ends_important b.lexemes) all)

value_is_said : (within : Within) (bytes rest : List ℕ) (w : Written) → value within bytes ≡ ok (w, rest) → AreSaid w.lexemes
unfolding value
value_is_said within bytes rest w e =
    let a = bind_ok (gap bytes) (λ (x : Bool × List ℕ). follow (repeat (goes_on within) turn begun) finished x.1) (w, rest) e in
    let b = bind_ok (repeat (goes_on within) turn begun a.0.1) (λ (x : Begun × List ℕ). finished x.0 x.1) (w, rest) a.2 in
    finished_by b.0.0 w b.0.1 rest (no_items (without_mark b.0.0.lexemes))
    (repeat_keeps (goes_on within) turn (λ (z : Begun). AreSaid z.lexemes) (λ s later x y t all. turn_keeps s later x y t all) begun b.0.0 a.0.1 b.0.1 b.1 (All-nil IsSaid)) b.2

-- a declaration of this name, as it stands
abbrev named_so : List ℕ → List ℕ → Written → Stated
named_so name left value = record { name = name; value = value; left = left }

pub stated_is_said : (within : Within) (bytes rest : List ℕ) (s : Stated) → stated within bytes ≡ ok (s, rest) → AreSaid s.value.lexemes
unfolding stated
stated_is_said within bytes rest s e =
    let a = bind_ok (property_name bytes) (λ (n : List ℕ × List ℕ). follow gap (λ white. follow (strip (codes ":")) (λ u. mapped (named_so n.0 bytes) (value within))) n.1) (s, rest) e in
    let b = bind_ok (gap a.0.1) (λ (x : Bool × List ℕ). follow (strip (codes ":")) (λ u. mapped (named_so a.0.0 bytes) (value within)) x.1) (s, rest) a.2 in
    let c = bind_ok (strip (codes ":") b.0.1) (λ (x : ⊤ × List ℕ). mapped (named_so a.0.0 bytes) (value within) x.1) (s, rest) b.2 in
    let d = bind_ok (value within c.0.1) (λ (x : Written × List ℕ). give (named_so a.0.0 bytes x.0) x.1) (s, rest) c.2 in
    subst (λ (z : Stated). AreSaid z.value.lexemes) (same_answer {E = List ℕ} (named_so a.0.0 bytes d.0.0) s d.0.1 rest d.2).0 (value_is_said within c.0.1 d.0.1 d.0.0 d.1)
