-- Values, read by a list of the brackets that are open: what is spelled so is read, and what is read is spelled so.
use Rattle.std.proofs.Common.{◌≡◌, ◌⊎◌, inl, inr, ℕ, suc, ◌<◌, Bool, true, false, not, cond, ◌&&◌, ◌||◌, List, [], ◌∷◌, ◌++◌, length, Option, Some, None, refl, sym, ap, subst, ◌∙◌, append_assoc, append-nil, length-append, arith}
use Rattle.std.proofs.lemmas.Bool.{eq-eqb, eqb-true}
use Rattle.basic_laws.proofs.Lists.{append_grouped}
use Rattle.basic_laws.proofs.Booleans.{or_false}
use Rattle.reading.specs.Readers.{Read, ◌>>=◌, give, mapped, one_of, turns, repeat}
use Rattle.reading.specs.Placed.{SpellsPlaced}
use Rattle.reading.specs.Spelling.{Anything}
use Rattle.reading.proofs.SpellLaws.{ok, stop, bind_ok, same_answer, one_of_spells, mapped_spells}
use Rattle.reading.proofs.PlacedLaws.{placed_mapped}
use Rattle.reading.proofs.Turns.{Leads, leads_nowhere, leads_on, one_turn, leads_to_end, turns_back}
use Rattle.css_tokens.specs.Grammar.{IsGap, IsToken}
use Rattle.css_tokens.specs.Lexing.{gap, token}
use Rattle.css_tokens.specs.Tokens as tokens
use Rattle.css_tokens.specs.Tokens.{Lexeme}
use Rattle.css_values.specs.Components.{Components, none, preserved, block, lexemes_in, have_var, or_else, first_at}
use Rattle.css_values.specs.Grammar.{may_stand, AreComponents, IsValue}
use Rattle.css_values.specs.Value.{Begun, Written, begun, closers_of, is_var, is_at, or_first, with_lexeme, behind_first, closed, closes, no_items, value_ends, goes_on, piece, turn, written_of, finished, without_mark, value}
use Rattle.css_values.specs.declared.within.Within.{Within}
use Rattle.css_tokens.proofs.Spelling.{gap_spells, token_spells}
use Rattle.css_values.proofs.TokenFirsts.{Shut, none_shut, opened_shut, Opens, nothing, bracket, opens, token_some, token_goes_on, may_stand_here}

-- ---- what components add to what is read

abbrev state_of : (closers : List ℕ) (lexemes : List Lexeme) (has_var : Bool) (at_sign : Option (List ℕ)) → Begun
state_of closers lexemes has_var at_sign = record { closers = closers; lexemes = lexemes; has_var = has_var; at_sign = at_sign }

same_state : (a b : List ℕ) (k l : List Lexeme) (u v : Bool) (s t : Option (List ℕ)) → a ≡ b → k ≡ l → u ≡ v → s ≡ t → state_of a k u s ≡ state_of b l v t
same_state a b k l u v s t e f g h = rw (e, f, g, h) refl

-- lexemes in a block are not kept
abbrev kept : (closers : List ℕ) (lexemes more : List Lexeme) → List Lexeme
kept closers lexemes more = cond (no_items closers) (lexemes ++ more) lexemes

abbrev added : Begun → Components → Begun
added b c = state_of b.closers (kept b.closers b.lexemes (lexemes_in c)) (b.has_var || have_var c) (or_else b.at_sign (first_at c))

kept_none : (closers : List ℕ) (lexemes : List Lexeme) → kept closers lexemes [] ≡ lexemes
kept_none [] lexemes = append-nil lexemes
kept_none (closer ∷ closers) lexemes = refl

kept_on : (closers : List ℕ) (lexemes more : List Lexeme) (lexeme : Lexeme) → kept closers (kept closers lexemes (lexeme ∷ [])) more ≡ kept closers lexemes (lexeme ∷ more)
kept_on [] lexemes more lexeme = append_assoc lexemes (lexeme ∷ []) more
kept_on (closer ∷ closers) lexemes more lexeme = refl

or_grouped : (a b c : Bool) → ((a || b) || c) ≡ (a || (b || c))
or_grouped true b c = refl
or_grouped false b c = refl

else_none : (a : Option (List ℕ)) → or_else a None ≡ a
else_none None = refl
else_none (Some x) = refl

else_grouped : (a b c : Option (List ℕ)) → or_else (or_else a b) c ≡ or_else a (or_else b c)
else_grouped None b c = refl
else_grouped (Some x) b c = refl

first_kept : (a : Option (List ℕ)) (is : Bool) (left : List ℕ) (next : Option (List ℕ)) → or_else (or_first a is left) next ≡ or_else a (cond is (Some left) next)
first_kept None true left next = refl
first_kept None false left next = refl
first_kept (Some x) true left next = refl
first_kept (Some x) false left next = refl

no_var : (lexeme : Lexeme) → closers_of lexeme ≡ [] → is_var lexeme ≡ false
no_var (tokens.number n) e = refl
no_var (tokens.percentage n) e = refl
no_var (tokens.dimension n unit) e = refl
no_var (tokens.name n) e = refl
no_var (tokens.function n) e = absurd cc
no_var (tokens.quoted inside) e = refl
no_var (tokens.hash word) e = refl
no_var tokens.round e = refl
no_var tokens.square e = refl
no_var (tokens.sign byte) e = refl

no_at : (lexeme : Lexeme) (closer : ℕ) → closers_of lexeme ≡ closer ∷ [] → is_at lexeme ≡ false
no_at (tokens.number n) closer e = refl
no_at (tokens.percentage n) closer e = refl
no_at (tokens.dimension n unit) closer e = refl
no_at (tokens.name n) closer e = refl
no_at (tokens.function n) closer e = refl
no_at (tokens.quoted inside) closer e = refl
no_at (tokens.hash word) closer e = refl
no_at tokens.round closer e = refl
no_at tokens.square closer e = refl
no_at (tokens.sign byte) closer e = absurd cc

added_none : (b : Begun) → added b none ≡ b
added_none b = same_state b.closers b.closers (kept b.closers b.lexemes []) b.lexemes (b.has_var || false) b.has_var (or_else b.at_sign None) b.at_sign
    refl (kept_none b.closers b.lexemes) (or_false b.has_var) (else_none b.at_sign)

added_preserved : (b : Begun) (lexeme : Lexeme) (left : List ℕ) (next : Components) → closers_of lexeme ≡ [] → added (with_lexeme left b lexeme) next ≡ added b (preserved lexeme left next)
added_preserved b lexeme left next e =
    let at_closers : closers_of lexeme ++ b.closers ≡ b.closers = ap (λ (c : List ℕ). c ++ b.closers) e in
    same_state (closers_of lexeme ++ b.closers) b.closers
    (kept (closers_of lexeme ++ b.closers) (kept b.closers b.lexemes (lexeme ∷ [])) (lexemes_in next)) (kept b.closers b.lexemes (lexeme ∷ lexemes_in next))
    ((b.has_var || is_var lexeme) || have_var next) (b.has_var || have_var next)
    (or_else (or_first b.at_sign (is_at lexeme) left) (first_at next)) (or_else b.at_sign (cond (is_at lexeme) (Some left) (first_at next)))
    at_closers
    (ap (λ (c : List ℕ). kept c (kept b.closers b.lexemes (lexeme ∷ [])) (lexemes_in next)) at_closers ∙ kept_on b.closers b.lexemes (lexemes_in next) lexeme)
    (ap (λ (v : Bool). (b.has_var || v) || have_var next) (no_var lexeme e) ∙ ap (λ (v : Bool). v || have_var next) (or_false b.has_var))
    (first_kept b.at_sign (is_at lexeme) left (first_at next))

-- what opens a block, what stands in it, and its closing
abbrev behind_block : (left : List ℕ) → Begun → Lexeme → Components → Begun
behind_block left b opening inside = closed (added (with_lexeme left b opening) inside)

not_first : (a : Option (List ℕ)) (left : List ℕ) → or_first a false left ≡ a
not_first None left = refl
not_first (Some x) left = refl

added_block : (b : Begun) (opening : Lexeme) (closer : ℕ) (left : List ℕ) (inside next : Components) → closers_of opening ≡ closer ∷ []
    → added (behind_block left b opening inside) next ≡ added b (block opening inside next)
added_block b opening closer left inside next e =
    let opened : closers_of opening ++ b.closers ≡ closer ∷ b.closers = ap (λ (c : List ℕ). c ++ b.closers) e in
    let shut : behind_first (closers_of opening ++ b.closers) ≡ b.closers = ap behind_first opened in
    let first = kept b.closers b.lexemes (opening ∷ []) in
    let still : kept (closers_of opening ++ b.closers) first (lexemes_in inside) ≡ first = ap (λ (c : List ℕ). kept c first (lexemes_in inside)) opened in
    same_state (behind_first (closers_of opening ++ b.closers)) b.closers
    (kept (behind_first (closers_of opening ++ b.closers)) (kept (closers_of opening ++ b.closers) first (lexemes_in inside)) (lexemes_in next)) (kept b.closers b.lexemes (opening ∷ lexemes_in next))
    (((b.has_var || is_var opening) || have_var inside) || have_var next) (b.has_var || ((is_var opening || have_var inside) || have_var next))
    (or_else (or_else (or_first b.at_sign (is_at opening) left) (first_at inside)) (first_at next)) (or_else b.at_sign (or_else (first_at inside) (first_at next)))
    shut
    (ap (λ (c : List ℕ). kept c (kept (closers_of opening ++ b.closers) first (lexemes_in inside)) (lexemes_in next)) shut
    ∙ ap (λ (l : List Lexeme). kept b.closers l (lexemes_in next)) still ∙ kept_on b.closers b.lexemes (lexemes_in next) opening)
    (ap (λ (v : Bool). v || have_var next) (or_grouped b.has_var (is_var opening) (have_var inside)) ∙ or_grouped b.has_var (is_var opening || have_var inside) (have_var next))
    (ap (λ (v : Bool). or_else (or_else (or_first b.at_sign v left) (first_at inside)) (first_at next)) (no_at opening closer e)
    ∙ ap (λ (a : Option (List ℕ)). or_else (or_else a (first_at inside)) (first_at next)) (not_first b.at_sign left)
    ∙ else_grouped b.at_sign (first_at inside) (first_at next))

-- ---- what is spelled so is read

abbrev LeadsTo : Within → Begun → List ℕ → Begun → List ℕ → Type 0
LeadsTo within = Leads (goes_on within) turn

-- a bracket is open
abbrev in_block_of : (closers : List ℕ) → Bool
in_block_of closers = not (no_items closers)

goes_by : (within : Within) (closers bytes rest : List ℕ) (lexeme : Lexeme) → token bytes ≡ ok (lexeme, rest) → may_stand (in_block_of closers) lexeme ≡ true → not (no_items closers && value_ends within bytes) ≡ true
goes_by within [] bytes rest lexeme e stands = rw (token_goes_on within bytes rest lexeme e stands) refl
goes_by within (closer ∷ closers) bytes rest lexeme e stands = refl

gap_put : (more : Begun) (text rest : List ℕ) (white : Bool) → IsGap text rest white → mapped (λ (w : Bool). more) gap (text ++ rest) ≡ ok (more, rest)
gap_put more text rest white is = ap (λ (s : Read Bool). s >>= λ (v : Bool × List ℕ). give more v.1) (gap_spells.again text white rest is tt)

token_turn : (b : Begun) (here gap_ rest : List ℕ) (lexeme : Lexeme) (white : Bool) → Shut b.closers → IsToken here (gap_ ++ rest) lexeme → IsGap gap_ rest white
    → turn b (here ++ (gap_ ++ rest)) ≡ ok (with_lexeme (here ++ (gap_ ++ rest)) b lexeme, rest)
token_turn b here gap_ rest lexeme white shut is is_gap =
    let bytes = here ++ (gap_ ++ rest) in
    let e = token_spells.again here lexeme (gap_ ++ rest) is tt in
    let piece_is : piece b bytes ≡ ok (with_lexeme bytes b lexeme, gap_ ++ rest) =
    ap (λ (t : Bool). cond t (mapped (λ (byte : ℕ). closed b) (one_of (λ byte. true)) bytes) (mapped (with_lexeme bytes b) token bytes)) (shut bytes lexeme (gap_ ++ rest) e)
    ∙ ap (λ (s : Read Lexeme). s >>= λ (v : Lexeme × List ℕ). give (with_lexeme bytes b v.0) v.1) e in
    ap (λ (s : Read Begun). s >>= λ (v : Begun × List ℕ). mapped (λ (w : Bool). v.0) gap v.1) piece_is ∙ gap_put (with_lexeme bytes b lexeme) gap_ rest white is_gap

token_leads : (within : Within) (b : Begun) (here gap_ rest : List ℕ) (lexeme : Lexeme) (white : Bool) → Shut b.closers → may_stand (in_block_of b.closers) lexeme ≡ true → IsToken here (gap_ ++ rest) lexeme → IsGap gap_ rest white
    → LeadsTo within b (here ++ (gap_ ++ rest)) (with_lexeme (here ++ (gap_ ++ rest)) b lexeme) rest
token_leads within b here gap_ rest lexeme white shut stands is is_gap =
    one_turn (goes_on within) turn b (with_lexeme (here ++ (gap_ ++ rest)) b lexeme) (here ++ (gap_ ++ rest)) rest
    (goes_by within b.closers (here ++ (gap_ ++ rest)) (gap_ ++ rest) lexeme (token_spells.again here lexeme (gap_ ++ rest) is tt) stands)
    (token_turn b here gap_ rest lexeme white shut is is_gap)
    (omega (arith, length-append here (gap_ ++ rest), length-append gap_ rest, token_some here (gap_ ++ rest) lexeme is))

closes_first : (b : Begun) (closer : ℕ) (closers rest : List ℕ) → b.closers ≡ closer ∷ closers → closes b.closers (closer ∷ rest) ≡ true
closes_first b closer closers rest e = ap (λ (c : List ℕ). closes c (closer ∷ rest)) e ∙ eq-eqb closer closer refl

goes_open : (within : Within) (b : Begun) (closer : ℕ) (closers bytes : List ℕ) → b.closers ≡ closer ∷ closers → goes_on within b bytes ≡ true
goes_open within b closer closers bytes e = ap (λ (c : List ℕ). not (no_items c && value_ends within bytes)) e

close_turn : (b : Begun) (closer : ℕ) (closers gap_ rest : List ℕ) (white : Bool) → b.closers ≡ closer ∷ closers → IsGap gap_ rest white → turn b (closer ∷ (gap_ ++ rest)) ≡ ok (closed b, rest)
unfolding one_of
close_turn b closer closers gap_ rest white e is_gap =
    let bytes = closer ∷ (gap_ ++ rest) in
    let piece_is : piece b bytes ≡ ok (closed b, gap_ ++ rest) =
    ap (λ (t : Bool). cond t (mapped (λ (byte : ℕ). closed b) (one_of (λ byte. true)) bytes) (mapped (with_lexeme bytes b) token bytes)) (closes_first b closer closers (gap_ ++ rest) e) in
    ap (λ (s : Read Begun). s >>= λ (v : Begun × List ℕ). mapped (λ (w : Bool). v.0) gap v.1) piece_is ∙ gap_put (closed b) gap_ rest white is_gap

close_leads : (within : Within) (b : Begun) (closer : ℕ) (closers gap_ rest : List ℕ) (white : Bool) → b.closers ≡ closer ∷ closers → IsGap gap_ rest white → LeadsTo within b (closer ∷ (gap_ ++ rest)) (closed b) rest
close_leads within b closer closers gap_ rest white e is_gap =
    one_turn (goes_on within) turn b (closed b) (closer ∷ (gap_ ++ rest)) rest
    (goes_open within b closer closers (closer ∷ (gap_ ++ rest)) e) (close_turn b closer closers gap_ rest white e is_gap)
    (omega (arith, length-append gap_ rest))

block_grouped : (here gap_ middle later more behind : List ℕ) (closer : ℕ)
    → (here ++ (gap_ ++ (middle ++ (closer ∷ (later ++ more))))) ++ behind ≡ here ++ (gap_ ++ (middle ++ (closer ∷ (later ++ (more ++ behind)))))
block_grouped here gap_ middle later more behind closer = simp append_assoc

opening_stands : (in_block : Bool) (opening : Lexeme) (closer : ℕ) → closers_of opening ≡ closer ∷ [] → may_stand in_block opening ≡ true
opening_stands true opening closer e = refl
opening_stands false (tokens.number n) closer e = refl
opening_stands false (tokens.percentage n) closer e = refl
opening_stands false (tokens.dimension n unit) closer e = refl
opening_stands false (tokens.name n) closer e = refl
opening_stands false (tokens.function n) closer e = refl
opening_stands false (tokens.quoted inside) closer e = refl
opening_stands false (tokens.hash word) closer e = refl
opening_stands false tokens.round closer e = refl
opening_stands false tokens.square closer e = refl
opening_stands false (tokens.sign byte) closer e = absurd cc

components_read : (c : Components) (within : Within) (in_block : Bool) (text behind : List ℕ) (b : Begun) → in_block ≡ in_block_of b.closers → Shut b.closers → AreComponents in_block text behind c
    → LeadsTo within b (text ++ behind) (added b c) behind
components_read none within in_block text behind b inside shut r =
    rw r (subst (λ (s : Begun). LeadsTo within b behind s behind) (sym (added_none b)) (leads_nowhere (goes_on within) turn b behind))
components_read (preserved lexeme left next) within in_block text behind b inside shut (here, gap_, more, white, is, plain, stands, is_gap, next_is, left_is, whole) =
    let bytes = here ++ (gap_ ++ (more ++ behind)) in
    let all : text ++ behind ≡ bytes = ap (λ (s : List ℕ). s ++ behind) whole ∙ append_grouped here gap_ more behind in
    let at_closers : closers_of lexeme ++ b.closers ≡ b.closers = ap (λ (c : List ℕ). c ++ b.closers) plain in
    let later = with_lexeme bytes b lexeme in
    let a = token_leads within b here gap_ (more ++ behind) lexeme white shut (subst (λ (t : Bool). may_stand t lexeme ≡ true) inside stands) is is_gap in
    let d = components_read next within in_block more behind later (inside ∙ ap in_block_of (sym at_closers)) (subst Shut (sym at_closers) shut) next_is in
    let same : added later next ≡ added b (preserved lexeme left next) =
    added_preserved b lexeme bytes next plain ∙ ap (λ (l : List ℕ). added b (preserved lexeme l next)) (sym all ∙ sym left_is) in
    subst (λ (s : List ℕ). LeadsTo within b s (added b (preserved lexeme left next)) behind) (sym all)
    (subst (λ (s : Begun). LeadsTo within b bytes s behind) same (leads_on a d))
components_read (block opening within_it next) within in_block text behind b inside shut (here, gap_, middle, later, more, closer, white, white_later, is, opening_is, is_gap, middle_is, is_later, next_is, whole) =
    let tail = later ++ (more ++ behind) in
    let bytes = here ++ (gap_ ++ (middle ++ (closer ∷ tail))) in
    let all : text ++ behind ≡ bytes = ap (λ (s : List ℕ). s ++ behind) whole ∙ block_grouped here gap_ middle later more behind closer in
    let first = with_lexeme bytes b opening in
    let opened : closers_of opening ++ b.closers ≡ closer ∷ b.closers = ap (λ (c : List ℕ). c ++ b.closers) opening_is in
    let stands : may_stand (in_block_of b.closers) opening ≡ true = opening_stands (in_block_of b.closers) opening closer opening_is in
    let a = token_leads within b here gap_ (middle ++ (closer ∷ tail)) opening white shut stands is is_gap in
    let m = components_read within_it within true middle (closer ∷ tail) first (sym (ap in_block_of opened)) (subst Shut (sym opened) (opened_shut opening closer b.closers opening_is)) middle_is in
    let s = close_leads within (added first within_it) closer b.closers later (more ++ behind) white_later opened is_later in
    let shut_again : behind_first (closers_of opening ++ b.closers) ≡ b.closers = ap behind_first opened in
    let d = components_read next within in_block more behind (closed (added first within_it)) (inside ∙ ap in_block_of (sym shut_again)) (subst Shut (sym shut_again) shut) next_is in
    subst (λ (t : List ℕ). LeadsTo within b t (added b (block opening within_it next)) behind) (sym all)
    (subst (λ (t : Begun). LeadsTo within b bytes t behind) (added_block b opening closer bytes within_it next opening_is) (leads_on a (leads_on m (leads_on s d))))

-- where no bracket is open and the value ends
ends_by : (within : Within) (b : Begun) (bytes : List ℕ) → b.closers ≡ [] → value_ends within bytes ≡ true → goes_on within b bytes ≡ false
ends_by within b bytes shut ends = ap (λ (c : List ℕ). not (no_items c && value_ends within bytes)) shut ∙ ap not ends

finished_so : (b : Begun) (bytes : List ℕ) → no_items (without_mark b.lexemes) ≡ false → finished b bytes ≡ ok (written_of b, bytes)
finished_so b bytes some = ap (λ (t : Bool). cond t (stop bytes) (ok (written_of b, bytes))) some

value_again : (within : Within) (text : List ℕ) (w : Written) (rest : List ℕ) → IsValue within text rest w → value within (text ++ rest) ≡ ok (w, rest)
unfolding value
value_again within text w rest is =
    let end_ = added begun is.components in
    let whole : text ++ rest ≡ is.gap ++ (is.back ++ rest) = ap (λ (s : List ℕ). s ++ rest) is.whole ∙ append_assoc is.gap is.back rest in
    let there = leads_to_end (goes_on within) turn begun end_ (is.back ++ rest) rest
    (components_read is.components within false is.back rest begun refl none_shut is.are_components) (ends_by within end_ rest refl is.ends) in
    ap (λ (s : List ℕ). gap s >>= λ (v : Bool × List ℕ). repeat (goes_on within) turn begun v.1 >>= λ (u : Begun × List ℕ). finished u.0 u.1) whole
    ∙ ap (λ (s : Read Bool). s >>= λ (v : Bool × List ℕ). repeat (goes_on within) turn begun v.1 >>= λ (u : Begun × List ℕ). finished u.0 u.1) (gap_spells.again is.gap is.white (is.back ++ rest) is.is_gap tt)
    ∙ ap (λ (s : Read Begun). s >>= λ (u : Begun × List ℕ). finished u.0 u.1) there
    ∙ finished_so end_ rest is.some
    ∙ ap (λ (v : Written). ok (v, rest)) (sym is.says)

-- ---- what a turn does

-- a token and the gap behind it
record Reads (b later : Begun) (x y : List ℕ) : Type 0 where
  lexeme : Lexeme
  here : List ℕ
  gap_text : List ℕ
  white : Bool
  is : IsToken here (gap_text ++ y) lexeme
  is_gap : IsGap gap_text y white
  then_ : later ≡ with_lexeme x b lexeme
  parts : x ≡ here ++ (gap_text ++ y)

-- the closing of the innermost bracket and the gap behind it
record Shuts (b later : Begun) (x y : List ℕ) : Type 0 where
  closer : ℕ
  closers : List ℕ
  was : b.closers ≡ closer ∷ closers
  gap_text : List ℕ
  white : Bool
  is_gap : IsGap gap_text y white
  then_ : later ≡ closed b
  parts : x ≡ closer ∷ (gap_text ++ y)

-- the gap behind what was read
record IsPut (mid later : Begun) (x y : List ℕ) : Type 0 where
  gap_text : List ℕ
  white : Bool
  is_gap : IsGap gap_text y white
  then_ : later ≡ mid
  parts : x ≡ gap_text ++ y

put_makes : (mid later : Begun) (x y : List ℕ) → mapped (λ (w : Bool). mid) gap x ≡ ok (later, y) → IsPut mid later x y
put_makes mid later x y e =
    let t = (placed_mapped (λ (w : Bool). mid) gap_spells).takes x later y e in
    record { gap_text = t.0; white = t.1.0; is_gap = t.1.1; then_ = t.1.2; parts = t.2 }

first_closes : (closers : List ℕ) (byte : ℕ) (more : List ℕ) → closes closers (byte ∷ more) ≡ true → (others : List ℕ) × (closers ≡ byte ∷ others)
first_closes [] byte more e = absurd cc
first_closes (closer ∷ closers) byte more e =
    let same : byte ≡ closer = eqb-true byte closer e in
    (closers, rw same refl)

turn_by : (b mid later : Begun) (x between_ y : List ℕ) (t : Bool) → closes b.closers x ≡ t
    → cond t (mapped (λ (byte : ℕ). closed b) (one_of (λ byte. true)) x) (mapped (with_lexeme x b) token x) ≡ ok (mid, between_) → IsPut mid later between_ y
    → Reads b later x y ⊎ Shuts b later x y
turn_by b mid later x between_ y true is e p =
    let t = (mapped_spells (λ (byte : ℕ). closed b) (one_of_spells (λ byte. true))).takes x mid between_ e in
    let byte = t.1.0 in
    let all : x ≡ byte ∷ between_ = t.2 ∙ ap (λ (s : List ℕ). s ++ between_) t.1.1.0 in
    let first = first_closes b.closers byte between_ (sym (ap (closes b.closers) all) ∙ is) in
    inr (record {
      closer = byte;
      closers = first.0;
      was = first.1;
      gap_text = p.gap_text;
      white = p.white;
      is_gap = p.is_gap;
      then_ = p.then_ ∙ t.1.2;
      parts = all ∙ ap (λ (s : List ℕ). byte ∷ s) p.parts;
    })
turn_by b mid later x between_ y false is e p =
    let t = (placed_mapped (with_lexeme x b) token_spells).takes x mid between_ e in
    inl (record {
      lexeme = t.1.0;
      here = t.0;
      gap_text = p.gap_text;
      white = p.white;
      is = subst (λ (s : List ℕ). IsToken t.0 s t.1.0) p.parts t.1.1;
      is_gap = p.is_gap;
      then_ = p.then_ ∙ t.1.2;
      parts = t.2 ∙ ap (λ (s : List ℕ). t.0 ++ s) p.parts;
    })

turn_makes : (b later : Begun) (x y : List ℕ) → turn b x ≡ ok (later, y) → Reads b later x y ⊎ Shuts b later x y
turn_makes b later x y e =
    let a = bind_ok (piece b x) (λ (v : Begun × List ℕ). mapped (λ (w : Bool). v.0) gap v.1) (later, y) e in
    turn_by b a.0.0 later x a.0.1 y (closes b.closers x) refl a.1 (put_makes a.0.0 later a.0.1 y a.2)

shorter_by : (b later : Begun) (x y : List ℕ) → Reads b later x y ⊎ Shuts b later x y → length y < length x
shorter_by b later x y (inl r) =
    omega (arith, ap length r.parts, length-append r.here (r.gap_text ++ y), length-append r.gap_text y, token_some r.here (r.gap_text ++ y) r.lexeme r.is)
shorter_by b later x y (inr r) = omega (arith, ap length r.parts, length-append r.gap_text y)

-- ---- what is read is spelled so

-- what is left closes the open brackets, and what is read comes behind what was read so far
abbrev Closes : (closers : List ℕ) → Begun → List ℕ → Begun → List ℕ → Type 0
Closes [] b bytes end_ rest = (c : Components) × (text : List ℕ) × AreComponents false text rest c × (end_ ≡ added b c) × (bytes ≡ text ++ rest)
Closes (closer ∷ closers) b bytes end_ rest = (c : Components) × (inside later back : List ℕ) × (white : Bool) × AreComponents true inside (closer ∷ (later ++ back)) c
    × IsGap later back white × Closes closers (closed (added b c)) back end_ rest × (bytes ≡ inside ++ (closer ∷ (later ++ back)))

plain_are : (in_block : Bool) (here gap_ y more behind : List ℕ) (lexeme : Lexeme) (white : Bool) (next : Components) → IsToken here (gap_ ++ y) lexeme → closers_of lexeme ≡ [] → may_stand in_block lexeme ≡ true → IsGap gap_ y white
    → y ≡ more ++ behind → AreComponents in_block more behind next → AreComponents in_block (here ++ (gap_ ++ more)) behind (preserved lexeme (here ++ (gap_ ++ y)) next)
plain_are in_block here gap_ y more behind lexeme white next is plain stands is_gap last next_is = (
  here,
  gap_,
  more,
  white,
  subst (λ (b : List ℕ). IsToken here (gap_ ++ b) lexeme) last is,
  plain,
  stands,
  subst (λ (b : List ℕ). IsGap gap_ b white) last is_gap,
  next_is,
  ap (λ (b : List ℕ). here ++ (gap_ ++ b)) last ∙ sym (append_grouped here gap_ more behind),
  refl,
)

closes_plain : (closers : List ℕ) (b : Begun) (here gap_ y : List ℕ) (lexeme : Lexeme) (white : Bool) (end_ : Begun) (rest : List ℕ) → IsToken here (gap_ ++ y) lexeme → closers_of lexeme ≡ []
    → may_stand (in_block_of closers) lexeme ≡ true → IsGap gap_ y white → Closes closers (with_lexeme (here ++ (gap_ ++ y)) b lexeme) y end_ rest → Closes closers b (here ++ (gap_ ++ y)) end_ rest
closes_plain [] b here gap_ y lexeme white end_ rest is plain stands is_gap (next, more, next_is, same, last) = (
  preserved lexeme (here ++ (gap_ ++ y)) next,
  here ++ (gap_ ++ more),
  plain_are false here gap_ y more rest lexeme white next is plain stands is_gap last next_is,
  same ∙ added_preserved b lexeme (here ++ (gap_ ++ y)) next plain,
  ap (λ (s : List ℕ). here ++ (gap_ ++ s)) last ∙ sym (append_grouped here gap_ more rest),
)
closes_plain (closer ∷ closers) b here gap_ y lexeme white end_ rest is plain stands is_gap (next, more, later, back, white_later, next_is, is_later, closes_, last) = (
  preserved lexeme (here ++ (gap_ ++ y)) next,
  here ++ (gap_ ++ more),
  later,
  back,
  white_later,
  plain_are true here gap_ y more (closer ∷ (later ++ back)) lexeme white next is plain stands is_gap last next_is,
  is_later,
  subst (λ (s : Begun). Closes closers (closed s) back end_ rest) (added_preserved b lexeme (here ++ (gap_ ++ y)) next plain) closes_,
  ap (λ (s : List ℕ). here ++ (gap_ ++ s)) last ∙ sym (append_grouped here gap_ more (closer ∷ (later ++ back))),
)

block_are : (in_block : Bool) (here gap_ y inside later back more behind : List ℕ) (opening : Lexeme) (closer : ℕ) (white white_later : Bool) (inner next : Components) → IsToken here (gap_ ++ y) opening → closers_of opening ≡ closer ∷ []
    → IsGap gap_ y white → y ≡ inside ++ (closer ∷ (later ++ back)) → AreComponents true inside (closer ∷ (later ++ back)) inner → IsGap later back white_later → back ≡ more ++ behind → AreComponents in_block more behind next
    → AreComponents in_block (here ++ (gap_ ++ (inside ++ (closer ∷ (later ++ more))))) behind (block opening inner next)
block_are in_block here gap_ y inside later back more behind opening closer white white_later inner next is opening_is is_gap parts inner_is is_later last next_is =
    let all : y ≡ inside ++ (closer ∷ (later ++ (more ++ behind))) = parts ∙ ap (λ (b : List ℕ). inside ++ (closer ∷ (later ++ b))) last in (
      here,
      gap_,
      inside,
      later,
      more,
      closer,
      white,
      white_later,
      subst (λ (b : List ℕ). IsToken here (gap_ ++ b) opening) all is,
      opening_is,
      subst (λ (b : List ℕ). IsGap gap_ b white) all is_gap,
      subst (λ (b : List ℕ). AreComponents true inside (closer ∷ (later ++ b)) inner) last inner_is,
      subst (λ (b : List ℕ). IsGap later b white_later) last is_later,
      next_is,
      refl,
    )

closes_block : (closers : List ℕ) (b : Begun) (here gap_ y : List ℕ) (opening : Lexeme) (closer : ℕ) (white : Bool) (end_ : Begun) (rest : List ℕ) → IsToken here (gap_ ++ y) opening → closers_of opening ≡ closer ∷ []
    → IsGap gap_ y white → Closes (closer ∷ closers) (with_lexeme (here ++ (gap_ ++ y)) b opening) y end_ rest → Closes closers b (here ++ (gap_ ++ y)) end_ rest
closes_block [] b here gap_ y opening closer white end_ rest is opening_is is_gap (inner, inside, later, back, white_later, inner_is, is_later, (next, more, next_is, same, last), parts) = (
  block opening inner next,
  here ++ (gap_ ++ (inside ++ (closer ∷ (later ++ more)))),
  block_are false here gap_ y inside later back more rest opening closer white white_later inner next is opening_is is_gap parts inner_is is_later last next_is,
  same ∙ added_block b opening closer (here ++ (gap_ ++ y)) inner next opening_is,
  ap (λ (s : List ℕ). here ++ (gap_ ++ s)) (parts ∙ ap (λ (s : List ℕ). inside ++ (closer ∷ (later ++ s))) last) ∙ sym (block_grouped here gap_ inside later more rest closer),
)
closes_block (other ∷ closers) b here gap_ y opening closer white end_ rest is opening_is is_gap
    (inner, inside, later, back, white_later, inner_is, is_later, (next, more, later2, back2, white2, next_is, is_later2, closes_, last), parts) = (
      block opening inner next,
      here ++ (gap_ ++ (inside ++ (closer ∷ (later ++ more)))),
      later2,
      back2,
      white2,
      block_are true here gap_ y inside later back more (other ∷ (later2 ++ back2)) opening closer white white_later inner next is opening_is is_gap parts inner_is is_later last next_is,
      is_later2,
      subst (λ (s : Begun). Closes closers (closed s) back2 end_ rest) (added_block b opening closer (here ++ (gap_ ++ y)) inner next opening_is) closes_,
      ap (λ (s : List ℕ). here ++ (gap_ ++ s)) (parts ∙ ap (λ (s : List ℕ). inside ++ (closer ∷ (later ++ s))) last)
          ∙ sym (block_grouped here gap_ inside later more (other ∷ (later2 ++ back2)) closer),
    )

closes_end : (closer : ℕ) (closers : List ℕ) (b : Begun) (gap_ y : List ℕ) (white : Bool) (end_ : Begun) (rest : List ℕ) → IsGap gap_ y white → Closes closers (closed b) y end_ rest
    → Closes (closer ∷ closers) b (closer ∷ (gap_ ++ y)) end_ rest
closes_end closer closers b gap_ y white end_ rest is_gap c =
    (none, [], gap_, y, white, refl, is_gap, subst (λ (s : Begun). Closes closers (closed s) y end_ rest) (sym (added_none b)) c, refl)

not_ends : (v : Bool) → not (true && v) ≡ true → v ≡ false
not_ends true e = absurd cc
not_ends false e = refl

stands_by : (within : Within) (closers x here back : List ℕ) (lexeme : Lexeme) → not (no_items closers && value_ends within x) ≡ true → IsToken here back lexeme → x ≡ here ++ back → may_stand (in_block_of closers) lexeme ≡ true
stands_by within [] x here back lexeme goes is parts =
    may_stand_here within here back lexeme is (sym (ap (value_ends within) parts) ∙ not_ends (value_ends within x) goes)
stands_by within (closer ∷ closers) x here back lexeme goes is parts = refl

reads_back : (within : Within) (b later : Begun) (x y : List ℕ) (end_ : Begun) (rest : List ℕ) (r : Reads b later x y) → goes_on within b x ≡ true → Opens r.lexeme
    → Closes (closers_of r.lexeme ++ b.closers) (with_lexeme (r.here ++ (r.gap_text ++ y)) b r.lexeme) y end_ rest → Closes b.closers b (r.here ++ (r.gap_text ++ y)) end_ rest
reads_back within b later x y end_ rest r goes (nothing plain) c =
    closes_plain b.closers b r.here r.gap_text y r.lexeme r.white end_ rest r.is plain
    (stands_by within b.closers x r.here (r.gap_text ++ y) r.lexeme goes r.is r.parts) r.is_gap
    (subst (λ (s : List ℕ). Closes (s ++ b.closers) (with_lexeme (r.here ++ (r.gap_text ++ y)) b r.lexeme) y end_ rest) plain c)
reads_back within b later x y end_ rest r goes (bracket closer opening shut) c =
    closes_block b.closers b r.here r.gap_text y r.lexeme closer r.white end_ rest r.is opening r.is_gap
    (subst (λ (s : List ℕ). Closes (s ++ b.closers) (with_lexeme (r.here ++ (r.gap_text ++ y)) b r.lexeme) y end_ rest) opening c)

turn_back : (within : Within) (b later : Begun) (x y : List ℕ) (end_ : Begun) (rest : List ℕ) → goes_on within b x ≡ true → Reads b later x y ⊎ Shuts b later x y
    → Closes later.closers later y end_ rest → Closes b.closers b x end_ rest
turn_back within b later x y end_ rest goes (inl r) c =
    let then_ : later ≡ with_lexeme (r.here ++ (r.gap_text ++ y)) b r.lexeme = r.then_ ∙ ap (λ (s : List ℕ). with_lexeme s b r.lexeme) r.parts in
    subst (λ (s : List ℕ). Closes b.closers b s end_ rest) (sym r.parts)
    (reads_back within b later x y end_ rest r goes (opens r.lexeme) (subst (λ (s : Begun). Closes s.closers s y end_ rest) then_ c))
turn_back within b later x y end_ rest goes (inr r) c =
    let here : Closes (behind_first b.closers) (closed b) y end_ rest = subst (λ (s : Begun). Closes s.closers s y end_ rest) r.then_ c in
    let there : Closes r.closers (closed b) y end_ rest = subst (λ (s : List ℕ). Closes (behind_first s) (closed b) y end_ rest) r.was here in
    subst (λ (s : List ℕ). Closes b.closers b s end_ rest) (sym r.parts)
    (subst (λ (s : List ℕ). Closes s b (r.closer ∷ (r.gap_text ++ y)) end_ rest) (sym r.was) (closes_end r.closer r.closers b r.gap_text y r.white end_ rest r.is_gap there))

ended : (v : Bool) → not (true && v) ≡ false → v ≡ true
ended true e = refl
ended false e = absurd cc

closes_nothing : (within : Within) (closers : List ℕ) (b : Begun) (rest : List ℕ) → not (no_items closers && value_ends within rest) ≡ false → Closes closers b rest b rest × (value_ends within rest ≡ true)
closes_nothing within [] b rest g = ((none, [], refl, sym (added_none b), refl), ended (value_ends within rest) g)
closes_nothing within (closer ∷ closers) b rest g = absurd cc

finished_by : (b : Begun) (bytes : List ℕ) (w : Written) (rest : List ℕ) (t : Bool) → no_items (without_mark b.lexemes) ≡ t → cond t (stop bytes) (ok (written_of b, bytes)) ≡ ok (w, rest)
    → (no_items (without_mark b.lexemes) ≡ false) × (written_of b ≡ w) × (bytes ≡ rest)
finished_by b bytes w rest true is e = absurd cc
finished_by b bytes w rest false is e =
    let same = same_answer {E = List ℕ} (written_of b) w bytes rest e in
    (is, same.0, same.1)

value_of_closed : (within : Within) (gap_ mid : List ℕ) (white : Bool) (end_ : Begun) (w : Written) (rest bytes : List ℕ) → IsGap gap_ mid white → bytes ≡ gap_ ++ mid → Closes [] begun mid end_ rest
    → no_items (without_mark end_.lexemes) ≡ false → value_ends within rest ≡ true → written_of end_ ≡ w → (text : List ℕ) × IsValue within text rest w × (bytes ≡ text ++ rest)
value_of_closed within gap_ mid white end_ w rest bytes is_gap parts (c, back, are, same, last) some ends says = (
  gap_ ++ back,
  record {
    gap = gap_;
    back = back;
    white = white;
    components = c;
    is_gap = subst (λ (b : List ℕ). IsGap gap_ b white) last is_gap;
    are_components = are;
    some = subst (λ (s : Begun). no_items (without_mark s.lexemes) ≡ false) same some;
    ends = ends;
    says = sym says ∙ ap written_of same;
    whole = refl;
  },
  parts ∙ ap (λ (s : List ℕ). gap_ ++ s) last ∙ sym (append_assoc gap_ back rest),
)

value_takes : (within : Within) (bytes : List ℕ) (w : Written) (rest : List ℕ) → value within bytes ≡ ok (w, rest) → (text : List ℕ) × IsValue within text rest w × (bytes ≡ text ++ rest)
unfolding value repeat
value_takes within bytes w rest e =
    let a = bind_ok (gap bytes) (λ (v : Bool × List ℕ). turns (goes_on within) turn (suc (length v.1)) begun v.1 >>= λ (u : Begun × List ℕ). finished u.0 u.1) (w, rest) e in
    let b = bind_ok (turns (goes_on within) turn (suc (length a.0.1)) begun a.0.1) (λ (u : Begun × List ℕ). finished u.0 u.1) (w, rest) a.2 in
    let end_ = b.0.0 in
    let left = b.0.1 in
    let f = finished_by end_ left w rest (no_items (without_mark end_.lexemes)) refl b.2 in
    let p = gap_spells.takes bytes a.0.0 a.0.1 a.1 in
    let c = turns_back (goes_on within) turn (λ (s : Begun) (x : List ℕ). Closes s.closers s x end_ left × (value_ends within left ≡ true)) end_ left
    (λ g. closes_nothing within end_.closers end_ left g)
    (λ s later x y g turned closed_. (turn_back within s later x y end_ left g (turn_makes s later x y turned) closed_.0, closed_.1))
    (λ s later x y g turned. shorter_by s later x y (turn_makes s later x y turned))
    (suc (length a.0.1)) begun a.0.1 (omega arith) b.1 in
    let r = value_of_closed within p.0 a.0.1 a.0.0 end_ w left bytes p.1 p.2 c.0 f.0 c.1 f.1 in
    subst (λ (s : List ℕ). (text : List ℕ) × IsValue within text s w × (bytes ≡ text ++ s)) f.2 r

pub value_spells : (within : Within) → SpellsPlaced (value within) (IsValue within) Anything
value_spells within = record {
  takes = λ bytes w rest e. value_takes within bytes w rest e;
  again = λ text w rest is any. value_again within text w rest is;
}
