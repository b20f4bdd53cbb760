-- What the public calls say, of what the readers give.
use Rattle.std.proofs.Common.{◌≡◌, ℕ, suc, Bool, true, false, cond, List, [], ◌∷◌, ◌++◌, length, codes, Ok, Err, sym, ap, subst, ◌∙◌, append-nil, refl}
use Rattle.std.specs.Prelude.{⊤}
use Rattle.reading.specs.Readers.{Read, Reader, ReadOr, give, mapped, read_or, strip, starts, turns, repeat}
use Rattle.reading.proofs.SpellLaws.{stop, Stopped, at_first, at_second, bind_err, same_stop}
use Rattle.reading.proofs.Turns.{turns_stop_back}
use Rattle.css_types.specs.declared.value.Declaration.{Declaration}
use Rattle.css_tokens.specs.Lexing.{gap}
use Rattle.css_values.specs.Answered.{RefusesAttribute, IsWithinLimit}
use Rattle.css_values.specs.Declarations.{Stated, before_rest, declaration, declarations, declared, goes_on, item, judged, stated, turn}
use Rattle.reading.specs.Stop.{Stops, place_before}
use Rattle.css_values.specs.Error.{Fault, Tells, spelled, syntax}
use Rattle.css_values.specs.Grammar.{AreDeclarations}
use Rattle.css_values.specs.Judging.{is_unsupported}
use Rattle.css_values.specs.Value.{no_items}
use Rattle.css_values.specs.declared.error.CssError.{CssError}
use Rattle.css_values.specs.declared.error.CssError.TheVariants as errors
use Rattle.css_values.specs.declared.error.Refusal.{Refusal}
use Rattle.css_values.specs.declared.error.Refusal.TheVariants.{Unsupported, TooManyRules}
use Rattle.css_values.specs.Error.{Stop}
use Rattle.reading.specs.declared.stop.Stop.TheVariants as stops
use Rattle.css_values.specs.declared.within.Within.TheVariants.{Attribute}
use Rattle.css_values.proofs.DeclarationLaws.{declarations_spells}

abbrev good : {A : Type 0} → A × List ℕ → ReadOr Fault A
good x = Ok x

-- ---- declarations that were read

nothing_left : (rest : List ℕ) → no_items rest ≡ true → rest ≡ []
nothing_left [] e = refl
nothing_left (byte ∷ rest) e = absurd cc

pub attribute_found : (end_ : ℕ) (text rest : List ℕ) (all : List Declaration) → declarations Attribute end_ text ≡ Ok (all, rest) → AreDeclarations Attribute end_ text [] all
attribute_found end_ text rest all e =
    let t = (declarations_spells Attribute end_).takes text all rest e in
    let none = nothing_left rest t.1.ends in
    let whole : text ≡ t.0 = t.2 ∙ ap (λ (r : List ℕ). t.0 ++ r) none ∙ append-nil t.0 in
    subst (λ (s : List ℕ). AreDeclarations Attribute end_ s [] all) (sym whole) (subst (λ (r : List ℕ). AreDeclarations Attribute end_ t.0 r all) none t.1)

-- ---- a refusal

attribute_refused : (end_ : ℕ) (text : List ℕ) (fault : Fault) → declarations Attribute end_ text ≡ Err fault → (all : List Declaration) → AreDeclarations Attribute end_ text [] all → ⊥
attribute_refused end_ text fault e all is =
    let read : declarations Attribute end_ text ≡ good (all, []) =
    ap (declarations Attribute end_) (sym (append-nil text)) ∙ (declarations_spells Attribute end_).again text all [] is tt in
    let clash : good (all, []) ≡ Err fault = sym read ∙ e in
    absurd cc

-- ---- in an attribute the limit refuses nothing

abbrev Few : Fault → Type 0
Few told = told.0 ≡ TooManyRules → ⊥

syntax_few : (left : List ℕ) → Few (syntax left)
syntax_few left e = absurd cc

unsupported_few : (left : List ℕ) → Few (Unsupported, left)
unsupported_few left e = absurd cc

told_few : {A : Type 0} (read : Read A) (told : Fault) → read_or syntax read ≡ stop told → Few told
told_few (Ok x) told e = absurd cc
told_few {A = A} (Err left) told e = subst Few (same_stop {A = A} (syntax left) told e) (syntax_few left)

spelled_few : {A : Type 0} (f : Reader A) (bytes : List ℕ) (told : Fault) → spelled f bytes ≡ stop told → Few told
spelled_few f bytes told e = told_few (f bytes) told e

mapped_few : {A B : Type 0} (view : A → B) (f : Reader A) (bytes : List ℕ) (told : Fault) → Stopped (spelled f bytes) (λ (x : A × List ℕ). give (view x.0) x.1) told → Few told
mapped_few view f bytes told (at_first e) = spelled_few f bytes told e
mapped_few view f bytes told (at_second x e g) = absurd cc

spelled_mapped_few : {A B : Type 0} (view : A → B) (f : Reader A) (bytes : List ℕ) (told : Fault) → mapped view (spelled f) bytes ≡ stop told → Few told
spelled_mapped_few {A = A} view f bytes told e = mapped_few view f bytes told (bind_err (spelled f bytes) (λ (x : A × List ℕ). give (view x.0) x.1) told e)

judged_few_by : (left rest : List ℕ) (all : List Declaration) (told : Fault) (t : Bool) → before_rest rest (cond t (Err (Unsupported, left)) (Ok all)) ≡ stop told → Few told
judged_few_by left rest all told true e = subst Few (same_stop {A = List Declaration} (Unsupported, left) told e) (unsupported_few left)
judged_few_by left rest all told false e = absurd cc

judged_few : (end_ : ℕ) (kept : List Declaration) (s : Stated) (rest : List ℕ) (told : Fault) → judged Attribute end_ kept s rest ≡ stop told → Few told
judged_few end_ kept s rest told e = judged_few_by s.left rest (kept ++ declared end_ s) told (is_unsupported s.name s.value.has_var s.value.lexemes) e

follow_few : (end_ : ℕ) (kept : List Declaration) (bytes : List ℕ) (told : Fault) → Stopped (spelled (stated Attribute) bytes) (λ (x : Stated × List ℕ). judged Attribute end_ kept x.0 x.1) told → Few told
follow_few end_ kept bytes told (at_first e) = spelled_few (stated Attribute) bytes told e
follow_few end_ kept bytes told (at_second x e g) = judged_few end_ kept x.0 x.1 told g

declaration_few : (end_ : ℕ) (kept : List Declaration) (bytes : List ℕ) (told : Fault) → declaration Attribute end_ kept bytes ≡ stop told → Few told
unfolding declaration
declaration_few end_ kept bytes told e = follow_few end_ kept bytes told (bind_err (spelled (stated Attribute) bytes) (λ (x : Stated × List ℕ). judged Attribute end_ kept x.0 x.1) told e)

item_few_by : (end_ : ℕ) (kept : List Declaration) (bytes : List ℕ) (told : Fault) (t : Bool)
    → cond t (mapped (λ (u : ⊤). kept) (spelled (strip (codes ";"))) bytes) (declaration Attribute end_ kept bytes) ≡ stop told → Few told
item_few_by end_ kept bytes told true e = spelled_mapped_few (λ (u : ⊤). kept) (strip (codes ";")) bytes told e
item_few_by end_ kept bytes told false e = declaration_few end_ kept bytes told e

turn_few_by : (end_ : ℕ) (kept : List Declaration) (bytes : List ℕ) (told : Fault)
    → Stopped (item Attribute end_ kept bytes) (λ (x : List Declaration × List ℕ). mapped (λ (white : Bool). x.0) (spelled gap) x.1) told → Few told
turn_few_by end_ kept bytes told (at_first e) = item_few_by end_ kept bytes told (starts (codes ";") bytes) e
turn_few_by end_ kept bytes told (at_second x e g) = spelled_mapped_few (λ (white : Bool). x.0) gap x.1 told g

turn_few : (end_ : ℕ) (kept : List Declaration) (bytes : List ℕ) (told : Fault) → turn Attribute end_ kept bytes ≡ stop told → Few told
turn_few end_ kept bytes told e =
    turn_few_by end_ kept bytes told (bind_err (item Attribute end_ kept bytes) (λ (x : List Declaration × List ℕ). mapped (λ (white : Bool). x.0) (spelled gap) x.1) told e)

all_few_by : (end_ : ℕ) (bytes : List ℕ) (told : Fault)
    → Stopped (spelled gap bytes) (λ (x : Bool × List ℕ). turns (goes_on Attribute) (turn Attribute end_) (suc (length x.1)) [] x.1) told → Few told
all_few_by end_ bytes told (at_first e) = spelled_few gap bytes told e
all_few_by end_ bytes told (at_second x e g) = turns_stop_back (goes_on Attribute) (turn Attribute end_) (λ (kept : List Declaration) (b : List ℕ). Few told) told
    (λ kept b goes stopped. turn_few end_ kept b told stopped) (λ kept later b c goes turned few. few) (suc (length x.1)) [] x.1 g

attribute_few : (end_ : ℕ) (text : List ℕ) (kind : Refusal) (left : List ℕ) → declarations Attribute end_ text ≡ Err (kind, left) → kind ≡ TooManyRules → ⊥
unfolding declarations repeat
attribute_few end_ text kind left e =
    all_few_by end_ text (kind, left) (bind_err (spelled gap text) (λ (x : Bool × List ℕ). turns (goes_on Attribute) (turn Attribute end_) (suc (length x.1)) [] x.1) (kind, left) e)

-- ---- the same by where the code stopped

stopped_error : (end_ : ℕ) (kind : Refusal) (left : List ℕ) (error : CssError) (P : CssError → Type 0) → error ≡ errors.Refused kind (place_before end_ left) → P (errors.Refused kind (place_before end_ left)) → P error
stopped_error end_ kind left error P e p = subst P (sym e) p

pub stop_refuses : (end_ : ℕ) (text : List ℕ) (at : Stop) (error : CssError) → Stops at (declarations Attribute end_ text) → Tells end_ at error → RefusesAttribute end_ text error
stop_refuses end_ text (stops.Refused kind left) error e tells =
    stopped_error end_ kind left.now error (RefusesAttribute end_ text) tells (attribute_refused end_ text (kind, left.now) e)
stop_refuses end_ text stops.Memory error e tells = subst (RefusesAttribute end_ text) (sym tells) tt

pub stop_within_limit : (end_ : ℕ) (text : List ℕ) (at : Stop) (error : CssError) → Stops at (declarations Attribute end_ text) → Tells end_ at error → IsWithinLimit error
stop_within_limit end_ text (stops.Refused kind left) error e tells =
    stopped_error end_ kind left.now error IsWithinLimit tells (attribute_few end_ text kind left.now e)
stop_within_limit end_ text stops.Memory error e tells = subst IsWithinLimit (sym tells) tt
