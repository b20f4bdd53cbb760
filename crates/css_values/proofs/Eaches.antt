-- The values of a shorthand, token by token.
use Rattle.std.proofs.Common.{◌≡◌, ℕ, ◌<◌, ◌≤◌, ◌+◌, List, [], ◌∷◌, ◌++◌, length, drop, get_or, Some, None, refl, sym, ap, ◌∙◌, append_assoc}
use Rattle.std.specs.Prelude.{Option, option_map}
use Rattle.std.proofs.lemmas.List.{drop_all, append-nil, drop_more}
use Rattle.css_tokens.specs.declared.token.Token.{Token}
use Rattle.css_tokens.specs.Tokens.{Lexeme, lexeme_of}
use Rattle.css_values.specs.Longhand.{single}
use Rattle.css_values.specs.Shorthand.{before_others, each}
use Rattle.css_values.specs.Views.{lexemes_of}
use Rattle.css_types.specs.declared.table.Values.{Values}
use Rattle.css_types.specs.declared.value.Value.{Value}

-- these, and those that are given behind them
abbrev pub behind : List Value → Option (List Value) → Option (List Value)
behind all given = option_map (λ others. all ++ others) given

step : (v : Values) (lexeme : Lexeme) (others : List Lexeme) → each v (lexeme ∷ others) ≡ before_others (single v lexeme) (each v others)
unfolding each
step v lexeme others = refl

done : (v : Values) → each v [] ≡ Some []
unfolding each
done v = refl

moved : (all : List Value) (x : Value) (given : Option (List Value)) → behind all (before_others (Some x) given) ≡ behind (all ++ x ∷ []) given
moved all x (Some others) = ap Some (sym (append_assoc all (x ∷ []) others))
moved all x None = refl

here_of : (v : Values) (tokens : List Token) (i : ℕ) (d : Token) (x : Option Value) → i < length tokens → x ≡ single v (lexeme_of (get_or tokens i d))
    → each v (lexemes_of (drop i tokens)) ≡ before_others x (each v (lexemes_of (drop (i + 1) tokens)))
here_of v tokens i d x lt e =
    rw (drop_more tokens i d lt) (step v (lexeme_of (get_or tokens i d)) (lexemes_of (drop (i + 1) tokens))
    ∙ ap (λ now. before_others now (each v (lexemes_of (drop (i + 1) tokens)))) (sym e))

pub each_goes_on : (v : Values) (tokens : List Token) (i : ℕ) (d : Token) (all new : List Value) (x : Value) (total : Option (List Value)) → i < length tokens
    → Some x ≡ single v (lexeme_of (get_or tokens i d)) → new ≡ all ++ x ∷ [] → behind all (each v (lexemes_of (drop i tokens))) ≡ total → behind new (each v (lexemes_of (drop (i + 1) tokens))) ≡ total
each_goes_on v tokens i d all new x total lt e made so_far =
    let here : behind all (each v (lexemes_of (drop i tokens))) ≡ behind all (before_others (Some x) (each v (lexemes_of (drop (i + 1) tokens)))) =
    ap (behind all) (here_of v tokens i d (Some x) lt e) in
    rw made (sym (here ∙ moved all x (each v (lexemes_of (drop (i + 1) tokens)))) ∙ so_far)

pub each_stops : (v : Values) (tokens : List Token) (i : ℕ) (d : Token) (all : List Value) (total : Option (List Value)) → i < length tokens
    → None ≡ single v (lexeme_of (get_or tokens i d)) → behind all (each v (lexemes_of (drop i tokens))) ≡ total → None ≡ total
each_stops v tokens i d all total lt e so_far =
    let here : behind all (each v (lexemes_of (drop i tokens))) ≡ None =
    ap (behind all) (here_of v tokens i d None lt e) in
    sym here ∙ so_far

pub each_ends : (v : Values) (tokens : List Token) (i : ℕ) (all : List Value) (total : Option (List Value)) → length tokens ≤ i → behind all (each v (lexemes_of (drop i tokens))) ≡ total → Some all ≡ total
each_ends v tokens i all total le so_far =
    let none : drop i tokens ≡ [] = drop_all i tokens le in
    let here : behind all (each v (lexemes_of (drop i tokens))) ≡ Some all = rw none (rw (done v) (ap Some (append-nil all))) in
    sym here ∙ so_far
