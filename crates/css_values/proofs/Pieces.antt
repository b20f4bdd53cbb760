-- The pieces of a border, token by token.
use Rattle.std.proofs.Common.{◌≡◌, ℕ, ◌<◌, ◌≤◌, ◌+◌, List, [], ◌∷◌, length, drop, get_or, Some, None, refl, sym, ap, ◌∙◌}
use Rattle.std.specs.Prelude.{Option}
use Rattle.std.proofs.lemmas.List.{drop_all, drop_more}
use Rattle.css_tokens.specs.declared.token.Token.{Token}
use Rattle.css_tokens.specs.Tokens.{Lexeme, lexeme_of}
use Rattle.css_values.specs.Border.{and_then, pieces, with_piece}
use Rattle.css_values.specs.declared.border.Found.{Found}
use Rattle.css_values.specs.Views.{lexemes_of}

step : (lexeme : Lexeme) (others : List Lexeme) (g : Found) → pieces (lexeme ∷ others) g ≡ and_then (with_piece lexeme g) (pieces others)
unfolding pieces
step lexeme others g = refl

done : (g : Found) → pieces [] g ≡ Some g
unfolding pieces
done g = refl

pub pieces_go_on : (tokens : List Token) (i : ℕ) (d : Token) (g new : Found) (total : Option Found) → i < length tokens
    → Some new ≡ with_piece (lexeme_of (get_or tokens i d)) g → pieces (lexemes_of (drop i tokens)) g ≡ total → pieces (lexemes_of (drop (i + 1) tokens)) new ≡ total
pieces_go_on tokens i d g new total lt e so_far =
    let here : pieces (lexemes_of (drop i tokens)) g ≡ pieces (lexemes_of (drop (i + 1) tokens)) new =
    rw (drop_more tokens i d lt) (step (lexeme_of (get_or tokens i d)) (lexemes_of (drop (i + 1) tokens)) g
    ∙ ap (λ now. and_then now (pieces (lexemes_of (drop (i + 1) tokens)))) (sym e)) in
    sym here ∙ so_far

pub pieces_stop : (tokens : List Token) (i : ℕ) (d : Token) (g : Found) (total : Option Found) → i < length tokens
    → None ≡ with_piece (lexeme_of (get_or tokens i d)) g → pieces (lexemes_of (drop i tokens)) g ≡ total → None ≡ total
pieces_stop tokens i d g total lt e so_far =
    let here : pieces (lexemes_of (drop i tokens)) g ≡ None =
    rw (drop_more tokens i d lt) (step (lexeme_of (get_or tokens i d)) (lexemes_of (drop (i + 1) tokens)) g
    ∙ ap (λ now. and_then now (pieces (lexemes_of (drop (i + 1) tokens)))) (sym e)) in
    sym here ∙ so_far

pub pieces_end : (tokens : List Token) (i : ℕ) (g : Found) (total : Option Found) → length tokens ≤ i → pieces (lexemes_of (drop i tokens)) g ≡ total → Some g ≡ total
pieces_end tokens i g total le so_far =
    let none : drop i tokens ≡ [] = drop_all i tokens le in
    sym (done g) ∙ rw none at so_far
