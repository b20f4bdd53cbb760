-- The items among parts, part by part.
use Rattle.std.proofs.Common.{append_assoc, ◌≡◌, refl, sym, ap, ◌∙◌, ℕ, ◌+◌, ◌<◌, List, [], ◌∷◌, ◌++◌, length, map, drop, get_or}
use Rattle.std.proofs.lemmas.List.{append-nil, drop_more, map-append}
use Rattle.para_prepare.specs.declared.letter.Letter.{Letter}
use Rattle.para_prepare.specs.declared.parts.Part as code
use Rattle.para_prepare.specs.Parts.{Part, opens, closes, control, item, Raw, raws}
use Rattle.para_prepare.specs.Views.{part_of, parts_of}

pub raws_more : (part : Part) (parts : List Part) → raws (part ∷ parts) ≡ raws (part ∷ []) ++ raws parts
raws_more (opens bidi dir) parts = refl
raws_more closes parts = refl
raws_more (control c class) parts = refl
raws_more (item raw) parts = refl

pub raws_append : (parts more : List Part) → raws (parts ++ more) ≡ raws parts ++ raws more
raws_append [] more = refl
raws_append (opens bidi dir ∷ parts) more = raws_append parts more
raws_append (closes ∷ parts) more = raws_append parts more
raws_append (control c class ∷ parts) more = raws_append parts more
raws_append (item raw ∷ parts) more = ap (λ later. raw ∷ later) (raws_append parts more)

-- something of each item has been put out up to a part, and then that part's own
pub raws_step : {X : Type 0} (f : Raw → X) (letters : List Letter) (parts : List code.Part) (k : ℕ) (part : code.Part) (out more all : List X)
    → k < length parts → part ≡ get_or parts k part
    → out ++ map f (raws (parts_of letters (drop k parts))) ≡ all
    → more ≡ out ++ map f (raws (part_of letters part ∷ []))
    → more ++ map f (raws (parts_of letters (drop (k + 1) parts))) ≡ all
raws_step f letters parts k part out more all lt is before made =
    let there : drop k parts ≡ part ∷ drop (k + 1) parts = drop_more parts k part lt ∙ ap (λ p. p ∷ drop (k + 1) parts) (sym is) in
    let rest = parts_of letters (drop (k + 1) parts) in
    let split : map f (raws (parts_of letters (drop k parts))) ≡ map f (raws (part_of letters part ∷ [])) ++ map f (raws rest) =
    ap (λ left. map f (raws (parts_of letters left))) there ∙ ap (map f) (raws_more (part_of letters part) rest) ∙ map-append f (raws (part_of letters part ∷ [])) (raws rest) in
    ap (λ more. more ++ map f (raws rest)) made ∙ append_assoc out (map f (raws (part_of letters part ∷ []))) (map f (raws rest)) ∙ ap (λ later. out ++ later) (sym split) ∙ before

pub raws_end : {X : Type 0} (f : Raw → X) (letters : List Letter) (parts left : List code.Part) (out all : List X)
    → left ≡ [] → out ++ map f (raws (parts_of letters left)) ≡ all → out ≡ all
raws_end f letters parts left out all none done = sym (append-nil out) ∙ sym (ap (λ left. out ++ map f (raws (parts_of letters left))) none) ∙ done
