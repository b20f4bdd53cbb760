-- Bidi texts that are made piece by piece.
use Rattle.std.proofs.Common.{◌≡◌, refl, sym, ap, List, [], ◌∷◌, ◌++◌}
use Rattle.std.proofs.lemmas.List.{append_assoc}
use Rattle.para_prepare.specs.declared.bidi_text.Character.{Character}
use Rattle.para_prepare.specs.BidiText.{in_front}

pub in_front_twice : (front next : List Character) (texts : List (List Character)) → in_front front (in_front next texts) ≡ in_front (front ++ next) texts
in_front_twice front next [] = refl
in_front_twice front next (text ∷ texts) = ap (λ text. text ∷ texts) (sym (append_assoc front next text))
