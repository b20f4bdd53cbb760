-- Standings that are added text by text.
use Rattle.std.proofs.Common.{◌≡◌, refl, sym, ◌∙◌, ℕ, Bool, false, List, [], ◌++◌, Option, None}
use Rattle.std.proofs.lemmas.List.{append-nil}
use Rattle.para_prepare.specs.declared.bidi_text.Character.{Character}
use Rattle.para_prepare.specs.declared.standing.Standing.{Standing}
use Rattle.para_prepare.specs.Standing.{standings_by}

pub stood_whole : (old new : List Standing) (base : ℕ) (begun : Bool) (apart : Option ℕ) (text : List Character) (levels : List ℕ)
    → ((more : List Character) (further : List ℕ) → new ++ standings_by base begun apart more further ≡ old ++ standings_by base false None (text ++ more) (levels ++ further))
    → new ≡ old ++ standings_by base false None text levels
stood_whole old new base begun apart text levels h =
    sym (append-nil new) ∙ h [] [] ∙ rw (append-nil text) (rw (append-nil levels) refl)
