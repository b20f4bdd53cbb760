-- The elements that are open, the innermost first.
use Rattle.std.proofs.Common.{◌≡◌, ◌≢◌, ◌∙◌, ℕ, ◌+◌, ◌<◌, ◌≤◌, List, [], ◌∷◌, ◌++◌, length, get_or, arith}
use Rattle.std.specs.Prelude.{⊤}
use Rattle.std.proofs.lemmas.List.{get_or_append_left, get_or_push}
use Rattle.html_read.specs.Values as html
use Rattle.html_read.specs.Values.{Kind}
use Rattle.html_read.specs.Shape.{with_opened}

-- each stands behind those that it is within, and all before this place
abbrev pub AreBelow : (place : ℕ) → List ℕ → Type 0
AreBelow place [] = ⊤
AreBelow place (number ∷ opened) = (number < place) × AreBelow number opened

-- this one isn't open
abbrev pub Lacks : (number : ℕ) → List ℕ → Type 0
Lacks number [] = ⊤
Lacks number (other ∷ opened) = (number ≢ other) × Lacks number opened

-- a place behind all that are open isn't one of them
pub below_lacks : (opened : List ℕ) (limit number : ℕ) → AreBelow limit opened → limit ≤ number → Lacks number opened
below_lacks [] limit number below behind = tt
below_lacks (other ∷ opened) limit number below behind = (λ is. omega (arith, below.0, behind, is), below_lacks opened other number below.1 (omega (arith, below.0, behind)))

-- what isn't open isn't where some were closed
pub lacks_still : (closed still : List ℕ) (number : ℕ) → Lacks number (closed ++ still) → Lacks number still
lacks_still [] still number lacks = lacks
lacks_still (other ∷ closed) still number lacks = lacks_still closed still number lacks.1

pub lacks_opened : (kind : Kind) (place : ℕ) (still : List ℕ) (number : ℕ) → Lacks number still → number < place → Lacks number (with_opened kind place still)
lacks_opened (html.element tag acting) place still number lacks before = (λ is. omega (arith, before, is), lacks)
lacks_opened (html.text letters) place still number lacks before = lacks

pub below_more : (opened : List ℕ) (limit more : ℕ) → limit ≤ more → AreBelow limit opened → AreBelow more opened
below_more [] limit more longer below = tt
below_more (number ∷ opened) limit more longer below = (omega (arith, longer, below.0), below.1)

pub below_still : (closed still : List ℕ) (limit : ℕ) → AreBelow limit (closed ++ still) → AreBelow limit still
below_still [] still limit below = below
below_still (other ∷ closed) still limit below = below_more still other limit (omega (arith, below.0)) (below_still closed still other below.1)

pub below_opened : (kind : Kind) (place : ℕ) (still : List ℕ) → AreBelow place still → AreBelow (place + 1) (with_opened kind place still)
below_opened (html.element tag acting) place still below = (omega arith, below)
below_opened (html.text letters) place still below = below_more still place (place + 1) (omega arith) below

-- the depth of each element that is open is how many are open from it outwards
abbrev pub AreDeep : (known opened : List ℕ) → Type 0
AreDeep known [] = ⊤
AreDeep known (number ∷ opened) = (get_or known number 0 ≡ length (number ∷ opened)) × AreDeep known opened

pub deep_still : (known closed still : List ℕ) → AreDeep known (closed ++ still) → AreDeep known still
deep_still known [] still deep = deep
deep_still known (number ∷ closed) still deep = deep_still known closed still deep.1

deep_more : (known more opened : List ℕ) (limit : ℕ) → AreBelow limit opened → limit ≤ length known → AreDeep known opened → AreDeep (known ++ more) opened
deep_more known more [] limit below within deep = tt
deep_more known more (number ∷ opened) limit below within deep = (
  get_or_append_left known more 0 number (omega (arith, below.0, within)) ∙ deep.0,
  deep_more known more opened number below.1 (omega (arith, below.0, within)) deep.1,
)

pub deep_opened : (kind : Kind) (known still : List ℕ) (place depth : ℕ) → length known ≡ place → AreBelow place still → AreDeep known still → depth ≡ length still + 1
    → AreDeep (known ++ depth ∷ []) (with_opened kind place still)
deep_opened (html.element tag acting) known still place depth count below deep is =
    (get_or_push known depth 0 place count ∙ (is ∙ omega arith), deep_more known (depth ∷ []) still place below (omega (arith, count)) deep)
deep_opened (html.text letters) known still place depth count below deep is = deep_more known (depth ∷ []) still place below (omega (arith, count)) deep
