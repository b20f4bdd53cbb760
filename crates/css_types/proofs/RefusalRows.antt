-- The values that are refused. docs/PROFILE/properties.md has the same.
use Rattle.std.specs.Prelude.{◌≡◌, ℕ, List, [], ◌∷◌, map, codes}
use Rattle.std.proofs.Common.{refl}
use Rattle.css_types.specs.declared.refusal.Refused.{Refused}
use Rattle.css_types.specs.declared.refusal.Refused.TheVariants as refused
use Rattle.css_types.specs.declared.refusal.TheConstants.{REFUSALS}

abbrev row : List ℕ → Refused → List (List ℕ) → List ℕ × Refused × List (List ℕ)
row property which names = (property, which, names)

all : map (λ row. (row.0.now, row.1, map (λ name. name.now) row.2.now)) REFUSALS ≡
    (row (codes "display") refused.Names (codes "list-item" ∷ codes "contents" ∷ codes "flex" ∷ codes "inline-flex" ∷ codes "grid" ∷ codes "inline-grid" ∷ codes "ruby" ∷ codes "run-in" ∷ codes "table" ∷ codes "inline-table" ∷ [])
    ∷ row (codes "display") refused.Beginning (codes "table-" ∷ [])
    ∷ row (codes "float") refused.Names (codes "left" ∷ codes "right" ∷ codes "inline-start" ∷ codes "inline-end" ∷ [])
    ∷ row (codes "position") refused.Names (codes "absolute" ∷ codes "fixed" ∷ codes "sticky" ∷ [])
    ∷ row (codes "overflow") refused.Names (codes "hidden" ∷ codes "scroll" ∷ codes "auto" ∷ codes "clip" ∷ [])
    ∷ row (codes "overflow-x") refused.Names (codes "hidden" ∷ codes "scroll" ∷ codes "auto" ∷ codes "clip" ∷ [])
    ∷ row (codes "overflow-y") refused.Names (codes "hidden" ∷ codes "scroll" ∷ codes "auto" ∷ codes "clip" ∷ [])
    ∷ row (codes "white-space") refused.Names (codes "nowrap" ∷ codes "pre" ∷ codes "pre-wrap" ∷ codes "pre-line" ∷ codes "break-spaces" ∷ [])
    ∷ row (codes "box-sizing") refused.Names (codes "border-box" ∷ [])
    ∷ row (codes "columns") refused.AllBut (codes "auto" ∷ codes "none" ∷ [])
    ∷ row (codes "column-count") refused.AllBut (codes "auto" ∷ codes "none" ∷ [])
    ∷ row (codes "column-width") refused.AllBut (codes "auto" ∷ codes "none" ∷ [])
    ∷ row (codes "transform") refused.AllBut (codes "auto" ∷ codes "none" ∷ [])
    ∷ row (codes "break-before") refused.AllBut (codes "auto" ∷ codes "avoid" ∷ [])
    ∷ row (codes "break-after") refused.AllBut (codes "auto" ∷ codes "avoid" ∷ [])
    ∷ row (codes "page-break-before") refused.AllBut (codes "auto" ∷ codes "avoid" ∷ [])
    ∷ row (codes "page-break-after") refused.AllBut (codes "auto" ∷ codes "avoid" ∷ [])
    ∷ [])
all = refl
