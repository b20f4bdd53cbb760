-- A character of the repertoire is upright exactly from U+3000 on.
use Rattle.std.proofs.Common.{◌≡◌, ℕ, ◌≤◌, Bool, true, false, ◌&&◌, leb, ltb, cond, inl, inr, List, [], ◌∷◌, Some, refl, ap, arith}
use Rattle.std.specs.Prelude.{find, option_map}
use Rattle.std.proofs.lemmas.Bool.{and_parts, cases_Bool, leb-true, ltb-true, le-leb, lt-leb}
use Rattle.wm_chars.specs.Laws.{AreUprightFromU3000}
use Rattle.wm_chars.specs.Repertoire.{has, row_of, orientation}
use Rattle.wm_chars.specs.declared.classes.Orient.{Orient}
use Rattle.wm_chars.specs.declared.classes.Orient.TheVariants.{R, V}
use Rattle.wm_chars.specs.declared.rows.Row.{Row}
use Rattle.wm_chars.specs.declared.rows.TheConstants.{ROWS}

-- the whole row is on its orientation's side of U+3000
abbrev is_apart : Orient → Row → Bool
is_apart R row = ltb row.last 0x3000
is_apart V row = leb 0x3000 row.first

abbrev are_apart : List Row → Bool
are_apart [] = true
are_apart (row ∷ rows) = is_apart row.orient row && are_apart rows

by_row : (o : Orient) (c : ℕ) (row : Row) → is_apart o row ≡ true → row.first ≤ c → c ≤ row.last → o ≡ cond (leb 0x3000 c) V R
by_row R c row apart begins ends = let below : leb 0x3000 c ≡ false = lt-leb 0x3000 c (omega (arith, ltb-true row.last 0x3000 apart)) in rw below refl
by_row V c row apart begins ends = let above : leb 0x3000 c ≡ true = le-leb 0x3000 c (omega (arith, leb-true 0x3000 row.first apart)) in rw above refl

by_rows : (c : ℕ) (rows : List Row) → are_apart rows ≡ true → option_map (λ row. row.orient) (find (has c) rows) ≡ option_map (λ row. cond (leb 0x3000 c) V R) (find (has c) rows)
by_rows c [] apart = refl
by_rows c (row ∷ rows) apart =
    let parts = and_parts (is_apart row.orient row) (are_apart rows) apart in
    elim (cases_Bool (has c row)) [
      | inl here ↦
          let inside = and_parts (leb row.first c) (leb c row.last) here in
          rw here (ap (λ (o : Orient). Some o) (by_row row.orient c row parts.0 (leb-true _ _ inside.0) (leb-true _ _ inside.1)))
      | inr out ↦ rw out (by_rows c rows parts.1)
    ]

pub upright_from_u_3000 : AreUprightFromU3000
unfolding row_of orientation
upright_from_u_3000 c = by_rows c ROWS refl
