-- The lines that answer a probe (docs/PROFILE/points.md).
use Rattle.std.specs.Prelude.{ℕ, List, ◌++◌, codes, decimal, Option, Some, None, ℤ}
use Rattle.std.specs.Fmt.{signed_decimal}
use Rattle.wm_modes.specs.declared.rects.Rect.{Rect}
use Rattle.hit_caret.specs.declared.hits.Hit.{Hit}

-- a number from 0 behind a space
unfoldable pub count : ℕ → List ℕ
count number = codes " " ++ decimal number

-- a length behind a space
unfoldable pub word : ℤ → List ℕ
word number = codes " " ++ signed_decimal number

-- what stands at a point: the text node, the places of the first character there and behind the last, and the nearer of the two
unfoldable pub hit_line : Option Hit → List ℕ
hit_line (Some hit) = codes "hit" ++ count hit.node ++ count hit.first ++ count hit.end ++ count hit.place ++ codes "\n"
hit_line None = codes "miss\n"

-- where a caret stands: left and top edge, width and height
unfoldable pub caret_line : Option Rect → List ℕ
caret_line (Some caret) = codes "caret" ++ word caret.x ++ word caret.y ++ word caret.w ++ word caret.h ++ codes "\n"
caret_line None = codes "nocaret\n"
