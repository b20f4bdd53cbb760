-- What the fragments of a part of a page lie in.
use Rattle.std.specs.Prelude.{⊤, ℕ, ◌≤◌, nat_le, Bool, ◌&&◌, ℤ, ◌+ℤ◌, ◌≤ℤ◌, int_le, int_lt}
use Rattle.wm_modes.specs.declared.rects.Rect.{Rect}
use Rattle.place_map.specs.Parts.{Parts, none, part}
use Rattle.place_map.specs.declared.bound.Bound.{Bound}

-- a fragment of a node lies in a bound: its rectangle between the edges, and the node's number between the least and the greatest one
pub record IsIn (bound : Bound) (node : ℕ) (rect : Rect) : Type 0 where
  pub left : bound.left ≤ℤ rect.x
  pub top : bound.top ≤ℤ rect.y
  pub right : (rect.x +ℤ rect.w) ≤ℤ bound.right
  pub bottom : (rect.y +ℤ rect.h) ≤ℤ bound.bottom
  pub first : bound.first ≤ node
  pub last : node ≤ bound.last

-- these fragments and all inside them
abbrev pub AreIn : Bound → Parts → Type 0
AreIn bound none = ⊤
AreIn bound (part name rect kind inner next) = IsIn bound name.node rect × AreIn bound inner × AreIn bound next

abbrev pub is_between : (start end_ place : ℤ) → Bool
is_between start end_ place = int_le start place && int_lt place end_

-- the left and the top edge belong to it, the right and the bottom edge don't
abbrev pub holds : Bound → (x y : ℤ) → Bool
holds bound x y = is_between bound.left bound.right x && is_between bound.top bound.bottom y

-- whether a fragment that lies in it can be of a node
abbrev pub spans : Bound → (node : ℕ) → Bool
spans bound node = nat_le bound.first node && nat_le node bound.last

-- what lies in one bound lies in another that is no narrower
pub record IsNoWider (inner outer : Bound) : Type 0 where
  pub left : outer.left ≤ℤ inner.left
  pub top : outer.top ≤ℤ inner.top
  pub right : inner.right ≤ℤ outer.right
  pub bottom : inner.bottom ≤ℤ outer.bottom
  pub first : outer.first ≤ inner.first
  pub last : inner.last ≤ outer.last
