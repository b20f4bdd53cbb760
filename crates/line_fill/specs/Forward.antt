-- Items whose lengths are not below 0.
use Rattle.std.specs.Prelude.{◌≡◌, ℕ, ◌+◌, ◌<◌, ◌≤◌, ◌^◌, List, length, Option, Some, None, ℤ, pos, ◌≤ℤ◌, unsigned_abs, Bool, true, false}
use Rattle.line_fill.specs.declared.forward.Piece.{Piece}
use Rattle.line_fill.specs.declared.forward.Stop.{Stop}
use Rattle.line_fill.specs.declared.item.FillItem.{FillItem}
use Rattle.line_fill.specs.declared.sums.Place.{Place}
use Rattle.line_fill.specs.Filling.{line_end}
use Rattle.line_fill.specs.Sums.{place_after, place_before}

pub record IsForward (item : FillItem) : Type 0 where
  pub advance : pos 0 ≤ℤ item.advance
  pub before : pos 0 ≤ℤ item.before
  pub after : pos 0 ≤ℤ item.after

-- the last end that fits, else the first
abbrev pub last_or : {A : Type 0} → Option A → (first : A) → A
last_or None first = first
last_or (Some end) first = end

-- a piece without items, and with one item more, which is the one of this number
abbrev pub piece_at : Place → Piece
piece_at start = record { start = start; end = start; content = start }

abbrev pub content_after : Bool → (content end_ : Place) → Place
content_after true content end_ = content
content_after false content end_ = end_

abbrev pub piece_after : Piece → FillItem → (count : ℕ) → Piece
piece_after piece item count =
    let end_ = place_after piece.end item count in
    record { start = piece.start; end = end_; content = content_after item.space piece.content end_ }

-- none of its lengths wraps
pub record IsNearPiece (piece : Piece) : Type 0 where
  pub start : unsigned_abs piece.start.edges + unsigned_abs piece.start.advances ≤ 2 ^ 60
  pub end_ : unsigned_abs piece.end.edges ≤ 2 ^ 60
  pub content : unsigned_abs piece.content.advances ≤ 2 ^ 60

-- the line that begins at a place ends at this stop
pub record EndsLine (available : ℤ) (items : List FillItem) (from : ℕ) (stop : Stop) : Type 0 where
  pub value : stop.end ≡ line_end available items from
  pub place : stop.place ≡ place_before items stop.end
  pub later : from < stop.end
  pub within : stop.end ≤ length items
