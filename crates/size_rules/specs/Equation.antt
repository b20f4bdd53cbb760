-- The inline size of a block-level box and its margins on that axis, which with its borders and paddings fill
-- what is available. CSS 2, 10.3.3, where width and the left and right margins are the inline size and the
-- inline-start and inline-end margins.
use Rattle.std.specs.Prelude.{ℕ, ℤ, pos, negsuc, ◌-ℤ◌, Option, Some, None, unwrap_or, unsigned_abs}
use Rattle.wm_units.specs.Numbers.{half}
use Rattle.size_rules.specs.Limits.{used_size}
use Rattle.size_rules.specs.declared.equation.Used.{Used}

-- an auto margin counts as 0
unfoldable pub or_zero : Option ℤ → ℤ
or_zero margin = unwrap_or margin (pos 0)

-- what a room has beside the margins in it that aren't auto
unfoldable pub rest : (room : ℤ) → (start finish : Option ℤ) → ℤ
rest room start finish = room -ℤ or_zero start -ℤ or_zero finish

-- the inline-start margin, where both margins together come to `room`. Where the rest is below 0, auto margins
-- are 0; else one auto margin takes it, and of two each takes half.
unfoldable pub start_margin : (left room : ℤ) → (start finish : Option ℤ) → ℤ
start_margin (negsuc less) room start finish = or_zero start
start_margin (pos left) room None None = half room
start_margin (pos left) room None (Some finish) = room -ℤ finish
start_margin (pos left) room (Some start) finish = start

-- a box of a size that is settled, in a room for its margins: the inline-end one is what the inline-start one
-- leaves, and where neither is auto it gives way
abbrev pub settled : (room size : ℤ) → (start finish : Option ℤ) → Used
settled room size start finish =
    let first = start_margin (rest room start finish) room start finish in
    record { start = first; size = size; end = room -ℤ first }

-- an auto size is what remains, with auto margins as 0
abbrev pub asked : (room : ℤ) → (size : Option ℤ) → (start finish : Option ℤ) → ℤ
asked room None start finish = rest room start finish
asked room (Some size) start finish = size

-- the size is held within its limits before the margins are found. Where these don't change an auto size, its
-- margins leave no rest, and auto ones are 0.
abbrev pub equation : (available edges : ℤ) → (size : Option ℤ) → (min : ℤ) → (max : Option ℤ) → (start finish : Option ℤ) → Used
equation available edges size min max start finish =
    let used = used_size (asked (available -ℤ edges) size start finish) min max in
    settled (available -ℤ edges -ℤ used) used start finish

-- the length of a margin or a size that may be auto, without its sign
unfoldable pub length_of : Option ℤ → ℕ
length_of length = unsigned_abs (or_zero length)
