-- What holds of the tables.
use Rattle.std.specs.Prelude.{◌≡◌, ◌≢◌, ◌↔◌, ◌⊎◌, ℕ, ◌<◌, ◌≤◌, true, cond, not, leb, length, Some, None, option_map, All, AllPairs, slice_index_or}
use Rattle.wm_chars.specs.Pairs.{bracket, mirror}
use Rattle.wm_chars.specs.Repertoire.{has, row_of, bidi_class, orientation, break_class}
use Rattle.wm_chars.specs.declared.classes.BidiClass.TheVariants.{ON}
use Rattle.wm_chars.specs.declared.classes.Orient.TheVariants.{R, V}
use Rattle.wm_chars.specs.declared.classes.BreakClass.TheVariants.{Open, Close}
use Rattle.wm_chars.specs.declared.classes.Bracket.{Bracket}
use Rattle.wm_chars.specs.declared.rows.Row.{Row}
use Rattle.wm_chars.specs.declared.rows.TheConstants.{ROWS}

-- each row is a range, and begins after the end of each row before it
pub record Ascend : Type 0 where
  pub whole : All (λ row. row.first ≤ row.last) ROWS
  pub apart : AllPairs (λ earlier later. earlier.last < later.first) ROWS

-- whichever row has the character is the one that is found
abbrev pub StandInOneRow : Type 0
StandInOneRow = (c k : ℕ) (d : Row) → k < length ROWS → has c (slice_index_or ROWS k d) ≡ true → row_of c ≡ Some (slice_index_or ROWS k d)

-- the character lies before or after each row
abbrev pub IsOutside : ℕ → Type 0
IsOutside c = All (λ row. (c < row.first) ⊎ (row.last < c)) ROWS

-- outside and only there nothing is told
pub record AreNoneOutside : Type 0 where
  pub bidi_class : (c : ℕ) → (bidi_class c ≡ None) ↔ IsOutside c
  pub orientation : (c : ℕ) → (orientation c ≡ None) ↔ IsOutside c
  pub break_class : (c : ℕ) → (break_class c ≡ None) ↔ IsOutside c

-- a character is upright from U+3000 on, and turned before
abbrev pub AreUprightFromU3000 : Type 0
AreUprightFromU3000 = (c : ℕ) → orientation c ≡ option_map (λ row. cond (leb 0x3000 c) V R) (row_of c)

-- a character is the mirror of its mirror, and none is its own
pub record MirrorsArePartners : Type 0 where
  pub back : (c d : ℕ) → mirror c ≡ Some d → mirror d ≡ Some c
  pub other : (c d : ℕ) → mirror c ≡ Some d → d ≢ c

-- a bracket is the partner of its partner, which is the other side, and is its mirror
pub record BracketsArePartners : Type 0 where
  pub back : (c : ℕ) (b : Bracket) → bracket c ≡ Some b → bracket b.partner ≡ Some (record { opens = not b.opens; partner = c })
  pub mirror : (c : ℕ) (b : Bracket) → bracket c ≡ Some b → mirror c ≡ Some b.partner

abbrev pub BreakAsTheyOpen : Type 0
BreakAsTheyOpen = (c : ℕ) (b : Bracket) → bracket c ≡ Some b → break_class c ≡ Some (cond b.opens Open Close)

-- what has a mirror is neutral; so is each bracket
pub record AreNeutral : Type 0 where
  pub mirrors : (c d : ℕ) → mirror c ≡ Some d → bidi_class c ≡ Some ON
  pub brackets : (c : ℕ) (b : Bracket) → bracket c ≡ Some b → bidi_class c ≡ Some ON
