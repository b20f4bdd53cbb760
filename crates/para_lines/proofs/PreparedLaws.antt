-- What lines need of a prepared paragraph: where its items come from, and how far they advance.
use Rattle.std.proofs.Common.{arith, ℕ, ◌<◌, ◌≤◌, ◌^◌, List, [], ◌∷◌, length, get_or, ℤ, pos, unsigned_abs}
use Rattle.std.specs.Prelude.{All, ◌≤ℤ◌}
use Rattle.std.proofs.lemmas.Int.{ints}
use Rattle.std.proofs.lemmas.List.Elements.{All-cons}
use Rattle.para_prepare.specs.Preparation.{AreFrom, HasBounds}
use Rattle.para_prepare.specs.declared.item.PreparedItem.{PreparedItem}
use Rattle.para_prepare.specs.declared.item.PreparedContent.{PreparedContent}
use Rattle.para_prepare.specs.declared.item.PreparedContent.TheVariants.{Unit, Combined, Atom, Break}
use Rattle.para_lines.specs.Prepared.{AreSources}
use Rattle.para_lines.specs.Reach.{AreNear, HasAdvance, Rise}

pub sources_there : (first count : ℕ) (items : List PreparedItem) → AreFrom first count items → AreSources count items
sources_there first count [] h = λ k d lt. absurd (omega arith)
sources_there first count (item ∷ items) h = All-cons (λ (i : PreparedItem). i.source < count) item items h.1 (sources_there item.source count items h.2)

rising : (first count : ℕ) (items : List PreparedItem) → AreFrom first count items → Rise first items
rising first count [] h = tt
rising first count (item ∷ items) h = (h.0, rising item.source count items h.2)

length_near : (z : ℤ) (most : ℕ) → pos 0 ≤ℤ z → z ≤ℤ pos most → unsigned_abs z ≤ most
length_near z most low high = omega (arith, ints)

advance_near : (what : PreparedContent) → HasBounds what → HasAdvance what
advance_near (Unit form space node first end_ advance glyphs) h = length_near advance 655360 h.0 h.1
advance_near (Combined node first end_ advance natural glyphs) h = let n = length_near advance 65536 h.0 h.1 in omega arith
advance_near (Atom name) h = tt
advance_near (Break node) h = tt

pub prepared_near : (count : ℕ) (items : List PreparedItem) → length items ≤ 2 ^ 21 → AreFrom 0 count items → All (λ item. HasBounds item.what) items → AreNear items
prepared_near count items few from lengths =
    record { few = omega arith; rise = rising 0 count items from; advances = λ k d lt. advance_near (get_or items k d).what (lengths k d lt) }
