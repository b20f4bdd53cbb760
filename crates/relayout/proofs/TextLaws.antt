-- What the preparation of a paragraph gives.
use Rattle.std.proofs.Common.{◌≡◌, ◌∙◌, ap, subst, sym, arith, ℕ, ◌+◌, ◌≤◌, List, length}
use Rattle.std.specs.Prelude.{All}
use Rattle.std.proofs.lemmas.List.{length-map}
use Rattle.fragment_types.specs.declared.item.Item.{Item}
use Rattle.fragment_types.specs.Item.{Entry, entries_of, entry_of}
use Rattle.para_prepare.specs.Limits.{text_bytes}
use Rattle.para_prepare.specs.Preparation.{AreFrom, HasBounds as HasTextBounds, Preparation, atoms_in, atoms_of}
use Rattle.relayout.specs.Paragraph.{IsParagraph, IsReady}

pub ready_from : (items : List Item) (entries : List Entry) (ready : Preparation) → entries_of items ≡ entries → IsParagraph entries
    → length ready.items ≤ text_bytes (entries_of items) + length items → AreFrom 0 (length items) ready.items
    → atoms_in ready.items ≤ atoms_of (entries_of items) → All (λ item. HasTextBounds item.what) ready.items → IsReady entries ready
ready_from items entries ready same paragraph few from atoms lengths =
    let many : length (entries_of items) ≡ length items = length-map items entry_of in
    let count : length (entries_of items) ≡ length entries = ap length same in
    let bytes : text_bytes (entries_of items) ≡ text_bytes entries = ap text_bytes same in
    let a = paragraph.count in
    let b = paragraph.bytes in
    let P : ℕ → Type 0 = λ n. AreFrom 0 n ready.items in
    let Q : List Entry → Type 0 = λ es. atoms_in ready.items ≤ atoms_of es in
    record { few = omega arith; count = omega arith; sources = subst P (sym many ∙ count) from; lengths = lengths; atoms = subst Q same atoms }
