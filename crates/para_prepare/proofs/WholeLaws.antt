-- A preparation has all that is promised of it.
use Rattle.std.proofs.Common.{◌≡◌, subst, sym, ℕ, ◌+◌, ◌≤◌, List, length, arith}
use Rattle.std.proofs.lemmas.List.{length-map}
use Rattle.std.specs.Prelude.{All, Option, Result, Ok, Err, IfOk}
use Rattle.face_api.specs.Table.{Table}
use Rattle.fragment_types.specs.Item.{Entry, entries_of, entry_of}
use Rattle.fragment_types.specs.declared.item.Item.{Item}
use Rattle.style_types.specs.declared.style.Style.{Style}
use Rattle.para_prepare.specs.Limits.{text_bytes}
use Rattle.para_prepare.specs.Preparation.{AreFrom, HasBounds, Preparation, atoms_in, atoms_of, preparation}
use Rattle.para_prepare.specs.Whole.{IsPreparedFrom}
use Rattle.para_prepare.proofs.AtomLaws.{few_atoms}
use Rattle.para_prepare.proofs.SourceLaws.{are_from}

pub is_prepared : (faces : List (Option Table)) (base : Option ℕ) (style : Style) (entries : List Entry) (p : Preparation)
    → p ≡ preparation faces base style entries → length p.items ≤ text_bytes entries + length entries → All (λ item. HasBounds item.what) p.items
    → IsPreparedFrom faces base style entries p
is_prepared faces base style entries p is few bounds = record {
  prepared = is;
  count = few;
  sources = subst (λ p. AreFrom 0 (length entries) p.items) (sym is) (are_from faces base style entries);
  atoms = subst (λ p. atoms_in p.items ≤ atoms_of entries) (sym is) (few_atoms faces base style entries);
  lengths = bounds;
}

-- what is promised of a result, fact by fact
pub record ArePromised {E : Type 0} (faces : List (Option Table)) (base : Option ℕ) (style : Style) (items : List Item) (r : Result Preparation E) : Type 0 where
  pub prepared : IfOk r (λ p. p ≡ preparation faces base style (entries_of items))
  pub count : IfOk r (λ p. length p.items ≤ text_bytes (entries_of items) + length items)
  pub sources : IfOk r (λ p. AreFrom 0 (length items) p.items)
  pub atoms : IfOk r (λ p. atoms_in p.items ≤ atoms_of (entries_of items))
  pub lengths : IfOk r (λ p. All (λ item. HasBounds item.what) p.items)

pub promised : {E : Type 0} (faces : List (Option Table)) (base : Option ℕ) (style : Style) (items : List Item) (r : Result Preparation E)
    → IfOk r (IsPreparedFrom faces base style (entries_of items)) → ArePromised faces base style items r
promised faces base style items (Ok p) so =
    let many = length-map items entry_of in
    let count = so.count in
    record {
      prepared = so.prepared;
      count = omega arith;
      sources = subst (λ n. AreFrom 0 n p.items) many so.sources;
      atoms = so.atoms;
      lengths = so.lengths;
    }
promised faces base style items (Err e) so = record { prepared = tt; count = tt; sources = tt; atoms = tt; lengths = tt }
