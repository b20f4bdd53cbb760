-- Items of two paragraphs at one place.
use Rattle.std.proofs.Common.{◌≡◌, ◌∙◌, ℕ, ◌<◌, length, List, slice_index_or, sym, ap, arith}
use Rattle.std.proofs.lemmas.List.{get_or-map, length-map}
use Rattle.fragment_types.specs.declared.item.Item.{Item}
use Rattle.fragment_types.specs.Item.{entries_of, entry_of}

-- where the entries are the same, so is each
pub same_entry : (one other : List Item) (k : ℕ) (here there : Item) → k < length one → here ≡ slice_index_or one k here → there ≡ slice_index_or other k there → entries_of one ≡ entries_of other
    → entry_of here ≡ entry_of there
same_entry one other k here there below is also same =
    let long : length one ≡ length other = sym (length-map one entry_of) ∙ ap length same ∙ length-map other entry_of in
    ap entry_of is ∙ sym (get_or-map entry_of one k here (entry_of here) below) ∙ ap (λ all. slice_index_or all k (entry_of here)) same
    ∙ get_or-map entry_of other k there (entry_of here) (omega (arith, below, long)) ∙ sym (ap entry_of also)
