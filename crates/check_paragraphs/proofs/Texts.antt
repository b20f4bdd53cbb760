-- The bytes of texts as a sum, and their font sizes.
use Rattle.std.proofs.Common.{◌≡◌, refl, ap, ◌∙◌, subst, ◌+◌, ◌≤◌, List, [], ◌∷◌, All, sum_by}
use Rattle.std.proofs.lemmas.List.Elements.{All-map}
use Rattle.std.proofs.lemmas.List.Sums.{sum_by-cons}
use Rattle.fragment_types.specs.declared.item.Item.{Item}
use Rattle.fragment_types.specs.Item.{entries_of, entry_of}
use Rattle.para_prepare.specs.Limits.{HasFontSize, bytes_in, text_bytes}

bytes_sum : (items : List Item) → sum_by (λ item. bytes_in (entry_of item)) items ≡ text_bytes (entries_of items)
bytes_sum [] = refl
bytes_sum (item ∷ items) =
    sum_by-cons (λ item. bytes_in (entry_of item)) item items ∙ ap (λ n. bytes_in (entry_of item) + n) (bytes_sum items)

pub all_have : (items : List Item) → All (λ item. HasFontSize (entry_of item)) items → All HasFontSize (entries_of items)
all_have items have = All-map HasFontSize entry_of items have

pub short_texts : (items : List Item) → sum_by (λ item. bytes_in (entry_of item)) items ≤ 1048576 → text_bytes (entries_of items) ≤ 1048576
short_texts items short = subst (λ n. n ≤ 1048576) (bytes_sum items) short
