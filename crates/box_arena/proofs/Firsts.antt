-- A result that stands before the others.
use Rattle.std.proofs.Common.{◌≡◌, ◌≢◌, ◌∙◌, true, false, cond, Option, Some, None, sym, ap, subst}
use Rattle.std.specs.Prelude.{ℤ}
use Rattle.std.specs.Ordering.{is_eq}
use Rattle.std.proofs.lemmas.Map.Entries.{lookup_tail}
use Rattle.fragment_types.specs.declared.constraint.Constraint.{Constraint}
use Rattle.fragment_types.specs.declared.fragment.Fragment.{Fragment}
use Rattle.box_arena.specs.Results.{Results, result_for, sizes_cmp, stands_first, with_first}
use Rattle.box_arena.proofs.Sizes.{same_constraint, sizes_apart}

abbrev Sizes : Type 0
Sizes = Option ℤ × Option ℤ

-- where it apart what is asked for, the others are asked
behind : (other : Constraint) (first : Sizes × Fragment) (others : Results) → is_eq (sizes_cmp (other.inline, other.block) first.0) ≡ false
    → result_for (with_first (Some first) others) other ≡ result_for others other
behind other first others apart = lookup_tail (λ sizes. is_eq (sizes_cmp (other.inline, other.block) sizes)) first others apart

apart_from : (c other : Constraint) → other ≢ c → is_eq (sizes_cmp (other.inline, other.block) (c.inline, c.block)) ≡ false
apart_from c other apart = sizes_apart other c (λ is. apart (sym is))

-- it is put first: all others are found as they were
pub put_first : (first : Option (Sizes × Fragment)) (others : Results) (c : Constraint) (fragment : Fragment) → stands_first first (c.inline, c.block) ≡ true
    → (other : Constraint) → other ≢ c → result_for (with_first (Some ((c.inline, c.block), fragment)) others) other ≡ result_for (with_first first others) other
put_first None others c fragment is other apart = behind other ((c.inline, c.block), fragment) others (apart_from c other apart)
put_first (Some kept) others c fragment is other apart =
    let own : Constraint = record { inline = kept.0.0; block = kept.0.1 } in
    let same : c ≡ own = same_constraint c own is in
    behind other ((c.inline, c.block), fragment) others (apart_from c other apart)
    ∙ sym (behind other kept others (subst (λ (k : Constraint). is_eq (sizes_cmp (other.inline, other.block) (k.inline, k.block)) ≡ false) same (apart_from c other apart)))

-- it is put among the others: it is found
pub put_behind : (first : Option (Sizes × Fragment)) (others : Results) (c : Constraint) (fragment : Fragment) → stands_first first (c.inline, c.block) ≡ false
    → result_for others c ≡ Some fragment → result_for (with_first first others) c ≡ Some fragment
put_behind None others c fragment apart found = absurd cc
put_behind (Some kept) others c fragment apart found = behind c kept others apart ∙ found

-- and what is found alike among the others is found alike
pub alike_behind : (first : Option (Sizes × Fragment)) (old new : Results) (other : Constraint) → result_for new other ≡ result_for old other
    → result_for (with_first first new) other ≡ result_for (with_first first old) other
alike_behind None old new other alike = alike
alike_behind (Some kept) old new other alike = ap (λ (found : Option Fragment). cond (is_eq (sizes_cmp (other.inline, other.block) kept.0)) (Some kept.1) found) alike
