-- Two constraints that the order of their sizes ties are the same.
use Rattle.std.proofs.Common.{◌≡◌, ◌≢◌, true, false, Option, Some, None, refl, sym, ap, ap₂}
use Rattle.std.specs.Prelude.{ℤ, ◌<ℤ◌}
use Rattle.std.specs.Option.{option_cmp}
use Rattle.std.specs.declared.cmp.Ordering.{Ordering}
use Rattle.std.specs.declared.cmp.Ordering.TheVariants.{Less, Equal, Greater}
use Rattle.std.specs.Ordering.{int_cmp, ordering_then, is_eq, MatchOrdering}
use Rattle.std.proofs.lemmas.Cmp.{int_cmp_total, int_ranked, tied_itself}
use Rattle.std.proofs.lemmas.Bool.{false_from_ne_true}
use Rattle.fragment_types.specs.declared.constraint.Constraint.{Constraint}
use Rattle.box_arena.specs.Results.{sizes_cmp}

numbers_tied : (x y : ℤ) → is_eq (int_cmp x y) ≡ true → x ≡ y
numbers_tied x y = ranked (int_cmp x y) (int_ranked x y (int_cmp x y) refl)
  where
    ranked : (o : Ordering) → MatchOrdering o (x <ℤ y) (x ≡ y) (y <ℤ x) → is_eq o ≡ true → x ≡ y
    ranked Less below tied = absurd (cc)
    ranked Equal same tied = same
    ranked Greater above tied = absurd (cc)

options_tied : (x y : Option ℤ) → is_eq (option_cmp int_cmp x y) ≡ true → x ≡ y
options_tied None None tied = refl
options_tied None (Some y) tied = absurd (cc)
options_tied (Some x) None tied = absurd (cc)
options_tied (Some x) (Some y) tied = ap Some (numbers_tied x y tied)

pub both_tied : (one other : Ordering) → is_eq (ordering_then one other) ≡ true → (is_eq one ≡ true) × (is_eq other ≡ true)
both_tied Less other tied = absurd (cc)
both_tied Equal other tied = (refl, tied)
both_tied Greater other tied = absurd (cc)

abbrev the : Option ℤ → Option ℤ → Constraint
the inline block = record { inline = inline; block = block }

pub same_constraint : (one other : Constraint) → is_eq (sizes_cmp (one.inline, one.block) (other.inline, other.block)) ≡ true → one ≡ other
same_constraint one other tied =
    let both = both_tied (option_cmp int_cmp one.inline other.inline) (option_cmp int_cmp one.block other.block) tied in
    ap₂ the (options_tied one.inline other.inline both.0) (options_tied one.block other.block both.1)

pub sizes_apart : (c other : Constraint) → other ≢ c → is_eq (sizes_cmp (c.inline, c.block) (other.inline, other.block)) ≡ false
sizes_apart c other apart = false_from_ne_true _ (λ tied. apart (sym (same_constraint c other tied)))

options_same : (x : Option ℤ) → option_cmp int_cmp x x ≡ Equal
options_same None = refl
options_same (Some x) = tied_itself int_cmp_total x

-- sizes are tied with themselves
pub sizes_tied : (a b : Option ℤ) → is_eq (sizes_cmp (a, b) (a, b)) ≡ true
sizes_tied a b = ap₂ (λ one other. is_eq (ordering_then one other)) (options_same a) (options_same b)
