-- The contributions of children, together.
use Rattle.std.proofs.Common.{◌≡◌, sym, subst, arith, ◌≤◌, ◌^◌, List, length, map, ℤ, unsigned_abs}
use Rattle.std.specs.Prelude.{All, sum_by}
use Rattle.std.proofs.lemmas.List.{length-map}
use Rattle.std.proofs.lemmas.List.Elements.{All-map}
use Rattle.std.proofs.lemmas.List.Sums.{sum_by-le}
use Rattle.line_fill.specs.declared.item.Intrinsic.{Intrinsic}
use Rattle.relayout.specs.Reach.{IsContribution}

together_near : (contributions : List Intrinsic) (f : Intrinsic → ℤ) (lengths : List ℤ) → lengths ≡ map f contributions → ((a : Intrinsic) → IsContribution a → unsigned_abs (f a) ≤ 2 ^ 37) → All IsContribution contributions → length contributions ≤ 2 ^ 20
    → sum_by unsigned_abs lengths ≤ 2 ^ 59
together_near contributions f lengths is each near few =
    let P : List ℤ → Type 0 = λ zs. sum_by unsigned_abs zs ≤ 2 ^ 59 in
    let many = length-map contributions f in
    let sum = sum_by-le unsigned_abs (2 ^ 37) (map f contributions) (All-map (λ z. unsigned_abs z ≤ 2 ^ 37) f contributions (λ k d lt. each _ (near k d lt))) in
    subst P (sym is) (omega arith)

pub mins_near : (contributions : List Intrinsic) (mins : List ℤ) → mins ≡ map (λ a. a.min) contributions → All IsContribution contributions → length contributions ≤ 2 ^ 20 → sum_by unsigned_abs mins ≤ 2 ^ 59
mins_near contributions mins is near few = together_near contributions (λ a. a.min) mins is (λ a n. n.min) near few

pub maxs_near : (contributions : List Intrinsic) (maxs : List ℤ) → maxs ≡ map (λ a. a.max) contributions → All IsContribution contributions → length contributions ≤ 2 ^ 20 → sum_by unsigned_abs maxs ≤ 2 ^ 59
maxs_near contributions maxs is near few = together_near contributions (λ a. a.max) maxs is (λ a n. n.max) near few
