-- The code's steps are those of the equation, and what the equation comes to.
use Rattle.std.proofs.Common.{◌≡◌, refl, arith}
use Rattle.std.proofs.lemmas.Int.{ints}
use Rattle.std.specs.Prelude.{ℤ, pos, ◌+ℤ◌, ◌-ℤ◌, Option, Some, None}
use Rattle.size_rules.specs.Limits.{used_size}
use Rattle.size_rules.specs.Equation.{asked, settled, equation, rest, or_zero, start_margin}
use Rattle.size_rules.specs.Laws.{Fills, Keeps}
use Rattle.size_rules.specs.declared.equation.Used.{Used}

-- each result as the code has it, in 64 bits, beside the plain number
pub solved : (available edges : ℤ) (size : Option ℤ) (min : ℤ) (max start finish : Option ℤ) (room wanted wanted64 min64 used used64 free : ℤ) (r : Used)
    → room ≡ available -ℤ edges → wanted ≡ asked room size start finish → wanted64 ≡ wanted → min64 ≡ min
    → used ≡ used_size wanted64 min64 max → used64 ≡ used → free ≡ available -ℤ edges -ℤ used
    → r ≡ settled free used64 start finish → r ≡ equation available edges size min max start finish
solved available edges size min max start finish room wanted wanted64 min64 used used64 free r e1 e2 e3 e4 e5 e6 e7 e8 =
    rw e8 (rw (e6, e7) (rw e5 (rw (e3, e4) (rw e2 (rw e1 refl)))))

fill : (available edges used first : ℤ) → first +ℤ used +ℤ (available -ℤ edges -ℤ used -ℤ first) +ℤ edges ≡ available
fill available edges used first = omega (arith, ints)

pub fills : Fills
fills available edges size min max start finish =
    let used = equation available edges size min max start finish in
    fill available edges used.size used.start

start_kept : (free left : ℤ) (start finish : Option ℤ) → left ≡ pos 0 → free ≡ or_zero start +ℤ or_zero finish → start_margin left free start finish ≡ or_zero start
unfolding start_margin or_zero
start_kept free left None None none is = rw none (rw is refl)
start_kept free left None (Some y) none is = rw none (omega (arith, ints))
start_kept free left (Some x) finish none is = rw none refl

abbrev of_parts : (start size finish : ℤ) → Used
of_parts start size finish = record { start = start; size = size; end = finish }

used_is : (start start' size finish finish' : ℤ) → start ≡ start' → finish ≡ finish' → of_parts start size finish ≡ of_parts start' size finish'
used_is start start' size finish finish' e f = rw e (rw f refl)

all_kept : (room free s f left : ℤ) (start finish : Option ℤ) → s ≡ or_zero start → f ≡ or_zero finish → left ≡ room -ℤ s -ℤ f → free ≡ room -ℤ left
    → settled free left start finish ≡ record { start = or_zero start; size = left; end = or_zero finish }
unfolding rest
all_kept room free s f left start finish es ef el ee =
    let is : free ≡ or_zero start +ℤ or_zero finish = rw (← es, ← ef) (omega (arith, ints)) in
    let none : free -ℤ or_zero start -ℤ or_zero finish ≡ pos 0 = rw (← es, ← ef) (omega (arith, ints)) in
    let kept = start_kept free _ start finish none is in
    used_is _ _ _ _ _ kept (rw kept (omega (arith, ints)))

pub keeps : Keeps
unfolding rest
keeps available edges min max start finish same =
    rw same (all_kept (available -ℤ edges) _ _ _ _ start finish refl refl refl refl)
