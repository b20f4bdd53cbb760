use Rattle.std.proofs.Common.{subst, sym, ap, ◌∙◌, ℕ}
use Rattle.place_map.specs.Near.{AreNearParts}
use Rattle.wm_units.specs.declared.view.View.{View}
use Rattle.place_map.specs.Placed.{Page, Parts, none, placed_of}
use Rattle.rel_shift.specs.Shifting.{shifted}
use Rattle.rel_shift.specs.declared.insets.Shift.{Shift}
use Rattle.rel_shift.specs.Totals.{total_in}
use Rattle.rel_shift.proofs.Bounded.{shifted_near}
use Rattle.rel_shift.proofs.shifting.shift.Goals as goal

pub returns-clause-near : goal.returns-clause-near
returns-clause-near c = λ within.
    subst AreNearParts (sym (c.in_ok-root.ensures none)) (shifted_near (total_in c.in_ok-totals.totals) c.in_ok-totals.ensures.within (placed_of c.args.placed.now).parts c.requires.near within)

pub returns-clause-page : goal.returns-clause-page
returns-clause-page c = ap (λ (parts : Parts). page c.args.placed.now.view parts) (c.in_ok-root.ensures none ∙ ap (λ (by : ℕ → Shift). shifted by (placed_of c.args.placed.now).parts) (λ i node. c.in_ok-totals.ensures.total node i)) where
  page : View → Parts → Page
  page view parts = record { view = view; parts = parts }
