-- What is kept in an arena is right in another one, for the boxes that stand there as they did.
use Rattle.std.proofs.Common.{◌≡◌, ◌∙◌, ◌⊎◌, ℕ, Option, Some, None, refl, sym, subst, inl, inr}
use Rattle.slab.specs.Slab.{Slab}
use Rattle.fragment_types.specs.declared.constraint.Constraint.{Constraint}
use Rattle.style_types.specs.declared.style.Style.{Style}
use Rattle.fragment_types.specs.Fragment.{Pieces}
use Rattle.box_gen.specs.Tree.{box, none}
use Rattle.box_arena.specs.declared.entry.Entry.{Entry}
use Rattle.box_arena.specs.At.{Node, kept_at, text_at}
use Rattle.box_arena.specs.Reusing.{AreAround, IsResultFrom, IsTextFrom, Reuses, around_at}
use Rattle.box_gen.specs.Places.{RunAlike}
use Rattle.box_arena.proofs.Handovers.{stood}
use Rattle.para_prepare.specs.Preparation.{Preparation}
use Rattle.relayout.specs.declared.sizes.Containing.{Containing}
use Rattle.relayout.specs.Inline.{Outside}
use Rattle.relayout.specs.Kept.{AreRight, IsResultAt, IsResultOf, IsTextAt, containing_by}
use Rattle.relayout.specs.Laws.{ReusedIsRight}
use Rattle.relayout.specs.Sizes.{containing_of}
use Rattle.relayout.proofs.KeptLaws.{result_stays, same_containing}

-- boxes whose lines run alike are to those inside them the same containing block
same_by_lines : (one other : Style) → RunAlike one other → containing_of one ≡ containing_of other
same_by_lines one other alike = rw (alike.mode, alike.direction, alike.orientation) refl

pub same_block : (one other : Option Node) (style : Style) → AreAround one other → containing_by one style ≡ containing_by other style
same_block None None style alike = refl
same_block None (Some other) style alike = absurd alike
same_block (Some one) None style alike = absurd alike
same_block (Some one) (Some other) style alike = same_by_lines one.style other.style alike

module _ (outside : Outside) (giver given old new : Slab (Entry Preparation)) (there : AreRight outside giver.slots) (here : AreRight outside old.slots) (reuses : Reuses giver given old new) where
  -- a result of the other arena
  result_from : (k : ℕ) (c : Constraint) (result : Pieces) → IsResultFrom giver.slots old.slots k c result → IsResultAt outside old.slots k c result
  result_from k c result from name style content inner stands =
      let P : Containing → Type 0 = λ containing. IsResultOf outside containing name style content inner c result in
      subst P (same_block (around_at giver.slots from.from) (around_at old.slots k) style from.around)
      ((there from.from).results c result from.was name style content inner (from.tree (box name style content inner none) stands))

  result_of : (k : ℕ) (c : Constraint) (result : Pieces) → (kept_at old.slots k c ≡ Some result) ⊎ IsResultFrom giver.slots old.slots k c result → IsResultAt outside old.slots k c result
  result_of k c result (inl is) = (here k).results c result is
  result_of k c result (inr from) = result_from k c result from

  -- a text of the other arena
  text_of : (k : ℕ) (text : Preparation) → (text_at old.slots k ≡ Some text) ⊎ IsTextFrom giver.slots old.slots k text → IsTextAt outside old.slots k text
  text_of k text (inl is) node at = (here k).text text is node at
  text_of k text (inr from) node at = (there from.from).text text from.was node (from.node ∙ at)

  all_right : AreRight outside new.slots
  all_right k = record {
    results = λ c result is.
        result_stays outside old.slots new.slots k c result (stood old.slots new.slots reuses.links reuses.nodes k) (same_containing old.slots new.slots reuses.links reuses.nodes k) (result_of k c result (reuses.results k c result is));
    text = λ text is node at. text_of k text (reuses.texts k text is) node (sym (reuses.nodes k) ∙ at);
  }

pub reused_is_right : ReusedIsRight
reused_is_right = all_right
