-- What is used of an edit of the tree that isn't refused.
use Rattle.std.proofs.Common.{◌≡◌, ℕ, ◌+◌, Bool, true, false, List, [], ◌∷◌, subst, arith, None, inl, inr}
use Rattle.std.specs.Prelude.{flat_map, nat_lt, option_to_list}
use Rattle.basic_laws.proofs.Options.{none_unmapped}
use Rattle.css_types.specs.Rule.{Ruling}
use Rattle.dom_store.specs.State.{Entry, State}
use Rattle.dom_store.specs.Building.{tops_from}
use Rattle.dom_store.specs.Standing.{inclusive_descendants, parent_at}
use Rattle.dom_store.specs.Edits.{EditOf, set_text, set_style, set_class, insert, remove, move_to, after, concerned}
use Rattle.dom_store.specs.Refusals.{is_element, is_of, refusal}
use Rattle.dom_store.proofs.KeepLaws.{keep_roots}
use Rattle.tree_laws.specs.Reached.{IsReached}
use Rattle.tree_laws.specs.Wholeness.{IsWhole}
use Rattle.tree_laws.proofs.Edited.{edits_keep_whole}
use Rattle.tree_laws.proofs.Parents.{children_have_parents}
use Rattle.tree_laws.proofs.Reaching.{edits_keep_reached}
use Rattle.box_limits.specs.Limits.{touched}
use Rattle.box_limits.proofs.Among.{IsIn, in_all, in_first, in_second, kept, only}
use Rattle.box_limits.proofs.Origins.{Origin, origin}
use Rattle.edits.specs.Change.{of_tree}
use Rattle.edits.specs.Edited.{by_tree}
use Rattle.edits.specs.State as whole
use Rattle.edit_scope.specs.Exactly.{IsDocument}
use Rattle.edit_scope.specs.Laws.{Takes}
use Rattle.edit_scope.specs.Scope.{content_scope, elements_below, holders, styled_scope, tree_scope}
use Rattle.edit_scope.proofs.LeafLaws.{edits_keep_leaves}
use Rattle.edit_scope.proofs.LineLaws.{every_in}
use Rattle.edit_scope.proofs.PartLaws.{filled_held, kept_by}
use Rattle.edit_scope.proofs.Taking.{IsTaken, Source}

-- ---- what comes, and what has other styles, is in the scope

module _ (rules : List Ruling) (state : State) where
  styled_inside : (outermost : Bool) (next : State) → IsReached next → (number other : ℕ) → is_of is_element next other ≡ true → IsIn other (inclusive_descendants next number) → IsIn other (styled_scope outermost rules next number)
  styled_inside true next reached number other is there = every_in next reached other is
  styled_inside false next reached number other is there =
      in_first other (elements_below next number) (holders rules next (option_to_list (parent_at next number))) (kept (is_of is_element next) other (inclusive_descendants next number) there is)

  pub brought_inside : (next : State) (concerned tops : List ℕ) (first other : ℕ) → IsIn first tops → is_of is_element next other ≡ true → IsIn other (inclusive_descendants next first) → IsIn other (content_scope rules next concerned tops)
  brought_inside next concerned tops first other among is there =
      in_second other (holders rules next concerned) (flat_map (elements_below next) tops)
      (in_all (elements_below next) other first tops among (kept (is_of is_element next) other (inclusive_descendants next first) there is))

  below_one : (next : State) (number first other : ℕ) → IsIn first (number ∷ []) → IsIn other (inclusive_descendants next first) → IsIn other (inclusive_descendants next number)
  below_one next number first other among there = subst (λ (n : ℕ). IsIn other (inclusive_descendants next n)) (only number first among) there

  inside_scope : (edit : EditOf) → IsReached (after state edit) → (first other : ℕ) → IsIn first (touched state edit) → is_of is_element (after state edit) other ≡ true
      → IsIn other (inclusive_descendants (after state edit) first) → IsIn other (tree_scope rules state edit)
  inside_scope (set_text number letters) reached first other among is there = absurd among
  inside_scope (set_style number own) reached first other among is there =
      styled_inside (nat_lt number 2) (after state (set_style number own)) reached number other is (below_one (after state (set_style number own)) number first other among there)
  inside_scope (set_class number words) reached first other among is there =
      styled_inside (nat_lt number 2) (after state (set_class number words)) reached number other is (below_one (after state (set_class number words)) number first other among there)
  inside_scope (insert parent index nodes own) reached first other among is there =
      brought_inside (after state (insert parent index nodes own)) (parent ∷ []) (tops_from state.next nodes) first other among is there
  inside_scope (remove number) reached first other among is there = absurd among
  inside_scope (move_to number parent index) reached first other among is there =
      brought_inside (after state (move_to number parent index)) (concerned state (move_to number parent index)) (number ∷ []) first other among is there

  -- ---- where each node comes from

  source_by : (edit : EditOf) → IsWhole state → IsReached (after state edit) → (number : ℕ) (entry : Entry) → Origin state edit number entry → Source state (after state edit) (tree_scope rules state edit) number entry
  source_by edit whole reached number entry (inl there) = inl (λ other is below. inside_scope edit reached number other there is below)
  source_by edit whole reached number entry (inr (inl (place, above))) = inr (inl (state.next + place, above, whole.below (state.next + place) (omega arith)))
  source_by edit whole reached number entry (inr (inr was)) = inr (inr was)

  pub edit_taken : (edit : EditOf) → refusal state edit ≡ None → IsDocument state → IsDocument (after state edit) → IsTaken rules state (after state edit) (tree_scope rules state edit)
  edit_taken edit unrefused before later = record {
    before = before;
    later = later;
    source = λ number entry here. source_by edit before.whole later.reached number entry (origin state edit number entry here);
    keeps = λ element upper is outside lived alive apart.
        kept_by state edit before.whole unrefused later.whole upper lived alive (λ there. apart (filled_held rules state edit later.reached element upper is outside there));
  }

-- ---- a document that takes an edit of its tree

pub takes_tree : (state : whole.State) (edit : EditOf) → Takes state (of_tree edit) → IsTaken state.rules state.tree (after state.tree edit) (tree_scope state.rules state.tree edit)
takes_tree state edit takes =
    let unrefused = none_unmapped by_tree (refusal state.tree edit) takes.unrefused in
    edit_taken state.rules state.tree edit unrefused
    (record { rooted = takes.rooted; whole = takes.whole; reached = takes.reached; leaves = takes.leaves })
    (record {
      rooted = keep_roots state.tree edit takes.rooted (children_have_parents state.tree takes.whole) unrefused;
      whole = edits_keep_whole state.tree edit takes.whole unrefused;
      reached = edits_keep_reached state.tree edit takes.fitting takes.rooted takes.whole takes.reached unrefused;
      leaves = edits_keep_leaves state.tree edit takes.fitting takes.whole unrefused takes.leaves;
    })
