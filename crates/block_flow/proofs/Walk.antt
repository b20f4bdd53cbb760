-- What the loop over the children keeps.
use Rattle.std.proofs.Common.{◌≡◌, ◌∙◌, refl, sym, arith, Bool, ◌&&◌, List, [], ◌∷◌, ◌++◌, append_assoc, append-nil, ℕ, ◌+◌, ◌≤◌, ◌<◌, ◌^◌, to_z, of_z, w64, ℤ, unsigned_abs, length, length-append, get_or, drop}
use Rattle.std.specs.Prelude.{fold}
use Rattle.std.specs.List.{list_all, sum_by, All}
use Rattle.std.proofs.lemmas.List.{drop_more}
use Rattle.std.proofs.lemmas.List.Elements.{All-push}
use Rattle.std.proofs.lemmas.List.Sums.{sum_by-drop_more}
use Rattle.block_flow.specs.Children.{Child, StandsFor, AreChildren, lengths_of, margin_lengths}
use Rattle.block_flow.specs.Stacking.{Progress, after, place_in, places_from, places_of, stacked, handed, extent}
use Rattle.block_flow.specs.Stacked.{Stacked, IsStackOf}
use Rattle.margin_collapse.specs.Pairs.{IsPairOf}
use Rattle.std.proofs.Math.Bool.{and_assoc, and-true}
use Rattle.basic_laws.proofs.Numbers.{number_held}
use Rattle.block_flow.specs.Reached.{IsReached, span_of}
use Rattle.block_flow.specs.declared.boxes.ChildBox.{ChildBox}
use Rattle.block_flow.specs.declared.boxes.ParentEdges.{ParentEdges}
use Rattle.block_flow.specs.declared.reached.Reached.{Reached}

-- the code is on its way through these children, with some left
pub record Walks (start_joins : Bool) (list : List Child) (places : List ℤ) (reached : Reached) (left : List ChildBox) : Type 0 where
  pub progress : Progress
  pub rest : List Child
  pub at : IsReached reached progress
  pub left_are : AreChildren left rest
  pub placed : places ++ places_from progress rest ≡ places_of start_joins list
  pub stacked_are : fold after progress rest ≡ stacked start_joins list
  pub through : (reached.through && list_all (λ c. c.through) rest) ≡ list_all (λ c. c.through) list

-- one child further
pub walks_on : (start_joins : Bool) (list : List Child) (places : List ℤ) (reached next : Reached) (box : ChildBox) (left : List ChildBox) (place : ℤ)
    → ((progress : Progress) (child : Child) → IsReached reached progress → StandsFor box child → place ≡ place_in progress child)
    → ((progress : Progress) (child : Child) → IsReached reached progress → StandsFor box child → IsReached next (after progress child))
    → next.through ≡ reached.through && box.through
    → Walks start_joins list places reached (box ∷ left) → Walks start_joins list (places ++ place ∷ []) next left
walks_on start_joins list places reached next box left place placed stepped through walks = go walks.rest refl walks.left_are where
  go : (rest : List Child) → walks.rest ≡ rest → AreChildren (box ∷ left) rest → Walks start_joins list (places ++ place ∷ []) next left
  go [] e are = absurd are
  go (child ∷ children) e are = record {
    progress = after walks.progress child;
    rest = children;
    at = stepped walks.progress child walks.at are.0;
    left_are = are.1;
    placed = append_assoc places (place ∷ []) (places_from (after walks.progress child) children) ∙ rw (placed walks.progress child walks.at are.0) (rw e at walks.placed);
    stacked_are = rw e at walks.stacked_are;
    through = rw through (rw are.0.through (and_assoc reached.through child.through (list_all (λ c. c.through) children) ∙ (rw e at walks.through)));
  }

-- the code has passed i of these boxes
pub record IsAlong (start_joins : Bool) (boxes : List ChildBox) (places : List ℤ) (reached : Reached) (i : ℕ) : Type 0 where
  pub span : span_of reached + sum_by lengths_of (drop i boxes) ≤ sum_by lengths_of boxes
  pub start : margin_lengths reached.start + sum_by lengths_of (drop i boxes) ≤ sum_by lengths_of boxes
  pub count : length places ≡ i
  pub within : All (λ place. unsigned_abs place ≤ sum_by lengths_of boxes) places
  pub walks : (list : List Child) → AreChildren boxes list → Walks start_joins list places reached (drop i boxes)

-- and then one more
pub along_on : (start_joins : Bool) (boxes : List ChildBox) (places more : List ℤ) (reached next : Reached) (i : ℕ) (d : ChildBox) (place : ℤ)
    → i < length boxes
    → ((progress : Progress) (child : Child) → IsReached reached progress → StandsFor (get_or boxes i d) child → place ≡ place_in progress child)
    → ((progress : Progress) (child : Child) → IsReached reached progress → StandsFor (get_or boxes i d) child → IsReached next (after progress child))
    → next.through ≡ reached.through && (get_or boxes i d).through
    → unsigned_abs place ≤ span_of reached + margin_lengths (get_or boxes i d).start
    → span_of next ≤ span_of reached + lengths_of (get_or boxes i d)
    → margin_lengths next.start ≤ margin_lengths reached.start + lengths_of (get_or boxes i d)
    → sum_by lengths_of boxes ≤ 2 ^ 60
    → more ≡ places ++ to_z w64 (of_z w64 place) ∷ []
    → IsAlong start_joins boxes places reached i → IsAlong start_joins boxes more next (i + 1)
along_on start_joins boxes places more reached next i d place inside placed stepped through near span start room pushed along =
    let left = sum_by-drop_more lengths_of boxes i d inside in
    let before = along.span in
    let before_start = along.start in
    let same = number_held place (omega arith) in
    rw (pushed, same) (record {
      span = omega arith;
      start = omega arith;
      count = let n = along.count in omega (arith, length-append places (place ∷ []));
      within = All-push (λ p. unsigned_abs p ≤ sum_by lengths_of boxes) places place along.within (omega arith);
      walks = λ list are. walks_on start_joins list places reached next (get_or boxes i d) (drop (i + 1) boxes) place placed stepped through (rw (drop_more boxes i d inside) at (along.walks list are));
    })

-- and then none is left
pub walk_ends : (parent : ParentEdges) (list : List Child) (places : List ℤ) (reached : Reached) (boxes : List ChildBox) (stack : Stacked)
    → boxes ≡ [] → stack.places ≡ places
    → ((progress : Progress) → IsReached reached progress → stack.extent ≡ extent parent.end_joins progress)
    → stack.start ≡ reached.start
    → ((progress : Progress) → IsReached reached progress → IsPairOf stack.end_ (handed parent.end_joins progress))
    → stack.through ≡ reached.through
    → Walks parent.start_joins list places reached boxes → IsStackOf parent list stack
walk_ends parent list places reached boxes stack none shown extents starts ends through walks = go walks.rest refl (rw none at walks.left_are) where
  go : (rest : List Child) → walks.rest ≡ rest → AreChildren [] rest → IsStackOf parent list stack
  go (child ∷ children) e are = absurd are
  go [] e are =
      let last : walks.progress ≡ stacked parent.start_joins list = rw e at walks.stacked_are in
      record {
        places_are = shown ∙ sym (append-nil places) ∙ (rw e at walks.placed);
        extent_is = rw (← last) (extents walks.progress walks.at);
        start_is = rw (← last) (rw starts walks.at.start);
        end_is = rw (← last) (ends walks.progress walks.at);
        through_is = through ∙ sym (and-true reached.through) ∙ (rw e at walks.through);
      }
