-- How proofs tell trees of fragments on the page apart: a tree as the list of its fragments, each before those inside it.
use Rattle.std.specs.Prelude.{List, [], ◌∷◌, Option, Some, None}
use Rattle.std.proofs.Common.{◌≡◌, ◌∙◌, ap, refl}
use Rattle.std.specs.Coded.{Coded, code_by, coded_list, coded_option}
use Rattle.wm_modes.specs.declared.rects.Rect.{Rect}
use Rattle.fragment_types.specs.declared.item.BoxName.{BoxName}
use Rattle.fragment_types.specs.Fragment.{Kind}
use Rattle.place_map.specs.Parts.{Parts, none, part}

-- a fragment without those inside it
abbrev pub Alone : Type 0
Alone = BoxName × Rect × Kind

abbrev pub listed_before : Parts → (rest : List (Option Alone)) → List (Option Alone)
listed_before none rest = None ∷ rest
listed_before (part name rect kind inner next) rest = Some (name, rect, kind) ∷ listed_before inner (listed_before next rest)

-- one fragment more in front, where these trees were read behind it
abbrev pub put_front : Option Alone → List Parts → List Parts
put_front None trees = none ∷ trees
put_front (Some alone) [] = []
put_front (Some alone) (inner ∷ []) = []
put_front (Some alone) (inner ∷ next ∷ trees) = part alone.0 alone.1 alone.2 inner next ∷ trees

abbrev pub trees_of : List (Option Alone) → List Parts
trees_of [] = []
trees_of (alone ∷ rest) = put_front alone (trees_of rest)

abbrev pub first_tree : List Parts → Parts
first_tree [] = none
first_tree (tree ∷ trees) = tree

pub read_back : (tree : Parts) (rest : List (Option Alone)) → trees_of (listed_before tree rest) ≡ tree ∷ trees_of rest
read_back none rest = refl
read_back (part name rect kind inner next) rest =
    ap (put_front (Some (name, rect, kind))) (read_back inner (listed_before next rest) ∙ ap (λ (trees : List Parts). inner ∷ trees) (read_back next rest))

abbrev pub parts_code : Coded Alone → Coded Parts
parts_code alone =
    code_by (List (Option Alone)) (coded_list (coded_option alone)) (λ tree. listed_before tree []) (λ list. first_tree (trees_of list)) (λ tree. ap first_tree (read_back tree []))
