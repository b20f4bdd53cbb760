-- Of the pieces of an inline box the first alone has its inline-start edges, and the last alone its inline-end edges.
use Rattle.std.proofs.Common.{refl, sym, subst, ℕ, false, List, [], ◌∷◌, ◌++◌, append_assoc}
use Rattle.fragment_types.specs.Item as item
use Rattle.fragment_types.specs.Item.{Entry}
use Rattle.box_gen.specs.declared.opened.Opened.{Opened}
use Rattle.box_gen.specs.Boxes.{closed, opened_again, runs, content}
use Rattle.box_gen.specs.Laws.{HasEdges, HaveEdges, runs_behind, PiecesHaveEdges}
use Rattle.box_gen.specs.Parts as part
use Rattle.box_gen.specs.Parts.{Part}
use Rattle.box_gen.proofs.PairLaws.{numbers, AreWhole, content_whole}

-- ---- what is open ends and begins again

-- the numbers of what is open, the outermost first, before these
outermost_first : List Opened → (inside : List ℕ) → List ℕ
outermost_first [] inside = inside
outermost_first (innermost ∷ opened) inside = outermost_first opened (innermost.node ∷ inside)

closed_edges : (opened : List Opened) (cut : List ℕ) (behind : List ℕ → Type 0) → behind (outermost_first opened cut)
    → HasEdges (closed opened ++ []) (numbers opened) [] cut behind
unfolding closed HasEdges numbers outermost_first
closed_edges [] cut behind holds = (refl, (refl, holds))
closed_edges (innermost ∷ opened) cut behind holds = (refl, (refl, closed_edges opened (innermost.node ∷ cut) behind holds))

again_edges : (opened : List Opened) (items : List Entry) (again : List ℕ) (behind : List ℕ → Type 0) → HasEdges items (numbers opened) again [] behind
    → HasEdges (opened_again opened ++ items) [] (outermost_first opened again) [] behind
unfolding opened_again HasEdges numbers outermost_first
again_edges [] items again behind has = has
again_edges (innermost ∷ opened) items again behind has =
    let begin = item.begins innermost.node innermost.style false in
    subst (λ (l : List Entry). HasEdges l [] (outermost_first opened (innermost.node ∷ again)) [] behind) (sym (append_assoc (opened_again opened) (begin ∷ []) items))
    (again_edges opened (begin ∷ items) (innermost.node ∷ again) behind (refl, (refl, has)))

-- ---- the runs of a list of parts

runs_edges : (opened : List Opened) (parts : List Part) → AreWhole parts (numbers opened)
    → HasEdges (runs opened parts).first.items (numbers opened) [] [] (HaveEdges (runs_behind (runs opened parts).others))
unfolding runs HasEdges HaveEdges runs_behind AreWhole numbers
runs_edges opened [] whole = (whole, (refl, refl))
runs_edges opened (part.words number letters style ∷ parts) whole = (refl, (refl, runs_edges opened parts whole))
runs_edges opened (part.line_break number ∷ parts) whole = (refl, (refl, runs_edges opened parts whole))
runs_edges opened (part.atom number own ∷ parts) whole = (refl, (refl, runs_edges opened parts whole.1))
runs_edges opened (part.block_level own ∷ parts) whole =
    let held = runs opened parts in
    closed_edges opened [] (HaveEdges ((opened_again opened ++ held.first.items) ∷ runs_behind held.others))
    (again_edges opened held.first.items [] (HaveEdges (runs_behind held.others)) (runs_edges opened parts whole.1))
runs_edges opened (part.starts number style ∷ parts) whole = (refl, (refl, runs_edges ((record { node = number; style = style }) ∷ opened) parts whole))
runs_edges [] (part.stops number is_cut ∷ parts) whole = absurd whole
runs_edges (innermost ∷ opened) (part.stops number is_cut ∷ parts) whole = (whole.0, (refl, (refl, runs_edges opened parts whole.1)))

pub pieces_have_edges : PiecesHaveEdges
unfolding HaveEdges numbers
pieces_have_edges nodes = runs_edges [] (content nodes) (content_whole nodes)
