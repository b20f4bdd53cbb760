-- In each paragraph what begins ends, as brackets do.
use Rattle.std.proofs.Common.{◌≡◌, refl, sym, subst, ℕ, suc, Bool, true, false, List, [], ◌∷◌, ◌++◌, append_assoc, append-nil}
use Rattle.std.specs.Bool.{⊤}
use Rattle.style_types.specs.declared.style.Style.{Style}
use Rattle.fragment_types.specs.Item as item
use Rattle.fragment_types.specs.Item.{Entry}
use Rattle.style_types.specs.Tree as styled
use Rattle.style_types.specs.Tree.{Nodes}
use Rattle.box_gen.specs.declared.opened.Opened.{Opened}
use Rattle.box_gen.specs.Boxes.{Role, nothing, words, line_break, inline_box, atom, block_level, role_of, Run, join, Blocks, no_more, then, wrapped, stacked, container, closed, opened_again, runs, made, parts_by, content}
use Rattle.box_gen.specs.Laws.{ArePaired, HavePairs, ItemsArePaired}
use Rattle.box_gen.specs.Parts as part
use Rattle.box_gen.specs.Parts.{Part, has_block}
use Rattle.box_gen.specs.Tree.{Boxes, none, box}

-- ---- what is open ends and begins again

unfoldable pub numbers : List Opened → List ℕ
numbers [] = []
numbers (innermost ∷ opened) = innermost.node ∷ numbers opened

closed_paired : (opened : List Opened) → ArePaired (closed opened ++ []) (numbers opened)
unfolding closed ArePaired numbers
closed_paired [] = refl
closed_paired (innermost ∷ opened) = (refl, closed_paired opened)

again_paired : (opened : List Opened) (items : List Entry) → ArePaired items (numbers opened) → ArePaired (opened_again opened ++ items) []
unfolding opened_again ArePaired numbers
again_paired [] items paired = paired
again_paired (innermost ∷ opened) items paired =
    let begin = item.begins innermost.node innermost.style false in
    subst (λ (l : List Entry). ArePaired l []) (sym (append_assoc (opened_again opened) (begin ∷ []) items)) (again_paired opened (begin ∷ items) paired)

-- ---- a list of parts, and its runs

-- where inline boxes of these numbers are open they stop, and each that starts stops, as brackets do; and so it is in the boxes of the parts
unfoldable pub AreWhole : List Part → (around : List ℕ) → Type 0
AreWhole [] around = around ≡ []
AreWhole (part.words number letters style ∷ parts) around = AreWhole parts around
AreWhole (part.line_break number ∷ parts) around = AreWhole parts around
AreWhole (part.atom number own ∷ parts) around = HavePairs own × AreWhole parts around
AreWhole (part.block_level own ∷ parts) around = HavePairs own × AreWhole parts around
AreWhole (part.starts number style ∷ parts) around = AreWhole parts (number ∷ around)
AreWhole (part.stops number is_cut ∷ parts) [] = ⊥
AreWhole (part.stops number is_cut ∷ parts) (innermost ∷ outer) = (number ≡ innermost) × AreWhole parts outer

join_pairs : (a b : Boxes) → HavePairs a → HavePairs b → HavePairs (join a b)
unfolding join HavePairs
join_pairs none b paired others = others
join_pairs (box name style content inner next) b paired others = (paired.0, (paired.1.0, join_pairs next b paired.1.1 others))

abbrev IsRun : Run → (around : List ℕ) → Type 0
IsRun run around = ArePaired run.items around × HavePairs run.atoms

AreRuns : Blocks → Type 0
AreRuns no_more = ⊤
AreRuns (then block run others) = HavePairs block × (IsRun run [] × AreRuns others)

runs_paired : (opened : List Opened) (parts : List Part) → AreWhole parts (numbers opened) → IsRun (runs opened parts).first (numbers opened) × AreRuns (runs opened parts).others
unfolding runs join ArePaired HavePairs AreWhole AreRuns numbers
runs_paired opened [] whole = ((whole, tt), tt)
runs_paired opened (part.words number letters style ∷ parts) whole = runs_paired opened parts whole
runs_paired opened (part.line_break number ∷ parts) whole = runs_paired opened parts whole
runs_paired opened (part.atom number own ∷ parts) whole =
    let paired = runs_paired opened parts whole.1 in ((paired.0.0, join_pairs own (runs opened parts).first.atoms whole.0 paired.0.1), paired.1)
runs_paired opened (part.block_level own ∷ parts) whole =
    let paired = runs_paired opened parts whole.1 in
    ((closed_paired opened, tt), (whole.0, ((again_paired opened (runs opened parts).first.items paired.0.0, paired.0.1), paired.1)))
runs_paired opened (part.starts number style ∷ parts) whole = runs_paired ((record { node = number; style = style }) ∷ opened) parts whole
runs_paired [] (part.stops number is_cut ∷ parts) whole = absurd whole
runs_paired (innermost ∷ opened) (part.stops number is_cut ∷ parts) whole =
    let paired = runs_paired opened parts whole.1 in (((whole.0, paired.0.0), paired.0.1), paired.1)

-- ---- a container

wrapped_paired : (blank : Bool) (number ordinal : ℕ) (style : Style) (run : Run) (others : ℕ → Boxes) → IsRun run [] → ((n : ℕ) → HavePairs (others n))
    → HavePairs (wrapped blank number ordinal style run others)
unfolding HavePairs
wrapped_paired true number ordinal style run others paired each = each ordinal
wrapped_paired false number ordinal style run others paired each = (paired.0, (paired.1, each (suc ordinal)))

stacked_paired : (number : ℕ) (style : Style) (held : Blocks) (ordinal : ℕ) → AreRuns held → HavePairs (stacked number style held ordinal)
unfolding stacked HavePairs AreRuns
stacked_paired number style no_more ordinal paired = tt
stacked_paired number style (then block run others) ordinal paired =
    join_pairs block (wrapped run.blank number ordinal style run (stacked number style others)) paired.0
    (wrapped_paired run.blank number ordinal style run (stacked number style others) paired.1.0 (λ n. stacked_paired number style others n paired.1.1))

container_paired : (number : ℕ) (style : Style) (first : Run) (others : Blocks) → IsRun first [] → AreRuns others → HavePairs (container number style first others)
unfolding HavePairs
container_paired number style first no_more paired each = (paired.0, (paired.1, tt))
container_paired number style first (then block run others) paired each =
    let held = then block run others in
    (tt, (wrapped_paired first.blank number 0 style first (stacked number style held) paired (λ n. stacked_paired number style held n each), tt))

made_paired : (number : ℕ) (style : Style) (parts : List Part) → AreWhole parts [] → HavePairs (made number style parts)
unfolding numbers
made_paired number style parts whole =
    let paired = runs_paired [] parts whole in container_paired number style (runs [] parts).first (runs [] parts).others paired.0 paired.1

-- ---- the content of nodes

Continues : List Part → Type 0
Continues parts = (behind : List Part) (around : List ℕ) → AreWhole behind around → AreWhole (parts ++ behind) around

whole_inside : (parts : List Part) → Continues parts → AreWhole parts []
unfolding AreWhole Continues
whole_inside parts continues = subst (λ (l : List Part). AreWhole l []) (append-nil parts) (continues [] [] refl)

role_continues : (role : Role) (number : ℕ) (style : Style) (inner : List Part) → Continues inner → Continues (parts_by role number style inner)
unfolding AreWhole Continues
role_continues nothing number style inner continues behind around whole = whole
role_continues (words letters) number style inner continues behind around whole = whole
role_continues line_break number style inner continues behind around whole = whole
role_continues inline_box number style inner continues behind around whole =
    let stop = part.stops number (has_block inner) in
    subst (λ (l : List Part). AreWhole l (number ∷ around)) (sym (append_assoc inner (stop ∷ []) behind)) (continues (stop ∷ behind) (number ∷ around) (refl, whole))
role_continues atom number style inner continues behind around whole = (made_paired number style inner (whole_inside inner continues), whole)
role_continues block_level number style inner continues behind around whole = (made_paired number style inner (whole_inside inner continues), whole)

content_continues : (nodes : Nodes) → Continues (content nodes)
unfolding content Continues
content_continues styled.none behind around whole = whole
content_continues (styled.node number kind style inner next) behind around whole =
    let own = parts_by (role_of kind style) number style (content inner) in
    subst (λ (l : List Part). AreWhole l around) (sym (append_assoc own (content next) behind))
    (role_continues (role_of kind style) number style (content inner) (content_continues inner) (content next ++ behind) around (content_continues next behind around whole))

pub content_whole : (nodes : Nodes) → AreWhole (content nodes) []
content_whole nodes = whole_inside (content nodes) (content_continues nodes)

pub items_are_paired : ItemsArePaired
unfolding HavePairs
items_are_paired styled.none = tt
items_are_paired (styled.node number kind style inner next) = made_paired number style (content inner) (content_whole inner)
