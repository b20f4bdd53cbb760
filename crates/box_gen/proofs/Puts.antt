-- What a container holds in the end, from what is put in it and what is left of its content.
use Rattle.std.proofs.Common.{◌≡◌, ◌∙◌, refl, ap, sym, subst, ℕ, Bool, true, false, List, [], ◌∷◌, ◌++◌, length, ◌<◌, arith, append_assoc}
use Rattle.std.specs.Bool.{⊤}
use Rattle.style_types.specs.declared.style.Style.{Style}
use Rattle.fragment_types.specs.Item as item
use Rattle.fragment_types.specs.Item.{Entry}
use Rattle.box_gen.specs.declared.opened.Opened.{Opened}
use Rattle.box_gen.specs.declared.tree.BoxTree.{BoxTree}
use Rattle.box_gen.specs.declared.tree.BoxTree.TheFolds.{fold_out-BoxTree}
use Rattle.box_gen.specs.Tree.{Boxes, none, box, blocks, inline, box_step, boxes_of, all_boxes_of}
use Rattle.box_gen.specs.Parts as part
use Rattle.box_gen.specs.Parts.{Part}
use Rattle.box_gen.specs.Boxes.{Run, no_run, join, is_blank, Held, Blocks, no_more, then, own_name, wrapped, stacked, container, closed, opened_again, without_innermost, in_front, runs, made}
use Rattle.box_gen.specs.Building.{and_then, run_with, Filling, no_filling, counted, with_run, with_blocks, filled_by, filled, Puts}
use Rattle.box_gen.proofs.BoxLines.{join_assoc, all_boxes_push}
use Rattle.box_gen.proofs.Runs.{and_then_assoc, and_then_nothing}

pub puts_nothing : (f : Filling) → Puts f [] f
puts_nothing f left = refl

pub puts_both : (a b c : Filling) (parts others : List Part) → Puts a parts b → Puts b others c → Puts a (parts ++ others) c
puts_both a b c parts others one two left = ap (filled a) (append_assoc parts others left) ∙ one (others ++ left) ∙ two left

pub puts_are : (a b : Filling) (parts own : List Part) → own ≡ parts → Puts a parts b → Puts a own b
puts_are a b parts own is put left = ap (λ (ps : List Part). filled a (ps ++ left)) is ∙ put left

-- ---- inline content

-- before what follows it, or at the end of what is there
front : (was : Filling) (items : List Entry) (atoms : Boxes) (blank : Bool) (run : Run) (held : Held) → run ≡ and_then was.run (run_with items atoms blank)
    → filled_by was.blocks was.number was.anonymous was.style (and_then was.run (in_front items atoms blank held).first) held.others
    ≡ filled_by was.blocks was.number was.anonymous was.style (and_then run held.first) held.others
front was items atoms blank run held is =
    ap (λ (r : Run). filled_by was.blocks was.number was.anonymous was.style r held.others)
    (sym (and_then_assoc was.run (run_with items atoms blank) held.first) ∙ ap (λ (r : Run). and_then r held.first) (sym is))

module _ (was : Filling) (run : Run) where
  abbrev more : List Opened → Filling
  more opened = record was { run = run; opened = opened }

  pub text_put : (number : ℕ) (letters : List ℕ) (style : Style) → run ≡ and_then was.run (run_with (item.text number letters style ∷ []) none (is_blank letters))
      → Puts was (part.words number letters style ∷ []) (more was.opened)
  unfolding runs
  text_put number letters style is left = front was (item.text number letters style ∷ []) none (is_blank letters) run (runs was.opened left) is

  pub break_put : (number : ℕ) → run ≡ and_then was.run (run_with (item.line_break number ∷ []) none false) → Puts was (part.line_break number ∷ []) (more was.opened)
  unfolding runs
  break_put number is left = front was (item.line_break number ∷ []) none false run (runs was.opened left) is

  pub atom_put : (number : ℕ) (own : Boxes) → run ≡ and_then was.run (run_with (item.atom (own_name number) ∷ []) own false) → Puts was (part.atom number own ∷ []) (more was.opened)
  unfolding runs
  atom_put number own is left = front was (item.atom (own_name number) ∷ []) own false run (runs was.opened left) is

  pub start_put : (number : ℕ) (style : Style) (opened : List Opened) → run ≡ and_then was.run (run_with (item.begins number style true ∷ []) none true)
      → opened ≡ (record { node = number; style = style }) ∷ was.opened → Puts was (part.starts number style ∷ []) (more opened)
  unfolding runs
  start_put number style opened is same left =
      front was (item.begins number style true ∷ []) none true run (runs ((record { node = number; style = style }) ∷ was.opened) left) is
      ∙ ap (λ (boxes : List Opened). filled (more boxes) left) (sym same)

  pub stop_put : (number : ℕ) (is_cut : Bool) (opened : List Opened) → run ≡ and_then was.run (run_with (item.ends number true ∷ []) none is_cut)
      → opened ≡ without_innermost was.opened → Puts was (part.stops number is_cut ∷ []) (more opened)
  unfolding runs
  stop_put number is_cut opened is same left =
      front was (item.ends number true ∷ []) none is_cut run (runs (without_innermost was.opened) left) is
      ∙ ap (λ (boxes : List Opened). filled (more boxes) left) (sym same)

-- ---- a block-level box

IsSome : Boxes → Type 0
IsSome none = ⊥
IsSome (box name style content inner next) = ⊤

join_some : (a b : Boxes) → IsSome b → IsSome (join a b)
unfolding IsSome join
join_some none b some = some
join_some (box name style content inner next) b some = tt

one_some : (tree : BoxTree) → IsSome (boxes_of tree)
unfolding IsSome
one_some tree = subst IsSome (sym (ap (λ (f : Boxes → Boxes). f none) (fold_out-BoxTree (Boxes → Boxes) box_step tree))) tt

filled_some : (so_far : Boxes) (number anonymous : ℕ) (style : Style) (run : Run) (others : Blocks) → IsSome so_far
    → filled_by so_far number anonymous style run others ≡ with_blocks so_far number anonymous style run others
unfolding IsSome
filled_some none number anonymous style run others some = absurd some
filled_some (box name block_style content inner next) number anonymous style run others some = refl

filled_then : (so_far : Boxes) (number anonymous : ℕ) (style : Style) (run : Run) (block : Boxes) (first : Run) (others : Blocks)
    → filled_by so_far number anonymous style run (then block first others) ≡ with_blocks so_far number anonymous style run (then block first others)
filled_then none number anonymous style run block first others = refl
filled_then (box name block_style content inner next) number anonymous style run block first others = refl

-- a run's block, and what stands behind it
wrapped_before : (blank : Bool) (number ordinal : ℕ) (style : Style) (run : Run) (others : ℕ → Boxes)
    → wrapped blank number ordinal style run others ≡ join (wrapped blank number ordinal style run (λ n. none)) (others (counted blank ordinal))
unfolding join
wrapped_before true number ordinal style run others = refl
wrapped_before false number ordinal style run others = refl

-- the run ends, and a block is put behind it
abbrev with_block : Filling → Boxes → Filling
with_block f block = record (with_run f) { blocks = join (with_run f).blocks block }

filled_block : (f : Filling) (block : Boxes) (run : Run) (others : Blocks) → IsSome block
    → filled_by f.blocks f.number f.anonymous f.style f.run (then block run others)
    ≡ filled_by (with_block f block).blocks f.number (with_block f block).anonymous f.style run others
unfolding stacked
filled_block f block run others some =
    let own = wrapped f.run.blank f.number f.anonymous f.style f.run (λ n. none) in
    let behind : ℕ → Boxes = λ ordinal. wrapped run.blank f.number ordinal f.style run (stacked f.number f.style others) in
    let last = counted f.run.blank f.anonymous in
    filled_then f.blocks f.number f.anonymous f.style f.run block run others
    ∙ ap (λ (b : Boxes). box (own_name f.number) f.style blocks b none)
    (ap (join f.blocks) (wrapped_before f.run.blank f.number f.anonymous f.style f.run (λ n. join block (behind n)))
    ∙ sym (join_assoc f.blocks own (join block (behind last)))
    ∙ sym (join_assoc (join f.blocks own) block (behind last)))
    ∙ sym (filled_some (join (join f.blocks own) block) f.number last f.style run others (join_some (join f.blocks own) block some))

-- what is open ends before the block and begins again behind it
pub block_put : (was between : Filling) (ended again : Run) (trees more_trees : List BoxTree) (block : BoxTree)
    → ended ≡ and_then was.run (run_with (closed was.opened) none true) → between ≡ with_run (record was { run = ended })
    → all_boxes_of trees ≡ between.blocks → more_trees ≡ trees ++ (block ∷ []) → again ≡ and_then between.run (run_with (opened_again between.opened) none true)
    → Puts was (part.block_level (boxes_of block) ∷ []) (record between { blocks = all_boxes_of more_trees; run = again })
unfolding runs join
block_put was between ended again trees more_trees block end closed_run are push begin left =
    let held = runs was.opened left in
    let behind = in_front (opened_again was.opened) none true held in
    let own = boxes_of block in
    let with_end : Filling = record was { run = ended } in
    ap (λ (r : Run). filled_by was.blocks was.number was.anonymous was.style r (then own behind.first behind.others))
    (ap (and_then was.run) (and_then_nothing (run_with (closed was.opened) none true)) ∙ sym end)
    ∙ filled_block with_end own behind.first behind.others (one_some block)
    ∙ sym
    (ap (λ (b : Boxes). filled (record between { blocks = b; run = again }) left) (ap all_boxes_of push ∙ all_boxes_push trees block ∙ ap (λ (b : Boxes). join b own) are)
    ∙ ap (λ (r : Run). filled (record between { blocks = join between.blocks own; run = r }) left) begin
    ∙ ap (λ (f : Filling). filled (record f { blocks = join f.blocks own; run = and_then f.run (run_with (opened_again f.opened) none true) }) left) closed_run)

-- ---- at the start and at the end

begun_by : (number : ℕ) (style : Style) (first : Run) (others : Blocks) → filled_by none number 0 style first others ≡ container number style first others
unfolding join
begun_by number style first no_more = refl
begun_by number style first (then block run others) = refl

pub begun : (number : ℕ) (style : Style) (parts : List Part) → filled (no_filling number style) parts ≡ made number style parts
unfolding join
begun number style parts = begun_by number style (runs [] parts).first (runs [] parts).others

-- without a block a container is a paragraph
pub paragraph_is : (trees : List BoxTree) (f : Filling) → all_boxes_of trees ≡ f.blocks → trees ≡ []
    → box (own_name f.number) f.style (inline f.run.items) f.run.atoms none ≡ filled f []
unfolding runs
paragraph_is trees f are empty =
    ap (λ (r : Run). box (own_name f.number) f.style (inline r.items) r.atoms none) (sym (and_then_nothing f.run))
    ∙ ap (λ (b : Boxes). filled_by b f.number f.anonymous f.style (and_then f.run no_run) no_more) (sym (ap all_boxes_of empty) ∙ are)

line_some : (trees : List BoxTree) → 0 < length trees → IsSome (all_boxes_of trees)
unfolding IsSome
line_some [] some = absurd (omega arith)
line_some (tree ∷ trees) some = subst IsSome (sym (ap (λ (f : Boxes → Boxes). f (all_boxes_of trees)) (fold_out-BoxTree (Boxes → Boxes) box_step tree))) tt

-- with one it holds blocks
pub blocks_are : (trees : List BoxTree) (f all : Filling) → all_boxes_of trees ≡ f.blocks → 0 < length trees → all ≡ with_run f
    → box (own_name f.number) all.style blocks all.blocks none ≡ filled f []
unfolding runs stacked
blocks_are trees f all are some is =
    ap (λ (g : Filling). box (own_name f.number) g.style blocks g.blocks none) is
    ∙ ap (λ (r : Run). with_blocks f.blocks f.number f.anonymous f.style r no_more) (sym (and_then_nothing f.run))
    ∙ sym (filled_some f.blocks f.number f.anonymous f.style (and_then f.run no_run) no_more (subst IsSome are (line_some trees some)))
