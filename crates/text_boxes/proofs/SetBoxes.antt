-- The boxes of a styled tree in which a text has other letters are those of the tree with these letters, where the letters are white space
-- alone exactly where the old ones are.
use Rattle.std.proofs.Common.{◌≡◌, ◌∙◌, ℕ, suc, Bool, true, false, List, [], ◌∷◌, ◌++◌, map, refl, ap, sym}
use Rattle.std.specs.Prelude.{◌||◌, ◌&&◌, ⊤}
use Rattle.std.proofs.lemmas.List.{map-append}
use Rattle.style_types.specs.declared.style.Style.{Style}
use Rattle.style_types.specs.Tree as styled
use Rattle.style_types.specs.Tree.{Nodes}
use Rattle.fragment_types.specs.Item as item
use Rattle.fragment_types.specs.Item.{Entry}
use Rattle.box_gen.specs.declared.opened.Opened.{Opened}
use Rattle.box_gen.specs.Boxes.{Blocks, Held, Role, Run, anonymous, atom, before_run, block_level, closed, container, content, in_front, inline_box, is_blank, join, line_break, made, no_more, no_run, nothing, opened_again, own_name, parts_by, role_of, root_boxes, runs, stacked, then, without_innermost, words, wrapped}
use Rattle.box_gen.specs.Parts as part
use Rattle.box_gen.specs.Parts.{Part, around, has_block, is_block}
use Rattle.box_gen.specs.Tree.{Boxes, blocks, box, inline, none}
use Rattle.text_boxes.specs.Boxes.{boxes_with, content_with, entry_with}
use Rattle.text_boxes.specs.Documents.{nodes_with}
use Rattle.text_boxes.proofs.SetLetters.{IsBlankRole, blank_set, letters_at, role_blank, role_set, role_with}
use Rattle.text_boxes.proofs.WhiteSpace.{AreBlankAs}

module _ (number : ℕ) (letters : List ℕ) where
  -- ---- boxes that stand one after the other

  join_set : (one two : Boxes) → boxes_with number letters (join one two) ≡ join (boxes_with number letters one) (boxes_with number letters two)
  unfolding join
  join_set none two = refl
  join_set (box name style held inner next) two = ap (box name style (content_with number letters held) (boxes_with number letters inner)) (join_set next two)

  -- ---- with these letters

  abbrev items_with : List Entry → List Entry
  items_with items = map (entry_with number letters) items

  abbrev run_with : Run → Run
  run_with run = record { items = items_with run.items; atoms = boxes_with number letters run.atoms; blank = run.blank }

  abbrev stack_with : Blocks → Blocks
  stack_with no_more = no_more
  stack_with (then block run others) = then (boxes_with number letters block) (run_with run) (stack_with others)

  abbrev held_with : Held → Held
  held_with held = record { first = run_with held.first; others = stack_with held.others }

  abbrev part_with : Part → Part
  part_with (part.words node was style) = part.words node (letters_at number letters node was) style
  part_with (part.line_break node) = part.line_break node
  part_with (part.atom node own) = part.atom node (boxes_with number letters own)
  part_with (part.block_level own) = part.block_level (boxes_with number letters own)
  part_with (part.starts node style) = part.starts node style
  part_with (part.stops node is_cut) = part.stops node is_cut

  abbrev parts_with : List Part → List Part
  parts_with parts = map part_with parts

  -- ---- white space

  -- the letters are white space alone exactly where those of this part are, where it is the text of the node
  abbrev IsBlankPart : Part → Type 0
  IsBlankPart (part.words node was style) = node ≡ number → is_blank letters ≡ is_blank was
  IsBlankPart (part.line_break node) = ⊤
  IsBlankPart (part.atom node own) = ⊤
  IsBlankPart (part.block_level own) = ⊤
  IsBlankPart (part.starts node style) = ⊤
  IsBlankPart (part.stops node is_cut) = ⊤

  abbrev AreBlankParts : List Part → Type 0
  AreBlankParts [] = ⊤
  AreBlankParts (first ∷ parts) = IsBlankPart first × AreBlankParts parts

  blank_append : (one two : List Part) → AreBlankParts one → AreBlankParts two → AreBlankParts (one ++ two)
  blank_append [] two here later = later
  blank_append (first ∷ one) two here later = (here.0, blank_append one two here.1 later)

  -- ---- runs

  -- open inline boxes end and begin again with no text
  closed_set : (opened : List Opened) → items_with (closed opened) ≡ closed opened
  unfolding closed
  closed_set [] = refl
  closed_set (innermost ∷ opened) = ap (λ (l : List Entry). item.ends innermost.node false ∷ l) (closed_set opened)

  again_set : (opened : List Opened) → items_with (opened_again opened) ≡ opened_again opened
  unfolding opened_again
  again_set [] = refl
  again_set (innermost ∷ opened) =
      let own : Entry = item.begins innermost.node innermost.style false in
      map-append (entry_with number letters) (opened_again opened) (own ∷ []) ∙ ap (λ (l : List Entry). l ++ (own ∷ [])) (again_set opened)

  -- content before a run
  front_set : (items : List Entry) (atoms : Boxes) (blank : Bool) (held : Held) → in_front (items_with items) (boxes_with number letters atoms) blank (held_with held) ≡ held_with (in_front items atoms blank held)
  front_set items atoms blank held =
      let run_of = λ (i : List Entry) (a : Boxes). let made : Held = record { first = record { items = i; atoms = a; blank = blank && held.first.blank }; others = stack_with held.others } in made in
      ap (λ (i : List Entry). run_of i (join (boxes_with number letters atoms) (boxes_with number letters held.first.atoms))) (sym (map-append (entry_with number letters) items held.first.items))
      ∙ ap (run_of (items_with (items ++ held.first.items))) (sym (join_set atoms held.first.atoms))

  -- the run before a block-level box: the open inline boxes end
  ended_set : (opened : List Opened) → before_run (closed opened) none true no_run ≡ run_with (before_run (closed opened) none true no_run)
  unfolding join
  ended_set opened =
      ap (λ (l : List Entry). let made : Run = record { items = l; atoms = none; blank = true } in made)
      (ap (λ (l : List Entry). l ++ []) (sym (closed_set opened)) ∙ sym (map-append (entry_with number letters) (closed opened) []))

  -- content cut at its block-level boxes
  runs_set : (opened : List Opened) (parts : List Part) → AreBlankParts parts → runs opened (parts_with parts) ≡ held_with (runs opened parts)
  unfolding runs
  runs_set opened [] blank = refl
  runs_set opened (part.words node was style ∷ parts) blank =
      let own : List Entry = item.text node (letters_at number letters node was) style ∷ [] in
      ap (λ (b : Bool). in_front own none b (runs opened (parts_with parts))) (blank_set number letters node was blank.0)
      ∙ ap (in_front own none (is_blank was)) (runs_set opened parts blank.1)
      ∙ front_set (item.text node was style ∷ []) none (is_blank was) (runs opened parts)
  runs_set opened (part.line_break node ∷ parts) blank =
      ap (in_front (item.line_break node ∷ []) none false) (runs_set opened parts blank.1) ∙ front_set (item.line_break node ∷ []) none false (runs opened parts)
  runs_set opened (part.atom node own ∷ parts) blank =
      ap (in_front (item.atom (own_name node) ∷ []) (boxes_with number letters own) false) (runs_set opened parts blank.1) ∙ front_set (item.atom (own_name node) ∷ []) own false (runs opened parts)
  runs_set opened (part.starts node style ∷ parts) blank =
      let deeper : List Opened = (record { node = node; style = style }) ∷ opened in
      ap (in_front (item.begins node style true ∷ []) none true) (runs_set deeper parts blank.1) ∙ front_set (item.begins node style true ∷ []) none true (runs deeper parts)
  runs_set opened (part.stops node is_cut ∷ parts) blank =
      ap (in_front (item.ends node true ∷ []) none is_cut) (runs_set (without_innermost opened) parts blank.1) ∙ front_set (item.ends node true ∷ []) none is_cut (runs (without_innermost opened) parts)
  runs_set opened (part.block_level own ∷ parts) blank =
      let behind : in_front (opened_again opened) none true (runs opened (parts_with parts)) ≡ held_with (in_front (opened_again opened) none true (runs opened parts)) =
      ap (λ (l : List Entry). in_front l none true (runs opened (parts_with parts))) (sym (again_set opened))
      ∙ ap (in_front (items_with (opened_again opened)) none true) (runs_set opened parts blank.1)
      ∙ front_set (opened_again opened) none true (runs opened parts) in
      let cut = λ (first : Run) (h : Held). let made : Held = record { first = first; others = then (boxes_with number letters own) h.first h.others } in made in
      ap (cut (before_run (closed opened) none true no_run)) behind
      ∙ ap (λ (r : Run). cut r (held_with (in_front (opened_again opened) none true (runs opened parts)))) (ended_set opened)

  -- ---- a container

  -- an anonymous block before others
  wrapped_set : (blank : Bool) (node ordinal : ℕ) (style : Style) (run : Run) (others rest : ℕ → Boxes) → ((ordinal : ℕ) → others ordinal ≡ boxes_with number letters (rest ordinal))
      → wrapped blank node ordinal style (run_with run) others ≡ boxes_with number letters (wrapped blank node ordinal style run rest)
  wrapped_set true node ordinal style run others rest same = same ordinal
  wrapped_set false node ordinal style run others rest same =
      ap (box (record { node = node; ordinal = suc ordinal }) (anonymous style) (inline (items_with run.items)) (boxes_with number letters run.atoms)) (same (suc ordinal))

  stacked_set : (node : ℕ) (style : Style) (some : Blocks) (ordinal : ℕ) → stacked node style (stack_with some) ordinal ≡ boxes_with number letters (stacked node style some ordinal)
  unfolding stacked
  stacked_set node style no_more ordinal = refl
  stacked_set node style (then block run others) ordinal =
      ap (join (boxes_with number letters block)) (wrapped_set run.blank node ordinal style run (stacked node style (stack_with others)) (stacked node style others) (stacked_set node style others))
      ∙ sym (join_set block (wrapped run.blank node ordinal style run (stacked node style others)))

  container_set : (node : ℕ) (style : Style) (first : Run) (others : Blocks) → container node style (run_with first) (stack_with others) ≡ boxes_with number letters (container node style first others)
  container_set node style first no_more = refl
  container_set node style first (then block run others) =
      ap (λ (b : Boxes). box (own_name node) style blocks b none)
      (wrapped_set first.blank node 0 style first (stacked node style (stack_with (then block run others))) (stacked node style (then block run others)) (stacked_set node style (then block run others)))

  made_set : (node : ℕ) (style : Style) (parts : List Part) → AreBlankParts parts → made node style (parts_with parts) ≡ boxes_with number letters (made node style parts)
  made_set node style parts blank =
      ap (λ (h : Held). container node style h.first h.others) (runs_set [] parts blank) ∙ container_set node style (runs [] parts).first (runs [] parts).others

  -- ---- parts

  -- a box is cut where it was
  block_set : (first : Part) → is_block (part_with first) ≡ is_block first
  block_set (part.words node was style) = refl
  block_set (part.line_break node) = refl
  block_set (part.atom node own) = refl
  block_set (part.block_level own) = refl
  block_set (part.starts node style) = refl
  block_set (part.stops node is_cut) = refl

  has_block_set : (parts : List Part) → has_block (parts_with parts) ≡ has_block parts
  has_block_set [] = refl
  has_block_set (first ∷ parts) = ap (λ (b : Bool). b || has_block (parts_with parts)) (block_set first) ∙ ap (λ (b : Bool). is_block first || b) (has_block_set parts)

  -- what a node is in its container
  parts_set : (role : Role) (node : ℕ) (style : Style) (inner : List Part) → AreBlankParts inner → parts_by (role_with number letters node role) node style (parts_with inner) ≡ parts_with (parts_by role node style inner)
  parts_set nothing node style inner blank = refl
  parts_set (words was) node style inner blank = refl
  parts_set line_break node style inner blank = refl
  parts_set inline_box node style inner blank =
      ap (λ (b : Bool). part.starts node style ∷ (parts_with inner ++ (part.stops node b ∷ []))) (has_block_set inner)
      ∙ ap (λ (l : List Part). part.starts node style ∷ l) (sym (map-append part_with inner (part.stops node (has_block inner) ∷ [])))
  parts_set atom node style inner blank = ap (λ (b : Boxes). part.atom node b ∷ []) (made_set node style inner blank)
  parts_set block_level node style inner blank = ap (λ (b : Boxes). part.block_level b ∷ []) (made_set node style inner blank)

  parts_blank : (role : Role) (node : ℕ) (style : Style) (inner : List Part) → IsBlankRole number letters node role → AreBlankParts inner → AreBlankParts (parts_by role node style inner)
  parts_blank nothing node style inner own blank = tt
  parts_blank (words was) node style inner own blank = (own, tt)
  parts_blank line_break node style inner own blank = (tt, tt)
  parts_blank inline_box node style inner own blank = (tt, blank_append inner (part.stops node (has_block inner) ∷ []) blank (tt, tt))
  parts_blank atom node style inner own blank = (tt, tt)
  parts_blank block_level node style inner own blank = (tt, tt)

  -- ---- trees

  content_blank : (nodes : Nodes) → AreBlankAs number letters nodes → AreBlankParts (content nodes)
  unfolding content
  content_blank styled.none blank = tt
  content_blank (styled.node node kind style inner next) blank =
      blank_append (parts_by (role_of kind style) node style (content inner)) (content next)
      (parts_blank (role_of kind style) node style (content inner) (role_blank number letters node kind style blank.0) (content_blank inner blank.1)) (content_blank next blank.2)

  content_set : (nodes : Nodes) → AreBlankAs number letters nodes → content (nodes_with number letters nodes) ≡ parts_with (content nodes)
  unfolding content
  content_set styled.none blank = refl
  content_set (styled.node node kind style inner next) blank =
      let behind = content (nodes_with number letters next) in
      ap (λ (r : Role). parts_by r node style (content (nodes_with number letters inner)) ++ behind) (role_set number letters node kind style)
      ∙ ap (λ (l : List Part). parts_by (role_with number letters node (role_of kind style)) node style l ++ behind) (content_set inner blank.1)
      ∙ ap (λ (l : List Part). l ++ behind) (parts_set (role_of kind style) node style (content inner) (content_blank inner blank.1))
      ∙ ap (λ (l : List Part). parts_with (parts_by (role_of kind style) node style (content inner)) ++ l) (content_set next blank.2)
      ∙ sym (map-append part_with (parts_by (role_of kind style) node style (content inner)) (content next))

  pub root_set : (nodes : Nodes) → AreBlankAs number letters nodes → root_boxes (nodes_with number letters nodes) ≡ boxes_with number letters (root_boxes nodes)
  root_set styled.none blank = refl
  root_set (styled.node node kind style inner next) blank = ap (made node style) (content_set inner blank.1) ∙ made_set node style (content inner) (content_blank inner blank.1)
