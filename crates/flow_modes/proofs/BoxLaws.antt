-- A styled tree in a way makes the boxes in that way.
use Rattle.std.proofs.Common.{◌≡◌, ◌∙◌, refl, sym, ap, ℕ, suc, Bool, true, false, ◌||◌, ◌&&◌, List, [], ◌∷◌, ◌++◌, map}
use Rattle.std.proofs.lemmas.List.{map-append}
use Rattle.style_types.specs.declared.style.Style.{Style}
use Rattle.style_types.specs.Initial.{initial}
use Rattle.style_types.specs.Tree as styled
use Rattle.style_types.specs.Tree.{NodeKind, Nodes}
use Rattle.fragment_types.specs.Item as item
use Rattle.fragment_types.specs.Item.{Entry}
use Rattle.box_gen.specs.declared.opened.Opened.{Opened}
use Rattle.box_gen.specs.Boxes.{Blocks, Held, Role, Run, anonymous, atom, before_run, block_level, closed, container, content, in_front, inline_box, is_blank, join, line_break, made, no_more, no_run, nothing, opened_again, own_name, parts_by, role_of, runs, stacked, then, without_innermost, words, wrapped}
use Rattle.box_gen.specs.Parts as part
use Rattle.box_gen.specs.Parts.{Part, around, has_block, is_block}
use Rattle.box_gen.specs.Tree.{Boxes, blocks, box, inline, none}
use Rattle.flow_modes.specs.Boxes.{NodesMakeBoxesAlike}
use Rattle.mode_ways.proofs.RoleLaws.{same_role}
use Rattle.mode_ways.specs.Ways.{Way, across, down, left, right, boxes_in, content_in, entry_in, nodes_in, style_in}

-- an anonymous block has what it copies in the way, and is alike on all sides
anonymous_same : (way : Way) (style : Style) → anonymous (style_in way style) ≡ style_in way (anonymous style)
unfolding initial
anonymous_same (across orientation combine) style = refl
anonymous_same down style = refl
anonymous_same (right orientation combine) style = refl
anonymous_same (left orientation combine) style = refl

module _ (way : Way) where
  -- ---- what boxes are made from, in a way

  turned_part : Part → Part
  turned_part (part.words number letters style) = part.words number letters (style_in way style)
  turned_part (part.line_break number) = part.line_break number
  turned_part (part.atom number own) = part.atom number (boxes_in way own)
  turned_part (part.block_level own) = part.block_level (boxes_in way own)
  turned_part (part.starts number style) = part.starts number (style_in way style)
  turned_part (part.stops number is_cut) = part.stops number is_cut

  abbrev turned_opened : Opened → Opened
  turned_opened own = record { node = own.node; style = style_in way own.style }

  abbrev turned_run : Run → Run
  turned_run run = record { items = map (entry_in way) run.items; atoms = boxes_in way run.atoms; blank = run.blank }

  abbrev turned_blocks : Blocks → Blocks
  turned_blocks no_more = no_more
  turned_blocks (then block run others) = then (boxes_in way block) (turned_run run) (turned_blocks others)

  abbrev turned_held : Held → Held
  turned_held held = record { first = turned_run held.first; others = turned_blocks held.others }

  -- ---- runs

  turned_join : (own others : Boxes) → join (boxes_in way own) (boxes_in way others) ≡ boxes_in way (join own others)
  unfolding join boxes_in
  turned_join none others = refl
  turned_join (box name style held inner next) others = λ i. box name (style_in way style) (content_in way held) (boxes_in way inner) (turned_join next others i)

  turned_before_run : (items : List Entry) (atoms : Boxes) (blank : Bool) (run : Run) → before_run (map (entry_in way) items) (boxes_in way atoms) blank (turned_run run) ≡ turned_run (before_run items atoms blank run)
  turned_before_run items atoms blank run =
      λ i. record { items = sym (map-append (entry_in way) items run.items) i; atoms = turned_join atoms run.atoms i; blank = blank && run.blank }

  turned_in_front : (items : List Entry) (atoms : Boxes) (blank : Bool) (held : Held) → in_front (map (entry_in way) items) (boxes_in way atoms) blank (turned_held held) ≡ turned_held (in_front items atoms blank held)
  turned_in_front items atoms blank held = λ i. record { first = turned_before_run items atoms blank held.first i; others = turned_blocks held.others }

  -- content with no boxes of its own
  turned_in_front_bare : (items : List Entry) (blank : Bool) (held : Held) → in_front (map (entry_in way) items) none blank (turned_held held) ≡ turned_held (in_front items none blank held)
  unfolding boxes_in
  turned_in_front_bare items blank held = turned_in_front items none blank held

  -- ---- a container

  turned_wrapped : (blank : Bool) (number ordinal : ℕ) (style : Style) (run : Run) (those others : ℕ → Boxes) → ((n : ℕ) → those n ≡ boxes_in way (others n))
      → wrapped blank number ordinal (style_in way style) (turned_run run) those ≡ boxes_in way (wrapped blank number ordinal style run others)
  unfolding boxes_in
  turned_wrapped true number ordinal style run those others same = same ordinal
  turned_wrapped false number ordinal style run those others same =
      λ i. box (record { node = number; ordinal = suc ordinal }) (anonymous_same way style i) (inline (map (entry_in way) run.items)) (boxes_in way run.atoms) (same (suc ordinal) i)

  turned_stacked : (number : ℕ) (style : Style) (own : Blocks) (ordinal : ℕ) → stacked number (style_in way style) (turned_blocks own) ordinal ≡ boxes_in way (stacked number style own ordinal)
  unfolding stacked boxes_in
  turned_stacked number style no_more ordinal = refl
  turned_stacked number style (then block run others) ordinal =
      ap (join (boxes_in way block)) (turned_wrapped run.blank number ordinal style run _ (stacked number style others) (turned_stacked number style others))
      ∙ turned_join block (wrapped run.blank number ordinal style run (stacked number style others))

  turned_container : (number : ℕ) (style : Style) (first : Run) (own : Blocks) → container number (style_in way style) (turned_run first) (turned_blocks own) ≡ boxes_in way (container number style first own)
  unfolding boxes_in
  turned_container number style first no_more = refl
  turned_container number style first (then block run others) =
      λ i. box (own_name number) (style_in way style) blocks
      (turned_wrapped first.blank number 0 style first _ _ (turned_stacked number style (then block run others)) i) none

  -- ---- the content cut

  turned_closed : (opened : List Opened) → closed (map turned_opened opened) ≡ map (entry_in way) (closed opened)
  unfolding closed
  turned_closed [] = refl
  turned_closed (innermost ∷ opened) = ap (λ (items : List Entry). item.ends innermost.node false ∷ items) (turned_closed opened)

  turned_opened_again : (opened : List Opened) → opened_again (map turned_opened opened) ≡ map (entry_in way) (opened_again opened)
  unfolding opened_again
  turned_opened_again [] = refl
  turned_opened_again (innermost ∷ opened) =
      ap (λ (items : List Entry). items ++ (item.begins innermost.node (style_in way innermost.style) false ∷ [])) (turned_opened_again opened)
      ∙ sym (map-append (entry_in way) (opened_again opened) (item.begins innermost.node innermost.style false ∷ []))

  turned_without : (opened : List Opened) → without_innermost (map turned_opened opened) ≡ map turned_opened (without_innermost opened)
  turned_without [] = refl
  turned_without (innermost ∷ opened) = refl

  -- a block-level box between what stands before it and behind it
  turned_cut : (opened : List Opened) (own : Boxes) (held those : Held) → those ≡ turned_held held
      → let behind = in_front (opened_again opened) none true held in
      let then_behind = in_front (opened_again (map turned_opened opened)) none true those in
      let cut : Held = record { first = before_run (closed opened) none true no_run; others = then own behind.first behind.others } in
      let then_cut : Held = record { first = before_run (closed (map turned_opened opened)) none true no_run; others = then (boxes_in way own) then_behind.first then_behind.others } in
      then_cut ≡ turned_held cut
  unfolding boxes_in
  turned_cut opened own held those same =
      let behind : in_front (opened_again (map turned_opened opened)) none true those ≡ turned_held (in_front (opened_again opened) none true held) =
      (λ i. in_front (turned_opened_again opened i) none true (same i)) ∙ turned_in_front_bare (opened_again opened) true held in
      let first : before_run (closed (map turned_opened opened)) none true no_run ≡ turned_run (before_run (closed opened) none true no_run) =
      ap (λ (items : List Entry). before_run items none true no_run) (turned_closed opened) ∙ turned_before_run (closed opened) none true no_run in
      λ i. record { first = first i; others = then (boxes_in way own) (behind i).first (behind i).others }

  turned_runs : (opened : List Opened) (parts : List Part) → runs (map turned_opened opened) (map turned_part parts) ≡ turned_held (runs opened parts)
  unfolding runs boxes_in turned_part
  turned_runs opened [] = refl
  turned_runs opened (part.words number letters style ∷ parts) =
      ap (in_front (item.text number letters (style_in way style) ∷ []) none (is_blank letters)) (turned_runs opened parts)
      ∙ turned_in_front_bare (item.text number letters style ∷ []) (is_blank letters) (runs opened parts)
  turned_runs opened (part.line_break number ∷ parts) =
      ap (in_front (item.line_break number ∷ []) none false) (turned_runs opened parts)
      ∙ turned_in_front_bare (item.line_break number ∷ []) false (runs opened parts)
  turned_runs opened (part.atom number own ∷ parts) =
      ap (in_front (item.atom (own_name number) ∷ []) (boxes_in way own) false) (turned_runs opened parts)
      ∙ turned_in_front (item.atom (own_name number) ∷ []) own false (runs opened parts)
  turned_runs opened (part.starts number style ∷ parts) =
      ap (in_front (item.begins number (style_in way style) true ∷ []) none true) (turned_runs ((record { node = number; style = style }) ∷ opened) parts)
      ∙ turned_in_front_bare (item.begins number style true ∷ []) true (runs ((record { node = number; style = style }) ∷ opened) parts)
  turned_runs opened (part.stops number is_cut ∷ parts) =
      ap (λ (outer : List Opened). in_front (item.ends number true ∷ []) none is_cut (runs outer (map turned_part parts))) (turned_without opened)
      ∙ ap (in_front (item.ends number true ∷ []) none is_cut) (turned_runs (without_innermost opened) parts)
      ∙ turned_in_front_bare (item.ends number true ∷ []) is_cut (runs (without_innermost opened) parts)
  turned_runs opened (part.block_level own ∷ parts) = turned_cut opened own (runs opened parts) (runs (map turned_opened opened) (map turned_part parts)) (turned_runs opened parts)

  -- ---- the boxes of a tree

  same_is_block : (own : Part) → is_block (turned_part own) ≡ is_block own
  unfolding turned_part
  same_is_block (part.words number letters style) = refl
  same_is_block (part.line_break number) = refl
  same_is_block (part.atom number own) = refl
  same_is_block (part.block_level own) = refl
  same_is_block (part.starts number style) = refl
  same_is_block (part.stops number is_cut) = refl

  same_has_block : (parts : List Part) → has_block (map turned_part parts) ≡ has_block parts
  same_has_block [] = refl
  same_has_block (own ∷ parts) = λ i. same_is_block own i || same_has_block parts i

  turned_around : (number : ℕ) (style : Style) (inner : List Part) → around number (style_in way style) (map turned_part inner) ≡ map turned_part (around number style inner)
  unfolding turned_part
  turned_around number style inner =
      (λ i. part.starts number (style_in way style) ∷ (map turned_part inner ++ (part.stops number (same_has_block inner i) ∷ [])))
      ∙ ap (λ (parts : List Part). part.starts number (style_in way style) ∷ parts) (sym (map-append turned_part inner (part.stops number (has_block inner) ∷ [])))

  turned_made : (number : ℕ) (style : Style) (parts : List Part) → made number (style_in way style) (map turned_part parts) ≡ boxes_in way (made number style parts)
  turned_made number style parts =
      ap (λ (held : Held). container number (style_in way style) held.first held.others) (turned_runs [] parts)
      ∙ turned_container number style (runs [] parts).first (runs [] parts).others

  turned_parts_by : (role : Role) (number : ℕ) (style : Style) (inner : List Part) → parts_by role number (style_in way style) (map turned_part inner) ≡ map turned_part (parts_by role number style inner)
  unfolding turned_part
  turned_parts_by nothing number style inner = refl
  turned_parts_by (words letters) number style inner = refl
  turned_parts_by line_break number style inner = refl
  turned_parts_by inline_box number style inner = turned_around number style inner
  turned_parts_by atom number style inner = ap (λ (own : Boxes). part.atom number own ∷ []) (turned_made number style inner)
  turned_parts_by block_level number style inner = ap (λ (own : Boxes). part.block_level own ∷ []) (turned_made number style inner)

  turned_parts : (nodes : Nodes) → content (nodes_in way nodes) ≡ map turned_part (content nodes)
  unfolding content nodes_in
  turned_parts styled.none = refl
  turned_parts (styled.node number kind style inner next) =
      (λ i. parts_by (same_role way kind style i) number (style_in way style) (turned_parts inner i) ++ turned_parts next i)
      ∙ ap (λ (parts : List Part). parts ++ map turned_part (content next)) (turned_parts_by (role_of kind style) number style (content inner))
      ∙ sym (map-append turned_part (parts_by (role_of kind style) number style (content inner)) (content next))

pub nodes_make_boxes_alike : NodesMakeBoxesAlike
unfolding nodes_in boxes_in
nodes_make_boxes_alike way styled.none = refl
nodes_make_boxes_alike way (styled.node number kind style inner next) = ap (made number (style_in way style)) (turned_parts way inner) ∙ turned_made way number style (content inner)
