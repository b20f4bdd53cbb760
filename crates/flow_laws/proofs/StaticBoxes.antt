-- Static nodes make static boxes.
use Rattle.std.proofs.Common.{◌≡◌, ◌∙◌, refl, sym, ap, ℕ, suc, Bool, true, false, ◌||◌, ◌&&◌, List, [], ◌∷◌, ◌++◌, map}
use Rattle.std.proofs.lemmas.List.{map-append}
use Rattle.style_types.specs.declared.style.Style.{Style}
use Rattle.style_types.specs.Initial.{initial}
use Rattle.style_types.specs.Tree as styled
use Rattle.style_types.specs.Tree.{NodeKind, Nodes}
use Rattle.fragment_types.specs.Item as item
use Rattle.fragment_types.specs.Item.{Entry}
use Rattle.box_gen.specs.declared.opened.Opened.{Opened}
use Rattle.box_gen.specs.Boxes.{Blocks, Held, Role, Run, anonymous, atom, before_run, block_level, closed, container, content, in_front, inline_box, is_blank, join, line_break, made, no_more, no_run, nothing, opened_again, own_name, parts_by, role_of, runs, stacked, then, without_innermost, words, wrapped}
use Rattle.box_gen.specs.Parts as part
use Rattle.box_gen.specs.Parts.{Part, around, has_block, is_block}
use Rattle.box_gen.specs.Tree.{Boxes, blocks, box, inline, none}
use Rattle.flow_laws.specs.Static.{StaticNodesMakeStaticBoxes, as_static, static_boxes, static_content, static_item, static_nodes}

-- ---- what boxes are made from, as static

static_part : Part → Part
static_part (part.words number letters style) = part.words number letters (as_static style)
static_part (part.line_break number) = part.line_break number
static_part (part.atom number own) = part.atom number (static_boxes own)
static_part (part.block_level own) = part.block_level (static_boxes own)
static_part (part.starts number style) = part.starts number (as_static style)
static_part (part.stops number is_cut) = part.stops number is_cut

abbrev static_opened : Opened → Opened
static_opened own = record { node = own.node; style = as_static own.style }

abbrev static_run : Run → Run
static_run run = record { items = map static_item run.items; atoms = static_boxes run.atoms; blank = run.blank }

abbrev static_blocks : Blocks → Blocks
static_blocks no_more = no_more
static_blocks (then block run others) = then (static_boxes block) (static_run run) (static_blocks others)

abbrev static_held : Held → Held
static_held held = record { first = static_run held.first; others = static_blocks held.others }

-- ---- runs

static_join : (own others : Boxes) → join (static_boxes own) (static_boxes others) ≡ static_boxes (join own others)
unfolding join static_boxes
static_join none others = refl
static_join (box name style held inner next) others = λ i. box name (as_static style) (static_content held) (static_boxes inner) (static_join next others i)

static_before_run : (items : List Entry) (atoms : Boxes) (blank : Bool) (run : Run) → before_run (map static_item items) (static_boxes atoms) blank (static_run run) ≡ static_run (before_run items atoms blank run)
static_before_run items atoms blank run =
    λ i. record { items = sym (map-append static_item items run.items) i; atoms = static_join atoms run.atoms i; blank = blank && run.blank }

static_in_front : (items : List Entry) (atoms : Boxes) (blank : Bool) (held : Held) → in_front (map static_item items) (static_boxes atoms) blank (static_held held) ≡ static_held (in_front items atoms blank held)
static_in_front items atoms blank held = λ i. record { first = static_before_run items atoms blank held.first i; others = static_blocks held.others }

-- content with no boxes of its own
static_in_front_bare : (items : List Entry) (blank : Bool) (held : Held) → in_front (map static_item items) none blank (static_held held) ≡ static_held (in_front items none blank held)
unfolding static_boxes
static_in_front_bare items blank held = static_in_front items none blank held

-- ---- a container

static_wrapped : (blank : Bool) (number ordinal : ℕ) (style : Style) (run : Run) (those others : ℕ → Boxes) → ((n : ℕ) → those n ≡ static_boxes (others n))
    → wrapped blank number ordinal (as_static style) (static_run run) those ≡ static_boxes (wrapped blank number ordinal style run others)
unfolding static_boxes initial
static_wrapped true number ordinal style run those others same = same ordinal
static_wrapped false number ordinal style run those others same =
    λ i. box (record { node = number; ordinal = suc ordinal }) (as_static (anonymous style)) (inline (map static_item run.items)) (static_boxes run.atoms) (same (suc ordinal) i)

static_stacked : (number : ℕ) (style : Style) (own : Blocks) (ordinal : ℕ) → stacked number (as_static style) (static_blocks own) ordinal ≡ static_boxes (stacked number style own ordinal)
unfolding stacked static_boxes
static_stacked number style no_more ordinal = refl
static_stacked number style (then block run others) ordinal =
    ap (join (static_boxes block)) (static_wrapped run.blank number ordinal style run _ (stacked number style others) (static_stacked number style others))
    ∙ static_join block (wrapped run.blank number ordinal style run (stacked number style others))

static_container : (number : ℕ) (style : Style) (first : Run) (own : Blocks) → container number (as_static style) (static_run first) (static_blocks own) ≡ static_boxes (container number style first own)
unfolding static_boxes
static_container number style first no_more = refl
static_container number style first (then block run others) =
    λ i. box (own_name number) (as_static style) blocks
    (static_wrapped first.blank number 0 style first _ _ (static_stacked number style (then block run others)) i) none

-- ---- the content cut

static_closed : (opened : List Opened) → closed (map static_opened opened) ≡ map static_item (closed opened)
unfolding closed
static_closed [] = refl
static_closed (innermost ∷ opened) = ap (λ (items : List Entry). item.ends innermost.node false ∷ items) (static_closed opened)

static_opened_again : (opened : List Opened) → opened_again (map static_opened opened) ≡ map static_item (opened_again opened)
unfolding opened_again
static_opened_again [] = refl
static_opened_again (innermost ∷ opened) =
    ap (λ (items : List Entry). items ++ (item.begins innermost.node (as_static innermost.style) false ∷ [])) (static_opened_again opened)
    ∙ sym (map-append static_item (opened_again opened) (item.begins innermost.node innermost.style false ∷ []))

static_without : (opened : List Opened) → without_innermost (map static_opened opened) ≡ map static_opened (without_innermost opened)
static_without [] = refl
static_without (innermost ∷ opened) = refl

-- a block-level box between what stands before it and behind it
static_cut : (opened : List Opened) (own : Boxes) (held those : Held) → those ≡ static_held held
    → let behind = in_front (opened_again opened) none true held in
    let then_behind = in_front (opened_again (map static_opened opened)) none true those in
    let cut : Held = record { first = before_run (closed opened) none true no_run; others = then own behind.first behind.others } in
    let then_cut : Held = record { first = before_run (closed (map static_opened opened)) none true no_run; others = then (static_boxes own) then_behind.first then_behind.others } in
    then_cut ≡ static_held cut
unfolding static_boxes
static_cut opened own held those same =
    let behind : in_front (opened_again (map static_opened opened)) none true those ≡ static_held (in_front (opened_again opened) none true held) =
    (λ i. in_front (static_opened_again opened i) none true (same i)) ∙ static_in_front_bare (opened_again opened) true held in
    let first : before_run (closed (map static_opened opened)) none true no_run ≡ static_run (before_run (closed opened) none true no_run) =
    ap (λ (items : List Entry). before_run items none true no_run) (static_closed opened) ∙ static_before_run (closed opened) none true no_run in
    λ i. record { first = first i; others = then (static_boxes own) (behind i).first (behind i).others }

static_runs : (opened : List Opened) (parts : List Part) → runs (map static_opened opened) (map static_part parts) ≡ static_held (runs opened parts)
unfolding runs static_boxes static_part
static_runs opened [] = refl
static_runs opened (part.words number letters style ∷ parts) =
    ap (in_front (item.text number letters (as_static style) ∷ []) none (is_blank letters)) (static_runs opened parts)
    ∙ static_in_front_bare (item.text number letters style ∷ []) (is_blank letters) (runs opened parts)
static_runs opened (part.line_break number ∷ parts) =
    ap (in_front (item.line_break number ∷ []) none false) (static_runs opened parts)
    ∙ static_in_front_bare (item.line_break number ∷ []) false (runs opened parts)
static_runs opened (part.atom number own ∷ parts) =
    ap (in_front (item.atom (own_name number) ∷ []) (static_boxes own) false) (static_runs opened parts)
    ∙ static_in_front (item.atom (own_name number) ∷ []) own false (runs opened parts)
static_runs opened (part.starts number style ∷ parts) =
    ap (in_front (item.begins number (as_static style) true ∷ []) none true) (static_runs ((record { node = number; style = style }) ∷ opened) parts)
    ∙ static_in_front_bare (item.begins number style true ∷ []) true (runs ((record { node = number; style = style }) ∷ opened) parts)
static_runs opened (part.stops number is_cut ∷ parts) =
    ap (λ (outer : List Opened). in_front (item.ends number true ∷ []) none is_cut (runs outer (map static_part parts))) (static_without opened)
    ∙ ap (in_front (item.ends number true ∷ []) none is_cut) (static_runs (without_innermost opened) parts)
    ∙ static_in_front_bare (item.ends number true ∷ []) is_cut (runs (without_innermost opened) parts)
static_runs opened (part.block_level own ∷ parts) = static_cut opened own (runs opened parts) (runs (map static_opened opened) (map static_part parts)) (static_runs opened parts)

-- ---- the boxes of a tree

same_role : (kind : NodeKind) (style : Style) → role_of kind (as_static style) ≡ role_of kind style
same_role styled.element style = refl
same_role styled.line_break style = refl
same_role (styled.text letters) style = refl

same_is_block : (own : Part) → is_block (static_part own) ≡ is_block own
unfolding static_part
same_is_block (part.words number letters style) = refl
same_is_block (part.line_break number) = refl
same_is_block (part.atom number own) = refl
same_is_block (part.block_level own) = refl
same_is_block (part.starts number style) = refl
same_is_block (part.stops number is_cut) = refl

same_has_block : (parts : List Part) → has_block (map static_part parts) ≡ has_block parts
same_has_block [] = refl
same_has_block (own ∷ parts) = λ i. same_is_block own i || same_has_block parts i

static_around : (number : ℕ) (style : Style) (inner : List Part) → around number (as_static style) (map static_part inner) ≡ map static_part (around number style inner)
unfolding static_part
static_around number style inner =
    (λ i. part.starts number (as_static style) ∷ (map static_part inner ++ (part.stops number (same_has_block inner i) ∷ [])))
    ∙ ap (λ (parts : List Part). part.starts number (as_static style) ∷ parts) (sym (map-append static_part inner (part.stops number (has_block inner) ∷ [])))

static_made : (number : ℕ) (style : Style) (parts : List Part) → made number (as_static style) (map static_part parts) ≡ static_boxes (made number style parts)
static_made number style parts =
    ap (λ (held : Held). container number (as_static style) held.first held.others) (static_runs [] parts)
    ∙ static_container number style (runs [] parts).first (runs [] parts).others

static_parts_by : (role : Role) (number : ℕ) (style : Style) (inner : List Part) → parts_by role number (as_static style) (map static_part inner) ≡ map static_part (parts_by role number style inner)
unfolding static_part
static_parts_by nothing number style inner = refl
static_parts_by (words letters) number style inner = refl
static_parts_by line_break number style inner = refl
static_parts_by inline_box number style inner = static_around number style inner
static_parts_by atom number style inner = ap (λ (own : Boxes). part.atom number own ∷ []) (static_made number style inner)
static_parts_by block_level number style inner = ap (λ (own : Boxes). part.block_level own ∷ []) (static_made number style inner)

static_parts : (nodes : Nodes) → content (static_nodes nodes) ≡ map static_part (content nodes)
unfolding content static_nodes
static_parts styled.none = refl
static_parts (styled.node number kind style inner next) =
    (λ i. parts_by (same_role kind style i) number (as_static style) (static_parts inner i) ++ static_parts next i)
    ∙ ap (λ (parts : List Part). parts ++ map static_part (content next)) (static_parts_by (role_of kind style) number style (content inner))
    ∙ sym (map-append static_part (parts_by (role_of kind style) number style (content inner)) (content next))

pub static_nodes_make_static_boxes : StaticNodesMakeStaticBoxes
unfolding static_nodes static_boxes
static_nodes_make_static_boxes styled.none = refl
static_nodes_make_static_boxes (styled.node number kind style inner next) = ap (made number (as_static style)) (static_parts inner) ∙ static_made number style (content inner)
