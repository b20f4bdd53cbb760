-- What a part of the work comes to, by the words of Boxes.
use Rattle.std.specs.Prelude.{◌≡◌, ℕ, suc, Bool, true, false, min, List, [], ◌∷◌, ◌++◌, reverse, Option, Some, None}
use Rattle.style_types.specs.declared.style.Style.{Style}
use Rattle.fragment_types.specs.Item.{Entry, entries_of}
use Rattle.style_types.specs.Tree as styled
use Rattle.style_types.specs.Tree.{Nodes}
use Rattle.box_gen.specs.declared.filling.Filling as code_filling
use Rattle.box_gen.specs.declared.opened.Opened.{Opened}
use Rattle.box_gen.specs.declared.role.Role as code_role
use Rattle.box_gen.specs.declared.role.Role.TheVariants as code_roles
use Rattle.box_gen.specs.declared.run.Run as code_run
use Rattle.box_gen.specs.Tree.{Boxes, none, box, blocks, inline, all_boxes_of}
use Rattle.box_gen.specs.Parts.{Part}
use Rattle.box_gen.specs.Boxes.{Role, nothing, words, line_break, inline_box, atom, block_level, role_of, Run, no_run, join, before_run, Blocks, no_more, then, own_name, wrapped, stacked, runs}

-- ---- roles

abbrev pub code_of : Role → code_role.Role
code_of nothing = code_roles.Nothing
code_of (words letters) = code_roles.Words
code_of line_break = code_roles.LineBreak
code_of inline_box = code_roles.InlineBox
code_of atom = code_roles.Atom
code_of block_level = code_roles.BlockLevel

-- the role of the first of these nodes
abbrev pub role_in : Nodes → code_role.Role
role_in styled.none = code_roles.Nothing
role_in (styled.node number kind style inner next) = code_of (role_of kind style)

-- ---- the least of some numbers

abbrev pub lesser : Option ℕ → Option ℕ → Option ℕ
lesser None other = other
lesser (Some a) None = Some a
lesser (Some a) (Some b) = Some (min a b)

unfoldable pub least : List ℕ → Option ℕ
least [] = None
least (number ∷ others) = lesser (Some number) (least others)

-- ---- runs

abbrev pub run_of : code_run.Run → Run
run_of run = record { items = entries_of run.items.items; atoms = all_boxes_of run.atoms.items; blank = run.blank }

-- a run and the one behind it, as one
abbrev pub and_then : Run → Run → Run
and_then run other = before_run run.items run.atoms run.blank other

abbrev pub run_with : (items : List Entry) → (atoms : Boxes) → (blank : Bool) → Run
run_with items atoms blank = record { items = items; atoms = atoms; blank = blank }

-- ---- a container in part

-- a container of this node and style, with what is put so far: the boxes up to the last block-level one, how many of them are anonymous, the
-- run behind them, and the inline boxes that are open, the innermost first
pub record Filling : Type 0 where
  pub number : ℕ
  pub style : Style
  pub blocks : Boxes
  pub anonymous : ℕ
  pub run : Run
  pub opened : List Opened

abbrev pub filling_of : code_filling.Filling → Filling
filling_of filling = record {
  number = filling.node;
  style = filling.style;
  blocks = all_boxes_of filling.boxes.items;
  anonymous = filling.anonymous;
  run = run_of filling.run;
  opened = reverse filling.opened.items;
}

-- with nothing put
abbrev pub no_filling : (number : ℕ) → Style → Filling
no_filling number style = record { number = number; style = style; blocks = none; anonymous = 0; run = no_run; opened = [] }

-- the count of anonymous blocks with one for this run, but where it is white space alone
abbrev pub counted : (blank : Bool) → ℕ → ℕ
counted true anonymous = anonymous
counted false anonymous = suc anonymous

-- the run behind the blocks made a block, but where it is white space alone
abbrev pub with_run : Filling → Filling
with_run filling = record filling {
  blocks = join filling.blocks (wrapped filling.run.blank filling.number filling.anonymous filling.style filling.run (λ anonymous. none));
  anonymous = counted filling.run.blank filling.anonymous;
  run = no_run;
}

-- a container that holds blocks: those so far, the run behind them, and what follows
abbrev pub with_blocks : (so_far : Boxes) → (number anonymous : ℕ) → Style → (run : Run) → Blocks → Boxes
with_blocks so_far number anonymous style run others =
    box (own_name number) style blocks (join so_far (wrapped run.blank number anonymous style run (stacked number style others))) none

-- a container whose content is all inline holds a paragraph, another one blocks
abbrev pub filled_by : (so_far : Boxes) → (number anonymous : ℕ) → Style → (run : Run) → Blocks → Boxes
filled_by none number anonymous style run no_more = box (own_name number) style (inline run.items) run.atoms none
filled_by none number anonymous style run (then block first others) = with_blocks none number anonymous style run (then block first others)
filled_by (box name block_style content inner next) number anonymous style run others =
    with_blocks (box name block_style content inner next) number anonymous style run others

-- the container's box, from what it has so far and what is left of its content
abbrev pub filled : Filling → (left : List Part) → Boxes
filled filling left =
    let held = runs filling.opened left in
    filled_by filling.blocks filling.number filling.anonymous filling.style (and_then filling.run held.first) held.others

-- a container with these parts put: whatever is left behind them, the box is the one that it was before them
abbrev pub Puts : (was : Filling) → List Part → (now : Filling) → Type 0
Puts was parts now = (left : List Part) → filled was (parts ++ left) ≡ filled now left
