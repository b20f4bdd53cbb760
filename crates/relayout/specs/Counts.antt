-- How often boxes are laid out and texts prepared under one root: by the keys of an arena, what is kept there and what isn't.
use Rattle.std.specs.Prelude.{◌≡◌, ℕ, ◌+◌, ◌≤◌, ⊤, Option, Some, None, IfSome, IsSome, List, [], ◌∷◌, Contains}
use Rattle.face_api.specs.Table.{Table}
use Rattle.wm_modes.specs.Mode.{is_horizontal}
use Rattle.wm_units.specs.declared.view.View.{View}
use Rattle.fragment_types.specs.declared.constraint.Constraint.{Constraint}
use Rattle.fragment_types.specs.Fragment.{Pieces}
use Rattle.box_arena.specs.At.{IsAbove, Node, Slots, first_at, kept_at, links_at, next_at, node_at, text_at}
use Rattle.box_arena.specs.Boxes.{StandFrom, Stands}
use Rattle.box_arena.specs.Links as linking
use Rattle.box_gen.specs.Tree.{Boxes, Content, blocks, box, inline, none as no_boxes}
use Rattle.para_prepare.specs.Preparation.{Preparation}
use Rattle.relayout.specs.declared.row.Row.{Row}
use Rattle.relayout.specs.declared.sizes.Containing.{Containing}
use Rattle.relayout.specs.Asks.{contributes_under, put_under}
use Rattle.relayout.specs.Flow.{on_page}
use Rattle.relayout.specs.Inline.{Outside}
use Rattle.relayout.specs.Kept.{containing_at}
use Rattle.relayout.specs.Paragraph.{HasText}
use Rattle.relayout.specs.Sizes.{containing_of}
use Rattle.relayout.specs.Step.{under}

-- ---- what is missing

-- the box under a key, to be laid out under a constraint
pub record Ask : Type 0 where
  pub key : ℕ
  pub constraint : Constraint

abbrev pub one_if_none : {A : Type 0} → Option A → ℕ
one_if_none None = 1
one_if_none (Some x) = 0

-- of how many of these there is none
abbrev pub lacking : {A B : Type 0} → (A → Option B) → List A → ℕ
lacking find [] = 0
lacking find (x ∷ xs) = one_if_none (find x) + lacking find xs

abbrev pub kept_for : Slots Preparation → Ask → Option Pieces
kept_for slots ask = kept_at slots ask.key ask.constraint

-- for how many of these nothing unmarked is kept
abbrev pub missing : Slots Preparation → List Ask → ℕ
missing slots asks = lacking (kept_for slots) asks

-- how many of the boxes under these keys have no text that is kept
abbrev pub textless : Slots Preparation → List ℕ → ℕ
textless slots keys = lacking (text_at slots) keys

-- ---- what is met

-- For each box and each constraint that flow layout meets, from a box on under a constraint: P holds of its key and the constraint. What a box
-- asks of its children is met where Goes holds.
abbrev pub EachMet : (P Goes : ℕ → Constraint → Type 0) → Outside → Slots Preparation → (from : Option ℕ) → Containing → Boxes → Constraint → Type 0
EachMet P Goes outside slots from containing no_boxes c = ⊤
EachMet P Goes outside slots from containing (box name style content inner next) c =
    let node : Node = record { name = name; style = style; content = content } in
    (key : ℕ) → from ≡ Some key
    → P key c
    × (Goes key c → IfSome (contributes_under containing node c) (EachMet P Goes outside slots (first_at slots key) (containing_of style) inner)
    × IfSome (put_under outside containing node c inner) (EachMet P Goes outside slots (first_at slots key) (containing_of style) inner))
    × EachMet P Goes outside slots (next_at slots key) containing next c

-- all that is met is among these, as far as it isn't kept: what is kept is used, and asks nothing of others
abbrev pub Covers : List Ask → Outside → Slots Preparation → (from : Option ℕ) → Containing → Boxes → Constraint → Type 0
Covers asks outside slots = EachMet (λ key c. Contains asks (record { key = key; constraint = c })) (λ key c. kept_at slots key c ≡ None) outside slots

-- all that is met is kept
abbrev pub AreAllKept : Outside → Slots Preparation → (from : Option ℕ) → Containing → Boxes → Constraint → Type 0
AreAllKept outside slots = EachMet (λ key c. IsSome (kept_at slots key c)) (λ key c. ⊤) outside slots

-- ---- texts

abbrev pub HasKey : List ℕ → Content → (key : ℕ) → Type 0
HasKey keys blocks key = ⊤
HasKey keys (inline items) key = Contains keys key

-- the keys of the boxes that hold a paragraph, from a box on, are among these
abbrev pub HaveKeys : List ℕ → Slots Preparation → (from : Option ℕ) → Boxes → Type 0
HaveKeys keys slots from no_boxes = ⊤
HaveKeys keys slots from (box name style content inner next) =
    (key : ℕ) → from ≡ Some key → HasKey keys content key × HaveKeys keys slots (first_at slots key) inner × HaveKeys keys slots (next_at slots key) next

-- from a box on the text of each paragraph is kept
abbrev pub HaveTexts : Slots Preparation → (from : Option ℕ) → Boxes → Type 0
HaveTexts slots from no_boxes = ⊤
HaveTexts slots from (box name style content inner next) =
    (key : ℕ) → from ≡ Some key → HasText content (text_at slots key) × HaveTexts slots (first_at slots key) inner × HaveTexts slots (next_at slots key) next

-- ---- what rests on what

-- a result is kept for each box of a row, under this constraint
abbrev pub IsRowKept : (results slots : Slots Preparation) → (from : Option ℕ) → Boxes → Constraint → Type 0
IsRowKept results slots from no_boxes c = ⊤
IsRowKept results slots from (box name style content inner next) c =
    (key : ℕ) → from ≡ Some key → IsSome (kept_at results key c) × IsRowKept results slots (next_at slots key) next c

-- all that was met where a box was laid out is kept: the text of its paragraph, and what it asked of its children
pub record IsFounded (outside : Outside) (slots : Slots Preparation) (key : ℕ) (containing : Containing) (node : Node) (inner : Boxes) (c : Constraint) : Type 0 where
  pub text : HasText node.content (text_at slots key)
  pub contributions : IfSome (contributes_under containing node c) (IsRowKept slots slots (first_at slots key) inner)
  pub inside : IfSome (put_under outside containing node c inner) (IsRowKept slots slots (first_at slots key) inner)

-- with each result that is kept there is all that was met where its box was laid out
abbrev pub AreFounded : Outside → Slots Preparation → Type 0
AreFounded outside slots = (key : ℕ) (c : Constraint) → IsSome (kept_at slots key c) → (node : Node) → node_at slots key ≡ Some node
    → (inner : Boxes) → StandFrom slots (first_at slots key) inner → IsFounded outside slots key (containing_at slots key node.style) node inner c

-- ---- one row, one box

-- the texts that were prepared, and the contents that were arranged
pub record Counters : Type 0 where
  pub texts : ℕ
  pub arranged : ℕ

abbrev pub counted : (texts arranged : ℕ) → Counters
counted texts arranged = record { texts = texts; arranged = arranged }

-- the boxes in which a row stands keep what they had, and nothing else
abbrev pub SameAbove : (old new : Slots Preparation) (from : Option ℕ) → Type 0
SameAbove old new from = (p k : ℕ) → linking.IsIn (links_at old) p from → IsAbove old k p → (c : Constraint) → kept_at new k c ≡ kept_at old k c

-- what laying out a row costs, whatever comes of it
pub record RowCosts (outside : Outside) (old new : Slots Preparation) (row : Row) (was is : Counters) : Type 0 where
  pub above : SameAbove old new row.from
  pub founded : AreFounded outside old → AreFounded outside new
  pub texts : (tree : Boxes) → StandFrom old row.from tree → (keys : List ℕ) → HaveKeys keys old row.from tree → is.texts ≤ was.texts + textless old keys
  pub arranged : (tree : Boxes) → StandFrom old row.from tree → (asks : List Ask) → Covers asks outside old row.from row.containing tree row.c → is.arranged ≤ was.arranged + missing old asks

-- what it costs where all of it is laid out: no more than is kept then and wasn't before
pub record RowDone (outside : Outside) (old new : Slots Preparation) (row : Row) (was is : Counters) : Type 0 where
  pub kept : (tree : Boxes) → StandFrom old row.from tree → IsRowKept new old row.from tree row.c
  pub texts : (tree : Boxes) → StandFrom old row.from tree → (keys : List ℕ) → HaveKeys keys old row.from tree → is.texts + textless new keys ≤ was.texts + textless old keys
  pub arranged : (tree : Boxes) → StandFrom old row.from tree → (asks : List Ask) → Covers asks outside old row.from row.containing tree row.c
      → is.arranged + missing new asks ≤ was.arranged + missing old asks

-- what it costs to see that the text of a box is there: no more than the one text, and no result changes
pub record SeeingCosts (old new : Slots Preparation) (key : ℕ) (was is : Counters) : Type 0 where
  pub kept : (k : ℕ) (c : Constraint) → kept_at new k c ≡ kept_at old k c
  pub arranged : is.arranged ≡ was.arranged
  pub texts : (node : Node) → node_at old key ≡ Some node → (keys : List ℕ) → HasKey keys node.content key → is.texts ≤ was.texts + textless old keys

abbrev pub HasSeen : (old new : Slots Preparation) (key : ℕ) (was is : Counters) → Type 0
HasSeen old new key was is = (node : Node) → node_at old key ≡ Some node → (keys : List ℕ) → HasKey keys node.content key → is.texts + textless new keys ≤ was.texts + textless old keys

-- how many texts are prepared for a box that holds this
abbrev pub texts_in : Content → ℕ
texts_in blocks = 0
texts_in (inline items) = 1

-- ---- under a root

abbrev pub CoversUnder : List Ask → (faces : List (Option Table)) → View → Slots Preparation → (root : ℕ) → Boxes → Type 0
CoversUnder asks faces view slots root no_boxes = ⊤
CoversUnder asks faces view slots root (box name style content inner next) =
    Covers asks (on_page (is_horizontal style.mode) faces view.inline view.block) slots (Some root) (containing_of style) (box name style content inner no_boxes) (under (Some view.inline) (Some view.block))

abbrev pub AreAllKeptUnder : (faces : List (Option Table)) → View → Slots Preparation → (root : ℕ) → Boxes → Type 0
AreAllKeptUnder faces view slots root no_boxes = ⊤
AreAllKeptUnder faces view slots root (box name style content inner next) =
    AreAllKept (on_page (is_horizontal style.mode) faces view.inline view.block) slots (Some root) (containing_of style) (box name style content inner no_boxes) (under (Some view.inline) (Some view.block))

-- a counter of prepared texts rises by no more than there are boxes under a root that hold a paragraph and have no text that is kept
abbrev pub TextsRise : (old : Slots Preparation) → (root was is : ℕ) → Type 0
TextsRise old root was is = (tree : Boxes) → Stands old root tree → (keys : List ℕ) → HaveKeys keys old (Some root) tree → is ≤ was + textless old keys

-- a counter of contents that are arranged rises by no more than there are pairs that are met and not kept: each pair counts once, however often
-- it is met
abbrev pub ArrangedRise : (faces : List (Option Table)) → View → (old : Slots Preparation) → (root was is : ℕ) → Type 0
ArrangedRise faces view old root was is = (tree : Boxes) → Stands old root tree → (asks : List Ask) → CoversUnder asks faces view old root tree → is ≤ was + missing old asks

-- with each result that is kept stands all that was met where its box was laid out, for the page of the box under a root
abbrev pub AreFoundedUnder : (faces : List (Option Table)) → View → Slots Preparation → (root : ℕ) → Type 0
AreFoundedUnder faces view slots root = (node : Node) → node_at slots root ≡ Some node → AreFounded (on_page (is_horizontal node.style.mode) faces view.inline view.block) slots

-- each pair that is met under a root is kept, and so is the text of each paragraph
abbrev pub IsAllKept : (faces : List (Option Table)) → View → Slots Preparation → (root : ℕ) → Type 0
IsAllKept faces view slots root = (tree : Boxes) → Stands slots root tree → AreAllKeptUnder faces view slots root tree × HaveTexts slots (Some root) tree
