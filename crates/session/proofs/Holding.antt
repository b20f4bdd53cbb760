-- How much a container holds: its items, their bytes, its boxes, how far they reach, and that they can be laid out.
use Rattle.std.proofs.Common.{◌≡◌, ℕ, suc, ◌+◌, ◌*◌, ◌≤◌, ◌^◌, Bool, true, false, List, [], ◌∷◌, ◌++◌, length, All, arith}
use Rattle.std.specs.Prelude.{⊤}
use Rattle.std.proofs.lemmas.List.Elements.{All-append, All-cons}
use Rattle.style_types.specs.declared.style.Display.TheVariants.{Block, Inline, InlineBlock, FlowRoot, Hidden}
use Rattle.style_types.specs.declared.style.Style.{Style}
use Rattle.fragment_types.specs.Item as item
use Rattle.fragment_types.specs.Item.{Entry}
use Rattle.style_types.specs.Style.{IsBounded}
use Rattle.style_types.specs.Tree as styled
use Rattle.style_types.specs.Tree.{NodeKind}
use Rattle.para_lines.specs.Boxes.{HasBounds}
use Rattle.para_prepare.specs.Limits.{HasFontSize, IsFontSize, text_bytes}
use Rattle.style_types.specs.Initial.{initial}
use Rattle.style_types.specs.declared.style.Display.{Display}
use Rattle.para_prepare.specs.Preparation.{atoms_of}
use Rattle.box_gen.specs.declared.opened.Opened.{Opened}
use Rattle.box_gen.specs.Boxes.{Blocks, Held, Role, Run, anonymous, atom, before_run, block_level, closed, container, element_role, inline_box, join, line_break, no_more, no_run, nothing, opened_again, role_by, role_of, stacked, then, words, wrapped}
use Rattle.box_gen.specs.Tree.{Boxes, box, inline, none, count, height, siblings}
use Rattle.relayout.specs.Fit.{AreFit, heaviest, room_in}
use Rattle.session.specs.Limits.{bytes_of}

-- ---- boxes side by side

pub count_join : (a b : Boxes) → count (join a b) ≡ count a + count b
unfolding join
count_join none b = omega arith
count_join (box name style content inner next) b = let more = count_join next b in omega (arith, more)

pub siblings_join : (a b : Boxes) → siblings (join a b) ≡ siblings a + siblings b
unfolding join
siblings_join none b = omega arith
siblings_join (box name style content inner next) b = let more = siblings_join next b in omega (arith, more)

height_join : (a b : Boxes) (most : ℕ) → height a ≤ most → height b ≤ most → height (join a b) ≤ most
unfolding join
height_join none b most low also = also
height_join (box name style content inner next) b most low also = let more = height_join next b most (omega (arith, low)) also in omega (arith, low, more)

heaviest_join : (a b : Boxes) (most : ℕ) → heaviest a ≤ most → heaviest b ≤ most → heaviest (join a b) ≤ most
unfolding join
heaviest_join none b most light also = also
heaviest_join (box name style content inner next) b most light also = let more = heaviest_join next b most (omega (arith, light)) also in omega (arith, light, more)

fit_join : (a b : Boxes) → AreFit a → AreFit b → AreFit (join a b)
unfolding join
fit_join none b fit also = also
fit_join (box name style content inner next) b (here, inside, more) also = (here, inside, fit_join next b more also)

-- ---- items one after the other

bytes_on : (one other : List Entry) → text_bytes (one ++ other) ≡ text_bytes one + text_bytes other
bytes_on [] other = omega arith
bytes_on (entry ∷ one) other = let more = bytes_on one other in omega (arith, more)

atoms_on : (one other : List Entry) → atoms_of (one ++ other) ≡ atoms_of one + atoms_of other
atoms_on [] other = omega arith
atoms_on (item.text node letters style ∷ one) other = atoms_on one other
atoms_on (item.begins node style edges ∷ one) other = atoms_on one other
atoms_on (item.ends node edges ∷ one) other = atoms_on one other
atoms_on (item.atom name ∷ one) other = let more = atoms_on one other in omega (arith, more)
atoms_on (item.line_break node ∷ one) other = atoms_on one other

length_on : (one other : List Entry) → length (one ++ other) ≡ length one + length other
length_on [] other = omega arith
length_on (entry ∷ one) other = let more = length_on one other in omega (arith, more)

none_all : (P : Entry → Type 0) → All P []
none_all P k d lt = absurd (omega (arith, lt))

pub one_all : (P : Entry → Type 0) (entry : Entry) → P entry → All P (entry ∷ [])
one_all P entry is = All-cons P entry [] is (none_all P)

-- ---- a run

-- what a run has at most: items, bytes of text, how far its items take its lines and the boxes of its inline-blocks each other, how many of
-- these boxes stand one inside the other, and how far what stands in one of them reaches
pub record Most : Type 0 where
  pub items : ℕ
  pub bytes : ℕ
  pub room : ℕ
  pub tall : ℕ
  pub heavy : ℕ

pub record IsNoMore (most more : Most) : Type 0 where
  pub items : most.items ≤ more.items
  pub bytes : most.bytes ≤ more.bytes
  pub room : most.room ≤ more.room
  pub tall : most.tall ≤ more.tall
  pub heavy : most.heavy ≤ more.heavy

-- a run that has no more, whose items can be prepared, with the boxes of its inline-blocks
pub record IsRun (most : Most) (run : Run) : Type 0 where
  pub some : length run.items ≤ most.items
  pub letters : text_bytes run.items ≤ most.bytes
  pub room : room_in (inline run.items) + siblings run.atoms * 2 ^ 39 ≤ most.room
  pub low : height run.atoms ≤ most.tall
  pub light : heaviest run.atoms ≤ most.heavy
  pub sizes : All HasFontSize run.items
  pub bounds : All HasBounds run.items
  pub atoms : atoms_of run.items ≤ siblings run.atoms
  pub fit : AreFit run.atoms

pub run_more : (most more : Most) (run : Run) → IsNoMore most more → IsRun most run → IsRun more run
run_more most more run up is = record {
  some = omega (arith, is.some, up.items);
  letters = omega (arith, is.letters, up.bytes);
  room = omega (arith, is.room, up.room);
  low = omega (arith, is.low, up.tall);
  light = omega (arith, is.light, up.heavy);
  sizes = is.sizes;
  bounds = is.bounds;
  atoms = is.atoms;
  fit = is.fit;
}

-- a run that has nothing has no more than anything
pub none_run : (most : Most) → IsRun most no_run
none_run most = record {
  some = omega arith;
  letters = omega arith;
  room = omega arith;
  low = omega arith;
  light = omega arith;
  sizes = none_all HasFontSize;
  bounds = none_all HasBounds;
  atoms = omega arith;
  fit = tt;
}

-- items and boxes can stand before a run, which then has no more than this
pub record IsFront (items' : List Entry) (atoms' : Boxes) (most more : Most) : Type 0 where
  pub some : length items' + most.items ≤ more.items
  pub letters : text_bytes items' + most.bytes ≤ more.bytes
  pub room : room_in (inline items') + siblings atoms' * 2 ^ 39 + most.room ≤ more.room
  pub low : height atoms' ≤ more.tall
  pub tall : most.tall ≤ more.tall
  pub light : heaviest atoms' ≤ more.heavy
  pub heavy : most.heavy ≤ more.heavy
  pub sizes : All HasFontSize items'
  pub bounds : All HasBounds items'
  pub atoms : atoms_of items' ≤ siblings atoms'
  pub fit : AreFit atoms'

pub run_before : (items' : List Entry) (atoms' : Boxes) (blank : Bool) (run : Run) (most more : Most) → IsFront items' atoms' most more → IsRun most run
    → IsRun more (before_run items' atoms' blank run)
run_before items' atoms' blank run most more front is =
    let long = length_on items' run.items in
    let letters = bytes_on items' run.items in
    let names = atoms_on items' run.items in
    let side = siblings_join atoms' run.atoms in
    record {
      some = omega (arith, long, is.some, front.some);
      letters = omega (arith, letters, is.letters, front.letters);
      room = omega (arith, long, letters, names, side, is.room, front.room);
      low = height_join atoms' run.atoms more.tall front.low (omega (arith, is.low, front.tall));
      light = heaviest_join atoms' run.atoms more.heavy front.light (omega (arith, is.light, front.heavy));
      sizes = All-append HasFontSize items' run.items front.sizes is.sizes;
      bounds = All-append HasBounds items' run.items front.bounds is.bounds;
      atoms = omega (arith, names, side, front.atoms, is.atoms);
      fit = fit_join atoms' run.atoms front.fit is.fit;
    }

-- ---- the runs and blocks behind a run

-- each run may have an anonymous block
abbrev pub boxes_behind : Blocks → ℕ
boxes_behind no_more = 0
boxes_behind (then block run others) = count block + (suc (count run.atoms) + boxes_behind others)

abbrev pub row_behind : Blocks → ℕ
row_behind no_more = 0
row_behind (then block run others) = siblings block + (suc (row_behind others))

pub record IsBlock (most : Most) (block : Boxes) : Type 0 where
  pub low : height block ≤ most.tall
  pub light : heaviest block ≤ most.heavy
  pub fit : AreFit block

abbrev pub AreRuns : (most : Most) → Blocks → Type 0
AreRuns most no_more = ⊤
AreRuns most (then block run others) = IsBlock most block × IsRun most run × AreRuns most others

pub runs_more : (most more : Most) (bs : Blocks) → IsNoMore most more → AreRuns most bs → AreRuns more bs
runs_more most more no_more up are = tt
runs_more most more (then block run others) up (own, is, rest) = (
  record { low = omega (arith, own.low, up.tall); light = omega (arith, own.light, up.heavy); fit = own.fit },
  run_more most more run up is,
  runs_more most more others up rest,
)

-- ---- what a container holds

-- how far a piece of an inline box takes its line at most, with its edges or without
abbrev pub of_piece : ℕ
of_piece = 3 * 2 ^ 40

-- a run opens at most 64 inline boxes again, and closes at most 64 that stay open
abbrev pub pieces : ℕ
pieces = 64

abbrev pub of_pieces : ℕ
of_pieces = 2 * pieces * of_piece

-- of a run with so many pieces of inline boxes that it doesn't open or doesn't close; all other items and bytes of its container may stand in
-- it. Its inline-blocks stand in nodes so deep: each may be one inside an anonymous block, and its paragraph may have such pieces again
abbrev pub most_of : (foreign items bytes room below deep : ℕ) → Most
most_of foreign items bytes room below deep =
    record { items = foreign + items; bytes = bytes; room = foreign * of_piece + room; tall = 2 * deep; heavy = below + deep * of_pieces }

-- what a container holds, within such bounds: how many boxes stand in it, how far those that stand side by side move each other, how far the
-- items do, and what stands inside the boxes, come to a total; pieces of inline boxes that are cut come on top of it
pub record IsHeld (items bytes boxes total deep : ℕ) (h : Held) : Type 0 where
  pub row : ℕ
  pub room : ℕ
  pub below : ℕ
  pub sum : row + room + below ≤ total
  pub many : count h.first.atoms + boxes_behind h.others ≤ boxes
  pub in_row : row_behind h.others * 2 ^ 39 ≤ row
  pub first : IsRun (most_of pieces items bytes room below deep) h.first
  pub others : AreRuns (most_of (2 * pieces) items bytes room below deep) h.others

pub weaker : (i b x t i' b' x' t' m : ℕ) (h : Held) → i ≤ i' → b ≤ b' → x ≤ x' → t ≤ t' → IsHeld i b x t m h → IsHeld i' b' x' t' m h
weaker i b x t i' b' x' t' m h ii bb xx tt' is = record {
  row = is.row;
  room = is.room;
  below = is.below;
  sum = omega (arith, is.sum, tt');
  many = omega (arith, is.many, xx);
  in_row = is.in_row;
  first = run_more _ _ h.first (record { items = omega (arith, ii); bytes = omega (arith, bb); room = omega arith; tall = omega arith; heavy = omega arith }) is.first;
  others = runs_more _ _ h.others (record { items = omega (arith, ii); bytes = omega (arith, bb); room = omega arith; tall = omega arith; heavy = omega arith }) is.others;
}

-- ---- pieces of inline boxes that are cut

unfoldable pub AreOpenBounded : List Opened → Type 0
AreOpenBounded [] = ⊤
AreOpenBounded (innermost ∷ opened) = IsBounded innermost.style × AreOpenBounded opened

pub record ArePieces (some : ℕ) (items : List Entry) : Type 0 where
  pub many : length items ≡ some
  pub letters : text_bytes items ≡ 0
  pub names : atoms_of items ≡ 0
  pub sizes : All HasFontSize items
  pub bounds : All HasBounds items

pub closed_pieces : (opened : List Opened) → ArePieces (length opened) (closed opened)
unfolding closed
closed_pieces [] = record { many = omega arith; letters = omega arith; names = omega arith; sizes = none_all HasFontSize; bounds = none_all HasBounds }
closed_pieces (innermost ∷ opened) =
    let more = closed_pieces opened in record {
      many = omega (arith, more.many);
      letters = omega (arith, more.letters);
      names = omega (arith, more.names);
      sizes = All-cons HasFontSize _ _ tt more.sizes;
      bounds = All-cons HasBounds _ _ tt more.bounds;
    }

pub again_pieces : (opened : List Opened) → AreOpenBounded opened → ArePieces (length opened) (opened_again opened)
unfolding opened_again AreOpenBounded
again_pieces [] bounded = record { many = omega arith; letters = omega arith; names = omega arith; sizes = none_all HasFontSize; bounds = none_all HasBounds }
again_pieces (innermost ∷ opened) bounded =
    let more = again_pieces opened bounded.1 in
    let last = item.begins innermost.node innermost.style false ∷ [] in
    let long = length_on (opened_again opened) last in
    let letters = bytes_on (opened_again opened) last in
    let names = atoms_on (opened_again opened) last in
    record {
      many = omega (arith, long, more.many);
      letters = omega (arith, letters, more.letters);
      names = omega (arith, names, more.names);
      sizes = All-append HasFontSize (opened_again opened) last more.sizes (one_all HasFontSize _ tt);
      bounds = All-append HasBounds (opened_again opened) last more.bounds (one_all HasBounds _ bounded.0);
    }

-- ---- anonymous blocks

anonymous_bounded : (style : Style) → IsBounded style → IsBounded (anonymous style)
unfolding initial
anonymous_bounded style is = record {
  combine = is.combine;
  font_size_low = is.font_size_low;
  font_size_high = is.font_size_high;
  face = is.face;
  line_height = is.line_height;
  shift = omega arith;
  width = tt;
  height = tt;
  min_width = tt;
  min_height = tt;
  max_width = tt;
  max_height = tt;
  margin = record { top = omega arith; right = omega arith; bottom = omega arith; left = omega arith };
  padding = record { top = (omega arith, omega arith); right = (omega arith, omega arith); bottom = (omega arith, omega arith); left = (omega arith, omega arith) };
  border = record { top = (omega arith, omega arith); right = (omega arith, omega arith); bottom = (omega arith, omega arith); left = (omega arith, omega arith) };
  insets = record { top = omega arith; right = omega arith; bottom = omega arith; left = omega arith };
}

-- the box of a container, in which nodes so deep stand
pub record IsOwn (boxes total deep : ℕ) (own : Boxes) : Type 0 where
  pub many : count own ≤ boxes + 2
  pub one : siblings own ≡ 1
  pub low : height own ≤ 2 * deep + 2
  pub light : heaviest own ≤ total + 2 ^ 39 + suc deep * of_pieces
  pub fit : AreFit own

module _ (number : ℕ) (style : Style) where
  wrapped_count : (blank : Bool) (ordinal : ℕ) (run : Run) (others : ℕ → Boxes) (bound : ℕ) → ((k : ℕ) → count (others k) ≤ bound)
      → count (wrapped blank number ordinal style run others) ≤ suc (count run.atoms) + bound
  wrapped_count true ordinal run others bound few = let f = few ordinal in omega (arith, f)
  wrapped_count false ordinal run others bound few = let f = few (suc ordinal) in omega (arith, f)

  wrapped_siblings : (blank : Bool) (ordinal : ℕ) (run : Run) (others : ℕ → Boxes) (bound : ℕ) → ((k : ℕ) → siblings (others k) ≤ bound)
      → siblings (wrapped blank number ordinal style run others) ≤ suc bound
  wrapped_siblings true ordinal run others bound few = let f = few ordinal in omega (arith, f)
  wrapped_siblings false ordinal run others bound few = let f = few (suc ordinal) in omega (arith, f)

  wrapped_height : (blank : Bool) (ordinal : ℕ) (run : Run) (others : ℕ → Boxes) (most : Most) → IsRun most run → ((k : ℕ) → height (others k) ≤ suc most.tall)
      → height (wrapped blank number ordinal style run others) ≤ suc most.tall
  wrapped_height true ordinal run others most is lower = lower ordinal
  wrapped_height false ordinal run others most is lower = let f = lower (suc ordinal) in omega (arith, f, is.low)

  wrapped_heaviest : (blank : Bool) (ordinal : ℕ) (run : Run) (others : ℕ → Boxes) (most : Most) → IsRun most run → ((k : ℕ) → heaviest (others k) ≤ most.room + most.heavy)
      → heaviest (wrapped blank number ordinal style run others) ≤ most.room + most.heavy
  wrapped_heaviest true ordinal run others most is lighter = lighter ordinal
  wrapped_heaviest false ordinal run others most is lighter = let f = lighter (suc ordinal) in omega (arith, f, is.room, is.light)

  wrapped_fit : (blank : Bool) (ordinal : ℕ) (run : Run) (others : ℕ → Boxes) (most : Most) → IsBounded style → IsRun most run → most.items ≤ 2 ^ 20 → most.bytes ≤ 1048576
      → ((k : ℕ) → AreFit (others k)) → AreFit (wrapped blank number ordinal style run others)
  wrapped_fit true ordinal run others most bounded is few short fit = fit ordinal
  wrapped_fit false ordinal run others most bounded is few short fit = (
    record {
      bounded = anonymous_bounded style bounded;
      paragraph = record { count = omega (arith, is.some, few); bytes = omega (arith, is.letters, short); sizes = is.sizes; bounds = is.bounds };
      atoms = is.atoms;
    },
    is.fit,
    fit (suc ordinal),
  )

  -- ---- block-level boxes with the runs behind them

  stacked_count : (bs : Blocks) (ordinal : ℕ) → count (stacked number style bs ordinal) ≤ boxes_behind bs
  unfolding stacked
  stacked_count no_more ordinal = omega arith
  stacked_count (then block run others) ordinal =
      let after = wrapped_count run.blank ordinal run (stacked number style others) (boxes_behind others) (stacked_count others) in
      let all = count_join block (wrapped run.blank number ordinal style run (stacked number style others)) in
      omega (arith, after, all)

  stacked_siblings : (bs : Blocks) (ordinal : ℕ) → siblings (stacked number style bs ordinal) ≤ row_behind bs
  unfolding stacked
  stacked_siblings no_more ordinal = omega arith
  stacked_siblings (then block run others) ordinal =
      let after = wrapped_siblings run.blank ordinal run (stacked number style others) (row_behind others) (stacked_siblings others) in
      let all = siblings_join block (wrapped run.blank number ordinal style run (stacked number style others)) in
      omega (arith, after, all)

  stacked_height : (bs : Blocks) (most : Most) (ordinal : ℕ) → AreRuns most bs → height (stacked number style bs ordinal) ≤ suc most.tall
  unfolding stacked
  stacked_height no_more most ordinal are = omega arith
  stacked_height (then block run others) most ordinal (own, is, rest) =
      height_join block (wrapped run.blank number ordinal style run (stacked number style others)) (suc most.tall) (omega (arith, own.low))
      (wrapped_height run.blank ordinal run (stacked number style others) most is (λ k. stacked_height others most k rest))

  stacked_heaviest : (bs : Blocks) (most : Most) (ordinal : ℕ) → AreRuns most bs → heaviest (stacked number style bs ordinal) ≤ most.room + most.heavy
  unfolding stacked
  stacked_heaviest no_more most ordinal are = omega arith
  stacked_heaviest (then block run others) most ordinal (own, is, rest) =
      heaviest_join block (wrapped run.blank number ordinal style run (stacked number style others)) (most.room + most.heavy) (omega (arith, own.light))
      (wrapped_heaviest run.blank ordinal run (stacked number style others) most is (λ k. stacked_heaviest others most k rest))

  stacked_fit : (bs : Blocks) (most : Most) (ordinal : ℕ) → IsBounded style → AreRuns most bs → most.items ≤ 2 ^ 20 → most.bytes ≤ 1048576 → AreFit (stacked number style bs ordinal)
  unfolding stacked
  stacked_fit no_more most ordinal bounded are few short = tt
  stacked_fit (then block run others) most ordinal bounded (own, is, rest) few short =
      fit_join block (wrapped run.blank number ordinal style run (stacked number style others)) own.fit
      (wrapped_fit run.blank ordinal run (stacked number style others) most bounded is few short (λ k. stacked_fit others most k bounded rest few short))

  -- ---- a container

  container_count : (first : Run) (bs : Blocks) (boxes : ℕ) → count first.atoms + boxes_behind bs ≤ boxes → count (container number style first bs) ≤ boxes + 2
  container_count first no_more boxes few = omega (arith, few)
  container_count first (then block run others) boxes few =
      let after = wrapped_count first.blank 0 first (stacked number style (then block run others)) (boxes_behind (then block run others)) (stacked_count (then block run others)) in
      omega (arith, after, few)

  container_siblings : (first : Run) (bs : Blocks) → siblings (container number style first bs) ≡ 1
  container_siblings first no_more = omega arith
  container_siblings first (then block run others) = omega arith

  container_height : (first : Run) (bs : Blocks) (most : Most) → IsRun most first → AreRuns most bs → height (container number style first bs) ≤ most.tall + 2
  container_height first no_more most is are = omega (arith, is.low)
  container_height first (then block run others) most is are =
      let after = wrapped_height first.blank 0 first (stacked number style (then block run others)) most is (λ k. stacked_height (then block run others) most k are) in
      omega (arith, after)

  container_heaviest : (first : Run) (bs : Blocks) (most : Most) → IsRun most first → AreRuns most bs
      → heaviest (container number style first bs) ≤ suc (row_behind bs) * 2 ^ 39 + most.room + most.heavy
  container_heaviest first no_more most is are = omega (arith, is.room, is.light)
  container_heaviest first (then block run others) most is are =
      let after = wrapped_heaviest first.blank 0 first (stacked number style (then block run others)) most is (λ k. stacked_heaviest (then block run others) most k are) in
      let side = wrapped_siblings first.blank 0 first (stacked number style (then block run others)) (row_behind (then block run others)) (stacked_siblings (then block run others)) in
      omega (arith, after, side)

  container_fit : (first : Run) (bs : Blocks) (most : Most) → IsBounded style → IsRun most first → AreRuns most bs → most.items ≤ 2 ^ 20 → most.bytes ≤ 1048576
      → AreFit (container number style first bs)
  container_fit first no_more most bounded is are few short = (
    record {
      bounded = bounded;
      paragraph = record { count = omega (arith, is.some, few); bytes = omega (arith, is.letters, short); sizes = is.sizes; bounds = is.bounds };
      atoms = is.atoms;
    },
    is.fit,
    tt,
  )
  container_fit first (then block run others) most bounded is are few short = (
    record { bounded = bounded; paragraph = tt; atoms = tt },
    wrapped_fit first.blank 0 first (stacked number style (then block run others)) most bounded is few short
        (λ k. stacked_fit (then block run others) most k bounded are few short),
    tt,
  )

  pub container_own : (h : Held) (i b x t m : ℕ) → IsBounded style → i + 2 * pieces ≤ 2 ^ 20 → b ≤ 1048576 → IsHeld i b x t m h → IsOwn x t m (container number style h.first h.others)
  container_own h i b x t m bounded few short is =
      let most = most_of (2 * pieces) i b is.room is.below m in
      let first = run_more _ most h.first (record { items = omega arith; bytes = omega arith; room = omega arith; tall = omega arith; heavy = omega arith }) is.first in
      let light = container_heaviest h.first h.others most first is.others in
      record {
        many = container_count h.first h.others x is.many;
        one = container_siblings h.first h.others;
        low = container_height h.first h.others most first is.others;
        light = omega (arith, light, is.in_row, is.sum);
        fit = container_fit h.first h.others most bounded first is.others (omega (arith, few)) short;
      }

-- ---- a node's numbers

pub font_size : (style : Style) → IsBounded style → IsFontSize style
font_size style is = record { low = is.font_size_low; high = is.font_size_high }

abbrev pub bytes_in_role : Role → ℕ
bytes_in_role nothing = 0
bytes_in_role (words letters) = length letters
bytes_in_role line_break = 0
bytes_in_role inline_box = 0
bytes_in_role atom = 0
bytes_in_role block_level = 0

pub role_bytes : (kind : NodeKind) (style : Style) → bytes_in_role (role_of kind style) ≤ bytes_of kind
role_bytes styled.element style = by_display style.display
  where
    by_display : (d : Display) → bytes_in_role (element_role d) ≤ 0
    by_display Block = omega arith
    by_display Inline = omega arith
    by_display InlineBlock = omega arith
    by_display FlowRoot = omega arith
    by_display Hidden = omega arith
role_bytes styled.line_break style = by_display style.display
  where
    by_display : (d : Display) → bytes_in_role (role_by d line_break) ≤ 0
    by_display Block = omega arith
    by_display Inline = omega arith
    by_display InlineBlock = omega arith
    by_display FlowRoot = omega arith
    by_display Hidden = omega arith
role_bytes (styled.text letters) style = omega arith
