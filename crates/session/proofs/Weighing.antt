-- The boxes of a styled tree within the limits can be laid out.
use Rattle.std.proofs.Common.{◌≡◌, ℕ, suc, ◌+◌, ◌*◌, ◌≤◌, ◌^◌, Bool, true, false, List, [], ◌∷◌, ◌++◌, length, All, append_assoc, append-nil, subst, sym, arith}
use Rattle.style_types.specs.declared.style.Style.{Style}
use Rattle.fragment_types.specs.Item as item
use Rattle.fragment_types.specs.Item.{Entry}
use Rattle.style_types.specs.Style.{IsBounded}
use Rattle.style_types.specs.Tree as styled
use Rattle.style_types.specs.Tree.{Nodes, nodes_in}
use Rattle.style_tree.specs.Styling.{AreBounded}
use Rattle.para_lines.specs.Boxes.{HasBounds}
use Rattle.para_prepare.specs.Limits.{HasFontSize, text_bytes}
use Rattle.box_gen.specs.declared.opened.Opened.{Opened}
use Rattle.box_gen.specs.Parts as part
use Rattle.box_gen.specs.Parts.{Part, has_block}
use Rattle.box_gen.specs.Boxes.{Held, Role, atom, before_run, block_level, closed, content, in_front, inline_box, is_blank, join, line_break, made, no_run, nothing, opened_again, own_name, parts_by, role_of, runs, then, words}
use Rattle.box_gen.specs.Tree.{Boxes, inline, none, count, height, siblings}
use Rattle.relayout.specs.Fit.{AreFit, heaviest, room_in}
use Rattle.session.specs.Limits.{BoxesFit, bytes_in, depth}
use Rattle.para_prepare.specs.Preparation.{atoms_of}
use Rattle.session.proofs.Holding.{AreOpenBounded, IsHeld, IsOwn, again_pieces, bytes_in_role, closed_pieces, container_own, count_join, font_size, most_of, none_run, of_piece, of_pieces, one_all, pieces, role_bytes, run_before, runs_more, weaker}

-- ---- one part more

-- what a node adds at most, but for the bytes of its text: an inline-block with its item, its box and the anonymous block before its blocks
abbrev pub of_node : ℕ
of_node = 11 * 2 ^ 40

-- inline content before the rest; what stands in its boxes comes to this
front_held : (items : List Entry) (atoms : Boxes) (blank : Bool) (h : Held) (i b x t m own : ℕ) → All HasFontSize items → All HasBounds items → atoms_of items ≤ siblings atoms → AreFit atoms
    → height atoms ≤ 2 * m → heaviest atoms ≤ own + m * of_pieces → IsHeld i b x t m h
    → IsHeld (length items + i) (text_bytes items + b) (count atoms + x) (room_in (inline items) + siblings atoms * 2 ^ 39 + own + t) m (in_front items atoms blank h)
front_held items atoms blank h i b x t m own sizes bounds named fit low light is =
    let here = room_in (inline items) + siblings atoms * 2 ^ 39 in
    let many = count_join atoms h.first.atoms in
    record {
      row = is.row;
      room = here + is.room;
      below = own + is.below;
      sum = omega (arith, is.sum);
      many = omega (arith, many, is.many);
      in_row = is.in_row;
      first = run_before items atoms blank h.first (most_of pieces i b is.room is.below m) (most_of pieces (length items + i) (text_bytes items + b) (here + is.room) (own + is.below) m)
          (record {
            some = omega arith;
            letters = omega arith;
            room = omega arith;
            low = low;
            tall = omega arith;
            light = omega (arith, light);
            heavy = omega arith;
            sizes = sizes;
            bounds = bounds;
            atoms = named;
            fit = fit;
          }) is.first;
      others = runs_more (most_of (2 * pieces) i b is.room is.below m) _ h.others
          (record { items = omega arith; bytes = omega arith; room = omega arith; tall = omega arith; heavy = omega arith }) is.others;
    }

-- an item that is no inline-block
item_held : (entry : Entry) (blank : Bool) (h : Held) (i b x t m : ℕ) → HasFontSize entry → HasBounds entry → atoms_of (entry ∷ []) ≡ 0
    → IsHeld i b x t m h → IsHeld (suc i) (text_bytes (entry ∷ []) + b) x (of_piece + text_bytes (entry ∷ []) * 2 ^ 36 + t) m (in_front (entry ∷ []) none blank h)
item_held entry blank h i b x t m size bounds names is =
    let all = front_held (entry ∷ []) none blank h i b x t m 0 (one_all HasFontSize entry size) (one_all HasBounds entry bounds) (omega (arith, names)) tt (omega arith) (omega arith) is in
    weaker _ _ _ _ _ _ _ _ m (in_front (entry ∷ []) none blank h) (omega arith) (omega arith) (omega arith) (omega (arith, names)) all

-- an inline-block with what stands in it
atom_held : (number : ℕ) (own : Boxes) (h : Held) (i b x t m x' t' d : ℕ) → d + 1 ≤ m → IsOwn x' t' d own → IsHeld i b x t m h
    → IsHeld (suc i) b (x' + 2 + x) (10 * 2 ^ 40 + t' + t) m (in_front (item.atom (own_name number) ∷ []) own false h)
atom_held number own h i b x t m x' t' d deep made is =
    let all = front_held (item.atom (own_name number) ∷ []) own false h i b x t m (t' + 2 ^ 39) (one_all HasFontSize _ tt) (one_all HasBounds _ tt) (omega (arith, made.one)) made.fit
    (omega (arith, made.low, deep)) (omega (arith, made.light, deep)) is in
    weaker _ _ _ _ _ _ _ _ m (in_front (item.atom (own_name number) ∷ []) own false h) (omega arith) (omega arith) (omega (arith, made.many)) (omega (arith, made.one)) all

-- the rest behind a block-level box: the open inline boxes end before it, and begin again behind it
block_held : (opened : List Opened) (own : Boxes) (h : Held) (i b x t m x' t' d : ℕ) → AreOpenBounded opened → length opened ≤ pieces → d + 1 ≤ m → IsOwn x' t' d own → IsHeld i b x t m h
    → let behind = in_front (opened_again opened) none true h in
    IsHeld i b (x' + 3 + x) (2 * 2 ^ 40 + t' + t) m (record { first = before_run (closed opened) none true no_run; others = then own behind.first behind.others })
unfolding join
block_held opened own h i b x t m x' t' d bounded few deep made is =
    let ends = closed_pieces opened in
    let begins = again_pieces opened bounded in
    let room = 2 ^ 39 + is.room in
    let below = t' + 2 ^ 39 + is.below in
    let most = most_of (2 * pieces) i b is.room below m in
    record {
      row = 2 ^ 40 + is.row;
      room = is.room;
      below = below;
      sum = omega (arith, is.sum);
      many = omega (arith, made.many, is.many);
      in_row = omega (arith, made.one, is.in_row);
      first = run_before (closed opened) none true no_run (most_of 0 i b is.room below m) (most_of pieces i b is.room below m)
          (record {
            some = omega (arith, ends.many, few);
            letters = omega (arith, ends.letters);
            room = omega (arith, ends.many, ends.names, ends.letters, few);
            low = omega arith;
            tall = omega arith;
            light = omega arith;
            heavy = omega arith;
            sizes = ends.sizes;
            bounds = ends.bounds;
            atoms = omega (arith, ends.names);
            fit = tt;
          }) (none_run _);
      others = (
        record { low = omega (arith, made.low, deep); light = omega (arith, made.light, deep); fit = made.fit },
        run_before (opened_again opened) none true h.first (most_of pieces i b is.room is.below m) most
            (record {
              some = omega (arith, begins.many, few);
              letters = omega (arith, begins.letters);
              room = omega (arith, begins.many, begins.names, begins.letters, few);
              low = omega arith;
              tall = omega arith;
              light = omega arith;
              heavy = omega arith;
              sizes = begins.sizes;
              bounds = begins.bounds;
              atoms = omega (arith, begins.names);
              fit = tt;
            }) is.first,
        runs_more (most_of (2 * pieces) i b is.room is.below m) most h.others
            (record { items = omega arith; bytes = omega arith; room = omega arith; tall = omega arith; heavy = omega arith }) is.others,
      );
    }

-- ---- nodes

-- put before any rest, these parts of so many nodes, bytes and levels of nodes add no more than they may
abbrev Continues : (n b d : ℕ) → List Part → Type 0
Continues n b d parts =
    (rest : List Part) (opened : List Opened) (i' b' x' t' m : ℕ) → AreOpenBounded opened → length opened + d ≤ pieces → d ≤ m → IsHeld i' b' x' t' m (runs opened rest)
    → IsHeld (2 * n + i') (b + b') (3 * n + x') (n * of_node + b * 2 ^ 36 + t') m (runs opened (parts ++ rest))

-- a container's own box
made_own : (number : ℕ) (style : Style) (parts : List Part) (n b d : ℕ) → IsBounded style → n ≤ 65536 → b ≤ 1048576 → d ≤ pieces → Continues n b d parts
    → IsOwn (3 * n) (n * of_node + b * 2 ^ 36) d (made number style parts)
unfolding runs AreOpenBounded
made_own number style parts n b d bounded few short low continues =
    let none_held : IsHeld 0 0 0 0 d (runs [] []) =
    record { row = 0; room = 0; below = 0; sum = omega arith; many = omega arith; in_row = omega arith; first = none_run _; others = tt } in
    let all = continues [] [] 0 0 0 0 d tt (omega (arith, low)) (omega arith) none_held in
    let here = subst (λ (l : List Part). IsHeld (2 * n + 0) (b + 0) (3 * n + 0) (n * of_node + b * 2 ^ 36 + 0) d (runs [] l)) (append-nil parts) all in
    let own = weaker _ _ _ _ (2 * n) b (3 * n) (n * of_node + b * 2 ^ 36) d (runs [] parts) (omega arith) (omega arith) (omega arith) (omega arith) here in
    container_own number style (runs [] parts) (2 * n) b (3 * n) (n * of_node + b * 2 ^ 36) d bounded (omega (arith, few)) short own

role_held : (role : Role) (number : ℕ) (style : Style) (inner : List Part) (n b d : ℕ) → IsBounded style → n ≤ 65536 → b ≤ 1048576 → d ≤ pieces → Continues n b d inner
    → Continues (suc n) (bytes_in_role role + b) (suc d) (parts_by role number style inner)
unfolding runs AreOpenBounded
role_held nothing number style inner n b d bounded few short low continues rest opened i' b' x' t' m are_open shallow deep is =
    weaker i' b' x' t' _ _ _ _ m (runs opened rest) (omega arith) (omega arith) (omega arith) (omega arith) is
role_held (words letters) number style inner n b d bounded few short low continues rest opened i' b' x' t' m are_open shallow deep is =
    let all = item_held (item.text number letters style) (is_blank letters) (runs opened rest) i' b' x' t' m (font_size style bounded) tt (omega arith) is in
    weaker _ _ _ _ _ _ _ _ m (in_front (item.text number letters style ∷ []) none (is_blank letters) (runs opened rest)) (omega arith) (omega arith) (omega arith) (omega arith) all
role_held line_break number style inner n b d bounded few short low continues rest opened i' b' x' t' m are_open shallow deep is =
    let all = item_held (item.line_break number) false (runs opened rest) i' b' x' t' m tt tt (omega arith) is in
    weaker _ _ _ _ _ _ _ _ m (in_front (item.line_break number ∷ []) none false (runs opened rest)) (omega arith) (omega arith) (omega arith) (omega arith) all
role_held inline_box number style inner n b d bounded few short low continues rest opened i' b' x' t' m are_open shallow deep is =
    let stop = part.stops number (has_block inner) in
    let own : Opened = record { node = number; style = style } in
    let ends = item_held (item.ends number true) (has_block inner) (runs opened rest) i' b' x' t' m tt tt (omega arith) is in
    let stopped = weaker _ _ _ _ (suc i') b' x' (of_piece + t') m (runs (own ∷ opened) (stop ∷ rest)) (omega arith) (omega arith) (omega arith) (omega arith) ends in
    let inside = continues (stop ∷ rest) (own ∷ opened) (suc i') b' x' (of_piece + t') m (bounded, are_open) (omega (arith, shallow)) (omega (arith, deep)) stopped in
    let joined = subst (λ (l : List Part). IsHeld (2 * n + suc i') (b + b') (3 * n + x') (n * of_node + b * 2 ^ 36 + (of_piece + t')) m (runs (own ∷ opened) l))
    (sym (append_assoc inner (stop ∷ []) rest)) inside in
    let all = item_held (item.begins number style true) true (runs (own ∷ opened) ((inner ++ (stop ∷ [])) ++ rest)) _ _ _ _ m tt bounded (omega arith) joined in
    weaker _ _ _ _ _ _ _ _ m (in_front (item.begins number style true ∷ []) none true (runs (own ∷ opened) ((inner ++ (stop ∷ [])) ++ rest))) (omega arith) (omega arith) (omega arith) (omega arith) all
role_held atom number style inner n b d bounded few short low continues rest opened i' b' x' t' m are_open shallow deep is =
    let own = made_own number style inner n b d bounded few short low continues in
    let all = atom_held number (made number style inner) (runs opened rest) i' b' x' t' m _ _ d (omega (arith, deep)) own is in
    weaker _ _ _ _ _ _ _ _ m (in_front (item.atom (own_name number) ∷ []) (made number style inner) false (runs opened rest)) (omega arith) (omega arith) (omega arith) (omega arith) all
role_held block_level number style inner n b d bounded few short low continues rest opened i' b' x' t' m are_open shallow deep is =
    let own = made_own number style inner n b d bounded few short low continues in
    let all = block_held opened (made number style inner) (runs opened rest) i' b' x' t' m _ _ d are_open (omega (arith, shallow)) (omega (arith, deep)) own is in
    weaker _ _ _ _ _ _ _ _ m _ (omega arith) (omega arith) (omega arith) (omega arith) all

content_held : (nodes : Nodes) → AreBounded nodes → nodes_in nodes ≤ 65536 → bytes_in nodes ≤ 1048576 → depth nodes ≤ pieces → Continues (nodes_in nodes) (bytes_in nodes) (depth nodes) (content nodes)
unfolding content AreBounded
content_held styled.none bounded few short low rest opened i' b' x' t' m are_open shallow deep is =
    weaker i' b' x' t' _ _ _ _ m (runs opened rest) (omega arith) (omega arith) (omega arith) (omega arith) is
content_held (styled.node number kind style inner next) (own, inside, behind) few short low rest opened i' b' x' t' m are_open shallow deep is =
    let parts = parts_by (role_of kind style) number style (content inner) in
    let role = role_bytes kind style in
    let more = content_held next behind (omega (arith, few)) (omega (arith, short)) (omega (arith, low)) rest opened i' b' x' t' m are_open (omega (arith, shallow)) (omega (arith, deep)) is in
    let here = role_held (role_of kind style) number style (content inner) (nodes_in inner) (bytes_in inner) (depth inner) own (omega (arith, few)) (omega (arith, short)) (omega (arith, low))
    (content_held inner inside (omega (arith, few)) (omega (arith, short)) (omega (arith, low))) (content next ++ rest) opened _ _ _ _ m are_open (omega (arith, shallow)) (omega (arith, deep)) more in
    let all = styled.node number kind style inner next in
    let few_of = 2 * nodes_in all + i' in
    let bytes = bytes_in all + b' in
    let boxes = 3 * nodes_in all + x' in
    let total = nodes_in all * of_node + bytes_in all * 2 ^ 36 + t' in
    let held = weaker _ _ _ _ few_of bytes boxes total m (runs opened (parts ++ (content next ++ rest))) (omega arith) (omega (arith, role)) (omega arith) (omega (arith, role)) here in
    subst (λ (l : List Part). IsHeld few_of bytes boxes total m (runs opened l)) (sym (append_assoc parts (content next) rest)) held

-- ---- the boxes of a tree

pub boxes_fit : BoxesFit
unfolding AreBounded
boxes_fit styled.none within = record { low = omega arith; few = omega arith; light = omega arith; fit = tt }
boxes_fit (styled.node number kind style inner next) within =
    let few = within.few in
    let short = within.short in
    let low = within.low in
    let own = made_own number style (content inner) (nodes_in inner) (bytes_in inner) (depth inner) within.bounded.0 (omega (arith, few)) (omega (arith, short)) (omega (arith, low))
    (content_held inner within.bounded.1 (omega (arith, few)) (omega (arith, short)) (omega (arith, low))) in
    record {
      low = omega (arith, own.low, low);
      few = omega (arith, own.many, few);
      light = omega (arith, own.light, own.one, few, short, low);
      fit = own.fit;
    }
