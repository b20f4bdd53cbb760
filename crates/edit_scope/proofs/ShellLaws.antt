-- A box and its anonymous blocks hang on what stands in it, but not on the boxes of atoms and of blocks.
use Rattle.std.proofs.Common.{◌≡◌, ◌∙◌, ℕ, zero, suc, Bool, true, false, List, [], ◌∷◌, ◌++◌, refl, ap, sym, subst}
use Rattle.std.specs.Prelude.{◌||◌, ◌&&◌}
use Rattle.style_types.specs.declared.style.Style.{Style}
use Rattle.fragment_types.specs.Item as item
use Rattle.fragment_types.specs.Item.{Entry}
use Rattle.box_gen.specs.declared.opened.Opened.{Opened}
use Rattle.box_gen.specs.Boxes.{Blocks, Held, Role, Run, anonymous, atom, block_level, container, in_front, inline_box, is_blank, join, line_break, made, no_more, nothing, opened_again, own_name, parts_by, runs, stacked, then, without_innermost, words, wrapped}
use Rattle.box_gen.specs.Parts as part
use Rattle.box_gen.specs.Parts.{Part, has_block, is_block}
use Rattle.box_gen.specs.Tree.{Boxes, blocks, box, inline, none}
use Rattle.edit_scope.specs.Boxes.{Shell, anonymous_among, if_anonymous, own_boxes}

-- ---- boxes that stand one after the other

-- none of them is an anonymous block
abbrev HasNone : Boxes → Type 0
HasNone boxes = anonymous_among boxes ≡ []

if_append : (ordinal : ℕ) (shell : Shell) (one two : List Shell) → if_anonymous ordinal shell (one ++ two) ≡ if_anonymous ordinal shell one ++ two
if_append zero shell one two = refl
if_append (suc ordinal) shell one two = refl

pub join_among : (boxes others : Boxes) → anonymous_among (join boxes others) ≡ anonymous_among boxes ++ anonymous_among others
unfolding join anonymous_among
join_among none others = refl
join_among (box name style content inner next) others =
    let shell : Shell = record { name = name; style = style; content = content } in
    ap (if_anonymous name.ordinal shell) (join_among next others) ∙ if_append name.ordinal shell (anonymous_among next) (anonymous_among others)

join_none : (boxes others : Boxes) → HasNone boxes → HasNone others → HasNone (join boxes others)
join_none boxes others one two = join_among boxes others ∙ ap (λ (l : List Shell). l ++ anonymous_among others) one ∙ two

made_none : (number : ℕ) (style : Style) (first : Run) (others : Blocks) → HasNone (container number style first others)
unfolding anonymous_among
made_none number style first no_more = refl
made_none number style first (then block run others) = refl

-- ---- parts

-- the other part is this one, but for the box of an atom or a block
abbrev IsLike : Part → Part → Type 0
IsLike (part.words number letters style) other = other ≡ part.words number letters style
IsLike (part.line_break number) other = other ≡ part.line_break number
IsLike (part.atom number own) other = (its : Boxes) × (other ≡ part.atom number its) × HasNone own × HasNone its
IsLike (part.block_level own) other = (its : Boxes) × (other ≡ part.block_level its) × HasNone own × HasNone its
IsLike (part.starts number style) other = other ≡ part.starts number style
IsLike (part.stops number is_cut) other = other ≡ part.stops number is_cut

abbrev pub AreLike : List Part → List Part → Type 0
AreLike [] others = others ≡ []
AreLike (first ∷ parts) others = (second : Part) × (rest : List Part) × (others ≡ second ∷ rest) × IsLike first second × AreLike parts rest

pub like_append : (one two one_more two_more : List Part) → AreLike one one_more → AreLike two two_more → AreLike (one ++ two) (one_more ++ two_more)
like_append [] two one_more two_more is like = subst (λ (l : List Part). AreLike two (l ++ two_more)) (sym is) like
like_append (first ∷ one) two one_more two_more (second, rest, is, here, later) like = (second, rest ++ two_more, ap (λ (l : List Part). l ++ two_more) is, here, like_append one two rest two_more later like)

block_like : (first second : Part) → IsLike first second → is_block second ≡ is_block first
block_like (part.words number letters style) second is = ap is_block is
block_like (part.line_break number) second is = ap is_block is
block_like (part.atom number own) second (its, is, none_one, none_two) = ap is_block is
block_like (part.block_level own) second (its, is, none_one, none_two) = ap is_block is
block_like (part.starts number style) second is = ap is_block is
block_like (part.stops number is_cut) second is = ap is_block is

blocks_like : (parts others : List Part) → AreLike parts others → has_block others ≡ has_block parts
blocks_like [] others is = ap has_block is
blocks_like (first ∷ parts) others (second, rest, is, here, later) =
    ap has_block is ∙ ap (λ (b : Bool). b || has_block rest) (block_like first second here) ∙ ap (λ (b : Bool). is_block first || b) (blocks_like parts rest later)

pub parts_like : (role : Role) (number : ℕ) (style : Style) (inner others : List Part) → (role ≡ inline_box → AreLike inner others) → AreLike (parts_by role number style inner) (parts_by role number style others)
parts_like nothing number style inner others like = refl
parts_like (words letters) number style inner others like = (part.words number letters style, [], refl, refl, refl)
parts_like line_break number style inner others like = (part.line_break number, [], refl, refl, refl)
parts_like inline_box number style inner others like = (
  part.starts number style,
  others ++ (part.stops number (has_block others) ∷ []),
  refl,
  refl,
  like_append inner (part.stops number (has_block inner) ∷ []) others (part.stops number (has_block others) ∷ []) (like refl)
      (part.stops number (has_block others), [], refl, ap (part.stops number) (blocks_like inner others (like refl)), refl),
)
parts_like atom number style inner others like =
    (part.atom number (made number style others), [], refl, (made number style others, refl, made_none number style (runs [] inner).first (runs [] inner).others, made_none number style (runs [] others).first (runs [] others).others), refl)
parts_like block_level number style inner others like =
    (part.block_level (made number style others), [], refl, (made number style others, refl, made_none number style (runs [] inner).first (runs [] inner).others, made_none number style (runs [] others).first (runs [] others).others), refl)

-- ---- runs

abbrev IsLikeRun : Run → Run → Type 0
IsLikeRun run other = (other.items ≡ run.items) × (other.blank ≡ run.blank)

abbrev AreLikeBlocks : Blocks → Blocks → Type 0
AreLikeBlocks no_more others = others ≡ no_more
AreLikeBlocks (then block run behind) others =
    (other : Boxes) × (its : Run) × (rest : Blocks) × (others ≡ then other its rest) × HasNone block × HasNone other × IsLikeRun run its × AreLikeBlocks behind rest

record IsLikeHeld (held other : Held) : Type 0 where
  run : IsLikeRun held.first other.first
  one : HasNone held.first.atoms
  two : HasNone other.first.atoms
  rest : AreLikeBlocks held.others other.others

front_like : (items : List Entry) (atoms its : Boxes) (blank : Bool) (held other : Held) → HasNone atoms → HasNone its → IsLikeHeld held other → IsLikeHeld (in_front items atoms blank held) (in_front items its blank other)
front_like items atoms its blank held other none_one none_two like = record {
  run = (ap (λ (l : List Entry). items ++ l) like.run.0, ap (λ (b : Bool). blank && b) like.run.1);
  one = join_none atoms held.first.atoms none_one like.one;
  two = join_none its other.first.atoms none_two like.two;
  rest = like.rest;
}

runs_like : (opened : List Opened) (parts others : List Part) → AreLike parts others → IsLikeHeld (runs opened parts) (runs opened others)
unfolding runs join anonymous_among
runs_like opened [] others is = subst (λ (l : List Part). IsLikeHeld (runs opened []) (runs opened l)) (sym is) (record { run = (refl, refl); one = refl; two = refl; rest = refl })
runs_like opened (part.words number letters style ∷ parts) others (second, rest, is, here, later) =
    subst (λ (l : List Part). IsLikeHeld (runs opened (part.words number letters style ∷ parts)) (runs opened l)) (sym (is ∙ ap (λ (p : Part). p ∷ rest) here))
    (front_like (item.text number letters style ∷ []) none none (is_blank letters) (runs opened parts) (runs opened rest) refl refl (runs_like opened parts rest later))
runs_like opened (part.line_break number ∷ parts) others (second, rest, is, here, later) =
    subst (λ (l : List Part). IsLikeHeld (runs opened (part.line_break number ∷ parts)) (runs opened l)) (sym (is ∙ ap (λ (p : Part). p ∷ rest) here))
    (front_like (item.line_break number ∷ []) none none false (runs opened parts) (runs opened rest) refl refl (runs_like opened parts rest later))
runs_like opened (part.atom number own ∷ parts) others (second, rest, is, (its, here, none_one, none_two), later) =
    subst (λ (l : List Part). IsLikeHeld (runs opened (part.atom number own ∷ parts)) (runs opened l)) (sym (is ∙ ap (λ (p : Part). p ∷ rest) here))
    (front_like (item.atom (own_name number) ∷ []) own its false (runs opened parts) (runs opened rest) none_one none_two (runs_like opened parts rest later))
runs_like opened (part.starts number style ∷ parts) others (second, rest, is, here, later) =
    subst (λ (l : List Part). IsLikeHeld (runs opened (part.starts number style ∷ parts)) (runs opened l)) (sym (is ∙ ap (λ (p : Part). p ∷ rest) here))
    (front_like (item.begins number style true ∷ []) none none true (runs (record { node = number; style = style } ∷ opened) parts) (runs (record { node = number; style = style } ∷ opened) rest) refl refl
    (runs_like (record { node = number; style = style } ∷ opened) parts rest later))
runs_like opened (part.stops number is_cut ∷ parts) others (second, rest, is, here, later) =
    subst (λ (l : List Part). IsLikeHeld (runs opened (part.stops number is_cut ∷ parts)) (runs opened l)) (sym (is ∙ ap (λ (p : Part). p ∷ rest) here))
    (front_like (item.ends number true ∷ []) none none is_cut (runs (without_innermost opened) parts) (runs (without_innermost opened) rest) refl refl (runs_like (without_innermost opened) parts rest later))
runs_like opened (part.block_level own ∷ parts) others (second, rest, is, (its, here, none_one, none_two), later) =
    let behind = front_like (opened_again opened) none none true (runs opened parts) (runs opened rest) refl refl (runs_like opened parts rest later) in
    let after = in_front (opened_again opened) none true (runs opened rest) in
    subst (λ (l : List Part). IsLikeHeld (runs opened (part.block_level own ∷ parts)) (runs opened l)) (sym (is ∙ ap (λ (p : Part). p ∷ rest) here)) (record {
      run = (refl, refl);
      one = refl;
      two = refl;
      rest = (its, after.first, after.others, refl, none_one, none_two, behind.run, behind.rest);
    })

-- ---- a box and its anonymous blocks

module _ (number : ℕ) (style : Style) where
  abbrev wrap : (ordinal : ℕ) → List Entry → Shell
  wrap ordinal items = record { name = record { node = number; ordinal = ordinal }; style = anonymous style; content = inline items }

  wrapped_by : (blank : Bool) (ordinal : ℕ) (run its : Run) (others rest : ℕ → Boxes) → its.items ≡ run.items → ((ordinal : ℕ) → anonymous_among (others ordinal) ≡ anonymous_among (rest ordinal))
      → anonymous_among (wrapped blank number ordinal style run others) ≡ anonymous_among (wrapped blank number ordinal style its rest)
  unfolding anonymous_among
  wrapped_by true ordinal run its others rest items same = same ordinal
  wrapped_by false ordinal run its others rest items same =
      ap (λ (l : List Entry). wrap (suc ordinal) l ∷ anonymous_among (others (suc ordinal))) (sym items) ∙ ap (λ (l : List Shell). wrap (suc ordinal) its.items ∷ l) (same (suc ordinal))

  wrapped_like : (ordinal : ℕ) (run its : Run) (others rest : ℕ → Boxes) → IsLikeRun run its → ((ordinal : ℕ) → anonymous_among (others ordinal) ≡ anonymous_among (rest ordinal))
      → anonymous_among (wrapped run.blank number ordinal style run others) ≡ anonymous_among (wrapped its.blank number ordinal style its rest)
  wrapped_like ordinal run its others rest like same =
      wrapped_by run.blank ordinal run its others rest like.0 same ∙ ap (λ (b : Bool). anonymous_among (wrapped b number ordinal style its rest)) (sym like.1)

  stacked_like : (some others : Blocks) → AreLikeBlocks some others → (ordinal : ℕ) → anonymous_among (stacked number style some ordinal) ≡ anonymous_among (stacked number style others ordinal)
  unfolding stacked
  stacked_like no_more others is ordinal = ap (λ (b : Blocks). anonymous_among (stacked number style b ordinal)) (sym is)
  stacked_like (then block run behind) others (other, its, rest, is, none_one, none_two, like, later) ordinal =
      let one = wrapped run.blank number ordinal style run (stacked number style behind) in
      let two = wrapped its.blank number ordinal style its (stacked number style rest) in
      join_among block one ∙ ap (λ (l : List Shell). l ++ anonymous_among one) none_one
      ∙ wrapped_like ordinal run its (stacked number style behind) (stacked number style rest) like (stacked_like behind rest later)
      ∙ sym (join_among other two ∙ ap (λ (l : List Shell). l ++ anonymous_among two) none_two)
      ∙ ap (λ (b : Blocks). anonymous_among (stacked number style b ordinal)) (sym is)

  abbrev own : List Entry → Shell
  own items = record { name = own_name number; style = style; content = inline items }

  container_like : (first its : Run) (some others : Blocks) → IsLikeRun first its → HasNone first.atoms → HasNone its.atoms → AreLikeBlocks some others → own_boxes (container number style first some) ≡ own_boxes (container number style its others)
  container_like first its no_more others like none_one none_two is =
      ap (λ (l : List Entry). own l ∷ anonymous_among first.atoms) (sym like.0)
      ∙ ap (λ (l : List Shell). own its.items ∷ l) (none_one ∙ sym none_two)
      ∙ ap (λ (b : Blocks). own_boxes (container number style its b)) (sym is)
  container_like first its (then block run behind) others like none_one none_two (other, second, rest, is, no_one, no_two, run_like, later) =
      ap (λ (l : List Shell). (let made : Shell = record { name = own_name number; style = style; content = blocks } in made) ∷ l)
      (wrapped_like 0 first its (stacked number style (then block run behind)) (stacked number style (then other second rest)) like
      (stacked_like (then block run behind) (then other second rest) (other, second, rest, refl, no_one, no_two, run_like, later)))
      ∙ ap (λ (b : Blocks). own_boxes (container number style its b)) (sym is)

  pub made_like : (parts others : List Part) → AreLike parts others → own_boxes (made number style parts) ≡ own_boxes (made number style others)
  made_like parts others like =
      let held = runs_like [] parts others like in
      container_like (runs [] parts).first (runs [] others).first (runs [] parts).others (runs [] others).others held.run held.one held.two held.rest
