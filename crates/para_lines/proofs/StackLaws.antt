-- Lines one under the other, one by one.
use Rattle.std.proofs.Common.{◌≡◌, ◌∙◌, refl, sym, ap, arith, subst, ℕ, zero, suc, ◌+◌, ◌-◌, ◌*◌, ◌<◌, ◌≤◌, ◌^◌, List, [], ◌∷◌, ◌++◌, length, map, get_or, drop, take, Option, ℤ, pos, ◌+ℤ◌, unsigned_abs}
use Rattle.std.specs.Prelude.{All}
use Rattle.std.specs.List.{slice_range}
use Rattle.std.proofs.lemmas.Int.{ints}
use Rattle.std.proofs.lemmas.List.{drop_all, drop_more, drop-map, take-map}
use Rattle.std.proofs.Math.Seq.{take-add}
use Rattle.face_api.specs.Table.{Table}
use Rattle.fragment_types.specs.declared.fragment.Fragment.{Fragment, out-Fragment}
use Rattle.fragment_types.specs.Fragment.{Pieces, line as line_kind, piece, pieces_of}
use Rattle.fragment_types.specs.Item.{Entry}
use Rattle.line_fill.specs.Filling.{Divide}
use Rattle.line_place.specs.Line.{Line}
use Rattle.line_place.specs.Placing.{line_over, line_under, parts}
use Rattle.line_place.specs.Reach.{total}
use Rattle.line_place.specs.Walk.{followed}
use Rattle.line_place.proofs.ReachLaws.{total_append}
use Rattle.line_place.proofs.WalkLaws.{followed_all}
use Rattle.para_lines.specs.declared.paragraph.Container.{Container}
use Rattle.para_lines.specs.declared.lines.LineStack.{LineStack}
use Rattle.para_lines.specs.Lines.{Standing, baseline, chain_of_first, chain_of_last, extent_of, line, line_piece, lines_from}
use Rattle.para_lines.specs.Reach.{IsNearLine, standing_reach}
use Rattle.para_lines.specs.Setting.{line_between, room_between}

-- ---- a piece of a list

drop_none : {X : Type 0} (n : ℕ) → drop {A = X} n [] ≡ []
drop_none zero = refl
drop_none (suc n) = refl

drop_on : {X : Type 0} (xs : List X) (from end_ : ℕ) → from ≤ end_ → drop (end_ - from) (drop from xs) ≡ drop end_ xs
drop_on [] from end_ le = ap (drop (end_ - from)) (drop_none from) ∙ drop_none (end_ - from) ∙ sym (drop_none end_)
drop_on (x ∷ xs) zero end_ le = let e : end_ - 0 ≡ end_ = omega arith in ap (λ n. drop n (x ∷ xs)) e
drop_on (x ∷ xs) (suc from) zero le = absurd (omega arith)
drop_on (x ∷ xs) (suc from) (suc end_) le =
    let e : suc end_ - suc from ≡ end_ - from = omega arith in ap (λ n. drop n (drop from xs)) e ∙ drop_on xs from end_ (omega arith)

pub take_on : {X : Type 0} (xs : List X) (from end_ : ℕ) → from ≤ end_ → take end_ xs ≡ take from xs ++ slice_range xs from end_
take_on xs from end_ le = let e : from + (end_ - from) ≡ end_ = omega arith in ap (λ n. take n xs) (sym e) ∙ take-add from (end_ - from) xs

pub range_map : {X Y : Type 0} (f : X → Y) (xs : List X) (from end_ : ℕ) → slice_range (map f xs) from end_ ≡ map f (slice_range xs from end_)
range_map f xs from end_ = ap (take (end_ - from)) (drop-map f from xs) ∙ take-map f (end_ - from) (drop from xs)

-- ---- the boxes round the items on both sides of a line

last_append : (before : List ℕ) (xs ys : List Standing) → chain_of_last before (xs ++ ys) ≡ chain_of_last (chain_of_last before xs) ys
last_append before [] ys = refl
last_append before (x ∷ xs) ys = last_append x.chain xs ys

-- ---- one line more

pub next_line : (tables : List (Option Table)) (container : Container) (entries : List Entry) (all : List Standing) (index from end_ : ℕ) (block : ℤ) (ends : List ℕ) → from ≤ end_
    → lines_from tables container entries index from block (chain_of_last [] (take from all)) (drop from all) (end_ ∷ ends)
    ≡ line_piece container index block (line_between tables container entries all from end_)
    (lines_from tables container entries (index + 1) end_ (block +ℤ extent_of (line_between tables container entries all from end_)) (chain_of_last [] (take end_ all)) (drop end_ all) ends)
next_line tables container entries all index from end_ block ends le =
    let own : List Standing = take (end_ - from) (drop from all) in
    let before : List ℕ = chain_of_last [] (take from all) in
    let others : drop (end_ - from) (drop from all) ≡ drop end_ all = drop_on all from end_ le in
    let last : chain_of_last before own ≡ chain_of_last [] (take end_ all) = sym (ap (chain_of_last []) (take_on all from end_ le) ∙ last_append [] (take from all) own) in
    ap (λ (o : List Standing). with_rest before own o (chain_of_last before own)) others
    ∙ ap (with_rest before own (drop end_ all)) last where
      with_rest : (before : List ℕ) (own others : List Standing) (last : List ℕ) → Pieces
      with_rest before own others last =
          let l : Line = line tables container entries before (chain_of_first others) own in
          line_piece container index block l (lines_from tables container entries (index + 1) end_ (block +ℤ extent_of l) last others ends)

-- ---- places of ends

pub divide_within : (from count : ℕ) (ends : List ℕ) → Divide from count ends → from ≤ count
divide_within from count [] h = omega arith
divide_within from count (end_ ∷ ends) h = let a = h.0 in let b = divide_within end_ count ends h.1 in omega arith

pub record Next (from count end_ : ℕ) (ends : List ℕ) : Type 0 where
  pub later : from < end_
  pub within : end_ ≤ count
  pub divide : Divide end_ count ends

next_end : (from count end_ : ℕ) (ends : List ℕ) → Divide from count (end_ ∷ ends) → Next from count end_ ends
next_end from count end_ ends h = record { later = h.0; within = divide_within end_ count ends h.1; divide = h.1 }

-- ---- how far lines reach

pub total_part : {X : Type 0} (reach : X → ℕ) (xs : List X) (n : ℕ) → total reach (take n xs) ≤ total reach xs
total_part reach [] zero = omega arith
total_part reach [] (suc n) = omega arith
total_part reach (x ∷ xs) zero = omega arith
total_part reach (x ∷ xs) (suc n) = let h = total_part reach xs n in omega arith

pub room_on : (all : List Standing) (from end_ : ℕ) → from ≤ end_ → total standing_reach (take end_ all) ≡ total standing_reach (take from all) + room_between all from end_
room_on all from end_ le = ap (total standing_reach) (take_on all from end_ le) ∙ total_append standing_reach (take from all) (slice_range all from end_)

-- ---- the loop over lines

pub record Stacking (tables : List (Option Table)) (container : Container) (entries : List Entry) (all : List Standing) (ends : List ℕ) (stack : LineStack) (k : ℕ) : Type 0 where
  pub done :
      followed stack.made.items (lines_from tables container entries (length stack.made.items) stack.from stack.block (chain_of_last [] (take stack.from all)) (drop stack.from all) (drop k ends))
      ≡ lines_from tables container entries 0 0 (pos 0) [] all ends
  pub divide : Divide stack.from (length all) (drop k ends)
  pub some : k ≤ stack.from
  pub near : unsigned_abs stack.block ≤ k * 2 ^ 35 + 2 * total standing_reach (take stack.from all)
  pub lines : All IsNearLine stack.made.items

-- the end of the next line, and room for it
pub record CanAdd (all : List Standing) (stack : LineStack) (end_ : ℕ) : Type 0 where
  pub later : stack.from < end_
  pub within : end_ ≤ length all
  pub near : unsigned_abs stack.block + 2 * (2 ^ 34 + room_between all stack.from end_) ≤ 2 ^ 60

there : (ends : List ℕ) (k end_ : ℕ) → k < length ends → end_ ≡ get_or ends k end_ → drop k ends ≡ end_ ∷ drop (k + 1) ends
there ends k end_ lt read = drop_more ends k end_ lt ∙ ap (λ (e : ℕ). e ∷ drop (k + 1) ends) (sym read)

pub can_add : (tables : List (Option Table)) (container : Container) (entries : List Entry) (all : List Standing) (ends : List ℕ) (stack : LineStack) (k end_ : ℕ) → k < length ends → end_ ≡ get_or ends k end_
    → length all ≤ 2 ^ 21 → total standing_reach all ≤ 2 ^ 58 → Stacking tables container entries all ends stack k → CanAdd all stack end_
can_add tables container entries all ends stack k end_ lt read few most h =
    let P : List ℕ → Type 0 = λ es. Divide stack.from (length all) es in
    let next = next_end stack.from (length all) end_ (drop (k + 1) ends) (subst P (there ends k end_ lt read) h.divide) in
    let later = next.later in
    let within = next.within in
    let some = h.some in
    let near = h.near in
    let room = room_on all stack.from end_ (omega arith) in
    let part = total_part standing_reach all end_ in
    record { later = later; within = within; near = omega arith }

pub stacking_on : (tables : List (Option Table)) (container : Container) (entries : List Entry) (all : List Standing) (ends : List ℕ) (stack more : LineStack) (k end_ : ℕ) → k < length ends → end_ ≡ get_or ends k end_
    → more.from ≡ end_
    → more.block ≡ stack.block +ℤ extent_of (line_between tables container entries all stack.from end_)
    → unsigned_abs more.block ≤ unsigned_abs stack.block + 2 * (2 ^ 34 + room_between all stack.from end_)
    → length more.made.items ≡ length stack.made.items + 1
    → ((next : Pieces) → followed more.made.items next ≡ followed stack.made.items (line_piece container (length stack.made.items) stack.block (line_between tables container entries all stack.from end_) next))
    → All IsNearLine more.made.items
    → Stacking tables container entries all ends stack k → Stacking tables container entries all ends more (k + 1)
stacking_on tables container entries all ends stack more k end_ lt read from block reach count made lines h =
    let P : List ℕ → Type 0 = λ es. Divide stack.from (length all) es in
    let e : drop k ends ≡ end_ ∷ drop (k + 1) ends = there ends k end_ lt read in
    let next = next_end stack.from (length all) end_ (drop (k + 1) ends) (subst P e h.divide) in
    let later = next.later in
    let some = h.some in
    let near = h.near in
    let le : stack.from ≤ end_ = omega arith in
    let room = room_on all stack.from end_ le in
    let rest : ℕ → ℕ → ℤ → Pieces = λ index from_ block_. lines_from tables container entries index from_ block_ (chain_of_last [] (take from_ all)) (drop from_ all) (drop (k + 1) ends) in
    record {
      done =
          made (rest (length more.made.items) more.from more.block)
          ∙ ap (λ i. put (rest i more.from more.block)) count
          ∙ ap (λ f. put (rest (length stack.made.items + 1) f more.block)) from
          ∙ ap (λ b. put (rest (length stack.made.items + 1) end_ b)) block
          ∙ ap (followed stack.made.items) (sym (next_line tables container entries all (length stack.made.items) stack.from end_ stack.block (drop (k + 1) ends) le))
          ∙ ap (λ (es : List ℕ). followed stack.made.items (lines_from tables container entries (length stack.made.items) stack.from stack.block (chain_of_last [] (take stack.from all)) (drop stack.from all) es)) (sym e)
          ∙ h.done;
      divide = rw from next.divide;
      some = omega arith;
      near = rw from (omega arith);
      lines = lines;
    } where
      put : Pieces → Pieces
      put next = followed stack.made.items (line_piece container (length stack.made.items) stack.block (line_between tables container entries all stack.from end_) next)

pub piece_is : (container : Container) (index i : ℕ) (block b over under : ℤ) (inner next : Pieces) (l : Line) → i ≡ index → b ≡ block → over ≡ line_over l → under ≡ line_under l → inner ≡ parts l
    → piece container.name (record { i = pos 0; b = b; inline = container.size; block = over +ℤ under }) (line_kind i over container.style.mode (baseline container)) inner next ≡ line_piece container index block l next
piece_is container index i block b over under inner next l p q o u r = rw (p, q, o, u, r) refl

pub line_near : (f : Fragment) (block over under : ℤ) (room : ℕ) → (out-Fragment f).rect.b ≡ block → (out-Fragment f).rect.block ≡ over +ℤ under → unsigned_abs over ≤ room → unsigned_abs under ≤ room
    → unsigned_abs block + 2 * room ≤ 2 ^ 60 → IsNearLine f
line_near f block over under room b s o u most = rw (b, s) (let a = abs_add over under in omega arith) where
  abs_add : (a b : ℤ) → unsigned_abs (a +ℤ b) ≤ unsigned_abs a + unsigned_abs b
  abs_add a b = omega (arith, ints)

pub stacking_all : (tables : List (Option Table)) (container : Container) (entries : List Entry) (all : List Standing) (ends : List ℕ) (stack : LineStack) (k : ℕ) → length ends ≤ k
    → Stacking tables container entries all ends stack k → pieces_of stack.made.items ≡ lines_from tables container entries 0 0 (pos 0) [] all ends
stacking_all tables container entries all ends stack k past h =
    sym (followed_all stack.made.items)
    ∙ ap (λ (es : List ℕ). followed stack.made.items (lines_from tables container entries (length stack.made.items) stack.from stack.block (chain_of_last [] (take stack.from all)) (drop stack.from all) es)) (sym (drop_all k ends past))
    ∙ h.done
