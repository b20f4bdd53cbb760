-- Nodes put one after the other.
use Rattle.std.proofs.Common.{◌≡◌, ◌∙◌, ap, sym, Bool, ◌||◌, List, [], ◌∷◌, ◌++◌, append_assoc, append-nil}
use Rattle.std.proofs.Math.Bool.{or-false, or_assoc}
use Rattle.std.proofs.lemmas.List.Folds.{list_any-append}
use Rattle.style_types.specs.declared.tree.StyledNode.{StyledNode}
use Rattle.style_types.specs.declared.tree.StyledNode.TheViews.{out-StyledNode}
use Rattle.style_types.specs.Tree as styled
use Rattle.style_types.specs.Tree.{Nodes, all_nodes_of, before, nodes_of}
use Rattle.box_gen.specs.declared.role.Role.TheVariants as roles
use Rattle.box_gen.specs.Parts as part
use Rattle.box_gen.specs.Parts.{Part, around, is_block, has_block}
use Rattle.box_gen.specs.Boxes.{content, made, root_boxes}
use Rattle.box_gen.specs.Building.{Filling, filled, no_filling, Puts, role_in}
use Rattle.box_gen.proofs.Contents.{box_content, content_before, root_is}
use Rattle.box_gen.proofs.Puts.{begun, puts_are, puts_both}

-- a container in which all these nodes are put but for those that are left
abbrev pub PutsBut : (was : Filling) (all : Nodes) (now : Filling) (left : Nodes) → Type 0
PutsBut was all now left = (behind : List Part) → filled was (content all ++ behind) ≡ filled now (content left ++ behind)

pub put_more : (was f g : Filling) (all left next : Nodes) (n : StyledNode) → left ≡ before n next → Puts f (content (nodes_of n)) g → PutsBut was all f left → PutsBut was all g next
put_more was f g all left next n is one so_far behind =
    so_far behind
    ∙ ap (λ (parts : List Part). filled f (parts ++ behind)) (ap content is ∙ content_before n next)
    ∙ ap (filled f) (append_assoc (content (nodes_of n)) (content next) behind)
    ∙ one (content next ++ behind)

pub put_all : (was now : Filling) (all left : Nodes) → left ≡ styled.none → PutsBut was all now left → Puts was (content all) now
unfolding content
put_all was now all left none_left so_far behind = so_far behind ∙ ap (λ (ns : Nodes). filled now (content ns ++ behind)) none_left

-- whether a block-level box is among the nodes that are put, or among those that are left
abbrev pub IsCut : (cut : Bool) (left all : Nodes) → Type 0
IsCut cut left all = (cut || has_block (content left)) ≡ has_block (content all)

pub cut_more : (all left next : Nodes) (n : StyledNode) (cut one more : Bool) → left ≡ before n next → one ≡ has_block (content (nodes_of n)) → more ≡ (cut || one)
    → IsCut cut left all → IsCut more next all
cut_more all left next n cut one more is has more_is so_far =
    ap (λ (b : Bool). b || has_block (content next)) (more_is ∙ ap (λ (b : Bool). cut || b) has)
    ∙ or_assoc cut (has_block (content (nodes_of n))) (has_block (content next))
    ∙ ap (λ (b : Bool). cut || b) (sym (ap (λ (ns : Nodes). has_block (content ns)) is ∙ ap has_block (content_before n next) ∙ list_any-append is_block (content (nodes_of n)) (content next)))
    ∙ so_far

pub cut_all : (all left : Nodes) (cut : Bool) → left ≡ styled.none → IsCut cut left all → cut ≡ has_block (content all)
unfolding content
cut_all all left cut none_left so_far = sym (or-false cut) ∙ ap (λ (ns : Nodes). cut || has_block (content ns)) (sym none_left) ∙ so_far

-- ---- a node with what is inside it

module _ (n : StyledNode) (children : List StyledNode) (are : children ≡ (out-StyledNode n).children.items) where
  abbrev inner : List Part
  inner = content (all_nodes_of children)

  inner_is : inner ≡ content (all_nodes_of (out-StyledNode n).children.items)
  inner_is = ap (λ (ns : List StyledNode). content (all_nodes_of ns)) are

  -- the box of a container with all its content
  pub container_is : (start now : Filling) → start ≡ no_filling (out-StyledNode n).node (out-StyledNode n).style → Puts start inner now → filled now [] ≡ root_boxes (nodes_of n)
  container_is start now begins put =
      sym (put [])
      ∙ ap (filled start) (append-nil inner)
      ∙ ap (λ (f : Filling). filled f inner) begins
      ∙ begun (out-StyledNode n).node (out-StyledNode n).style inner
      ∙ ap (made (out-StyledNode n).node (out-StyledNode n).style) inner_is
      ∙ sym (root_is n)

  module _ (is : role_in (nodes_of n) ≡ roles.InlineBox) where
    around_is : content (nodes_of n) ≡ around (out-StyledNode n).node (out-StyledNode n).style inner
    around_is = box_content n is ∙ ap (around (out-StyledNode n).node (out-StyledNode n).style) (sym inner_is)

    pub box_put : (a b c d : Filling) (cut : Bool) → cut ≡ has_block inner → Puts a (part.starts (out-StyledNode n).node (out-StyledNode n).style ∷ []) b → Puts b inner c
        → Puts c (part.stops (out-StyledNode n).node cut ∷ []) d → Puts a (content (nodes_of n)) d
    box_put a b c d cut cut_is start put stop =
        puts_are a d (part.starts (out-StyledNode n).node (out-StyledNode n).style ∷ (inner ++ (part.stops (out-StyledNode n).node cut ∷ []))) (content (nodes_of n))
        (around_is ∙ ap (λ (x : Bool). part.starts (out-StyledNode n).node (out-StyledNode n).style ∷ (inner ++ (part.stops (out-StyledNode n).node x ∷ []))) (sym cut_is))
        (puts_both a b d (part.starts (out-StyledNode n).node (out-StyledNode n).style ∷ []) (inner ++ (part.stops (out-StyledNode n).node cut ∷ [])) start
        (puts_both b c d inner (part.stops (out-StyledNode n).node cut ∷ []) put stop))

    pub box_cut : (cut : Bool) → cut ≡ has_block inner → cut ≡ has_block (content (nodes_of n))
    box_cut cut cut_is =
        cut_is
        ∙ sym (or-false (has_block inner))
        ∙ sym (list_any-append is_block inner (part.stops (out-StyledNode n).node (has_block inner) ∷ []))
        ∙ ap has_block (sym around_is)
