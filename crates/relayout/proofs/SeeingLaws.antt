-- What it costs to see that the text of a box is there.
use Rattle.std.proofs.Common.{◌≡◌, ◌∙◌, refl, sym, subst, arith, ℕ, ◌+◌, ◌≤◌, List, Option, Some, None}
use Rattle.std.specs.Prelude.{IsSome}
use Rattle.std.proofs.lemmas.Option.{same_Some}
use Rattle.face_api.specs.Table.{Table}
use Rattle.style_types.specs.declared.style.Style.{Style}
use Rattle.box_arena.specs.Arena.{KeepsText}
use Rattle.box_arena.specs.At.{Node, Slots, node_at, text_at}
use Rattle.box_gen.specs.Tree.{Content, blocks, inline}
use Rattle.para_prepare.specs.Preparation.{Preparation}
use Rattle.relayout.specs.Counts.{Counters, HasKey, SeeingCosts, texts_in, textless}
use Rattle.relayout.specs.Intrinsic.{IsTextOf}
use Rattle.relayout.specs.Paragraph.{HasText}
use Rattle.relayout.proofs.CountLaws.{lacking_falls, lacking_less, lacking_some}
use Rattle.relayout.proofs.RowLaws.{Arena}

pub text_is : (faces : List (Option Table)) (style : Style) (content : Content) (text : Option Preparation) → IsTextOf faces style content text → HasText content text
text_is faces style blocks text is = tt
text_is faces style (inline items) None is = absurd (cc)
text_is faces style (inline items) (Some text) is = refl

module _ (slots : Slots Preparation) (key : ℕ) (was is : Counters) (own : Node) (there : node_at slots key ≡ Some own) (gone : text_at slots key ≡ None) (same : is.arranged ≡ was.arranged)
    (most : is.texts ≤ was.texts + texts_in own.content) where
  most_of : (node : Node) → node_at slots key ≡ Some node → is.texts ≤ was.texts + texts_in node.content
  most_of node at = let P : Node → Type 0 = λ n. is.texts ≤ was.texts + texts_in n.content in subst P (same_Some own node (sym there ∙ at)) most

  within : (content : Content) (keys : List ℕ) → HasKey keys content key → is.texts ≤ was.texts + texts_in content → is.texts ≤ was.texts + textless slots keys
  within blocks keys have few = omega (arith, few)
  within (inline items) keys have few = let one = lacking_some (text_at slots) keys key have gone in omega (arith, few, one)

  -- it is prepared, or there is no memory for that
  pub sees_one : SeeingCosts slots slots key was is
  sees_one = record { kept = λ k c. refl; arranged = same; texts = λ node at keys have. within node.content keys have (most_of node at) }

module _ (old new : Arena) (key : ℕ) (own : Node) (text : Preparation) (there : node_at old.slots key ≡ Some own) (gone : text_at old.slots key ≡ None) (keeps : KeepsText old new key text)
    (texts : (k : ℕ) → IsSome (text_at old.slots k) → IsSome (text_at new.slots k)) where
  pub sees_and_keeps : (was is : Counters) → is.arranged ≡ was.arranged → is.texts ≤ was.texts + texts_in own.content → SeeingCosts old.slots new.slots key was is
  sees_and_keeps was is same most = record { kept = keeps.kept; arranged = same; texts = (sees_one old.slots key was is own there gone same most).texts }

  spent : (was is : ℕ) (content : Content) (keys : List ℕ) → HasKey keys content key → is ≤ was + texts_in content → is + textless new.slots keys ≤ was + textless old.slots keys
  spent was is blocks keys have few = let fewer = lacking_less (text_at old.slots) (text_at new.slots) texts keys in omega (arith, few, fewer)
  spent was is (inline items) keys have few =
      let P : Option Preparation → Type 0 = λ o. IsSome o in
      let falls = lacking_falls (text_at old.slots) (text_at new.slots) texts keys key have gone (subst P (sym keeps.put.here) refl) in
      omega (arith, few, falls)

  pub has_seen : (was is : ℕ) → is ≤ was + texts_in own.content → (node : Node) → node_at old.slots key ≡ Some node → (keys : List ℕ) → HasKey keys node.content key → is + textless new.slots keys ≤ was + textless old.slots keys
  has_seen was is most node at keys have =
      let P : Node → Type 0 = λ n. is ≤ was + texts_in n.content in
      spent was is node.content keys have (subst P (same_Some own node (sym there ∙ at)) most)
