-- Boxes that inherit, and boxes that turn.
use Rattle.std.specs.Prelude.{◌≡◌, ◌≢◌, Bool, true, false, not, []}
use Rattle.std.proofs.Common.{refl, arith}
use Rattle.wm_modes.specs.declared.mode.WritingMode.{WritingMode}
use Rattle.wm_modes.specs.declared.mode.WritingMode.TheVariants.{HorizontalTb, VerticalRl, VerticalLr, SidewaysRl, SidewaysLr}
use Rattle.style_types.specs.declared.style.Display.{Display}
use Rattle.style_types.specs.declared.style.Display.TheVariants.{Block, Inline, InlineBlock, FlowRoot, Hidden}
use Rattle.style_types.specs.declared.style.Style.{Style}
use Rattle.style_types.specs.Initial.{initial}
use Rattle.computed.specs.Laws.{inherited, IsTurned}
use Rattle.computed.specs.Sides.{margin_at, padding_at, size_at, border_at, inset_at, margins, paddings, borders, insets}
use Rattle.computed.specs.Step.{own_font_size, own_mode, own_display, own_direction, own_orientation, own_combine, own_bidi, own_face, own_line_height, own_align, own_shift, own_relative, sized, same_mode, turned, style_of}
use Rattle.computed.specs.Winners.{Winning, won, said}

-- a mode is the same as itself
same : (mode : WritingMode) → same_mode mode mode ≡ true
same HorizontalTb = refl
same VerticalRl = refl
same VerticalLr = refl
same SidewaysRl = refl
same SidewaysLr = refl

pub inherits : (parent : Style) → style_of parent [] ≡ inherited parent
unfolding initial won said margin_at padding_at size_at border_at inset_at margins paddings borders insets own_font_size own_mode own_display own_direction own_orientation own_combine own_bidi own_face own_line_height own_align own_shift own_relative sized
inherits parent = rw (same parent.mode) refl

-- and as no other
is_same : (one other : WritingMode) → same_mode one other ≡ true → one ≡ other
is_same one other e = grind arith

-- nothing that turned is inline or a block
turned_display : (differs : Bool) (shown : Display) → differs ≡ true → (turned differs shown ≢ Inline) × (turned differs shown ≢ Block)
turned_display true Block e = (λ x. cc, λ x. cc)
turned_display true Inline e = (λ x. cc, λ x. cc)
turned_display true InlineBlock e = (λ x. cc, λ x. cc)
turned_display true FlowRoot e = (λ x. cc, λ x. cc)
turned_display true Hidden e = (λ x. cc, λ x. cc)
turned_display false shown e = cc

-- two that aren't one aren't the same
differ : (one other : WritingMode) → one ≢ other → not (same_mode one other) ≡ true
differ one other ne = grind (arith, is_same)

pub turns : (parent : Style) (winners : Winning) → IsTurned parent (style_of parent winners)
unfolding sized own_mode own_display
turns parent winners = record {
  not_inline = λ ne. (turned_display _ _ (differ _ _ ne)).0;
  not_block = λ ne. (turned_display _ _ (differ _ _ ne)).1;
}
