-- Positions that an independent implementation gives, by computation.
use Rattle.std.specs.Prelude.{◌≡◌, refl, ℕ, true, [], ◌∷◌, pos, negsuc, Option, Some, None}
use Rattle.style_types.specs.Initial.{initial}
use Rattle.style_types.specs.Tree.{NodeKind, element, line_break, text, node, none}
use Rattle.style_types.specs.declared.style.Display.{Display}
use Rattle.style_types.specs.declared.style.Display.TheVariants.{Block, Inline, InlineBlock, FlowRoot, Hidden}
use Rattle.style_types.specs.declared.style.Insets.{Insets}
use Rattle.style_types.specs.declared.style.Size.{Size}
use Rattle.style_types.specs.declared.style.Size.TheVariants.{Auto, Length, Percent}
use Rattle.style_types.specs.declared.style.Style.{Style}
use Rattle.rel_shift.specs.Positions.{positions_in, positions_of}
use Rattle.style_types.specs.declared.position.Position.{Position}

abbrev insets : (top right bottom left : Size) → Insets
insets top right bottom left = record { top = top; right = right; bottom = bottom; left = left }

abbrev at : (number : ℕ) → (parent holder : Option ℕ) → Option Insets → Position
at number parent holder own = record { node = number; parent = parent; holder = holder; insets = own }

-- a relatively positioned element has insets here, and no other
abbrev styled_by : Display → Option Insets → Style
styled_by display None = record initial { display = display }
styled_by display (Some own) = record initial { display = display; relative = true; insets = own }

abbrev words : NodeKind
words = text []

-- insets of a span, an inline-block, `body` and the root; those of a `br` count for nothing
positions-1 : positions_of (node 0 element (styled_by FlowRoot (Some (insets (Length (negsuc 511)) Auto (Length (pos 2560)) Auto))) (node 1 element (styled_by Block (Some (insets Auto (Length (negsuc 511)) (Length (pos 2560)) Auto))) (node 2 words (styled_by Block (Some (insets Auto (Length (negsuc 511)) (Length (pos 2560)) Auto))) none (node 3 element (styled_by InlineBlock (Some (insets (Length (negsuc 511)) Auto (Length (pos 2560)) Auto))) (node 4 words (styled_by InlineBlock (Some (insets (Length (negsuc 511)) Auto (Length (pos 2560)) Auto))) none (node 5 line_break (styled_by Inline (Some (insets (Length (negsuc 511)) Auto (Length (pos 2560)) Auto))) none (node 6 words (styled_by InlineBlock (Some (insets (Length (negsuc 511)) Auto (Length (pos 2560)) Auto))) none (node 7 element (styled_by Inline (Some (insets (Length (negsuc 511)) Auto (Length (pos 2560)) Auto))) (node 8 words (styled_by Inline (Some (insets (Length (negsuc 511)) Auto (Length (pos 2560)) Auto))) none none) none)))) (node 9 words (styled_by Block (Some (insets Auto (Length (negsuc 511)) (Length (pos 2560)) Auto))) none none))) none) none) ≡ at 0 None None (Some (insets (Length (negsuc 511)) Auto (Length (pos 2560)) Auto)) ∷ at 1 (Some 0) (Some 0) (Some (insets Auto (Length (negsuc 511)) (Length (pos 2560)) Auto)) ∷ at 2 (Some 1) (Some 1) None ∷ at 3 (Some 1) (Some 1) (Some (insets (Length (negsuc 511)) Auto (Length (pos 2560)) Auto)) ∷ at 4 (Some 3) (Some 3) None ∷ at 5 (Some 3) (Some 3) None ∷ at 6 (Some 3) (Some 3) None ∷ at 7 (Some 3) (Some 3) (Some (insets (Length (negsuc 511)) Auto (Length (pos 2560)) Auto)) ∷ at 8 (Some 7) (Some 3) None ∷ at 9 (Some 1) (Some 1) None ∷ []
unfolding positions_in initial
positions-1 = refl

-- a block in a span, whose holder is the block round the span; an inline-block holds what is in it
positions-2 : positions_of (node 0 element (styled_by FlowRoot (Some (insets (Length (pos 64)) (Length (pos 512)) (Length (pos 128)) Auto))) (node 1 element (styled_by Block None) (node 2 words (styled_by Block None) none (node 3 element (styled_by Inline (Some (insets Auto Auto (Percent (pos 1000)) Auto))) (node 4 element (styled_by InlineBlock None) (node 5 words (styled_by InlineBlock None) none none) (node 6 element (styled_by Block None) (node 7 words (styled_by Block None) none none) (node 8 words (styled_by Inline (Some (insets Auto Auto (Percent (pos 1000)) Auto))) none none))) (node 9 words (styled_by Block None) none none))) none) none) ≡ at 0 None None (Some (insets (Length (pos 64)) (Length (pos 512)) (Length (pos 128)) Auto)) ∷ at 1 (Some 0) (Some 0) None ∷ at 2 (Some 1) (Some 1) None ∷ at 3 (Some 1) (Some 1) (Some (insets Auto Auto (Percent (pos 1000)) Auto)) ∷ at 4 (Some 3) (Some 1) None ∷ at 5 (Some 4) (Some 4) None ∷ at 6 (Some 3) (Some 1) None ∷ at 7 (Some 6) (Some 6) None ∷ at 8 (Some 3) (Some 1) None ∷ at 9 (Some 1) (Some 1) None ∷ []
unfolding positions_in initial
positions-2 = refl

-- a hidden element isn't listed, nor is what stands in it
positions-3 : positions_of (node 0 element (styled_by FlowRoot (Some (insets Auto Auto (Length (pos 2560)) Auto))) (node 1 element (styled_by Hidden (Some (insets (Length (pos 2560)) Auto Auto Auto))) (node 2 words (styled_by Hidden (Some (insets (Length (pos 2560)) Auto Auto Auto))) none (node 3 element (styled_by Hidden (Some (insets Auto Auto (Length (pos 2560)) Auto))) none (node 4 words (styled_by Hidden (Some (insets (Length (pos 2560)) Auto Auto Auto))) none (node 5 element (styled_by Hidden (Some (insets (Length (pos 2560)) Auto Auto Auto))) (node 6 words (styled_by Hidden (Some (insets (Length (pos 2560)) Auto Auto Auto))) none none) none)))) none) none) ≡ at 0 None None (Some (insets Auto Auto (Length (pos 2560)) Auto)) ∷ []
unfolding positions_in initial
positions-3 = refl

-- a hidden `br`
positions-4 : positions_of (node 0 element (styled_by FlowRoot (Some (insets Auto Auto (Length (pos 1024)) (Length (pos 641))))) (node 1 element (styled_by Hidden None) (node 2 words (styled_by Hidden None) none (node 3 line_break (styled_by Hidden None) none (node 4 words (styled_by Hidden None) none (node 5 line_break (styled_by Hidden None) none (node 6 words (styled_by Hidden None) none none))))) none) none) ≡ at 0 None None (Some (insets Auto Auto (Length (pos 1024)) (Length (pos 641)))) ∷ []
unfolding positions_in initial
positions-4 = refl

positions-5 : positions_of (node 0 element (styled_by FlowRoot (Some (insets (Percent (pos 5000)) Auto (Length (negsuc 640)) Auto))) (node 1 element (styled_by Block (Some (insets (Percent (pos 5000)) Auto (Length (negsuc 640)) Auto))) (node 2 words (styled_by Block (Some (insets (Percent (pos 5000)) Auto (Length (negsuc 640)) Auto))) none (node 3 line_break (styled_by Inline (Some (insets (Percent (pos 5000)) Auto (Length (negsuc 640)) Auto))) none (node 4 words (styled_by Block (Some (insets (Percent (pos 5000)) Auto (Length (negsuc 640)) Auto))) none (node 5 element (styled_by Inline (Some (insets (Percent (pos 5000)) Auto (Length (negsuc 640)) Auto))) (node 6 words (styled_by Inline (Some (insets (Percent (pos 5000)) Auto (Length (negsuc 640)) Auto))) none none) (node 7 words (styled_by Block (Some (insets (Percent (pos 5000)) Auto (Length (negsuc 640)) Auto))) none none))))) none) none) ≡ at 0 None None (Some (insets (Percent (pos 5000)) Auto (Length (negsuc 640)) Auto)) ∷ at 1 (Some 0) (Some 0) (Some (insets (Percent (pos 5000)) Auto (Length (negsuc 640)) Auto)) ∷ at 2 (Some 1) (Some 1) None ∷ at 3 (Some 1) (Some 1) None ∷ at 4 (Some 1) (Some 1) None ∷ at 5 (Some 1) (Some 1) (Some (insets (Percent (pos 5000)) Auto (Length (negsuc 640)) Auto)) ∷ at 6 (Some 5) (Some 1) None ∷ at 7 (Some 1) (Some 1) None ∷ []
unfolding positions_in initial
positions-5 = refl

positions-6 : positions_of (node 0 element (styled_by FlowRoot None) (node 1 element (styled_by Block None) (node 2 words (styled_by Block None) none (node 3 element (styled_by Inline (Some (insets (Length (pos 64)) (Length (pos 64)) (Length (pos 64)) (Length (pos 64))))) (node 4 element (styled_by InlineBlock (Some (insets Auto (Length (pos 1280)) Auto Auto))) (node 5 words (styled_by InlineBlock (Some (insets Auto (Length (pos 1280)) Auto Auto))) none none) (node 6 words (styled_by Inline (Some (insets (Length (pos 64)) (Length (pos 64)) (Length (pos 64)) (Length (pos 64))))) none (node 7 element (styled_by Block None) (node 8 words (styled_by Block None) none none) (node 9 words (styled_by Inline (Some (insets (Length (pos 64)) (Length (pos 64)) (Length (pos 64)) (Length (pos 64))))) none none)))) (node 10 words (styled_by Block None) none none))) none) none) ≡ at 0 None None None ∷ at 1 (Some 0) (Some 0) None ∷ at 2 (Some 1) (Some 1) None ∷ at 3 (Some 1) (Some 1) (Some (insets (Length (pos 64)) (Length (pos 64)) (Length (pos 64)) (Length (pos 64)))) ∷ at 4 (Some 3) (Some 1) (Some (insets Auto (Length (pos 1280)) Auto Auto)) ∷ at 5 (Some 4) (Some 4) None ∷ at 6 (Some 3) (Some 1) None ∷ at 7 (Some 3) (Some 1) None ∷ at 8 (Some 7) (Some 7) None ∷ at 9 (Some 3) (Some 1) None ∷ at 10 (Some 1) (Some 1) None ∷ []
unfolding positions_in initial
positions-6 = refl

positions-7 : positions_of (node 0 element (styled_by FlowRoot (Some (insets Auto (Length (negsuc 319)) Auto Auto))) (node 1 element (styled_by Block None) (node 2 words (styled_by Block None) none (node 3 element (styled_by Hidden (Some (insets Auto (Percent (pos 500)) (Length (negsuc 63)) (Percent (pos 500))))) (node 4 words (styled_by Hidden (Some (insets Auto (Percent (pos 500)) (Length (negsuc 63)) (Percent (pos 500))))) none none) (node 5 words (styled_by Block None) none none))) none) none) ≡ at 0 None None (Some (insets Auto (Length (negsuc 319)) Auto Auto)) ∷ at 1 (Some 0) (Some 0) None ∷ at 2 (Some 1) (Some 1) None ∷ at 5 (Some 1) (Some 1) None ∷ []
unfolding positions_in initial
positions-7 = refl

positions-8 : positions_of (node 0 element (styled_by FlowRoot (Some (insets (Length (pos 64)) (Length (pos 64)) (Length (pos 64)) (Length (pos 64))))) (node 1 element (styled_by Block (Some (insets Auto (Length (pos 2560)) (Percent (pos 3333)) (Length (pos 0))))) (node 2 words (styled_by Block (Some (insets Auto (Length (pos 2560)) (Percent (pos 3333)) (Length (pos 0))))) none (node 3 element (styled_by Inline (Some (insets Auto (Length (pos 2560)) (Percent (pos 3333)) (Length (pos 0))))) (node 4 words (styled_by Inline (Some (insets Auto (Length (pos 2560)) (Percent (pos 3333)) (Length (pos 0))))) none none) (node 5 words (styled_by Block (Some (insets Auto (Length (pos 2560)) (Percent (pos 3333)) (Length (pos 0))))) none (node 6 line_break (styled_by Inline (Some (insets Auto (Length (pos 2560)) (Percent (pos 3333)) (Length (pos 0))))) none (node 7 words (styled_by Block (Some (insets Auto (Length (pos 2560)) (Percent (pos 3333)) (Length (pos 0))))) none none))))) none) none) ≡ at 0 None None (Some (insets (Length (pos 64)) (Length (pos 64)) (Length (pos 64)) (Length (pos 64)))) ∷ at 1 (Some 0) (Some 0) (Some (insets Auto (Length (pos 2560)) (Percent (pos 3333)) (Length (pos 0)))) ∷ at 2 (Some 1) (Some 1) None ∷ at 3 (Some 1) (Some 1) (Some (insets Auto (Length (pos 2560)) (Percent (pos 3333)) (Length (pos 0)))) ∷ at 4 (Some 3) (Some 1) None ∷ at 5 (Some 1) (Some 1) None ∷ at 6 (Some 1) (Some 1) None ∷ at 7 (Some 1) (Some 1) None ∷ []
unfolding positions_in initial
positions-8 = refl

positions-9 : positions_of (node 0 element (styled_by FlowRoot (Some (insets (Length (pos 2560)) Auto Auto Auto))) (node 1 element (styled_by Block (Some (insets (Length (pos 2560)) Auto Auto Auto))) (node 2 words (styled_by Block (Some (insets (Length (pos 2560)) Auto Auto Auto))) none (node 3 element (styled_by InlineBlock (Some (insets (Length (pos 2560)) Auto Auto Auto))) (node 4 words (styled_by InlineBlock (Some (insets (Length (pos 2560)) Auto Auto Auto))) none (node 5 line_break (styled_by Inline (Some (insets Auto Auto (Length (negsuc 191)) (Length (pos 2560))))) none (node 6 words (styled_by InlineBlock (Some (insets (Length (pos 2560)) Auto Auto Auto))) none none))) (node 7 words (styled_by Block (Some (insets (Length (pos 2560)) Auto Auto Auto))) none none))) none) none) ≡ at 0 None None (Some (insets (Length (pos 2560)) Auto Auto Auto)) ∷ at 1 (Some 0) (Some 0) (Some (insets (Length (pos 2560)) Auto Auto Auto)) ∷ at 2 (Some 1) (Some 1) None ∷ at 3 (Some 1) (Some 1) (Some (insets (Length (pos 2560)) Auto Auto Auto)) ∷ at 4 (Some 3) (Some 3) None ∷ at 5 (Some 3) (Some 3) None ∷ at 6 (Some 3) (Some 3) None ∷ at 7 (Some 1) (Some 1) None ∷ []
unfolding positions_in initial
positions-9 = refl

positions-10 : positions_of (node 0 element (styled_by FlowRoot (Some (insets (Length (pos 64)) (Length (pos 320)) (Length (pos 128)) Auto))) (node 1 element (styled_by Block (Some (insets (Length (pos 64)) Auto (Length (pos 128)) (Length (pos 320))))) (node 2 words (styled_by Block (Some (insets (Length (pos 64)) Auto (Length (pos 128)) (Length (pos 320))))) none (node 3 line_break (styled_by Inline (Some (insets (Length (pos 64)) Auto (Length (pos 128)) (Length (pos 320))))) none (node 4 words (styled_by Block (Some (insets (Length (pos 64)) Auto (Length (pos 128)) (Length (pos 320))))) none (node 5 element (styled_by Block (Some (insets (Length (pos 64)) Auto (Length (pos 128)) (Length (pos 320))))) none (node 6 words (styled_by Block (Some (insets (Length (pos 64)) Auto (Length (pos 128)) (Length (pos 320))))) none (node 7 element (styled_by Inline (Some (insets (Length (pos 64)) Auto (Length (pos 128)) (Length (pos 320))))) (node 8 words (styled_by Inline (Some (insets (Length (pos 64)) Auto (Length (pos 128)) (Length (pos 320))))) none none) none)))))) none) none) ≡ at 0 None None (Some (insets (Length (pos 64)) (Length (pos 320)) (Length (pos 128)) Auto)) ∷ at 1 (Some 0) (Some 0) (Some (insets (Length (pos 64)) Auto (Length (pos 128)) (Length (pos 320)))) ∷ at 2 (Some 1) (Some 1) None ∷ at 3 (Some 1) (Some 1) None ∷ at 4 (Some 1) (Some 1) None ∷ at 5 (Some 1) (Some 1) (Some (insets (Length (pos 64)) Auto (Length (pos 128)) (Length (pos 320)))) ∷ at 6 (Some 1) (Some 1) None ∷ at 7 (Some 1) (Some 1) (Some (insets (Length (pos 64)) Auto (Length (pos 128)) (Length (pos 320)))) ∷ at 8 (Some 7) (Some 1) None ∷ []
unfolding positions_in initial
positions-10 = refl
