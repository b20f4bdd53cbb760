-- A box by its inline size.
use Rattle.std.proofs.Common.{◌≡◌, ◌∙◌, refl, sym, ap, subst, arith, ◌≤◌, ◌+◌, Bool, true, false, ◌&&◌, List, [], ◌∷◌, ◌++◌, map, take, Option, Some, None, ℤ, ℕ, suc, get_or, ◌<◌, length}
use Rattle.std.specs.Prelude.{is_none}
use Rattle.std.proofs.lemmas.List.{map-append}
use Rattle.face_api.specs.Table.{Table}
use Rattle.wm_modes.specs.declared.mode.WritingMode.{WritingMode}
use Rattle.fragment_types.specs.declared.constraint.Constraint.{Constraint}
use Rattle.style_types.specs.declared.style.Style.{Style}
use Rattle.fragment_types.specs.Fragment.{Pieces}
use Rattle.block_flow.specs.declared.boxes.ParentEdges.{ParentEdges}
use Rattle.block_flow.specs.Adjoining.{edges}
use Rattle.box_arena.specs.At.{Node}
use Rattle.box_gen.specs.Tree.{Content}
use Rattle.line_fill.specs.declared.item.Intrinsic.{Intrinsic}
use Rattle.line_place.specs.Spread.{spread}
use Rattle.relayout.specs.declared.content.Filling as code
use Rattle.relayout.specs.declared.flowed.LaidBox.{LaidBox}
use Rattle.relayout.specs.declared.inline.PageView.{PageView}
use Rattle.relayout.specs.declared.sizes.Containing.{Containing}
use Rattle.relayout.specs.declared.sizing.InlineSize.{InlineSize}
use Rattle.relayout.specs.declared.sizing.InlineSize.TheVariants.{MinMax, Used}
use Rattle.relayout.specs.declared.sizing.Sizing.{Sizing}
use Rattle.relayout.specs.Boxed.{block_box, boxed, handed_on, measured}
use Rattle.relayout.specs.Content.{Filled, IsFilled, filled}
use Rattle.relayout.specs.Flow.{answered, asked, asked_by, flow_step, laid_out, laid_under}
use Rattle.relayout.specs.Flowed.{AreLaid, Laid, Member, Part, part_of}
use Rattle.relayout.specs.Inline.{Outside, inline_size, known_or_shrunk, shrunk}
use Rattle.relayout.specs.Intrinsic.{contributed, contribution, inner, inner_by}
use Rattle.relayout.specs.Sizes.{containing_of, hold_both, is_parallel, sizes_along}
use Rattle.relayout.specs.Step.{AreLaidUnder, AreUnder, box_by, definite_size, definite_under, inline_size_by, inline_size_of, size_by_content, sizing_of, under, used_size}
use Rattle.relayout.proofs.AtomLaws.{take_next}

-- the definition by the inline size
pub step_is : (outside : Outside) (containing : Containing) (node : Node) (ms : List Member) (c : Constraint)
    → flow_step outside containing node ms c ≡ box_by outside containing node c (inline_size_of outside containing node c ms) ms
unfolding flow_step laid_out box_by inline_size_of
step_is outside containing node ms c = by (is_parallel containing node.style && is_none c.inline) where
  by : (measures : Bool) → answered measures outside containing node c ms ≡ box_by outside containing node c (inline_size_by measures outside containing node c ms) ms
  by true = refl
  by false = refl

-- an inline size that is definite
pub size_definite : (outside : Outside) (containing : Containing) (node : Node) (c : Constraint) (ms : List Member) (sizing : Sizing) (size : ℤ) → sizing ≡ sizing_of containing node c → sizing.definite ≡ Some size
    → definite_size sizing.measures size ≡ inline_size_of outside containing node c ms
unfolding sizing_of inline_size_of asked inline_size
size_definite outside containing node c ms sizing size is known =
    ap (λ (m : Bool). definite_size m size) (ap (λ (s : Sizing). s.measures) is) ∙ by (is_parallel containing node.style && is_none c.inline) (sym (ap (λ (s : Sizing). s.definite) is) ∙ known) where
      by : (measures : Bool) → definite_under measures containing node.style c ≡ Some size → definite_size measures size ≡ inline_size_by measures outside containing node c ms
      by true is = ap (λ (k : Option ℤ). MinMax (asked_by k (sizes_along containing.mode node.style None) outside node (handed_on containing node c) ms)) (sym is)
      by false is = ap (λ (k : Option ℤ). Used (known_or_shrunk k outside containing node.style node.content c (handed_on containing node c) ms)) (sym is)

-- one by the content
pub size_held : (outside : Outside) (containing : Containing) (node : Node) (c : Constraint) (ms : List Member) (sizing : Sizing) (view : PageView) (content : Intrinsic) → sizing ≡ sizing_of containing node c → sizing.definite ≡ None
    → outside.view ≡ view → content ≡ inner outside.faces node.style node.content sizing.handed ms → size_by_content view sizing.measures containing node.style c content ≡ inline_size_of outside containing node c ms
unfolding sizing_of inline_size_of asked inline_size
size_held outside containing node c ms sizing view content is known seen inside =
    ap (λ (m : Bool). size_by_content view m containing node.style c content) (ap (λ (s : Sizing). s.measures) is)
    ∙ by (is_parallel containing node.style && is_none c.inline) (sym (ap (λ (s : Sizing). s.definite) is) ∙ known) where
      whole : content ≡ inner outside.faces node.style node.content (handed_on containing node c) ms
      whole = inside ∙ ap (λ (s : Sizing). inner outside.faces node.style node.content s.handed ms) is

      by : (measures : Bool) → definite_under measures containing node.style c ≡ None → size_by_content view measures containing node.style c content ≡ inline_size_by measures outside containing node c ms
      by true is =
          ap (λ (i : Intrinsic). MinMax (hold_both (sizes_along containing.mode node.style None) i)) whole
          ∙ ap (λ (k : Option ℤ). MinMax (asked_by k (sizes_along containing.mode node.style None) outside node (handed_on containing node c) ms)) (sym is)
      by false is =
          ap (λ (i : Intrinsic). Used (shrunk view containing node.style c i)) whole
          ∙ ap (λ (v : PageView). Used (shrunk v containing node.style c (inner outside.faces node.style node.content (handed_on containing node c) ms))) (sym seen)
          ∙ ap (λ (k : Option ℤ). Used (known_or_shrunk k outside containing node.style node.content c (handed_on containing node c) ms)) (sym is)

-- ---- the contributions of children

-- the contribution of a child that has been laid out
abbrev pub contribution_of : WritingMode → LaidBox → Intrinsic
contribution_of mode own = contributed mode own.style (part_of own.fragment).kind

pub contributions_are : (mode : WritingMode) (handed : Option ℤ) (boxes : List LaidBox) (ms : List Member) → AreUnder (under None handed) boxes ms → map (contribution_of mode) boxes ≡ map (contribution mode handed) ms
unfolding contribution
contributions_are mode handed [] [] are = refl
contributions_are mode handed [] (m ∷ ms) are = absurd are
contributions_are mode handed (b ∷ boxes) [] are = absurd are
contributions_are mode handed (b ∷ boxes) (m ∷ ms) are =
    let one : contribution_of mode b ≡ contribution mode handed m =
    ap (λ (s : Style). contributed mode s (part_of b.fragment).kind) are.0.style ∙ ap (λ (p : Part). contributed mode m.style p.kind) are.0.part in
    ap (λ (a : Intrinsic). a ∷ map (contribution_of mode) boxes) one ∙ ap (λ (others : List Intrinsic). contribution mode handed m ∷ others) (contributions_are mode handed boxes ms are.1)

pub content_is : (faces : List (Option Table)) (style : Style) (content : Content) (handed : Option ℤ) (ms : List Member) (sizes : Intrinsic) (contributions : List Intrinsic)
    → sizes ≡ inner_by faces style content contributions → contributions ≡ map (contribution style.mode handed) ms → sizes ≡ inner faces style content handed ms
unfolding inner
content_is faces style content handed ms sizes contributions is are = is ∙ ap (inner_by faces style content) are

-- ---- a sizing from its parts

abbrev sizing_with : Containing → Option ℤ → Bool → Option ℤ → Sizing
sizing_with own handed measures definite = record { own = own; handed = handed; measures = measures; definite = definite }

pub sizing_made : (containing : Containing) (node : Node) (c : Constraint) (own : Containing) (handed : Option ℤ) (measures : Bool) (definite : Option ℤ) → own ≡ containing_of node.style → handed ≡ handed_on containing node c
    → measures ≡ (is_parallel containing node.style && is_none c.inline) → definite ≡ definite_under measures containing node.style c → sizing_with own handed measures definite ≡ sizing_of containing node c
unfolding sizing_of
sizing_made containing node c own handed measures definite p q r s =
    ap (λ (x : Containing). sizing_with x handed measures definite) p
    ∙ ap (λ (x : Option ℤ). sizing_with (containing_of node.style) x measures definite) q
    ∙ ap (λ (x : Option ℤ). sizing_with (containing_of node.style) (handed_on containing node c) measures x) s
    ∙ ap (λ (m : Bool). sizing_with (containing_of node.style) (handed_on containing node c) m (definite_under m containing node.style c)) r

-- ---- the contributions of children, one by one

pub one_more_contribution : (mode : WritingMode) (made : List Intrinsic) (a : Intrinsic) (boxes : List LaidBox) (k : ℕ) (b : LaidBox) → k < length boxes → b ≡ get_or boxes k b
    → made ≡ map (contribution_of mode) (take k boxes) → a ≡ contribution_of mode b → made ++ a ∷ [] ≡ map (contribution_of mode) (take (k + 1) boxes)
one_more_contribution mode made a boxes k b lt is made_are one =
    let more : take (k + 1) boxes ≡ take k boxes ++ b ∷ [] = ap (λ n. take n boxes) (add_one k) ∙ take_next boxes k b lt ∙ ap (λ x. take k boxes ++ x ∷ []) (sym is) in
    rw (made_are, one) refl ∙ sym (ap (map (contribution_of mode)) more ∙ map-append (contribution_of mode) (take k boxes) (b ∷ [])) where
      add_one : (n : ℕ) → n + 1 ≡ suc n
      add_one n = omega arith

-- ---- a box whose children are laid out

pub used_box_is : (outside : Outside) (faces : List (Option Table)) (containing : Containing) (node : Node) (c : Constraint) (size s z : ℤ) (children : List LaidBox) (ms : List Member) (content : code.Filling) (part : Part)
    → outside.faces ≡ faces → s ≡ size → z ≡ size
    → ((list : List Laid) → AreLaid children list → IsFilled content (filled faces node.name node.style (edges (block_box containing node.style c false)) s node.content list))
    → ((made : Filled) → IsFilled content made → part ≡ (boxed containing node c z made).part)
    → AreLaidUnder containing node c size children ms → part ≡ (box_by outside containing node c (used_size size) ms).part
unfolding box_by
used_box_is outside faces containing node c size s z children ms content part same along across fills boxes laid =
    let joins : ParentEdges = edges (block_box containing node.style c false) in
    let list : List Laid = map (laid_under (under (Some size) (handed_on containing node c))) ms in
    boxes (filled faces node.name node.style joins s node.content list) (fills list laid)
    ∙ ap (λ (x : ℤ). (boxed containing node c x (filled faces node.name node.style joins s node.content list)).part) across
    ∙ ap (λ (x : ℤ). (boxed containing node c size (filled faces node.name node.style joins x node.content list)).part) along
    ∙ ap (λ (x : List (Option Table)). (boxed containing node c size (filled x node.name node.style joins size node.content list)).part) (sym same)

-- ---- a box that is measured alone

pub box_measured : (outside : Outside) (containing : Containing) (node : Node) (c : Constraint) (size : InlineSize) (content : Intrinsic) (ms : List Member) → size ≡ MinMax content
    → (measured containing node content).part ≡ (box_by outside containing node c size ms).part
unfolding box_by
box_measured outside containing node c size content ms is = ap (λ (e : InlineSize). (box_by outside containing node c e ms).part) (sym is)

pub measured_reach : (containing : Containing) (node : Node) (content : Intrinsic) (part : Part) (n : ℕ) → part ≡ (measured containing node content).part → spread part.inner ≤ n
unfolding measured
measured_reach containing node content part n is =
    let P : Pieces → Type 0 = λ ps. spread ps ≤ n in
    subst P (sym (ap (λ (p : Part). p.inner) is)) (omega arith)
