-- The line of a fragment, kind by kind.
use Rattle.std.proofs.Common.{◌≡◌, refl, Bool, ℕ, ℤ, List, [], ◌++◌}
use Rattle.std.specs.Prelude.{codes}
use Rattle.std.specs.declared.option.Option.{Option}
use Rattle.margin_collapse.specs.declared.margins.Margins.{Margins}
use Rattle.wm_modes.specs.declared.mode.Direction.{Direction}
use Rattle.wm_modes.specs.declared.mode.WritingMode.{WritingMode}
use Rattle.wm_modes.specs.declared.rects.FlowRect.{FlowRect}
use Rattle.wm_modes.specs.declared.rects.Rect.{Rect}
use Rattle.fragment_types.specs.declared.fragment.FragmentKind.{FragmentKind}
use Rattle.fragment_types.specs.RunUnit.{RunUnit}
use Rattle.fragment_types.specs.declared.item.BoxName.{BoxName}
use Rattle.style_types.specs.declared.style.Baseline.{Baseline}
use Rattle.fragment_types.specs.declared.unit_kind.UnitKind.{UnitKind}
use Rattle.fragment_types.specs.Fragment.{block, line, span, run, measure, kind_of}
use Rattle.place_map.specs.Parts.{Part}
use Rattle.listing.specs.Lines.{box_line, line_at, line_line, line_of, run_line, run_place, span_line}
use Rattle.listing.specs.Runs.{combined_width, space, standing_word, units}
use Rattle.listing.specs.Words.{count}
use Rattle.listing.specs.declared.text_standing.TextStanding.{TextStanding}

module _ (standing : TextStanding) (name : BoxName) (rect : Rect) (kind : FragmentKind) where
  -- the line of a fragment of this name, rectangle and kind
  pub same_line : (p : Part) → name ≡ p.name → rect ≡ p.rect → kind_of kind ≡ p.kind → line_of standing name rect (kind_of kind) ≡ line_at standing p
  same_line p named at of = λ i. line_of standing (named i) (at i) (of i)

  pub box_text : (own : WritingMode) (dir : Direction) (content : FlowRect) (definite : Option ℤ) (start end_ : Margins) (through : Bool)
      → kind_of kind ≡ block own dir content definite start end_ through → box_line name rect ≡ line_of standing name rect (kind_of kind)
  unfolding line_of
  box_text own dir content definite start end_ through is = rw is refl

  pub line_text : (index : ℕ) (base : ℤ) (own : WritingMode) (baseline : Baseline) (text : List ℕ)
      → kind_of kind ≡ line index base own baseline → text ≡ line_line name rect index base → text ≡ line_of standing name rect (kind_of kind)
  unfolding line_of
  line_text index base own baseline text is told = rw is told

  pub span_text : kind_of kind ≡ span → span_line name rect ≡ line_of standing name rect (kind_of kind)
  unfolding line_of
  span_text is = rw is refl

  pub no_text : (min max : ℤ) → kind_of kind ≡ measure min max → [] ≡ line_of standing name rect (kind_of kind)
  unfolding line_of
  no_text min max is = rw is refl

  -- a run, by its place, with how it stands, with its level
  pub run_text : (form : UnitKind) (level : ℕ) (natural : Option ℤ) (us : List RunUnit) (width : ℤ) (place formed start : List ℕ) → kind_of kind ≡ run form level natural us
      → place ≡ run_place name.node rect us → width ≡ combined_width natural us → formed ≡ place ++ (codes " " ++ standing_word standing form width) → start ≡ formed ++ count level
      → start ++ units space us ++ codes "\n" ≡ line_of standing name rect (kind_of kind)
  unfolding line_of run_line
  run_text form level natural us width place formed start is p w f s = rw (is, s, f, p, w) refl
