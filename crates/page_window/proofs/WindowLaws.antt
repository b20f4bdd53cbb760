-- What was cut to a rectangle stays as it is when it is cut again.
use Rattle.std.proofs.Common.{◌≡◌, refl, sym, ap, ◌∙◌, Bool, true, false, ◌||◌, not, if◌then◌else◌, Some}
use Rattle.std.proofs.lemmas.Option.{same_Some}
use Rattle.wm_modes.specs.declared.rects.Rect.{Rect}
use Rattle.wm_units.specs.declared.view.View.{View}
use Rattle.place_map.specs.Placed.{Page, Part, Parts, none, part, before}
use Rattle.page_window.specs.Laws.{WindowsStay}
use Rattle.page_window.specs.Rects.{meets}
use Rattle.page_window.specs.Windowing.{is_none, kept, window, window_parts, with_view}

module _ (rect : Rect) where
  again_by : (p : Part) (next : Parts) (b : Bool) → (meets rect p.rect || not (is_none p.inner)) ≡ b → window_parts rect p.inner ≡ p.inner → window_parts rect next ≡ next
      → window_parts rect (if b then before p next else next) ≡ (if b then before p next else next)
  again_by p next true is inner others =
      ap (λ (i : Parts). kept (meets rect p.rect) (record { name = p.name; rect = p.rect; kind = p.kind; inner = i }) (window_parts rect next)) inner
      ∙ ap (λ (n : Parts). kept (meets rect p.rect) p n) others
      ∙ ap (λ (b : Bool). if b then before p next else next) is
  again_by p next false is inner others = others

  parts_stay : (parts : Parts) → window_parts rect (window_parts rect parts) ≡ window_parts rect parts
  parts_stay none = refl
  parts_stay (part name own kind inner next) =
      let within = window_parts rect inner in
      again_by (record { name = name; rect = own; kind = kind; inner = within }) (window_parts rect next) (meets rect own || not (is_none within)) refl (parts_stay inner) (parts_stay next)

  page_by : (view : View) (parts : Parts) (cut : Page) → window_parts rect parts ≡ parts → with_view view parts ≡ Some cut → window rect cut ≡ Some cut
  page_by view none cut stay is = absurd cc
  page_by view (part name own kind inner next) cut stay is =
      ap (window rect) (sym (same_Some (record { view = view; parts = part name own kind inner next }) cut is)) ∙ ap (with_view view) stay ∙ is

pub windows_stay : WindowsStay
windows_stay rect page cut is = page_by rect page.view (window_parts rect page.parts) cut (parts_stay rect page.parts) is
