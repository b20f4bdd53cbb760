use Rattle.std.proofs.Common.{rules, ◌≡◌, ◌≤◌, ◌^◌, ◌∙◌, ap, sym, subst, length, ℤ, List, None, w64, FitsSigned}
use Rattle.std.proofs.lemmas.Int.{to_z-of_z}
use Rattle.fragment_types.specs.Item.{Entry, entries_of}
use Rattle.line_fill.specs.declared.item.FillItem.{FillItem}
use Rattle.line_fill.specs.declared.item.Intrinsic.{Intrinsic}
use Rattle.line_fill.specs.Item.{spread}
use Rattle.line_fill.specs.Sizes.{intrinsic}
use Rattle.para_prepare.specs.Preparation.{Preparation}
use Rattle.para_lines.specs.Filling.{fill_items, paragraph_sizes}
use Rattle.para_lines.specs.Prepared.{preparation_of}
use Rattle.para_lines.proofs.RoomLaws.{bounded_of, near_of, sources_of}
use Rattle.para_lines.proofs.Spreading.{fill_spread}
use Rattle.para_lines.proofs.sizes.paragraph_sizes.Goals as goal

pub invariant_of-input : goal.invariant_of-input
invariant_of-input c =
    let bounded = bounded_of c.in_ok-boxes.boxes c.args.items.now c.in_ok-boxes.ensures c.requires.count c.requires.bounds in
    record {
      few = bounded.few;
      sources = sources_of c.of.result c.args.prepared.now c.in_ok-boxes.boxes c.args.items.now c.of.ensures c.in_ok-boxes.ensures c.requires.sources;
      size = tt;
    }

pub intrinsic-requires : goal.intrinsic-requires
intrinsic-requires c =
    let bounded = bounded_of c.in_ok-boxes.boxes c.args.items.now c.in_ok-boxes.ensures c.requires.count c.requires.bounds in
    let near = near_of c.of.result c.args.prepared.now (length c.args.items.now) c.of.ensures c.requires.few c.requires.sources c.requires.lengths in
    let sources = sources_of c.of.result c.args.prepared.now c.in_ok-boxes.boxes c.args.items.now c.of.ensures c.in_ok-boxes.ensures c.requires.sources in
    let P : List FillItem → Type 0 = λ is. spread is ≤ 2 ^ 60 in
    subst P (sym (c.deref.ensures.value ∙ c.in_ok-narrow.ensures))
    (fill_spread None c.in_ok-boxes.boxes (preparation_of c.of.result) c.args.mins.now bounded.bounds bounded.few sources near.0 c.requires.mins)

pub intrinsic-requires-2 : goal.intrinsic-requires-2
intrinsic-requires-2 c =
    let bounded = bounded_of c.in_ok-boxes.boxes c.args.items.now c.in_ok-boxes.ensures c.requires.count c.requires.bounds in
    let near = near_of c.of.result c.args.prepared.now (length c.args.items.now) c.of.ensures c.requires.few c.requires.sources c.requires.lengths in
    let sources = sources_of c.of.result c.args.prepared.now c.in_ok-boxes.boxes c.args.items.now c.of.ensures c.in_ok-boxes.ensures c.requires.sources in
    let P : List FillItem → Type 0 = λ is. spread is ≤ 2 ^ 60 in
    subst P (sym (c.deref-2.ensures.value ∙ c.in_ok-wide.ensures))
    (fill_spread None c.in_ok-boxes.boxes (preparation_of c.of.result) c.args.maxs.now bounded.bounds bounded.few sources near.0 c.requires.maxs)

abbrev sizes : ℤ → ℤ → Intrinsic
sizes least greatest = record { min = least; max = greatest }

both : (entries given : List Entry) (prepared asked : Preparation) (mins maxs : List ℤ) (least greatest : ℤ) (narrow wide : List FillItem) → narrow ≡ fill_items None entries prepared mins → wide ≡ fill_items None entries prepared maxs
    → least ≡ (intrinsic narrow).min → greatest ≡ (intrinsic wide).max → entries ≡ given → prepared ≡ asked → sizes least greatest ≡ paragraph_sizes given asked mins maxs
unfolding paragraph_sizes
both entries given prepared asked mins maxs least greatest narrow wide n w a b same alike =
    ap (λ z. sizes z greatest) (a ∙ ap (λ (is : List FillItem). (intrinsic is).min) n)
    ∙ ap (sizes (intrinsic (fill_items None entries prepared mins)).min) (b ∙ ap (λ (is : List FillItem). (intrinsic is).max) w)
    ∙ ap (λ (es : List Entry). paragraph_sizes es prepared mins maxs) same
    ∙ ap (λ (p : Preparation). paragraph_sizes given p mins maxs) alike

pub returns : goal.returns
returns c =
    let fits : FitsSigned w64 c.intrinsic.result.min = search rules in
    let fits-2 : FitsSigned w64 c.intrinsic-2.result.max = search rules in
    both c.in_ok-boxes.boxes (entries_of c.args.items.now) (preparation_of c.of.result) c.args.prepared.now c.args.mins.now c.args.maxs.now _ _ _ _
    (c.deref.ensures.value ∙ c.in_ok-narrow.ensures) (c.deref-2.ensures.value ∙ c.in_ok-wide.ensures)
    (to_z-of_z w64 c.intrinsic.result.min fits ∙ ap (λ (i : Intrinsic). i.min) c.intrinsic.ensures)
    (to_z-of_z w64 c.intrinsic-2.result.max fits-2 ∙ ap (λ (i : Intrinsic). i.max) c.intrinsic-2.ensures)
    c.in_ok-boxes.ensures c.of.ensures
