use Rattle.std.proofs.Common.{rules, ◌≡◌, ◌<◌, ◌∙◌, ap, sym, arith, length, get_or, ℤ, pos, Bool, List, [], ℕ, Option, w64, FitsSigned}
use Rattle.std.proofs.lemmas.Int.{to_z-of_z}
use Rattle.std.proofs.lemmas.List.{get_or_default}
use Rattle.fragment_types.specs.declared.breaking.Breaking.{Breaking}
use Rattle.fragment_types.specs.declared.breaking.Breaking.TheVariants.{No}
use Rattle.fragment_types.specs.Item.{Entry}
use Rattle.line_fill.specs.declared.item.FillItem.{FillItem}
use Rattle.para_prepare.specs.declared.item.PreparedItem.{PreparedItem}
use Rattle.para_lines.specs.Boxes.{chain_at, chain_behind}
use Rattle.para_lines.specs.Filling.{advance_of, fill_item, is_space}
use Rattle.para_lines.specs.Prepared.{source_before, source_behind}
use Rattle.para_lines.proofs.FillLaws.{chain_alone}
use Rattle.para_lines.proofs.filling.item_alone.Goals as goal

abbrev item_with : ℤ → Bool → Breaking → FillItem
item_with advance space end_ = record { advance = advance; before = pos 0; after = pos 0; space = space; end = end_ }

made : (inline : Option ℤ) (entries : List Entry) (item own : PreparedItem) (end_ own_end : Breaking) (before after : List ℕ) (advances : List ℤ) (a : ℤ) (space : Bool)
    → own ≡ item → own_end ≡ end_ → a ≡ advance_of own.what advances → space ≡ is_space own.what → chain_at entries item.source ≡ []
    → item_with a space own_end ≡ fill_item inline entries item end_ before (chain_at entries item.source) after (advance_of item.what advances)
made inline entries item own end_ own_end before after advances a space is is_end e h none =
    ap (λ x. item_with x space own_end) e
    ∙ ap (λ x. item_with (advance_of own.what advances) x own_end) h
    ∙ ap (λ (x : Breaking). item_with (advance_of own.what advances) (is_space own.what) x) is_end
    ∙ ap (λ (x : PreparedItem). fill_item inline entries x end_ before [] after (advance_of x.what advances)) is
    ∙ ap (λ (x : List ℕ). fill_item inline entries item end_ before x after (advance_of item.what advances)) (sym none)

pub returns : goal.returns
returns c = λ inline entries item end_ one read read_end.
    let items : List PreparedItem = c.args.lists.now.items.now in
    let own : PreparedItem = get_or items c.args.place c.index-lists-place.result in
    let lt : c.args.place < length items = c.requires.place in
    let many : length c.args.lists.now.breaks.now ≡ length items = c.args.lists.now.each_break in
    let is : own ≡ item = get_or_default items c.args.place c.index-lists-place.result item lt ∙ sym read in
    let is_end : get_or c.args.lists.now.breaks.now c.args.place No ≡ end_ = get_or_default c.args.lists.now.breaks.now c.args.place No end_ (omega arith) ∙ sym read_end in
    let fits : FitsSigned w64 c.advance_of.result = search rules in
    let own_source = c.requires.sources c.args.place item lt in
    let source = ap (λ (x : PreparedItem). x.source) read in
    made inline entries item own end_ (get_or c.args.lists.now.breaks.now c.args.place No) (chain_behind entries (source_before items c.args.place)) (chain_behind entries (source_behind items c.args.place)) c.args.advances.now _ _ is is_end
    (to_z-of_z w64 c.advance_of.result fits ∙ c.advance_of.ensures) c.is_space.ensures (chain_alone entries item.source one (omega arith))
