use Rattle.std.proofs.Common.{rules, ◌≡◌, ◌<◌, ◌∙◌, ap, sym, arith, length, get_or, ℤ, Bool, List, ℕ, Option, w64, FitsSigned}
use Rattle.std.proofs.lemmas.Int.{to_z-of_z}
use Rattle.std.proofs.lemmas.List.{get_or_default}
use Rattle.fragment_types.specs.declared.breaking.Breaking.{Breaking}
use Rattle.fragment_types.specs.declared.breaking.Breaking.TheVariants.{No}
use Rattle.fragment_types.specs.Item.{Entry}
use Rattle.line_fill.specs.declared.item.FillItem.{FillItem}
use Rattle.para_prepare.specs.declared.item.PreparedItem.{PreparedItem}
use Rattle.para_lines.specs.Boxes.{apart, chain_at, chain_behind}
use Rattle.para_lines.specs.Filling.{advance_of, closing_edges, fill_item, is_space, opening_edges}
use Rattle.para_lines.specs.Around.{fresh}
use Rattle.para_lines.specs.Prepared.{edges_of, source_before, source_behind}
use Rattle.para_lines.specs.declared.filling.BoxSide.TheVariants.{Start, End}
use Rattle.para_lines.proofs.FillLaws.{closing_apart, opening_apart}
use Rattle.para_lines.proofs.filling.FillInput.item.Goals as goal

abbrev item_with : ℤ → ℤ → ℤ → Bool → Breaking → FillItem
item_with advance before after space end_ = record { advance = advance; before = before; after = after; space = space; end = end_ }

made : (inline : Option ℤ) (entries : List Entry) (item own : PreparedItem) (end_ own_end : Breaking) (before after : List ℕ) (advances : List ℤ) (a b z : ℤ) (space : Bool)
    → own ≡ item → own_end ≡ end_ → a ≡ advance_of own.what advances → b ≡ opening_edges inline entries (fresh (chain_at entries own.source) before)
    → z ≡ closing_edges inline entries (fresh (chain_at entries own.source) after) → space ≡ is_space own.what
    → item_with a b z space own_end ≡ fill_item inline entries item end_ before (chain_at entries item.source) after (advance_of item.what advances)
made inline entries item own end_ own_end before after advances a b z space is is_end e f g h =
    ap (λ x. item_with x b z space own_end) e
    ∙ ap (λ x. item_with (advance_of own.what advances) x z space own_end) f
    ∙ ap (λ x. item_with (advance_of own.what advances) (opening_edges inline entries (fresh (chain_at entries own.source) before)) x space own_end) g
    ∙ ap (λ x. item_with (advance_of own.what advances) (opening_edges inline entries (fresh (chain_at entries own.source) before)) (closing_edges inline entries (fresh (chain_at entries own.source) after)) x own_end) h
    ∙ ap (λ (x : Breaking). fill_item inline entries own x before (chain_at entries own.source) after (advance_of own.what advances)) is_end
    ∙ ap (λ (x : PreparedItem). fill_item inline entries x end_ before (chain_at entries x.source) after (advance_of x.what advances)) is

pub returns : goal.returns
returns c = λ item end_ read read_end.
    let entries : List Entry = c.args.self.now.boxes.now in
    let items : List PreparedItem = c.args.self.now.lists.items.now in
    let own : PreparedItem = get_or items c.args.place c.index-self-place.result in
    let before : List ℕ = chain_behind entries (source_before items c.args.place) in
    let after : List ℕ = chain_behind entries (source_behind items c.args.place) in
    let lt : c.args.place < length items = c.requires in
    let many : length c.args.self.now.lists.breaks.now ≡ length items = c.args.self.now.lists.each_break in
    let is : own ≡ item = get_or_default items c.args.place c.index-self-place.result item lt ∙ sym read in
    let is_end : get_or c.args.self.now.lists.breaks.now c.args.place No ≡ end_ = get_or_default c.args.self.now.lists.breaks.now c.args.place No end_ (omega arith) ∙ sym read_end in
    let fits : FitsSigned w64 c.advance_of.result = search rules in
    let fits-2 : FitsSigned w64 c.edges_apart.result = search rules in
    let fits-3 : FitsSigned w64 c.edges_apart-2.result = search rules in
    let first : c.edges_apart.result ≡ opening_edges c.args.self.now.inline entries (fresh (chain_at entries own.source) before) =
    c.edges_apart.ensures
    ∙ ap (λ (o : Option ℕ). edges_of c.args.self.now.inline entries Start (apart (chain_at entries own.source) (chain_behind entries o))) c.source_before-before.ensures.is
    ∙ opening_apart c.args.self.now.inline entries (chain_at entries own.source) before in
    let last : c.edges_apart-2.result ≡ closing_edges c.args.self.now.inline entries (fresh (chain_at entries own.source) after) =
    c.edges_apart-2.ensures
    ∙ ap (λ (o : Option ℕ). edges_of c.args.self.now.inline entries End (apart (chain_at entries own.source) (chain_behind entries o))) c.source_behind-after.ensures.is
    ∙ closing_apart c.args.self.now.inline entries (chain_at entries own.source) after in
    made c.args.self.now.inline entries item own end_ (get_or c.args.self.now.lists.breaks.now c.args.place No) before after c.args.advances.now _ _ _ _ is is_end
    (to_z-of_z w64 c.advance_of.result fits ∙ c.advance_of.ensures)
    (to_z-of_z w64 c.edges_apart.result fits-2 ∙ first)
    (to_z-of_z w64 c.edges_apart-2.result fits-3 ∙ last)
    c.is_space.ensures
