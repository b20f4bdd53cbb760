use Rattle.std.proofs.Common.{ℕ, ◌+◌, ◌*◌, ◌≤◌, ◌^◌, ◌∙◌, ap, arith, sym, subst, length, map, List, Some}
use Rattle.std.specs.Prelude.{All}
use Rattle.std.proofs.lemmas.List.{length-map}
use Rattle.fragment_types.specs.Item.{Entry, entries_of, entry_of}
use Rattle.fragment_types.specs.Fragment.{pieces_of}
use Rattle.line_fill.specs.Filling.{Divide}
use Rattle.line_place.specs.Spread.{spread}
use Rattle.para_prepare.specs.Preparation.{HasBounds, Preparation, atoms_in}
use Rattle.para_lines.specs.Line.{standing_of}
use Rattle.para_lines.specs.Lines as rule
use Rattle.para_lines.specs.Paragraph.{atom_of}
use Rattle.para_lines.specs.Prepared.{AreSources, preparation_of}
use Rattle.para_lines.proofs.RoomLaws.{atoms_near, bounded_of, lines_all, near_of, setting_ready, sources_of}
use Rattle.para_lines.proofs.StandLaws.{whole_lists}
use Rattle.para_lines.proofs.SpreadLaws.{lines_within}
use Rattle.para_lines.proofs.lines.paragraph_lines.Goals as goal

pub invariant_of-input : goal.invariant_of-input
invariant_of-input g c =
    let near = near_of c.of-lists.result c.args.prepared.now (length c.args.items.now) c.of-lists.ensures c.requires.few c.requires.sources c.requires.lengths in
    let P : Preparation → Type 0 = λ prepared. atoms_in prepared.items ≤ length c.args.atoms.now in
    record {
      is_input = record {
        bounded = bounded_of _ c.args.items.now c.in_ok-boxes.ensures c.requires.count c.requires.bounds;
        sources = sources_of c.of-lists.result c.args.prepared.now _ c.args.items.now c.of-lists.ensures c.in_ok-boxes.ensures c.requires.sources;
        near = near.0;
        few = near.1;
        container_is = record { style = c.requires.style; low = c.requires.low; high = c.requires.high };
        atoms_there = subst P (sym c.of-lists.ensures) c.requires.atoms;
        reach = c.requires.reach;
      };
    }

pub of-standings-requires : goal.of-standings-requires
of-standings-requires g c = c.deref.ensures.value ∙ c.in_ok-skipped.ensures

pub filled-requires-clause-read : goal.filled-requires-clause-read
filled-requires-clause-read g c = λ one.
    let sources = sources_of c.of-lists.result c.args.prepared.now _ c.args.items.now c.of-lists.ensures c.in_ok-boxes.ensures c.requires.sources in
    let P : ℕ → Type 0 = λ n. AreSources n c.of-lists.result.items.now in
    c.of-standings.ensures.fills (Some c.args.container.now.size) c.in_ok-boxes.boxes one (subst P one sources)

pub filled-requires-clause-forward : goal.filled-requires-clause-forward
filled-requires-clause-forward g c = λ none.
    let P : Preparation → Type 0 = λ prepared. All (λ item. HasBounds item.what) prepared.items in
    c.of-standings.ensures.forward (subst P (sym c.of-lists.ensures) c.requires.lengths) none

pub invariant_of-setting : goal.invariant_of-setting
invariant_of-setting g c =
    let near = near_of c.of-lists.result c.args.prepared.now (length c.args.items.now) c.of-lists.ensures c.requires.few c.requires.sources c.requires.lengths in
    let sources = sources_of c.of-lists.result c.args.prepared.now _ c.args.items.now c.of-lists.ensures c.in_ok-boxes.ensures c.requires.sources in
    let P : Preparation → Type 0 = λ prepared. atoms_in prepared.items ≤ length c.args.atoms.now in
    let atoms = subst P (sym c.of-lists.ensures) c.requires.atoms in
    record {
      is_setting = setting_ready c.in_ok-boxes.boxes c.args.container.now c.of-standings.result (preparation_of c.of-lists.result) c.args.atoms.now (Some c.args.container.now.size)
          (bounded_of _ c.args.items.now c.in_ok-boxes.ensures c.requires.count c.requires.bounds) (record { style = c.requires.style; low = c.requires.low; high = c.requires.high })
          (c.of-standings.ensures.are (Some c.args.container.now.size) c.in_ok-boxes.boxes)
          (c.of-standings.ensures.able (length c.in_ok-boxes.boxes) sources atoms (atoms_near (2 ^ 57) c.args.atoms.now c.requires.reach (omega arith)))
          (whole_lists c.of-lists.result) near.0 near.1 c.requires.reach;
    }

pub stacked-requires : goal.stacked-requires
stacked-requires g c =
    let P : List ℕ → Type 0 = λ ends. Divide 0 (length c.of-standings.result) ends in
    let Q : ℕ → Type 0 = λ n. Divide 0 n c.in_ok-lines.lines in
    subst P (sym c.ends.ensures) (subst Q (sym c.of-standings.ensures.count) c.in_ok-lines.ensures.filled.divide)

pub returns-clause-lines : goal.returns-clause-lines
returns-clause-lines g c =
    let entries : List Entry = c.in_ok-boxes.boxes in
    let prepared : Preparation = preparation_of c.of-lists.result in
    let atoms : List rule.Atom = map atom_of c.args.atoms.now in
    lines_all _ c.args.container.now entries (entries_of c.args.items.now) prepared c.args.prepared.now atoms _ c.ends.result.now _ c.in_ok-made.ensures.lines
    (c.of-standings.ensures.are (Some c.args.container.now.size) entries) (c.ends.ensures ∙ c.in_ok-lines.ensures.filled.ends_are) c.in_ok-boxes.ensures c.of-lists.ensures

pub returns-clause-spread : goal.returns-clause-spread
returns-clause-spread g c each most h =
    let entries : List Entry = c.in_ok-boxes.boxes in
    let prepared : Preparation = preparation_of c.of-lists.result in
    let near = near_of c.of-lists.result c.args.prepared.now (length c.args.items.now) c.of-lists.ensures c.requires.few c.requires.sources c.requires.lengths in
    let k = lines_within each most (length entries) (Some c.args.container.now.size) entries prepared (map atom_of c.args.atoms.now) (map (standing_of entries) c.of-standings.result)
    (whole_lists c.of-lists.result) near.0.advances h (c.of-standings.ensures.are (Some c.args.container.now.size) entries) in
    let s = c.in_ok-made.ensures.spread most k.0 in
    let n = k.1 in
    let Within : ℕ → Preparation → Type 0 = λ count prepared.
    spread (pieces_of c.in_ok-made.made.items) ≤ count * (5 * 2 ^ 39) + length prepared.items * 2 ^ 36 + atoms_in prepared.items * (16 * each + 2 ^ 38) + most in
    let P : ℕ → Type 0 = λ count. Within count prepared in
    let Q : Preparation → Type 0 = λ prepared. Within (length c.args.items.now) prepared in
    let here : Within (length entries) prepared = omega (arith, s, n) in
    subst Q c.of-lists.ensures (subst P (ap length c.in_ok-boxes.ensures ∙ length-map c.args.items.now entry_of) here)
