-- The container of a paragraph, and its inline-blocks without where they lie in memory.
use Rattle.std.specs.Prelude.{◌^◌, pos, ◌≤ℤ◌}
use Rattle.style_types.specs.Style.{IsBounded}
use Rattle.fragment_types.specs.Fragment.{piece_of}
use Rattle.para_lines.specs.declared.paragraph.Atom as code
use Rattle.para_lines.specs.declared.paragraph.Container.{Container}
use Rattle.para_lines.specs.Lines.{Atom}

-- its style is within bounds, and its inline size can be a containing block's
pub record IsContainer (container : Container) : Type 0 where
  pub style : IsBounded container.style
  pub low : pos 0 ≤ℤ container.size
  pub high : container.size ≤ℤ pos (2 ^ 32)

abbrev pub atom_of : code.Atom → Atom
atom_of atom = record {
  fragment = piece_of atom.fragment;
  extent = atom.extent;
  left_margin = atom.left_margin;
  over_margin = atom.over_margin;
  over = atom.over;
  under = atom.under;
  shift = atom.shift;
}
