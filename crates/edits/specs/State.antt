-- All of an open document that its pages hang on.
use Rattle.std.specs.Prelude.{List, Option}
use Rattle.css_types.specs.Rule.{Ruling}
use Rattle.dom_store.specs.State as dom
use Rattle.face_api.specs.Table.{Table}

-- its tree; the author's rules, in order; and the tables of the faces, with their marks of life: None is a face that is retired
pub record State : Type 0 where
  pub tree : dom.State
  pub rules : List Ruling
  pub faces : List (Option Table)
