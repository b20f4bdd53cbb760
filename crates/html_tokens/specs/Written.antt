-- An attribute as it stands in a tag.
use Rattle.std.specs.Prelude.{ℕ, List}
use Rattle.reading.specs.Names.{lowered}
use Rattle.std.specs.String.{string_bytes}
use Rattle.html_tokens.specs.declared.written.WrittenAttribute as code

-- an attribute as it stands in a tag: its name in small letters, its value with references replaced, and the bytes from its name on
pub record Attribute : Type 0 where
  pub name : List ℕ
  pub value : List ℕ
  pub left : List ℕ

abbrev pub attribute_of : code.WrittenAttribute → Attribute
attribute_of a = record { name = lowered a.name.now; value = string_bytes a.value; left = a.left.now }
