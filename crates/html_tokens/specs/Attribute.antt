-- What an attribute is for, by its name.
use Rattle.std.specs.Prelude.{ℕ, ◌||◌, List, map, codes, Option, Some, if◌then◌else◌}
use Rattle.reading.specs.Readers.{starts}
use Rattle.reading.specs.Names.{named}
use Rattle.html_tokens.specs.declared.attribute.Role.{Role}
use Rattle.html_tokens.specs.declared.attribute.Role.TheVariants.{Ignored}
use Rattle.html_tokens.specs.declared.attribute.TheConstants.{ATTRIBUTES}

unfoldable pub roles : List (List ℕ × Role)
roles = map (λ row. (row.0.now, row.1)) ATTRIBUTES

-- what an attribute of this name is for
unfoldable pub role_of : List ℕ → Option Role
role_of name =
    if starts (codes "data-") name || starts (codes "aria-") name then Some Ignored
    else named roles name
