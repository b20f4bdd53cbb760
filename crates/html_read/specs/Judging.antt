-- What the attributes of a tag say, judged from left to right once the tag is wholly read.
use Rattle.std.specs.Prelude.{ℕ, ◌-◌, Bool, List, [], ◌∷◌, ◌++◌, length, codes, bytes_eq, Option, Some, None, Result, Ok, Err, if◌then◌else◌}
use Rattle.std.specs.List.{list_any}
use Rattle.wm_modes.specs.declared.mode.Direction.{Direction}
use Rattle.wm_modes.specs.declared.mode.Direction.TheVariants.{Ltr, Rtl}
use Rattle.html_tokens.specs.declared.attribute.Role.{Role}
use Rattle.html_tokens.specs.declared.attribute.Role.TheVariants.{Id, Class, Style, Dir, Ignored}
use Rattle.html_tokens.specs.declared.error.Refusal.TheVariants.{Syntax, UnknownAttribute, Unsupported}
use Rattle.reading.specs.White.{is_white}
use Rattle.reading.specs.Names.{lowered}
use Rattle.html_tokens.specs.Attribute.{role_of}
use Rattle.html_tokens.specs.Error.{Fault}
use Rattle.html_read.specs.Values.{Acting}
use Rattle.html_tokens.specs.Written.{Attribute}

abbrev pub no_attributes : Acting
no_attributes = record { id = None; classes = []; dir = None; style = None }

-- a word that ends before the words behind it
abbrev pub word_before : List ℕ → List (List ℕ) → List (List ℕ)
word_before [] words = words
word_before (byte ∷ word) words = (byte ∷ word) ∷ words

-- the words of a text, between white space; `word` stands before the text
abbrev pub words_behind : (word : List ℕ) → List ℕ → List (List ℕ)
words_behind word [] = word_before word []
words_behind word (byte ∷ bytes) = if is_white byte then word_before word (words_behind [] bytes) else words_behind (word ++ byte ∷ []) bytes

unfoldable pub words : List ℕ → List (List ℕ)
words text = words_behind [] text

unfoldable pub direction_of : List ℕ → Option Direction
direction_of value =
    if bytes_eq (lowered value) (codes "ltr") then Some Ltr
    else if bytes_eq (lowered value) (codes "rtl") then Some Rtl
    else None

abbrev pub with_direction : Option Direction → Attribute → Acting → Result Acting Fault
with_direction (Some dir) attribute said = Ok (record { id = said.id; classes = said.classes; dir = Some dir; style = said.style })
with_direction None attribute said = Err (Unsupported, attribute.left)

-- what is said with this attribute too; a place is counted in an input of `size` bytes
abbrev pub with_attribute : (size : ℕ) → Option Role → Attribute → Acting → Result Acting Fault
with_attribute size None attribute said = Err (UnknownAttribute, attribute.left)
with_attribute size (Some Id) attribute said = Ok (record { id = Some attribute.value; classes = said.classes; dir = said.dir; style = said.style })
with_attribute size (Some Class) attribute said = Ok (record { id = said.id; classes = words attribute.value; dir = said.dir; style = said.style })
with_attribute size (Some Style) attribute said =
    Ok (record { id = said.id; classes = said.classes; dir = said.dir; style = Some (record { text = attribute.value; place = size - length attribute.left }) })
with_attribute size (Some Dir) attribute said = with_direction (direction_of attribute.value) attribute said
with_attribute size (Some Ignored) attribute said = Ok said

-- does the tag have an attribute of this name among those seen?
abbrev pub has_name : List ℕ → List (List ℕ) → Bool
has_name name seen = list_any (λ other. bytes_eq other name) seen

-- an attribute twice in a tag is a Syntax at the second
abbrev pub with_next : (size : ℕ) → (seen : List (List ℕ)) → Attribute → Acting → Result Acting Fault
with_next size seen attribute said =
    if has_name attribute.name seen then Err (Syntax, attribute.left)
    else with_attribute size (role_of attribute.name) attribute said

abbrev pub and_then : Result Acting Fault → (Acting → Result Acting Fault) → Result Acting Fault
and_then (Ok said) others = others said
and_then (Err fault) others = Err fault

-- what these attributes say, behind those whose names were seen
abbrev pub judged_behind : (size : ℕ) → (seen : List (List ℕ)) → Acting → List Attribute → Result Acting Fault
judged_behind size seen said [] = Ok said
judged_behind size seen said (attribute ∷ others) =
    and_then (with_next size seen attribute said) (λ more. judged_behind size (seen ++ attribute.name ∷ []) more others)

unfoldable pub judged : (size : ℕ) → List Attribute → Result Acting Fault
judged size attributes = judged_behind size [] no_attributes attributes
