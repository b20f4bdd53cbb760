-- Reading selectors. Selectors 3, 4 to 6 and 8.
use Rattle.std.specs.Prelude.{ℕ, Bool, ◌||◌, not, ◌==◌, List, [], ◌∷◌, ◌++◌, codes, Option, Some, None, ⊤}
use Rattle.reading.specs.Readers.{Reader, refuse, follow, mapped, choice, strip, starts, next_is, repeat}
use Rattle.reading.specs.Names.{lowered}
use Rattle.css_types.specs.declared.rule.Joint.{Joint}
use Rattle.css_types.specs.declared.rule.Joint.TheVariants.{Descendant, Child}
use Rattle.css_tokens.specs.Lexing.{comment, gap, hash, hash_ahead, name, name_ahead}
use Rattle.css_types.specs.Rule.{Compound}

-- ---- names

abbrev pub no_name : Reader (List ℕ)
no_name = follow (strip (codes "-")) (λ u. choice (starts (codes ".")) (follow (strip (codes ".")) (λ u. refuse)) refuse)

-- a name; a `-` before a number begins one that stops at the number's first digit
unfoldable pub selector_name : Reader (List ℕ)
selector_name = choice name_ahead name (choice (starts (codes "-")) no_name refuse)

-- ---- compounds

abbrev pub is_dot_or_hash : ℕ → Bool
is_dot_or_hash byte = byte == 46 || byte == 35

-- a type in small letters, or none for `*`
unfoldable pub type_name : Reader (Option (List ℕ))
type_name = choice (starts (codes "*")) (mapped (λ u. None) (strip (codes "*"))) (mapped (λ n. Some (lowered n)) selector_name)

abbrev pub with_class : Compound → List ℕ → Compound
with_class c n = record { joint = c.joint; tag = c.tag; classes = c.classes ++ n ∷ []; ids = c.ids }

abbrev pub with_id : Compound → List ℕ → Compound
with_id c n = record { joint = c.joint; tag = c.tag; classes = c.classes; ids = c.ids ++ n ∷ [] }

abbrev pub comments_go_on : ⊤ → List ℕ → Bool
comments_go_on u bytes = starts (codes "/*") bytes

abbrev pub comments : Reader ⊤
comments = repeat comments_go_on (λ u. comment) tt

abbrev pub class : Reader (List ℕ)
class = follow (strip (codes ".")) (λ u. selector_name)

-- a word, which may begin with a digit
abbrev pub id : Reader (List ℕ)
id = choice hash_ahead hash (follow (strip (codes "#")) (λ u. refuse))

-- a class or an id, and comments behind it
abbrev pub simple : Compound → Reader Compound
simple c = follow (choice (starts (codes ".")) (mapped (with_class c) class) (mapped (with_id c) id)) (λ more. mapped (λ u. more) comments)

abbrev pub bare : Joint → Option (List ℕ) → Compound
bare joint tag = record { joint = joint; tag = tag; classes = []; ids = [] }

-- a type and comments behind it
abbrev pub typed : Joint → Reader Compound
typed joint = follow type_name (λ tag. mapped (λ u. bare joint tag) comments)

abbrev pub goes_on : Compound → List ℕ → Bool
goes_on c bytes = next_is is_dot_or_hash bytes

-- a compound begins with a class or an id, or with a type or `*`; comments may stand between its parts
unfoldable pub compound : Joint → Reader Compound
compound joint = follow (choice (next_is is_dot_or_hash) (simple (bare joint None)) (typed joint)) (repeat goes_on simple)

-- ---- selectors

-- what is read of a selector: its compounds, and whether white space stands behind them
pub record Begun : Type 0 where
  pub compounds : List Compound
  pub white : Bool

abbrev pub with_compound : Joint → List Compound → Reader Begun
with_compound joint compounds = follow (compound joint) (λ c. mapped (λ white. record { compounds = compounds ++ c ∷ []; white = white }) gap)

-- a compound more, behind a `>` or white space
abbrev pub turn : Begun → Reader Begun
turn b = choice (starts (codes ">")) (follow (strip (codes ">")) (λ u. follow gap (λ white. with_compound Child b.compounds)))
    (choice (λ bytes. b.white) (with_compound Descendant b.compounds) refuse)

abbrev pub selector_ends : List ℕ → Bool
selector_ends bytes = next_is (λ byte. byte == 44 || byte == 123) bytes

abbrev pub selector_goes_on : Begun → List ℕ → Bool
selector_goes_on b bytes = not (selector_ends bytes)

-- a selector, up to its `,` or `{`
unfoldable pub selector : Reader (List Compound)
selector = follow (with_compound Descendant []) (λ b. mapped (λ end_. end_.compounds) (repeat selector_goes_on turn b))
