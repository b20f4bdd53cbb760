-- What the answers of the public calls mean, in terms of the grammar.
use Rattle.std.specs.Prelude.{◌≡◌, ℕ, List, ◌++◌, ⊤}
use Rattle.html_read.specs.declared.error.HtmlError.{HtmlError}
use Rattle.html_read.specs.declared.error.HtmlError.TheVariants as errors
use Rattle.html_read.specs.Values.{Node, Whole}
use Rattle.html_read.specs.Grammar.{IsDocument, IsFragment}

-- the bytes begin with this document; where they begin with another, it is the same
pub record IsTheDocument (bytes : List ℕ) (whole : Whole) : Type 0 where
  pub text : List ℕ
  pub rest : List ℕ
  pub is : IsDocument text rest whole
  pub parts : bytes ≡ text ++ rest
  pub only : (other behind : List ℕ) (value : Whole) → IsDocument other behind value → bytes ≡ other ++ behind → (value ≡ whole) × (other ≡ text)

-- the bytes begin with no document
abbrev pub HaveNoDocument : List ℕ → Type 0
HaveNoDocument bytes = (text rest : List ℕ) (whole : Whole) → IsDocument text rest whole → bytes ≡ text ++ rest → ⊥

-- A refusal with its place says that there is none; want of memory says nothing.
abbrev pub RefusesDocument : (bytes : List ℕ) → HtmlError → Type 0
RefusesDocument bytes (errors.Refused kind place) = HaveNoDocument bytes
RefusesDocument bytes errors.Memory = ⊤

-- the text is this fragment, and no other
pub record IsTheFragment (text : List ℕ) (nodes : List Node) : Type 0 where
  pub is : IsFragment text nodes
  pub only : (others : List Node) → IsFragment text others → others ≡ nodes

abbrev pub RefusesFragment : (text : List ℕ) → HtmlError → Type 0
RefusesFragment text (errors.Refused kind place) = (nodes : List Node) → IsFragment text nodes → ⊥
RefusesFragment text errors.Memory = ⊤
