-- Which bytes are a document, and what stands in it (docs/PROFILE/html.md).
--
--   document   = mark? misc (doctype misc)? html
--   html       = "<html" attributes ">" misc (head misc)? body misc "</html" s* ">"
--   head       = "<head" attributes ">" (s | comment | title | meta | style)* "</head" s* ">"
--   title      = "<title" attributes ">" characters "</title" s* ">"
--   meta       = "<meta" attributes "/"? ">"
--   style      = "<style" attributes ">" characters "</style" s* ">"
--   body       = "<body" attributes ">" gap items "</body" s* ">"
--   items      = (element gap | br gap)*
--   element    = "<" name attributes ">" gap items "</" name s* ">"
--   br         = "<br" attributes "/"? ">"
-- with names, attributes, gaps and misc as html_tokens/Grammar has them.
use Rattle.std.specs.Prelude.{◌≡◌, ℕ, ◌+◌, ◌-◌, ◌<◌, Bool, true, false, List, [], ◌∷◌, ◌++◌, length, codes, Option, Some, None, Ok, ⊤}
use Rattle.std.specs.Str.{IsUtf8}
use Rattle.reading.specs.Grammars.{Grammar, Given, Fixed, EitherCase, Seq, Mapped, Either}
use Rattle.reading.specs.Placed.{PlacedGrammar, Anywhere, PlacedSeq, PlacedMapped, PlacedEither}
use Rattle.html_tokens.specs.declared.raw_text.RawEnd.TheVariants as ends
use Rattle.html_tokens.specs.declared.tag.Tag.TheVariants.{Br}
use Rattle.html_tokens.specs.Tag.{tag_named, is_void}
use Rattle.html_read.specs.Judging.{judged}
use Rattle.html_read.specs.Reading.{Start, mark}
use Rattle.html_read.specs.Tree.{Items, none, pair, line_break, with_text, listed, roots}
use Rattle.html_read.specs.Values.{TextAt, Acting, Node, Whole}
use Rattle.html_tokens.specs.Grammar.{IsWhite, IsName, IsEndOf, IsRaw, IsComment, IsMisc, IsDoctype, AreAttributes, IsTagEnd, IsEndName, IsGap}

-- ---- tags

-- attributes and the end of a start tag; judged from left to right the attributes say this
abbrev pub IsTagBehind : (size : ℕ) (slash : Bool) → PlacedGrammar Acting
IsTagBehind size slash = PlacedSeq AreAttributes (λ list text behind acting. IsTagEnd slash text tt × (judged size list ≡ Ok acting))

-- the start tag of this word, which begins with `<`
abbrev pub IsStartOf : (size : ℕ) (word : List ℕ) (slash : Bool) → PlacedGrammar Acting
IsStartOf size word slash = PlacedSeq (Anywhere (EitherCase word)) (λ u. IsTagBehind size slash)

-- a start tag in the body
abbrev pub IsStart : (size : ℕ) → PlacedGrammar Start
IsStart size text behind start = (named back : List ℕ) × IsName named start.name × (tag_named start.name ≡ Some start.tag)
    × IsTagBehind size (is_void start.name) back behind start.acting × (text ≡ codes "<" ++ (named ++ back))

-- ---- what stands in an element

abbrev pub AreItems : (size : ℕ) → PlacedGrammar Items
AreItems size text behind none = text ≡ []
AreItems size text behind (pair tag acting first inner after next) = (name start gap inside ending later more : List ℕ)
    × IsStart size start (gap ++ (inside ++ (ending ++ (later ++ (more ++ behind))))) (record { name = name; tag = tag; acting = acting })
    × (is_void name ≡ false) × IsGap gap first × AreItems size inside (ending ++ (later ++ (more ++ behind))) inner
    × IsEndName ending name × IsGap later after × AreItems size more behind next
    × (text ≡ start ++ (gap ++ (inside ++ (ending ++ (later ++ more)))))
AreItems size text behind (line_break acting after next) = (name start gap more : List ℕ)
    × IsStart size start (gap ++ (more ++ behind)) (record { name = name; tag = Br; acting = acting })
    × (is_void name ≡ true) × IsGap gap after × AreItems size more behind next × (text ≡ start ++ (gap ++ more))

-- a text and items behind it, of which these nodes are made, behind those so far
pub record IsContent (size : ℕ) (parent : Option ℕ) (nodes : List Node) (text behind : List ℕ) (all : List Node) : Type 0 where
  pub letters : List ℕ
  pub items : Items
  pub gap : List ℕ
  pub back : List ℕ
  pub is_gap : IsGap gap letters
  pub are_items : AreItems size back behind items
  pub whole : text ≡ gap ++ back
  pub made : all ≡ listed items parent (with_text parent letters nodes)

-- ---- documents

-- the style sheets of a part of the head
abbrev pub IsTitle : (size : ℕ) → PlacedGrammar ⊤
IsTitle size = PlacedSeq (IsStartOf size (codes "<title") false) (λ acting. Anywhere (Mapped (λ inside. tt) (IsRaw ends.Title)))

abbrev pub IsMeta : (size : ℕ) → PlacedGrammar ⊤
IsMeta size = PlacedMapped (λ acting. tt) (IsStartOf size (codes "<meta") true)

-- the text of a style sheet, and the place at which it begins
abbrev pub IsSheet : (size : ℕ) → PlacedGrammar TextAt
IsSheet size text behind sheet = Mapped (λ inside. record { text = inside; place = size - length (text ++ behind) }) (IsRaw ends.Style) text sheet

abbrev pub IsStyle : (size : ℕ) → PlacedGrammar TextAt
IsStyle size = PlacedSeq (IsStartOf size (codes "<style") false) (λ acting. IsSheet size)

abbrev pub IsHeadPiece : (size : ℕ) → PlacedGrammar (List TextAt)
IsHeadPiece size = PlacedEither (Anywhere (Mapped (λ u. []) IsWhite)) (PlacedEither (Anywhere (Mapped (λ u. []) IsComment))
    (PlacedEither (PlacedMapped (λ u. []) (IsTitle size)) (PlacedEither (PlacedMapped (λ u. []) (IsMeta size)) (PlacedMapped (λ sheet. sheet ∷ []) (IsStyle size)))))

abbrev pub AreHeadPieces : (size : ℕ) → PlacedGrammar (List (List TextAt))
AreHeadPieces size text behind [] = text ≡ []
AreHeadPieces size text behind (sheets ∷ others) = (here back : List ℕ) × IsHeadPiece size here (back ++ behind) sheets × AreHeadPieces size back behind others × (text ≡ here ++ back)

-- the style sheets of all parts
abbrev pub all_of : List (List TextAt) → List TextAt
all_of [] = []
all_of (sheets ∷ others) = sheets ++ all_of others

abbrev pub IsHead : (size : ℕ) → PlacedGrammar (List TextAt)
IsHead size = PlacedSeq (IsStartOf size (codes "<head") false) (λ acting. PlacedSeq (PlacedMapped all_of (AreHeadPieces size))
    (λ sheets. Anywhere (Mapped (λ u. sheets) (IsEndOf (codes "head")))))

abbrev pub IsMaybeHead : (size : ℕ) → PlacedGrammar (List TextAt)
IsMaybeHead size = PlacedEither (PlacedSeq (IsHead size) (λ sheets. Anywhere (Mapped (λ u. sheets) IsMisc))) (Anywhere (Given []))

-- `body`, and the nodes of the document
abbrev pub IsBody : (size : ℕ) → (html : Acting) → PlacedGrammar (List Node)
IsBody size html = PlacedSeq (IsStartOf size (codes "<body") false) (λ acting. PlacedSeq (IsContent size (Some 1) (roots html acting))
    (λ nodes. Anywhere (λ text all. IsEndName text (codes "body") × (all ≡ nodes))))

abbrev pub IsHtml : (size : ℕ) → PlacedGrammar (List Node × List TextAt)
IsHtml size = PlacedSeq (IsStartOf size (codes "<html") false) (λ acting. PlacedSeq (Anywhere IsMisc) (λ u. PlacedSeq (IsMaybeHead size) (λ sheets.
    PlacedSeq (IsBody size acting) (λ nodes. Anywhere (Seq IsMisc (λ u. Mapped (λ u. (nodes, sheets)) (IsEndOf (codes "html"))))))))

abbrev pub IsMark : Grammar ⊤
IsMark = Either (Fixed mark) (Given tt)

abbrev pub IsProlog : Grammar ⊤
IsProlog = Seq IsMark (λ u. Seq IsMisc (λ u. Either (Seq IsDoctype (λ u. IsMisc)) (Given tt)))

-- a document, where these bytes stand behind it
pub record IsDocument (text behind : List ℕ) (whole : Whole) : Type 0 where
  pub utf8 : IsUtf8 (text ++ behind)
  pub parts : PlacedSeq (Anywhere IsProlog) (λ u. IsHtml (length (text ++ behind))) text behind (whole.nodes, whole.sheets)
  pub ends : whole.length ≡ length text

-- a fragment: what may stand in an element, with nothing round it
abbrev pub IsFragment : List ℕ → List Node → Type 0
IsFragment text nodes = IsContent (length text) None [] text [] nodes
