-- Where each node of a document begins: an element at the `<` of its start tag, a text behind the tag before it. The
-- bytes are read by the steps of Reading, and each step that adds a node gives it the place at which the step begins.
use Rattle.std.specs.Prelude.{◌≡◌, ◌⊎◌, ℕ, ◌-◌, ◌<◌, nat_lt, false, ◌==◌, List, [], ◌∷◌, ◌++◌, length, drop, codes, All, AllPairs, Ok, Err, if◌then◌else◌}
use Rattle.std.specs.List.{AllZip}
use Rattle.std.specs.Str.Lossy.{utf8_valid_len}
use Rattle.reading.specs.Readers.{ReadOr, follow, mapped, repeat}
use Rattle.html_tokens.specs.declared.error.Refusal.TheVariants.{Utf8}
use Rattle.html_tokens.specs.declared.tag.Tag.{Tag}
use Rattle.html_tokens.specs.declared.tag.Tag.TheVariants.{Html, Body}
use Rattle.html_tokens.specs.Error.{Fault, Judged, spelled}
use Rattle.html_tokens.specs.Lexing.{misc, end_of}
use Rattle.html_tokens.specs.Text.{gap}
use Rattle.html_read.specs.declared.content.Base.TheVariants as bases
use Rattle.html_read.specs.Reading.{Content, content_of, goes_on, markup, with_gap, start_of, start_tag, end_tag, maybe_head, prolog, input}
use Rattle.html_read.specs.Tree.{roots}
use Rattle.html_read.specs.Values.{Acting, Kind, element, text, Node, Whole}

-- what is read in `body`, with the places of its nodes
pub record Placed : Type 0 where
  pub content : Content
  pub places : List ℕ

abbrev pub placed : Content → List ℕ → Placed
placed content places = record { content = content; places = places }

-- the places with this one, where a node came to those before
abbrev pub with_place : (before now place : ℕ) → List ℕ → List ℕ
with_place before now place places = if nat_lt before now then places ++ place ∷ [] else places

-- a node that a step adds begins where the step begins
unfoldable pub placed_step : (size : ℕ) → (Content → Judged Content) → Placed → Judged Placed
placed_step size step so_far here = mapped (λ later.
    placed later (with_place (length so_far.content.nodes) (length later.nodes) (size - length here) so_far.places)) (step so_far.content) here

unfoldable pub placed_turn : (size : ℕ) → Placed → Judged Placed
placed_turn size so_far = follow (placed_step size (markup size bases.Body) so_far) (λ later. placed_step size (with_gap bases.Body) later)

unfoldable pub placed_content : (size : ℕ) → Placed → Judged (List ℕ)
placed_content size so_far = follow (placed_step size (with_gap bases.Body) so_far) (λ begun.
    mapped (λ whole. whole.places) (repeat (λ later. goes_on bases.Body later.content) (placed_turn size) begun))

-- `html` was read before, and begins at this place
unfoldable pub placed_body : (size : ℕ) (html : Acting) (place : ℕ) → Judged (List ℕ)
placed_body size html place here = follow (start_of size (codes "<body") false) (λ acting.
    follow (placed_content size (placed (content_of [] (roots html acting)) (place ∷ (size - length here) ∷ []))) (λ places.
    mapped (λ u. places) (end_tag (codes "body")))) here

unfoldable pub placed_html : (size : ℕ) → Judged (List ℕ)
placed_html size here = follow (start_of size (codes "<html") false) (λ acting. follow (spelled (misc (codes "<!"))) (λ u.
    follow (maybe_head size) (λ sheets. follow (placed_body size acting (size - length here)) (λ places.
    spelled (follow (misc (codes "<!")) (λ u. mapped (λ u. places) (end_of (codes "html")))))))) here

unfoldable pub placed_document : (size : ℕ) → Judged (List ℕ)
placed_document size = follow (spelled prolog) (λ u. placed_html size)

-- the place in bytes of each node of the document that these bytes begin with
unfoldable pub placed_input : List ℕ → ReadOr Fault (List ℕ)
placed_input bytes = if utf8_valid_len bytes == length bytes then placed_document (length bytes) bytes else Err (Utf8, drop (utf8_valid_len bytes) bytes)

-- ---- what these places are

-- the start tag of this element is read here
abbrev pub IsStartTag : (size : ℕ) → Tag → Acting → List ℕ → Type 0
IsStartTag size tag acting here =
    ((tag ≡ Html) × (rest : List ℕ) × (start_of size (codes "<html") false here ≡ Ok (acting, rest)))
    ⊎ (((tag ≡ Body) × (rest : List ℕ) × (start_of size (codes "<body") false here ≡ Ok (acting, rest)))
    ⊎ ((name rest : List ℕ) × (start_tag size here ≡ Ok (record { name = name; tag = tag; acting = acting }, rest))))

-- a node of this kind is read here
abbrev pub IsKindAt : (size : ℕ) → Kind → List ℕ → Type 0
IsKindAt size (element tag acting) here = IsStartTag size tag acting here
IsKindAt size (text letters) here = (rest : List ℕ) × (gap here ≡ Ok (letters, rest))

-- each node has its place, at which it is read
abbrev pub AreReadAt : (bytes : List ℕ) → List Node → (places : List ℕ) → Type 0
AreReadAt bytes nodes places = AllZip (λ node place. IsKindAt (length bytes) node.kind (drop place bytes)) nodes places

-- The bytes begin with this document, and these are the places of its nodes: one for each, at which it is read, in
-- the order of the nodes.
pub record ArePlaces (bytes : List ℕ) (places : List ℕ) : Type 0 where
  pub whole : Whole
  pub rest : List ℕ
  pub is : input bytes ≡ Ok (whole, rest)
  pub read : AreReadAt bytes whole.nodes places
  pub order : AllPairs (λ earlier later. earlier < later) places
  pub within : All (λ place. place < length bytes) places
