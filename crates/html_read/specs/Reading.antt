-- Texts, tags, what stands in an element, and documents, with each refusal: a function here for each of the code.
use Rattle.std.specs.Prelude.{ℕ, ◌-◌, Bool, true, false, not, ◌&&◌, ◌||◌, ◌==◌, List, [], ◌∷◌, ◌++◌, length, drop, bytes_eq, codes, Option, Some, None, Result, Ok, Err, ⊤, if◌then◌else◌}
use Rattle.std.specs.Str.Lossy.{utf8_valid_len}
use Rattle.reading.specs.Readers.{ReadOr, Reader, skip, give, refuse, follow, mapped, choice, strip, strip_either_case, starts, next_is, can_read, after, repeat}
use Rattle.html_tokens.specs.declared.tag.Tag.{Tag}
use Rattle.html_tokens.specs.declared.error.Refusal.TheVariants.{Utf8, UnknownTag, Nesting}
use Rattle.html_tokens.specs.declared.raw_text.RawEnd.TheVariants as ends
use Rattle.html_read.specs.declared.content.Base.{Base}
use Rattle.html_read.specs.declared.content.Base.TheVariants as bases
use Rattle.reading.specs.White.{is_white, white}
use Rattle.html_tokens.specs.Tag.{tag_named, is_void}
use Rattle.html_tokens.specs.Error.{Fault, Judged, spelled}
use Rattle.html_read.specs.Judging.{judged}
use Rattle.html_tokens.specs.Lexing.{name, raw, comment, misc, doctype, attributes, tag_end, end_of, end_name}
use Rattle.html_read.specs.Tree.{with_text, with_element, roots}
use Rattle.html_read.specs.Values.{TextAt, Acting, Node, Whole}
use Rattle.html_tokens.specs.Text.{gap}

-- ---- text, with comments in it

-- ---- start tags

abbrev pub said : {A : Type 0} → Result A Fault → Judged A
said (Ok x) bytes = Ok (x, bytes)
said (Err fault) bytes = Err fault

-- attributes and the end of a start tag, wholly read and then judged
unfoldable pub tag_behind : (size : ℕ) (slash : Bool) → Judged Acting
tag_behind size slash = follow (spelled attributes) (λ list. follow (spelled (tag_end slash)) (λ u. said (judged size list)))

-- the start tag of this word, which begins with `<`
unfoldable pub start_of : (size : ℕ) (word : List ℕ) (slash : Bool) → Judged Acting
start_of size word slash = follow (spelled (strip_either_case word)) (λ u. tag_behind size slash)

-- an element that begins: its name, its tag, and what its attributes say
pub record Start : Type 0 where
  pub name : List ℕ
  pub tag : Tag
  pub acting : Acting

abbrev pub start_judged : (name : List ℕ) → Option Tag → Result Acting Fault → (here : List ℕ) → Result Start Fault
start_judged n None acting here = Err (UnknownTag, here)
start_judged n (Some tag) (Ok acting) here = Ok (record { name = n; tag = tag; acting = acting })
start_judged n (Some tag) (Err fault) here = Err fault

-- a start tag in the body: its name is judged first, and then its attributes
unfoldable pub start_tag : (size : ℕ) → Judged Start
start_tag size here = follow (spelled (after (codes "<") name)) (λ n. follow (spelled attributes) (λ list.
    follow (spelled (tag_end (is_void n))) (λ u. said (start_judged n (tag_named n) (judged size list) here)))) here

-- ---- end tags

abbrev pub closed : Bool → (here : List ℕ) → Judged ⊤
closed true here bytes = Ok (tt, bytes)
closed false here bytes = Err (Nesting, here)

-- the end tag of an element of this name
unfoldable pub end_tag : (open_name : List ℕ) → Judged ⊤
end_tag open_name here = follow (spelled end_name) (λ n. closed (bytes_eq n open_name) here) here

-- ---- what stands in an element, by a list of those that are open

pub record Open : Type 0 where
  pub name : List ℕ
  pub number : ℕ

-- the open elements, the innermost first, and the nodes so far
pub record Content : Type 0 where
  pub opened : List Open
  pub nodes : List Node

abbrev pub content_of : List Open → List Node → Content
content_of opened nodes = record { opened = opened; nodes = nodes }

abbrev pub base_parent : Base → Option ℕ
base_parent bases.Body = Some 1
base_parent bases.Fragment = None

abbrev pub parent_in : Base → List Open → Option ℕ
parent_in base [] = base_parent base
parent_in base (open_ ∷ opened) = Some open_.number

abbrev pub base_ends : Base → List ℕ → Bool
base_ends bases.Body bytes = starts (codes "</") bytes
base_ends bases.Fragment bytes = length bytes == 0

-- there is more to read
unfoldable pub goes_on : Base → Content → List ℕ → Bool
goes_on base content bytes = not (length content.opened == 0 && base_ends base bytes)

-- an element begins; a `br` is whole at once
unfoldable pub begun : Base → Content → Start → Content
begun base content start = record {
  opened = if is_void start.name then content.opened else (record { name = start.name; number = length content.nodes } ∷ content.opened);
  nodes = with_element (parent_in base content.opened) start.tag start.acting content.nodes;
}

-- the innermost open element ends
abbrev pub ending : List Open → List Node → Judged Content
ending [] nodes = spelled (after (codes "<") refuse)
ending (open_ ∷ opened) nodes = mapped (λ u. content_of opened nodes) (end_tag open_.name)

-- a start tag, an end tag or a `br`
unfoldable pub markup : (size : ℕ) → Base → Content → Judged Content
markup size base content = choice (starts (codes "</")) (ending content.opened content.nodes) (mapped (λ start. begun base content start) (start_tag size))

abbrev pub with_letters : Base → Content → List ℕ → Content
with_letters base content letters = content_of content.opened (with_text (parent_in base content.opened) letters content.nodes)

-- the text behind it, too
unfoldable pub with_gap : Base → Content → Judged Content
with_gap base content = mapped (λ letters. with_letters base content letters) gap

unfoldable pub turn : (size : ℕ) → Base → Content → Judged Content
turn size base content = follow (markup size base content) (λ later. with_gap base later)

-- the nodes so far, and those of all that stands in the base
unfoldable pub content : (size : ℕ) → Base → List Node → Judged (List Node)
content size base nodes = follow (with_gap base (content_of [] nodes)) (λ begun.
    mapped (λ whole. whole.nodes) (repeat (goes_on base) (turn size base) begun))

-- ---- the head

-- the bytes begin with this text, in either case
abbrev pub ahead : List ℕ → List ℕ → Bool
ahead word = can_read (strip_either_case word)

unfoldable pub title : (size : ℕ) → Judged ⊤
title size = follow (start_of size (codes "<title") false) (λ acting. spelled (mapped (λ inside. tt) (raw ends.Title)))

unfoldable pub meta : (size : ℕ) → Judged ⊤
meta size = mapped (λ acting. tt) (start_of size (codes "<meta") true)

-- the text of a style element, with the place at which it begins
unfoldable pub sheet : (size : ℕ) → Judged TextAt
sheet size here = spelled (mapped (λ inside. record { text = inside; place = size - length here }) (raw ends.Style)) here

unfoldable pub style : (size : ℕ) → Judged TextAt
style size = follow (start_of size (codes "<style") false) (λ acting. sheet size)

-- what comes next in the head, with the sheets so far
unfoldable pub head_turn : (size : ℕ) → List TextAt → Judged (List TextAt)
head_turn size sheets =
    choice (next_is is_white) (spelled (mapped (λ u. sheets) white))
    (choice (starts (codes "<!")) (spelled (mapped (λ u. sheets) comment))
    (choice (ahead (codes "<t")) (mapped (λ u. sheets) (title size))
    (choice (ahead (codes "<m")) (mapped (λ u. sheets) (meta size))
    (choice (ahead (codes "<s")) (mapped (λ sheet. sheets ++ sheet ∷ []) (style size))
    (spelled (after (codes "<") refuse))))))

unfoldable pub head_items : (size : ℕ) → Judged (List TextAt)
head_items size = repeat (λ sheets bytes. not (starts (codes "</") bytes)) (head_turn size) []

unfoldable pub head : (size : ℕ) → Judged (List TextAt)
head size = follow (start_of size (codes "<head") false) (λ acting. follow (head_items size) (λ sheets. mapped (λ u. sheets) (spelled (end_of (codes "head")))))

-- the head and what stands behind it, if there is one
unfoldable pub maybe_head : (size : ℕ) → Judged (List TextAt)
maybe_head size = choice (ahead (codes "<h")) (follow (head size) (λ sheets. mapped (λ u. sheets) (spelled (misc (codes "<!"))))) (give [])

-- ---- documents

-- the byte order mark, U+FEFF
unfoldable pub mark : List ℕ
mark = 239 ∷ 187 ∷ 191 ∷ []

unfoldable pub maybe_mark : Reader ⊤
maybe_mark = choice (starts mark) (strip mark) (give tt)

-- the doctype and what stands behind it, if there is one
unfoldable pub maybe_doctype : Reader ⊤
maybe_doctype = choice (starts (codes "<!")) (follow doctype (λ u. misc (codes "<!"))) (give tt)

unfoldable pub prolog : Reader ⊤
prolog = follow maybe_mark (λ u. follow (misc (codes "<!-")) (λ u. maybe_doctype))

-- `body` with all that stands in it, and the nodes of the document
unfoldable pub body : (size : ℕ) → (html : Acting) → Judged (List Node)
body size html = follow (start_of size (codes "<body") false) (λ acting. follow (content size bases.Body (roots html acting)) (λ nodes.
    mapped (λ u. nodes) (end_tag (codes "body"))))

-- from the start tag of `html` to its end tag
unfoldable pub html : (size : ℕ) → Judged (List Node × List TextAt)
html size = follow (start_of size (codes "<html") false) (λ acting. follow (spelled (misc (codes "<!"))) (λ u.
    follow (maybe_head size) (λ sheets. follow (body size acting) (λ nodes.
    spelled (follow (misc (codes "<!")) (λ u. mapped (λ u. (nodes, sheets)) (end_of (codes "html"))))))))

unfoldable pub ended : (size : ℕ) → List Node × List TextAt → Judged Whole
ended size read rest = Ok (record { nodes = read.0; sheets = read.1; length = size - length rest }, rest)

unfoldable pub document : (size : ℕ) → Judged Whole
document size = follow (spelled prolog) (λ u. follow (html size) (λ read. ended size read))

-- an input: whether it is UTF-8 is judged before all else
unfoldable pub input : List ℕ → ReadOr Fault Whole
input bytes = if utf8_valid_len bytes == length bytes then document (length bytes) bytes else Err (Utf8, drop (utf8_valid_len bytes) bytes)

-- a fragment: items with nothing round them, to the end of the text
unfoldable pub fragment : List ℕ → ReadOr Fault (List Node)
fragment text = content (length text) bases.Fragment [] text

-- ---- what follows a document

abbrev pub is_blank : ℕ → Bool
is_blank byte = byte == 32 || byte == 9 || byte == 13

abbrev pub line_end : Reader ⊤
line_end [] = Ok (tt, [])
line_end (byte ∷ bytes) = if byte == 10 then Ok (tt, bytes) else Err (byte ∷ bytes)

-- nothing comes here
abbrev pub nothing : Reader ⊤
nothing [] = Ok (tt, [])
nothing (byte ∷ bytes) = Err (byte ∷ bytes)

-- before a script: the rest of the line; without one: misc to the end
unfoldable pub tail : (script : Bool) → Reader ⊤
tail true = follow (skip is_blank) (λ u. line_end)
tail false = follow (misc (codes "<")) (λ u. nothing)
