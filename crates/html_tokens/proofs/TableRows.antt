-- The tables, row by row, as docs/PROFILE/html.md has them. The definitions cite the tables that the code reads, so a
-- wrong row would be right by definition; it is refused here.
use Rattle.std.proofs.Common.{◌≡◌, refl, ℕ, List, [], ◌∷◌, ◌++◌}
use Rattle.std.specs.Prelude.{codes}
use Rattle.html_tokens.specs.declared.tag.Tag.{Tag}
use Rattle.html_tokens.specs.declared.tag.Tag.TheVariants as tag
use Rattle.html_tokens.specs.declared.attribute.Role.{Role}
use Rattle.html_tokens.specs.declared.attribute.Role.TheVariants as role
use Rattle.html_tokens.specs.Tag.{tags, body_tags}
use Rattle.html_tokens.specs.Attribute.{roles}
use Rattle.html_tokens.specs.Characters.{entities}

-- ---- tags

abbrev page_rows : List (List ℕ × Tag)
page_rows =
    (codes "html", tag.Html) ∷
    (codes "body", tag.Body) ∷ []

abbrev block_rows : List (List ℕ × Tag)
block_rows =
    (codes "div", tag.Div) ∷
    (codes "section", tag.Section) ∷
    (codes "article", tag.Article) ∷
    (codes "header", tag.Header) ∷
    (codes "footer", tag.Footer) ∷
    (codes "main", tag.Main) ∷
    (codes "nav", tag.Nav) ∷
    (codes "aside", tag.Aside) ∷
    (codes "address", tag.Address) ∷
    (codes "p", tag.P) ∷
    (codes "h1", tag.H1) ∷
    (codes "h2", tag.H2) ∷
    (codes "h3", tag.H3) ∷
    (codes "h4", tag.H4) ∷
    (codes "h5", tag.H5) ∷
    (codes "h6", tag.H6) ∷
    (codes "blockquote", tag.Blockquote) ∷
    (codes "figure", tag.Figure) ∷
    (codes "figcaption", tag.Figcaption) ∷
    (codes "ul", tag.Ul) ∷
    (codes "ol", tag.Ol) ∷
    (codes "li", tag.Li) ∷ []

abbrev inline_rows : List (List ℕ × Tag)
inline_rows =
    (codes "span", tag.Span) ∷
    (codes "a", tag.A) ∷
    (codes "b", tag.B) ∷
    (codes "strong", tag.Strong) ∷
    (codes "i", tag.I) ∷
    (codes "em", tag.Em) ∷
    (codes "u", tag.U) ∷
    (codes "s", tag.S) ∷
    (codes "small", tag.Small) ∷
    (codes "code", tag.Code) ∷
    (codes "abbr", tag.Abbr) ∷
    (codes "cite", tag.Cite) ∷
    (codes "mark", tag.Mark) ∷
    (codes "bdo", tag.Bdo) ∷ []

abbrev break_row : List (List ℕ × Tag)
break_row = (codes "br", tag.Br) ∷ []

tags_are : tags ≡ page_rows ++ (block_rows ++ (inline_rows ++ break_row))
unfolding tags
tags_are = refl

body_tags_are : body_tags ≡ block_rows ++ (inline_rows ++ break_row)
unfolding body_tags
body_tags_are = refl

-- ---- attributes

abbrev acting_rows : List (List ℕ × Role)
acting_rows =
    (codes "id", role.Id) ∷
    (codes "class", role.Class) ∷
    (codes "style", role.Style) ∷
    (codes "dir", role.Dir) ∷ []

abbrev ignored_rows : List (List ℕ × Role)
ignored_rows =
    (codes "lang", role.Ignored) ∷
    (codes "title", role.Ignored) ∷
    (codes "href", role.Ignored) ∷
    (codes "charset", role.Ignored) ∷
    (codes "name", role.Ignored) ∷
    (codes "content", role.Ignored) ∷
    (codes "http-equiv", role.Ignored) ∷
    (codes "type", role.Ignored) ∷
    (codes "role", role.Ignored) ∷ []

roles_are : roles ≡ acting_rows ++ ignored_rows
unfolding roles
roles_are = refl

-- ---- references

entities_are : entities ≡
    (codes "amp;", 0x26) ∷
    (codes "lt;", 0x3C) ∷
    (codes "gt;", 0x3E) ∷
    (codes "quot;", 0x22) ∷
    (codes "apos;", 0x27) ∷
    (codes "nbsp;", 0xA0) ∷
    (codes "lrm;", 0x200E) ∷
    (codes "rlm;", 0x200F) ∷
    (codes "ndash;", 0x2013) ∷
    (codes "mdash;", 0x2014) ∷
    (codes "hellip;", 0x2026) ∷
    (codes "lsquo;", 0x2018) ∷
    (codes "rsquo;", 0x2019) ∷
    (codes "ldquo;", 0x201C) ∷
    (codes "rdquo;", 0x201D) ∷
    (codes "laquo;", 0xAB) ∷
    (codes "raquo;", 0xBB) ∷ []
unfolding entities
entities_are = refl
