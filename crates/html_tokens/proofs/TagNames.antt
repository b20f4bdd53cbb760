-- Each tag has the row of its number in the table.
use Rattle.std.proofs.Common.{◌≡◌, sym, ap, ℕ, List, [], Some, get_or}
use denote.Enum.Declared.{tag_of}
use Rattle.html_tokens.specs.declared.tag.Tag.{Tag}
use Rattle.html_tokens.specs.declared.tag.Tag.TheVariants as tag
use Rattle.html_tokens.specs.contracts.tag.Tag.{the_type}
use Rattle.html_tokens.specs.Tag.{tags, name_of, IsNameOf}

-- its name is that of its row
pub tag_has_name : (t : Tag) (name : List ℕ) → name ≡ (get_or tags (tag_of the_type t) ([], tag.Html)).0 → name ≡ name_of t
tag_has_name t name e = e

pub tag_has_row : (t : Tag) (name : List ℕ) → name ≡ (get_or tags (tag_of the_type t) ([], tag.Html)).0 → IsNameOf name t
unfolding tags
tag_has_row tag.Html name e = (0, ap (λ (n : List ℕ). Some (n, tag.Html)) (sym e))
tag_has_row tag.Body name e = (1, ap (λ (n : List ℕ). Some (n, tag.Body)) (sym e))
tag_has_row tag.Div name e = (2, ap (λ (n : List ℕ). Some (n, tag.Div)) (sym e))
tag_has_row tag.Section name e = (3, ap (λ (n : List ℕ). Some (n, tag.Section)) (sym e))
tag_has_row tag.Article name e = (4, ap (λ (n : List ℕ). Some (n, tag.Article)) (sym e))
tag_has_row tag.Header name e = (5, ap (λ (n : List ℕ). Some (n, tag.Header)) (sym e))
tag_has_row tag.Footer name e = (6, ap (λ (n : List ℕ). Some (n, tag.Footer)) (sym e))
tag_has_row tag.Main name e = (7, ap (λ (n : List ℕ). Some (n, tag.Main)) (sym e))
tag_has_row tag.Nav name e = (8, ap (λ (n : List ℕ). Some (n, tag.Nav)) (sym e))
tag_has_row tag.Aside name e = (9, ap (λ (n : List ℕ). Some (n, tag.Aside)) (sym e))
tag_has_row tag.Address name e = (10, ap (λ (n : List ℕ). Some (n, tag.Address)) (sym e))
tag_has_row tag.P name e = (11, ap (λ (n : List ℕ). Some (n, tag.P)) (sym e))
tag_has_row tag.H1 name e = (12, ap (λ (n : List ℕ). Some (n, tag.H1)) (sym e))
tag_has_row tag.H2 name e = (13, ap (λ (n : List ℕ). Some (n, tag.H2)) (sym e))
tag_has_row tag.H3 name e = (14, ap (λ (n : List ℕ). Some (n, tag.H3)) (sym e))
tag_has_row tag.H4 name e = (15, ap (λ (n : List ℕ). Some (n, tag.H4)) (sym e))
tag_has_row tag.H5 name e = (16, ap (λ (n : List ℕ). Some (n, tag.H5)) (sym e))
tag_has_row tag.H6 name e = (17, ap (λ (n : List ℕ). Some (n, tag.H6)) (sym e))
tag_has_row tag.Blockquote name e = (18, ap (λ (n : List ℕ). Some (n, tag.Blockquote)) (sym e))
tag_has_row tag.Figure name e = (19, ap (λ (n : List ℕ). Some (n, tag.Figure)) (sym e))
tag_has_row tag.Figcaption name e = (20, ap (λ (n : List ℕ). Some (n, tag.Figcaption)) (sym e))
tag_has_row tag.Ul name e = (21, ap (λ (n : List ℕ). Some (n, tag.Ul)) (sym e))
tag_has_row tag.Ol name e = (22, ap (λ (n : List ℕ). Some (n, tag.Ol)) (sym e))
tag_has_row tag.Li name e = (23, ap (λ (n : List ℕ). Some (n, tag.Li)) (sym e))
tag_has_row tag.Span name e = (24, ap (λ (n : List ℕ). Some (n, tag.Span)) (sym e))
tag_has_row tag.A name e = (25, ap (λ (n : List ℕ). Some (n, tag.A)) (sym e))
tag_has_row tag.B name e = (26, ap (λ (n : List ℕ). Some (n, tag.B)) (sym e))
tag_has_row tag.Strong name e = (27, ap (λ (n : List ℕ). Some (n, tag.Strong)) (sym e))
tag_has_row tag.I name e = (28, ap (λ (n : List ℕ). Some (n, tag.I)) (sym e))
tag_has_row tag.Em name e = (29, ap (λ (n : List ℕ). Some (n, tag.Em)) (sym e))
tag_has_row tag.U name e = (30, ap (λ (n : List ℕ). Some (n, tag.U)) (sym e))
tag_has_row tag.S name e = (31, ap (λ (n : List ℕ). Some (n, tag.S)) (sym e))
tag_has_row tag.Small name e = (32, ap (λ (n : List ℕ). Some (n, tag.Small)) (sym e))
tag_has_row tag.Code name e = (33, ap (λ (n : List ℕ). Some (n, tag.Code)) (sym e))
tag_has_row tag.Abbr name e = (34, ap (λ (n : List ℕ). Some (n, tag.Abbr)) (sym e))
tag_has_row tag.Cite name e = (35, ap (λ (n : List ℕ). Some (n, tag.Cite)) (sym e))
tag_has_row tag.Mark name e = (36, ap (λ (n : List ℕ). Some (n, tag.Mark)) (sym e))
tag_has_row tag.Bdo name e = (37, ap (λ (n : List ℕ). Some (n, tag.Bdo)) (sym e))
tag_has_row tag.Br name e = (38, ap (λ (n : List ℕ). Some (n, tag.Br)) (sym e))
