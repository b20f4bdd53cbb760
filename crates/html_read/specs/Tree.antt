-- What stands in an element, as a tree and as the list of nodes that is read from it.
use Rattle.std.specs.Prelude.{◌≡◌, ℕ, List, [], ◌∷◌, ◌++◌, length, Option, Some, None}
use Rattle.html_tokens.specs.declared.tag.Tag.{Tag}
use Rattle.html_tokens.specs.declared.tag.Tag.TheVariants.{Html, Body, Br}
use Rattle.html_read.specs.Values.{Acting, Node, element, text}

-- tags one after the other. Behind each start tag, end tag and `br` stands a text, which may be empty: `first` behind
-- the start tag, `after` behind the end tag or the `br`.
pub data Items : Type 0 where
  none : Items
  pair : (tag : Tag) (acting : Acting) (first : List ℕ) (inner : Items) (after : List ℕ) (next : Items) → Items
  line_break : (acting : Acting) (after : List ℕ) (next : Items) → Items

-- the nodes so far, and a text behind them; an empty text is no node
abbrev pub with_text : Option ℕ → List ℕ → List Node → List Node
with_text parent [] nodes = nodes
with_text parent (byte ∷ letters) nodes = nodes ++ record { parent = parent; kind = text (byte ∷ letters) } ∷ []

abbrev pub with_element : Option ℕ → Tag → Acting → List Node → List Node
with_element parent tag acting nodes = nodes ++ record { parent = parent; kind = element tag acting } ∷ []

-- the nodes so far, and those of the items behind them, in document order; a node's number is its place in the list
abbrev pub listed : Items → Option ℕ → List Node → List Node
listed none parent nodes = nodes
listed (pair tag acting first inner after next) parent nodes =
    let inside = Some (length nodes) in
    listed next parent (with_text parent after (listed inner inside (with_text inside first (with_element parent tag acting nodes))))
listed (line_break acting after next) parent nodes =
    listed next parent (with_text parent after (with_element parent Br acting nodes))

-- the nodes of `html` and `body`
abbrev pub roots : (html body : Acting) → List Node
roots html body = with_element (Some 0) Body body (with_element None Html html [])

-- the nodes of a document: those of `html` and `body`, and of a text and items in `body`
pub record AreNodes (nodes : List Node) : Type 0 where
  pub html : Acting
  pub body : Acting
  pub first : List ℕ
  pub items : Items
  pub are : nodes ≡ listed items (Some 1) (with_text (Some 1) first (roots html body))
