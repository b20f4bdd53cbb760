-- What stands in an element, read by a list of those that are open: what is spelled so is read, and what is read is spelled so.
use Rattle.std.proofs.Common.{◌≡◌, ◌⊎◌, inl, inr, ℕ, suc, ◌<◌, Bool, true, false, not, cond, eqb, ◌&&◌, List, [], ◌∷◌, ◌++◌, length, codes, Some, Ok, Err, refl, sym, ap, subst, ◌∙◌, append_assoc, length-append, arith}
use Rattle.std.specs.Prelude.{⊤}
use Rattle.std.proofs.lemmas.Slice.Eq.{bytes_eq-Decides}
use Rattle.std.proofs.Math.Dec.{eqb-suc-zero}
use Rattle.html_read.proofs.HeadLaws.{slash_here}
use Rattle.basic_laws.proofs.Lists.{append_grouped}
use Rattle.reading.specs.Readers.{Read, ReadOr, ◌>>=◌, give, refuse, mapped, read_or, strip, starts, after, turns, repeat}
use Rattle.reading.specs.Placed.{SpellsPlaced}
use Rattle.reading.proofs.SpellLaws.{bind_ok, same_answer, mapped_spells}
use Rattle.reading.proofs.PlacedLaws.{placed_mapped}
use Rattle.reading.proofs.Turns.{Leads, leads_nowhere, leads_on, one_turn, leads_to_end, turns_back}
use Rattle.html_tokens.specs.declared.tag.Tag.{Tag}
use Rattle.html_tokens.specs.declared.tag.Tag.TheVariants.{Br}
use Rattle.html_read.specs.declared.content.Base.{Base}
use Rattle.html_read.specs.declared.content.Base.TheVariants as bases
use Rattle.html_tokens.specs.Characters.{is_letter}
use Rattle.html_tokens.specs.Tag.{tag_named, is_void}
use Rattle.html_tokens.specs.Error.{Fault, syntax}
use Rattle.html_read.specs.Reading.{Start, Open, Content, content_of, base_parent, parent_in, base_ends, goes_on, begun, ending, markup, with_letters, with_gap, turn, content, start_tag}
use Rattle.html_tokens.specs.Text.{in_text}
use Rattle.html_read.specs.Tree.{Items, none, pair, line_break, with_text, with_element, listed}
use Rattle.html_read.specs.Values.{Node}
use Rattle.html_read.specs.Grammar.{IsStart, AreItems, IsContent}
use Rattle.html_tokens.specs.Grammar.{IsEndName, IsGap}
use Rattle.html_tokens.proofs.AttributeLaws.{name_named}
use Rattle.html_tokens.proofs.TextLaws.{good, NoText, gap_spells}
use Rattle.html_read.proofs.TagLaws.{start_tag_spells, end_tag_spells}

-- ---- by the first bytes

-- `<` and a letter
pub record IsTag (text : List ℕ) : Type 0 where
  pub byte : ℕ
  pub more : List ℕ
  pub letter : is_letter byte ≡ true
  pub is : text ≡ 60 ∷ byte ∷ more

pub start_is_tag : (size : ℕ) (text behind : List ℕ) (start : Start) → IsStart size text behind start → IsTag text
start_is_tag size text behind start (named, back, is, known, said, whole) =
    let n = name_named named start.name is in
    record { byte = n.byte; more = n.more ++ back; letter = n.letter; is = whole ∙ ap (λ (s : List ℕ). codes "<" ++ (s ++ back)) n.is }

letter_not_slash : (byte : ℕ) → is_letter byte ≡ true → eqb byte 47 ≡ false
letter_not_slash byte is = grind arith

letter_not_bang : (byte : ℕ) → is_letter byte ≡ true → eqb byte 33 ≡ false
letter_not_bang byte is = grind arith

tag_not_end : (byte : ℕ) (more : List ℕ) → is_letter byte ≡ true → starts (codes "</") (60 ∷ byte ∷ more) ≡ false
unfolding starts strip
tag_not_end byte more is = rw (letter_not_slash byte is) refl

tag_not_text : (byte : ℕ) (more : List ℕ) → is_letter byte ≡ true → NoText (60 ∷ byte ∷ more)
unfolding starts strip
tag_not_text byte more is = rw (letter_not_bang byte is) refl

end_not_text : (more : List ℕ) → NoText (60 ∷ 47 ∷ more)
unfolding starts strip
end_not_text more = refl

pub end_first : (text n rest : List ℕ) → IsEndName text n → (more : List ℕ) × (text ++ rest ≡ 60 ∷ 47 ∷ more)
end_first text n rest r = (r.2 ++ rest, rw (r.5, r.3) refl)

pub end_no_text : (text n rest : List ℕ) → IsEndName text n → NoText (text ++ rest)
end_no_text text n rest r =
    let f = end_first text n rest r in
    ap in_text f.1 ∙ end_not_text f.0

start_no_text : (size : ℕ) (text behind rest : List ℕ) (start : Start) → IsStart size text behind start → NoText (text ++ rest)
start_no_text size text behind rest start r =
    let t = start_is_tag size text behind start r in
    ap (λ (s : List ℕ). in_text (s ++ rest)) t.is ∙ tag_not_text t.byte (t.more ++ rest) t.letter

start_no_end : (size : ℕ) (text behind rest : List ℕ) (start : Start) → IsStart size text behind start → starts (codes "</") (text ++ rest) ≡ false
start_no_end size text behind rest start r =
    let t = start_is_tag size text behind start r in
    ap (λ (s : List ℕ). starts (codes "</") (s ++ rest)) t.is ∙ tag_not_end t.byte (t.more ++ rest) t.letter

pair_grouped : (start gap_ inside ending_ later more behind : List ℕ)
    → (start ++ (gap_ ++ (inside ++ (ending_ ++ (later ++ more))))) ++ behind ≡ start ++ (gap_ ++ (inside ++ (ending_ ++ (later ++ (more ++ behind)))))
pair_grouped start gap_ inside ending_ later more behind = simp append_assoc

items_no_text : (items : Items) (size : ℕ) (text behind : List ℕ) → AreItems size text behind items → NoText behind → NoText (text ++ behind)
items_no_text none size text behind r ends = rw r ends
items_no_text (pair tag acting first inner after_ next) size text behind (name, start, gap_, inside, ending_, later, more, is, open_, is_gap, inner_is, end_is, is_later, next_is, whole) ends =
    let all : text ++ behind ≡ start ++ (gap_ ++ (inside ++ (ending_ ++ (later ++ (more ++ behind))))) =
    ap (λ (s : List ℕ). s ++ behind) whole ∙ pair_grouped start gap_ inside ending_ later more behind in
    ap in_text all ∙ start_no_text size start (gap_ ++ (inside ++ (ending_ ++ (later ++ (more ++ behind))))) (gap_ ++ (inside ++ (ending_ ++ (later ++ (more ++ behind))))) (record { name = name; tag = tag; acting = acting }) is
items_no_text (line_break acting after_ next) size text behind (name, start, gap_, more, is, void_, is_gap, next_is, whole) ends =
    let all : text ++ behind ≡ start ++ (gap_ ++ (more ++ behind)) = ap (λ (s : List ℕ). s ++ behind) whole ∙ append_grouped start gap_ more behind in
    ap in_text all ∙ start_no_text size start (gap_ ++ (more ++ behind)) (gap_ ++ (more ++ behind)) (record { name = name; tag = Br; acting = acting }) is

-- ---- there is more to read

not_both : (a : Bool) → not (a && false) ≡ true
not_both true = refl
not_both false = refl

goes_here : (base : Base) (state : Content) (bytes : List ℕ) → base_ends base bytes ≡ false → goes_on base state bytes ≡ true
unfolding goes_on
goes_here base state bytes e = rw e (not_both (eqb (length state.opened) 0))

goes_inside : (base : Base) (o : Open) (opened : List Open) (nodes : List Node) (bytes : List ℕ) → goes_on base (content_of (o ∷ opened) nodes) bytes ≡ true
unfolding goes_on
goes_inside base o opened nodes bytes =
    let some : eqb (length (o ∷ opened)) 0 ≡ false = eqb-suc-zero (length opened) in
    rw some refl

ends_there : (base : Base) (nodes : List Node) (bytes : List ℕ) → base_ends base bytes ≡ true → goes_on base (content_of [] nodes) bytes ≡ false
unfolding goes_on
ends_there base nodes bytes e = rw e refl

ends_by : (base : Base) (nodes : List Node) (bytes : List ℕ) (t : Bool) → base_ends base bytes ≡ t → goes_on base (content_of [] nodes) bytes ≡ false → base_ends base bytes ≡ true
ends_by base nodes bytes true e g = e
ends_by base nodes bytes false e g =
    let clash : true ≡ false = sym (goes_here base (content_of [] nodes) bytes e) ∙ g in
    absurd cc

ends_base : (base : Base) (opened : List Open) (nodes : List Node) (bytes : List ℕ) → goes_on base (content_of opened nodes) bytes ≡ false → base_ends base bytes ≡ true
ends_base base [] nodes bytes g = ends_by base nodes bytes (base_ends base bytes) refl g
ends_base base (o ∷ opened) nodes bytes g =
    let clash : true ≡ false = sym (goes_inside base o opened nodes bytes) ∙ g in
    absurd cc

tag_goes_on : (base : Base) (byte : ℕ) (more : List ℕ) → is_letter byte ≡ true → base_ends base (60 ∷ byte ∷ more) ≡ false
tag_goes_on bases.Body byte more is = tag_not_end byte more is
tag_goes_on bases.Fragment byte more is = eqb-suc-zero (length (byte ∷ more))

start_goes_on : (base : Base) (state : Content) (size : ℕ) (text behind rest : List ℕ) (start : Start) → IsStart size text behind start → goes_on base state (text ++ rest) ≡ true
start_goes_on base state size text behind rest start r =
    let t = start_is_tag size text behind start r in
    goes_here base state (text ++ rest) (ap (λ (s : List ℕ). base_ends base (s ++ rest)) t.is ∙ tag_goes_on base t.byte (t.more ++ rest) t.letter)

-- ---- one turn

gap_put : (base : Base) (state : Content) (text letters rest : List ℕ) → IsGap text letters → NoText rest → with_gap base state (text ++ rest) ≡ good (with_letters base state letters, rest)
unfolding with_gap
gap_put base state text letters rest is ends = ap (λ (s : ReadOr Fault (List ℕ)). s >>= λ (v : List ℕ × List ℕ). give (with_letters base state v.0) v.1) (gap_spells.again text letters rest is ends)

start_read : (size : ℕ) (base : Base) (state : Content) (text rest : List ℕ) (start : Start) → IsStart size text rest start → markup size base state (text ++ rest) ≡ good (begun base state start, rest)
unfolding markup
start_read size base state text rest start r =
    rw (start_no_end size text rest rest start r)
    (ap (λ (s : ReadOr Fault Start). s >>= λ (v : Start × List ℕ). give (begun base state v.0) v.1) ((start_tag_spells size).again text start rest r tt))

start_turn : (size : ℕ) (base : Base) (state : Content) (text gap_ letters rest : List ℕ) (start : Start) → IsStart size text (gap_ ++ rest) start → IsGap gap_ letters → NoText rest
    → turn size base state (text ++ (gap_ ++ rest)) ≡ good (with_letters base (begun base state start) letters, rest)
unfolding turn
start_turn size base state text gap_ letters rest start r is ends =
    ap (λ (s : ReadOr Fault Content). s >>= λ (v : Content × List ℕ). with_gap base v.0 v.1) (start_read size base state text (gap_ ++ rest) start r) ∙ gap_put base (begun base state start) gap_ letters rest is ends

end_read : (size : ℕ) (base : Base) (o : Open) (opened : List Open) (nodes : List Node) (text rest : List ℕ) → IsEndName text o.name → markup size base (content_of (o ∷ opened) nodes) (text ++ rest) ≡ good (content_of opened nodes, rest)
unfolding markup
end_read size base o opened nodes text rest r =
    let f = end_first text o.name rest r in
    rw (ap (starts (codes "</")) f.1 ∙ slash_here f.0)
    (ap (λ (s : ReadOr Fault ⊤). s >>= λ (v : ⊤ × List ℕ). give (content_of opened nodes) v.1) ((end_tag_spells o.name).again text tt rest r tt))

end_turn : (size : ℕ) (base : Base) (o : Open) (opened : List Open) (nodes : List Node) (text gap_ letters rest : List ℕ) → IsEndName text o.name → IsGap gap_ letters → NoText rest
    → turn size base (content_of (o ∷ opened) nodes) (text ++ (gap_ ++ rest)) ≡ good (content_of opened (with_text (parent_in base opened) letters nodes), rest)
unfolding turn
end_turn size base o opened nodes text gap_ letters rest r is ends =
    ap (λ (s : ReadOr Fault Content). s >>= λ (v : Content × List ℕ). with_gap base v.0 v.1) (end_read size base o opened nodes text (gap_ ++ rest) r) ∙ gap_put base (content_of opened nodes) gap_ letters rest is ends

abbrev open_of : List ℕ → ℕ → Open
open_of n number = record { name = n; number = number }

begun_open : (base : Base) (opened : List Open) (nodes : List Node) (start : Start) → is_void start.name ≡ false
    → begun base (content_of opened nodes) start ≡ content_of (open_of start.name (length nodes) ∷ opened) (with_element (parent_in base opened) start.tag start.acting nodes)
unfolding begun
begun_open base opened nodes start e = rw e refl

begun_void : (base : Base) (opened : List Open) (nodes : List Node) (start : Start) → is_void start.name ≡ true
    → begun base (content_of opened nodes) start ≡ content_of opened (with_element (parent_in base opened) start.tag start.acting nodes)
unfolding begun
begun_void base opened nodes start e = rw e refl

-- ---- what is spelled so is read

abbrev LeadsTo : (size : ℕ) → Base → Content → List ℕ → Content → List ℕ → Type 0
LeadsTo size base = Leads (goes_on base) (turn size base)

pub tag_size : (text : List ℕ) → IsTag text → 0 < length text
tag_size text t = subst (λ (s : List ℕ). 0 < length s) (sym t.is) (omega arith)

start_leads : (size : ℕ) (base : Base) (state later : Content) (text gap_ letters rest : List ℕ) (start : Start) → IsStart size text (gap_ ++ rest) start → IsGap gap_ letters → NoText rest
    → with_letters base (begun base state start) letters ≡ later → LeadsTo size base state (text ++ (gap_ ++ rest)) later rest
start_leads size base state later text gap_ letters rest start r is ends same =
    one_turn (goes_on base) (turn size base) state later (text ++ (gap_ ++ rest)) rest
    (start_goes_on base state size text (gap_ ++ rest) (gap_ ++ rest) start r)
    (start_turn size base state text gap_ letters rest start r is ends ∙ ap (λ (s : Content). good (s, rest)) same)
    (omega (arith, length-append text (gap_ ++ rest), length-append gap_ rest, tag_size text (start_is_tag size text (gap_ ++ rest) start r)))

end_size : (text n : List ℕ) → IsEndName text n → 0 < length text
end_size text n r = rw (r.5, r.3) (omega arith)

end_leads : (size : ℕ) (base : Base) (o : Open) (opened : List Open) (nodes : List Node) (text gap_ letters rest : List ℕ) → IsEndName text o.name → IsGap gap_ letters → NoText rest
    → LeadsTo size base (content_of (o ∷ opened) nodes) (text ++ (gap_ ++ rest)) (content_of opened (with_text (parent_in base opened) letters nodes)) rest
end_leads size base o opened nodes text gap_ letters rest r is ends =
    one_turn (goes_on base) (turn size base) (content_of (o ∷ opened) nodes) (content_of opened (with_text (parent_in base opened) letters nodes)) (text ++ (gap_ ++ rest)) rest
    (goes_inside base o opened nodes (text ++ (gap_ ++ rest)))
    (end_turn size base o opened nodes text gap_ letters rest r is ends)
    (omega (arith, length-append text (gap_ ++ rest), length-append gap_ rest, end_size text o.name r))

items_read : (items : Items) (size : ℕ) (base : Base) (text behind : List ℕ) (opened : List Open) (nodes : List Node) → AreItems size text behind items → NoText behind
    → LeadsTo size base (content_of opened nodes) (text ++ behind) (content_of opened (listed items (parent_in base opened) nodes)) behind
items_read none size base text behind opened nodes r ends = rw r (leads_nowhere (goes_on base) (turn size base) (content_of opened nodes) behind)
items_read (pair tag acting first inner after_ next) size base text behind opened nodes (name, start, gap_, inside, ending_, later, more, is, open_, is_gap, inner_is, end_is, is_later, next_is, whole) ends =
    let o = open_of name (length nodes) in
    let parent = parent_in base opened in
    let begun_ = with_text (Some (length nodes)) first (with_element parent tag acting nodes) in
    let within = listed inner (Some (length nodes)) begun_ in
    let behind_end = later ++ (more ++ behind) in
    let no_end = end_no_text ending_ name behind_end end_is in
    let no_inner = items_no_text inner size inside (ending_ ++ behind_end) inner_is no_end in
    let no_next = items_no_text next size more behind next_is ends in
    let opens : with_letters base (begun base (content_of opened nodes) (record { name = name; tag = tag; acting = acting })) first ≡ content_of (o ∷ opened) begun_ =
    ap (λ (s : Content). with_letters base s first) (begun_open base opened nodes (record { name = name; tag = tag; acting = acting }) open_) in
    let a = start_leads size base (content_of opened nodes) (content_of (o ∷ opened) begun_) start gap_ first (inside ++ (ending_ ++ behind_end)) (record { name = name; tag = tag; acting = acting }) is is_gap no_inner opens in
    let b = items_read inner size base inside (ending_ ++ behind_end) (o ∷ opened) begun_ inner_is no_end in
    let c = end_leads size base o opened within ending_ later after_ (more ++ behind) end_is is_later no_next in
    let d = items_read next size base more behind opened (with_text parent after_ within) next_is ends in
    let all : text ++ behind ≡ start ++ (gap_ ++ (inside ++ (ending_ ++ behind_end))) = ap (λ (s : List ℕ). s ++ behind) whole ∙ pair_grouped start gap_ inside ending_ later more behind in
    subst (λ (s : List ℕ). LeadsTo size base (content_of opened nodes) s (content_of opened (listed (pair tag acting first inner after_ next) parent nodes)) behind) (sym all)
    (leads_on a (leads_on b (leads_on c d)))
items_read (line_break acting after_ next) size base text behind opened nodes (name, start, gap_, more, is, void_, is_gap, next_is, whole) ends =
    let parent = parent_in base opened in
    let broken = with_text parent after_ (with_element parent Br acting nodes) in
    let no_next = items_no_text next size more behind next_is ends in
    let breaks : with_letters base (begun base (content_of opened nodes) (record { name = name; tag = Br; acting = acting })) after_ ≡ content_of opened broken =
    ap (λ (s : Content). with_letters base s after_) (begun_void base opened nodes (record { name = name; tag = Br; acting = acting }) void_) in
    let a = start_leads size base (content_of opened nodes) (content_of opened broken) start gap_ after_ (more ++ behind) (record { name = name; tag = Br; acting = acting }) is is_gap no_next breaks in
    let d = items_read next size base more behind opened broken next_is ends in
    let all : text ++ behind ≡ start ++ (gap_ ++ (more ++ behind)) = ap (λ (s : List ℕ). s ++ behind) whole ∙ append_grouped start gap_ more behind in
    subst (λ (s : List ℕ). LeadsTo size base (content_of opened nodes) s (content_of opened (listed (line_break acting after_ next) parent nodes)) behind) (sym all) (leads_on a d)

-- where content may end
pub record EndsContent (base : Base) (rest : List ℕ) : Type 0 where
  pub no_text : NoText rest
  pub ends : base_ends base rest ≡ true

content_again : (size : ℕ) (base : Base) (nodes : List Node) (text : List ℕ) (all : List Node) (rest : List ℕ) → IsContent size (base_parent base) nodes text rest all → EndsContent base rest
    → content size base nodes (text ++ rest) ≡ good (all, rest)
unfolding content
content_again size base nodes text all rest is e =
    let begun_ = with_text (base_parent base) is.letters nodes in
    let no_items = items_no_text is.items size is.back rest is.are_items e.no_text in
    let whole : text ++ rest ≡ is.gap ++ (is.back ++ rest) = ap (λ (s : List ℕ). s ++ rest) is.whole ∙ append_assoc is.gap is.back rest in
    let first = gap_put base (content_of [] nodes) is.gap is.letters (is.back ++ rest) is.is_gap no_items in
    let there = leads_to_end (goes_on base) (turn size base) (content_of [] begun_) (content_of [] (listed is.items (base_parent base) begun_)) (is.back ++ rest) rest
    (items_read is.items size base is.back rest [] begun_ is.are_items e.no_text) (ends_there base (listed is.items (base_parent base) begun_) rest e.ends) in
    ap (λ (s : List ℕ). with_gap base (content_of [] nodes) s >>= λ (v : Content × List ℕ). mapped (λ (w : Content). w.nodes) (repeat (goes_on base) (turn size base) v.0) v.1) whole
    ∙ ap (λ (s : ReadOr Fault Content). s >>= λ (v : Content × List ℕ). mapped (λ (w : Content). w.nodes) (repeat (goes_on base) (turn size base) v.0) v.1) first
    ∙ ap (λ (s : ReadOr Fault Content). s >>= λ (v : Content × List ℕ). give v.0.nodes v.1) there
    ∙ ap (λ (l : List Node). good (l, rest)) (sym is.made)

-- ---- what a turn does

-- a start tag and the text behind it
record Begins (size : ℕ) (base : Base) (state later : Content) (x y : List ℕ) : Type 0 where
  start : Start
  tag : List ℕ
  gap_text : List ℕ
  letters : List ℕ
  is : IsStart size tag (gap_text ++ y) start
  is_gap : IsGap gap_text letters
  then_ : later ≡ with_letters base (begun base state start) letters
  parts : x ≡ tag ++ (gap_text ++ y)

-- an end tag and the text behind it
record Ends (base : Base) (state later : Content) (x y : List ℕ) : Type 0 where
  open_ : Open
  others : List Open
  was : state.opened ≡ open_ ∷ others
  tag : List ℕ
  gap_text : List ℕ
  letters : List ℕ
  is : IsEndName tag open_.name
  is_gap : IsGap gap_text letters
  then_ : later ≡ content_of others (with_text (parent_in base others) letters state.nodes)
  parts : x ≡ tag ++ (gap_text ++ y)

-- the text behind a tag
record IsPut (base : Base) (mid later : Content) (x y : List ℕ) : Type 0 where
  gap_text : List ℕ
  letters : List ℕ
  is_gap : IsGap gap_text letters
  then_ : later ≡ with_letters base mid letters
  parts : x ≡ gap_text ++ y

put_makes : (base : Base) (mid later : Content) (x y : List ℕ) → with_gap base mid x ≡ good (later, y) → IsPut base mid later x y
unfolding with_gap
put_makes base mid later x y e =
    let t = (mapped_spells (λ letters. with_letters base mid letters) gap_spells).takes x later y e in
    record { gap_text = t.0; letters = t.1.0; is_gap = t.1.1; then_ = t.1.2; parts = t.2 }

pub never : (r : Read ⊤) (later : Content) (y : List ℕ) → read_or syntax (r >>= λ (u : ⊤ × List ℕ). refuse u.1) ≡ good (later, y) → ⊥
never (Ok x) later y e = absurd cc
never (Err left) later y e = absurd cc

-- an end tag
record Shuts (state mid : Content) (x y : List ℕ) : Type 0 where
  open_ : Open
  others : List Open
  was : state.opened ≡ open_ ∷ others
  tag : List ℕ
  is : IsEndName tag open_.name
  then_ : mid ≡ content_of others state.nodes
  parts : x ≡ tag ++ y

shuts_by : (opened : List Open) (nodes : List Node) (mid : Content) (x y : List ℕ) → ending opened nodes x ≡ good (mid, y) → Shuts (content_of opened nodes) mid x y
unfolding after
shuts_by [] nodes mid x y e = absurd (never (strip (codes "<") x) mid y e)
shuts_by (o ∷ opened) nodes mid x y e =
    let t = (mapped_spells (λ (u : ⊤). content_of opened nodes) (end_tag_spells o.name)).takes x mid y e in
    record { open_ = o; others = opened; was = refl; tag = t.0; is = t.1.1; then_ = t.1.2; parts = t.2 }

turn_by : (size : ℕ) (base : Base) (state mid later : Content) (x between_ y : List ℕ) (t : Bool) → starts (codes "</") x ≡ t
    → cond t (ending state.opened state.nodes x) (mapped (λ start. begun base state start) (start_tag size) x) ≡ good (mid, between_) → IsPut base mid later between_ y
    → Begins size base state later x y ⊎ Ends base state later x y
turn_by size base state mid later x between_ y true is e p =
    let s = shuts_by state.opened state.nodes mid x between_ e in
    inr (record {
      open_ = s.open_;
      others = s.others;
      was = s.was;
      tag = s.tag;
      gap_text = p.gap_text;
      letters = p.letters;
      is = s.is;
      is_gap = p.is_gap;
      then_ = p.then_ ∙ ap (λ (c : Content). with_letters base c p.letters) s.then_;
      parts = s.parts ∙ ap (λ (b : List ℕ). s.tag ++ b) p.parts;
    })
turn_by size base state mid later x between_ y false is e p =
    let t = (placed_mapped (λ start. begun base state start) (start_tag_spells size)).takes x mid between_ e in
    inl (record {
      start = t.1.0;
      tag = t.0;
      gap_text = p.gap_text;
      letters = p.letters;
      is = subst (λ (b : List ℕ). IsStart size t.0 b t.1.0) p.parts t.1.1;
      is_gap = p.is_gap;
      then_ = p.then_ ∙ ap (λ (c : Content). with_letters base c p.letters) t.1.2;
      parts = t.2 ∙ ap (λ (b : List ℕ). t.0 ++ b) p.parts;
    })

turn_makes : (size : ℕ) (base : Base) (state later : Content) (x y : List ℕ) → turn size base state x ≡ good (later, y) → Begins size base state later x y ⊎ Ends base state later x y
unfolding turn markup
turn_makes size base state later x y e =
    let a = bind_ok (markup size base state x) (λ (v : Content × List ℕ). with_gap base v.0 v.1) (later, y) e in
    turn_by size base state a.0.0 later x a.0.1 y (starts (codes "</") x) refl a.1 (put_makes base a.0.0 later a.0.1 y a.2)

shorter_by : (size : ℕ) (base : Base) (state later : Content) (x y : List ℕ) → Begins size base state later x y ⊎ Ends base state later x y → length y < length x
shorter_by size base state later x y (inl b) =
    let whole : length x ≡ length (b.tag ++ (b.gap_text ++ y)) = ap (λ (s : List ℕ). length s) b.parts in
    omega (arith, whole, length-append b.tag (b.gap_text ++ y), length-append b.gap_text y, tag_size b.tag (start_is_tag size b.tag (b.gap_text ++ y) b.start b.is))
shorter_by size base state later x y (inr b) =
    let whole : length x ≡ length (b.tag ++ (b.gap_text ++ y)) = ap (λ (s : List ℕ). length s) b.parts in
    omega (arith, whole, length-append b.tag (b.gap_text ++ y), length-append b.gap_text y, end_size b.tag b.open_.name b.is)

pub turn_shortens : (size : ℕ) (base : Base) (state later : Content) (x y : List ℕ) → turn size base state x ≡ good (later, y) → length y < length x
turn_shortens size base state later x y e = shorter_by size base state later x y (turn_makes size base state later x y e)

-- ---- what is read is spelled so

-- what is left closes the open elements, and its nodes come behind those so far
abbrev Closes : (size : ℕ) → Base → List Open → List Node → List ℕ → List Node → List ℕ → Type 0
Closes size base [] nodes bytes result rest = (items : Items) × (text : List ℕ) × AreItems size text rest items × (result ≡ listed items (base_parent base) nodes) × (bytes ≡ text ++ rest)
Closes size base (o ∷ opened) nodes bytes result rest = (items : Items) × (inside ending_ later back letters : List ℕ) × AreItems size inside (ending_ ++ (later ++ back)) items
    × IsEndName ending_ o.name × IsGap later letters × Closes size base opened (with_text (parent_in base opened) letters (listed items (Some o.number) nodes)) back result rest
    × (bytes ≡ inside ++ (ending_ ++ (later ++ back)))

pair_are : (size : ℕ) (start : Start) (tag gap_ letters y inside ending_ later back more behind after_ : List ℕ) (inner next : Items) → IsStart size tag (gap_ ++ y) start → is_void start.name ≡ false → IsGap gap_ letters
    → y ≡ inside ++ (ending_ ++ (later ++ back)) → AreItems size inside (ending_ ++ (later ++ back)) inner → IsEndName ending_ start.name → IsGap later after_ → back ≡ more ++ behind → AreItems size more behind next
    → AreItems size (tag ++ (gap_ ++ (inside ++ (ending_ ++ (later ++ more))))) behind (pair start.tag start.acting letters inner after_ next)
pair_are size start tag gap_ letters y inside ending_ later back more behind after_ inner next is open_ is_gap parts are end_is is_later last next_is =
    let all : y ≡ inside ++ (ending_ ++ (later ++ (more ++ behind))) = parts ∙ ap (λ (b : List ℕ). inside ++ (ending_ ++ (later ++ b))) last in (
      start.name,
      tag,
      gap_,
      inside,
      ending_,
      later,
      more,
      subst (λ (b : List ℕ). IsStart size tag (gap_ ++ b) start) all is,
      open_,
      is_gap,
      subst (λ (b : List ℕ). AreItems size inside (ending_ ++ (later ++ b)) inner) last are,
      end_is,
      is_later,
      next_is,
      refl,
    )

closes_start : (size : ℕ) (base : Base) (opened : List Open) (nodes : List Node) (start : Start) (tag gap_ letters y : List ℕ) (result : List Node) (rest : List ℕ) → IsStart size tag (gap_ ++ y) start → is_void start.name ≡ false → IsGap gap_ letters
    → Closes size base (open_of start.name (length nodes) ∷ opened) (with_text (Some (length nodes)) letters (with_element (parent_in base opened) start.tag start.acting nodes)) y result rest
    → Closes size base opened nodes (tag ++ (gap_ ++ y)) result rest
closes_start size base [] nodes start tag gap_ letters y result rest is open_ is_gap (inner, inside, ending_, later, back, after_, are, end_is, is_later, (next, more, next_is, same, last), parts) = (
  pair start.tag start.acting letters inner after_ next,
  tag ++ (gap_ ++ (inside ++ (ending_ ++ (later ++ more)))),
  pair_are size start tag gap_ letters y inside ending_ later back more rest after_ inner next is open_ is_gap parts are end_is is_later last next_is,
  same,
  ap (λ (s : List ℕ). tag ++ (gap_ ++ s)) (parts ∙ ap (λ (s : List ℕ). inside ++ (ending_ ++ (later ++ s))) last) ∙ sym (pair_grouped tag gap_ inside ending_ later more rest),
)
closes_start size base (p ∷ opened) nodes start tag gap_ letters y result rest is open_ is_gap (inner, inside, ending_, later, back, after_, are, end_is, is_later, (next, more, ending2, later2, back2, letters2, next_is, end2, is_later2, closes2, last), parts) = (
  pair start.tag start.acting letters inner after_ next,
  tag ++ (gap_ ++ (inside ++ (ending_ ++ (later ++ more)))),
  ending2,
  later2,
  back2,
  letters2,
  pair_are size start tag gap_ letters y inside ending_ later back more (ending2 ++ (later2 ++ back2)) after_ inner next is open_ is_gap parts are end_is is_later last next_is,
  end2,
  is_later2,
  closes2,
  ap (λ (s : List ℕ). tag ++ (gap_ ++ s)) (parts ∙ ap (λ (s : List ℕ). inside ++ (ending_ ++ (later ++ s))) last) ∙ sym (pair_grouped tag gap_ inside ending_ later more (ending2 ++ (later2 ++ back2))),
)

break_are : (size : ℕ) (start : Start) (tag gap_ letters y more behind : List ℕ) (next : Items) → IsStart size tag (gap_ ++ y) start → is_void start.name ≡ true → start.tag ≡ Br → IsGap gap_ letters
    → y ≡ more ++ behind → AreItems size more behind next → AreItems size (tag ++ (gap_ ++ more)) behind (line_break start.acting letters next)
break_are size start tag gap_ letters y more behind next is void_ br is_gap last next_is =
    let here : IsStart size tag (gap_ ++ (more ++ behind)) start = subst (λ (b : List ℕ). IsStart size tag (gap_ ++ b) start) last is in (
      start.name,
      tag,
      gap_,
      more,
      subst (λ (t : Tag). IsStart size tag (gap_ ++ (more ++ behind)) (record { name = start.name; tag = t; acting = start.acting })) br here,
      void_,
      is_gap,
      next_is,
      refl,
    )

closes_break : (size : ℕ) (base : Base) (opened : List Open) (nodes : List Node) (start : Start) (tag gap_ letters y : List ℕ) (result : List Node) (rest : List ℕ) → IsStart size tag (gap_ ++ y) start → is_void start.name ≡ true → start.tag ≡ Br → IsGap gap_ letters
    → Closes size base opened (with_text (parent_in base opened) letters (with_element (parent_in base opened) Br start.acting nodes)) y result rest
    → Closes size base opened nodes (tag ++ (gap_ ++ y)) result rest
closes_break size base [] nodes start tag gap_ letters y result rest is void_ br is_gap (next, more, next_is, same, last) = (
  line_break start.acting letters next,
  tag ++ (gap_ ++ more),
  break_are size start tag gap_ letters y more rest next is void_ br is_gap last next_is,
  same,
  ap (λ (s : List ℕ). tag ++ (gap_ ++ s)) last ∙ sym (append_grouped tag gap_ more rest),
)
closes_break size base (p ∷ opened) nodes start tag gap_ letters y result rest is void_ br is_gap (next, more, ending2, later2, back2, letters2, next_is, end2, is_later2, closes2, last) = (
  line_break start.acting letters next,
  tag ++ (gap_ ++ more),
  ending2,
  later2,
  back2,
  letters2,
  break_are size start tag gap_ letters y more (ending2 ++ (later2 ++ back2)) next is void_ br is_gap last next_is,
  end2,
  is_later2,
  closes2,
  ap (λ (s : List ℕ). tag ++ (gap_ ++ s)) last ∙ sym (append_grouped tag gap_ more (ending2 ++ (later2 ++ back2))),
)

-- `br` is the tag of that name
br_named : tag_named (codes "br") ≡ Some Br
unfolding tag_named Rattle.html_tokens.specs.Tag.body_tags
br_named = refl

void_is_br : (size : ℕ) (text behind : List ℕ) (start : Start) → IsStart size text behind start → is_void start.name ≡ true → start.tag ≡ Br
unfolding is_void
void_is_br size text behind start (named, back, is, known, said, whole) e =
    let n : start.name ≡ codes "br" = (bytes_eq-Decides start.name (codes "br")).0 e in
    let both : Some start.tag ≡ Some Br = sym known ∙ ap tag_named n ∙ br_named in
    cc

closes_at : (size : ℕ) (base : Base) (state : Content) (opened : List Open) (nodes : List Node) (y : List ℕ) (result : List Node) (rest : List ℕ) → state ≡ content_of opened nodes
    → Closes size base state.opened state.nodes y result rest → Closes size base opened nodes y result rest
closes_at size base state opened nodes y result rest same c = subst (λ (s : Content). Closes size base s.opened s.nodes y result rest) same c

begins_back : (size : ℕ) (base : Base) (state later : Content) (x y : List ℕ) (result : List Node) (rest : List ℕ) (b : Begins size base state later x y) (t : Bool) → is_void b.start.name ≡ t
    → Closes size base later.opened later.nodes y result rest → Closes size base state.opened state.nodes (b.tag ++ (b.gap_text ++ y)) result rest
begins_back size base state later x y result rest b true v c =
    let br = void_is_br size b.tag (b.gap_text ++ y) b.start b.is v in
    let parent = parent_in base state.opened in
    let same : later ≡ content_of state.opened (with_text parent b.letters (with_element parent Br b.start.acting state.nodes)) =
    b.then_ ∙ ap (λ (s : Content). with_letters base s b.letters) (begun_void base state.opened state.nodes b.start v)
    ∙ ap (λ (t : Tag). content_of state.opened (with_text parent b.letters (with_element parent t b.start.acting state.nodes))) br in
    closes_break size base state.opened state.nodes b.start b.tag b.gap_text b.letters y result rest b.is v br b.is_gap
    (closes_at size base later state.opened (with_text parent b.letters (with_element parent Br b.start.acting state.nodes)) y result rest same c)
begins_back size base state later x y result rest b false v c =
    let parent = parent_in base state.opened in
    let o = open_of b.start.name (length state.nodes) in
    let inside = with_text (Some (length state.nodes)) b.letters (with_element parent b.start.tag b.start.acting state.nodes) in
    let same : later ≡ content_of (o ∷ state.opened) inside =
    b.then_ ∙ ap (λ (s : Content). with_letters base s b.letters) (begun_open base state.opened state.nodes b.start v) in
    closes_start size base state.opened state.nodes b.start b.tag b.gap_text b.letters y result rest b.is v b.is_gap
    (closes_at size base later (o ∷ state.opened) inside y result rest same c)

closes_end : (size : ℕ) (base : Base) (o : Open) (opened : List Open) (nodes : List Node) (tag gap_ letters y : List ℕ) (result : List Node) (rest : List ℕ) → IsEndName tag o.name → IsGap gap_ letters
    → Closes size base opened (with_text (parent_in base opened) letters nodes) y result rest → Closes size base (o ∷ opened) nodes (tag ++ (gap_ ++ y)) result rest
closes_end size base o opened nodes tag gap_ letters y result rest is is_gap c = (none, [], tag, gap_, y, letters, refl, is, is_gap, c, refl)

turn_back : (size : ℕ) (base : Base) (state later : Content) (x y : List ℕ) (result : List Node) (rest : List ℕ) → Begins size base state later x y ⊎ Ends base state later x y
    → Closes size base later.opened later.nodes y result rest → Closes size base state.opened state.nodes x result rest
turn_back size base state later x y result rest (inl b) c =
    subst (λ (s : List ℕ). Closes size base state.opened state.nodes s result rest) (sym b.parts) (begins_back size base state later x y result rest b (is_void b.start.name) refl c)
turn_back size base state later x y result rest (inr b) c =
    let later_nodes = with_text (parent_in base b.others) b.letters state.nodes in
    let shut = closes_end size base b.open_ b.others state.nodes b.tag b.gap_text b.letters y result rest b.is b.is_gap (closes_at size base later b.others later_nodes y result rest b.then_ c) in
    let there : Closes size base state.opened state.nodes (b.tag ++ (b.gap_text ++ y)) result rest =
    subst (λ (o : List Open). Closes size base o state.nodes (b.tag ++ (b.gap_text ++ y)) result rest) (sym b.was) shut in
    subst (λ (s : List ℕ). Closes size base state.opened state.nodes s result rest) (sym b.parts) there

closes_nothing : (size : ℕ) (base : Base) (opened : List Open) (nodes : List Node) (rest : List ℕ) → goes_on base (content_of opened nodes) rest ≡ false → Closes size base opened nodes rest nodes rest
closes_nothing size base [] nodes rest g = (none, [], refl, refl, refl)
closes_nothing size base (o ∷ opened) nodes rest g =
    let clash : true ≡ false = sym (goes_inside base o opened nodes rest) ∙ g in
    absurd cc

content_of_closed : (size : ℕ) (base : Base) (nodes : List Node) (gap_ letters mid : List ℕ) (result : List Node) (rest bytes : List ℕ) → IsGap gap_ letters → bytes ≡ gap_ ++ mid
    → Closes size base [] (with_text (base_parent base) letters nodes) mid result rest → (text : List ℕ) × IsContent size (base_parent base) nodes text rest result × (bytes ≡ text ++ rest)
content_of_closed size base nodes gap_ letters mid result rest bytes is_gap parts (items, back, are, same, last) = (
  gap_ ++ back,
  record { letters = letters; items = items; gap = gap_; back = back; is_gap = is_gap; are_items = are; whole = refl; made = same },
  parts ∙ ap (λ (s : List ℕ). gap_ ++ s) last ∙ sym (append_assoc gap_ back rest),
)

-- what was read, and that it ends there
pub record IsRead (size : ℕ) (base : Base) (nodes : List Node) (bytes rest : List ℕ) (all : List Node) : Type 0 where
  pub text : List ℕ
  pub is : IsContent size (base_parent base) nodes text rest all
  pub parts : bytes ≡ text ++ rest
  pub ends : base_ends base rest ≡ true

pub content_takes : (size : ℕ) (base : Base) (nodes : List Node) (bytes rest : List ℕ) (all : List Node) → content size base nodes bytes ≡ good (all, rest) → IsRead size base nodes bytes rest all
unfolding content repeat
content_takes size base nodes bytes rest all e =
    let a = bind_ok (with_gap base (content_of [] nodes) bytes) (λ (v : Content × List ℕ). turns (goes_on base) (turn size base) (suc (length v.1)) v.0 v.1 >>= λ (w : Content × List ℕ). give w.0.nodes w.1) (all, rest) e in
    let b = bind_ok (turns (goes_on base) (turn size base) (suc (length a.0.1)) a.0.0 a.0.1) (λ (w : Content × List ℕ). give w.0.nodes w.1) (all, rest) a.2 in
    let same = same_answer {E = Fault} b.0.0.nodes all b.0.1 rest b.2 in
    let p = put_makes base (content_of [] nodes) a.0.0 bytes a.0.1 a.1 in
    let end_ = b.0.0 in
    let left = b.0.1 in
    let c = turns_back (goes_on base) (turn size base) (λ (s : Content) (x : List ℕ). Closes size base s.opened s.nodes x end_.nodes left × (base_ends base left ≡ true)) end_ left
    (λ g. (closes_nothing size base end_.opened end_.nodes left g, ends_base base end_.opened end_.nodes left g))
    (λ s later x y g turned closed. (turn_back size base s later x y end_.nodes left (turn_makes size base s later x y turned) closed.0, closed.1))
    (λ s later x y g turned. turn_shortens size base s later x y turned)
    (suc (length a.0.1)) a.0.0 a.0.1 (omega arith) b.1 in
    let closed = closes_at size base a.0.0 [] (with_text (base_parent base) p.letters nodes) a.0.1 end_.nodes left p.then_ c.0 in
    let r = content_of_closed size base nodes p.gap_text p.letters a.0.1 end_.nodes left bytes p.is_gap p.parts closed in
    let made : IsRead size base nodes bytes left end_.nodes = record { text = r.0; is = r.1; parts = r.2; ends = c.1 } in
    subst (λ (l : List Node). IsRead size base nodes bytes rest l) same.0 (subst (λ (s : List ℕ). IsRead size base nodes bytes s end_.nodes) same.1 made)

pub content_spells : (size : ℕ) (base : Base) (nodes : List Node) → SpellsPlaced (content size base nodes) (IsContent size (base_parent base) nodes) (EndsContent base)
content_spells size base nodes = record {
  takes = λ bytes all rest e.
      let r = content_takes size base nodes bytes rest all e in
      (r.text, r.is, r.parts);
  again = λ text all rest is ends. content_again size base nodes text all rest is ends;
}
