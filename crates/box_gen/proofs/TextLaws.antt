-- Each text that is shown stands in the boxes once, but that one of white space alone may stand in none.
use Rattle.std.proofs.Common.{◌≡◌, ◌∙◌, refl, ap, sym, subst, inl, inr, ℕ, suc, Bool, true, false, ◌&&◌, List, [], ◌∷◌, ◌++◌, append_assoc, append-nil}
use Rattle.std.specs.Bool.{⊤}
use Rattle.style_types.specs.declared.style.Style.{Style}
use Rattle.fragment_types.specs.Item as item
use Rattle.fragment_types.specs.Item.{Entry}
use Rattle.style_types.specs.Tree as styled
use Rattle.style_types.specs.Tree.{Nodes}
use Rattle.box_gen.specs.declared.opened.Opened.{Opened}
use Rattle.box_gen.specs.Boxes.{Role, nothing, words, line_break, inline_box, atom, block_level, role_of, Run, no_run, join, before_run, is_blank, own_name, Blocks, no_more, then, wrapped, stacked, container, closed, opened_again, without_innermost, runs, made, parts_by, content}
use Rattle.box_gen.specs.Laws.{Text, told, one_after_the_other, texts_in, texts_each, texts, shown_by, shown_texts, AreAllBut, TextsStandOnce}
use Rattle.box_gen.specs.Parts as part
use Rattle.box_gen.specs.Parts.{Part, has_block}
use Rattle.box_gen.specs.Tree.{Boxes, none, box}

-- ---- lists of texts

all_but_none : (shown : List Text) → AreAllBut shown shown
unfolding AreAllBut
all_but_none [] = tt
all_but_none (text ∷ shown) = inl (refl, all_but_none shown)

all_but_one : (text : Text) (shown here : List Text) → is_blank text.1 ≡ true → AreAllBut shown here → AreAllBut (text ∷ shown) here
unfolding AreAllBut
all_but_one text shown [] blank but = (blank, but)
all_but_one text shown (first ∷ here) blank but = inr (blank, but)

all_but_on : (a b c d : List Text) → AreAllBut a b → AreAllBut c d → AreAllBut (a ++ c) (b ++ d)
unfolding AreAllBut
all_but_on [] [] c d but others = others
all_but_on [] (first ∷ b) c d but others = absurd but
all_but_on (text ∷ a) [] c d but others = all_but_one text (a ++ c) d but.0 (all_but_on a [] c d but.1 others)
all_but_on (text ∷ a) (first ∷ b) c d (inl but) others = inl (but.0, all_but_on a b c d but.1 others)
all_but_on (text ∷ a) (first ∷ b) c d (inr but) others = inr (but.0, all_but_on a (first ∷ b) c d but.1 others)

all_but_both : (a b c : List Text) → AreAllBut a b → AreAllBut b c → AreAllBut a c
unfolding AreAllBut
all_but_both [] [] c but more = more
all_but_both [] (first ∷ b) c but more = absurd but
all_but_both (text ∷ a) [] c but more = all_but_one text a c but.0 (all_but_both a [] c but.1 more)
all_but_both (text ∷ a) (first ∷ b) [] (inl but) more = (ap (λ (t : Text). is_blank t.1) (sym but.0) ∙ more.0, all_but_both a b [] but.1 more.1)
all_but_both (text ∷ a) (first ∷ b) (x ∷ c) (inl but) (inl more) = inl (more.0 ∙ but.0, all_but_both a b c but.1 more.1)
all_but_both (text ∷ a) (first ∷ b) (x ∷ c) (inl but) (inr more) =
    inr (ap (λ (t : Text). is_blank t.1) (sym but.0) ∙ more.0, all_but_both a b (x ∷ c) but.1 more.1)
all_but_both (text ∷ a) (first ∷ b) c (inr but) more = all_but_one text a c but.0 (all_but_both a (first ∷ b) c but.1 more)

after_on : (a b : List (List Text)) → one_after_the_other (a ++ b) ≡ one_after_the_other a ++ one_after_the_other b
unfolding one_after_the_other
after_on [] b = refl
after_on (texts ∷ a) b = ap (λ (l : List Text). texts ++ l) (after_on a b) ∙ sym (append_assoc texts (one_after_the_other a) (one_after_the_other b))

each_join : (a b : Boxes) → texts_each (join a b) ≡ texts_each a ++ texts_each b
unfolding texts_each join
each_join none b = refl
each_join (box name style content inner next) b = ap (λ (l : List (List Text)). texts_in content (texts_each inner) ∷ l) (each_join next b)

texts_join : (a b : Boxes) → texts (join a b) ≡ texts a ++ texts b
texts_join a b = ap one_after_the_other (each_join a b) ∙ after_on (texts_each a) (texts_each b)

closed_told : (opened : List Opened) (items : List Entry) (atoms : List (List Text)) → told (closed opened ++ items) atoms ≡ told items atoms
unfolding closed told
closed_told [] items atoms = refl
closed_told (innermost ∷ opened) items atoms = closed_told opened items atoms

opened_told : (opened : List Opened) (items : List Entry) (atoms : List (List Text)) → told (opened_again opened ++ items) atoms ≡ told items atoms
unfolding opened_again told
opened_told [] items atoms = refl
opened_told (innermost ∷ opened) items atoms =
    let begin = item.begins innermost.node innermost.style false in
    ap (λ (l : List Entry). told l atoms) (append_assoc (opened_again opened) (begin ∷ []) items) ∙ opened_told opened (begin ∷ items) atoms

-- ---- the texts of a list of parts, and of its runs

-- it is the box of one container, or none
abbrev IsOne : Boxes → Type 0
IsOne own = texts_each own ≡ texts own ∷ []

AreOne : List Part → Type 0
AreOne [] = ⊤
AreOne (part.words number letters style ∷ parts) = AreOne parts
AreOne (part.line_break number ∷ parts) = AreOne parts
AreOne (part.atom number own ∷ parts) = IsOne own × AreOne parts
AreOne (part.block_level own ∷ parts) = AreOne parts
AreOne (part.starts number style ∷ parts) = AreOne parts
AreOne (part.stops number is_cut ∷ parts) = AreOne parts

one_on : (a b : List Part) → AreOne a → AreOne b → AreOne (a ++ b)
unfolding AreOne
one_on [] b all others = others
one_on (part.words number letters style ∷ a) b all others = one_on a b all others
one_on (part.line_break number ∷ a) b all others = one_on a b all others
one_on (part.atom number own ∷ a) b all others = (all.0, one_on a b all.1 others)
one_on (part.block_level own ∷ a) b all others = one_on a b all others
one_on (part.starts number style ∷ a) b all others = one_on a b all others
one_on (part.stops number is_cut ∷ a) b all others = one_on a b all others

parts_texts : List Part → List Text
parts_texts [] = []
parts_texts (part.words number letters style ∷ parts) = (number, letters) ∷ parts_texts parts
parts_texts (part.line_break number ∷ parts) = parts_texts parts
parts_texts (part.atom number own ∷ parts) = texts own ++ parts_texts parts
parts_texts (part.block_level own ∷ parts) = texts own ++ parts_texts parts
parts_texts (part.starts number style ∷ parts) = parts_texts parts
parts_texts (part.stops number is_cut ∷ parts) = parts_texts parts

parts_on : (a b : List Part) → parts_texts (a ++ b) ≡ parts_texts a ++ parts_texts b
unfolding parts_texts
parts_on [] b = refl
parts_on (part.words number letters style ∷ a) b = ap (λ (l : List Text). (number, letters) ∷ l) (parts_on a b)
parts_on (part.line_break number ∷ a) b = parts_on a b
parts_on (part.atom number own ∷ a) b =
    ap (λ (l : List Text). texts own ++ l) (parts_on a b) ∙ sym (append_assoc (texts own) (parts_texts a) (parts_texts b))
parts_on (part.block_level own ∷ a) b =
    ap (λ (l : List Text). texts own ++ l) (parts_on a b) ∙ sym (append_assoc (texts own) (parts_texts a) (parts_texts b))
parts_on (part.starts number style ∷ a) b = parts_on a b
parts_on (part.stops number is_cut ∷ a) b = parts_on a b

abbrev run_texts : Run → List Text
run_texts run = told run.items (texts_each run.atoms)

blocks_texts : Blocks → List Text
blocks_texts no_more = []
blocks_texts (then block run others) = texts block ++ (run_texts run ++ blocks_texts others)

-- the run before a block is the ends of what is open
ends_told : (opened : List Opened) → run_texts (before_run (closed opened) none true no_run) ≡ []
unfolding join texts_each told
ends_told opened = closed_told opened [] []

begins_told : (opened : List Opened) (run : Run) → run_texts (before_run (opened_again opened) none true run) ≡ run_texts run
unfolding join
begins_told opened run = opened_told opened run.items (texts_each run.atoms)

atom_told : (number : ℕ) (own : Boxes) (run : Run) → IsOne own → run_texts (before_run (item.atom (own_name number) ∷ []) own false run) ≡ texts own ++ run_texts run
unfolding told
atom_told number own run one =
    ap (told (item.atom (own_name number) ∷ run.items)) (each_join own run.atoms ∙ ap (λ (each : List (List Text)). each ++ texts_each run.atoms) one)

runs_texts : (opened : List Opened) (parts : List Part) → AreOne parts → run_texts (runs opened parts).first ++ blocks_texts (runs opened parts).others ≡ parts_texts parts
unfolding runs join told texts_each parts_texts blocks_texts AreOne
runs_texts opened [] all = refl
runs_texts opened (part.words number letters style ∷ parts) all = ap (λ (l : List Text). (number, letters) ∷ l) (runs_texts opened parts all)
runs_texts opened (part.line_break number ∷ parts) all = runs_texts opened parts all
runs_texts opened (part.atom number own ∷ parts) all =
    let held = runs opened parts in
    ap (λ (l : List Text). l ++ blocks_texts held.others) (atom_told number own held.first all.0)
    ∙ append_assoc (texts own) (run_texts held.first) (blocks_texts held.others)
    ∙ ap (λ (l : List Text). texts own ++ l) (runs_texts opened parts all.1)
runs_texts opened (part.block_level own ∷ parts) all =
    let held = runs opened parts in
    let behind = run_texts (before_run (opened_again opened) none true held.first) in
    ap (λ (l : List Text). l ++ (texts own ++ (behind ++ blocks_texts held.others))) (ends_told opened)
    ∙ ap (λ (l : List Text). texts own ++ (l ++ blocks_texts held.others)) (begins_told opened held.first)
    ∙ ap (λ (l : List Text). texts own ++ l) (runs_texts opened parts all)
runs_texts opened (part.starts number style ∷ parts) all = runs_texts ((record { node = number; style = style }) ∷ opened) parts all
runs_texts opened (part.stops number is_cut ∷ parts) all = runs_texts (without_innermost opened) parts all

-- ---- a run that is white space alone has no other text

abbrev IsSound : Run → Type 0
IsSound run = run.blank ≡ true → AreAllBut (run_texts run) []

AreSound : Blocks → Type 0
AreSound no_more = ⊤
AreSound (then block run others) = IsSound run × AreSound others

text_sound : (blank : Bool) (text : Text) (run : Run) → is_blank text.1 ≡ blank → IsSound run → (blank && run.blank) ≡ true → AreAllBut (text ∷ run_texts run) []
unfolding AreAllBut
text_sound true text run is sound = λ e. (is, sound e)
text_sound false text run is sound = λ e. cc

end_sound : (is_cut : Bool) (run : Run) → IsSound run → (is_cut && run.blank) ≡ true → AreAllBut (run_texts run) []
end_sound true run sound = sound
end_sound false run sound = λ e. cc

runs_sound : (opened : List Opened) (parts : List Part) → IsSound (runs opened parts).first × AreSound (runs opened parts).others
unfolding runs join told texts_each AreSound AreAllBut
runs_sound opened [] = (λ e. tt, tt)
runs_sound opened (part.words number letters style ∷ parts) =
    let sound = runs_sound opened parts in (text_sound (is_blank letters) (number, letters) (runs opened parts).first refl sound.0, sound.1)
runs_sound opened (part.line_break number ∷ parts) = let sound = runs_sound opened parts in (λ e. cc, sound.1)
runs_sound opened (part.atom number own ∷ parts) = let sound = runs_sound opened parts in (λ e. cc, sound.1)
runs_sound opened (part.block_level own ∷ parts) =
    let sound = runs_sound opened parts in (
      λ e. subst (λ (l : List Text). AreAllBut l []) (sym (ends_told opened)) tt,
      (λ e. subst (λ (l : List Text). AreAllBut l []) (sym (begins_told opened (runs opened parts).first)) (sound.0 e), sound.1),
    )
runs_sound opened (part.starts number style ∷ parts) = runs_sound ((record { node = number; style = style }) ∷ opened) parts
runs_sound opened (part.stops number is_cut ∷ parts) =
    let outside = without_innermost opened in
    let sound = runs_sound outside parts in (end_sound is_cut (runs outside parts).first sound.0, sound.1)

-- ---- a container has the texts of its content, but those of the runs that make no box

wrapped_texts : (blank : Bool) (number ordinal : ℕ) (style : Style) (run : Run) (others : ℕ → Boxes) (own : List Text) → run.blank ≡ blank → IsSound run
    → ((n : ℕ) → AreAllBut own (texts (others n))) → AreAllBut (run_texts run ++ own) (texts (wrapped blank number ordinal style run others))
unfolding texts_each one_after_the_other
wrapped_texts true number ordinal style run others own is sound each = all_but_on (run_texts run) [] own (texts (others ordinal)) (sound is) (each ordinal)
wrapped_texts false number ordinal style run others own is sound each =
    all_but_on (run_texts run) (run_texts run) own (texts (others (suc ordinal))) (all_but_none (run_texts run)) (each (suc ordinal))

stacked_texts : (number : ℕ) (style : Style) (held : Blocks) (ordinal : ℕ) → AreSound held → AreAllBut (blocks_texts held) (texts (stacked number style held ordinal))
unfolding stacked texts_each one_after_the_other blocks_texts AreSound AreAllBut
stacked_texts number style no_more ordinal sound = tt
stacked_texts number style (then block run others) ordinal sound =
    let behind = wrapped run.blank number ordinal style run (stacked number style others) in
    subst (AreAllBut (blocks_texts (then block run others))) (sym (texts_join block behind))
    (all_but_on (texts block) (texts block) (run_texts run ++ blocks_texts others) (texts behind) (all_but_none (texts block))
    (wrapped_texts run.blank number ordinal style run (stacked number style others) (blocks_texts others) refl sound.0 (λ n. stacked_texts number style others n sound.1)))

container_texts : (number : ℕ) (style : Style) (first : Run) (others : Blocks) → IsSound first → AreSound others
    → AreAllBut (run_texts first ++ blocks_texts others) (texts (container number style first others))
unfolding texts_each one_after_the_other blocks_texts
container_texts number style first no_more sound all = all_but_none (run_texts first ++ [])
container_texts number style first (then block run others) sound all =
    let held = then block run others in
    subst (AreAllBut (run_texts first ++ blocks_texts held)) (sym (append-nil _))
    (wrapped_texts first.blank number 0 style first (stacked number style held) (blocks_texts held) refl sound (λ n. stacked_texts number style held n all))

made_texts : (number : ℕ) (style : Style) (parts : List Part) → AreOne parts → AreAllBut (parts_texts parts) (texts (made number style parts))
made_texts number style parts all =
    let sound = runs_sound [] parts in
    subst (λ (l : List Text). AreAllBut l (texts (made number style parts))) (runs_texts [] parts all)
    (container_texts number style (runs [] parts).first (runs [] parts).others sound.0 sound.1)

container_one : (number : ℕ) (style : Style) (first : Run) (others : Blocks) → IsOne (container number style first others)
unfolding texts_each one_after_the_other
container_one number style first no_more = ap (λ (l : List Text). l ∷ []) (sym (append-nil _))
container_one number style first (then block run others) = ap (λ (l : List Text). l ∷ []) (sym (append-nil _))

-- ---- the content of nodes has the texts that they show

role_one : (role : Role) (number : ℕ) (style : Style) (inner : List Part) → AreOne inner → AreOne (parts_by role number style inner)
unfolding AreOne
role_one nothing number style inner all = tt
role_one (words letters) number style inner all = tt
role_one line_break number style inner all = tt
role_one inline_box number style inner all = one_on inner (part.stops number (has_block inner) ∷ []) all tt
role_one atom number style inner all = (container_one number style (runs [] inner).first (runs [] inner).others, tt)
role_one block_level number style inner all = tt

content_one : (nodes : Nodes) → AreOne (content nodes)
unfolding content AreOne
content_one styled.none = tt
content_one (styled.node number kind style inner next) =
    one_on (parts_by (role_of kind style) number style (content inner)) (content next) (role_one (role_of kind style) number style (content inner) (content_one inner)) (content_one next)

role_texts : (role : Role) (number : ℕ) (style : Style) (inner : List Part) (shown : List Text) → AreOne inner → AreAllBut shown (parts_texts inner)
    → AreAllBut (shown_by role number shown) (parts_texts (parts_by role number style inner))
unfolding parts_texts AreAllBut
role_texts nothing number style inner shown all but = tt
role_texts (words letters) number style inner shown all but = inl (refl, tt)
role_texts line_break number style inner shown all but = tt
role_texts inline_box number style inner shown all but =
    subst (AreAllBut shown) (sym (parts_on inner (part.stops number (has_block inner) ∷ []) ∙ append-nil _)) but
role_texts atom number style inner shown all but =
    subst (AreAllBut shown) (sym (append-nil _)) (all_but_both shown (parts_texts inner) (texts (made number style inner)) but (made_texts number style inner all))
role_texts block_level number style inner shown all but =
    subst (AreAllBut shown) (sym (append-nil _)) (all_but_both shown (parts_texts inner) (texts (made number style inner)) but (made_texts number style inner all))

content_texts : (nodes : Nodes) → AreAllBut (shown_texts nodes) (parts_texts (content nodes))
unfolding content parts_texts shown_texts AreAllBut
content_texts styled.none = tt
content_texts (styled.node number kind style inner next) =
    let role = role_of kind style in
    let own = parts_by role number style (content inner) in
    subst (AreAllBut (shown_texts (styled.node number kind style inner next))) (sym (parts_on own (content next)))
    (all_but_on (shown_by role number (shown_texts inner)) (parts_texts own) (shown_texts next) (parts_texts (content next))
    (role_texts role number style (content inner) (shown_texts inner) (content_one inner) (content_texts inner)) (content_texts next))

pub texts_stand_once : TextsStandOnce
texts_stand_once number kind style inner next =
    all_but_both (shown_texts inner) (parts_texts (content inner)) (texts (made number style (content inner))) (content_texts inner)
    (made_texts number style (content inner) (content_one inner))
