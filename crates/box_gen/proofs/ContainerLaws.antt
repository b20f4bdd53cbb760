-- Each block-level element and each atom that is shown has its box once.
use Rattle.std.proofs.Common.{◌≡◌, ◌∙◌, refl, ap, sym, ℕ, suc, Bool, true, false, List, [], ◌∷◌, ◌++◌, append_assoc, append-nil}
use Rattle.style_types.specs.declared.style.Style.{Style}
use Rattle.std.specs.Bool.{⊤}
use Rattle.fragment_types.specs.Item as item
use Rattle.fragment_types.specs.Item.{Entry}
use Rattle.style_types.specs.Tree as styled
use Rattle.style_types.specs.Tree.{Nodes}
use Rattle.box_gen.specs.declared.opened.Opened.{Opened}
use Rattle.box_gen.specs.Boxes.{Role, nothing, words, line_break, inline_box, atom, block_level, role_of, Run, join, before_run, is_blank, own_name, Blocks, no_more, then, wrapped, stacked, container, opened_again, without_innermost, runs, made, parts_by, content}
use Rattle.box_gen.specs.Laws.{own_box, own_boxes, holders_by, shown_holders, ContainersStandOnce}
use Rattle.box_gen.specs.Parts as part
use Rattle.box_gen.specs.Parts.{Part, has_block}
use Rattle.box_gen.specs.Tree.{Boxes, none, box}

-- ---- the own boxes of a list of parts, and of its runs

own_join : (a b : Boxes) (parent : ℕ) → own_boxes (join a b) parent ≡ own_boxes a parent ++ own_boxes b parent
unfolding own_boxes join
own_join none b parent = refl
own_join (box name style content inner next) b parent =
    let own = own_box name.ordinal name.node parent (own_boxes inner name.node) in
    ap (λ (l : List (ℕ × ℕ)). own ++ l) (own_join next b parent) ∙ sym (append_assoc own (own_boxes next parent) (own_boxes b parent))

parts_own : List Part → (holder : ℕ) → List (ℕ × ℕ)
parts_own [] holder = []
parts_own (part.words number letters style ∷ parts) holder = parts_own parts holder
parts_own (part.line_break number ∷ parts) holder = parts_own parts holder
parts_own (part.atom number own ∷ parts) holder = own_boxes own holder ++ parts_own parts holder
parts_own (part.block_level own ∷ parts) holder = own_boxes own holder ++ parts_own parts holder
parts_own (part.starts number style ∷ parts) holder = parts_own parts holder
parts_own (part.stops number is_cut ∷ parts) holder = parts_own parts holder

parts_on : (a b : List Part) (holder : ℕ) → parts_own (a ++ b) holder ≡ parts_own a holder ++ parts_own b holder
unfolding parts_own
parts_on [] b holder = refl
parts_on (part.words number letters style ∷ a) b holder = parts_on a b holder
parts_on (part.line_break number ∷ a) b holder = parts_on a b holder
parts_on (part.atom number own ∷ a) b holder =
    ap (λ (l : List (ℕ × ℕ)). own_boxes own holder ++ l) (parts_on a b holder) ∙ sym (append_assoc (own_boxes own holder) (parts_own a holder) (parts_own b holder))
parts_on (part.block_level own ∷ a) b holder =
    ap (λ (l : List (ℕ × ℕ)). own_boxes own holder ++ l) (parts_on a b holder) ∙ sym (append_assoc (own_boxes own holder) (parts_own a holder) (parts_own b holder))
parts_on (part.starts number style ∷ a) b holder = parts_on a b holder
parts_on (part.stops number is_cut ∷ a) b holder = parts_on a b holder

blocks_own : Blocks → (holder : ℕ) → List (ℕ × ℕ)
blocks_own no_more holder = []
blocks_own (then block run others) holder = own_boxes block holder ++ (own_boxes run.atoms holder ++ blocks_own others holder)

-- the runs have what the parts have
runs_own : (opened : List Opened) (parts : List Part) (holder : ℕ)
    → own_boxes (runs opened parts).first.atoms holder ++ blocks_own (runs opened parts).others holder ≡ parts_own parts holder
unfolding runs join own_boxes parts_own blocks_own
runs_own opened [] holder = refl
runs_own opened (part.words number letters style ∷ parts) holder = runs_own opened parts holder
runs_own opened (part.line_break number ∷ parts) holder = runs_own opened parts holder
runs_own opened (part.atom number own ∷ parts) holder =
    let held = runs opened parts in
    ap (λ (l : List (ℕ × ℕ)). l ++ blocks_own held.others holder) (own_join own held.first.atoms holder)
    ∙ append_assoc (own_boxes own holder) (own_boxes held.first.atoms holder) (blocks_own held.others holder)
    ∙ ap (λ (l : List (ℕ × ℕ)). own_boxes own holder ++ l) (runs_own opened parts holder)
runs_own opened (part.block_level own ∷ parts) holder = ap (λ (l : List (ℕ × ℕ)). own_boxes own holder ++ l) (runs_own opened parts holder)
runs_own opened (part.starts number style ∷ parts) holder = runs_own ((record { node = number; style = style }) ∷ opened) parts holder
runs_own opened (part.stops number is_cut ∷ parts) holder = runs_own (without_innermost opened) parts holder

-- ---- a run that is white space alone has no atom

abbrev pub IsSound : Run → Type 0
IsSound run = run.blank ≡ true → run.atoms ≡ none

unfoldable pub AreSound : Blocks → Type 0
AreSound no_more = ⊤
AreSound (then block run others) = IsSound run × AreSound others

front_sound : (items : List Entry) (blank : Bool) (run : Run) → IsSound run → IsSound (before_run items none blank run)
unfolding join
front_sound items true run sound = sound
front_sound items false run sound = λ e. cc

atom_sound : (items : List Entry) (own : Boxes) (run : Run) → IsSound (before_run items own false run)
atom_sound items own run = λ e. cc

pub runs_sound : (opened : List Opened) (parts : List Part) → IsSound (runs opened parts).first × AreSound (runs opened parts).others
unfolding runs join AreSound
runs_sound opened [] = (λ e. refl, tt)
runs_sound opened (part.words number letters style ∷ parts) =
    let sound = runs_sound opened parts in (front_sound (item.text number letters style ∷ []) (is_blank letters) (runs opened parts).first sound.0, sound.1)
runs_sound opened (part.line_break number ∷ parts) =
    let sound = runs_sound opened parts in (front_sound (item.line_break number ∷ []) false (runs opened parts).first sound.0, sound.1)
runs_sound opened (part.atom number own ∷ parts) =
    let sound = runs_sound opened parts in (atom_sound (item.atom (own_name number) ∷ []) own (runs opened parts).first, sound.1)
runs_sound opened (part.block_level own ∷ parts) =
    let sound = runs_sound opened parts in (λ e. refl, (front_sound (opened_again opened) true (runs opened parts).first sound.0, sound.1))
runs_sound opened (part.starts number style ∷ parts) =
    let inside = (record { node = number; style = style }) ∷ opened in
    let sound = runs_sound inside parts in (front_sound (item.begins number style true ∷ []) true (runs inside parts).first sound.0, sound.1)
runs_sound opened (part.stops number is_cut ∷ parts) =
    let outside = without_innermost opened in
    let sound = runs_sound outside parts in (front_sound (item.ends number true ∷ []) is_cut (runs outside parts).first sound.0, sound.1)

-- ---- a container has what its content has

wrapped_own : (blank : Bool) (number ordinal : ℕ) (style : Style) (run : Run) (others : ℕ → Boxes) (own : List (ℕ × ℕ)) → run.blank ≡ blank → IsSound run
    → ((n : ℕ) → own_boxes (others n) number ≡ own) → own_boxes (wrapped blank number ordinal style run others) number ≡ own_boxes run.atoms number ++ own
unfolding own_boxes
wrapped_own true number ordinal style run others own is sound each =
    each ordinal ∙ ap (λ (atoms : Boxes). own_boxes atoms number ++ own) (sym (sound is))
wrapped_own false number ordinal style run others own is sound each = ap (λ (l : List (ℕ × ℕ)). own_boxes run.atoms number ++ l) (each (suc ordinal))

stacked_own : (number : ℕ) (style : Style) (held : Blocks) (ordinal : ℕ) → AreSound held → own_boxes (stacked number style held ordinal) number ≡ blocks_own held number
unfolding stacked own_boxes blocks_own AreSound
stacked_own number style no_more ordinal sound = refl
stacked_own number style (then block run others) ordinal sound =
    own_join block (wrapped run.blank number ordinal style run (stacked number style others)) number
    ∙ ap (λ (l : List (ℕ × ℕ)). own_boxes block number ++ l)
    (wrapped_own run.blank number ordinal style run (stacked number style others) (blocks_own others number) refl sound.0 (λ n. stacked_own number style others n sound.1))

container_own : (number : ℕ) (style : Style) (first : Run) (others : Blocks) (parent : ℕ) → IsSound first → AreSound others
    → own_boxes (container number style first others) parent ≡ (number, parent) ∷ (own_boxes first.atoms number ++ blocks_own others number)
unfolding own_boxes blocks_own
container_own number style first no_more parent sound each = refl
container_own number style first (then block run others) parent sound each =
    ap (λ (l : List (ℕ × ℕ)). (number, parent) ∷ l)
    (append-nil _
    ∙ wrapped_own first.blank number 0 style first (stacked number style (then block run others)) (blocks_own (then block run others) number) refl sound
    (λ n. stacked_own number style (then block run others) n each))

made_own : (number : ℕ) (style : Style) (parts : List Part) (parent : ℕ) → own_boxes (made number style parts) parent ≡ (number, parent) ∷ parts_own parts number
made_own number style parts parent =
    let sound = runs_sound [] parts in
    container_own number style (runs [] parts).first (runs [] parts).others parent sound.0 sound.1
    ∙ ap (λ (l : List (ℕ × ℕ)). (number, parent) ∷ l) (runs_own [] parts number)

-- ---- the content of nodes has what they are

role_own : (role : Role) (number : ℕ) (style : Style) (inner : List Part) (holders : ℕ → List (ℕ × ℕ)) (holder : ℕ) → ((other : ℕ) → parts_own inner other ≡ holders other)
    → parts_own (parts_by role number style inner) holder ≡ holders_by role number holder holders
unfolding parts_own
role_own nothing number style inner holders holder each = refl
role_own (words letters) number style inner holders holder each = refl
role_own line_break number style inner holders holder each = refl
role_own inline_box number style inner holders holder each = parts_on inner (part.stops number (has_block inner) ∷ []) holder ∙ append-nil _ ∙ each holder
role_own atom number style inner holders holder each = append-nil _ ∙ made_own number style inner holder ∙ ap (λ (l : List (ℕ × ℕ)). (number, holder) ∷ l) (each number)
role_own block_level number style inner holders holder each = append-nil _ ∙ made_own number style inner holder ∙ ap (λ (l : List (ℕ × ℕ)). (number, holder) ∷ l) (each number)

content_own : (nodes : Nodes) (holder : ℕ) → parts_own (content nodes) holder ≡ shown_holders nodes holder
unfolding content parts_own shown_holders
content_own styled.none holder = refl
content_own (styled.node number kind style inner next) holder =
    let own = parts_by (role_of kind style) number style (content inner) in
    parts_on own (content next) holder
    ∙ ap (λ (l : List (ℕ × ℕ)). l ++ parts_own (content next) holder) (role_own (role_of kind style) number style (content inner) (shown_holders inner) holder (content_own inner))
    ∙ ap (λ (l : List (ℕ × ℕ)). holders_by (role_of kind style) number holder (shown_holders inner) ++ l) (content_own next holder)

pub containers_stand_once : ContainersStandOnce
containers_stand_once number kind style inner next =
    made_own number style (content inner) number ∙ ap (λ (l : List (ℕ × ℕ)). (number, number) ∷ l) (content_own inner number)
