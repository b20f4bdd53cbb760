-- What stands in the box of a container: its anonymous blocks, and the boxes of its content, each with all inside it.
use Rattle.std.proofs.Common.{◌≡◌, ◌⊎◌, ℕ, zero, suc, Bool, true, false, List, [], ◌∷◌, ◌++◌, refl, ap, sym, subst, arith, Option, Some, inl, inr}
use Rattle.std.proofs.lemmas.Bool.{false≢true}
use Rattle.style_types.specs.declared.style.Style.{Style}
use Rattle.box_gen.specs.declared.opened.Opened.{Opened}
use Rattle.box_gen.specs.Boxes.{Blocks, Run, Role, anonymous, atom, block_level, container, inline_box, join, line_break, made, no_more, nothing, parts_by, runs, stacked, then, without_innermost, words, wrapped}
use Rattle.box_gen.specs.Parts as part
use Rattle.box_gen.specs.Parts.{Part, has_block}
use Rattle.box_gen.specs.Places.{IsAmong, Place, RunAlike, tree_of}
use Rattle.box_gen.specs.Tree.{Boxes, box, none}
use Rattle.box_gen.proofs.ContainerLaws.{AreSound, IsSound, runs_sound}
use Rattle.edit_scope.specs.Boxes.{Shell, anonymous_among, if_anonymous, own_boxes}
use Rattle.edit_scope.proofs.ShellLaws.{join_among}

-- ---- boxes that stand one after the other

join_split : (around : Option Style) (boxes others : Boxes) (place : Place) → IsAmong around (join boxes others) place → IsAmong around boxes place ⊎ IsAmong around others place
unfolding join
join_split around none others place there = inr there
join_split around (box name style content inner next) others place (inl is) = inl (inl is)
join_split around (box name style content inner next) others place (inr (inl inside)) = inl (inr (inl inside))
join_split around (box name style content inner next) others place (inr (inr beside)) = elim (join_split around next others place beside) [
  | inl one ↦ inl (inr (inr one))
  | inr two ↦ inr two
]

join_first : (around : Option Style) (boxes others : Boxes) (place : Place) → IsAmong around boxes place → IsAmong around (join boxes others) place
unfolding join
join_first around none others place there = absurd there
join_first around (box name style content inner next) others place (inl is) = inl is
join_first around (box name style content inner next) others place (inr (inl inside)) = inr (inl inside)
join_first around (box name style content inner next) others place (inr (inr beside)) = inr (inr (join_first around next others place beside))

join_second : (around : Option Style) (boxes others : Boxes) (place : Place) → IsAmong around others place → IsAmong around (join boxes others) place
unfolding join
join_second around none others place there = there
join_second around (box name style content inner next) others place there = inr (inr (join_second around next others place there))

-- ---- the boxes of parts

abbrev pub IsOwnOf : List Part → Boxes → Type 0
IsOwnOf [] own = ⊥
IsOwnOf (part.words number letters style ∷ parts) own = IsOwnOf parts own
IsOwnOf (part.line_break number ∷ parts) own = IsOwnOf parts own
IsOwnOf (part.atom number its ∷ parts) own = (its ≡ own) ⊎ IsOwnOf parts own
IsOwnOf (part.block_level its ∷ parts) own = (its ≡ own) ⊎ IsOwnOf parts own
IsOwnOf (part.starts number style ∷ parts) own = IsOwnOf parts own
IsOwnOf (part.stops number is_cut ∷ parts) own = IsOwnOf parts own

own_later : (first : Part) (parts : List Part) (own : Boxes) → IsOwnOf parts own → IsOwnOf (first ∷ parts) own
own_later (part.words number letters style) parts own one = one
own_later (part.line_break number) parts own one = one
own_later (part.atom number its) parts own one = inr one
own_later (part.block_level its) parts own one = inr one
own_later (part.starts number style) parts own one = one
own_later (part.stops number is_cut) parts own one = one

pub own_first : (parts others : List Part) (own : Boxes) → IsOwnOf parts own → IsOwnOf (parts ++ others) own
own_first [] others own one = absurd one
own_first (part.words number letters style ∷ parts) others own one = own_first parts others own one
own_first (part.line_break number ∷ parts) others own one = own_first parts others own one
own_first (part.atom number its ∷ parts) others own (inl is) = inl is
own_first (part.atom number its ∷ parts) others own (inr later) = inr (own_first parts others own later)
own_first (part.block_level its ∷ parts) others own (inl is) = inl is
own_first (part.block_level its ∷ parts) others own (inr later) = inr (own_first parts others own later)
own_first (part.starts number style ∷ parts) others own one = own_first parts others own one
own_first (part.stops number is_cut ∷ parts) others own one = own_first parts others own one

pub own_second : (parts others : List Part) (own : Boxes) → IsOwnOf others own → IsOwnOf (parts ++ others) own
own_second [] others own one = one
own_second (first ∷ parts) others own one = own_later first (parts ++ others) own (own_second parts others own one)

pub own_either : (parts others : List Part) (own : Boxes) → IsOwnOf (parts ++ others) own → IsOwnOf parts own ⊎ IsOwnOf others own
own_either [] others own one = inr one
own_either (part.words number letters style ∷ parts) others own one = own_either parts others own one
own_either (part.line_break number ∷ parts) others own one = own_either parts others own one
own_either (part.atom number its ∷ parts) others own (inl is) = inl (inl is)
own_either (part.atom number its ∷ parts) others own (inr later) = elim (own_either parts others own later) [
  | inl first ↦ inl (inr first)
  | inr second ↦ inr second
]
own_either (part.block_level its ∷ parts) others own (inl is) = inl (inl is)
own_either (part.block_level its ∷ parts) others own (inr later) = elim (own_either parts others own later) [
  | inl first ↦ inl (inr first)
  | inr second ↦ inr second
]
own_either (part.starts number style ∷ parts) others own one = own_either parts others own one
own_either (part.stops number is_cut ∷ parts) others own one = own_either parts others own one

-- ---- roles

abbrev pub is_inline : Role → Bool
is_inline nothing = false
is_inline (words letters) = false
is_inline line_break = false
is_inline inline_box = true
is_inline atom = false
is_inline block_level = false

-- it makes a box of its own
abbrev pub is_box : Role → Bool
is_box nothing = false
is_box (words letters) = false
is_box line_break = false
is_box inline_box = false
is_box atom = true
is_box block_level = true

-- a node of a role that makes boxes has its own, or what is inside it has them
pub own_of : (role : Role) (number : ℕ) (style : Style) (inner : List Part) (own : Boxes) → IsOwnOf (parts_by role number style inner) own
    → ((is_inline role ≡ true) × IsOwnOf inner own) ⊎ ((is_box role ≡ true) × (own ≡ made number style inner))
own_of nothing number style inner own one = absurd one
own_of (words letters) number style inner own one = absurd one
own_of line_break number style inner own one = absurd one
own_of inline_box number style inner own one = elim (own_either inner (part.stops number (has_block inner) ∷ []) own one) [
  | inl inside ↦ inl (refl, inside)
  | inr nowhere ↦ absurd nowhere
]
own_of atom number style inner own (inl is) = inr (refl, sym is)
own_of atom number style inner own (inr nowhere) = absurd nowhere
own_of block_level number style inner own (inl is) = inr (refl, sym is)
own_of block_level number style inner own (inr nowhere) = absurd nowhere

pub own_inline : (role : Role) (number : ℕ) (style : Style) (inner : List Part) (own : Boxes) → is_inline role ≡ true → IsOwnOf inner own → IsOwnOf (parts_by role number style inner) own
own_inline nothing number style inner own is one = absurd (false≢true is)
own_inline (words letters) number style inner own is one = absurd (false≢true is)
own_inline line_break number style inner own is one = absurd (false≢true is)
own_inline inline_box number style inner own is one = own_first inner (part.stops number (has_block inner) ∷ []) own one
own_inline atom number style inner own is one = absurd (false≢true is)
own_inline block_level number style inner own is one = absurd (false≢true is)

pub own_made : (role : Role) (number : ℕ) (style : Style) (inner : List Part) → is_box role ≡ true → IsOwnOf (parts_by role number style inner) (made number style inner)
own_made nothing number style inner is = absurd (false≢true is)
own_made (words letters) number style inner is = absurd (false≢true is)
own_made line_break number style inner is = absurd (false≢true is)
own_made inline_box number style inner is = absurd (false≢true is)
own_made atom number style inner is = inl refl
own_made block_level number style inner is = inl refl

-- ---- boxes whose lines run alike

same_runs : (style : Style) → RunAlike style style
same_runs style = record { mode = refl; direction = refl; orientation = refl }

anonymous_runs : (style : Style) → RunAlike (anonymous style) style
anonymous_runs style = record { mode = refl; direction = refl; orientation = refl }

-- ---- runs

module _ (style : Style) where
  -- it stands in one of these blocks, or in a run behind one
  abbrev IsInBlocks : Blocks → Place → Type 0
  IsInBlocks no_more place = ⊥
  IsInBlocks (then block run others) place = IsAmong (Some style) block place ⊎ (IsAmong (Some (anonymous style)) run.atoms place ⊎ IsInBlocks others place)

  -- it stands in the box of one of these parts, which stands in a box whose lines run as those of this style
  pub record IsInside (parts : List Part) (place : Place) : Type 0 where
    pub own : Boxes
    pub around : Style
    pub one : IsOwnOf parts own
    pub alike : RunAlike around style
    pub there : IsAmong (Some around) own place

  inside_later : (first : Part) (parts : List Part) (place : Place) → IsInside parts place → IsInside (first ∷ parts) place
  inside_later first parts place i = record { own = i.own; around = i.around; one = own_later first parts i.own i.one; alike = i.alike; there = i.there }

  module _ (place : Place) where
    first_inside : (around : Style) → RunAlike around style → (opened : List Opened) (parts : List Part) → IsAmong (Some around) (runs opened parts).first.atoms place → IsInside parts place
    unfolding runs join
    first_inside around alike opened [] there = absurd there
    first_inside around alike opened (part.words number letters its ∷ parts) there = inside_later (part.words number letters its) parts place (first_inside around alike opened parts there)
    first_inside around alike opened (part.line_break number ∷ parts) there = inside_later (part.line_break number) parts place (first_inside around alike opened parts there)
    first_inside around alike opened (part.atom number own ∷ parts) there = elim (join_split (Some around) own (runs opened parts).first.atoms place there) [
      | inl here ↦ record { own = own; around = around; one = inl refl; alike = alike; there = here }
      | inr later ↦ inside_later (part.atom number own) parts place (first_inside around alike opened parts later)
    ]
    first_inside around alike opened (part.block_level own ∷ parts) there = absurd there
    first_inside around alike opened (part.starts number its ∷ parts) there =
        inside_later (part.starts number its) parts place (first_inside around alike ((record { node = number; style = its }) ∷ opened) parts there)
    first_inside around alike opened (part.stops number is_cut ∷ parts) there = inside_later (part.stops number is_cut) parts place (first_inside around alike (without_innermost opened) parts there)

    rest_inside : (opened : List Opened) (parts : List Part) → IsInBlocks (runs opened parts).others place → IsInside parts place
    unfolding runs join
    rest_inside opened [] there = absurd there
    rest_inside opened (part.words number letters its ∷ parts) there = inside_later (part.words number letters its) parts place (rest_inside opened parts there)
    rest_inside opened (part.line_break number ∷ parts) there = inside_later (part.line_break number) parts place (rest_inside opened parts there)
    rest_inside opened (part.atom number own ∷ parts) there = inside_later (part.atom number own) parts place (rest_inside opened parts there)
    rest_inside opened (part.block_level own ∷ parts) (inl here) = record { own = own; around = style; one = inl refl; alike = same_runs style; there = here }
    rest_inside opened (part.block_level own ∷ parts) (inr (inl behind)) =
        inside_later (part.block_level own) parts place (first_inside (anonymous style) (anonymous_runs style) opened parts behind)
    rest_inside opened (part.block_level own ∷ parts) (inr (inr later)) = inside_later (part.block_level own) parts place (rest_inside opened parts later)
    rest_inside opened (part.starts number its ∷ parts) there = inside_later (part.starts number its) parts place (rest_inside ((record { node = number; style = its }) ∷ opened) parts there)
    rest_inside opened (part.stops number is_cut ∷ parts) there = inside_later (part.stops number is_cut) parts place (rest_inside (without_innermost opened) parts there)

  -- where such a box stands, all that stands in it is there
  abbrev pub Hosts : (own : Boxes) (IsThere : Place → Type 0) → Type 0
  Hosts own IsThere = (around : Style) × RunAlike around style × ((place : Place) → IsAmong (Some around) own place → IsThere place)

  abbrev Sits : (opened : List Opened) (parts : List Part) (own : Boxes) → Type 0
  Sits opened parts own =
      ((around : Option Style) (place : Place) → IsAmong around own place → IsAmong around (runs opened parts).first.atoms place) ⊎ Hosts own (IsInBlocks (runs opened parts).others)

  sits : (opened : List Opened) (parts : List Part) (own : Boxes) → IsOwnOf parts own → Sits opened parts own
  unfolding runs join
  sits opened [] own one = absurd one
  sits opened (part.words number letters its ∷ parts) own one = sits opened parts own one
  sits opened (part.line_break number ∷ parts) own one = sits opened parts own one
  sits opened (part.atom number its ∷ parts) own (inl is) =
      inl (λ around place there. join_first around its (runs opened parts).first.atoms place (subst (λ (b : Boxes). IsAmong around b place) (sym is) there))
  sits opened (part.atom number its ∷ parts) own (inr later) = elim (sits opened parts own later) [
    | inl first ↦ inl (λ around place there. join_second around its (runs opened parts).first.atoms place (first around place there))
    | inr rest ↦ inr rest
  ]
  sits opened (part.block_level its ∷ parts) own (inl is) = inr (style, same_runs style, λ place there. inl (subst (λ (b : Boxes). IsAmong (Some style) b place) (sym is) there))
  sits opened (part.block_level its ∷ parts) own (inr later) = elim (sits opened parts own later) [
    | inl first ↦ inr (anonymous style, anonymous_runs style, λ place there. inr (inl (first (Some (anonymous style)) place there)))
    | inr (around, alike, hosts) ↦ inr (around, alike, λ place there. inr (inr (hosts place there)))
  ]
  sits opened (part.starts number its ∷ parts) own one = sits ((record { node = number; style = its }) ∷ opened) parts own one
  sits opened (part.stops number is_cut ∷ parts) own one = sits (without_innermost opened) parts own one

-- ---- shells

-- a box without those inside it
abbrev pub shell_of : Place → Shell
shell_of place = record { name = place.name; style = place.style; content = place.content }

abbrev pub IsShell : Shell → List Shell → Type 0
IsShell shell [] = ⊥
IsShell shell (other ∷ others) = (other ≡ shell) ⊎ IsShell shell others

shell_second : (shell : Shell) (one two : List Shell) → IsShell shell two → IsShell shell (one ++ two)
shell_second shell [] two there = there
shell_second shell (other ∷ one) two there = inr (shell_second shell one two there)

if_in : (ordinal : ℕ) (own shell : Shell) (others : List Shell) → IsShell shell (if_anonymous ordinal own others) → (own ≡ shell) ⊎ IsShell shell others
if_in zero own shell others there = inr there
if_in (suc ordinal) own shell others there = there

anonymous_there : (around : Option Style) (boxes : Boxes) (shell : Shell) → IsShell shell (anonymous_among boxes) → (place : Place) × IsAmong around boxes place × (shell_of place ≡ shell)
unfolding anonymous_among
anonymous_there around none shell there = absurd there
anonymous_there around (box name style content inner next) shell there = elim (if_in name.ordinal (record { name = name; style = style; content = content }) shell (anonymous_among next) there) [
  | inl is ↦ (record { around = around; name = name; style = style; content = content; inner = inner }, inl refl, is)
  | inr later ↦ let (place, stands, is) = anonymous_there around next shell later in (place, inr (inr stands), is)
]

anonymous_later : (ordinal : ℕ) (first shell : Shell) (others : List Shell) → first.name.ordinal ≡ ordinal → shell.name.ordinal ≡ 0 → IsShell shell (if_anonymous ordinal first others) → IsShell shell others
anonymous_later zero first shell others is own there = there
anonymous_later (suc ordinal) first shell others is own (inl same) = absurd (omega (arith, is, ap (λ (s : Shell). s.name.ordinal) same, own))
anonymous_later (suc ordinal) first shell others is own (inr later) = later

-- an anonymous block is no element's own box
pub no_own : (boxes : Boxes) (shell : Shell) → shell.name.ordinal ≡ 0 → IsShell shell (anonymous_among boxes) → ⊥
unfolding anonymous_among
no_own none shell own there = there
no_own (box name style content inner next) shell own there =
    no_own next shell own (anonymous_later name.ordinal (record { name = name; style = style; content = content }) shell (anonymous_among next) refl own there)

-- a box and the anonymous blocks right in it stand where it stands
pub shell_there : (around : Option Style) (boxes : Boxes) (shell : Shell) → IsShell shell (own_boxes boxes) → (place : Place) × IsAmong around boxes place × (shell_of place ≡ shell)
shell_there around none shell there = absurd there
shell_there around (box name style content inner next) shell (inl is) = (record { around = around; name = name; style = style; content = content; inner = inner }, inl refl, is)
shell_there around (box name style content inner next) shell (inr later) = let (place, stands, is) = anonymous_there (Some style) inner shell later in (place, inr (inl stands), is)

-- ---- a container

abbrev pub inner_of : Boxes → Boxes
inner_of none = none
inner_of (box name style content inner next) = inner

-- an anonymous block right in a box is one of those that this holds
pub right_shell : (own : Boxes) (shell : Shell) → IsShell shell (anonymous_among (inner_of own)) → IsShell shell (own_boxes own)
unfolding anonymous_among
right_shell none shell there = absurd there
right_shell (box name style content inner next) shell there = inr there

module _ (number : ℕ) (style : Style) where
  -- an anonymous block of it
  abbrev pub IsAnonymous : Boxes → Place → Type 0
  IsAnonymous boxes place = (place.name.node ≡ number) × IsShell (shell_of place) (anonymous_among boxes)

  module _ (place : Place) where
    abbrev There : Boxes → Type 0
    There boxes = IsAmong (Some style) boxes place

    wrapped_atoms : (blank : Bool) (ordinal : ℕ) (run : Run) (others : ℕ → Boxes) → run.blank ≡ blank → IsSound run → IsAmong (Some (anonymous style)) run.atoms place
        → There (wrapped blank number ordinal style run others)
    wrapped_atoms true ordinal run others is sound there = absurd (subst (λ (b : Boxes). IsAmong (Some (anonymous style)) b place) (sound is) there)
    wrapped_atoms false ordinal run others is sound there = inr (inl there)

    wrapped_others : (blank : Bool) (ordinal : ℕ) (run : Run) (others : ℕ → Boxes) → ((n : ℕ) → There (others n)) → There (wrapped blank number ordinal style run others)
    wrapped_others true ordinal run others there = there ordinal
    wrapped_others false ordinal run others there = inr (inr (there (suc ordinal)))

    stacked_there : (held : Blocks) (ordinal : ℕ) → AreSound held → IsInBlocks style held place → There (stacked number style held ordinal)
    unfolding stacked AreSound
    stacked_there no_more ordinal sound there = absurd there
    stacked_there (then block run others) ordinal sound (inl here) = join_first (Some style) block (wrapped run.blank number ordinal style run (stacked number style others)) place here
    stacked_there (then block run others) ordinal sound (inr (inl behind)) =
        join_second (Some style) block (wrapped run.blank number ordinal style run (stacked number style others)) place
        (wrapped_atoms run.blank ordinal run (stacked number style others) refl sound.0 behind)
    stacked_there (then block run others) ordinal sound (inr (inr later)) =
        join_second (Some style) block (wrapped run.blank number ordinal style run (stacked number style others)) place
        (wrapped_others run.blank ordinal run (stacked number style others) (λ n. stacked_there others n sound.1 later))

    -- an anonymous block, or inside one, or another
    abbrev IsIn : (run : Run) (others : Blocks) (boxes : Boxes) → Type 0
    IsIn run others boxes = IsAnonymous boxes place ⊎ (IsAmong (Some (anonymous style)) run.atoms place ⊎ IsInBlocks style others place)

    wrapped_split : (blank : Bool) (ordinal : ℕ) (run : Run) (held : Blocks) (others : ℕ → Boxes) → ((n : ℕ) → There (others n) → IsAnonymous (others n) place ⊎ IsInBlocks style held place)
        → There (wrapped blank number ordinal style run others) → IsIn run held (wrapped blank number ordinal style run others)
    unfolding anonymous_among
    wrapped_split true ordinal run held others each there = elim (each ordinal there) [
      | inl (node, shell) ↦ inl (node, shell)
      | inr later ↦ inr (inr later)
    ]
    wrapped_split false ordinal run held others each (inl is) = inl (ap (λ (p : Place). p.name.node) is, inl (sym (ap shell_of is)))
    wrapped_split false ordinal run held others each (inr (inl inside)) = inr (inl inside)
    wrapped_split false ordinal run held others each (inr (inr beside)) = elim (each (suc ordinal) beside) [
      | inl (node, shell) ↦ inl (node, inr shell)
      | inr later ↦ inr (inr later)
    ]

    stacked_split : (held : Blocks) (ordinal : ℕ) → There (stacked number style held ordinal) → IsAnonymous (stacked number style held ordinal) place ⊎ IsInBlocks style held place
    unfolding stacked
    stacked_split no_more ordinal there = absurd there
    stacked_split (then block run others) ordinal there =
        let rest = wrapped run.blank number ordinal style run (stacked number style others) in
        elim (join_split (Some style) block rest place there) [
          | inl here ↦ inr (inl here)
          | inr later ↦ elim (wrapped_split run.blank ordinal run others (stacked number style others) (stacked_split others) later) [
            | inl (node, shell) ↦ inl (node, subst (IsShell (shell_of place)) (sym (join_among block rest)) (shell_second (shell_of place) (anonymous_among block) (anonymous_among rest) shell))
            | inr (inl behind) ↦ inr (inr (inl behind))
            | inr (inr others) ↦ inr (inr (inr others))
          ]
        ]

  -- ---- its box

  -- right in the box of the container there is one of its anonymous blocks
  abbrev pub IsRightIn : Boxes → Place → Type 0
  IsRightIn own place = IsAnonymous (inner_of own) place × IsAmong (Some style) (inner_of own) place

  abbrev IsItself : (around : Option Style) (own : Boxes) → Place → Type 0
  IsItself around own place = (place.name.node ≡ number) × (place.around ≡ around) × (tree_of place ≡ own)

  module _ (parts : List Part) where
    container_split : (around : Option Style) (place : Place) (first : Run) (others : Blocks)
        → ((s : Style) → RunAlike s style → IsAmong (Some s) first.atoms place → IsInside style parts place) → (IsInBlocks style others place → IsInside style parts place)
        → IsAmong around (container number style first others) place
        → IsItself around (container number style first others) place ⊎ (IsRightIn (container number style first others) place ⊎ IsInside style parts place)
    container_split around place first no_more in_first in_rest (inl is) = inl (ap (λ (p : Place). p.name.node) is, ap (λ (p : Place). p.around) is, ap tree_of is)
    container_split around place first no_more in_first in_rest (inr (inl inside)) = inr (inr (in_first style (same_runs style) inside))
    container_split around place first no_more in_first in_rest (inr (inr beside)) = absurd beside
    container_split around place first (then block run others) in_first in_rest (inl is) = inl (ap (λ (p : Place). p.name.node) is, ap (λ (p : Place). p.around) is, ap tree_of is)
    container_split around place first (then block run others) in_first in_rest (inr (inl inside)) =
        let rest = then block run others in
        elim (wrapped_split place first.blank 0 first rest (stacked number style rest) (stacked_split place rest) inside) [
          | inl one ↦ inr (inl (one, inside))
          | inr (inl behind) ↦ inr (inr (in_first (anonymous style) (anonymous_runs style) behind))
          | inr (inr others) ↦ inr (inr (in_rest others))
        ]
    container_split around place first (then block run others) in_first in_rest (inr (inr beside)) = absurd beside

    container_hosts : (own : Boxes) (first : Run) (others : Blocks) → IsSound first → AreSound others
        → ((around : Option Style) (place : Place) → IsAmong around own place → IsAmong around first.atoms place) ⊎ Hosts style own (IsInBlocks style others)
        → (around : Style) × RunAlike around style × ((outer : Option Style) (place : Place) → IsAmong (Some around) own place → IsAmong outer (container number style first others) place)
    container_hosts own first no_more sound each (inl in_first) = (style, same_runs style, λ outer place there. inr (inl (in_first (Some style) place there)))
    container_hosts own first no_more sound each (inr (around, alike, in_rest)) = (around, alike, λ outer place there. absurd (in_rest place there))
    container_hosts own first (then block run others) sound each (inl in_first) = (
      anonymous style,
      anonymous_runs style,
      λ outer place there. inr (inl (wrapped_atoms place first.blank 0 first (stacked number style (then block run others)) refl sound (in_first (Some (anonymous style)) place there))),
    )
    container_hosts own first (then block run others) sound each (inr (around, alike, in_rest)) = (
      around,
      alike,
      λ outer place there. inr (inl (wrapped_others place first.blank 0 first (stacked number style (then block run others)) (λ n. stacked_there place (then block run others) n each (in_rest place there)))),
    )

  pub inner_there : (parts : List Part) (around : Option Style) (place : Place) → IsAmong (Some style) (inner_of (made number style parts)) place → IsAmong around (made number style parts) place
  inner_there parts around place there = by (runs [] parts).first (runs [] parts).others there
    where
      by : (first : Run) (others : Blocks) → IsAmong (Some style) (inner_of (container number style first others)) place → IsAmong around (container number style first others) place
      by first no_more there = inr (inl there)
      by first (then block run others) there = inr (inl there)

  -- what stands in it
  pub made_split : (parts : List Part) (around : Option Style) (place : Place) → IsAmong around (made number style parts) place
      → IsItself around (made number style parts) place ⊎ (IsRightIn (made number style parts) place ⊎ IsInside style parts place)
  made_split parts around place there =
      container_split parts around place (runs [] parts).first (runs [] parts).others (λ s alike. first_inside style place s alike [] parts) (rest_inside style place [] parts) there

  pub made_hosts : (parts : List Part) (own : Boxes) → IsOwnOf parts own
      → (around : Style) × RunAlike around style × ((outer : Option Style) (place : Place) → IsAmong (Some around) own place → IsAmong outer (made number style parts) place)
  made_hosts parts own one =
      let sound = runs_sound [] parts in
      container_hosts parts own (runs [] parts).first (runs [] parts).others sound.0 sound.1 (sits style [] parts own one)
