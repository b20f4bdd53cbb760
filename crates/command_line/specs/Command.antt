-- The words of a command line, and the job that they give (docs/PROFILE/commands.md): one command word,
-- and each option at most once, before or after it. The word `--` may stand once, behind all options.
use Rattle.std.specs.Prelude.{◌≡◌, ◌⊎◌, ℕ, ◌*◌, ◌≤◌, Bool, true, false, List, [], ◌∷◌, ◌++◌, map, filter, codes, ℤ, pos}
use Rattle.wm_units.specs.Numbers.{fixed}
use Rattle.reading.specs.Decimals.{IsDecimal}
use Rattle.command_line.specs.declared.job.Command.{Command}
use Rattle.command_line.specs.declared.job.Command.TheVariants.{Layout, Edit, Modes, Gen, Probe}
use Rattle.command_line.specs.declared.job.Job.{Job}

-- what a part of the line gives: the command, or the value of an option
pub data Kind : Type 0 where
  the_command : Kind
  view_inline : Kind
  view_block : Kind
  count : Kind

pub record Part : Type 0 where
  pub kind : Kind
  pub text : List ℕ

-- ---- the parts of a line

-- an option in two words or in one, with `rest` behind it
abbrev pub IsOption : (name text : List ℕ) → (words rest : List (List ℕ)) → Type 0
IsOption name text words rest = (words ≡ name ∷ text ∷ rest) ⊎ (words ≡ (name ++ codes "=" ++ text) ∷ rest)

-- a part, with `rest` behind it
abbrev pub IsPart : Kind → (text : List ℕ) → (words rest : List (List ℕ)) → Type 0
IsPart the_command text words rest = words ≡ text ∷ rest
IsPart view_inline text words rest = IsOption (codes "--view-inline") text words rest
IsPart view_block text words rest = IsOption (codes "--view-block") text words rest
IsPart count text words rest = IsOption (codes "--count") text words rest

-- the words are those of the parts in order; `--` may stand last, or last but for the command
abbrev pub IsLine : List (List ℕ) → List Part → Type 0
IsLine words [] = (words ≡ []) ⊎ (words ≡ codes "--" ∷ [])
IsLine words (part ∷ parts) = ((rest : List (List ℕ)) × IsPart part.kind part.text words rest × IsLine rest parts)
    ⊎ ((words ≡ codes "--" ∷ part.text ∷ []) × (part.kind ≡ the_command) × (parts ≡ []))

-- ---- what the parts mean

abbrev pub is_kind : Kind → Kind → Bool
is_kind the_command the_command = true
is_kind view_inline view_inline = true
is_kind view_block view_block = true
is_kind count count = true
is_kind _ _ = false

-- the texts that are given for a kind
abbrev pub given : Kind → List Part → List (List ℕ)
given kind parts = map (λ part. part.text) (filter (λ part. is_kind kind part.kind) parts)

abbrev pub command_name : Command → List ℕ
command_name Layout = codes "layout"
command_name Edit = codes "edit"
command_name Modes = codes "modes"
command_name Gen = codes "gen"
command_name Probe = codes "probe"

-- one to five digits, for a number from 1 to `most`
abbrev pub IsNumberTo : ℕ → List ℕ → ℕ → Type 0
IsNumberTo most text number = IsDecimal 5 text number × (1 ≤ number) × (number ≤ most)

-- whole pixels, in units of 1/64 px
abbrev pub px : ℕ → ℤ
px pixels = fixed (pos (100 * pixels))

-- a size of the view, from 1 px to 16,384 px
abbrev pub IsViewSize : List ℕ → ℤ → Type 0
IsViewSize text size = (pixels : ℕ) × IsNumberTo 16384 text pixels × (size ≡ px pixels)

-- an option is given at most once, and has its default where it isn't given
abbrev pub IsValue : {X : Type 0} → (List ℕ → X → Type 0) → X → List (List ℕ) → X → Type 0
IsValue Means default [] x = x ≡ default
IsValue Means default (text ∷ []) x = Means text x
IsValue Means default (text ∷ other ∷ more) x = ⊥

pub record IsJob (words : List (List ℕ)) (job : Job) : Type 0 where
  pub parts : List Part
  pub line : IsLine words parts
  pub command : given the_command parts ≡ command_name job.command ∷ []
  pub inline : IsValue IsViewSize (px 800) (given view_inline parts) job.view.inline
  pub block : IsValue IsViewSize (px 600) (given view_block parts) job.view.block
  pub count : IsValue (IsNumberTo 1000) 100 (given count parts) job.count
