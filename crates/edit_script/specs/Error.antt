-- Why a script or a line of it is not read, as the code tells it.
use Rattle.std.specs.Prelude.{◌≡◌, ℕ, List, codes, Result, Ok, Err, ⊤}
use Rattle.html_tokens.specs.Error as html_stop
use Rattle.css_values.specs.Error as css_stop
use Rattle.reading.specs.declared.stop.Stop.TheVariants as stops
use Rattle.html_read.specs.declared.error.HtmlError.{HtmlError}
use Rattle.html_read.specs.declared.error.HtmlError.TheVariants as html_errors
use Rattle.css_values.specs.declared.error.CssError.{CssError}
use Rattle.css_values.specs.declared.error.CssError.TheVariants as css_errors
use Rattle.edit_script.specs.declared.error.Refusal.{Refusal}
use Rattle.edit_script.specs.declared.error.Refusal.TheVariants as kinds
use Rattle.edit_script.specs.declared.error.ScriptError.{ScriptError}
use Rattle.edit_script.specs.declared.error.ScriptError.TheVariants as errors
use Rattle.edit_script.specs.declared.error.Halt.{Halt}
use Rattle.edit_script.specs.declared.error.Halt.TheVariants as halts
use Rattle.edit_script.specs.Meaning.{Said}

-- places are left out
abbrev pub of_html_stop : html_stop.Stop → Halt
of_html_stop (stops.Refused kind left) = halts.Refused (kinds.Html kind)
of_html_stop stops.Memory = halts.Memory

abbrev pub of_html_error : HtmlError → Halt
of_html_error (html_errors.Refused kind place) = halts.Refused (kinds.Html kind)
of_html_error html_errors.Memory = halts.Memory

abbrev pub of_css_error : CssError → Halt
of_css_error (css_errors.Refused kind place) = halts.Refused (kinds.Css kind)
of_css_error css_errors.Memory = halts.Memory

abbrev pub Halts : {Y : Type 0} → Halt → Said Y → Type 0
Halts (halts.Refused kind) said = said ≡ Err kind
Halts halts.Memory said = ⊤

-- What a function returned, seen by `view`, is this, unless memory ran out.
abbrev pub Reads : {X Y : Type 0} → (X → Y) → Result X Halt → Said Y → Type 0
Reads view (Ok x) said = said ≡ Ok (view x)
Reads view (Err halt) said = Halts halt said

-- with the place of the line's first byte
abbrev pub told_at : (place : ℕ) → Halt → ScriptError
told_at place (halts.Refused kind) = errors.Refused kind place
told_at place halts.Memory = errors.Memory

-- the word of what is wrong, as a line of refusal has it
unfoldable pub kind_word : Refusal → List ℕ
kind_word kinds.ScriptSyntax = codes "ScriptSyntax"
kind_word kinds.TooManyEdits = codes "TooManyEdits"
kind_word kinds.TooManyShows = codes "TooManyShows"
kind_word (kinds.Html kind) = html_stop.kind_word kind
kind_word (kinds.Css kind) = css_stop.kind_word kind
