-- What is due for inputs, by computation: lines of refusal, and the steps that follow a document.
use Rattle.std.specs.Prelude.{◌≡◌, refl, codes, [], ◌∷◌, Ok, Err}
use Rattle.std.specs.Fmt.{digits}
use Rattle.html_tokens.specs.Error.{kind_word}
use Rattle.html_tokens.specs.declared.error.Refusal.TheVariants.{UnknownTag}
use Rattle.css_values.specs.Error as style_errors
use Rattle.css_values.specs.declared.error.Refusal.TheVariants.{CssSyntax}
use Rattle.edit_script.specs.Error as script_errors
use Rattle.edit_script.specs.declared.error.Refusal.TheVariants.{ScriptSyntax}
use Rattle.edit_script.specs.Meaning.{show}
use Rattle.hit_caret.specs.Error as probe_errors
use Rattle.hit_caret.specs.declared.error.Refusal.TheVariants.{TooManyEdits, ScriptSyntax as NoLine}
use Rattle.session.specs.Error.{open_word}
use Rattle.session.specs.declared.error.OpenError.TheVariants.{TooDeep}
use Rattle.edit_job.specs.Refusal.{refusal}
use Rattle.input_due.specs.Due.{cause_word, node_of}
use Rattle.input_due.specs.declared.due.Cause.TheVariants as causes
use Rattle.input_due.specs.declared.follows.Follows.TheVariants.{Nothing}
use Rattle.input_due.specs.Asked.{asked_behind, probes_at, steps, steps_at}
use Rattle.input_due.specs.Input.{longest_input}

too_long : refusal (cause_word causes.TooLong) longest_input ≡ codes "refused TooLong 1048576\n"
unfolding refusal cause_word digits
too_long = refl

no_document : refusal (cause_word (causes.Document UnknownTag)) 12 ≡ codes "refused UnknownTag 12\n"
unfolding refusal cause_word kind_word digits
no_document = refl

no_styles : refusal (cause_word (causes.Style CssSyntax)) 6 ≡ codes "refused CssSyntax 6\n"
unfolding refusal cause_word style_errors.kind_word digits
no_styles = refl

no_script : refusal (cause_word (causes.Script ScriptSyntax)) 69 ≡ codes "refused ScriptSyntax 69\n"
unfolding refusal cause_word script_errors.kind_word digits
no_script = refl

not_opened : refusal (cause_word (causes.Opening (TooDeep 64))) (node_of (TooDeep 64)) ≡ codes "refused TooDeep 64\n"
unfolding refusal cause_word open_word digits
not_opened = refl

-- the page is listed once, whatever stands there
the_page_alone : asked_behind Nothing 30 (codes "\nshow\n") ≡ Ok (steps (record { line = 1; what = show } ∷ []))
the_page_alone = refl

-- a place in a script becomes one in the input
a_place_in_the_input : steps_at 24 (Err (ScriptSyntax, 5)) ≡ Err (codes "ScriptSyntax", 29)
unfolding script_errors.kind_word
a_place_in_the_input = refl

-- so does one in a probe
a_place_of_a_probe : probes_at 24 (Err (TooManyEdits, 5)) ≡ Err (codes "TooManyEdits", 29)
unfolding probe_errors.kind_word
a_place_of_a_probe = refl

no_probe : refusal (cause_word (causes.Probe NoLine)) 69 ≡ codes "refused ScriptSyntax 69\n"
unfolding refusal cause_word probe_errors.kind_word digits
no_probe = refl
