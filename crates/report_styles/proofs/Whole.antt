-- What is written for a document that is read, and for one that is refused.
use Rattle.std.proofs.Common.{◌≡◌, ℕ, List, length, ◌≤◌, Ok, Err, refl, ap, subst, sym, ◌∙◌}
use Rattle.std.specs.Prelude.{Option, flat_map, take}
use Rattle.std.specs.Io.KnownBytes.{Appends}
use Rattle.std.proofs.lemmas.List.Folds.{flat_map-map}
use Rattle.std.proofs.lemmas.List.{take_all}
use Rattle.html_tokens.specs.declared.error.Refusal.{Refusal}
use Rattle.html_tokens.specs.Error.{kind_word}
use Rattle.html_read.specs.Error.{IsRefused, place_in}
use Rattle.html_read.specs.declared.error.HtmlError.{HtmlError}
use Rattle.html_read.specs.declared.error.HtmlError.TheVariants as errors
use Rattle.html_read.specs.Reading.{input}
use Rattle.html_read.specs.Values.{Whole}
use Rattle.report_lines.specs.Refusal.{refused_line}
use Rattle.report_styles.specs.Lines.{line, report_of}
use Rattle.report_styles.specs.Told.{Told, told_of_document}
use Rattle.report_styles.specs.Views.{all_of, told_of}
use Rattle.report_styles.specs.declared.telling.Told as code

-- the line of each, once all are taken
pub all_written : (old new : Option (List ℕ)) (told : List code.Told) (i : ℕ) → length told ≤ i → Appends old new (flat_map (λ one. line (told_of one)) (take i told)) → Appends old new (flat_map line (all_of told))
all_written old new told i le is =
    subst (Appends old new) (ap (λ (l : List code.Told). flat_map (λ one. line (told_of one)) l) (take_all i told le) ∙ sym (flat_map-map line told_of told)) is

pub whole_report : (bytes rest : List ℕ) (whole : Whole) (told : List Told) → input bytes ≡ Ok (whole, rest) → told ≡ told_of_document whole → flat_map line told ≡ report_of bytes
unfolding report_of
whole_report bytes rest whole told read e = rw (read, e) refl

refusal_told : (bytes left word : List ℕ) (kind : Refusal) (place : ℕ) → input bytes ≡ Err (kind, left) → word ≡ kind_word kind → place ≡ place_in (length bytes) left → refused_line word place ≡ report_of bytes
unfolding report_of
refusal_told bytes left word kind place read w p = rw (read, w, p) refl

pub refused_report : (bytes word : List ℕ) (error : HtmlError) (kind : Refusal) (place : ℕ) → error ≡ errors.Refused kind place → IsRefused (length bytes) error (input bytes) → word ≡ kind_word kind
    → refused_line word place ≡ report_of bytes
refused_report bytes word error kind place same is w =
    let there : IsRefused (length bytes) (errors.Refused kind place) (input bytes) = subst (λ (e : HtmlError). IsRefused (length bytes) e (input bytes)) same is in
    refusal_told bytes there.0 word kind place there.1 w there.2
