use Rattle.std.proofs.Common.{arith, ◌≡◌, ◌∙◌, ◌+◌, ◌-◌, ◌∷◌, ap, sym, refl, inl, inr, drop, get_or, false}
use Rattle.std.proofs.lemmas.Bool.{cases_order}
use Rattle.wm_chars.specs.declared.classes.BidiClass.{BidiClass}
use Rattle.wm_chars.specs.declared.classes.BidiClass.TheVariants.{L}
use Rattle.wm_chars.specs.Classes.{is_isolate_formatting}
use Rattle.std.specs.Prelude.{ℕ}
use Rattle.std.specs.List.{slice_range}
use Rattle.bidi_explicit.specs.Isolates.{kind_of}
use Rattle.bidi_explicit.specs.Ahead.{Ahead, ahead, ahead_at, found_before}
use Rattle.bidi_explicit.specs.Stack.{stacked}
use Rattle.bidi_explicit.proofs.Looking.{drop_less, plain_between, plain_rights, turns_right_found}
use Rattle.bidi_explicit.proofs.ahead.read_rights.Goals as goal

pub loop-i-preserved : goal.loop-i-preserved
loop-i-preserved c =
    let i = c.loop-i.i in
    let cs = c.args.classes.now in
    let own : BidiClass = get_or cs (i - 1) L in
    let order = c.loop-i.invariant.order in
    let within = c.loop-i.invariant.within in
    let front : drop (i - 1) cs ≡ own ∷ drop i cs = drop_less cs i (i - 1) L (omega arith) (omega arith) in
    let no : is_isolate_formatting own ≡ false = sym c.is_isolate_formatting.ensures ∙ c.if-is_isolate_formatting.false in
    record {
      scan = c.loop-i.invariant.scan;
      answers = rw front (c.loop-i.invariant.answers ∙ sym (plain_rights own (drop i cs) no));
      plain = λ k low high. elim (cases_order (i - 1) k) [
        | inl same ↦ ap (λ (p : ℕ). is_isolate_formatting (get_or cs p L)) (sym same) ∙ no
        | inr o ↦ elim o [ inl less ↦ c.loop-i.invariant.plain k (omega arith) high | inr more ↦ absurd (omega arith) ]
      ];
      order = omega arith;
      within = within;
    }

pub loop-i-preserved-then-is_isolate_formatting : goal.loop-i-preserved-then-is_isolate_formatting
loop-i-preserved-then-is_isolate_formatting c =
    let i = c.loop-i.i in
    let cs = c.args.classes.now in
    let scan = c.loop-i.scan in
    let read_from = c.loop-i.read_from in
    let own : BidiClass = get_or cs (i - 1) L in
    let order = c.loop-i.invariant.order in
    let within = c.loop-i.invariant.within in
    let front : drop (i - 1) cs ≡ own ∷ drop i cs = drop_less cs i (i - 1) L (omega arith) (omega arith) in
    let next : i - 1 + 1 ≡ i = omega arith in
    let between = plain_between cs i read_from order within c.loop-i.invariant.plain in
    let found : c.found_in.result ≡ (ahead (drop i cs)).found =
    c.found_in.ensures
    ∙ ap (λ (p : ℕ). found_before (slice_range cs p read_from) scan.found) next
    ∙ ap (λ (a : Ahead). found_before (slice_range cs i read_from) a.found) c.loop-i.invariant.scan
    ∙ ap (λ (a : Ahead). a.found) (sym between) in
    let pending : stacked scan.pending ≡ (ahead (drop i cs)).pending = ap (λ (a : Ahead). a.pending) c.loop-i.invariant.scan ∙ ap (λ (a : Ahead). a.pending) (sym between) in
    let read : ahead_at c.kind_of.result (record { found = c.found_in.result; pending = stacked scan.pending }) ≡ ahead_at (kind_of own) (ahead (drop i cs)) = rw (c.kind_of.ensures, found, pending) refl in
    record {
      scan = rw front (c.in_ok-read.ensures ∙ read);
      answers = rw front (c.in_ok-note.ensures (drop i cs) (found ∙ sym (turns_right_found (drop i cs))) c.loop-i.invariant.answers);
      plain = λ k low high. absurd (omega arith);
      order = omega arith;
      within = omega arith;
    }
