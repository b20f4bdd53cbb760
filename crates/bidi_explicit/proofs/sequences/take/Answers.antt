use Rattle.std.proofs.Common.{rules, ◌≡◌, ◌∷◌, ◌++◌, ◌∙◌, sym, ap, [], List, ℕ, length, refl, max}
use Rattle.std.proofs.lemmas.List.{get_or_read}
use Rattle.bidi_explicit.specs.declared.paragraph.RunSpan.{RunSpan}
use Rattle.bidi_explicit.specs.Links.{before_at, behind_at, sequence_by}
use Rattle.bidi_explicit.specs.Sequences.{direction, last_of, level_in}
use Rattle.bidi_explicit.proofs.Spans.{spans_taken}
use Rattle.bidi_explicit.proofs.sequences.take.Goals as goal

pub returns-clause-taken : goal.returns-clause-taken
returns-clause-taken c = λ places f.
    let flat = c.args.flat.now in
    let level : ℕ → ℕ = level_in c.args.levels.now.level.items in
    let links = c.args.links.now in
    let own : ℕ = level c.args.first in
    let all : List ℕ = c.take_places.new.taken.items in
    let span : RunSpan = record { start = c.len-start.result; stop = c.len.result; sos = c.direction.result; eos = c.direction-2.result } in
    let grown : all ≡ flat.places.items ++ c.args.first ∷ places = c.in_ok-last.ensures.places places f in
    let last : c.in_ok-last.last ≡ last_of c.args.first places = c.in_ok-last.ensures.last places f in
    let start : c.len-start.result ≡ length flat.places.items = search rules in
    let stop : c.len.result ≡ length all = search rules in
    let more : c.push.new.self.items ≡ flat.spans.items ++ span ∷ [] = c.in_ok-push.ensures.items in
    let at : c.index-level.result.now ≡ own = get_or_read c.args.levels.now.level.items c.args.first c.index-level.result.now c.requires.level c.index-level.ensures 0 in
    let sos : direction (max own (before_at c.args.levels.now c.args.first)) ≡ c.direction.result =
    sym (c.direction.ensures ∙ ap direction (c.max.ensures ∙ ap (λ (n : ℕ). max n c.level_before-before.result) at ∙ ap (λ (n : ℕ). max own n) c.level_before-before.ensures)) in
    let behind : ℕ = behind_at links c.in_ok-last.last in
    let eos : direction (max own (behind_at links (last_of c.args.first places))) ≡ c.direction-2.result =
    ap (λ (p : ℕ). direction (max own (behind_at links p))) (sym last) ∙ sym (c.direction-2.ensures ∙ ap direction (c.max-2.ensures ∙ ap (λ (n : ℕ). max n behind) at)) in
    spans_taken flat.places.items (c.args.first ∷ places) all flat.spans.items c.push.new.self.items span c.requires.spans grown start stop more
    (sequence_by level links c.args.first places (before_at c.args.levels.now c.args.first)) refl sos eos
