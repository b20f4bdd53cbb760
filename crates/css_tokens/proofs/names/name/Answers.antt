use Rattle.css_tokens.proofs.Running.{name_cut, name_strict}
use Rattle.css_tokens.proofs.names.name.Goals as goal

pub returns-clause-read : goal.returns-clause-read
returns-clause-read c =
    name_cut c.args.text.now c.as_bytes.result.now c.cut_before.result.0.now c.cut_before.result.1.now c.name_end.result.now c.as_bytes.ensures.value c.name_end.ensures.read c.cut_before.ensures.parts c.cut_before.ensures.rest

pub returns-clause-ahead : goal.returns-clause-ahead
returns-clause-ahead c = λ ahead.
    name_strict c.args.text.now c.cut_before.result.0.now c.cut_before.result.1.now ahead
    (name_cut c.args.text.now c.as_bytes.result.now c.cut_before.result.0.now c.cut_before.result.1.now c.name_end.result.now c.as_bytes.ensures.value c.name_end.ensures.read c.cut_before.ensures.parts c.cut_before.ensures.rest)
