use Rattle.std.proofs.Common.{ap}
use Rattle.std.proofs.lemmas.Result.{err_from_is_err_and}
use Rattle.css_types.specs.Rule.{styled_of}
use Rattle.html_read.specs.Values.{nodes_of, sheets_of}
use Rattle.edit_script.proofs.Bringing.{styles_read, styles_refused}
use Rattle.edit_script.proofs.meaning.new_nodes.Goals as goal

pub returns-in_err-styled-clause-read : goal.returns-in_err-styled-clause-read
returns-in_err-styled-clause-read c =
    let p = err_from_is_err_and c.from_residual-in_err-styled.result c.from_residual-in_err-styled.ensures.1 in
    rw (p.1, p.2) (styles_refused c.in_err-styled.field-0.0 c.args.text.now c.in_ok-read_fragment.ensures.read.0 (nodes_of c.in_ok-read_fragment.field-0.items) (sheets_of c.new.result.items)
    (ap sheets_of c.new.ensures.items) c.in_ok-read_fragment.ensures.read.1 c.in_err-styled.ensures.read)

pub returns-clause-read : goal.returns-clause-read
returns-clause-read c =
    styles_read (styled_of c.in_ok-styled.styled) c.args.text.now c.in_ok-read_fragment.ensures.read.0 (nodes_of c.in_ok-read_fragment.field-0.items) (sheets_of c.new.result.items)
    (ap sheets_of c.new.ensures.items) c.in_ok-read_fragment.ensures.read.1 c.in_ok-styled.ensures.read
