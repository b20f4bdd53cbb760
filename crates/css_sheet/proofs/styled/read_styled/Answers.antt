use Rattle.css_types.specs.Rule.{styled_of}
use Rattle.html_read.specs.Values.{whole_of}
use Rattle.css_sheet.proofs.StyledLaws.{placing_counted, placing_kept, placing_none, placing_ruled, placing_styles}
use Rattle.css_sheet.proofs.styled.read_styled.Goals as goal

pub returns-clause-found : goal.returns-clause-found
returns-clause-found c = placing_styles styled_of (whole_of c.args.read.now) c.answer_styled.result c.answer_styled.ensures

pub returns-clause-refused : goal.returns-clause-refused
returns-clause-refused c = placing_none styled_of (whole_of c.args.read.now) c.answer_styled.result c.answer_styled.ensures

pub returns-clause-each : goal.returns-clause-each
returns-clause-each c = placing_counted c.args.read.now c.answer_styled.result c.answer_styled.ensures

pub returns-clause-ruled : goal.returns-clause-ruled
returns-clause-ruled c = placing_ruled styled_of (whole_of c.args.read.now) c.answer_styled.result c.answer_styled.ensures

pub returns-clause-kept : goal.returns-clause-kept
returns-clause-kept c = placing_kept styled_of (whole_of c.args.read.now) c.answer_styled.result c.answer_styled.ensures
