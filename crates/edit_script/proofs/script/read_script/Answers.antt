use Rattle.edit_script.specs.Views.{steps_of}
use Rattle.edit_script.proofs.FittingLaws.{told_bytes}
use Rattle.edit_script.proofs.AnsweredLaws.{told_no_script, told_script}
use Rattle.edit_script.proofs.script.read_script.Goals as goal

pub returns-clause-found : goal.returns-clause-found
returns-clause-found c =
    told_script (record { fragments = c.fragments_spell.ensures.spelled; sheets = c.sheets_spell.ensures.sheets }) (λ script. steps_of script.items) c.args.start c.args.text.now c.answer_script.result c.answer_script.ensures.told

pub returns-clause-refused : goal.returns-clause-refused
returns-clause-refused c =
    told_no_script (record { fragments = c.fragments_spell.ensures.spelled; sheets = c.sheets_spell.ensures.sheets }) (λ script. steps_of script.items) c.args.start c.args.text.now c.answer_script.result c.answer_script.ensures.told

pub returns-clause-bytes : goal.returns-clause-bytes
returns-clause-bytes c =
    told_bytes c.scripts_bring_no_more.ensures (record { fragments = c.fragments_spell.ensures.spelled; sheets = c.sheets_spell.ensures.sheets }) (λ script. steps_of script.items) c.args.start c.args.text.now c.answer_script.result c.answer_script.ensures.told
