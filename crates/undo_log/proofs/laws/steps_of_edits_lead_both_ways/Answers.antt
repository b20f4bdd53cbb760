use Rattle.undo_log.proofs.EditLaws.{lead_both_ways}
use Rattle.undo_log.proofs.laws.steps_of_edits_lead_both_ways.Goals as goal

pub returns : goal.returns
returns c = lead_both_ways c.steps_lead_back.ensures c.steps_lead_there_again.ensures c.steps_can_be_taken_back.ensures c.steps_can_be_done_again.ensures
