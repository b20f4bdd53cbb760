use Rattle.session.proofs.laws.turnable_pages_turn.Goals as goal

pub returns : goal.returns
returns c = λ faces state view way turnable upright. c.documents_have_one_flow.ensures faces view way state.rules state.tree upright turnable
