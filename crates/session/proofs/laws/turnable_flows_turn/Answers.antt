use Rattle.session.proofs.laws.turnable_flows_turn.Goals as goal

pub returns : goal.returns
returns c = λ faces state view way turnable upright. c.unshifted_pages_turn.ensures.turn faces view way state.rules state.tree upright turnable
