use Rattle.std.proofs.lemmas.Result.{on_ok_weaker}
use Rattle.wm_modes.specs.declared.mode.WritingMode.TheVariants.{VerticalRl, SidewaysRl, SidewaysLr}
use Rattle.place_map.specs.Placed.{placed_of}
use Rattle.page_turn.specs.Turning.{turned}
use Rattle.listing.specs.Listing.{flow_listing, listing}
use Rattle.modes_job.proofs.Pieces.{all_whole, fifth_front, first_front, fourth_front, second_front, third_front}
use Rattle.modes_job.proofs.telling.tell_modes.Goals as goal

pub returns-in_err-write_flow-clause-front : goal.returns-in_err-write_flow-clause-front
returns-in_err-write_flow-clause-front g c =
    let flow = placed_of c.args.flow.now in
    first_front (flow_listing flow) (listing flow) (listing (turned VerticalRl flow)) (listing (turned SidewaysRl flow)) (listing (turned SidewaysLr flow)) (g.K.Sink.held c.args.sink.now) (g.K.Sink.held c.write_flow.new.sink) c.write_flow.ensures.front

pub returns-in_err-write_listing-clause-front : goal.returns-in_err-write_listing-clause-front
returns-in_err-write_listing-clause-front g c =
    let flow = placed_of c.args.flow.now in
    second_front (flow_listing flow) (listing flow) (listing (turned VerticalRl flow)) (listing (turned SidewaysRl flow)) (listing (turned SidewaysLr flow)) (g.K.Sink.held c.args.sink.now) (g.K.Sink.held c.write_flow.new.sink)
    (g.K.Sink.held c.write_listing.new.sink) c.in_ok-write_flow.ensures.whole c.write_listing.ensures.front

pub returns-in_err-tell_turned-clause-front : goal.returns-in_err-tell_turned-clause-front
returns-in_err-tell_turned-clause-front g c =
    let flow = placed_of c.args.flow.now in
    third_front (flow_listing flow) (listing flow) (listing (turned VerticalRl flow)) (listing (turned SidewaysRl flow)) (listing (turned SidewaysLr flow)) (g.K.Sink.held c.args.sink.now) (g.K.Sink.held c.write_flow.new.sink)
    (g.K.Sink.held c.write_listing.new.sink) c.in_ok-write_flow.ensures.whole
    (g.K.Sink.held c.tell_turned.new.sink) c.in_ok-write_listing.ensures.whole c.tell_turned.ensures.front

pub returns-in_err-tell_turned-2-clause-front : goal.returns-in_err-tell_turned-2-clause-front
returns-in_err-tell_turned-2-clause-front g c =
    let flow = placed_of c.args.flow.now in
    fourth_front (flow_listing flow) (listing flow) (listing (turned VerticalRl flow)) (listing (turned SidewaysRl flow)) (listing (turned SidewaysLr flow)) (g.K.Sink.held c.args.sink.now) (g.K.Sink.held c.write_flow.new.sink)
    (g.K.Sink.held c.write_listing.new.sink) c.in_ok-write_flow.ensures.whole
    (g.K.Sink.held c.tell_turned.new.sink) c.in_ok-write_listing.ensures.whole
    (g.K.Sink.held c.tell_turned-2.new.sink) c.in_ok-tell_turned.ensures.whole c.tell_turned-2.ensures.front

pub returns-clause-front : goal.returns-clause-front
returns-clause-front g c =
    let flow = placed_of c.args.flow.now in
    fifth_front (flow_listing flow) (listing flow) (listing (turned VerticalRl flow)) (listing (turned SidewaysRl flow)) (listing (turned SidewaysLr flow)) (g.K.Sink.held c.args.sink.now) (g.K.Sink.held c.write_flow.new.sink)
    (g.K.Sink.held c.write_listing.new.sink) c.in_ok-write_flow.ensures.whole
    (g.K.Sink.held c.tell_turned.new.sink) c.in_ok-write_listing.ensures.whole
    (g.K.Sink.held c.tell_turned-2.new.sink) c.in_ok-tell_turned.ensures.whole
    (g.K.Sink.held c.tell_turned-3.new.sink) c.in_ok-tell_turned-2.ensures.whole c.tell_turned-3.ensures.front

pub returns-clause-whole : goal.returns-clause-whole
returns-clause-whole g c =
    let flow = placed_of c.args.flow.now in
    on_ok_weaker c.tell_turned-3.result (all_whole (flow_listing flow) (listing flow) (listing (turned VerticalRl flow)) (listing (turned SidewaysRl flow)) (listing (turned SidewaysLr flow)) (g.K.Sink.held c.args.sink.now) (g.K.Sink.held c.write_flow.new.sink)
    (g.K.Sink.held c.write_listing.new.sink) c.in_ok-write_flow.ensures.whole
    (g.K.Sink.held c.tell_turned.new.sink) c.in_ok-write_listing.ensures.whole
    (g.K.Sink.held c.tell_turned-2.new.sink) c.in_ok-tell_turned.ensures.whole
    (g.K.Sink.held c.tell_turned-3.new.sink) c.in_ok-tell_turned-2.ensures.whole) c.tell_turned-3.ensures.whole
