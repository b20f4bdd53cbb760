use Rattle.io_edge.proofs.Growth.{nothing_yet}
use Rattle.place_map.specs.Placed.{placed_of}
use Rattle.page_turn.specs.Turning.{turned}
use Rattle.listing.specs.Listing.{listing}
use Rattle.modes_job.proofs.telling.tell_turned.Goals as goal

pub returns-in_err-page-clause-front : goal.returns-in_err-page-clause-front
returns-in_err-page-clause-front g c = nothing_yet (g.K.Sink.held c.args.sink.now) (listing (turned c.args.mode (placed_of c.args.flow.now)))
