use Rattle.fragment_types.specs.Fragment.{kind_of, none}
use Rattle.fragment_types.specs.declared.fragment.Fragment.{out-Fragment}
use Rattle.place_map.specs.Frame.{of_view}
use Rattle.place_map.specs.Placed as page
use Rattle.place_map.proofs.Trees.{near_root}
use Rattle.place_map.proofs.placing.place.Goals as goal

pub returns-clause-near : goal.returns-clause-near
returns-clause-near c =
    near_root (of_view c.args.view (kind_of (out-Fragment c.args.root.now).kind)) c.of_view-frame.result c.args.root.now (page.before c.in_ok-root.root page.none)
    c.requires.near c.of_view-frame.ensures (c.in_ok-root.ensures none)
