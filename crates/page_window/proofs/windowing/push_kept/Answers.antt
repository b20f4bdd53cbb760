use Rattle.place_map.proofs.PartLists.{followed_push}
use Rattle.page_window.proofs.windowing.push_kept.Goals as goal

pub returns-in_ok-push : goal.returns-in_ok-push
returns-in_ok-push c next = rw (c.in_ok-push.ensures.items, c.in-Some.is) (followed_push c.args.made.now.items c.in-Some.part next)
