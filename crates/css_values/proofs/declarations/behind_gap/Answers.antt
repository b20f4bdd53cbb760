use Rattle.std.proofs.Common.{rules, arith, subst, sym}
use Rattle.std.proofs.lemmas.Result.{err_from_is_err_and}
use Rattle.css_values.proofs.Listing.{IsListing, going, ended, listing_starts, listing_goes_on, listing_stops, listing_ends}
use Rattle.css_values.proofs.declarations.behind_gap.Goals as goal

pub loop-alloc-init : goal.loop-alloc-init
loop-alloc-init c = (
  search rules,
  subst (λ all. IsListing c.args.within c.args.end c.args.text.now all c.args.text.now) (sym c.new-all.ensures.items) (listing_starts c.args.within c.args.end c.args.text.now),
  omega arith,
)

pub returns-in_err-rest-clause-read : goal.returns-in_err-rest-clause-read
returns-in_err-rest-clause-read c =
    let p = err_from_is_err_and c.from_residual.result c.from_residual.ensures.1 in
    rw (p.1, p.2) (listing_stops c.args.within c.args.end c.args.text.now c.loop-alloc.rest.now c.loop-alloc.all.items c.in_err-rest.field-0.0 c.loop-alloc.invariant.1
    (going c.args.within c.loop-alloc.rest.now c.list_ends.result c.list_ends.ensures c.loop-alloc-test.true) c.in_err-rest.ensures.read)

pub loop-alloc-preserved : goal.loop-alloc-preserved
loop-alloc-preserved c = (
  search rules,
  listing_goes_on c.args.within c.args.end c.args.text.now c.loop-alloc.rest.now c.in_ok-rest.rest.now c.loop-alloc.all.items c.turn.new.all.items c.loop-alloc.invariant.1
      (going c.args.within c.loop-alloc.rest.now c.list_ends.result c.list_ends.ensures c.loop-alloc-test.true) c.in_ok-rest.ensures.read c.in_ok-rest.ensures.shorter,
  omega (arith, c.loop-alloc.invariant.2, c.in_ok-rest.ensures.shorter),
)

pub returns-clause-read : goal.returns-clause-read
returns-clause-read c =
    listing_ends c.args.within c.args.end c.args.text.now c.loop-alloc.rest.now c.loop-alloc.all.items c.loop-alloc.invariant.1
    (ended c.args.within c.loop-alloc.rest.now c.list_ends.result c.list_ends.ensures c.loop-alloc-test.false)
