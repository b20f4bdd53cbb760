use Rattle.std.proofs.Common.{rules, ◌≡◌, ◌<◌, length, ◌∙◌, sym, ap, false, ◌∷◌, eqb}
use Rattle.std.specs.Option.{is_some}
use Rattle.std.proofs.lemmas.List.Elements.{All-tail}
use Rattle.bidi_resolve.specs.declared.pairing.Opened.{Opened}
use Rattle.bidi_resolve.proofs.PairingLaws.{found_below}
use Rattle.bidi_resolve.proofs.pairing.Pairing.close.Goals as goal

pub loop-last-preserved : goal.loop-last-preserved
loop-last-preserved c =
    let is : c.loop-last.self.opened.items ≡ c.in-Some.last ∷ c.pop_front.new.self.items = c.in-Some.ensures.items in
    let other : eqb c.in-Some.last.partner c.args.char ≡ false = search rules in
    let below = found_below c.args.char c.loop-last.self.opened.items c.pop_front.new.self.items c.in-Some.last is other in
    record {
      first = sym below ∙ c.loop-last.invariant.first;
      some = ap is_some (sym below) ∙ c.loop-last.invariant.some;
      within = All-tail (λ (opened : Opened). opened.number < length c.loop-last.self.closings.items) c.in-Some.last c.pop_front.new.self.items (rw is at c.loop-last.invariant.within);
      openings = c.loop-last.invariant.openings;
      closings = c.loop-last.invariant.closings;
      stopped = c.loop-last.invariant.stopped;
    }
