-- The edge is put before those of its object.
use Rattle.std.proofs.Common.{◌≡◌, ℕ, arith, refl, subst, sym, ◌∙◌}
use Rattle.std.proofs.lemmas.List.{get_or_read}
use Rattle.clr_sos.specs.Reaching.{Leads}
use Rattle.clr_sos.proofs.Seen.{numbered}
use Rattle.clr_paths.specs.Numbers.{place_of}
use Rattle.clr_paths.proofs.EdgeLists.{edge-added, listed-on, listed-starts}
use Rattle.clr_paths.proofs.HeapNumbers.{rising-index}
use Rattle.clr_paths.proofs.LeadingObjects.{led-stands}
use Rattle.clr_paths.proofs.incoming.Incoming.add.Goals as goal

pub returns-then-target-eq0 : goal.returns-then-target-eq0
returns-then-target-eq0 c =
    let null = c.if-target-eq0.true in
    listed-starts c.args.view.now c.args.numbers.now.places.items c.args.self.now _ c.requires.edges
    (λ f t l w. let some = w.1 in omega (arith, some, null))

pub segment_near-k-requires : goal.segment_near-k-requires
segment_near-k-requires c =
    let v = c.args.view.now in
    (numbered v c.requires.sound c.args.target (led-stands v c.requires.sound _ c.args.target
    (c.requires.leads c.if-target-eq0.false))).word

pub number-to-requires-clause-rise : goal.number-to-requires-clause-rise
number-to-requires-clause-rise c = c.requires.numbers.rise

pub number-to-requires-clause-listed : goal.number-to-requires-clause-listed
number-to-requires-clause-listed c =
    let v = c.args.view.now in
    c.requires.numbers.all c.args.target (led-stands v c.requires.sound _ c.args.target
    (c.requires.leads c.if-target-eq0.false))

pub index-before-requires : goal.index-before-requires
index-before-requires c =
    let count = c.requires.edges.linked.count in let below = c.number-to.ensures.below in omega (arith, count, below)

pub returns : goal.returns
returns c =
    let v = c.args.view.now in
    let places = c.args.numbers.now.places.items in
    let old = c.args.self.now in
    let to = c.number-to.result in
    let below = c.number-to.ensures.below in
    let count = c.requires.edges.linked.count in
    let own : c.in_ok-from.from ≡ c.args.from = c.in_ok-from.ensures.number in
    let inside = c.requires.from in
    let led : Leads v (place_of places c.in_ok-from.from) (place_of places to) =
    subst (λ (n : ℕ). Leads v (place_of places n) (place_of places to)) (sym own)
    (subst (Leads v (place_of places c.args.from)) (sym c.number-to.ensures.is)
    (c.requires.leads c.if-target-eq0.false)) in
    let begun = get_or_read old.lasts.items to c.index-before.result.now (omega (arith, count, below))
    c.index-before.ensures 0 in
    let length = c.len.ensures in
    let whole = c.push.new.self.ok.0 in
    let number = c.in_ok-self.ensures.number in
    listed-on v places old _ (λ f t. (f ≡ c.in_ok-from.from) × (t ≡ to)) _
    (edge-added v places old _ c.requires.edges c.in_ok-from.from to c.index-before.result.now c.in_ok-self.field-0
    (omega (arith, own, inside)) below led begun c.in_ok-push.ensures.items (omega (arith, length, whole, number))
    refl)
    (λ f t l w. (
      w.0 ∙ sym own,
      rising-index places t to 0 c.requires.numbers.rise l below (w.2 ∙ sym c.number-to.ensures.is),
    ))
