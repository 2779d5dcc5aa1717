-- Ties are added one by one.
use Rattle.std.proofs.Common.{◌≡◌, ◌+◌, ◌<◌, ℕ, arith, get_or, inl, inr, length, subst, sym, ◌∙◌}
use Rattle.std.proofs.lemmas.List.{get_or_default}
use Rattle.clr_model.specs.Reach.{SecondOf}
use Rattle.clr_sos.specs.declared.reach.ties.Tie.{Tie}
use Rattle.clr_sos.proofs.Seen.{numbered}
use Rattle.clr_sos.proofs.Ties.{no_tie}
use Rattle.clr_paths.specs.Incoming.{IsTieEdge}
use Rattle.clr_paths.specs.Numbers.{place_of}
use Rattle.clr_paths.proofs.EdgeLists.{listed-more, listed-on, listed-starts}
use Rattle.clr_paths.proofs.HeapNumbers.{rising-index}
use Rattle.clr_paths.proofs.LeadingObjects.{IsTieBelow, primary-stands, tie-all, tie-back, tie-second}
use Rattle.clr_paths.proofs.incoming.Incoming.add_ties.Goals.{In-loop-i}
use Rattle.clr_paths.proofs.incoming.Incoming.add_ties.Goals as goal

pub loop-i-init : goal.loop-i-init
loop-i-init c =
    let places = c.args.numbers.now.places.items in
    listed-starts c.args.view.now places c.args.self.now (IsTieBelow places c.in_ok-ties.ties.items 0) c.requires.edges
    (λ f t l w. let none = w.below in omega (arith, none))

-- there is a next tie
inside : (c : In-loop-i) → c.loop-i.i < length c.in_ok-ties.ties.items
inside c =
    let low = c.loop-i-test.true in
    let count = c.len-i-end.ensures in
    let whole = c.in_ok-ties.ties.ok.0 in
    omega (arith, low, count, whole)

-- it is of a handle
second : (c : In-loop-i) (t : Tie) → t ≡ get_or c.in_ok-ties.ties.items c.loop-i.i t
    → SecondOf c.args.view.now.handles.now t.primary t.second
second c t e =
    tie-second c.args.view.now c.requires.sound c.in_ok-ties.ties.items c.in_ok-ties.ensures c.loop-i.i t (inside c) e

pub segment_of-k-requires : goal.segment_of-k-requires
segment_of-k-requires c =
    let v = c.args.view.now in
    let t = c.index-tie.result.now in
    (numbered v c.requires.sound t.primary (primary-stands v c.requires.sound t.primary t.second
    (second (goal.at.segment_of-k-requires c).In-loop-i t c.index-tie.ensures))).word

pub number-from-requires-clause-rise : goal.number-from-requires-clause-rise
number-from-requires-clause-rise c = c.requires.numbers.rise

pub number-from-requires-clause-listed : goal.number-from-requires-clause-listed
number-from-requires-clause-listed c =
    let t = c.index-tie.result.now in
    c.requires.numbers.all t.primary (primary-stands c.args.view.now c.requires.sound t.primary t.second
    (second (goal.at.number-from-requires-clause-listed c).In-loop-i t c.index-tie.ensures))

pub add-requires-clause-edges : goal.add-requires-clause-edges
add-requires-clause-edges c = c.loop-i.invariant.edges

pub add-requires-clause-from : goal.add-requires-clause-from
add-requires-clause-from c = c.number-from.ensures.below

pub add-requires-clause-leads : goal.add-requires-clause-leads
add-requires-clause-leads c = λ some.
    let t = c.index-tie.result.now in
    inr (subst (λ (p : ℕ). SecondOf c.args.view.now.handles.now p t.second) (sym c.number-from.ensures.is)
    (second (goal.at.add-requires-clause-leads c).In-loop-i t c.index-tie.ensures))

pub loop-i-preserved : goal.loop-i-preserved
loop-i-preserved c =
    let v = c.args.view.now in
    let places = c.args.numbers.now.places.items in
    let ties = c.in_ok-ties.ties.items in
    let i = c.loop-i.i in
    let t = c.index-tie.result.now in
    let from = c.number-from.result in
    let low = c.loop-i-test.true in
    let count = c.len-i-end.ensures in
    let whole = c.in_ok-ties.ties.ok.0 in
    let read = c.index-tie.ensures ∙ get_or_default ties i t no_tie (omega (arith, low, count, whole)) in
    listed-more v places c.args.self.now c.loop-i.self c.add.new.self (IsTieBelow places ties i)
    (λ f to. (f ≡ from) × (0 < t.second) × (place_of places to ≡ t.second)) (IsTieBelow places ties (i + 1))
    c.loop-i.invariant c.in_ok-add.ensures
    (λ f to l w. elim (tie-back places ties i f to t read w) [
      | inl early ↦ inl early
      | inr last ↦ inr (
        rising-index places f from 0 c.requires.numbers.rise w.inside c.number-from.ensures.below
            (sym last.0 ∙ sym c.number-from.ensures.is),
        last.2,
        sym last.1,
      )
    ])

pub returns : goal.returns
returns c =
    let v = c.args.view.now in
    let places = c.args.numbers.now.places.items in
    let ties = c.in_ok-ties.ties.items in
    let past = c.loop-i-test.false in
    let count = c.len-i-end.ensures in
    let whole = c.in_ok-ties.ties.ok.0 in
    listed-on v places c.args.self.now c.loop-i.self (IsTieBelow places ties c.loop-i.i)
    (λ f t. (f < length places) × IsTieEdge v places f t) c.loop-i.invariant
    (λ f t l w. tie-all v places ties c.in_ok-ties.ensures c.loop-i.i f t (omega (arith, past, count, whole)) w.0 w.1)
