-- The queue is met one by one.
use Rattle.std.proofs.Common.{ℕ, ◌+◌, List, get_or, ap, arith, sym, ◌∙◌, slice_get, subst}
use Rattle.std.proofs.lemmas.Option.{slice_get-get_or}
use Rattle.clr_types.specs.Rising.{IsIn}
use Rattle.clr_sos.specs.Reaching.{AllCameBy, HasAdded}
use Rattle.clr_sos.specs.RootTexts.{IsRootOrigin}
use Rattle.clr_sos.specs.declared.reach.Origin.TheVariants.{Ready}
use Rattle.clr_mark.proofs.Rooting.{at_in}
use Rattle.clr_mark.specs.Roots.{IsRoot}
use Rattle.clr_sos.proofs.Adding.{added-more, added-on, IsNamedBelow, named-all, named-back, named-null}
use Rattle.clr_sos.proofs.Searching.{came-by, came-trans}
use Rattle.clr_sos.proofs.reach.Reached.add_ready.Goals.{then-place-ne0+in_ok-meet, else-place-ne0}
use Rattle.clr_sos.proofs.reach.Reached.add_ready.Goals as goal

pub meet-requires-clause-stands : goal.meet-requires-clause-stands
meet-requires-clause-stands c =
    let some = c.if-place-ne0.true in
    let listed = at_in c.ready-ready.result.now c.loop-i.i 0 c.loop-i-test.true in
    c.requires.sound.ready (get_or c.ready-ready.result.now c.loop-i.i 0) (record {
      listed = subst (λ (xs : List ℕ). IsIn (get_or c.ready-ready.result.now c.loop-i.i 0) xs) c.ready-ready.ensures
          listed;
      not_null = omega (arith, some);
    })

pub meet-requires-clause-origin : goal.meet-requires-clause-origin
meet-requires-clause-origin c =
    sym (ap (λ (xs : List ℕ). slice_get xs c.loop-i.i) c.ready-ready.ensures)
    ∙ slice_get-get_or c.ready-ready.result.now c.loop-i.i 0 c.loop-i-test.true

pub loop-i-preserved : goal.loop-i-preserved
loop-i-preserved c =
    let v = c.args.view.now in
    let old = c.args.self.now.entries.items in
    let places = c.ready-ready.result.now in
    let n = c.loop-i.i in
    let now = c.loop-i.self.entries.items in
    let seen = c.loop-i.self.seen.items in
    record {
      added = elim c.if-place-ne0.branch [
        | then-place-ne0+in_ok-meet w ↦
            subst (λ s. HasAdded v old s.seen.items s.entries.items (IsNamedBelow places (n + 1))) (sym w.self-is)
            (added-more v old now seen (IsNamedBelow places n) c.loop-i.invariant.added (IsNamedBelow places (n + 1))
            (get_or places n 0) w.meet.new.self.seen.items w.meet.new.self.entries.items w.in_ok-meet.ensures.search
            w.in_ok-meet.ensures.grown w.in_ok-meet.ensures.met (λ x is. named-back places n x is))
        | else-place-ne0 w ↦
            subst (λ s. HasAdded v old s.seen.items s.entries.items (IsNamedBelow places (n + 1))) (sym w.self-is)
            (added-on v old now seen (IsNamedBelow places n) c.loop-i.invariant.added (IsNamedBelow places (n + 1))
            (λ x is. named-null places n x w.if-place-ne0.false is))
      ];
      came = elim c.if-place-ne0.branch [
        | then-place-ne0+in_ok-meet w ↦
            subst (λ s. AllCameBy old IsRootOrigin s.entries.items) (sym w.self-is)
            (came-trans old now w.meet.new.self.entries.items IsRootOrigin w.in_ok-meet.ensures.grown
            c.loop-i.invariant.came
            (came-by now w.meet.new.self.entries.items (Ready n) IsRootOrigin tt w.in_ok-meet.ensures.came))
        | else-place-ne0 w ↦
            subst (λ s. AllCameBy old IsRootOrigin s.entries.items) (sym w.self-is) c.loop-i.invariant.came
      ];
    }

pub returns-clause-added : goal.returns-clause-added
returns-clause-added c =
    let past = c.loop-i-test.false in
    let places = c.ready-ready.result.now in
    subst (λ (xs : List ℕ). HasAdded c.args.view.now c.args.self.now.entries.items c.loop-i.self.seen.items
    c.loop-i.self.entries.items (IsRoot xs)) c.ready-ready.ensures
    (added-on c.args.view.now c.args.self.now.entries.items c.loop-i.self.entries.items c.loop-i.self.seen.items
    (IsNamedBelow places c.loop-i.i) c.loop-i.invariant.added (IsRoot places)
    (λ x r. named-all places c.loop-i.i x past r))
