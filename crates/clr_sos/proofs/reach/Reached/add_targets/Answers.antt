-- Handles are met one by one.
use Rattle.std.proofs.Common.{◌≡◌, ◌+◌, inl, inr, arith, ap, sym, ◌∙◌, subst}
use Rattle.std.proofs.lemmas.Bool.{false≢true}
use Rattle.clr_mark.specs.Ties.{IsTarget}
use Rattle.clr_sos.specs.Reaching.{AllCameBy, HasAdded}
use Rattle.clr_sos.specs.RootTexts.{IsRootOrigin}
use Rattle.clr_sos.specs.declared.reach.Origin.TheVariants.{Handle}
use Rattle.clr_sos.proofs.Adding.{added-more, added-on, held-all, held-back, IsHeldBelow}
use Rattle.clr_sos.proofs.NumberedEntries.{used-before}
use Rattle.clr_sos.proofs.Searching.{came-by, came-trans}
use Rattle.clr_sos.proofs.reach.Reached.add_targets.Goals.{then-is_root+then-handle-ne0+in_ok-meet, else-is_root}
use Rattle.clr_sos.proofs.reach.Reached.add_targets.Goals.{else-is_root-via-then-is_root+else-handle-ne0}
use Rattle.clr_sos.proofs.reach.Reached.add_targets.Goals.{else-is_root-via-else-is_root}
use Rattle.clr_sos.proofs.reach.Reached.add_targets.Goals as goal

pub meet-requires-clause-stands : goal.meet-requires-clause-stands
meet-requires-clause-stands c =
    let some = c.if-handle-ne0.true in
    elim (c.requires.sound.handles c.in-Some.number c.in-Some.handle c.in-Some.ensures.found.in_use).target [
      | inl null ↦ absurd (some null)
      | inr stands ↦ stands
    ]

pub loop-number-preserved : goal.loop-number-preserved
loop-number-preserved c =
    let v = c.args.view.now in
    let old = c.args.self.now.entries.items in
    let hs = v.handles.now in
    let from = c.loop-number.from in
    let n = c.in-Some.number in
    let row = c.in-Some.handle in
    let next = c.in-Some.ensures.found in
    let now = c.loop-number.self.entries.items in
    let seen = c.loop-number.self.seen.items in
    record {
      added = elim c.if-is_root.branch [
        | then-is_root+then-handle-ne0+in_ok-meet w ↦
            subst (λ s. HasAdded v old s.seen.items s.entries.items (IsHeldBelow hs (n + 1))) (sym w.self-is)
            (added-more v old now seen (IsHeldBelow hs from) c.loop-number.invariant.added (IsHeldBelow hs (n + 1))
            row.target w.meet.new.self.seen.items w.meet.new.self.entries.items w.in_ok-meet.ensures.search
            w.in_ok-meet.ensures.grown w.in_ok-meet.ensures.met
            (λ x is. elim (held-back hs from n row next x is) [ inl early ↦ inl early | inr last ↦ inr (sym last.1) ]))
        | else-is_root w ↦
            subst (λ s. HasAdded v old s.seen.items s.entries.items (IsHeldBelow hs (n + 1))) (sym w.self-is)
            (added-on v old now seen (IsHeldBelow hs from) c.loop-number.invariant.added (IsHeldBelow hs (n + 1))
            (λ x is. elim (held-back hs from n row next x is) [
              | inl early ↦ early
              | inr last ↦ elim w.else-is_root.branch [
                | else-is_root-via-then-is_root+else-handle-ne0 u ↦
                    let null = u.if-handle-ne0.false in
                    let is = last.1 in
                    let some = last.2 in
                    absurd (omega (arith, null, is, some))
                | else-is_root-via-else-is_root u ↦
                    absurd (false≢true (sym u.if-is_root.false ∙ c.is_root.ensures ∙ last.0))
              ]
            ]))
      ];
      came = elim c.if-is_root.branch [
        | then-is_root+then-handle-ne0+in_ok-meet w ↦
            subst (λ s. AllCameBy old IsRootOrigin s.entries.items) (sym w.self-is)
            (came-trans old now w.meet.new.self.entries.items IsRootOrigin w.in_ok-meet.ensures.grown
            c.loop-number.invariant.came
            (came-by now w.meet.new.self.entries.items (Handle n) IsRootOrigin tt w.in_ok-meet.ensures.came))
        | else-is_root w ↦
            subst (λ s. AllCameBy old IsRootOrigin s.entries.items) (sym w.self-is) c.loop-number.invariant.came
      ];
    }

pub returns-clause-added : goal.returns-clause-added
returns-clause-added c =
    let hs = c.args.view.now.handles.now in
    let none = c.in_default.ensures in
    added-on c.args.view.now c.args.self.now.entries.items c.loop-number.self.entries.items
    c.loop-number.self.seen.items (IsHeldBelow hs c.loop-number.from) c.loop-number.invariant.added (IsTarget hs)
    (λ x t. held-all hs c.loop-number.from x
    (λ k row e. used-before hs c.loop-number.from 65536 none.none k row (none.below k row e) e) t)
