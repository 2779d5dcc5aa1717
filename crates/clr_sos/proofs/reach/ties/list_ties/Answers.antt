-- Each handle adds its tie, where it has one.
use Rattle.std.proofs.Common.{◌≡◌, ◌+◌, List, ap, sym, ◌∙◌, subst, arith}
use Rattle.std.proofs.lemmas.Bool.{false≢true}
use Rattle.clr_sos.specs.declared.reach.ties.Tie.{Tie}
use Rattle.clr_sos.proofs.NumberedEntries.{used-before}
use Rattle.clr_sos.proofs.Ties.{list-ends, list-push, list-skip, list-starts, ListsBelow}
use Rattle.clr_sos.proofs.reach.ties.list_ties.Goals.{then-is_dependent+then-handle-ne0+in_ok-push}
use Rattle.clr_sos.proofs.reach.ties.list_ties.Goals.{else-is_dependent}
use Rattle.clr_sos.proofs.reach.ties.list_ties.Goals.{else-is_dependent-via-then-is_dependent+else-handle-ne0}
use Rattle.clr_sos.proofs.reach.ties.list_ties.Goals.{else-is_dependent-via-else-is_dependent}
use Rattle.clr_sos.proofs.reach.ties.list_ties.Goals as goal

pub loop-number-init : goal.loop-number-init
loop-number-init c = rw c.new-ties.ensures.items (list-starts c.args.handles.now)

pub loop-number-preserved : goal.loop-number-preserved
loop-number-preserved c =
    let hs = c.args.handles.now in
    let from = c.loop-number.from in
    let n = c.in-Some.number in
    let row = c.in-Some.handle in
    let next = c.in-Some.ensures.found in
    let ties = c.loop-number.ties.items in
    let P : List Tie → Type 0 = λ ts. ListsBelow hs (n + 1) ts in
    elim c.if-is_dependent.branch [
      | then-is_dependent+then-handle-ne0+in_ok-push w ↦
          let some = w.if-handle-ne0.true in
          subst P (ap (λ v. v.items) (sym w.ties-is))
          (rw w.in_ok-push.ensures.items (list-push hs from n row next ties c.loop-number.invariant
          (sym c.is_dependent.ensures ∙ w.if-is_dependent.true) (omega (arith, some))))
      | else-is_dependent w ↦
          subst P (ap (λ v. v.items) (sym w.ties-is))
          (list-skip hs from n row next ties c.loop-number.invariant (λ dependent some.
          elim w.else-is_dependent.branch [
            | else-is_dependent-via-then-is_dependent+else-handle-ne0 u ↦
                let null = u.if-handle-ne0.false in
                omega (arith, null, some)
            | else-is_dependent-via-else-is_dependent u ↦
                false≢true (sym u.if-is_dependent.false ∙ c.is_dependent.ensures ∙ dependent)
          ]))
    ]

pub returns : goal.returns
returns c =
    let none = c.in_default.ensures in
    list-ends c.args.handles.now c.loop-number.from c.loop-number.ties.items
    (λ k row e. used-before c.args.handles.now c.loop-number.from 65536 none.none k row (none.below k row e) e)
    c.loop-number.invariant
