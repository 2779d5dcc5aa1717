use Rattle.std.proofs.Common.{◌-◌, ap, sym, ◌∙◌, refl, subst, arith, rules, ℕ}
use Rattle.std.specs.Int.{w64}
use Rattle.std.specs.Prelude.{unsigned_abs}
use mir.Val.{SFits}
use Rattle.std.proofs.lemmas.Int.{to_z-of_z}
use Rattle.clr_plugs.specs.Plans.{plug_starts}
use Rattle.clr_plugs.specs.Cursors.{ahead}
use Rattle.clr_plugs.specs.declared.words.PlugInfo.{PlugInfo}
use Rattle.clr_moves.specs.PlugMoves.{CanRead, PlugMovesView}
use Rattle.clr_moves.proofs.Reading.{next_is, read_none, read_some}
use Rattle.clr_moves.proofs.plug_moves.PlugMoves.read.Goals as goal

pub next-requires : goal.next-requires
next-requires c =
    let (part, ps, can) = c.requires in
    let P : PlugMovesView → Type 0 = λ v. CanRead c.args.heap.now c.args.bricks.now v.cursor part ps in
    (subst P (sym c.self.view_is) can).left

pub info-told-requires : goal.info-told-requires
info-told-requires c =
    let (part, ps, old) = c.requires in
    let h = c.args.heap.now in
    let P : PlugMovesView → Type 0 = λ v. CanRead h c.args.bricks.now v.cursor part ps in
    let can = subst P (sym c.self.view_is) old in
    let next = c.in-Some.ensures.next part can.lies can.tell in
    (next_is h c.args.bricks.now c.self.inside.cursor part ps c.in-Some.start
    (ahead c.next.new.self (plug_starts part.plugs)) can next).words.info

pub overflow_sub-self : goal.overflow_sub-self
overflow_sub-self c =
    let (part, ps, old) = c.requires in
    let h = c.args.heap.now in
    let P : PlugMovesView → Type 0 = λ v. CanRead h c.args.bricks.now v.cursor part ps in
    let can = subst P (sym c.self.view_is) old in
    let next = c.in-Some.ensures.next part can.lies can.tell in
    let w = (next_is h c.args.bricks.now c.self.inside.cursor part ps c.in-Some.start
    (ahead c.next.new.self (plug_starts part.plugs)) can next).words in
    let fits : SFits w64 c.info-told.result.distance = search rules in
    let abs = c.unsigned_abs.ensures.value ∙ ap unsigned_abs (to_z-of_z w64 c.info-told.result.distance fits)
    ∙ ap (λ (i : PlugInfo). unsigned_abs i.distance) c.info-told.ensures in
    let back = w.back in
    let within = w.within in
    omega (arith, abs, back, within)

pub returns-in-Some-clause-read : goal.returns-in-Some-clause-read
returns-in-Some-clause-read c = λ part ps old.
    let h = c.args.heap.now in
    let P : PlugMovesView → Type 0 = λ v. CanRead h c.args.bricks.now v.cursor part ps in
    let can = subst P (sym c.self.view_is) old in
    let next = c.in-Some.ensures.next part can.lies can.tell in
    let fits : SFits w64 c.info-told.result.distance = search rules in
    let abs = c.unsigned_abs.ensures.value ∙ ap unsigned_abs (to_z-of_z w64 c.info-told.result.distance fits)
    ∙ ap (λ (i : PlugInfo). unsigned_abs i.distance) c.info-told.ensures in
    let gap = ap (λ (i : PlugInfo). i.gap) c.info-told.ensures in
    read_some h c.args.bricks.now c.self.inside.cursor part ps c.in-Some.start c.next.new.self can next
    c.next.ensures.brick c.next.ensures.past
    (record {
      segment = c.self.inside.segment;
      cursor = c.next.new.self;
      start = c.in-Some.start;
      to = c.in-Some.start - c.unsigned_abs.result;
    })
    refl refl (ap (λ (n : ℕ). c.in-Some.start - n) abs) c.saturating_sub.result
    (c.saturating_sub.ensures ∙ ap (λ (n : ℕ). c.in-Some.start - n) gap)

pub returns-in-None-clause-read : goal.returns-in-None-clause-read
returns-in-None-clause-read c = λ part ps old.
    let h = c.args.heap.now in
    let P : PlugMovesView → Type 0 = λ v. CanRead h c.args.bricks.now v.cursor part ps in
    let can = subst P (sym c.self.view_is) old in
    let next = c.in-None.ensures.next part can.lies can.tell in
    read_none h c.args.bricks.now c.self.inside.cursor part ps can next
    (record { segment = c.self.inside.segment; cursor = c.next.new.self; start = 0; to = c.self.inside.to }) refl
