use Rattle.std.proofs.Common.{ℕ, ◌+◌, ◌*◌, ◌/◌, ◌≤◌, ◌++◌, List, length, take, drop, ap, sym, subst, arith}
use Rattle.clr_heap.specs.View.{word_of}
use Rattle.clr_plugs.specs.Forests.{AreWaiting, told_offsets}
use Rattle.clr_plugs.specs.Offsets.{with_unit}
use Rattle.clr_plugs.proofs.Waiting.{front_starts, goes_on, left_fits, none_waits, puts_few, right_fits, roots_few}
use Rattle.clr_plugs.proofs.Waiting.{waits_first, waits_last}
use Rattle.clr_plugs.proofs.forests.gather_in.Goals as goal

pub loop-at-init : goal.loop-at-init
loop-at-init c =
    let (starts, can, begun) = c.requires.can in
    record {
      waiting = λ starts can w. w;
      order = omega arith;
      most = roots_few (word_of c.args.heap.now) starts c.args.base c.args.roots c.args.into.now c.args.words.now
          c.requires.room begun;
    }

pub add_unit-requires-clause-inside : goal.add_unit-requires-clause-inside
add_unit-requires-clause-inside c =
    let (starts, can, begun) = c.requires.can in
    let inv = c.loop-at.invariant in
    let less = c.loop-at-test.true in
    let most = inv.most in
    let len = c.loop-at.auto.into in
    let room = c.requires.room in
    let within : c.loop-at.met ≤ length c.loop-at.into = omega (arith, most, len, room) in
    let o = c.from-offset.result in
    let w = waits_first (word_of c.args.heap.now) starts c.args.base c.loop-at.at c.loop-at.met o c.loop-at.into
    c.loop-at.words less within c.from-offset.ensures (inv.waiting starts can begun) in
    let rest = drop (c.loop-at.at + 1) (take c.loop-at.met c.loop-at.into) in
    let start = front_starts c.args.heap.now c.args.base c.args.k starts can c.loop-at.at o rest c.loop-at.words w in
    let high = can.high (c.args.base + o) start in
    omega (arith, high)

pub children_of-left-requires-clause-above : goal.children_of-left-requires-clause-above
children_of-left-requires-clause-above c =
    let (starts, can, begun) = c.requires.can in
    let inv = c.loop-at.invariant in
    let less = c.loop-at-test.true in
    let most = inv.most in
    let len = c.loop-at.auto.into in
    let room = c.requires.room in
    let within : c.loop-at.met ≤ length c.loop-at.into = omega (arith, most, len, room) in
    let o = c.from-offset.result in
    let w = waits_first (word_of c.args.heap.now) starts c.args.base c.loop-at.at c.loop-at.met o c.loop-at.into
    c.loop-at.words less within c.from-offset.ensures (inv.waiting starts can begun) in
    let rest = drop (c.loop-at.at + 1) (take c.loop-at.met c.loop-at.into) in
    let start = front_starts c.args.heap.now c.args.base c.args.k starts can c.loop-at.at o rest c.loop-at.words w in
    let high = can.high (c.args.base + o) start in
    let above = (can.words (c.args.base + o) start).above in
    omega (arith, above)

pub children_of-left-requires-clause-word : goal.children_of-left-requires-clause-word
children_of-left-requires-clause-word c =
    let (starts, can, begun) = c.requires.can in
    let inv = c.loop-at.invariant in
    let less = c.loop-at-test.true in
    let most = inv.most in
    let len = c.loop-at.auto.into in
    let room = c.requires.room in
    let within : c.loop-at.met ≤ length c.loop-at.into = omega (arith, most, len, room) in
    let o = c.from-offset.result in
    let w = waits_first (word_of c.args.heap.now) starts c.args.base c.loop-at.at c.loop-at.met o c.loop-at.into
    c.loop-at.words less within c.from-offset.ensures (inv.waiting starts can begun) in
    let rest = drop (c.loop-at.at + 1) (take c.loop-at.met c.loop-at.into) in
    let start = front_starts c.args.heap.now c.args.base c.args.k starts can c.loop-at.at o rest c.loop-at.words w in
    let high = can.high (c.args.base + o) start in
    (can.words (c.args.base + o) start).children

pub children_of-left-requires-clause-segment : goal.children_of-left-requires-clause-segment
children_of-left-requires-clause-segment c =
    let (starts, can, begun) = c.requires.can in
    let inv = c.loop-at.invariant in
    let less = c.loop-at-test.true in
    let most = inv.most in
    let len = c.loop-at.auto.into in
    let room = c.requires.room in
    let within : c.loop-at.met ≤ length c.loop-at.into = omega (arith, most, len, room) in
    let o = c.from-offset.result in
    let w = waits_first (word_of c.args.heap.now) starts c.args.base c.loop-at.at c.loop-at.met o c.loop-at.into
    c.loop-at.words less within c.from-offset.ensures (inv.waiting starts can begun) in
    let rest = drop (c.loop-at.at + 1) (take c.loop-at.met c.loop-at.into) in
    let start = front_starts c.args.heap.now c.args.base c.args.k starts can c.loop-at.at o rest c.loop-at.words w in
    let high = can.high (c.args.base + o) start in
    (can.words (c.args.base + o) start).children_in

pub put_plug-met-requires-clause-fits : goal.put_plug-met-requires-clause-fits
put_plug-met-requires-clause-fits c =
    let (starts, can, begun) = c.requires.can in
    let inv = c.loop-at.invariant in
    let less = c.loop-at-test.true in
    let most = inv.most in
    let len = c.loop-at.auto.into in
    let room = c.requires.room in
    let within : c.loop-at.met ≤ length c.loop-at.into = omega (arith, most, len, room) in
    let o = c.from-offset.result in
    let w = waits_first (word_of c.args.heap.now) starts c.args.base c.loop-at.at c.loop-at.met o c.loop-at.into
    c.loop-at.words less within c.from-offset.ensures (inv.waiting starts can begun) in
    let rest = drop (c.loop-at.at + 1) (take c.loop-at.met c.loop-at.into) in
    let left = ap (λ (p : ℕ × ℕ). p.0) c.children_of-left.ensures in
    let right = ap (λ (p : ℕ × ℕ). p.1) c.children_of-left.ensures in
    left_fits c.args.heap.now c.args.base c.args.k starts can c.loop-at.at o rest c.loop-at.words w
    c.children_of-left.result.0 c.children_of-left.result.1 left right

pub put_plug-met-requires-in-loop-at-clause-count : goal.put_plug-met-requires-in-loop-at-clause-count
put_plug-met-requires-in-loop-at-clause-count c =
    let (starts, can, begun) = c.requires.can in
    let inv = c.loop-at.invariant in
    let less = c.loop-at-test.true in
    let most = inv.most in
    let len = c.loop-at.auto.into in
    let room = c.requires.room in
    let within : c.loop-at.met ≤ length c.loop-at.into = omega (arith, most, len, room) in
    let o = c.from-offset.result in
    let w = waits_first (word_of c.args.heap.now) starts c.args.base c.loop-at.at c.loop-at.met o c.loop-at.into
    c.loop-at.words less within c.from-offset.ensures (inv.waiting starts can begun) in
    let rest = drop (c.loop-at.at + 1) (take c.loop-at.met c.loop-at.into) in
    let start = front_starts c.args.heap.now c.args.base c.args.k starts can c.loop-at.at o rest c.loop-at.words w in
    let high = can.high (c.args.base + o) start in
    let left = ap (λ (p : ℕ × ℕ). p.0) c.children_of-left.ensures in
    let right = ap (λ (p : ℕ × ℕ). p.1) c.children_of-left.ensures in
    let wide = c.requires.length in
    let words = c.loop-at.auto.words in
    let now = goes_on c.args.heap.now c.args.base c.args.k starts can c.loop-at.at o rest c.loop-at.words w
    c.children_of-left.result.0 c.children_of-left.result.1 left right (omega (arith, high, wide, words)) in
    let few = puts_few (word_of c.args.heap.now) starts c.args.base c.loop-at.at c.loop-at.met c.loop-at.into
    (told_offsets (o / 4096 * 4096) c.children_of-left.result.0)
    (told_offsets (o / 4096 * 4096) c.children_of-left.result.1) (with_unit c.loop-at.words (o / 8)) less within now in
    let count = c.put_plug-met.ensures.count in
    omega (arith, few, count)

pub put_plug-met-requires-in-loop-at-clause-fits : goal.put_plug-met-requires-in-loop-at-clause-fits
put_plug-met-requires-in-loop-at-clause-fits c =
    let (starts, can, begun) = c.requires.can in
    let inv = c.loop-at.invariant in
    let less = c.loop-at-test.true in
    let most = inv.most in
    let len = c.loop-at.auto.into in
    let room = c.requires.room in
    let within : c.loop-at.met ≤ length c.loop-at.into = omega (arith, most, len, room) in
    let o = c.from-offset.result in
    let w = waits_first (word_of c.args.heap.now) starts c.args.base c.loop-at.at c.loop-at.met o c.loop-at.into
    c.loop-at.words less within c.from-offset.ensures (inv.waiting starts can begun) in
    let rest = drop (c.loop-at.at + 1) (take c.loop-at.met c.loop-at.into) in
    let left = ap (λ (p : ℕ × ℕ). p.0) c.children_of-left.ensures in
    let right = ap (λ (p : ℕ × ℕ). p.1) c.children_of-left.ensures in
    right_fits c.args.heap.now c.args.base c.args.k starts can c.loop-at.at o rest c.loop-at.words w
    c.children_of-left.result.0 c.children_of-left.result.1 left right

pub loop-at-preserved : goal.loop-at-preserved
loop-at-preserved c =
    let (starts, can, begun) = c.requires.can in
    let inv = c.loop-at.invariant in
    let less = c.loop-at-test.true in
    let most = inv.most in
    let len = c.loop-at.auto.into in
    let room = c.requires.room in
    let within : c.loop-at.met ≤ length c.loop-at.into = omega (arith, most, len, room) in
    let o = c.from-offset.result in
    let w = waits_first (word_of c.args.heap.now) starts c.args.base c.loop-at.at c.loop-at.met o c.loop-at.into
    c.loop-at.words less within c.from-offset.ensures (inv.waiting starts can begun) in
    let rest = drop (c.loop-at.at + 1) (take c.loop-at.met c.loop-at.into) in
    let start = front_starts c.args.heap.now c.args.base c.args.k starts can c.loop-at.at o rest c.loop-at.words w in
    let high = can.high (c.args.base + o) start in
    let left = ap (λ (p : ℕ × ℕ). p.0) c.children_of-left.ensures in
    let right = ap (λ (p : ℕ × ℕ). p.1) c.children_of-left.ensures in
    let wide = c.requires.length in
    let words = c.loop-at.auto.words in
    let lefts = told_offsets (o / 4096 * 4096) c.children_of-left.result.0 in
    let rights = told_offsets (o / 4096 * 4096) c.children_of-left.result.1 in
    let now = goes_on c.args.heap.now c.args.base c.args.k starts can c.loop-at.at o rest c.loop-at.words w
    c.children_of-left.result.0 c.children_of-left.result.1 left right (omega (arith, high, wide, words)) in
    let few = puts_few (word_of c.args.heap.now) starts c.args.base c.loop-at.at c.loop-at.met c.loop-at.into
    lefts rights (with_unit c.loop-at.words (o / 8)) less within now in
    let one = c.put_plug-met.ensures.count in
    let two = c.put_plug-met-in-loop-at.ensures.count in
    let same = waits_last c.loop-at.at c.loop-at.met c.put_plug-met.result c.put_plug-met-in-loop-at.result
    c.loop-at.into c.put_plug-met.new.into c.put_plug-met-in-loop-at.new.into lefts rights less within
    c.put_plug-met.ensures.offsets c.put_plug-met-in-loop-at.ensures.offsets in
    record {
      waiting = λ starts can begun.
          let w = waits_first (word_of c.args.heap.now) starts c.args.base c.loop-at.at c.loop-at.met o c.loop-at.into
          c.loop-at.words less within c.from-offset.ensures (inv.waiting starts can begun) in
          let now = goes_on c.args.heap.now c.args.base c.args.k starts can c.loop-at.at o rest c.loop-at.words w
          c.children_of-left.result.0 c.children_of-left.result.1 left right (omega (arith, high, wide, words)) in
          let P : List ℕ → Type 0 = λ q. AreWaiting (word_of c.args.heap.now) starts c.args.base (c.loop-at.at + 1) q
          c.add_unit.new.words in
          let Q : List ℕ → Type 0 = λ ws. AreWaiting (word_of c.args.heap.now) starts c.args.base (c.loop-at.at + 1)
          ((rest ++ lefts) ++ rights) ws in
          subst P (sym same) (subst Q (sym c.add_unit.ensures) now);
      order = omega (arith, less, one, two);
      most = omega (arith, few, one, two);
    }

pub returns : goal.returns
returns c = λ starts can begun.
    none_waits (word_of c.args.heap.now) starts c.args.base c.loop-at.at c.loop-at.met c.loop-at.into c.loop-at.words
    (let past = c.loop-at-test.false in omega (arith, past)) (c.loop-at.invariant.waiting starts can begun)
