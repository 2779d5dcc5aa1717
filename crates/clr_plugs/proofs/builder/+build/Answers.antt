use Rattle.std.proofs.Common.{◌≡◌, ◌≢◌, ℕ, ◌+◌, ◌-◌, ◌*◌, ◌/◌, List, length, take, drop, get_or, refl, ap, sym, ◌∙◌}
use Rattle.std.proofs.Common.{subst, arith, false, true, eqb, Bool}
use Rattle.std.proofs.lemmas.Bool.{eq-eqb}
use Rattle.clr_heap.specs.View.{HeapView, stored}
use Rattle.clr_heap.proofs.Storing.{HasWord-shapes, memory_index-shapes}
use Rattle.clr_types.specs.Rising.{first, later}
use Rattle.clr_plugs.specs.Builders.{AreOffsets, HaveChildren, places_from}
use Rattle.clr_plugs.specs.Info.{children_word}
use Rattle.clr_plugs.proofs.Building.{built_whole, halves_ask, have_still, IsBuilt, middle, same_still}
use Rattle.clr_plugs.proofs.builder.+build.Goals as goal

-- a test that fails tells that there are some
some_left : (n : ℕ) (b : Bool) → b ≡ eqb n 0 → b ≡ false → n ≢ 0
some_left n b is off z = let on = eq-eqb n 0 z in let bad : true ≡ false = sym on ∙ sym is ∙ off in cc

pub build-left-requires : goal.build-left-requires
build-left-requires t c =
    let xs = c.args.offsets.now in
    let some = some_left (length xs) c.is_empty.result c.is_empty.ensures c.if-is_empty.false in
    let m = middle xs some in
    let ask = halves_ask c.args.heap.now c.args.brick xs (length xs / 2) m.some c.requires.offsets c.requires.words in
    let left = m.left in
    (omega (arith, left, some, c.decreases), (ask.0.left, (ask.1, c.requires.fits)))

pub build-right-requires : goal.build-right-requires
build-right-requires t c =
    let xs = c.args.offsets.now in
    let some = some_left (length xs) c.is_empty.result c.is_empty.ensures c.if-is_empty.false in
    let m = middle xs some in
    let ask = halves_ask c.args.heap.now c.args.brick xs (length xs / 2) m.some c.requires.offsets c.requires.words in
    let P : List ℕ → Type 0 = AreOffsets in
    let Q : List ℕ → Type 0 = λ zs. HaveChildren c.build-left.new.heap (places_from (c.args.brick * 4096) zs) in
    let right = m.right in
    let all = ap length m.all in (
      omega (arith, all, right, some, c.decreases),
      (
        subst P (sym m.all) ask.0.right,
        (
          subst Q (sym m.all)
              (have_still c.args.heap.now c.build-left.new.heap _ c.build-left.ensures.shape
              (λ x i. ask.2 x (later i))),
          c.requires.fits,
        ),
      ),
    )

pub overflow_sub-children : goal.overflow_sub-children
overflow_sub-children t c =
    let xs = c.args.offsets.now in
    let some = some_left (length xs) c.is_empty.result c.is_empty.ensures c.if-is_empty.false in
    let m = middle xs some in
    let ask = halves_ask c.args.heap.now c.args.brick xs (length xs / 2) m.some c.requires.offsets c.requires.words in
    let above = (ask.2 _ first).0 in
    omega (arith, above, c.from.ensures)

pub segment_near-k-requires : goal.segment_near-k-requires
segment_near-k-requires t c =
    let xs = c.args.offsets.now in
    let some = some_left (length xs) c.is_empty.result c.is_empty.ensures c.if-is_empty.false in
    let m = middle xs some in
    let ask = halves_ask c.args.heap.now c.args.brick xs (length xs / 2) m.some c.requires.offsets c.requires.words in
    rw c.from.ensures (ask.2 _ first).1

pub set_word_at-requires : goal.set_word_at-requires
set_word_at-requires t c =
    let xs = c.args.offsets.now in
    let some = some_left (length xs) c.is_empty.result c.is_empty.ensures c.if-is_empty.false in
    let m = middle xs some in
    let ask = halves_ask c.args.heap.now c.args.brick xs (length xs / 2) m.some c.requires.offsets c.requires.words in
    let shape = same_still c.args.heap.now c.build-left.new.heap c.build-right.new.heap c.build-left.ensures.shape
    c.build-right.ensures.shape in
    let same = memory_index-shapes c.build-right.new.heap.memories c.args.heap.now.memories
    (c.args.brick * 4096 + c.from.result - 16) shape.memories in
    record {
      word = rw c.from.ensures
          (HasWord-shapes c.args.heap.now.memories c.build-right.new.heap.memories
          (c.args.brick * 4096 + get_or xs (length xs / 2) 0 - 16) shape.memories (ask.2 _ first).1);
      segment = c.segment_near-k.ensures ∙ sym same;
    }

pub returns : goal.returns
returns t c =
    let xs = c.args.offsets.now in
    let h = c.args.heap.now in
    let some = some_left (length xs) c.is_empty.result c.is_empty.ensures c.if-is_empty.false in
    let m = middle xs some in
    let ask = halves_ask h c.args.brick xs (length xs / 2) m.some c.requires.offsets c.requires.words in
    let h1 = c.build-left.new.heap in
    let h2 = c.build-right.new.heap in
    let one : IsBuilt h h1 c.args.brick c.build-left.result (take (length xs / 2) xs) =
    record {
      tree = c.build-left.ensures.tree;
      words = c.build-left.ensures.words;
      shape = c.build-left.ensures.shape;
    } in
    let part : IsBuilt h1 h2 c.args.brick c.build-right.result
    (take (length xs - (length xs / 2 + 1)) (drop (length xs / 2 + 1) xs)) =
    record {
      tree = c.build-right.ensures.tree;
      words = c.build-right.ensures.words;
      shape = c.build-right.ensures.shape;
    } in
    let P : List ℕ → Type 0 = λ zs. IsBuilt h1 h2 c.args.brick c.build-right.result zs in
    let two = subst P m.all part in
    let built = built_whole h h1 h2 c.args.brick c.build-left.result c.build-right.result xs (length xs / 2)
    refl some c.requires.offsets c.requires.words one two c.build-left.ensures.small in
    let o = get_or xs (length xs / 2) 0 in
    let now : c.set_word_at.new.self ≡ stored h2 (c.args.brick * 4096 + o - 16)
    (children_word c.build-left.result c.build-right.result) =
    c.set_word_at.ensures ∙ ap (λ (v : ℕ). stored h2 (c.args.brick * 4096 + v - 16) c.both_children.result)
    c.from.ensures ∙ ap (λ (v : ℕ). stored h2 (c.args.brick * 4096 + o - 16) v) c.both_children.ensures in
    let Q : HeapView → Type 0 = λ v. IsBuilt h v c.args.brick (o + 1) xs in
    let R : ℕ → Type 0 = λ n. IsBuilt h c.set_word_at.new.self c.args.brick (n + 1) xs in
    let whole = subst R (sym c.from-2.ensures) (subst Q (sym now) built) in
    record {
      tree = whole.tree;
      words = whole.words;
      shape = whole.shape;
      small = let low = ask.0.small in
          omega (arith, low, c.from-2.ensures);
    }
