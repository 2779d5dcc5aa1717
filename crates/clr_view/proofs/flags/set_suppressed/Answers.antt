-- The header with the bit is written.
use Rattle.std.proofs.Common.{◌≡◌, ◌∙◌, ◌-◌, ap, refl}
use Rattle.clr_heap.specs.View.{stored}
use Rattle.clr_view.specs.Flags.{flagged, with_flag_at}
use Rattle.clr_view.proofs.Headers.{clean-at, flagged-at, header-has, header-high, heads-at, unmarked-at}
use Rattle.clr_view.proofs.flags.set_suppressed.Goals as goal
use Rattle.clr_view.proofs.flags.set_suppressed.Goals.{After-set_word}

pub overflow_sub-place : goal.overflow_sub-place
overflow_sub-place c =
    header-high c.args.types.now c.args.heap.now c.args.place c.header_of-word.ensures.heap c.requires.held
    c.requires.stands

pub set_word-requires : goal.set_word-requires
set_word-requires c =
    header-has c.args.types.now c.args.heap.now c.args.place c.header_of-word.ensures.heap c.requires.held
    c.requires.stands

-- the heap after the store
written : (c : After-set_word) → c.set_word.new.self ≡ with_flag_at c.args.heap.now c.args.place c.args.flag
written c =
    c.set_word.ensures.value
    ∙ ap (stored c.args.heap.now (c.args.place - 8))
    (c.with_suppressed.ensures ∙ ap (flagged c.args.flag) c.header_of-word.ensures.value)

pub returns : goal.returns
returns c =
    let rows = c.args.types.now in
    let h = c.args.heap.now in
    let place = c.args.place in
    let flag = c.args.flag in
    let heap = c.header_of-word.ensures.heap in
    let held = c.requires.held in
    let stands = c.requires.stands in
    rw (written c) (record {
      flagged = flagged-at rows h place heap held stands flag;
      words = refl;
      unmarked = unmarked-at rows h place heap held stands flag;
      free_heads = heads-at rows h place heap held stands flag;
      clean = clean-at rows h place heap held stands flag;
    })
