use Rattle.std.proofs.Common.{◌≡◌, ℕ, ◌*◌, ◌<◌, ◌++◌, List, take, drop, replicate, ap, sym, ◌∙◌, subst, arith}
use Rattle.clr_heap.specs.View.{HeapView, word_of}
use Rattle.clr_plugs.specs.BrickEntries.{BricksView}
use Rattle.clr_plugs.specs.Builders.{places_from}
use Rattle.clr_plugs.specs.Cursors.{ahead, AreLeft, CursorView, starts_between, TellLeft}
use Rattle.clr_plugs.specs.Plans.{IsPart, PlannedPart, plug_starts}
use Rattle.clr_plugs.proofs.Loading.{can_read, left_above, less_left, loaded, skipped}
use Rattle.clr_plugs.proofs.UnitBits.{none_set}
use Rattle.clr_plugs.proofs.cursor.PlugCursor.load.Goals as goal

pub first_root-first-requires-clause-order : goal.first_root-first-requires-clause-order
first_root-first-requires-clause-order c =
    let Q : CursorView → Type 0 = λ v. v.brick < v.past in
    let some = subst Q (sym c.self.view_is) c.requires.some in
    omega (arith, some)

pub first_root-first-requires-clause-covered : goal.first_root-first-requires-clause-covered
first_root-first-requires-clause-covered c =
    let P : CursorView → Type 0 = λ v. AreLeft c.args.heap.now c.args.bricks.now v.brick v.past in
    (subst P (sym c.self.view_is) c.requires.left).covered

pub put_roots-roots-requires-clause-left : goal.put_roots-roots-requires-clause-left
put_roots-roots-requires-clause-left c =
    let h = c.args.heap.now in
    let bricks = c.args.bricks.now in
    let i = c.self.inside in
    let P : CursorView → Type 0 = λ v. AreLeft h bricks v.brick v.past in
    let first = c.first_root-first.result in
    let left = left_above h bricks i.brick i.past first c.first_root-first.ensures.above
    (subst P (sym c.self.view_is) c.requires.left) in
    let end = c.min-past.result in
    let least = c.min-past.ensures in
    (h, less_left h bricks first i.past end (omega (arith, least)) left)

pub list_plugs-self-inside-requires-clause-can : goal.list_plugs-self-inside-requires-clause-can
list_plugs-self-inside-requires-clause-can c =
    let h = c.args.heap.now in
    let bricks = c.args.bricks.now in
    let i = c.self.inside in
    let P : CursorView → Type 0 = λ v. AreLeft h bricks v.brick v.past in
    let first = c.first_root-first.result in
    let left = left_above h bricks i.brick i.past first c.first_root-first.ensures.above
    (subst P (sym c.self.view_is) c.requires.left) in
    let end = c.min-past.result in
    let least = c.min-past.ensures in
    let starts = starts_between first end (plug_starts left.part.plugs) in
    let can = can_read h bricks first i.past end c.lawful.ensures left c.first_root-first.ensures.within
    (omega (arith, least)) (omega (arith, least)) in
    let begun = c.put_roots-roots.ensures.waiting h (replicate 32 0) (none_set 32)
    (less_left h bricks first i.past end (omega (arith, least)) left) in
    (starts, left.part.segment, can, begun)

pub returns-clause-ahead : goal.returns-clause-ahead
returns-clause-ahead c =
    let h = c.args.heap.now in
    let bricks = c.args.bricks.now in
    let i = c.self.inside in
    let P : CursorView → Type 0 = λ v. AreLeft h bricks v.brick v.past in
    let left = subst P (sym c.self.view_is) c.requires.left in
    let first = c.first_root-first.result in
    let up = c.first_root-first.ensures.above in
    let within = c.first_root-first.ensures.within in
    let end = c.min-past.result in
    let least = c.min-past.ensures in
    let none = ap (λ (v : CursorView). v.at_hand) c.self.view_is ∙ c.requires.none in
    let hand = places_from i.base (drop i.at (take i.count i.offsets)) in
    let offsets = take c.list_plugs-self-inside.result c.list_plugs-self-inside.new.into in
    let new : CursorView =
    record { at_hand = places_from (first * 4096) (drop 0 offsets); brick = end; past = i.past } in
    let R : CursorView → Type 0 =
    λ v. (part : PlannedPart) → IsPart h part → TellLeft (word_of h) bricks part v.brick v.past
    → ahead new (plug_starts part.plugs) ≡ ahead v (plug_starts part.plugs) in
    subst R c.self.view_is (λ part lies tell.
    let all : AreLeft h bricks i.brick i.past =
    record { part = part; lies = lies; covered = left.covered; tell = tell; fits = left.fits } in
    let told = left_above h bricks i.brick i.past first up all in
    let starts = starts_between first end (plug_starts part.plugs) in
    let can = can_read h bricks first i.past end c.lawful.ensures told within (omega (arith, least))
    (omega (arith, least)) in
    let begun = c.put_roots-roots.ensures.waiting h (replicate 32 0) (none_set 32)
    (less_left h bricks first i.past end (omega (arith, least)) told) in
    loaded hand first i.past end offsets none (omega (arith, least, within)) (omega (arith, least)) h part lies
    (c.list_plugs-self-inside.ensures.listed starts part.segment can begun)
    ∙ ap (λ (xs : List ℕ). hand ++ xs)
    (skipped h bricks i.brick i.past first up within c.first_root-first.ensures.none all))
