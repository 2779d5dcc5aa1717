use Rattle.std.proofs.Common.{◌≡◌, ℕ, ◌+◌, ◌-◌, ◌/◌, ◌%◌, ◌≤◌, ◌<◌, ◌⊎◌, List, [], ◌∷◌, ◌++◌, ℤ, ap, sym, ◌∙◌}
use Rattle.std.proofs.Common.{subst, arith, rules}
use Rattle.std.specs.Int.{w64}
use mir.Val.{SFits}
use Rattle.std.proofs.lemmas.Int.{to_z-of_z}
use Rattle.clr_types.specs.Rising.{IsIn}
use Rattle.clr_heap.specs.View.{word_of}
use Rattle.clr_model.specs.Compaction.{plug_end}
use Rattle.clr_pinq.specs.declared.entry.PinEntry.{PinEntry}
use Rattle.clr_plugs.specs.Builders.{IsNoChildren}
use Rattle.clr_plugs.specs.Planning.{IsAbovePlugs, IsWriting, with_plug}
use Rattle.clr_plugs.specs.Plans.{IsPlaceIn, plug_starts}
use Rattle.clr_bricks.specs.Bricks.{entry_at}
use Rattle.clr_plugs.proofs.Starts.{in_brick}
use Rattle.clr_plugs.proofs.Writing.{place_info}
use Rattle.clr_plan.specs.Writes.{distance_of, HasWritten, opened}
use Rattle.clr_plan.proofs.Writing.{written-plug}
use Rattle.clr_plan.proofs.write.write_plug.Goals as goal

pub save_words-requires-clause-info : goal.save_words-requires-clause-info
save_words-requires-clause-info c =
    let r = c.requires.can.writing in
    place_info c.args.heap.now r.part c.args.plug.start c.requires.can.heap r.writing.planning.plan.lies r.place

pub returns-clause-writing : goal.returns-clause-writing
returns-clause-writing c part writing place above =
    let e = c.start-start.ensures in
    let P : ℤ → Type 0 = λ d. IsWriting c.add.new.heap c.add.new.bricks
    (with_plug part c.args.plug.start (c.args.plug.start - c.args.below) d) c.add.new.self in
    let Q : ℕ → Type 0 = λ n. IsWriting c.add.new.heap c.add.new.bricks
    (with_plug part n (n - c.args.below) c.distance.result) c.add.new.self in
    let T : ℤ → Type 0 = λ d. IsWriting c.add.new.heap c.add.new.bricks
    (with_plug part c.start-start.result (c.start-start.result - c.args.below) d) c.add.new.self in
    let fits : SFits w64 c.distance.result = search rules in
    let R : ℕ → Type 0 = λ n. IsPlaceIn part n in
    let S : ℕ → Type 0 = λ n. IsAbovePlugs part n in
    subst P (c.distance.ensures ∙ ap (λ n. distance_of n c.args.to) e)
    (subst Q e (subst T (to_z-of_z w64 c.distance.result fits)
    (c.add.ensures.writing part writing (subst R (sym e) place) (subst S (sym e) above))))

pub returns-clause-written : goal.returns-clause-written
returns-clause-written c old starts free s among =
    let e = c.start-start.ensures in
    let r = c.requires.can.writing in
    let kids = c.args.writer.now.builder.plugs in
    let low = r.place.low in
    let first_low = r.writing.planning.plan.lies.low in
    let N : List PinEntry → Type 0 = λ es. HasWritten old c.add.new.heap es (starts ++ c.args.plug.start ∷ [])
    (opened free c.args.home.first c.args.below c.args.plug.start) (plug_end c.args.plug) in
    let In : ℕ → List ℕ → Type 0 = λ x xs. IsIn x xs in
    let W : ℕ → Type 0 = λ n. (b : ℕ) → b % 8 ≡ 0 → (b + 32 < n) ⊎ (n ≤ b + 8) → IsNoChildren kids b
    → word_of c.add.new.heap b ≡ word_of c.args.heap.now b in
    subst N (sym c.save_words.ensures.pushed)
    (written-plug old c.args.heap.now c.add.new.heap c.args.queue.now.entries starts free kids c.args.plug
    c.args.home.first c.args.below s c.add.ensures.shape (omega (arith, low, first_low)) r.place.aligned
    c.requires.can.live c.requires.can.least
    (λ x i. among.among x (in_brick c.args.writer.now.builder.brick (plug_starts among.part.plugs) x
    (subst (In x) among.writing.planning.held i)).0)
    (λ x i. let u = r.above x (in_brick c.args.writer.now.builder.brick (plug_starts r.part.plugs) x
    (subst (In x) r.writing.planning.held i)).0 in omega (arith, u))
    (subst W e c.add.ensures.words))

pub returns-clause-entries : goal.returns-clause-entries
returns-clause-entries c =
    let P : ℕ → Type 0 = λ n. (i : ℕ) → (i < c.args.writer.now.builder.brick) ⊎ (n / 4096 ≤ i)
    → entry_at c.add.new.bricks i ≡ entry_at c.args.bricks.now i in
    subst P c.start-start.ensures c.add.ensures.entries

pub returns-clause-words : goal.returns-clause-words
returns-clause-words c =
    let kids = c.args.writer.now.builder.plugs in
    let W : ℕ → Type 0 = λ n. (b : ℕ) → b % 8 ≡ 0 → (b + 32 < n) ⊎ (n ≤ b + 8) → IsNoChildren kids b
    → word_of c.add.new.heap b ≡ word_of c.args.heap.now b in
    subst W c.start-start.ensures c.add.ensures.words
