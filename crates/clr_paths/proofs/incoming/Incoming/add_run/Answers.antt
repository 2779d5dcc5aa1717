-- The references of a run are added one by one.
use Rattle.std.proofs.Common.{◌≡◌, ◌≢◌, ℕ, ◌+◌, ◌*◌, List, ap, arith, sym, ◌∙◌, subst}
use Rattle.clr_types.specs.Descriptors.{offsets_from}
use Rattle.clr_types.specs.Rising.{IsIn}
use Rattle.clr_mark.proofs.RunReferences.{run_listed, run_more}
use Rattle.clr_sos.specs.Reaching.{Leads}
use Rattle.clr_paths.specs.Numbers.{place_of}
use Rattle.clr_paths.proofs.EdgesByItem.{can_add, CanAdd, words-all, words-more, words-start}
use Rattle.clr_paths.proofs.incoming.Incoming.add_run.Goals.{In-loop-j}
use Rattle.clr_paths.proofs.incoming.Incoming.add_run.Goals as goal

pub loop-j-init : goal.loop-j-init
loop-j-init c = words-start c.args.view.now c.requires.sound c.args.numbers.now.places.items c.args.from c.args.item
    c.requires.item c.args.self.now c.requires.edges

-- reference j of the run can be added
can : (c : In-loop-j) → CanAdd c.args.view.now c.args.numbers.now.places.items c.args.from c.args.item.place
    (c.args.run.offset + 8 * c.loop-j.j)
can c =
    let at : ℕ = c.args.run.offset + 8 * c.loop-j.j in
    let there = run_listed c.args.run.offset c.args.run.count c.loop-j.j c.loop-j-test.true in
    can_add c.args.view.now c.requires.sound c.args.numbers.now.places.items c.args.from c.args.item c.requires.item at
    (subst (λ (os : List ℕ). IsIn at os) (sym c.requires.run) there)

pub overflow_mul-j : goal.overflow_mul-j
overflow_mul-j c = let fits = (can c).fits in omega (arith, fits)

pub overflow_add-run : goal.overflow_add-run
overflow_add-run c = let fits = (can (goal.at.overflow_add-run c).In-loop-j).fits in omega (arith, fits)

pub overflow_add-item : goal.overflow_add-item
overflow_add-item c = let fits = (can (goal.at.overflow_add-item c).In-loop-j).fits in omega (arith, fits)

pub word_at-target-requires-clause-word : goal.word_at-target-requires-clause-word
word_at-target-requires-clause-word c = (can (goal.at.word_at-target-requires-clause-word c).In-loop-j).has

pub word_at-target-requires-clause-segment : goal.word_at-target-requires-clause-segment
word_at-target-requires-clause-segment c =
    c.requires.segment ∙ (can (goal.at.word_at-target-requires-clause-segment c).In-loop-j).segment

pub add-requires-clause-edges : goal.add-requires-clause-edges
add-requires-clause-edges c = c.loop-j.invariant.edges

pub add-requires-clause-from : goal.add-requires-clause-from
add-requires-clause-from c = c.requires.item.below

pub add-requires-clause-leads : goal.add-requires-clause-leads
add-requires-clause-leads c =
    subst (λ (x : ℕ). x ≢ 0 → Leads c.args.view.now (place_of c.args.numbers.now.places.items c.args.from) x)
    (sym c.word_at-target.ensures) (can (goal.at.add-requires-clause-leads c).In-loop-j).leads

pub loop-j-preserved : goal.loop-j-preserved
loop-j-preserved c =
    let at : ℕ = c.args.run.offset + 8 * c.loop-j.j in
    rw (run_more c.args.run.offset c.loop-j.j)
    (words-more c.args.view.now c.requires.sound c.args.numbers.now.places.items c.args.from c.args.item
    c.requires.item c.args.self.now c.loop-j.self c.add.new.self (offsets_from c.args.run.offset c.loop-j.j) at
    c.word_at-target.result c.loop-j.invariant c.word_at-target.ensures c.in_ok-add.ensures)

pub returns : goal.returns
returns c =
    let past = c.loop-j-test.false in
    let within = c.loop-j.auto.j-end in
    let end : c.loop-j.j ≡ c.args.run.count = omega (arith, past, within) in
    words-all c.args.view.now c.requires.sound c.args.numbers.now.places.items c.args.from c.args.item c.requires.item
    c.args.self.now c.loop-j.self (offsets_from c.args.run.offset c.loop-j.j)
    (ap (offsets_from c.args.run.offset) end ∙ sym c.requires.run) c.loop-j.invariant
