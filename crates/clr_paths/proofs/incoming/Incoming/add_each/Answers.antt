-- References are added one by one.
use Rattle.std.proofs.Common.{◌≡◌, ◌≢◌, ℕ, ◌+◌, List, [], ◌∷◌, ◌++◌, append-nil, append_assoc, ap, arith, length, refl}
use Rattle.std.proofs.Common.{sym, ◌∙◌, subst}
use Rattle.std.proofs.lemmas.Bool.{eqb-true}
use Rattle.clr_types.specs.Rising.{IsIn}
use Rattle.clr_mark.specs.Markings.{item_references}
use Rattle.clr_mark.proofs.Following.{next_listed, none_left}
use Rattle.clr_sos.specs.Reaching.{Leads}
use Rattle.clr_paths.specs.Numbers.{place_of}
use Rattle.clr_paths.proofs.EdgesByItem.{can_add, CanAdd, words-all, words-more, words-none, words-start}
use Rattle.clr_paths.proofs.incoming.Incoming.add_each.Goals.{In-Some}
use Rattle.clr_paths.proofs.incoming.Incoming.add_each.Goals as goal

pub series-requires : goal.series-requires
series-requires c = c.requires.item.stands.known

pub returns-then-is_empty : goal.returns-then-is_empty
returns-then-is_empty c =
    let empty = none_left c.series.result.now (eqb-true (length c.series.result.now) 0
    (sym c.is_empty.ensures ∙ c.if-is_empty.true)) in
    words-none c.args.view.now c.requires.sound c.args.numbers.now.places.items c.args.from c.args.item c.requires.item
    c.args.self.now c.requires.edges (sym c.series.ensures ∙ empty)

pub loop-offset-init : goal.loop-offset-init
loop-offset-init c = record {
  walked = refl;
  listed = words-start c.args.view.now c.requires.sound c.args.numbers.now.places.items c.args.from c.args.item
      c.requires.item c.args.self.now c.requires.edges;
}

-- the next offset is one of a reference
next : (c : In-Some) → IsIn c.in-Some.offset (item_references c.args.view.now.types.now c.args.item)
next c =
    let yielded = c.loop-offset.yielded in
    next_listed c.in-Some.offset yielded c.next.new.self
    (item_references c.args.view.now.types.now c.args.item)
    (ap (λ (rest : List ℕ). yielded ++ rest) (sym c.in-Some.ensures.steps) ∙ c.loop-offset.invariant.walked
    ∙ c.into_iter-offset-iterator.ensures.into_iter_gives ∙ c.slots-offset-items.ensures)

-- so it can be added
can : (c : In-Some) → CanAdd c.args.view.now c.args.numbers.now.places.items c.args.from c.args.item.place
    c.in-Some.offset
can c = can_add c.args.view.now c.requires.sound c.args.numbers.now.places.items c.args.from c.args.item
    c.requires.item c.in-Some.offset (next c)

pub overflow_add-item : goal.overflow_add-item
overflow_add-item c = let fits = (can (goal.at.overflow_add-item c).In-Some).fits in omega (arith, fits)

pub word_at-target-requires-clause-word : goal.word_at-target-requires-clause-word
word_at-target-requires-clause-word c = (can (goal.at.word_at-target-requires-clause-word c).In-Some).has

pub word_at-target-requires-clause-segment : goal.word_at-target-requires-clause-segment
word_at-target-requires-clause-segment c =
    c.requires.segment ∙ (can (goal.at.word_at-target-requires-clause-segment c).In-Some).segment

pub add-requires-clause-edges : goal.add-requires-clause-edges
add-requires-clause-edges c = c.loop-offset.invariant.listed.edges

pub add-requires-clause-from : goal.add-requires-clause-from
add-requires-clause-from c = c.requires.item.below

pub add-requires-clause-leads : goal.add-requires-clause-leads
add-requires-clause-leads c =
    subst (λ (x : ℕ). x ≢ 0 → Leads c.args.view.now (place_of c.args.numbers.now.places.items c.args.from) x)
    (sym c.word_at-target.ensures) (can (goal.at.add-requires-clause-leads c).In-Some).leads

pub loop-offset-preserved : goal.loop-offset-preserved
loop-offset-preserved c =
    let yielded = c.loop-offset.yielded in
    let offset = c.in-Some.offset in
    record {
      walked = append_assoc yielded (offset ∷ []) c.next.new.self
          ∙ ap (λ (rest : List ℕ). yielded ++ rest) (sym c.in-Some.ensures.steps) ∙ c.loop-offset.invariant.walked;
      listed = words-more c.args.view.now c.requires.sound c.args.numbers.now.places.items c.args.from c.args.item
          c.requires.item c.args.self.now c.loop-offset.self c.add.new.self yielded offset c.word_at-target.result
          c.loop-offset.invariant.listed c.word_at-target.ensures c.in_ok-add.ensures;
    }

pub returns : goal.returns
returns c =
    let yielded = c.loop-offset.yielded in
    let all : yielded ≡ item_references c.args.view.now.types.now c.args.item =
    sym (append-nil yielded) ∙ ap (λ (rest : List ℕ). yielded ++ rest) (sym c.in-None.ensures.steps.0)
    ∙ c.loop-offset.invariant.walked ∙ c.into_iter-offset-iterator.ensures.into_iter_gives
    ∙ c.slots-offset-items.ensures in
    words-all c.args.view.now c.requires.sound c.args.numbers.now.places.items c.args.from c.args.item c.requires.item
    c.args.self.now c.loop-offset.self yielded all c.loop-offset.invariant.listed
