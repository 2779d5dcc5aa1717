use Rattle.std.proofs.Common.{inl, inr, refl, subst, sym}
use Rattle.std.proofs.lemmas.Bool.{both_ways}
use Rattle.clr_bgmark.specs.Closing.{NamesFound}
use Rattle.clr_bgmark.specs.declared.shade.Search.TheVariants.{Logged}
use Rattle.clr_bgmark.proofs.AllFound.{slot_found}
use Rattle.clr_bgmark.proofs.FoundPlaces.{behind_none}
use Rattle.clr_bgmark.proofs.RootedFound.{visited_more}
use Rattle.clr_bgmark.proofs.background.Background.is_due_found.Goals as goal

pub loop-near-init : goal.loop-near-init
loop-near-init c x f v = absurd (behind_none c.args.self.now.shades x v.0)

pub loop-near-preserved : goal.loop-near-preserved
loop-near-preserved c x f v =
    let ss = c.args.self.now.shades in
    elim (visited_more Logged ss c.loop-near.spot.k c.loop-near.spot.from c.in-Some.near c.in-Some.obj
    c.in-Some.ensures.found x f v) [
      | inl before ↦ c.loop-near.invariant x f before
      | inr is ↦ subst (NamesFound c.args.types.now c.args.heap.now ss) (sym is)
          (c.names_found.ensures.0 c.if-not-names_found.false)
    ]

pub returns : goal.returns
returns c = (
  (λ sure x f sought. elim (c.in_default.ensures.none x f) [
    | inl behind ↦ c.loop-near.invariant x f (behind, sought)
    | inr over ↦ absurd (sought over)
  ]),
  (λ due. refl),
)

pub returns-then-not-names_found : goal.returns-then-not-names_found
returns-then-not-names_found c = (
  (λ sure. absurd cc),
  (λ due.
      absurd (both_ways c.names_found.result c.if-not-names_found.true
      (c.names_found.ensures.1 (λ y e.
      slot_found c.args.types.now c.args.heap.now c.requires.closed c.args.self.now.shades c.requires.objects
      c.requires.log c.requires.none due c.in-Some.obj y c.in-Some.ensures.found.found e)))),
)
