-- The segment with the address has all items that can be near it.
use Rattle.std.proofs.Common.{◌∙◌, ap, is_some, List, Option, sym, ℕ}
use Rattle.clr_types.specs.declared.item.Item.{Item}
use Rattle.clr_sos.proofs.ViewNames.{shown_view}
use Rattle.clr_shows.specs.Near.{near_in}
use Rattle.clr_shows.proofs.NearTexts.{known-found, near-told, none-near}
use Rattle.clr_shows.proofs.near.near_to.Goals as goal

pub returns-in_default-clause-near : goal.returns-in_default-clause-near
returns-in_default-clause-near c = λ m is.
    ap (λ (items : List Item). near_in items c.args.a)
    (sym (none-near c.args.view.now m is (shown_view c.args.view.now c.requires.lawful) c.args.a
    (c.segment_with.ensures.none (ap (λ (o : Option ℕ). is_some o) c.in_default.is))))

pub returns-clause-near : goal.returns-clause-near
returns-clause-near c = λ m is.
    c.near_within.ensures
    ∙ ap (λ (items : List Item). near_in items c.args.a)
    (near-told c.args.view.now m is (shown_view c.args.view.now c.requires.lawful) c.args.a c.in-Some.k
    c.in-Some.ensures.in_range c.in-Some.ensures.low c.in-Some.ensures.high)

pub returns-clause-known : goal.returns-clause-known
returns-clause-known c =
    known-found c.args.view.now (shown_view c.args.view.now c.requires.lawful) c.in-Some.k c.args.a
    c.in-Some.ensures.in_range c.near_within.result c.near_within.ensures
