-- A root whose object has an entry has a block, and no other has one.
use Rattle.std.proofs.Common.{ℕ, List, ◌++◌, ap, arith, ◌∙◌}
use Rattle.std.specs.List.{flat_map}
use Rattle.clr_sos.specs.RootTexts.{place_line}
use Rattle.clr_paths.specs.AllRoots.{node_at}
use Rattle.clr_paths.proofs.RootBlocks.{root-told_none, root-told_null, root-told_way}
use Rattle.clr_paths.proofs.all_roots.put_way.Goals as goal

pub returns-then-place-eq0-clause-told : goal.returns-then-place-eq0-clause-told
returns-then-place-eq0-clause-told c =
    root-told_null c.args.view.now (node_at c.args.numbers.now.places.items c.args.ways.now 0) c.args.root c.args.place
    c.args.text.now.items c.if-place-eq0.true

pub entry-requires-clause-stands : goal.entry-requires-clause-stands
entry-requires-clause-stands c = c.requires.stands c.if-place-eq0.false

pub returns-in_default-clause-told : goal.returns-in_default-clause-told
returns-in_default-clause-told c =
    root-told_none c.args.view.now c.args.numbers.now.places.items c.args.ways.now c.requires.ways c.args.root
    c.args.place c.if-place-eq0.false c.args.text.now.items c.in_default.ensures.none

pub returns : goal.returns
returns c =
    let chain = c.in_ok-put_chain.ensures in
    record {
      told = root-told_way c.args.view.now c.args.numbers.now.places.items c.args.ways.now c.requires.ways c.args.root
          c.args.place c.if-place-eq0.false c.requires.root c.args.text.now.items c.put_chain.new.text.items
          c.in-Some.entry chain.0 c.in-Some.ensures.some.0 c.in-Some.ensures.some.1 chain.1
          (chain.2 ∙ ap (λ (text : List ℕ). text ++ flat_map (place_line c.args.view.now) chain.0)
          c.in_ok-put_origin.ensures);
      one = omega arith;
    }
