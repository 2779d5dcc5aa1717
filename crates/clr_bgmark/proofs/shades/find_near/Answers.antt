use Rattle.std.proofs.Common.{[]}
use Rattle.clr_bgmark.specs.Shades.{ShadeView}
use Rattle.clr_bgmark.proofs.GrayPlaces.{apart_at}
use Rattle.clr_bgmark.proofs.shades.find_near.Goals as goal

none : ShadeView
none = record { base = 0; size = 0; taken = []; marked = []; scanned = []; logged = [] }

pub returns-then-is_in-clause-within : goal.returns-then-is_in-clause-within
returns-then-is_in-clause-within c = (c.is_in.ensures c.if-is_in.true none).0

pub returns-then-is_in-clause-at : goal.returns-then-is_in-clause-at
returns-then-is_in-clause-at c =
    let there = c.is_in.ensures c.if-is_in.true none in
    apart_at c.args.shades.now.items c.args.near c.args.a none c.requires.apart there.0 there.1
