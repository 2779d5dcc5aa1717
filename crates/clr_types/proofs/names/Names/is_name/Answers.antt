-- A key of this name stands at the number, and no other key has the name.
use Rattle.std.proofs.Common.{length, ltb, sym, ◌∙◌}
use Rattle.std.proofs.lemmas.Bool.{both_ways}
use Rattle.clr_types.proofs.NameLists.{found_below, below_found, key_named, name_number-found, number-has_name}
use Rattle.clr_types.proofs.names.Names.is_name.Goals as goal

pub returns-in-Some-clause-value : goal.returns-in-Some-clause-value
returns-in-Some-clause-value c =
    let names = c.args.self.now in
    let keys = c.self.inside.set.keys in
    let slice = c.as_slice.result.now in
    let lookup = c.in-Some.ensures.lookup in (
      λ found. name_number-found names keys slice c.in-Some.known.now c.args.name.now c.args.number c.self.view_is
          c.as_slice.ensures.keys c.as_slice.ensures.unique lookup.0 lookup.1
          (sym c.as_slice-in-Some.ensures.value ∙ c.is_same.ensures.0 found),
      λ number. c.is_same.ensures.1 (c.as_slice-in-Some.ensures.value
          ∙ key_named names keys slice c.in-Some.known.now c.args.name.now c.args.number c.self.view_is
          c.as_slice.ensures.keys lookup.0 lookup.1 number),
    )

pub returns-in-None-clause-value : goal.returns-in-None-clause-value
returns-in-None-clause-value c =
    let names = c.args.self.now in
    let past = c.in-None.ensures.lookup in (
      λ yes. cc,
      λ number. absurd (both_ways (ltb c.args.number (length c.as_slice.result.now))
          (sym past.0)
          (below_found names c.self.inside.set.keys c.as_slice.result.now c.args.number c.self.view_is
          c.as_slice.ensures.keys (number-has_name names c.args.number c.args.name.now number).0)),
    )

pub returns-in-Some-clause-below : goal.returns-in-Some-clause-below
returns-in-Some-clause-below c found = found_below c.args.self.now c.self.inside.set.keys c.as_slice.result.now
    c.args.number c.self.view_is c.as_slice.ensures.keys c.in-Some.ensures.lookup.0
