-- Names that were judged, and what else is checked, tell whether tables are lawful.
use Rattle.std.proofs.Common.{◌≡◌, ◌↔◌, ◌&&◌, ℕ, not, Bool, true, false, List, Option, Some, None, refl}
use Rattle.std.proofs.Common.{if◌then◌else◌, sym, ◌∙◌, ap, ap₂}
use Rattle.std.specs.List.{list_all}
use Rattle.std.proofs.lemmas.Bool.{and_parts}
use Rattle.clr_heap.specs.View.{heap_items}
use Rattle.clr_types.specs.declared.item.Item.{Item}
use Rattle.clr_sos.specs.CheckedCells.{or_else}
use Rattle.clr_sos.specs.Faults.{is_name, locals_fault, references_fault}
use Rattle.clr_sos.specs.JudgedTables.{AreJudged, AreLawfulOthers, is_final}
use Rattle.clr_sos.specs.LawfulStates.{AreLawfulTables}
use Rattle.clr_sos.specs.declared.state.State.{State}
use Rattle.clr_sos.specs.declared.verify.names.Names.{Names}
use Rattle.clr_sos.proofs.ListTests.{all_pass, all_true}
use Rattle.clr_sos.proofs.NamedPlaces.{name-stands, stands-name}

not_false : (b : Bool) → not b ≡ false → b ≡ true
not_false true e = refl
not_false false e = sym e

not_true : (b : Bool) → b ≡ true → not b ≡ false
not_true b e = ap not e

module _ (s : State) (names : Names) (judged : AreJudged s.view names) (none : names.low ≡ None) where
  abbrev items : List Item
  items = heap_items s.view.types.now s.view.heap.now

  abbrev told : Bool → Option ℕ
  told b = if b then None else Some 0

  fault_is : or_else (references_fault s.view.types.now s.view.heap.now)
      (locals_fault s.view.types.now s.view.heap.now s.view.locals.now)
      ≡ told names.locals
  fault_is =
      ap (λ (o : Option ℕ). or_else o (locals_fault s.view.types.now s.view.heap.now s.view.locals.now))
      (sym judged.low ∙ none)
      ∙ ap told (sym judged.locals)

  -- all is good, so all is lawful
  pub good_lawful : (others : Bool) → ((others ≡ true) ↔ AreLawfulOthers s)
      → (names.locals && (names.handles && (names.finals && others))) ≡ true
      → (or_else (references_fault s.view.types.now s.view.heap.now)
      (locals_fault s.view.types.now s.view.heap.now s.view.locals.now) ≡ None) × AreLawfulTables s
  good_lawful others is good =
      let one = and_parts names.locals (names.handles && (names.finals && others)) good in
      let two = and_parts names.handles (names.finals && others) one.1 in
      let three = and_parts names.finals others two.1 in
      let rest = is.0 three.1 in
      let named = judged.handles.0 two.0 in
      let final =
      and_parts (list_all (is_final s.view.types.now items) s.view.finals.now.entries)
      (list_all (is_final s.view.types.now items) s.view.finals.now.ready) (sym judged.finals ∙ three.0) in (
        fault_is ∙ ap told one.0,
        record {
          numbers = rest.numbers;
          handles = λ k row e.
              let n = named k row e in
              record {
                target =
                    name-stands s.view.types.now s.view.heap.now row.target
                    (not_false (is_name items row.target) n.0);
                second =
                    name-stands s.view.types.now s.view.heap.now row.second
                    (not_false (is_name items row.second) n.1);
                owned = rest.owned k row e;
              };
          entries = all_pass (is_final s.view.types.now items) s.view.finals.now.entries final.0;
          ready = all_pass (is_final s.view.types.now items) s.view.finals.now.ready final.1;
          steps = rest.steps;
          holder = rest.holder;
        },
      )

  -- all is lawful, so all is good
  pub lawful_good : (others : Bool) → ((others ≡ true) ↔ AreLawfulOthers s)
      → (or_else (references_fault s.view.types.now s.view.heap.now)
      (locals_fault s.view.types.now s.view.heap.now s.view.locals.now) ≡ None) × AreLawfulTables s
      → (names.locals && (names.handles && (names.finals && others))) ≡ true
  lawful_good others is lawful =
      let tables = lawful.1 in
      let locals : names.locals ≡ true = local_ok names.locals (sym fault_is ∙ lawful.0) in
      let handles : names.handles ≡ true =
      judged.handles.1 (λ k row e.
      let h = tables.handles k row e in (
        not_true (is_name items row.target) (stands-name s.view.types.now s.view.heap.now row.target h.target),
        not_true (is_name items row.second) (stands-name s.view.types.now s.view.heap.now row.second h.second),
      )) in
      let finals : names.finals ≡ true =
      judged.finals
      ∙ ap₂ (λ (a b : Bool). a && b)
      (all_true (is_final s.view.types.now items) s.view.finals.now.entries tables.entries)
      (all_true (is_final s.view.types.now items) s.view.finals.now.ready tables.ready) in
      let rest : others ≡ true =
      is.1 (record {
        numbers = tables.numbers;
        owned = λ k row e. (tables.handles k row e).owned;
        steps = tables.steps;
        holder = tables.holder;
      }) in
      rw (locals, handles, finals, rest) refl
    where
      local_ok : (b : Bool) → told b ≡ None → b ≡ true
      local_ok true e = refl
      local_ok false e = absurd cc
