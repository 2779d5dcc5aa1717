-- What names objects from outside of the heap: other locals, handles and queues keep the machine lawful, and are seen
-- under places.
use Rattle.std.proofs.Common.{◌≡◌, ℕ, ◌<◌, ◌≤◌, List, [], ◌∷◌, ◌++◌, map, length, refl, sym, ap, subst, ◌∙◌, arith}
use Rattle.std.proofs.Common.{slice_set, None}
use Rattle.std.specs.List.{AllByRecursion}
use Rattle.std.specs.FinMap as finmap
use Rattle.std.specs.Ordering.{nat_cmp}
use Rattle.std.proofs.lemmas.List.{map-append}
use Rattle.clr_types.proofs.ChangedLists.{all_imply, all-slice_set, length-slice_set}
use Rattle.clr_types.proofs.MapValues.{map_values-insert}
use Rattle.clr_types.proofs.TableRows.{AllByRecursion-push}
use Rattle.clr_types.specs.declared.handle.Handle.{Handle}
use Rattle.clr_model.specs.Machine.{Machine, Object}
use Rattle.clr_model.specs.Lookups.{local_index, place_of}
use Rattle.clr_model.specs.Updates.{with_local, with_handle, without_handle, with_entry}
use Rattle.clr_model.specs.Picture.{picture, renamed_row}
use Rattle.clr_model.specs.Lawful.{HasItsSecond, IsBirthNamed, IsFinal, IsLawful, IsNullOrPresent, IsPresent, IsShaped}
use Rattle.clr_model.proofs.HandleTables.{values-inserted, values-removed, keys-inserted, keys-removed, len-inserted}
use Rattle.clr_model.proofs.HandleTables.{len-removed, map_values-remove}
use Rattle.clr_model.proofs.Naming.{map-slice_set}
use Rattle.clr_model.proofs.MarkingKept.{marking_kept, old_as}

-- what shapes the objects of a machine has after a change that leaves types alone
pub shaped_alike : (m next : Machine) (o : Object) → next.types ≡ m.types → IsShaped m o → IsShaped next o
shaped_alike m next o same is =
    subst (λ ts. IsShaped (record next { types = ts }) o) (sym same)
    (record {
      named = is.named;
      typed = is.typed;
      size = is.size;
      class_len = is.class_len;
      kinds = is.kinds;
      numbers = is.numbers;
      suppressed = is.suppressed;
    })

-- ---- what a machine may have

pub record AreLawfulLocals (m : Machine) (locals : List ℕ) : Type 0 where
  pub present : AllByRecursion (IsNullOrPresent m) locals
  pub count : length locals ≡ 1024

-- what a row names is null or an object
abbrev pub RowIsPresent : Machine → Handle → Type 0
RowIsPresent m row = IsNullOrPresent m row.target × IsNullOrPresent m row.second

pub record AreLawfulHandles (m : Machine) (handles : finmap.FinMap nat_cmp Handle) : Type 0 where
  pub present : AllByRecursion (RowIsPresent m) (finmap.values handles)
  pub seconds : AllByRecursion HasItsSecond (finmap.values handles)
  pub count : finmap.len handles ≤ 65536
  pub numbers : AllByRecursion (λ (e : ℕ × Handle). e.0 < 65536) (finmap.entries handles)

-- the finalisation entries and the f-reachable queue
pub record IsLawfulQueue (m : Machine) (names : List ℕ) : Type 0 where
  pub present : AllByRecursion (IsPresent m) names
  pub final : AllByRecursion (IsFinal m) names

module _ (m : Machine) (h : IsLawful m) where
  pub lawful_locals : AreLawfulLocals m m.locals
  lawful_locals = record { present = h.names.locals; count = h.locals }

  pub lawful_handles : AreLawfulHandles m m.handles
  lawful_handles =
      record { present = h.names.handles; seconds = h.seconds; count = h.handle_count; numbers = h.handle_numbers }

  pub lawful_entries : IsLawfulQueue m m.entries
  lawful_entries = record { present = h.names.entries; final = h.entries }

  pub lawful_ready : IsLawfulQueue m m.ready
  lawful_ready = record { present = h.names.ready; final = h.ready }

-- ---- the machine with others

abbrev pub with_roots : Machine → List ℕ → finmap.FinMap nat_cmp Handle → List ℕ → List ℕ → Machine
with_roots m locals handles entries ready =
    record m { locals = locals; handles = handles; entries = entries; ready = ready }

-- it is lawful
pub with_roots_lawful : (m : Machine) → IsBirthNamed m → (locals : List ℕ) (handles : finmap.FinMap nat_cmp Handle)
    (entries ready : List ℕ) → AreLawfulLocals m locals → AreLawfulHandles m handles → IsLawfulQueue m entries
    → IsLawfulQueue m ready → IsBirthNamed (with_roots m locals handles entries ready)
with_roots_lawful m named locals handles entries ready l t e r =
    let h = named.lawful in
    let next : Machine = with_roots m locals handles entries ready in
    record {
      lawful = record {
        options = h.options;
        types = h.types;
        type_count = h.type_count;
        type_names = h.type_names;
        type_words = h.type_words;
        names_rise = h.names_rise;
        shapes = all_imply (IsShaped m) (IsShaped next) m.objects (λ o. shaped_alike m next o refl) h.shapes;
        laid =
            record {
              layout = h.laid.layout;
              housed = h.laid.housed;
              tiled = h.laid.tiled;
              whole1 = h.laid.whole1;
              whole0 = h.laid.whole0;
            };
        rests_young = h.rests_young;
        suited = h.suited;
        limit = h.limit;
        names = record {
          slots = h.names.slots;
          locals = l.present;
          handles = t.present;
          entries = e.present;
          ready = r.present;
          steps = h.names.steps;
        };
        seconds = t.seconds;
        locals = l.count;
        steps = h.steps;
        rooms = h.rooms;
        holder = h.holder;
        handle_count = t.count;
        handle_numbers = t.numbers;
        entries = e.final;
        ready = r.final;
        sums = record {
          spent0 = h.sums.spent0;
          spent_large = h.sums.spent_large;
          promoted1 = h.sums.promoted1;
          promoted2 = h.sums.promoted2;
        };
        marking =
            marking_kept m next m.background
            (old_as m next (λ o. o) (λ o. refl) (λ o i. i) (λ o i old. old)) h.marking;
      };
      born = named.born;
    }

-- ---- one change each

module _ (m : Machine) (named : IsBirthNamed m) where
  -- locals with one that takes null or the name of an object
  pub local_written : (t k name : ℕ) → IsNullOrPresent m name
      → AreLawfulLocals m (slice_set m.locals (local_index t k) name)
  local_written t k name there = record {
    present = all-slice_set (IsNullOrPresent m) m.locals (local_index t k) name named.lawful.names.locals there;
    count = length-slice_set m.locals (local_index t k) name ∙ named.lawful.locals;
  }

  pub with_local_lawful : (t k name : ℕ) → IsNullOrPresent m name → IsBirthNamed (with_local m t k name)
  with_local_lawful t k name there =
      with_roots_lawful m named (slice_set m.locals (local_index t k) name) m.handles m.entries m.ready
      (local_written t k name there) (lawful_handles m named.lawful) (lawful_entries m named.lawful)
      (lawful_ready m named.lawful)

  -- other handles
  pub with_handles_lawful : (handles : finmap.FinMap nat_cmp Handle) → AreLawfulHandles m handles
      → IsBirthNamed (record m { handles = handles })
  with_handles_lawful handles is =
      with_roots_lawful m named m.locals handles m.entries m.ready (lawful_locals m named.lawful) is
      (lawful_entries m named.lawful) (lawful_ready m named.lawful)

  -- a handle more, with a number of its own
  pub with_handle_lawful : (h : ℕ) (row : Handle) → h < 65536 → finmap.get m.handles h ≡ None
      → finmap.len m.handles < 65536 → RowIsPresent m row → HasItsSecond row → IsBirthNamed (with_handle m h row)
  with_handle_lawful h row low new few there second =
      let is = named.lawful in
      let more = len-inserted m.handles h row new in
      with_handles_lawful (finmap.insert m.handles h row) (record {
        present = values-inserted (RowIsPresent m) m.handles h row is.names.handles there;
        seconds = values-inserted HasItsSecond m.handles h row is.seconds second;
        count = omega arith;
        numbers = keys-inserted (λ n. n < 65536) m.handles h row is.handle_numbers low;
      })

  -- a handle less
  pub without_handle_lawful : (h : ℕ) → IsBirthNamed (without_handle m h)
  without_handle_lawful h =
      let is = named.lawful in
      let less = len-removed m.handles h in
      let was = is.handle_count in
      with_handles_lawful (finmap.remove m.handles h) (record {
        present = values-removed (RowIsPresent m) m.handles h is.names.handles;
        seconds = values-removed HasItsSecond m.handles h is.seconds;
        count = omega arith;
        numbers = keys-removed (λ n. n < 65536) m.handles h is.handle_numbers;
      })

  -- other finalisation entries
  pub with_entries_lawful : (entries : List ℕ) → IsLawfulQueue m entries → IsBirthNamed (record m { entries = entries })
  with_entries_lawful entries is =
      with_roots_lawful m named m.locals m.handles entries m.ready (lawful_locals m named.lawful)
      (lawful_handles m named.lawful) is (lawful_ready m named.lawful)

  -- one more, of an object whose type has a finaliser
  pub entry_added : (name : ℕ) → IsPresent m name → IsFinal m name → IsLawfulQueue m (m.entries ++ name ∷ [])
  entry_added name there final = record {
    present = AllByRecursion-push (IsPresent m) m.entries name named.lawful.names.entries there;
    final = AllByRecursion-push (IsFinal m) m.entries name named.lawful.entries final;
  }

-- ---- what is seen

module _ (m : Machine) where
  abbrev to : ℕ → ℕ
  to = place_of m.objects

  pub picture-with_handle : (h : ℕ) (row : Handle)
      → picture (with_handle m h row) ≡ with_handle (picture m) h (renamed_row to row)
  picture-with_handle h row =
      ap (λ handles. record (picture m) { handles = handles }) (map_values-insert (renamed_row to) m.handles h row)

  pub picture-without_handle : (h : ℕ) → picture (without_handle m h) ≡ without_handle (picture m) h
  picture-without_handle h =
      ap (λ handles. record (picture m) { handles = handles }) (map_values-remove (renamed_row to) m.handles h)

  pub picture-with_entry : (name : ℕ) → picture (with_entry m name) ≡ with_entry (picture m) (to name)
  picture-with_entry name =
      ap (λ entries. record (picture m) { entries = entries }) (map-append to m.entries (name ∷ []))

  -- a local written, with another f-reachable queue
  pub picture-with_local_ready : (t k name : ℕ) (ready : List ℕ)
      → picture (record (with_local m t k name) { ready = ready })
      ≡ record (with_local (picture m) t k (to name)) { ready = map to ready }
  picture-with_local_ready t k name ready =
      ap (λ locals. record (picture m) { locals = locals; ready = map to ready })
      (map-slice_set to m.locals (local_index t k) name)
