-- The table that the slots of a slab and the keys of the numbers make, and its changes.
use Rattle.std.proofs.Common.{◌≡◌, ◌≢◌, ◌⊎◌, ℕ, zero, suc, ◌+◌, ◌<◌, ◌≤◌, true, cond, Option, Some, None, is_some}
use Rattle.std.proofs.Common.{IsSome, IfSome, IfNone, OnSome, OnErr, Result, Ok, Err, [], get_or, count_by, inl, inr}
use Rattle.std.proofs.Common.{refl, sym, ap, ◌∙◌, subst, arith}
use Rattle.std.proofs.lemmas.Bool.{cases_eq, cases_lt}
use Rattle.std.proofs.lemmas.List.Sums.{sum_by-set}
use Rattle.std.specs.Ordering.{nat_cmp}
use Rattle.std.specs.FinMap as finmap
use Rattle.slab.specs.Slab.{Slab, get, slab_len, Updates, ContainsKey, with_value}
use Rattle.clr_types.proofs.MapValues.{map_values-same}
use Rattle.slab.proofs.SlabLemmas.{ContainsKey-within, Updates-with_value}
use Rattle.clr_types.specs.declared.handle.Handle.{Handle}
use Rattle.clr_handles.specs.Numbers.{Numbers, IsNumbering, Regives, key_at, number_at}
use Rattle.clr_handles.specs.Tables.{Table, with_found, table_below, row_at, table_of, AreRows}
use Rattle.clr_handles.proofs.Lookups.{get-inserted, get-insert_other, is-insert, is-remove, len-inserted, len-replaced}
use Rattle.clr_handles.proofs.Lookups.{len-removed}

-- ---- a table from what stands at each number

found-here : (m : Table) (n : ℕ) (o : Option Handle) → finmap.get m n ≡ None → finmap.get (with_found m n o) n ≡ o
found-here m n None none = none
found-here m n (Some row) none = get-inserted m n row

found-other : (m : Table) (n q : ℕ) (o : Option Handle) → q ≢ n → finmap.get (with_found m n o) q ≡ finmap.get m q
found-other m n q None apart = refl
found-other m n q (Some row) apart = get-insert_other m n q row apart

none-past : (f : ℕ → Option Handle) (n q : ℕ) → n ≤ q → finmap.get (table_below f n) q ≡ None
unfolding table_below
none-past f zero q past = finmap.get-empty nat_cmp q
none-past f (suc n) q past = found-other (table_below f n) n q (f n) (λ e. omega arith) ∙ none-past f n q (omega arith)

found-below : (f : ℕ → Option Handle) (n q : ℕ) → q < n → finmap.get (table_below f n) q ≡ f q
unfolding table_below
found-below f zero q inside = absurd (omega arith)
found-below f (suc n) q inside = go (found-below f n q) (cases_eq q n)
  where
    go : (q < n → finmap.get (table_below f n) q ≡ f q) → (q ≡ n) ⊎ (q ≢ n)
        → finmap.get (with_found (table_below f n) n (f n)) q ≡ f q
    go earlier (inl e) =
        ap (finmap.get (with_found (table_below f n) n (f n))) e
        ∙ found-here (table_below f n) n (f n) (none-past f n n (omega arith)) ∙ ap f (sym e)
    go earlier (inr apart) = found-other (table_below f n) n q (f n) apart ∙ earlier (omega arith)

abbrev pub IsBounded : Slab Handle → Numbers → Type 0
IsBounded slots numbers = (n : ℕ) → 65536 ≤ n → row_at slots numbers n ≡ None

-- what the table answers at a number is what stands there
pub get-table_of : (slots : Slab Handle) (numbers : Numbers) → IsBounded slots numbers → (q : ℕ)
    → finmap.get (table_of slots numbers) q ≡ row_at slots numbers q
unfolding table_of
get-table_of slots numbers below q = go (cases_lt q 65536)
  where
    go : (q < 65536) ⊎ (65536 ≤ q) → finmap.get (table_below (row_at slots numbers) 65536) q ≡ row_at slots numbers q
    go (inl inside) = found-below (row_at slots numbers) 65536 q inside
    go (inr past) = none-past (row_at slots numbers) 65536 q past ∙ sym (below q past)

-- ---- no handle

module _ (slots : Slab Handle) (numbers : Numbers) (empty : slots.slots ≡ []) where
  nothing : (n : ℕ) → row_at slots numbers n ≡ None
  nothing n = ap (λ xs. get_or xs (key_at numbers n) None) empty

  pub table_of-empty : table_of slots numbers ≡ finmap.empty
  table_of-empty =
      map_values-same _ _
      (λ q. get-table_of slots numbers (λ n past. nothing n) q ∙ nothing q ∙ sym (finmap.get-empty nat_cmp q))

  pub rows-empty : AreRows slots numbers
  rows-empty = record {
    below = λ n past. nothing n;
    counted = ap (count_by is_some) empty ∙ sym (finmap.len-empty nat_cmp Handle) ∙ ap finmap.len (sym table_of-empty);
  }

-- ---- the same rows at each number

module _ (slots slots' : Slab Handle) (numbers numbers' : Numbers) (rows : AreRows slots numbers)
    (same : (n : ℕ) → row_at slots' numbers' n ≡ row_at slots numbers n)
    (count : slab_len slots' ≡ slab_len slots) where
  still-below : IsBounded slots' numbers'
  still-below n past = same n ∙ rows.below n past

  pub table_of-same : table_of slots' numbers' ≡ table_of slots numbers
  table_of-same =
      map_values-same _ _
      (λ q. get-table_of slots' numbers' still-below q ∙ same q ∙ sym (get-table_of slots numbers rows.below q))

  pub rows-same : AreRows slots' numbers'
  rows-same = record { below = still-below; counted = count ∙ rows.counted ∙ ap finmap.len (sym table_of-same) }

-- ---- another row at one number

-- a number keeps its own row where another's key gets one
pub apart-keys : (numbers : Numbers) → IsNumbering numbers → (n q : ℕ) → q ≢ n → key_at numbers q ≢ key_at numbers n
apart-keys numbers law n q apart same = apart (sym (law.back q) ∙ ap (number_at numbers) same ∙ law.back n)

module _ (slots slots' : Slab Handle) (numbers : Numbers) (law : IsNumbering numbers) (rows : AreRows slots numbers)
    (n key : ℕ) (o : Option Handle) (inside : n < 65536) (key_is : key_at numbers n ≡ key)
    (updates : Updates slots slots' key o) where
  row-here : row_at slots' numbers n ≡ o
  row-here = ap (get slots') key_is ∙ updates.changed

  row-other : (q : ℕ) → q ≢ n → row_at slots' numbers q ≡ row_at slots numbers q
  row-other q apart = updates.others (key_at numbers q) (λ e. apart-keys numbers law n q apart (e ∙ sym key_is))

  below-updated : IsBounded slots' numbers
  below-updated q past = row-other q (λ e. omega arith) ∙ rows.below q past

  get-here : finmap.get (table_of slots' numbers) n ≡ o
  get-here = get-table_of slots' numbers below-updated n ∙ row-here

  get-other : (q : ℕ) → q ≢ n → finmap.get (table_of slots' numbers) q ≡ finmap.get (table_of slots numbers) q
  get-other q apart =
      get-table_of slots' numbers below-updated q ∙ row-other q apart ∙ sym (get-table_of slots numbers rows.below q)

  pub rows-updated : slab_len slots' ≡ finmap.len (table_of slots' numbers) → AreRows slots' numbers
  rows-updated count = record { below = below-updated; counted = count }

module _ (slots slots' : Slab Handle) (numbers : Numbers) (law : IsNumbering numbers) (rows : AreRows slots numbers)
    (n key : ℕ) (row : Handle) (inside : n < 65536) (key_is : key_at numbers n ≡ key)
    (updates : Updates slots slots' key (Some row)) where
  pub table_of-put : table_of slots' numbers ≡ finmap.insert (table_of slots numbers) n row
  table_of-put =
      is-insert (table_of slots numbers) (table_of slots' numbers) n row
      (get-here slots slots' numbers law rows n key (Some row) inside key_is updates)
      (get-other slots slots' numbers law rows n key (Some row) inside key_is updates)

  -- a row more
  pub rows-added : get slots key ≡ None → slab_len slots' ≡ slab_len slots + 1 → AreRows slots' numbers
  rows-added vacant count =
      let free : finmap.get (table_of slots numbers) n ≡ None =
      get-table_of slots numbers rows.below n ∙ ap (get slots) key_is ∙ vacant in
      rows-updated slots slots' numbers law rows n key (Some row) inside key_is updates
      (count ∙ ap (λ c. c + 1) rows.counted ∙ sym (len-inserted (table_of slots numbers) n row free)
      ∙ ap finmap.len (sym table_of-put))

  -- another in its place
  pub rows-replaced : is_some (get slots key) ≡ true → slab_len slots' ≡ slab_len slots → AreRows slots' numbers
  rows-replaced held count =
      let used : is_some (finmap.get (table_of slots numbers) n) ≡ true =
      ap is_some (get-table_of slots numbers rows.below n ∙ ap (get slots) key_is) ∙ held in
      rows-updated slots slots' numbers law rows n key (Some row) inside key_is updates
      (count ∙ rows.counted ∙ sym (len-replaced (table_of slots numbers) n row used) ∙ ap finmap.len (sym table_of-put))

-- a row in use has a number below the bound
pub inside-found : (slots : Slab Handle) (numbers : Numbers) → AreRows slots numbers → (n : ℕ)
    → is_some (row_at slots numbers n) ≡ true → n < 65536
inside-found slots numbers rows n found = go (cases_lt n 65536)
  where
    go : (n < 65536) ⊎ (65536 ≤ n) → n < 65536
    go (inl inside) = inside
    go (inr past) = absurd (none-found (rows.below n past) found)
      where
        none-found : row_at slots numbers n ≡ None → is_some (row_at slots numbers n) ≡ true → ⊥
        none-found none some = let e : is_some {T = Handle} None ≡ true = ap is_some (sym none) ∙ some in absurd cc

-- ---- a row less

module _ (slots slots' : Slab Handle) (numbers : Numbers) (law : IsNumbering numbers) (rows : AreRows slots numbers)
    (n : ℕ) (updates : Updates slots slots' (key_at numbers n) None) where
  below-removed : IsBounded slots' numbers
  below-removed q past = go (cases_eq q n)
    where
      go : (q ≡ n) ⊎ (q ≢ n) → row_at slots' numbers q ≡ None
      go (inl e) = ap (row_at slots' numbers) e ∙ updates.changed
      go (inr apart) = updates.others (key_at numbers q) (apart-keys numbers law n q apart) ∙ rows.below q past

  pub table_of-removed : table_of slots' numbers ≡ finmap.remove (table_of slots numbers) n
  table_of-removed =
      is-remove (table_of slots numbers) (table_of slots' numbers) n
      (get-table_of slots' numbers below-removed n ∙ updates.changed)
      (λ q apart.
      get-table_of slots' numbers below-removed q
      ∙ updates.others (key_at numbers q) (apart-keys numbers law n q apart)
      ∙ sym (get-table_of slots numbers rows.below q))

  pub rows-removed : (row : Handle) → get slots (key_at numbers n) ≡ Some row → slab_len slots' + 1 ≡ slab_len slots
      → AreRows slots' numbers
  rows-removed row held count =
      let used : finmap.get (table_of slots numbers) n ≡ Some row = get-table_of slots numbers rows.below n ∙ held in
      let less = len-removed (table_of slots numbers) n row used in
      let same = ap finmap.len table_of-removed in
      let counted = rows.counted in
      record { below = below-removed; counted = omega (arith, less, same, counted, count) }

-- ---- a number with another key

module _ (slots : Slab Handle) (old new : Numbers) (law : IsNumbering old) (rows : AreRows slots old) (number key : ℕ)
    (regives : Regives old new number key) (free : row_at slots old number ≡ None) (vacant : get slots key ≡ None) where
  pub regiven-same : (n : ℕ) → row_at slots new n ≡ row_at slots old n
  regiven-same n = at_number (cases_eq n number)
    where
      at_other : n ≢ number → (n ≡ number_at old key) ⊎ (n ≢ number_at old key)
          → row_at slots new n ≡ row_at slots old n
      at_other apart (inl e) =
          ap (row_at slots new) e ∙ ap (get slots) regives.handed_on ∙ free ∙ sym vacant
          ∙ ap (get slots) (sym (law.forth key)) ∙ ap (row_at slots old) (sym e)
      at_other apart (inr differs) = ap (get slots) (regives.others n apart differs)

      at_number : (n ≡ number) ⊎ (n ≢ number) → row_at slots new n ≡ row_at slots old n
      at_number (inl e) =
          ap (row_at slots new) e ∙ ap (get slots) regives.given ∙ vacant ∙ sym free ∙ ap (row_at slots old) (sym e)
      at_number (inr apart) = at_other apart (cases_eq n (number_at old key))

-- a write of one slot that has a value keeps how many have one
pub slab_len-with_value : (slots : Slab Handle) (key : ℕ) (row : Handle) → is_some (get slots key) ≡ true
    → slab_len (with_value slots key row) ≡ slab_len slots
slab_len-with_value slots key row held =
    let inside = ContainsKey-within slots key held in
    let sums = sum_by-set (λ (o : Option Handle). cond (is_some o) 1 0) slots.slots key (Some row) None inside in
    omega (arith, sums, one_of (get_or slots.slots key None) held)
  where
    one_of : (o : Option Handle) → is_some o ≡ true → cond (is_some o) 1 0 ≡ suc zero
    one_of o held = ap (λ b. cond b (suc zero) 0) held

pub below-found : (slots : Slab Handle) (numbers : Numbers) → AreRows slots numbers → (n : ℕ) (o : Option Handle)
    → o ≡ row_at slots numbers n → IfSome o (λ _. n < 65536)
below-found slots numbers rows n None e = tt
below-found slots numbers rows n (Some row) e = inside-found slots numbers rows n (ap is_some (sym e))

-- ---- the same over a table that is seen

module _ (slots slots' : Slab Handle) (numbers : Numbers) (table : Table) (law : IsNumbering numbers)
    (rows : AreRows slots numbers) (seen : table_of slots numbers ≡ table) where
  -- a row is taken out
  pub taken-table : (n key : ℕ) → key ≡ key_at numbers n → Updates slots slots' key None
      → table_of slots' numbers ≡ finmap.remove table n
  taken-table n key is updates =
      table_of-removed slots slots' numbers law rows n (subst (λ k. Updates slots slots' k None) is updates)
      ∙ ap (λ t. finmap.remove t n) seen

  pub taken-rows : (n key : ℕ) (o : Option Handle) → key ≡ key_at numbers n → o ≡ get slots key
      → Updates slots slots' key None → OnSome o (slab_len slots' + 1 ≡ slab_len slots)
      → IfNone o (slots' ≡ slots) → AreRows slots' numbers
  taken-rows n key None is found updates count absent = subst (λ s. AreRows s numbers) (sym absent) rows
  taken-rows n key (Some row) is found updates count absent =
      rows-removed slots slots' numbers law rows n (subst (λ k. Updates slots slots' k None) is updates) row
      (ap (get slots) (sym is) ∙ sym found) count

  -- a row is put in under a vacant key
  pub added-table : (n key : ℕ) (row : Handle) → n < 65536 → key_at numbers n ≡ key
      → Updates slots slots' key (Some row) → table_of slots' numbers ≡ finmap.insert table n row
  added-table n key row inside is updates =
      table_of-put slots slots' numbers law rows n key row inside is updates ∙ ap (λ t. finmap.insert t n row) seen

  pub free-found : (n key : ℕ) → key_at numbers n ≡ key → get slots key ≡ None → finmap.get table n ≡ None
  free-found n key is vacant =
      ap (λ t. finmap.get t n) (sym seen) ∙ get-table_of slots numbers rows.below n ∙ ap (get slots) is ∙ vacant

-- a row in use is replaced
module _ (slots : Slab Handle) (numbers : Numbers) (table : Table) (law : IsNumbering numbers)
    (rows : AreRows slots numbers) (seen : table_of slots numbers ≡ table) (n key : ℕ) (row : Handle)
    (is : key ≡ key_at numbers n) (used : IsSome (finmap.get table n)) where
  pub used-key : ContainsKey slots key
  used-key =
      subst (λ o. is_some o ≡ true)
      (ap (λ t. finmap.get t n) (sym seen) ∙ get-table_of slots numbers rows.below n ∙ ap (get slots) (sym is)) used

  used-inside : n < 65536
  used-inside = inside-found slots numbers rows n (subst (λ k. is_some (get slots k) ≡ true) is used-key)

  pub replaced-rows : AreRows (with_value slots key row) numbers
  replaced-rows =
      rows-replaced slots (with_value slots key row) numbers law rows n key row used-inside (sym is)
      (Updates-with_value slots key row used-key) used-key (slab_len-with_value slots key row used-key)

  pub replaced-table : table_of (with_value slots key row) numbers ≡ finmap.insert table n row
  replaced-table =
      table_of-put slots (with_value slots key row) numbers law rows n key row used-inside (sym is)
      (Updates-with_value slots key row used-key) ∙ ap (λ t. finmap.insert t n row) seen

-- the slots are as they were, but for room
pub room-rows : (slots slots' : Slab Handle) (numbers : Numbers) → AreRows slots numbers
    → slots' ≡ record slots { capacity = slots'.capacity } → AreRows slots' numbers
room-rows slots slots' numbers rows room =
    rows-same slots slots' numbers numbers rows (λ n. ap (λ (s : Slab Handle). get s (key_at numbers n)) room)
    (ap slab_len room)

pub room-table : (slots slots' : Slab Handle) (numbers : Numbers) → AreRows slots numbers
    → slots' ≡ record slots { capacity = slots'.capacity } → table_of slots' numbers ≡ table_of slots numbers
room-table slots slots' numbers rows room =
    table_of-same slots slots' numbers numbers rows (λ n. ap (λ (s : Slab Handle). get s (key_at numbers n)) room)
    (ap slab_len room)

-- what holds, holds of an error
pub on_error : {T E : Type 0} (r : Result T E) (Q : Type 0) → Q → OnErr r Q
on_error (Ok x) Q q = tt
on_error (Err e) Q q = q

-- ---- a row is put in at a number of choice: room is made, the number gets the vacant key, and the slot its row

module _ (slots roomy : Slab Handle) (old new : Numbers) (table : Table) (law : IsNumbering old)
    (rows : AreRows slots old) (seen : table_of slots old ≡ table)
    (room : roomy ≡ record slots { capacity = roomy.capacity }) (number key : ℕ) (inside : number < 65536)
    (free : finmap.get table number ≡ None) (vacant : get roomy key ≡ None) (regives : Regives old new number key) where
  free-row : row_at roomy old number ≡ None
  free-row =
      ap (λ (s : Slab Handle). get s (key_at old number)) room ∙ sym (get-table_of slots old rows.below number)
      ∙ ap (λ t. finmap.get t number) seen ∙ free

  roomy-rows : AreRows roomy old
  roomy-rows = room-rows slots roomy old rows room

  same-rows : (n : ℕ) → row_at roomy new n ≡ row_at roomy old n
  same-rows = regiven-same roomy old new law roomy-rows number key regives free-row vacant

  regiven-rows : AreRows roomy new
  regiven-rows = rows-same roomy roomy old new roomy-rows same-rows refl

  regiven-table : table_of roomy new ≡ table
  regiven-table =
      table_of-same roomy roomy old new roomy-rows same-rows refl ∙ room-table slots roomy old rows room ∙ seen

  module _ (slots' : Slab Handle) (row : Handle) (law' : IsNumbering new) (put : ℕ) (put_is : put ≡ key)
      (updates : Updates roomy slots' put (Some row)) where
    pub put-rows : slab_len slots' ≡ slab_len roomy + 1 → AreRows slots' new
    put-rows count =
        rows-added roomy slots' new law' regiven-rows number key row inside regives.given
        (subst (λ k. Updates roomy slots' k (Some row)) put_is updates) vacant count

    pub put-table : table_of slots' new ≡ finmap.insert table number row
    put-table =
        added-table roomy slots' new table law' regiven-rows regiven-table number key row inside regives.given
        (subst (λ k. Updates roomy slots' k (Some row)) put_is updates)
