-- Tables of handles: maps from numbers, made of what stands at each number.
use Rattle.std.specs.Prelude.{◌≡◌, ℕ, zero, suc, ◌≤◌, Option, Some, None}
use Rattle.std.specs.Ordering.{nat_cmp}
use Rattle.std.specs.FinMap as finmap
use Rattle.slab.specs.Slab.{Slab, get, slab_len}
use Rattle.clr_types.specs.declared.handle.Handle.{Handle}
use Rattle.clr_handles.specs.Numbers.{Numbers, key_at}

-- the handles in use, by their numbers
abbrev pub Table : Type 0
Table = finmap.FinMap nat_cmp Handle

-- the table with this at one more number, where anything stands there
abbrev pub with_found : Table → ℕ → Option Handle → Table
with_found m n None = m
with_found m n (Some row) = finmap.insert m n row

-- what a function gives at each number below a bound
unfoldable pub table_below : (ℕ → Option Handle) → ℕ → Table
table_below f zero = finmap.empty
table_below f (suc n) = with_found (table_below f n) n (f n)

-- what stands at a number, in the slot of its key
abbrev pub row_at : Slab Handle → Numbers → ℕ → Option Handle
row_at slots numbers n = get slots (key_at numbers n)

-- the table that the slots and the keys of the numbers make
unfoldable pub table_of : Slab Handle → Numbers → Table
table_of slots numbers = table_below (row_at slots numbers) 65536

-- each handle has a number below 65,536, and the slab counts them
pub record AreRows (slots : Slab Handle) (numbers : Numbers) : Type 0 where
  pub below : (n : ℕ) → 65536 ≤ n → row_at slots numbers n ≡ None
  pub counted : slab_len slots ≡ finmap.len (table_of slots numbers)
