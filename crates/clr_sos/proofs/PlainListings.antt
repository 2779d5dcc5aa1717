-- All items of a heap are what a plain `dumpheap` shows.
use Rattle.std.proofs.Common.{◌≡◌, ◌-◌, ◌^◌, ◌<◌, ℕ, Bool, true, List, [], ◌∷◌, filter, ap, arith, None, refl, sym}
use Rattle.std.proofs.Common.{if◌then◌else◌}
use Rattle.std.specs.List.{AllByRecursion}
use Rattle.std.proofs.lemmas.Bool.{le-leb}
use Rattle.std.proofs.lemmas.List.Sums.{sum_by-cons}
use Rattle.clr_types.specs.Rising.{IsIn, first, later}
use Rattle.clr_types.specs.Types.{TypeRow}
use Rattle.clr_types.specs.declared.item.Item.{Item}
use Rattle.clr_types.proofs.RisingLists.{all_at}
use Rattle.clr_heap.specs.View.{heap_items, HeapView, IsHeap}
use Rattle.clr_view.specs.View.{IsHeld, layout_in, objects_in}
use Rattle.clr_model.specs.declared.Life.TheVariants.{Any}
use Rattle.clr_model.specs.declared.Mode.TheVariants.{Full}
use Rattle.clr_model.specs.Instructions.{DumpOptions, plain_options}
use Rattle.clr_model.specs.Machine.{Machine}
use Rattle.clr_model.specs.Sos.{bytes_in, dump_by_mode, dumpheap_text}
use Rattle.clr_sos.specs.Wants.{is_wanted}
use Rattle.clr_sos.specs.declared.places.Places.{Places}
use Rattle.clr_sos.specs.declared.wanted.Wanted.{Wanted}
use Rattle.clr_sos.proofs.HeapListed.{heap-listed}
use Rattle.clr_sos.proofs.ListingTexts.{listing-text}

-- each item is smaller than all together may be
sizes : (items : List Item) (n : ℕ) → bytes_in items < n → AllByRecursion (λ (i : Item). i.size < n) items
sizes [] n few = tt
sizes (i ∷ items) n few =
    let sum = sum_by-cons (λ (x : Item). x.size) i items in
    (omega (arith, few, sum), sizes items n (omega (arith, few, sum)))

-- where a test passes all, all are left
filter-all : (test : Item → Bool) (xs : List Item) → ((i : Item) → IsIn i xs → test i ≡ true) → filter test xs ≡ xs
filter-all test [] on = refl
filter-all test (x ∷ xs) on =
    let e = on x first in
    let r = filter-all test xs (λ i is. on i (later is)) in λ k. if e k then x ∷ r k else r k

-- the options of a `dumpheap` without words
abbrev pub no_options : DumpOptions
no_options = record {
  mode = Full;
  life = Any;
  mt = None;
  name = None;
  least = None;
  greatest = None;
  generation = None;
  segment = None;
}

-- all addresses
abbrev everywhere : Places
everywhere = record { low = 0; high = 0; outside = true }

-- what a `dumpheap` without words wants
abbrev all_wanted : Wanted
all_wanted = record {
  life = Any;
  by_mt = None;
  by_name = None;
  least = 0;
  greatest = 2 ^ 64 - 1;
  region = record { anywhere = true; in_generation = everywhere; in_segment = everywhere };
}

passed : (i : Item) → i.size < 2 ^ 62 → is_wanted all_wanted (λ place. true) i ≡ true
passed i small = rw (le-leb 0 i.size (omega arith), le-leb i.size (2 ^ 64 - 1) (omega (arith, small))) refl

-- all items of a heap are what a plain `dumpheap` shows
pub plain-listing : (m : Machine) (rows : List TypeRow) (h : HeapView) → IsHeap h → IsHeld rows h → m.types ≡ rows
    → m.objects ≡ objects_in rows h → m.layout ≡ layout_in rows h
    → dump_by_mode Full rows (heap_items rows h) ≡ dumpheap_text m (λ place. true) (plain_options no_options)
plain-listing m rows h heap held types objects layout =
    let few = (heap-listed rows h heap held.walkable).few in
    let small = sizes (heap_items rows h) (2 ^ 62) few in
    let all = filter-all (is_wanted all_wanted (λ place. true)) (heap_items rows h)
    (λ i is. passed i (all_at (λ (j : Item). j.size < 2 ^ 62) is small)) in
    listing-text m rows h (plain_options no_options) all_wanted (λ place. true)
    (dump_by_mode Full rows (heap_items rows h)) heap held types objects layout (λ i. refl)
    (ap (dump_by_mode Full rows) (sym all))
