-- The text of a heap's listing is that of the machine that a view shows.
use Rattle.std.proofs.Common.{◌≡◌, ◌∙◌, ◌&&◌, ◌⊎◌, inl, inr, ℕ, ◌<◌, Bool, true, List, ◌++◌, ap, arith, filter, map}
use Rattle.std.proofs.Common.{nat_le, not, subst, sym}
use Rattle.std.proofs.lemmas.Bool.{ne_eqb}
use Rattle.clr_types.specs.Rising.{IsIn, sorted_by, Tests}
use Rattle.clr_types.specs.Segments.{Layout}
use Rattle.clr_types.specs.Types.{TypeRow}
use Rattle.clr_types.specs.declared.item.Item.{Item}
use Rattle.clr_types.proofs.ListMembers.{filter-on}
use Rattle.clr_heap.specs.Memories.{HasWord}
use Rattle.clr_heap.specs.View.{heap_items, HeapView, IsHeap}
use Rattle.clr_view.specs.SlotValues.{StandsAt}
use Rattle.clr_view.specs.View.{IsHeld, is_object, layout_in, objects_in}
use Rattle.clr_view.proofs.Standing.{cell_has, mt_in, stands_from}
use Rattle.clr_view.proofs.Walked.{listing_shown}
use Rattle.clr_model.specs.declared.Mode.{Mode}
use Rattle.clr_model.specs.declared.Life.{Life}
use Rattle.clr_model.specs.declared.Life.TheVariants.{Any, Live, Dead}
use Rattle.clr_model.specs.Instructions.{DumpOptions}
use Rattle.clr_model.specs.Listing.{free_item, object_item}
use Rattle.clr_model.specs.Machine.{Machine, Object}
use Rattle.clr_model.specs.Sos.{dump_by_mode, dumpheap_text, passes, passes_life, passes_place}
use Rattle.clr_model.specs.Step.{TestsLife}
use Rattle.clr_model.proofs.Reaching.{one_test_of}
use Rattle.clr_sos.specs.Wants.{is_chosen, is_in_region, is_wanted}
use Rattle.clr_sos.specs.declared.wanted.Wanted.{Wanted}

-- what `dumpheap` shows of these types, objects and layout
abbrev shown : DumpOptions → (ℕ → Bool) → List TypeRow → List Object → Layout → List ℕ
shown o live rows objects layout = dump_by_mode o.mode rows (filter (λ i. passes rows live o i && passes_place layout o i)
    (sorted_by (λ i. i.place) (map (object_item rows) objects ++ map free_item layout.free)))

-- what is wanted of a heap's items is what `dumpheap` shows of a machine with its types, objects and layout
pub listing-text : (m : Machine) (rows : List TypeRow) (h : HeapView) (o : DumpOptions) (w : Wanted) (live : ℕ → Bool)
    (text : List ℕ) → IsHeap h → IsHeld rows h → m.types ≡ rows → m.objects ≡ objects_in rows h
    → m.layout ≡ layout_in rows h
    → ((i : Item) → is_wanted w live i ≡ (passes rows live o i && passes_place (layout_in rows h) o i))
    → text ≡ dump_by_mode o.mode rows (filter (is_wanted w live) (heap_items rows h)) → text ≡ dumpheap_text m live o
listing-text m rows h o w live text heap held types objects layout tests put =
    let test : Item → Bool = λ i. passes rows live o i && passes_place (layout_in rows h) o i in
    put
    ∙ ap (dump_by_mode o.mode rows) (filter-on (is_wanted w live) test (heap_items rows h)
    (λ i is. tests i) ∙ ap (filter test) (sym (listing_shown rows h heap held)))
    ∙ λ k. shown o live (sym types k) (sym objects k) (sym layout k)

-- where every item passes by its life, it doesn't matter what the roots reach
any-wanted : (w : Wanted) (one other : ℕ → Bool) → w.life ≡ Any → (i : Item)
    → is_wanted w one i ≡ is_wanted w other i
any-wanted w one other any i =
    let same : passes_life w.life one i ≡ passes_life w.life other i =
    ap (λ (life : Life). passes_life life one i) any ∙ ap (λ (life : Life). passes_life life other i) (sym any) in
    ap (λ (b : Bool). ((b && (is_chosen w.by_mt i && is_chosen w.by_name i))
    && (nat_le w.least i.size && nat_le i.size w.greatest))
    && is_in_region w.region i.place) same

pub any-text : (mode : Mode) (rows : List TypeRow) (w : Wanted) (one other : ℕ → Bool) (items : List Item)
    (text : List ℕ) → w.life ≡ Any → text ≡ dump_by_mode mode rows (filter (is_wanted w one) items)
    → text ≡ dump_by_mode mode rows (filter (is_wanted w other) items)
any-text mode rows w one other items text any put =
    put ∙ ap (dump_by_mode mode rows)
    (filter-on (is_wanted w one) (is_wanted w other) items (λ i is. any-wanted w one other any i))

-- only the options on life tell what the roots reach
pub tests-life : (life : Life) (live : ℕ → Bool) (P : ℕ → Type 0) → (life ≡ Live) ⊎ (life ≡ Dead)
    → TestsLife life live P → Tests live P
tests-life asked live P (inl is) tests = subst (λ (l : Life). TestsLife l live P) is tests
tests-life asked live P (inr is) tests = subst (λ (l : Life). TestsLife l live P) is tests

-- ---- objects by their items

pub object-item : (i : Item) → 0 < i.type_id.0 → is_object i ≡ true
object-item i some = ap not (ne_eqb i.type_id.0 0 (λ none. omega arith))

module _ (rows : List TypeRow) (h : HeapView) (heap : IsHeap h) (held : IsHeld rows h) (i : Item)
    (listed : IsIn i (heap_items rows h)) where
  pub item-word : HasWord h.memories i.place
  item-word = cell_has rows h heap held i i.place listed (mt_in rows h heap held i listed)

  pub item-stands : 0 < i.type_id.0 → StandsAt rows h i.place
  item-stands some = stands_from rows h i listed (object-item i some)

-- what a search answers of an object is what a test of the same set says
pub answer-told : (P : ℕ → Type 0) (answer seen : Bool) (listed live : ℕ → Bool) (x : ℕ) → answer ≡ seen
    → seen ≡ listed x → Tests listed P → Tests live P → answer ≡ live x
answer-told P answer seen listed live x told same one other = told ∙ same ∙ one_test_of P listed live one other x
