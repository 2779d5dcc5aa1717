-- What collections and making room carry over: each object but for its place and flag, and all that names objects.
use Rattle.std.proofs.Common.{◌≡◌, ℕ, ◌⊎◌, inl, inr, refl, sym, ap, subst, ◌∙◌, Bool, true, false, if◌then◌else◌, List}
use Rattle.std.proofs.Common.{filter, not, ◌&&◌, ◌++◌, ◌==◌, Option, None, Some}
use Rattle.std.specs.FinMap as finmap
use Rattle.std.specs.Ordering.{nat_cmp}
use Rattle.clr_types.specs.Rising.{IsIn, IsRisingBy}
use Rattle.clr_types.specs.Maps.{map_values}
use Rattle.clr_types.specs.Segments.{Layout}
use Rattle.clr_types.specs.declared.handle.Handle.{Handle}
use Rattle.clr_types.specs.declared.handle.Kind.{Kind}
use Rattle.clr_types.specs.declared.handle.Kind.TheVariants.{Strong, Pinned, Weak, WeakLong, Dependent}
use Rattle.clr_types.proofs.ChangedLists.{IsIn-map, into_filter, out_of_filter, rising-distinct}
use Rattle.clr_types.proofs.ListMembers.{distinct_filter, distinct_map, from-map, in_append}
use Rattle.clr_types.proofs.MapValues.{get-map_values}
use Rattle.clr_types.proofs.SortedLists.{find_by-member}
use Rattle.clr_model.specs.declared.How.{How}
use Rattle.clr_model.specs.declared.How.TheVariants.{Sweep}
use Rattle.clr_model.specs.declared.Collected.{Collected}
use Rattle.clr_model.specs.Machine.{Object, Machine, Marking}
use Rattle.clr_model.specs.Lookups.{object_named}
use Rattle.clr_model.specs.Reach.{StartOf, StartOfBackground, woken, is_suppressed}
use Rattle.clr_model.specs.Compaction.{Move}
use Rattle.clr_model.specs.Slide.{slid_object}
use Rattle.clr_model.specs.Collection.{IsCollected, kept_or_null, row_of_kind, row_after, object_after, objects_after}
use Rattle.clr_model.specs.Collection.{begun, ended, marking_after, Collects, EndsBackground, SlidesIf}
use Rattle.clr_model.specs.Updates.{all_given_up}
use Rattle.clr_model.specs.Allocation.{Attempt, with_layout, MakesRoom, PlacesLarge, PlacesPinned}
use Rattle.clr_model.proofs.Joined.{before_change}
use Rattle.clr_model.proofs.SmallLadder.{comes_by}
use Rattle.clr_model.proofs.LargeLadder.{large_comes_by}
use Rattle.clr_model.proofs.PinnedLadder.{pinned_comes_by}

-- ---- what is carried over

-- the object is another, but for its place and flag
pub record IsAlike (old o : Object) : Type 0 where
  pub name : o.name ≡ old.name
  pub type : o.type ≡ old.type
  pub slots : o.slots ≡ old.slots

abbrev pub WasIn : List Object → Object → Type 0
WasIn objects o = (old : Object) × IsIn old objects × IsAlike old o

abbrev pub IsOrNull : ℕ → ℕ → Type 0
IsOrNull old x = (x ≡ old) ⊎ (x ≡ 0)

-- the handle was there, and names what it named or null
pub record RowWas (handles : finmap.FinMap nat_cmp Handle) (k : ℕ) (row : Handle) : Type 0 where
  pub old : Handle
  pub in_use : finmap.get handles k ≡ Some old
  pub target : IsOrNull old.target row.target
  pub second : IsOrNull old.second row.second

-- a marking stays, or ends
pub record CarriesOver (m new : Machine) : Type 0 where
  pub objects : (o : Object) → IsIn o new.objects → WasIn m.objects o
  pub locals : new.locals ≡ m.locals
  pub handles : (k : ℕ) (row : Handle) → finmap.get new.handles k ≡ Some row → RowWas m.handles k row
  pub entries : (x : ℕ) → IsIn x new.entries → IsIn x m.entries
  pub ready : (x : ℕ) → IsIn x new.ready → IsIn x m.ready ⊎ IsIn x m.entries
  pub types : new.types ≡ m.types
  pub steps : new.steps ≡ m.steps
  pub born : new.born ≡ m.born
  pub background : (marking : Marking) → new.background ≡ Some marking → m.background ≡ Some marking

-- ---- one after another

or_null_after : (old mid x : ℕ) → IsOrNull old mid → IsOrNull mid x → IsOrNull old x
or_null_after old mid x h (inr e) = inr e
or_null_after old mid x (inl f) (inl e) = inl (e ∙ f)
or_null_after old mid x (inr f) (inl e) = inr (e ∙ f)

alike_after : (old mid o : Object) → IsAlike old mid → IsAlike mid o → IsAlike old o
alike_after old mid o h k =
    record { name = k.name ∙ h.name; type = k.type ∙ h.type; slots = k.slots ∙ h.slots }

row_was_after : (first last : finmap.FinMap nat_cmp Handle) (k : ℕ) (row : Handle)
    → ((q : ℕ) (row : Handle) → finmap.get last q ≡ Some row → RowWas first q row) → RowWas last k row
    → RowWas first k row
row_was_after first last k row was h =
    let mid = was k h.old h.in_use in
    record {
      old = mid.old;
      in_use = mid.in_use;
      target = or_null_after mid.old.target h.old.target row.target mid.target h.target;
      second = or_null_after mid.old.second h.old.second row.second mid.second h.second;
    }

pub carried_after : (m mid new : Machine) → CarriesOver m mid → CarriesOver mid new → CarriesOver m new
carried_after m mid new h k = record {
  objects = λ o i.
      let (p, j, a) = k.objects o i in let (q, l, b) = h.objects p j in (q, l, alike_after q p o b a);
  locals = k.locals ∙ h.locals;
  handles = λ x row e. row_was_after m.handles mid.handles x row h.handles (k.handles x row e);
  entries = λ x i. h.entries x (k.entries x i);
  ready = λ x i. go x (k.ready x i);
  types = k.types ∙ h.types;
  steps = k.steps ∙ h.steps;
  born = k.born ∙ h.born;
  background = λ marking e. h.background marking (k.background marking e);
}
  where
    go : (x : ℕ) → IsIn x mid.ready ⊎ IsIn x mid.entries → IsIn x m.ready ⊎ IsIn x m.entries
    go x (inl i) = h.ready x i
    go x (inr i) = inr (h.entries x i)

-- ---- another layout

-- so does a machine with other objects that differ in their places alone
placed_carries : (m : Machine) (objects : List Object) (layout : Layout) (flag : Bool)
    → ((o : Object) → IsIn o objects → WasIn m.objects o)
    → CarriesOver m (record m { objects = objects; layout = layout; compacts_large = flag })
placed_carries m objects layout flag were = record {
  objects = were;
  locals = refl;
  handles = λ k row e. record { old = row; in_use = e; target = inl refl; second = inl refl };
  entries = λ x i. i;
  ready = λ x i. inl i;
  types = refl;
  steps = refl;
  born = refl;
  background = λ marking e. e;
}

itself : (objects : List Object) (o : Object) → IsIn o objects → WasIn objects o
itself objects o i = (o, i, record { name = refl; type = refl; slots = refl })

relaid_carries : (m : Machine) (layout : Layout) (flag : Bool)
    → CarriesOver m (record m { layout = layout; compacts_large = flag })
relaid_carries m layout flag = placed_carries m m.objects layout flag (itself m.objects)

pub same_carries : (m new : Machine) → new ≡ m → CarriesOver m new
same_carries m new same = subst (CarriesOver m) (sym same) (relaid_carries m m.layout m.compacts_large)

-- ---- a collection

kept_is_or_null : (test : ℕ → Bool) (x : ℕ) → IsOrNull x (kept_or_null test x)
kept_is_or_null test x = go (test x)
  where
    go : (b : Bool) → IsOrNull x (if b then x else 0)
    go true = inl refl
    go false = inr refl

-- what becomes of a row names what it named, or null
record NamesNoMore (old row : Handle) : Type 0 where
  pub target : IsOrNull old.target row.target
  pub second : IsOrNull old.second row.second

same_row : (row : Handle) → NamesNoMore row row
same_row row = record { target = inl refl; second = inl refl }

row_names_no_more : (first kept : ℕ → Bool) (kind : Kind) (row : Handle)
    → NamesNoMore row (row_of_kind first kept kind row)
row_names_no_more first kept Strong row = same_row row
row_names_no_more first kept Pinned row = same_row row
row_names_no_more first kept Weak row = record { target = kept_is_or_null first row.target; second = inl refl }
row_names_no_more first kept WeakLong row = record { target = kept_is_or_null kept row.target; second = inl refl }
row_names_no_more first kept Dependent row = go (kept row.target)
  where
    go : (b : Bool) → NamesNoMore row (if b then row else record row { target = 0; second = 0 })
    go true = same_row row
    go false = record { target = inr refl; second = inr refl }

row_was : (first kept : ℕ → Bool) (handles : finmap.FinMap nat_cmp Handle) (k : ℕ) (row : Handle)
    → finmap.get (map_values (row_after first kept) handles) k ≡ Some row → RowWas handles k row
row_was first kept handles k row e =
    let (old, found, is) = before_change (row_after first kept) (finmap.get handles k) row
    (sym (get-map_values (row_after first kept) handles k) ∙ e) in
    let no_more : NamesNoMore old row =
    subst (NamesNoMore old) (sym is) (row_names_no_more first kept old.kind old) in
    record { old = old; in_use = found; target = no_more.target; second = no_more.second }

-- an object that a collection leaves was there
pub object_was : (m : Machine) (first kept : ℕ → Bool) (moves : List Move) (o : Object)
    → IsIn o (objects_after m first kept moves)
    → (old : Object) × IsIn old m.objects × (kept old.name ≡ true) × (o ≡ object_after m first moves old)
object_was m first kept moves o i =
    let (old, e, j) = from-map (object_after m first moves) o (filter (λ (o : Object). kept o.name) m.objects) i in
    let (stays, k) = out_of_filter (λ (o : Object). kept o.name) old m.objects j in (old, k, stays, e)

-- one that stays is found by its name
pub found_after : (m : Machine) → IsRisingBy (λ (o : Object). o.name) m.objects → (first kept : ℕ → Bool)
    (moves : List Move) (o : Object) → IsIn o m.objects → kept o.name ≡ true
    → object_named (objects_after m first kept moves) o.name ≡ Some (object_after m first moves o)
found_after m rise first kept moves o i stays =
    find_by-member (λ (o : Object). o.name) (object_after m first moves o) (objects_after m first kept moves)
    (distinct_map (object_after m first moves) (λ (o : Object). o.name)
    (filter (λ (o : Object). kept o.name) m.objects)
    (distinct_filter (λ (o : Object). o.name) (λ (o : Object). kept o.name) m.objects
    (rising-distinct (λ (o : Object). o.name) m.objects rise)))
    (IsIn-map (object_after m first moves) (into_filter (λ (o : Object). kept o.name) m.objects stays i))

marking_was : (full : Bool) (was : Option Marking) (marking : Marking) → marking_after full was ≡ Some marking
    → was ≡ Some marking
marking_was full None marking e = e
marking_was true (Some old) marking e = absurd cc
marking_was false (Some old) marking e = e

pub none_after_full : (was : Option Marking) → marking_after true was ≡ None
none_after_full None = refl
none_after_full (Some marking) = refl

module _ (m : Machine) (g : ℕ) (how : How) (last_pause : Bool) (start : ℕ → Type 0) (answer : Collected)
    (new : Machine) (c : IsCollected m g how last_pause start answer new) where
  collected_was : (o : Object) → IsIn o (objects_after m c.first c.kept c.moves) → WasIn m.objects o
  collected_was o i =
      let (old, j, stays, e) = object_was m c.first c.kept c.moves o i in (
        old,
        j,
        record {
          name = ap (λ (w : Object). w.name) e;
          type = ap (λ (w : Object). w.type) e;
          slots = ap (λ (w : Object). w.slots) e;
        },
      )

  queued : (x : ℕ) → IsIn x (m.ready ++ woken m c.first) → IsIn x m.ready ⊎ IsIn x m.entries
  queued x i = go (in_append m.ready i)
    where
      go : IsIn x m.ready ⊎ IsIn x (woken m c.first) → IsIn x m.ready ⊎ IsIn x m.entries
      go (inl j) = inl j
      go (inr j) = inr (out_of_filter (λ e. not (c.first e) && not (is_suppressed m e)) x m.entries j).1

  pub collected_carries : CarriesOver m new
  collected_carries = record {
    objects = λ o i. collected_was o (subst (λ (w : Machine). IsIn o w.objects) c.state i);
    locals = ap (λ (w : Machine). w.locals) c.state;
    handles = λ k row e.
        row_was c.first c.kept m.handles k row (subst (λ (w : Machine). finmap.get w.handles k ≡ Some row) c.state e);
    entries = λ x i.
        (out_of_filter c.first x m.entries (subst (λ (w : Machine). IsIn x w.entries) c.state i)).1;
    ready = λ x i. queued x (subst (λ (w : Machine). IsIn x w.ready) c.state i);
    types = ap (λ (w : Machine). w.types) c.state;
    steps = ap (λ (w : Machine). w.steps) c.state;
    born = ap (λ (w : Machine). w.born) c.state;
    background = λ marking e. marking_was (g == 2) m.background marking
        (subst (λ (w : Machine). w.background ≡ Some marking) c.state e);
  }

-- ---- what follows on it

slide_carries : (slides : Bool) (m new : Machine) → SlidesIf slides m new → CarriesOver m new
slide_carries true m new (moves, s) =
    subst (CarriesOver m) (sym s.state)
    (placed_carries m _ s.layout m.compacts_large (λ o i.
    let (old, e, j) = from-map (slid_object moves) o m.objects i in (
      old,
      j,
      record {
        name = ap (λ (w : Object). w.name) e;
        type = ap (λ (w : Object). w.type) e;
        slots = ap (λ (w : Object). w.slots) e;
      },
    )))
slide_carries false m new same = same_carries m new same

end_carries : (g : ℕ) (flag : Bool) (m new : Machine) → new ≡ record (ended g m) { compacts_large = flag }
    → CarriesOver m new
end_carries g flag m new same =
    subst (CarriesOver m) (sym same) (relaid_carries m (ended g m).layout flag)

begun_carries : (m : Machine) → CarriesOver m (begun m)
begun_carries m = relaid_carries m (all_given_up m.layout) m.compacts_large

pub collects_carries : (m : Machine) (g : ℕ) (how : How) (answer : Collected) (new : Machine)
    → Collects m g how answer new → CarriesOver m new
collects_carries m g how answer new c =
    carried_after m c.slid new
    (carried_after m c.collected c.slid
    (carried_after m (begun m) c.collected (begun_carries m)
    (collected_carries (begun m) g how false (StartOf (begun m) g) answer c.collected c.collects))
    (slide_carries (m.compacts_large && (g == 2)) c.collected c.slid c.slides))
    (end_carries g (m.compacts_large && not (g == 2)) c.slid new c.ends)

pub last_pause_carries : (m : Machine) (marking : Marking) (answer : Collected) (new : Machine)
    → EndsBackground m marking answer new → CarriesOver m new
last_pause_carries m marking answer new c =
    carried_after m c.collected new
    (carried_after m (begun m) c.collected (begun_carries m)
    (collected_carries (begun m) 2 Sweep true (StartOfBackground (begun m) marking) answer c.collected c.collects))
    (end_carries 2 c.collected.compacts_large c.collected new c.ends)

-- ---- room for an object

layout_carries : (m new : Machine) (layout : Layout) → new ≡ with_layout m layout → CarriesOver m new
layout_carries m new layout same = subst (CarriesOver m) (sym same) (relaid_carries m layout m.compacts_large)

pub room_carries : (t size : ℕ) (attempt : Attempt) (new m : Machine) → MakesRoom m t size attempt new
    → CarriesOver m new
room_carries t size attempt new =
    comes_by t size attempt new (λ m. CarriesOver m new) (λ m. same_carries m new)
    (λ m layout refill same. layout_carries m new layout same)
    (λ m layout allowed refill same. layout_carries m new layout same)
    (λ m g how answer mid c. carried_after m mid new (collects_carries m g how answer mid c))

pub large_carries : (size place : ℕ) (attempt : Attempt) (new m : Machine) → PlacesLarge m size place attempt new
    → CarriesOver m new
large_carries size place attempt new =
    large_comes_by size place attempt new (λ m. CarriesOver m new) (λ m. same_carries m new)
    (λ m layout placed same. layout_carries m new layout same)
    (λ m layout allowed placed same. layout_carries m new layout same)
    (λ m g how answer mid c. carried_after m mid new (collects_carries m g how answer mid c))

pub pinned_carries : (size place : ℕ) (attempt : Attempt) (new m : Machine) → PlacesPinned m size place attempt new
    → CarriesOver m new
pinned_carries size place attempt new =
    pinned_comes_by size place attempt new (λ m. CarriesOver m new) (λ m. same_carries m new)
    (λ m layout placed same. layout_carries m new layout same)
    (λ m layout allowed placed same. layout_carries m new layout same)
    (λ m g how answer mid c. carried_after m mid new (collects_carries m g how answer mid c))
