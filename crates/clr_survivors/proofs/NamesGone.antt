-- Names that go where a plan takes them.
use Rattle.std.proofs.Common.{◌≡◌, ◌≢◌, inl, inr, ℕ, zero, suc, ◌+◌, ◌<◌, ◌≤◌, ◌||◌, ◌==◌, Bool, true, false}
use Rattle.std.proofs.Common.{nat_lt, List, []}
use Rattle.std.proofs.Common.{◌∷◌, ◌++◌, length, map, refl, ap, sym, ◌∙◌, arith, Some, MatchBool, get_or}
use Rattle.std.proofs.Common.{set}
use Rattle.std.proofs.Common.{take}
use Rattle.std.specs.FinMap as finmap
use Rattle.std.proofs.lemmas.Bool.{eqb-true, ltb-true, or_cases}
use Rattle.std.proofs.lemmas.List.{get_or-set_other, take_more, take_more_set}
use Rattle.clr_types.specs.Kinds.{is_pinned_kind}
use Rattle.clr_types.specs.Maps.{map_values}
use Rattle.clr_types.specs.Rising.{IsIn}
use Rattle.clr_types.specs.declared.handle.Handle.{Handle}
use Rattle.clr_handles.specs.Changes.{EachBecomes}
use Rattle.clr_handles.specs.Laws.{relocated}
use Rattle.clr_handles.specs.Places.{IsFollowed, IsMoved, IsRelocated, IsSpared}
use Rattle.clr_handles.specs.Tables.{Table}
use Rattle.clr_handles.proofs.MapLaws.{each-is_map}
use Rattle.clr_heap.specs.View.{HeapView}
use Rattle.clr_model.specs.Compaction.{Move, moved_by}
use Rattle.clr_moves.specs.Overlaid.{HoldsPlan, MayGo}
use Rattle.clr_pinq.specs.declared.entry.PinEntry.{PinEntry}
use Rattle.clr_types.specs.Types.{TypeRow}
use Rattle.clr_plugs.specs.BrickEntries.{BricksView}
use Rattle.clr_survivors.specs.Roots.{Guides, HasMoved, NamesGo, Plan}
use Rattle.clr_survivors.specs.declared.roots.Roots.{Roots}
use Rattle.clr_moves.specs.declared.condemned.Condemned.{Condemned}

-- ---- handles

-- null stays, so does what lies below `low`, and any other place goes where it is told
one-gone : (answers : ℕ → ℕ → Type 0) (to : ℕ → ℕ) (low place moved : ℕ) → to 0 ≡ 0
    → (place < low → place ≡ to place) → (answers place moved → moved ≡ to place) → IsMoved answers low place moved
    → moved ≡ to place
one-gone answers to low place moved null below told is = go (place == 0 || nat_lt place low) refl is
  where
    stays : (place == 0 || nat_lt place low) ≡ true → place ≡ to place
    stays e = elim (or_cases (place == 0) (nat_lt place low) e) [
      | inl z ↦ let zero_is = eqb-true place 0 z in zero_is ∙ sym null ∙ ap to (sym zero_is)
      | inr under ↦ below (ltb-true place low under)
    ]

    go : (b : Bool) → (place == 0 || nat_lt place low) ≡ b → MatchBool b (moved ≡ place) (answers place moved)
        → moved ≡ to place
    go true e same = same ∙ stays e
    go false e answer = told answer

pub handles-gone : (answers : ℕ → ℕ → Type 0) (to : ℕ → ℕ) (low : ℕ) (old new : Table)
    → EachBecomes (IsFollowed true answers low) old new → to 0 ≡ 0 → ((place : ℕ) → place < low → place ≡ to place)
    → ((k : ℕ) (row : Handle) (moved : ℕ) → finmap.get old k ≡ Some row → answers row.target moved
    → moved ≡ to row.target)
    → ((k : ℕ) (row : Handle) → finmap.get old k ≡ Some row → is_pinned_kind row.kind ≡ true
    → to row.target ≡ row.target)
    → ((k : ℕ) (row : Handle) (moved : ℕ) → finmap.get old k ≡ Some row → answers row.second moved
    → moved ≡ to row.second)
    → new ≡ map_values (relocated to) old
handles-gone answers to low old new each null below targets pins seconds =
    each-is_map (IsFollowed true answers low) (relocated to) old new each
    (λ k row row' here is. row-gone k row row' here (is_pinned_kind row.kind) refl is)
  where
    second-gone : (k : ℕ) (row row' : Handle) → finmap.get old k ≡ Some row → IsMoved answers low row.second row'.second
        → row'.second ≡ to row.second
    second-gone k row row' here moved =
        one-gone answers to low row.second row'.second null (below row.second) (seconds k row row'.second here) moved

    row-gone : (k : ℕ) (row row' : Handle) → finmap.get old k ≡ Some row → (b : Bool) → is_pinned_kind row.kind ≡ b
        → MatchBool b (IsSpared answers low row row') (IsRelocated answers low row row') → row' ≡ relocated to row
    row-gone k row row' here true pinned is =
        let target = is.target ∙ sym (pins k row here pinned) in
        let second = second-gone k row row' here is.second in
        λ i. record { kind = is.kind i; target = target i; second = second i }
    row-gone k row row' here false free is =
        let target =
        one-gone answers to low row.target row'.target null (below row.target) (targets k row row'.target here)
        is.target in
        let second = second-gone k row row' here is.second in
        λ i. record { kind = is.kind i; target = target i; second = second i }

-- ---- lists

pub in-at : (xs : List ℕ) (i : ℕ) → i < length xs → IsIn (get_or xs i 0) xs
in-at [] i l = absurd (omega (arith, l))
in-at (x ∷ xs) zero l = IsIn.first
in-at (x ∷ xs) (suc i) l = IsIn.later (in-at xs i (omega (arith, l)))

map-append : (f : ℕ → ℕ) (xs ys : List ℕ) → map f (xs ++ ys) ≡ map f xs ++ map f ys
map-append f [] ys = refl
map-append f (x ∷ xs) ys = ap (λ (zs : List ℕ). f x ∷ zs) (map-append f xs ys)

-- the places from i on are those of before
abbrev pub AreSameFrom : List ℕ → List ℕ → ℕ → Type 0
AreSameFrom was now i = (j : ℕ) → i ≤ j → get_or now j 0 ≡ get_or was j 0

pub same-further : (was now : List ℕ) (i y : ℕ) → AreSameFrom was now i → AreSameFrom was (set now i y) (i + 1)
same-further was now i y same j high =
    let apart : j ≢ i = λ e. omega (arith, e, high) in
    get_or-set_other now i j y 0 apart ∙ same j (omega (arith, high))

-- one place more has gone
pub one-more : (f : ℕ → ℕ) (was now : List ℕ) (i y : ℕ) → i < length now → i < length was
    → take i now ≡ map f (take i was) → y ≡ f (get_or was i 0) → take (i + 1) (set now i y) ≡ map f (take (i + 1) was)
one-more f was now i y l m so_far is =
    take_more_set now i y l ∙ ap (λ (xs : List ℕ). xs ++ y ∷ []) so_far
    ∙ ap (λ (n : ℕ). map f (take i was) ++ n ∷ []) is
    ∙ sym (ap (map f) (take_more was i 0 m) ∙ map-append f (take i was) (get_or was i 0 ∷ []))

pub le-refl : (n : ℕ) → n ≤ n
le-refl n = omega arith

-- ---- what is told of one place

pub told : (p : Plan) (h : HeapView) (bricks : BricksView) (g : Condemned) (place moved : ℕ) → Guides p h bricks g
    → MayGo p.view g p.moves place → HasMoved h bricks g place moved → moved ≡ moved_by p.moves place
told p h bricks g place moved guides may has = has.by p guides may

-- what a destination says of all that holds a plan
pub gone-by : (h : HeapView) (bricks : BricksView) (g : Condemned) (place moved : ℕ)
    → ((rows : List TypeRow) (view : HeapView) (entries : List PinEntry) (vs : List Move) (start1 start0 : ℕ)
    → HoldsPlan rows view h bricks entries g vs start1 start0 → MayGo view g vs place
    → moved ≡ moved_by vs place)
    → HasMoved h bricks g place moved
gone-by h bricks g place moved goes = record {
  by = λ p guides may. goes p.rows p.view p.entries p.moves p.start1 p.start0 guides may;
}

-- what a plan takes along, another of the same moves takes along
pub names-on : (p q : Plan) (g : Condemned) → q.moves ≡ p.moves
    → ((x : ℕ) → MayGo p.view g p.moves x → MayGo q.view g q.moves x)
    → (roots : Roots) → NamesGo p g roots → NamesGo q g roots
names-on p q g same on roots names = record {
  locals_go = λ x i. on x (names.locals_go x i);
  handles_go = record {
    targets = λ k row found. on row.target (names.handles_go.targets k row found);
    seconds = λ k row found. on row.second (names.handles_go.seconds k row found);
    pinned = λ k row found pins. ap (λ vs. moved_by vs row.target) same ∙ names.handles_go.pinned k row found pins;
  };
  entries_go = λ x i. on x (names.entries_go x i);
  ready_go = λ x i. on x (names.ready_go x i);
  null = ap (λ vs. moved_by vs 0) same ∙ names.null;
}
