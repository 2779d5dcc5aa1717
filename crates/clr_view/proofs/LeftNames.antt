-- Names of objects that a collection leaves: as objects are named by their places, a name tells whether its object is
-- left.
use Rattle.std.proofs.Common.{◌≡◌, inl, inr, ℕ, ◌≤◌, ◌==◌, Bool, true, false, not, ◌&&◌, ◌||◌, List, filter, refl, ap}
use Rattle.std.proofs.Common.{sym, ◌∙◌, subst}
use Rattle.std.specs.List.{list_any}
use Rattle.std.proofs.lemmas.Bool.{and_from, and_parts, both_ways, cases_Bool, eq-eqb, eqb-true, le-leb}
use Rattle.clr_types.specs.Rising.{IsIn, Tests}
use Rattle.clr_types.specs.Segments.{generation}
use Rattle.clr_types.specs.Types.{TypeRow}
use Rattle.clr_types.proofs.ListMembers.{any-from, any-in}
use Rattle.clr_heap.specs.View.{frame, heap_items, HeapView, word_of}
use Rattle.clr_model.specs.Machine.{Object}
use Rattle.clr_view.specs.Marks.{has_mark, Marked}
use Rattle.clr_view.specs.Memory.{is_left, is_left_name, is_marked, is_reached_by, IsLeft, TestsMarks}
use Rattle.clr_view.specs.View.{is_object, object_in, objects_in}
use Rattle.clr_view.proofs.ObjectItems.{in_map}

-- ---- objects that a test passes, by name

module _ (objects : List Object) (test : Object → Bool) where
  -- whether an object of this name passes
  abbrev pub passes_name : ℕ → Bool
  passes_name x = list_any (λ (o : Object). (o.name == x) && test o) objects

  pub passed-in : (x : ℕ) → passes_name x ≡ true → (o : Object) × IsIn o objects × (o.name ≡ x) × (test o ≡ true)
  passed-in x e =
      let (o, i, passed) = any-in (λ (o : Object). (o.name == x) && test o) objects e in
      let (name, passes) = and_parts (o.name == x) (test o) passed in
      (o, i, eqb-true o.name x name, passes)

  pub passed-from : (x : ℕ) (o : Object) → IsIn o objects → o.name ≡ x → test o ≡ true → passes_name x ≡ true
  passed-from x o i name passes =
      any-from (λ (o : Object). (o.name == x) && test o) objects o i
      (and_from (o.name == x) (test o) (eq-eqb o.name x name) passes)

  -- THE NAME OF AN OBJECT passes where the object does, if objects of one name pass together
  pub passed-name : ((o q : Object) → IsIn o objects → IsIn q objects → o.name ≡ q.name → test o ≡ test q)
      → (o : Object) → IsIn o objects → passes_name o.name ≡ test o
  passed-name same o i = elim (cases_Bool (test o)) [
    | inl passes ↦ passed-from o.name o i refl passes ∙ sym passes
    | inr fails ↦ elim (cases_Bool (passes_name o.name)) [
      | inl passed ↦
          let (q, j, name, passes) = passed-in o.name passed in
          absurd (both_ways (test o) fails (same o q i j (sym name) ∙ passes))
      | inr out ↦ out ∙ sym fails
    ]
  ]

-- ---- in a heap

or-true : (b : Bool) → b || true ≡ true
or-true true = refl
or-true false = refl

module _ (rows : List TypeRow) (h : HeapView) where
  -- an object is named by its place
  pub name-is-place : (o : Object) → IsIn o (objects_in rows h) → o.name ≡ o.place
  name-is-place o i =
      let (x, listed, is) = in_map (object_in rows (word_of h)) o (filter is_object (heap_items rows h)) i in
      sym (ap (λ (q : Object). q.name) is) ∙ ap (λ (q : Object). q.place) is

  same-place : (o q : Object) → IsIn o (objects_in rows h) → IsIn q (objects_in rows h) → o.name ≡ q.name
      → o.place ≡ q.place
  same-place o q i j same = sym (name-is-place o i) ∙ same ∙ name-is-place q j

  -- an object that a collection goes over is left where it is marked
  pub left-reached : (g : ℕ) (o : Object) → generation (frame h) o.place ≤ g → is_left h g o ≡ is_marked h o
  left-reached g o l = ap (λ (reached : Bool). not reached || is_marked h o) (le-leb (generation (frame h) o.place) g l)

  module _ (g : ℕ) where
    -- THE NAMES THAT ARE LEFT: those of the objects that are left
    pub left-name : (o : Object) → IsIn o (objects_in rows h) → is_left_name rows h g o.name ≡ is_left h g o
    left-name = passed-name (objects_in rows h) (is_left h g) (λ o q i j same.
        ap (λ (p : ℕ). not (is_reached_by h g p) || has_mark (word_of h p)) (same-place o q i j same))

    -- no other name passes
    pub tests_left : Tests (is_left_name rows h g) (IsLeft rows h g)
    tests_left x = (
      λ e. let (o, i, name, passes) = passed-in (objects_in rows h) (is_left h g) x e in
          record { object = o; present = i; named = name; left = passes },
      λ l. passed-from (objects_in rows h) (is_left h g) x l.object l.present l.named l.left,
    )

    -- THE MARKS: of the objects that the collection goes over it passes the marked ones
    pub tests_marks : TestsMarks rows h g (is_left_name rows h g)
    tests_marks o i l = left-name o i ∙ left-reached g o l

    -- an object that is marked is left
    pub marked-left : (x : ℕ) → Marked rows h x → is_left_name rows h g x ≡ true
    marked-left x marked =
        let (o, i, at) = marked.stands in
        let mark : is_marked h o ≡ true = ap (λ (p : ℕ). has_mark (word_of h p)) at ∙ marked.mark in
        passed-from (objects_in rows h) (is_left h g) x o i (name-is-place o i ∙ at)
        (ap (λ (b : Bool). not (is_reached_by h g o.place) || b) mark ∙ or-true (not (is_reached_by h g o.place)))

    -- and one that is left, of a generation that the collection goes over, is marked
    pub left-marked : (x : ℕ) → generation (frame h) x ≤ g → is_left_name rows h g x ≡ true → Marked rows h x
    left-marked x l e =
        let (o, i, name, passes) = passed-in (objects_in rows h) (is_left h g) x e in
        let at : o.place ≡ x = sym (name-is-place o i) ∙ name in
        let mark : is_marked h o ≡ true =
        sym (left-reached g o (subst (λ (p : ℕ). generation (frame h) p ≤ g) (sym at) l)) ∙ passes in
        record { stands = (o, i, at); mark = ap (λ (p : ℕ). has_mark (word_of h p)) (sym at) ∙ mark }
