-- The law of a search, as entries are added.
use Rattle.std.proofs.Common.{◌≡◌, ◌≢◌, ◌⊎◌, inl, inr, ℕ, ◌+◌, ◌<◌, ◌≤◌, ◌||◌, true, false, Bool, List, [], ◌∷◌}
use Rattle.std.proofs.Common.{◌++◌, length, eqb, eq-eqb, nat_eq, refl, ap, sym, ◌∙◌, subst, arith}
use Rattle.std.proofs.lemmas.Bool.{cases_Bool, cases_lt, eqb-true, false≢true}
use Rattle.std.proofs.lemmas.List.{get_or_append_left, get_or_at, length-append}
use Rattle.clr_sos.specs.Reaching.{AllCame, AllCameBy, entry_of, HasGrown, HasRoom, is_seen, IsEntry, IsListed}
use Rattle.clr_sos.specs.Reaching.{IsObjectOf, IsOrigin, IsSearch, Leads, no_entry, place_at}
use Rattle.clr_sos.specs.RootTexts.{IsLocalOrigin, IsRootOrigin}
use Rattle.clr_sos.specs.declared.reach.FoundObject.{FoundObject}
use Rattle.clr_sos.specs.declared.reach.Origin.{Origin}
use Rattle.clr_sos.specs.declared.reach.Origin.TheVariants.{Local, Handle, Ready, Through}
use Rattle.clr_sos.specs.declared.view.View.{View}

-- ---- entries at the end

pub grown-refl : (es : List FoundObject) → HasGrown es es
grown-refl es = record { longer = omega arith; same = λ i l. refl }

pub grown-trans : (a b c : List FoundObject) → HasGrown a b → HasGrown b c → HasGrown a c
grown-trans a b c p q =
    let first = p.longer in
    let second = q.longer in
    record {
      longer = omega (arith, first, second);
      same = λ i l. q.same i (omega (arith, l, first)) ∙ p.same i l;
    }

longer-push : (es : List FoundObject) (e : FoundObject) → length (es ++ e ∷ []) ≡ length es + 1
longer-push es e = length-append es (e ∷ [])

pub grown-push : (es : List FoundObject) (e : FoundObject) → HasGrown es (es ++ e ∷ [])
grown-push es e = record {
  longer = let n = longer-push es e in omega (arith, n);
  same = λ i l. get_or_append_left es (e ∷ []) no_entry i l;
}

last-push : (es : List FoundObject) (e : FoundObject) → entry_of (es ++ e ∷ []) (length es) ≡ e
last-push es e = get_or_at es e [] no_entry (length es) refl

-- ---- what led to the new ones

-- none was added
pub came-none : (es : List FoundObject) (By : Origin → Type 0) → AllCameBy es By es
came-none es By j late l = absurd (omega (arith, late, l))

-- WHAT HOLDS OF TWO STEPS holds of both together
pub came-trans : (a b c : List FoundObject) (By : Origin → Type 0) → HasGrown b c → AllCameBy a By b → AllCameBy b By c
    → AllCameBy a By c
came-trans a b c By g p q j late l = elim (cases_lt j (length b)) [
  | inl early ↦ subst (λ (e : FoundObject). By e.origin) (sym (g.same j early)) (p j late early)
  | inr last ↦ q j last l
]

-- one entry was added
pub came-push : (es : List FoundObject) (e : FoundObject) → AllCame es e.origin (es ++ e ∷ [])
came-push es e j late l =
    let n = longer-push es e in
    let here : j ≡ length es = omega (arith, late, l, n) in
    ap (λ (i : ℕ). (entry_of (es ++ e ∷ []) i).origin) here ∙ ap (λ (x : FoundObject). x.origin) (last-push es e)

-- what holds of an origin holds of whatever came from it
pub came-by : (old new : List FoundObject) (o : Origin) (By : Origin → Type 0) → By o → AllCame old o new
    → AllCameBy old By new
came-by old new o By own all j late l = subst By (sym (all j late l)) own

-- what came from a local came from a root
pub local-root : (o : Origin) → IsLocalOrigin o → IsRootOrigin o
local-root (Local i) local = tt
local-root (Handle h) local = tt
local-root (Ready i) local = tt
local-root (Through i) local = local

pub came-root : (old new : List FoundObject) → AllCameBy old IsLocalOrigin new → AllCameBy old IsRootOrigin new
came-root old new all j late l = local-root (entry_of new j).origin (all j late l)

-- ---- what is listed

pub listed-on : (old new : List FoundObject) (x : ℕ) → HasGrown old new → IsListed old x → IsListed new x
listed-on old new x g l =
    let below = l.below in
    let longer = g.longer in
    record {
      index = l.index;
      below = omega (arith, below, longer);
      is = ap (λ (e : FoundObject). e.place) (g.same l.index l.below) ∙ l.is;
    }

pub listed-push : (es : List FoundObject) (e : FoundObject) → IsListed (es ++ e ∷ []) e.place
listed-push es e = record {
  index = length es;
  below = let n = longer-push es e in omega (arith, n);
  is = ap (λ (x : FoundObject). x.place) (last-push es e);
}

-- the place of an entry is one from before, or the last
listed-back : (es : List FoundObject) (e : FoundObject) (x : ℕ) → IsListed (es ++ e ∷ []) x
    → IsListed es x ⊎ (x ≡ e.place)
listed-back es e x l = elim (cases_lt l.index (length es)) [
  | inl early ↦ inl (record {
    index = l.index;
    below = early;
    is = sym (ap (λ (y : FoundObject). y.place) ((grown-push es e).same l.index early)) ∙ l.is;
  })
  | inr late ↦
      let n = longer-push es e in
      let below = l.below in
      let last : l.index ≡ length es = omega (arith, late, below, n) in
      inr (sym l.is ∙ ap (place_at (es ++ e ∷ [])) last ∙ ap (λ (y : FoundObject). y.place) (last-push es e))
]

origin-on : (v : View) (old new : List FoundObject) (n place : ℕ) (o : Origin) → HasGrown old new → n ≤ length old
    → IsOrigin v old n place o → IsOrigin v new n place o
origin-on v old new n place (Local i) g l is = is
origin-on v old new n place (Handle h) g l is = is
origin-on v old new n place (Ready i) g l is = is
origin-on v old new n place (Through q) g l is =
    let below = is.0 in
    let same : place_at new q ≡ place_at old q =
    ap (λ (e : FoundObject). e.place) (g.same q (omega (arith, below, l))) in
    (below, subst (λ (p : ℕ). Leads v p place) (sym same) is.1)

entry-on : (v : View) (old new : List FoundObject) (i : ℕ) → HasGrown old new → i < length old → IsEntry v old i
    → IsEntry v new i
entry-on v old new i g l is =
    let same = g.same i l in
    let P : FoundObject → Type 0 = λ e. IsObjectOf v e.place × IsOrigin v new i e.place e.origin in
    let both = subst P (sym same)
    (is.stands, origin-on v old new i (place_at old i) (entry_of old i).origin g (omega (arith, l)) is.origin) in
    record { stands = both.0; origin = both.1 }

-- ---- one entry more

module _ (v : View) (seen : List (List ℕ)) (es : List FoundObject) (s : IsSearch v seen es) where
  -- what is listed is an object
  pub listed-stands : (x : ℕ) → IsListed es x → IsObjectOf v x
  listed-stands x l = subst (IsObjectOf v) l.is (s.sound l.index l.below).stands

  module _ (x : ℕ) (o : Origin) (stands : IsObjectOf v x) (origin : IsOrigin v es (length es) x o)
      (fresh : is_seen v.heap.now seen x ≡ false) (new : List (List ℕ)) (room : HasRoom v.heap.now new)
      (law : (y : ℕ) → IsObjectOf v y → is_seen v.heap.now new y ≡ (nat_eq y x || is_seen v.heap.now seen y)) where
    abbrev e : FoundObject
    e = record { place = x; origin = o }

    abbrev after : List FoundObject
    after = es ++ e ∷ []

    listed : (y : ℕ) → IsObjectOf v y → is_seen v.heap.now new y ≡ true → IsListed after y
    listed y object hit = elim (cases_Bool (eqb y x)) [
      | inl is ↦ subst (IsListed after) (sym (eqb-true y x is)) (listed-push es e)
      | inr other ↦
          let was : is_seen v.heap.now seen y ≡ true = rw other at (sym (law y object) ∙ hit) in
          listed-on es after y (grown-push es e) (s.listed y object was)
    ]

    marked : (y : ℕ) → IsListed after y → is_seen v.heap.now new y ≡ true
    marked y l = elim (listed-back es e y l) [
      | inl early ↦
          let hit = s.marked y early in
          law y (listed-stands y early) ∙ rw hit (or_true (nat_eq y x))
      | inr last ↦
          let here : nat_eq y x ≡ true = ap (λ (z : ℕ). nat_eq z x) last ∙ eq-eqb x x refl in
          law y (subst (IsObjectOf v) (sym last) stands) ∙ rw here refl
    ]
      where
        or_true : (b : Bool) → (b || true) ≡ true
        or_true true = refl
        or_true false = refl

    sound : (i : ℕ) → i < length after → IsEntry v after i
    sound i l = elim (cases_lt i (length es)) [
      | inl early ↦ entry-on v es after i (grown-push es e) early (s.sound i early)
      | inr late ↦
          let n = longer-push es e in
          let is : i ≡ length es = omega (arith, late, l, n) in
          let P : FoundObject → Type 0 = λ z. IsObjectOf v z.place × IsOrigin v after (length es) z.place z.origin in
          let both = subst P (sym (last-push es e))
          (stands, origin-on v es after (length es) x o (grown-push es e) (omega arith) origin) in
          let here : IsEntry v after (length es) = record { stands = both.0; origin = both.1 } in
          subst (IsEntry v after) (sym is) here
    ]

    distinct : (i j : ℕ) → i < j → j < length after → place_at after i ≢ place_at after j
    distinct i j before l same =
        let n = longer-push es e in
        let g = grown-push es e in
        let first : place_at after i ≡ place_at es i =
        ap (λ (z : FoundObject). z.place) (g.same i (omega (arith, before, l, n))) in
        elim (cases_lt j (length es)) [
          | inl early ↦
              s.distinct i j before early
              (sym first ∙ same ∙ ap (λ (z : FoundObject). z.place) (g.same j early))
          | inr late ↦
              let is : j ≡ length es = omega (arith, late, l, n) in
              let here : place_at es i ≡ x =
              sym first ∙ same ∙ ap (place_at after) is ∙ ap (λ (z : FoundObject). z.place) (last-push es e) in
              let was : IsListed es x = record { index = i; below = omega (arith, before, l, n); is = here } in
              false≢true (sym fresh ∙ s.marked x was)
        ]

    -- THE LAW STILL HOLDS
    pub search_more : IsSearch v new after
    search_more =
        record { room = room; listed = listed; marked = marked; sound = sound; distinct = distinct }
