-- What a search finds that follows one object last.
use Rattle.std.proofs.Common.{◌≡◌, ◌≢◌, ◌⊎◌, ◌↔◌, inl, inr, ℕ, ◌+◌, ◌<◌, ◌≤◌, ◌&&◌, not, true, false, Bool, List, []}
use Rattle.std.proofs.Common.{length, nat_eq, refl, ap, sym, ◌∙◌, subst, arith}
use Rattle.std.proofs.lemmas.Bool.{cases_eq, cases_lt, eq-eqb, false≢true, ne_eqb}
use Rattle.clr_types.specs.Rising.{Tests}
use Rattle.clr_model.specs.Reach.{follows, SecondOf, SlotNames, starts}
use Rattle.clr_view.specs.View.{objects_in}
use Rattle.clr_mark.proofs.Graying.{reach_in, reach_on}
use Rattle.clr_sos.specs.Reaching.{AllCame, AllCameBy, entry_of, HasAdded, HasGrown, is_listed, IsListed, IsOrigin}
use Rattle.clr_sos.specs.Reaching.{IsRootOf}
use Rattle.clr_sos.specs.Reaching.{IsSearch, IsSound, Leads, place_at}
use Rattle.clr_sos.specs.RootTexts.{IsRootOrigin}
use Rattle.clr_sos.specs.declared.reach.FoundObject.{FoundObject}
use Rattle.clr_sos.specs.declared.reach.Origin.{Origin}
use Rattle.clr_sos.specs.declared.reach.Origin.TheVariants.{Local, Handle, Ready, Through}
use Rattle.clr_sos.specs.declared.view.View.{View}
use Rattle.clr_sos.proofs.ReachedAll.{in_slice, listed-reached, listed-told, object-not_null}
use Rattle.clr_sos.proofs.Searching.{grown-trans, listed-on}
use Rattle.clr_paths.specs.Held.{AreFollowedFrom, HasLed, IsAround, ReachedOf, ReachedWithout}

-- an entry keeps its place where others are added
place-on : (old new : List FoundObject) (i : ℕ) → HasGrown old new → i < length old → place_at new i ≡ place_at old i
place-on old new i g l = ap (λ (e : FoundObject). e.place) (g.same i l)

-- ---- roots

-- what a root led to is a root
origin-root : (v : View) (es : List FoundObject) (n place : ℕ) (o : Origin) → IsRootOrigin o → IsOrigin v es n place o
    → 0 < place → IsRootOf v place
origin-root v es n place (Local i) root is some = (some, inl (inl (in_slice v.locals.now i place is)))
origin-root v es n place (Handle h) root is some = (
  some,
  inl (inr (record { handle = h; row = is.row; in_use = is.in_use; holds = is.holds; target = is.target })),
)
origin-root v es n place (Ready i) root is some = (some, inr (in_slice v.finals.now.ready i place is))
origin-root v es n place (Through q) root is some = absurd root

-- where roots led to all entries, the roots alone are listed
pub listed-root : (v : View) → IsSound v → (seen : List (List ℕ)) (es : List FoundObject) → IsSearch v seen es
    → AllCameBy [] IsRootOrigin es → (x : ℕ) → IsListed es x → IsRootOf v x
listed-root v sound seen es s came x l =
    let own = s.sound l.index l.below in
    subst (IsRootOf v) l.is (origin-root v es l.index (place_at es l.index) (entry_of es l.index).origin
    (came l.index (omega arith) l.below) own.origin (object-not_null v sound (place_at es l.index) own.stands))

-- ---- one entry more is followed

-- what was added through an entry is what that entry leads to
came-led : (v : View) (seen : List (List ℕ)) (old new : List FoundObject) (i : ℕ) → IsSearch v seen new
    → HasGrown old new → i < length old → AllCame old (Through i) new → (y : ℕ) → IsListed new y
    → IsListed old y ⊎ Leads v (place_at old i) y
came-led v seen old new i s g below came y l = elim (cases_lt l.index (length old)) [
  | inl early ↦
      inl (record { index = l.index; below = early; is = sym (place-on old new l.index g early) ∙ l.is })
  | inr late ↦
      let led : (i < l.index) × Leads v (place_at new i) (place_at new l.index) =
      subst (IsOrigin v new l.index (place_at new l.index)) (came l.index late l.below)
      (s.sound l.index l.below).origin in
      inr (subst (λ (p : ℕ). Leads v p y) (place-on old new i g below)
      (subst (λ (q : ℕ). Leads v (place_at new i) q) l.is led.1))
]

-- an entry was followed by its slots, and then by dependent handles
pub led-both : (v : View) (a b c : List FoundObject) (s t : List (List ℕ)) (i : ℕ) → i < length a
    → HasAdded v a s b (SlotNames (objects_in v.types.now v.heap.now) (place_at a i)) → AllCame a (Through i) b
    → HasAdded v b t c (SecondOf v.handles.now (place_at b i)) → AllCame b (Through i) c → HasLed v a i c
led-both v a b c s t i inside slots by_slots ties by_ties =
    let longer = slots.grown.longer in
    let mid = place-on a b i slots.grown inside in
    record {
      grown = grown-trans a b c slots.grown ties.grown;
      added = λ y leads. elim leads [
        | inl slot ↦ listed-on b c y ties.grown (slots.added y slot)
        | inr tie ↦ ties.added y (subst (λ (p : ℕ). SecondOf v.handles.now p y) (sym mid) tie)
      ];
      only = λ y l. elim (came-led v t b c i ties.search ties.grown (omega (arith, inside, longer)) by_ties y l) [
        | inl before ↦ came-led v s a b i slots.search slots.grown inside by_slots y before
        | inr leads ↦ inr (subst (λ (p : ℕ). Leads v p y) mid leads)
      ];
    }

-- what the first entries lead to is listed, after one more was followed
pub followed-led : (v : View) (old new : List FoundObject) (n : ℕ) → n < length old → HasLed v old n new → (j y : ℕ)
    → j < n + 1 → (j < n → Leads v (place_at old j) y → IsListed old y) → Leads v (place_at new j) y → IsListed new y
followed-led v old new n inside led j y low before leads = elim (cases_eq j n) [
  | inl same ↦
      led.added y (subst (λ (p : ℕ). Leads v p y) (ap (place_at new) same ∙ place-on old new n led.grown inside) leads)
  | inr other ↦
      let early : j < n = omega (arith, low, other) in
      let at = place-on old new j led.grown (omega (arith, early, inside)) in
      listed-on old new y led.grown (before early (subst (λ (p : ℕ). Leads v p y) at leads))
]

-- ---- all but one object are followed

-- The roots are listed, whatever else is listed is reached without the one object, and whatever the first n entries
-- lead to is listed, but for that object's.
pub record IsPassing (v : View) (a : ℕ) (es : List FoundObject) (n : ℕ) : Type 0 where
  pub roots : (x : ℕ) → IsRootOf v x → IsListed es x
  pub only : (x : ℕ) → x ≢ a → IsListed es x → ReachedWithout v a x
  pub followed : (j y : ℕ) → j < n → j < length es → place_at es j ≢ a → Leads v (place_at es j) y → IsListed es y

module _ (v : View) (a : ℕ) where
  -- the roots alone are listed
  pub passing-starts : (es : List FoundObject) → ((x : ℕ) → IsListed es x ↔ IsRootOf v x) → IsPassing v a es 0
  passing-starts es roots = record {
    roots = λ x root. (roots x).1 root;
    only = λ x apart l. starts ((roots x).0 l, apart);
    followed = λ j y low. absurd (omega (arith, low));
  }

  -- the object itself is passed over
  pub passing-own : (es : List FoundObject) (n : ℕ) → place_at es n ≡ a → IsPassing v a es n → IsPassing v a es (n + 1)
  passing-own es n own p = record {
    roots = p.roots;
    only = p.only;
    followed = λ j y low l apart leads. elim (cases_eq j n) [
      | inl same ↦ absurd (apart (ap (place_at es) same ∙ own))
      | inr other ↦ p.followed j y (omega (arith, low, other)) l apart leads
    ];
  }

  -- another one was followed
  pub passing-led : (old new : List FoundObject) (n : ℕ) → n < length old → place_at old n ≢ a → HasLed v old n new
      → IsPassing v a old n → IsPassing v a new (n + 1)
  passing-led old new n inside away led p = record {
    roots = λ x root. listed-on old new x led.grown (p.roots x root);
    only = λ x apart l. elim (led.only x l) [
      | inl before ↦ p.only x apart before
      | inr leads ↦
          follows (p.only (place_at old n) away (record { index = n; below = inside; is = refl })) (leads, apart)
    ];
    followed = λ j y low l apart leads. followed-led v old new n inside led j y low
        (λ early. let was : j < length old = omega (arith, early, inside) in
        p.followed j y early was (λ own. apart (place-on old new j led.grown was ∙ own))) leads;
  }

  -- ALL BUT THE OBJECT WERE FOLLOWED
  pub passing-ends : IsSound v → (seen : List (List ℕ)) (es : List FoundObject) → IsSearch v seen es → (n : ℕ)
      → length es ≤ n → IsPassing v a es n → IsAround v a es
  passing-ends sound seen es s n all p = record {
    others = λ x apart. (
      p.only x apart,
      λ r. (reach_in (λ y z. Leads v y z × (z ≢ a)) (λ y. IsRootOf v y × (y ≢ a)) (λ y. IsListed es y × (y ≢ a)) x
          (λ y root. (p.roots y root.0, root.1)) (λ y z own e. (next y z own.1 own.0 e.0, e.1)) r).0,
    );
    own = (
      listed-reached v sound seen es s a,
      λ r. elim (reach_in (Leads v) (IsRootOf v) (λ y. IsListed es y ⊎ IsListed es a) a
          (λ y root. inl (p.roots y root))
          (λ y z own e. elim own [
            | inl l ↦ elim (cases_eq y a) [
              | inl same ↦ inr (subst (IsListed es) same l)
              | inr other ↦ inl (next y z other l e)
            ]
            | inr l ↦ inr l
          ]) r) [ inl l ↦ l | inr l ↦ l ],
    );
  }
    where
      -- what a listed object leads to is listed
      next : (y z : ℕ) → y ≢ a → IsListed es y → Leads v y z → IsListed es z
      next y z apart l e =
          let below = l.below in
          p.followed l.index z (omega (arith, below, all)) l.below (λ own. apart (sym l.is ∙ own))
          (subst (λ (q : ℕ). Leads v q z) (sym l.is) e)

  -- ---- what is reached without the object

  -- the object isn't reached without itself
  never-own : (x : ℕ) → ReachedWithout v a x → x ≢ a
  never-own x (starts root) = root.1
  never-own x (follows r e) = e.1

  -- what is reached without it is reached
  without-reached : (x : ℕ) → ReachedWithout v a x → ReachedOf v x
  without-reached x r = reach_on (Leads v) (λ y z. Leads v y z × (z ≢ a)) (IsRootOf v) (λ y. IsRootOf v y × (y ≢ a)) x
      (λ y z e. e.0) (λ y root. root.0) r

  -- where the object isn't reached at all, the others are reached without it
  none-reached : (ReachedOf v a → ⊥) → (x : ℕ) → ReachedOf v x → ReachedWithout v a x
  none-reached none x r = reach_in (Leads v) (IsRootOf v) (ReachedWithout v a) x
      (λ y root. starts (root, λ same. none (subst (ReachedOf v) same (starts root))))
      (λ y z own e. follows own
      (e, λ same. none (subst (ReachedOf v) same (follows (without-reached y own) e)))) r

  module _ (es : List FoundObject) (around : IsAround v a es) where
    -- the test of what is listed is one of what is reached without the object, but for the object
    pub without-told : Tests (λ x. is_listed es x && not (nat_eq a x)) (ReachedWithout v a)
    without-told x = (
      λ e. let both = parts (is_listed es x) (nat_eq a x) e in
          (around.others x (λ same. false≢true (sym both.1 ∙ eq-eqb a x (sym same)))).0 ((listed-told es x).0 both.0),
      λ r. let apart = never-own x r in
          both (is_listed es x) (nat_eq a x) ((listed-told es x).1 ((around.others x apart).1 r))
          (ne_eqb a x (λ same. apart (sym same))),
    )
      where
        -- what passes the test of both passes the one and fails the other
        parts : (b c : Bool) → (b && not c) ≡ true → (b ≡ true) × (c ≡ false)
        parts true false e = (refl, refl)
        parts true true e = absurd (false≢true e)
        parts false c e = absurd (false≢true e)

        -- what passes one test and fails another passes the test of both
        both : (b c : Bool) → b ≡ true → c ≡ false → (b && not c) ≡ true
        both true false e f = refl
        both true true e f = absurd (false≢true (sym f))
        both false c e f = absurd (false≢true e)

    -- ---- the object isn't listed

    module _ (none : is_listed es a ≡ false) where
      -- whatever is listed is another object
      unlisted : (x : ℕ) → IsListed es x → x ≢ a
      unlisted x l same = false≢true (sym none ∙ (listed-told es a).1 (subst (IsListed es) same l))

      -- the object isn't reached
      unreached : ReachedOf v a → ⊥
      unreached r = unlisted a (around.own.1 r) refl

      -- the test of what is listed tells what is reached
      pub all-told : Tests (is_listed es) (ReachedOf v)
      all-told x = (
        λ e. let l = (listed-told es x).0 e in
            without-reached x ((around.others x (unlisted x l)).0 l),
        λ r. let own = none-reached unreached x r in
            (listed-told es x).1 ((around.others x (never-own x own)).1 own),
      )

      -- nothing is reached by the object, so the test tells what is reached without it
      pub others-told : Tests (is_listed es) (ReachedWithout v a)
      others-told x = (
        λ e. let l = (listed-told es x).0 e in (around.others x (unlisted x l)).0 l,
        λ r. (listed-told es x).1 ((around.others x (never-own x r)).1 r),
      )

    -- ---- the object is followed last

    -- THE OBJECT WAS FOLLOWED, and all that was found then: the entries are what the roots reach
    pub last-exactly : IsSound v → (mid new : List FoundObject) (seen : List (List ℕ)) → IsSearch v seen new → (i : ℕ)
        → i < length es → place_at es i ≡ a → HasLed v es i mid → HasGrown mid new
        → AreFollowedFrom v new (length es) → (x : ℕ) → IsListed new x ↔ ReachedOf v x
    last-exactly sound mid new seen s i inside own led grown followed x =
        (listed-reached v sound seen new s x, reach_in (Leads v) (IsRootOf v) (IsListed new) x roots next)
      where
        -- entries were added since before the object was followed
        all : HasGrown es new
        all = grown-trans es mid new led.grown grown

        -- what was listed before the object was followed is still listed
        on : (y : ℕ) → IsListed es y → IsListed new y
        on y l = listed-on es new y all l

        -- the object is listed
        here : IsListed es a
        here = record { index = i; below = inside; is = own }

        -- roots are listed
        roots : (y : ℕ) → IsRootOf v y → IsListed new y
        roots y root = elim (cases_eq y a) [
          | inl same ↦ on y (subst (IsListed es) (sym same) here)
          | inr other ↦ on y ((around.others y other).1 (starts (root, other)))
        ]

        -- whatever an entry from before the object was followed leads to is listed
        early_next : (y z : ℕ) → IsListed es y → Leads v y z → IsListed new z
        early_next y z l e = elim (cases_eq y a) [
          | inl same ↦
              listed-on mid new z grown
              (led.added z (subst (λ (p : ℕ). Leads v p z) (same ∙ sym own) e))
          | inr other ↦ elim (cases_eq z a) [
            | inl back ↦ on z (subst (IsListed es) (sym back) here)
            | inr apart ↦ on z ((around.others z apart).1 (follows ((around.others y other).0 l) (e, apart)))
          ]
        ]

        -- whatever a listed one leads to is listed
        next : (y z : ℕ) → IsListed new y → Leads v y z → IsListed new z
        next y z l e = elim (cases_lt l.index (length es)) [
          | inl early ↦ early_next y z (record {
            index = l.index;
            below = early;
            is = sym (place-on es new l.index all early) ∙ l.is;
          }) e
          | inr late ↦
              followed l.index z late l.below (subst (λ (p : ℕ). Leads v p z) (sym l.is) e)
        ]
