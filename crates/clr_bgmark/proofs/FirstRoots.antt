-- The roots of a first pause become gray, and nothing else does.
use Rattle.std.proofs.Common.{◌≡◌, ◌≢◌, ℕ, zero, suc, ◌%◌, ◌<◌, ◌≤◌, ◌⊎◌, inl, inr, List, length, get_or, ap}
use Rattle.std.proofs.Common.{arith, refl, sym, subst, ◌∙◌, Bool, true, false, if◌then◌else◌, Option, Some, None}
use Rattle.std.proofs.Common.{IsTrue}
use Rattle.std.proofs.lemmas.Bool.{both_ways, cases_lt}
use Rattle.std.specs.FinMap as finmap
use Rattle.std.specs.Ordering.{nat_cmp}
use Rattle.clr_types.specs.Kinds.{is_root_kind}
use Rattle.clr_types.specs.Rising.{IsIn}
use Rattle.clr_types.specs.Types.{TypeRow}
use Rattle.clr_types.specs.declared.handle.Handle.{Handle}
use Rattle.clr_heap.specs.View.{heap_items, HeapView, IsHeap}
use Rattle.clr_model.specs.Machine.{Machine}
use Rattle.clr_model.specs.Reach.{HeldBy, Roots}
use Rattle.clr_view.specs.SlotValues.{StandsAt}
use Rattle.clr_view.specs.View.{IsHeld}
use Rattle.clr_view.specs.World.{HandlesStand}
use Rattle.clr_view.proofs.Headers.{header-high}
use Rattle.clr_view.proofs.Unmarked.{stands-aligned}
use Rattle.clr_mark.specs.Roots.{IsRoot}
use Rattle.clr_mark.proofs.Rooting.{at_in, in_at}
use Rattle.clr_bgmark.specs.Pauses.{root_grayed, roots_grayed, target_grayed, targets_grayed}
use Rattle.clr_bgmark.specs.Scanning.{is_white_place}
use Rattle.clr_bgmark.specs.Shades.{BackgroundView, colour_at, grayed, is_white, ShadeView}
use Rattle.clr_bgmark.proofs.FirstColours.{first_objects, IsInFirstPause, roots_first, targets_first}
use Rattle.clr_bgmark.proofs.Meeting.{gray_met, HasMet, IsName, met_after, met_none, white_is, white_parts}

-- b is one of the first n roots, and not null
pub record IsMemberBelow (roots : List ℕ) (n b : ℕ) : Type 0 where
  pub index : ℕ
  pub below : index < n
  pub is : get_or roots index 0 ≡ b
  pub some : b ≢ 0

-- b is the target of the strong or pinned handle of a number
pub record IsTargetOf (handles : finmap.FinMap nat_cmp Handle) (n b : ℕ) : Type 0 where
  pub row : Handle
  pub in_use : finmap.get handles n ≡ Some row
  pub holds : IsTrue (is_root_kind row.kind)
  pub target : row.target ≡ b
  pub some : b ≢ 0

-- b is the target of one of a number below n
pub record IsTargetBelow (handles : finmap.FinMap nat_cmp Handle) (n b : ℕ) : Type 0 where
  pub number : ℕ
  pub below : number < n
  pub of : IsTargetOf handles number b

pub met_named : (ss now : List ShadeView) (P Q : ℕ → Type 0) → HasMet ss now P → ((b : ℕ) → P b → Q b)
    → ((b : ℕ) → Q b → P b) → HasMet ss now Q
met_named ss now P Q h to from = record {
  shades = h.shades;
  taken = h.taken;
  scanned = h.scanned;
  stays = h.stays;
  fresh = λ b whole e. elim (h.fresh b whole e) [ inl m ↦ inl m | inr p ↦ inr (to b p.0, p.1) ];
  found = λ b q w. h.found b (from b q) w;
}

member_split : (roots : List ℕ) (n b : ℕ) → IsMemberBelow roots (suc n) b
    → IsMemberBelow roots n b ⊎ IsName (get_or roots n 0) b
member_split roots n b m = elim (cases_lt m.index n) [
  | inl l ↦ inl (record { index = m.index; below = l; is = m.is; some = m.some })
  | inr g ↦
      let low = m.below in
      let last : m.index ≡ n = omega (arith, low, g) in
      let named : b ≡ get_or roots n 0 = sym m.is ∙ ap (λ (j : ℕ). get_or roots j 0) last in
      inr (named, λ z. m.some (named ∙ z))
]

target_split : (handles : finmap.FinMap nat_cmp Handle) (n b : ℕ) → IsTargetBelow handles (suc n) b
    → IsTargetBelow handles n b ⊎ IsTargetOf handles n b
target_split handles n b t = elim (cases_lt t.number n) [
  | inl l ↦ inl (record { number = t.number; below = l; of = t.of })
  | inr g ↦
      let low = t.below in
      let last : t.number ≡ n = omega (arith, low, g) in
      inr (subst (λ (j : ℕ). IsTargetOf handles j b) last t.of)
]

module _ (rows : List TypeRow) (h : HeapView) (heap : IsHeap h) (held : IsHeld rows h) (bare : List ShadeView) where
  root_met : (v : BackgroundView) (y : ℕ) → IsInFirstPause h (heap_items rows h) bare v.shades → (y ≢ 0 → y % 8 ≡ 0)
      → HasMet v.shades (root_grayed v y).shades (IsName y)
  root_met v y f whole = go (is_white (colour_at v.shades y)) refl
    where
      white : is_white (colour_at v.shades y) ≡ true → is_white_place v.shades y ≡ true
      white e = sym (white_is v.shades y) ∙ e

      some : is_white (colour_at v.shades y) ≡ true → y ≢ 0
      some e z =
          let even : y % 8 ≡ 0 = ap (λ (n : ℕ). n % 8) z in
          let stands : StandsAt rows h 0 = subst (StandsAt rows h) z
          ((first_objects rows h heap held bare v.shades f).taken y even (white_parts v.shades y (white e)).taken) in
          let high = header-high rows h 0 heap held stands in
          absurd (omega (arith, high))

      go : (w : Bool) → is_white (colour_at v.shades y) ≡ w
          → HasMet v.shades (if w then grayed v y else v).shades (IsName y)
      go true e = gray_met v.shades y f.shades (whole (some e)) (some e) (white e)
      go false e =
          met_none v.shades (IsName y) f.shades (λ b n w.
          both_ways (is_white (colour_at v.shades y)) e
          (white_is v.shades y ∙ subst (λ (c : ℕ). is_white_place v.shades c ≡ true) n.0 w))

  pub roots_met : (roots : List ℕ) → ((x : ℕ) → IsRoot roots x → StandsAt rows h x) → (n : ℕ) → n ≤ length roots
      → (v : BackgroundView) → IsInFirstPause h (heap_items rows h) bare v.shades
      → HasMet v.shades (roots_grayed roots n v).shades (IsMemberBelow roots n)
  unfolding roots_grayed
  roots_met roots stand zero l v f =
      met_none v.shades (IsMemberBelow roots 0) f.shades (λ b m w. let low = m.below in absurd (omega (arith, low)))
  roots_met roots stand (suc n) l v f =
      let y = get_or roots n 0 in
      let mid = roots_grayed roots n v in
      met_after v.shades mid.shades (root_grayed mid y).shades (IsMemberBelow roots n) (IsName y)
      (IsMemberBelow roots (suc n)) (roots_met roots stand n (omega (arith, l)) v f)
      (root_met mid y (roots_first h (heap_items rows h) bare roots n v f)
      (λ some. stands-aligned rows h heap held y
      (stand y (record { listed = at_in roots n 0 (omega (arith, l)); not_null = omega (arith, some) }))))
      (λ b m. member_split roots n b m)
      (λ b m. let low = m.below in record { index = m.index; below = omega (arith, low); is = m.is; some = m.some })
      (λ b p. record { index = n; below = omega arith; is = sym p.0; some = λ z. p.1 (sym p.0 ∙ z) })

  target_met : (handles : finmap.FinMap nat_cmp Handle) → HandlesStand rows h handles → (n : ℕ) (v : BackgroundView)
      → IsInFirstPause h (heap_items rows h) bare v.shades
      → HasMet v.shades (target_grayed (finmap.get handles n) v).shades (IsTargetOf handles n)
  target_met handles stand n v f = go (finmap.get handles n) refl
    where
      row_met : (row : Handle) → finmap.get handles n ≡ Some row → (r : Bool) → is_root_kind row.kind ≡ r
          → HasMet v.shades (if r then root_grayed v row.target else v).shades (IsTargetOf handles n)
      row_met row e true k =
          met_named v.shades (root_grayed v row.target).shades (IsName row.target) (IsTargetOf handles n)
          (root_met v row.target f (λ some. elim (stand n row e).target [
            | inl null ↦ absurd (some null)
            | inr there ↦ stands-aligned rows h heap held row.target there
          ]))
          (λ b p. record {
            row = row;
            in_use = e;
            holds = k;
            target = sym p.0;
            some = λ z. p.1 (sym p.0 ∙ z);
          })
          (λ b t.
          let used = t.in_use in
          let same : t.row ≡ row = cc in
          let named : b ≡ row.target = sym t.target ∙ ap (λ (q : Handle). q.target) same in
          (named, λ z. t.some (named ∙ z)))
      row_met row e false k =
          met_none v.shades (IsTargetOf handles n) f.shades (λ b t w.
          let used = t.in_use in
          let same : t.row ≡ row = cc in
          both_ways (is_root_kind row.kind) k (ap (λ (q : Handle). is_root_kind q.kind) (sym same) ∙ t.holds))

      go : (o : Option Handle) → finmap.get handles n ≡ o
          → HasMet v.shades (target_grayed o v).shades (IsTargetOf handles n)
      go None e =
          met_none v.shades (IsTargetOf handles n) f.shades (λ b t w. let used = t.in_use in absurd cc)
      go (Some row) e = row_met row e (is_root_kind row.kind) refl

  pub targets_met : (handles : finmap.FinMap nat_cmp Handle) → HandlesStand rows h handles → (n : ℕ)
      → (v : BackgroundView) → IsInFirstPause h (heap_items rows h) bare v.shades
      → HasMet v.shades (targets_grayed handles n v).shades (IsTargetBelow handles n)
  unfolding targets_grayed
  targets_met handles stand zero v f =
      met_none v.shades (IsTargetBelow handles 0) f.shades (λ b t w. let low = t.below in absurd (omega (arith, low)))
  targets_met handles stand (suc n) v f =
      let mid = targets_grayed handles n v in
      met_after v.shades mid.shades (target_grayed (finmap.get handles n) mid).shades (IsTargetBelow handles n)
      (IsTargetOf handles n) (IsTargetBelow handles (suc n)) (targets_met handles stand n v f)
      (target_met handles stand n mid (targets_first h (heap_items rows h) bare handles n v f))
      (λ b t. target_split handles n b t)
      (λ b t. let low = t.below in record { number = t.number; below = omega (arith, low); of = t.of })
      (λ b t. record { number = n; below = omega arith; of = t })

-- ---- all roots

-- what the first pause makes gray, where it was taken
abbrev pub IsNamed : finmap.FinMap nat_cmp Handle → List ℕ → List ℕ → ℕ → Type 0
IsNamed handles locals ready b =
    (IsMemberBelow locals (length locals) b ⊎ IsMemberBelow ready (length ready) b) ⊎ IsTargetBelow handles 65536 b

member_of : (roots : List ℕ) (b : ℕ) → 0 < b → IsIn b roots → IsMemberBelow roots (length roots) b
member_of roots b low k =
    let (j, l, e) = in_at roots b 0 k in
    record { index = j; below = l; is = e; some = λ z. omega (arith, low, z) }

member_in : (roots : List ℕ) (b : ℕ) → IsMemberBelow roots (length roots) b → IsIn b roots
member_in roots b m = subst (λ (n : ℕ). IsIn n roots) m.is (at_in roots m.index 0 m.below)

positive : (b : ℕ) → b ≢ 0 → 0 < b
positive zero some = absurd (some refl)
positive (suc b) some = omega arith

module _ (m : Machine) (handles : finmap.FinMap nat_cmp Handle) (locals ready : List ℕ)
    (same_handles : m.handles ≡ handles)
    (same_locals : m.locals ≡ locals) (same_ready : m.ready ≡ ready) where
  pub named_root : (b : ℕ) → IsNamed handles locals ready b → Roots m b
  named_root b (inl (inl k)) =
      (positive b k.some, inl (inl (subst (λ (xs : List ℕ). IsIn b xs) (sym same_locals) (member_in locals b k))))
  named_root b (inl (inr k)) =
      (positive b k.some, inr (subst (λ (xs : List ℕ). IsIn b xs) (sym same_ready) (member_in ready b k)))
  named_root b (inr t) = (
    positive b t.of.some,
    inl (inr (subst (λ (hs : finmap.FinMap nat_cmp Handle). HeldBy hs b) (sym same_handles)
        (record {
          handle = t.number;
          row = t.of.row;
          in_use = t.of.in_use;
          holds = t.of.holds;
          target = t.of.target;
        }))),
  )

  pub root_named : ((k : ℕ) (row : Handle) → finmap.get handles k ≡ Some row → k < 65536) → (b : ℕ) → Roots m b
      → IsNamed handles locals ready b
  root_named low b root = go root.0 root.1
    where
      go : 0 < b → (IsIn b m.locals ⊎ HeldBy m.handles b) ⊎ IsIn b m.ready → IsNamed handles locals ready b
      go some (inl (inl k)) =
          inl (inl (member_of locals b some (subst (λ (xs : List ℕ). IsIn b xs) same_locals k)))
      go some (inr k) = inl (inr (member_of ready b some (subst (λ (xs : List ℕ). IsIn b xs) same_ready k)))
      go some (inl (inr t)) =
          let of : HeldBy handles b = subst (λ (hs : finmap.FinMap nat_cmp Handle). HeldBy hs b) same_handles t in
          inr (record {
            number = of.handle;
            below = low of.handle of.row of.in_use;
            of = record {
              row = of.row;
              in_use = of.in_use;
              holds = of.holds;
              target = of.target;
              some = λ z. omega (arith, some, z);
            };
          })
