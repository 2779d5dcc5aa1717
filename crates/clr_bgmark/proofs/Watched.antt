-- The segments that may have a gray place: what a change of one of them leaves of that.
use Rattle.std.proofs.Common.{◌≡◌, ◌≢◌, ℕ, zero, suc, ◌<◌, ◌≤◌, ◌&&◌, ◌||◌, not, inl, inr, List, [], ◌∷◌, length}
use Rattle.std.proofs.Common.{refl, sym, ap, subst, ◌∙◌, arith, Bool, true, false, if◌then◌else◌, get_or, nat_eq, set}
use Rattle.std.proofs.Common.{get_or-set_other}
use Rattle.std.proofs.lemmas.Bool.{both_ways, cases_Bool, cases_eq, eq-eqb, eqb-true}
use Rattle.std.proofs.lemmas.List.{length-set}
use Rattle.clr_bgmark.specs.Bits.{has_bit}
use Rattle.clr_bgmark.specs.Shades.{AreApart, cell_of, changed_at, covers, HasNoGray, is_gray_cell, is_marked, IsAt}
use Rattle.clr_bgmark.specs.Shades.{IsBackground}
use Rattle.clr_bgmark.specs.Shades.{IsWatched, ShadeView, with_logged}
use Rattle.clr_bgmark.proofs.GrayPlaces.{apart_at}
use Rattle.clr_bgmark.proofs.Kept.{logged_background}
use Rattle.clr_bgmark.proofs.Lookups.{at_changed, at_told}

-- ---- a set of numbers that grew

-- one more is in the set
abbrev pub HasMore : List ℕ → ℕ → List ℕ → Type 0
HasMore old n new = (i : ℕ) → has_bit new i ≡ (nat_eq i n || has_bit old i)

pub more_here : (old : List ℕ) (n : ℕ) (new : List ℕ) → HasMore old n new → has_bit new n ≡ true
more_here old n new more = more n ∙ ap (λ b. b || has_bit old n) (eq-eqb n n refl)

pub more_kept : (old : List ℕ) (n : ℕ) (new : List ℕ) → HasMore old n new → (i : ℕ) → has_bit old i ≡ true
    → has_bit new i ≡ true
more_kept old n new more i there = more i ∙ go (nat_eq i n) (has_bit old i) there
  where
    go : (b c : Bool) → c ≡ true → (b || c) ≡ true
    go true c e = refl
    go false c e = e

-- what is read where no segment is
pub no_segment : ShadeView
no_segment = record { base = 0; size = 0; taken = []; marked = []; scanned = []; logged = [] }

-- ---- one segment is changed

module _ (ss ts : List ShadeView) (old new : List ℕ) (j : ℕ) (watched : IsWatched ss old) (lawful : IsBackground ts)
    (count : length ts ≡ length ss) (others : (k : ℕ) (d : ShadeView) → k ≢ j → get_or ts k d ≡ get_or ss k d)
    (room : length new ≡ length old) (kept : (k : ℕ) → has_bit old k ≡ true → has_bit new k ≡ true)
    (here : has_bit new j ≡ true) where
  was-off : (k : ℕ) → has_bit new k ≡ false → has_bit old k ≡ false
  was-off k off = elim (cases_Bool (has_bit old k)) [
    | inl on ↦ absurd (both_ways (has_bit new k) off (kept k on))
    | inr still ↦ still
  ]

  pub watched_changed : IsWatched ts new
  watched_changed = record {
    background = lawful;
    room = let most = watched.room in omega (arith, most, count, room);
    pending = λ k d l off. elim (cases_eq k j) [
      | inl e ↦ absurd (both_ways (has_bit new j) (subst (λ (n : ℕ). has_bit new n ≡ false) e off) here)
      | inr ne ↦
          subst HasNoGray (sym (others k d ne)) (watched.pending k d (omega (arith, l, count)) (was-off k off))
    ];
  }

-- the segment of an address is changed
pub watched_at : (ss : List ShadeView) (old new : List ℕ) (j a : ℕ) (change : ShadeView → ShadeView) (d : ShadeView)
    → IsWatched ss old → IsAt ss j a → IsBackground (changed_at a change ss) → length new ≡ length old
    → ((k : ℕ) → has_bit old k ≡ true → has_bit new k ≡ true) → has_bit new j ≡ true
    → IsWatched (changed_at a change ss) new
watched_at ss old new j a change d watched at lawful room kept here =
    let e = at_changed change ss j a d at in
    let x = change (get_or ss j d) in
    subst (λ ts. IsWatched ts new) e
    (watched_changed ss (set ss j x) old new j watched (subst IsBackground (sym e) lawful) (length-set ss j x)
    (λ k d ne. get_or-set_other ss j k x d ne) room kept here)

-- a segment without a gray place need not be pending
pub watched_less : (ss : List ShadeView) (old new : List ℕ) (j lowest : ℕ) → j ≡ lowest → IsWatched ss old
    → length new ≡ length old → ((i : ℕ) → has_bit new i ≡ (not (nat_eq i lowest) && has_bit old i))
    → ((d : ShadeView) → HasNoGray (get_or ss j d)) → IsWatched ss new
watched_less ss old new j lowest at watched room less none = record {
  background = watched.background;
  room = let most = watched.room in omega (arith, most, room);
  pending = λ k d l off. elim (cases_Bool (nat_eq k lowest)) [
    | inl is ↦ subst (λ (n : ℕ). HasNoGray (get_or ss n d)) (at ∙ sym (eqb-true k lowest is)) (none d)
    | inr other ↦ watched.pending k d l (sym (less k ∙ ap (λ b. not b && has_bit old k) other) ∙ off)
  ];
}

-- a segment with a gray place is pending
pub gray_waits : (ss : List ShadeView) (pending : List ℕ) (k a : ℕ) (s : ShadeView) → s ≡ get_or ss k s
    → IsWatched ss pending → k < length ss → covers s a ≡ true → is_gray_cell s (cell_of s a) ≡ true
    → has_bit pending k ≡ true
gray_waits ss pending k a s read watched l covered gray = elim (cases_Bool (has_bit pending k)) [
  | inl on ↦ on
  | inr off ↦
      let none : HasNoGray s = subst HasNoGray (sym read) (watched.pending k s l off) in
      absurd (both_ways (is_gray_cell s (cell_of s a)) (none a covered) gray)
]

-- where no segment is pending none has one
pub none_lower : (ss : List ShadeView) (pending : List ℕ) (k : ℕ) → IsWatched ss pending
    → ((n : ℕ) → has_bit pending n ≡ true → k ≤ n) → length ss ≤ k → (j : ℕ) (d : ShadeView) → j < length ss
    → HasNoGray (get_or ss j d)
none_lower ss pending k watched above over j d l = elim (cases_Bool (has_bit pending j)) [
  | inl on ↦ let up = above j on in absurd (omega (arith, up, over, l))
  | inr off ↦ watched.pending j d l off
]

-- ---- a logged card

logged_count : (ss : List ShadeView) (a : ℕ) → length (changed_at a (with_logged a) ss) ≡ length ss
logged_count [] a = refl
logged_count (s ∷ ss) a = go (covers s a) (logged_count ss a)
  where
    go : (x : Bool) → length (changed_at a (with_logged a) ss) ≡ length ss
        → length (if x then with_logged a s ∷ ss else s ∷ changed_at a (with_logged a) ss) ≡ length (s ∷ ss)
    go true more = refl
    go false more = ap suc more

logged_quiet : (ss : List ShadeView) (a k : ℕ) (d : ShadeView) → HasNoGray (get_or ss k d)
    → HasNoGray (get_or (changed_at a (with_logged a) ss) k d)
logged_quiet [] a k d none = none
logged_quiet (s ∷ ss) a zero d none = go (covers s a)
  where
    go : (x : Bool) → HasNoGray (get_or (if x then with_logged a s ∷ ss else s ∷ changed_at a (with_logged a) ss) zero d)
    go true = none
    go false = none
logged_quiet (s ∷ ss) a (suc k) d none = go (covers s a) (logged_quiet ss a k d none)
  where
    go : (x : Bool) → HasNoGray (get_or (changed_at a (with_logged a) ss) k d)
        → HasNoGray (get_or (if x then with_logged a s ∷ ss else s ∷ changed_at a (with_logged a) ss) (suc k) d)
    go true more = none
    go false more = more

pub watched_logged : (ss : List ShadeView) (pending : List ℕ) (a : ℕ) → IsWatched ss pending
    → IsWatched (changed_at a (with_logged a) ss) pending
watched_logged ss pending a watched =
    let count = logged_count ss a in
    record {
      background = logged_background ss a watched.background;
      room = let most = watched.room in omega (arith, most, count);
      pending = λ k d l off. logged_quiet ss a k d (watched.pending k d (omega (arith, l, count)) off);
    }

-- ---- where nothing is marked

pub unmarked_quiet : (ss : List ShadeView) → AreApart ss → ((b : ℕ) → is_marked ss b ≡ false) → (k : ℕ) (d : ShadeView)
    → k < length ss → HasNoGray (get_or ss k d)
unmarked_quiet ss apart none k d l a e =
    let s = get_or ss k d in
    let at = apart_at ss k a d apart l e in
    let told = at_told (λ s a. has_bit s.marked (cell_of s a)) ss k a d at in
    λ i. (sym told ∙ none a) i && not (has_bit s.scanned (cell_of s a))
