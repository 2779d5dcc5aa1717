-- All contexts are given up, one thread after the other.
use Rattle.std.proofs.Common.{◌≡◌, ℕ, zero, suc, ◌-◌, ◌<◌, List, [], ◌∷◌, ◌++◌, length, get_or, set, replicate}
use Rattle.std.proofs.Common.{refl, ap, sym, ◌∙◌, subst, arith, filter, Option, None, Some}
use Rattle.std.proofs.lemmas.List.{append-nil, append_assoc}
use Rattle.clr_types.specs.Types.{TypeRow}
use Rattle.clr_types.specs.Ranges.{by_place, Piece}
use Rattle.clr_types.specs.Segments.{Layout, rest_of, rest_pieces}
use Rattle.clr_types.proofs.ChangedLists.{rising-distinct, rising-sorted, sorted_by-done}
use Rattle.clr_types.proofs.Shuffles.{IsShuffled, followed, shuffled-left, shuffled-same, shuffled-sorted}
use Rattle.clr_types.proofs.Shuffles.{shuffled-sorts, shuffled-sym}
use Rattle.clr_heap.specs.View.{heap_items, HeapView, IsHeap}
use Rattle.clr_model.specs.Updates.{given_up, pieces_of_option}
use Rattle.clr_view.specs.Clean.{AreClean}
use Rattle.clr_view.specs.View.{AreFreeHeads, free_in, HasGivenUp, IsHeld, is_object, KeepsObjects, layout_in}
use Rattle.clr_ctx.specs.Contexts.{IsRelaid}
use Rattle.clr_ctx.proofs.Choices.{keeps_both}
use Rattle.clr_items.proofs.Lists.{place}
use Rattle.clr_ctx.proofs.Resting.{free_rises, rest_is}
use Rattle.clr_ctx.proofs.Swapping.{objects_kept}

-- the rests where the first n contexts are given up, and what was left of these
abbrev pub rests_after : ℕ → List (Option Piece) → List (Option Piece)
rests_after zero rs = rs
rests_after (suc n) [] = []
rests_after (suc n) (r ∷ rs) = None ∷ rests_after n rs

abbrev pub pieces_before : ℕ → List (Option Piece) → List Piece
pieces_before zero rs = []
pieces_before (suc n) [] = []
pieces_before (suc n) (r ∷ rs) = pieces_of_option r ++ pieces_before n rs

one_more : (n : ℕ) (rs : List (Option Piece)) → set (rests_after n rs) n None ≡ rests_after (suc n) rs
one_more zero [] = refl
one_more zero (r ∷ rs) = refl
one_more (suc n) [] = refl
one_more (suc n) (r ∷ rs) = ap (λ (os : List (Option Piece)). None ∷ os) (one_more n rs)

next_rest : (n : ℕ) (rs : List (Option Piece)) → get_or (rests_after n rs) n None ≡ get_or rs n None
next_rest zero rs = refl
next_rest (suc n) [] = refl
next_rest (suc n) (r ∷ rs) = next_rest n rs

next_piece : (n : ℕ) (rs : List (Option Piece)) → pieces_before (suc n) rs ≡ pieces_before n rs ++ pieces_of_option
    (get_or rs n None)
next_piece zero [] = refl
next_piece zero (r ∷ rs) = append-nil (pieces_of_option r)
next_piece (suc n) [] = refl
next_piece (suc n) (r ∷ rs) =
    ap (λ (ps : List Piece). pieces_of_option r ++ ps) (next_piece n rs)
    ∙ sym (append_assoc (pieces_of_option r) (pieces_before n rs) (pieces_of_option (get_or rs n None)))

rests_stay : (n : ℕ) (rs : List (Option Piece)) → length (rests_after n rs) ≡ length rs
rests_stay zero rs = refl
rests_stay (suc n) [] = refl
rests_stay (suc n) (r ∷ rs) = ap suc (rests_stay n rs)

all_rests : (rs : List (Option Piece)) → rests_after (length rs) rs ≡ replicate (length rs) None
all_rests [] = refl
all_rests (r ∷ rs) = ap (λ (os : List (Option Piece)). None ∷ os) (all_rests rs)

all_pieces : (rs : List (Option Piece)) → pieces_before (length rs) rs ≡ rest_pieces rs
all_pieces [] = refl
all_pieces (None ∷ rs) = all_pieces rs
all_pieces (Some r ∷ rs) = ap (λ (ps : List Piece). r ∷ ps) (all_pieces rs)

-- The contexts of the first n threads are given up. That the heap is lawful is told by the first of them.
pub record IsGivingUp (rows : List TypeRow) (h now : HeapView) (n : ℕ) : Type 0 where
  pub heap : 0 < n → IsHeap now
  pub kept : filter is_object (heap_items rows now) ≡ filter is_object (heap_items rows h)
  pub cells : KeepsObjects rows h now
  pub free_heads : AreFreeHeads rows h → AreFreeHeads rows now
  pub clean : AreClean rows h → AreClean rows now
  pub limit : now.limit ≡ h.limit
  pub held : IsHeld rows now
  pub layout : layout_in rows now ≡ record (layout_in rows h) { free = free_in rows now; rests = rests_after n h.rests }
  pub free : IsShuffled (free_in rows now) (free_in rows h ++ pieces_before n h.rests)

pub giving_starts : (rows : List TypeRow) (h : HeapView) → IsHeld rows h → IsGivingUp rows h h 0
giving_starts rows h held = record {
  heap = λ some. absurd (omega arith);
  kept = refl;
  cells = λ i b listed object z low high. refl;
  free_heads = λ heads. heads;
  clean = λ clean. clean;
  limit = refl;
  held = held;
  layout = refl;
  free = subst (IsShuffled (free_in rows h)) (sym (append-nil (free_in rows h))) (shuffled-same (free_in rows h));
}

pub giving_step : (rows : List TypeRow) (h now new : HeapView) (n t : ℕ) → t ≡ suc n → IsGivingUp rows h now n
    → IsRelaid rows now new (given_up (layout_in rows now) t) → IsGivingUp rows h new (suc n)
giving_step rows h now new n t number f r =
    let at : t - 1 ≡ n = omega arith in
    let rests : now.rests ≡ rests_after n h.rests = ap (λ (l : Layout). l.rests) f.layout in
    let rest : rest_of (layout_in rows now) t ≡ get_or h.rests n None =
    rest_is now.rests (t - 1) ∙ (λ e. get_or (rests e) (at e) None) ∙ next_rest n h.rests in
    let ps = pieces_of_option (get_or h.rests n None) in
    let free : free_in rows new ≡ by_place (free_in rows now ++ ps) =
    ap (λ (l : Layout). l.free) r.layout ∙ ap (λ (o : Option Piece). by_place (free_in rows now ++ pieces_of_option o))
    rest in
    let new_rests : new.rests ≡ rests_after (suc n) h.rests = ap (λ (l : Layout). l.rests) r.layout
    ∙ (λ e. set (rests e) (at e) None) ∙ one_more n h.rests in
    let joined : (free_in rows h ++ pieces_before n h.rests) ++ ps ≡ free_in rows h ++ pieces_before (suc n) h.rests =
    append_assoc (free_in rows h) (pieces_before n h.rests) ps
    ∙ ap (λ (qs : List Piece). free_in rows h ++ qs) (sym (next_piece n h.rests)) in
    record {
      heap = λ some. r.heap;
      kept = r.kept ∙ f.kept;
      cells = keeps_both rows h now new f.kept f.cells r.cells;
      free_heads = λ heads. r.free_heads (f.free_heads heads);
      clean = λ clean. r.clean (f.clean clean);
      limit = r.limit ∙ f.limit;
      held = r.held;
      layout = λ e. record {
        segments = (ap (λ (l : Layout). l.segments) r.layout ∙ ap (λ (l : Layout). l.segments) f.layout) e;
        start1 = (ap (λ (l : Layout). l.start1) r.layout ∙ ap (λ (l : Layout). l.start1) f.layout) e;
        start0 = (ap (λ (l : Layout). l.start0) r.layout ∙ ap (λ (l : Layout). l.start0) f.layout) e;
        free = free_in rows new;
        rests = new_rests e;
        top = (ap (λ (l : Layout). l.top) r.layout ∙ ap (λ (l : Layout). l.top) f.layout) e;
      };
      free = subst (λ qs. IsShuffled qs (free_in rows h ++ pieces_before (suc n) h.rests)) (sym free)
          (subst (IsShuffled (by_place (free_in rows now ++ ps))) joined
          (followed (shuffled-sym (shuffled-sorted place (free_in rows now ++ ps))) (shuffled-left ps f.free)));
    }

-- GIVING UP ALL
pub giving_ends : (rows : List TypeRow) (h now : HeapView) (n : ℕ) → IsHeld rows h → n ≡ 16
    → IsGivingUp rows h now n → HasGivenUp rows h now
giving_ends rows h now n held last f =
    let heap = f.heap (omega (arith, last)) in
    let all : n ≡ length h.rests = last ∙ sym heap.threads ∙ ap (λ (l : Layout). length l.rests) f.layout
    ∙ rests_stay n h.rests in
    let rises = free_rises rows now f.held.walkable heap in
    let pieces : pieces_before n h.rests ≡ rest_pieces h.rests = ap (λ (k : ℕ). pieces_before k h.rests) all
    ∙ all_pieces h.rests in
    let rests : rests_after n h.rests ≡ replicate (length h.rests) None = ap (λ (k : ℕ). rests_after k h.rests) all
    ∙ all_rests h.rests in
    let free : free_in rows now ≡ by_place (free_in rows h ++ rest_pieces h.rests) =
    sym (sorted_by-done place (free_in rows now) (rising-sorted place (free_in rows now) rises))
    ∙ shuffled-sorts place f.free (rising-distinct place (free_in rows now) rises)
    ∙ ap (λ (ps : List Piece). by_place (free_in rows h ++ ps)) pieces in
    record {
      objects = objects_kept rows h now held.walkable f.kept f.cells;
      layout = f.layout ∙ (λ e. record (layout_in rows h) { free = free e; rests = rests e });
      cells = f.cells;
      free_heads = f.free_heads;
      clean = f.clean;
      limit = f.limit;
      heap = heap;
      held = f.held;
    }
