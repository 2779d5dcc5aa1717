-- The search of a plug's destination, over the segments of a heap.
use Rattle.std.proofs.Common.{◌≡◌, ◌≢◌, ℕ, ◌+◌, ◌^◌, ◌<◌, ◌≤◌, ◌⊎◌, inl, inr, List, ◌∷◌, length, refl, sym, ap}
use Rattle.std.proofs.Common.{subst, ◌∙◌, arith, Bool, true, false, nat_eq, nat_le, ◌||◌}
use Rattle.std.proofs.lemmas.Bool.{both_ways, cases_order, eqb-true, eq-eqb, leb-true, le-leb, or_cases}
use Rattle.clr_types.specs.Rising.{IsIn, first}
use Rattle.clr_types.specs.Ranges.{Piece, piece_end}
use Rattle.clr_pinq.specs.declared.entry.PinEntry.{PinEntry}
use Rattle.clr_plan.specs.Waiting.{ranges_from}
use Rattle.clr_types.specs.Segments.{first_place, reserved_end}
use Rattle.clr_types.specs.declared.segment.SegInfo.{SegInfo}
use Rattle.clr_types.proofs.ListMembers.{append_right}
use Rattle.clr_types.proofs.PieceGaps.{IsGapped}
use Rattle.clr_heap.specs.View.{HeapView, segment_at}
use Rattle.clr_heap.proofs.Staying.{segment_order}
use Rattle.clr_heap.proofs.Framing.{lawful_at, below_top_at}
use Rattle.clr_model.specs.Compaction.{FitsAt}
use Rattle.clr_model.proofs.PlugRoom.{in_segment}
use Rattle.clr_plan.specs.Stages.{all_plugs, are_alike, CanPlace, HasFound, is_gapped, IsListed, IsNextAlike}
use Rattle.clr_plan.specs.Stages.{PinsBehind, Stage}
use Rattle.clr_plan.specs.declared.pointer.Pointer.{Pointer}
use Rattle.clr_plan.proofs.Alike.{alike-self}
use Rattle.clr_plan.proofs.Trying.{AreBehind, IsTrying, starts, fits-before, passes-pin, home_above, fits-at-home}
use Rattle.clr_plan.proofs.Trying.{fits-in-tail, passes-segment, lands}

pub gapped-yes : (low high : ℕ) → is_gapped low high ≡ true → IsGapped low high
gapped-yes low high e = elim (or_cases (nat_eq low high) (nat_le (low + 24) high) e)
    [ inl t ↦ inl (eqb-true low high t) | inr t ↦ inr (leb-true (low + 24) high t) ]

pub gapped-no : (low high : ℕ) → is_gapped low high ≡ false → IsGapped low high → ⊥
gapped-no low high e (inl t) = both_ways (is_gapped low high) e (ap (λ b. b || nat_le (low + 24) high)
    (eq-eqb low high t))
gapped-no low high e (inr t) = both_ways (is_gapped low high) e (go (nat_eq low high))
  where
    go : (b : Bool) → (b || nat_le (low + 24) high) ≡ true
    go true = refl
    go false = le-leb (low + 24) high t

module _ (w : Stage) (h : HeapView) (entries : List PinEntry) (from : Pointer) (home size : ℕ)
    (can : CanPlace w h entries from home size) where
  abbrev Tries : Pointer → Type 0
  Tries at = IsTrying w.segments w.done w.plug w.ahead can.plugs can.unpinned from.place (segment_at h at.segment)
      at.place (ranges_from at.passed entries)

  -- the pointer on its way
  pub record IsSearching (at : Pointer) : Type 0 where
    pub order : from.segment ≤ at.segment
    pub most : at.segment ≤ home
    pub high : at.high ≡ reserved_end (segment_at h at.segment)
    pub behind : at.passed ≤ length entries
    pub trying : Tries at

  pub search-starts : IsSearching from
  search-starts = record {
    order = omega arith;
    most = can.among.order;
    high = can.among.high;
    behind = can.behind;
    trying = starts w.segments w.done w.plug w.ahead can.plugs can.unpinned (segment_at h from.segment) from.place
        (ranges_from from.passed entries) can.stands;
  }

  home-in : IsIn (segment_at h home) w.segments
  home-in = can.among.between home can.among.order (omega arith) (alike-self (segment_at h home).kind)

  module _ (at : Pointer) (s : IsSearching at) where
    abbrev here : SegInfo
    here = segment_at h at.segment

    pub search-room : at.place + size + 24 < 2 ^ 64
    search-room =
        let (g, u) = in_segment w.segments (all_plugs w) can.plugs (segment_at h home) w.plug home-in
        (append_right w.done first) can.of in
        let top : reserved_end (segment_at h home) ≤ h.top = below_top_at h home can.among.heap can.among.in_range in
        let small : h.top ≤ 2 ^ 61 + 2 ^ 30 = can.among.heap.top_small in
        let (below, near) = s.trying.at.near w.plug first in
        let sized : size ≡ w.plug.size = can.sized in
        omega arith

    pub below_home : at.segment ≢ home → at.segment < home
    below_home ne = let m = s.most in elim (cases_order at.segment home) [
      | inl e ↦ absurd (ne e)
      | inr (inl l) ↦
          l
      | inr (inr l) ↦ absurd (omega arith)
    ]

    found : FitsAt w.segments (all_plugs w) w.plug.size at.place → HasFound w h entries from home at
    found fit =
        let (d, is) = lands w.segments w.done w.plug w.ahead can.plugs can.unpinned from.place here at.place
        (ranges_from at.passed entries) s.trying fit in
        record { order = s.order; most = s.most; high = s.high; behind = s.behind; lands = d; at = is }

    -- ---- at a pin

    module _ (x : Piece) (rest : List Piece) (e : x ∷ rest ≡ ranges_from at.passed entries)
        (inside : x.place < at.high) where
      tried : IsTrying w.segments w.done w.plug w.ahead can.plugs can.unpinned from.place here at.place (x ∷ rest)
      tried = subst (λ ps. IsTrying w.segments w.done w.plug w.ahead can.plugs can.unpinned from.place here at.place ps)
          (sym e) s.trying

      within : x.place < reserved_end here
      within = let high = s.high in omega arith

      pub found-before-pin : is_gapped (at.place + size) x.place ≡ true → HasFound w h entries from home at
      found-before-pin t =
          found (fits-before w.segments w.done w.plug w.ahead can.plugs can.unpinned from.place here at.place x rest
          tried within
          (subst (λ n. IsGapped (at.place + n) x.place) can.sized (gapped-yes (at.place + size) x.place t)))

      pub search-passes-pin : (n : ℕ) → n ≤ length entries → rest ≡ ranges_from n entries
          → is_gapped (at.place + size) x.place ≡ false → IsSearching (record at { place = piece_end x; passed = n })
      search-passes-pin n below more t = record {
        order = s.order;
        most = s.most;
        high = s.high;
        behind = below;
        trying = subst (λ ps. IsTrying w.segments w.done w.plug w.ahead can.plugs can.unpinned from.place here
            (piece_end x) ps) more
            (passes-pin w.segments w.done w.plug w.ahead can.plugs can.unpinned from.place here at.place x rest tried
            within
            (λ g. gapped-no (at.place + size) x.place t (subst (λ n. IsGapped (at.place + n) x.place) (sym can.sized)
            g)));
      }

    -- ---- where no pin is ahead in the segment

    module _ (none : PinsBehind at.high (ranges_from at.passed entries)) where
      behind : AreBehind w.segments w.done w.plug w.ahead can.plugs can.unpinned here (ranges_from at.passed entries)
      behind x rest e = subst (λ n. n ≤ x.place) s.high (subst (PinsBehind at.high) e none)

      pub found-at-home : at.segment ≡ home → HasFound w h entries from home at
      found-at-home e =
          found (fits-at-home w.segments w.done w.plug w.ahead can.plugs can.unpinned from.place here at.place
          (ranges_from at.passed entries) s.trying behind
          (can.of ∙ ap (λ k. (segment_at h k).base) (sym e)))

      away : at.segment ≢ home → reserved_end here ≤ w.plug.start
      away ne = go (home_above w.segments w.done w.plug w.ahead can.plugs can.unpinned here at.place
          (ranges_from at.passed entries) s.trying.at)
        where
          below : at.segment < home
          below = below_home ne

          go : (w.plug.segment ≡ here.base) ⊎ (reserved_end here ≤ w.plug.start) → reserved_end here ≤ w.plug.start
          go (inr l) = l
          go (inl e) =
              let o : reserved_end here ≤ (segment_at h home).base = segment_order h at.segment home can.among.heap
              below can.among.in_range in
              let of : w.plug.segment ≡ (segment_at h home).base = can.of in
              let m = s.most in
              let inside : at.segment < length h.segments = let l = can.among.in_range in omega arith in
              let r : 262144 ≤ here.reserved = (lawful_at h at.segment can.among.heap inside).least in
              absurd (omega arith)

      pub found-in-tail : at.segment ≢ home → at.place + size ≤ at.high → HasFound w h entries from home at
      found-in-tail ne l =
          let high = s.high in
          let sized : size ≡ w.plug.size = can.sized in
          found (fits-in-tail w.segments w.done w.plug w.ahead can.plugs can.unpinned from.place here at.place
          (ranges_from at.passed entries) s.trying behind (away ne) (omega arith))

      pub search-next-segment : at.segment ≢ home → at.high < at.place + size → (n : ℕ)
          → IsNextAlike h at.segment home n → IsSearching (record {
            place = first_place (segment_at h n);
            segment = n;
            high = reserved_end (segment_at h n);
            passed = at.passed;
          })
      search-next-segment ne short n next =
          let above = next.above in
          let o = s.order in
          let high = s.high in
          let sized : size ≡ w.plug.size = can.sized in
          record {
            order = omega arith;
            most = next.most;
            high = refl;
            behind = s.behind;
            trying = passes-segment w.segments w.done w.plug w.ahead can.plugs can.unpinned from.place here at.place
                (ranges_from at.passed entries) s.trying behind (away ne)
                (segment_at h n) among higher nearest (omega arith);
          }
        where
          inside : n < length h.segments
          inside = let m = next.most in let l = can.among.in_range in omega arith

          among : IsIn (segment_at h n) w.segments
          among = let o = s.order in let a = next.above in can.among.between n (omega arith) next.most next.alike

          higher : reserved_end here ≤ (segment_at h n).base
          higher = segment_order h at.segment n can.among.heap next.above inside

          nearest : (u : SegInfo) → IsIn u w.segments → (u.base ≤ here.base) ⊎ ((segment_at h n).base ≤ u.base)
          nearest u i = go (can.among.listed u i)
            where
              go : IsListed h home u → (u.base ≤ here.base) ⊎ ((segment_at h n).base ≤ u.base)
              go is = by_order (cases_order is.index at.segment) (cases_order is.index n)
                where
                  base : u.base ≡ (segment_at h is.index).base
                  base = ap (λ (t : SegInfo). t.base) is.is

                  by_order : (is.index ≡ at.segment) ⊎ ((is.index < at.segment) ⊎ (at.segment < is.index))
                      → (is.index ≡ n) ⊎ ((is.index < n) ⊎ (n < is.index)) → (u.base ≤ here.base)
                      ⊎ ((segment_at h n).base ≤ u.base)
                  by_order (inl e) k = let same : (segment_at h is.index).base ≡ here.base =
                      ap (λ j. (segment_at h j).base) e in let b = base in inl (omega arith)
                  by_order (inr (inl l)) k =
                      let o : reserved_end (segment_at h is.index) ≤ here.base = segment_order h is.index at.segment
                      can.among.heap l (let a = next.above in let b = inside in omega arith) in
                      let b = base in inl (omega arith)
                  by_order (inr (inr l)) (inl e) = let same : (segment_at h is.index).base ≡ (segment_at h n).base =
                      ap (λ j. (segment_at h j).base) e in let b = base in inr (omega arith)
                  by_order (inr (inr l)) (inr (inl m)) =
                      absurd (both_ways (are_alike h home is.index) (next.between is.index l m) is.alike)
                  by_order (inr (inr l)) (inr (inr m)) =
                      let o : reserved_end (segment_at h n) ≤ (segment_at h is.index).base = segment_order h n is.index
                      can.among.heap m is.in_range in
                      let b = base in inr (omega arith)

  -- the pointer by its parts
  pub searched : (at : Pointer) {place segment high passed : ℕ}
      → IsSearching (record { place = place; segment = segment; high = high; passed = passed }) → at.place ≡ place
      → at.high ≡ high → at.passed ≡ passed → at.segment ≡ segment → IsSearching at
  searched at s a b c d = subst IsSearching (λ i. record {
    place = sym a i;
    segment = sym d i;
    high = sym b i;
    passed =
        sym c i;
  }) s
