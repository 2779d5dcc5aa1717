-- Where the plugs of all parts stand, and what lies before those whose information overwrites nothing.
use Rattle.std.proofs.Common.{◌≡◌, ◌⊎◌, inl, inr, ℕ, zero, suc, ◌+◌, ◌%◌, ◌<◌, ◌≤◌, List, [], ◌∷◌, ◌++◌, length}
use Rattle.std.proofs.Common.{refl, sym, subst, arith, Bool, true, false, if◌then◌else◌, ◌==◌, ◌||◌, not}
use Rattle.std.proofs.lemmas.Bool.{both_ways, cases_lt, cases_order, eq-eqb, eqb-true}
use Rattle.clr_types.specs.Rising.{first, IsIn, IsRisingBy, later}
use Rattle.clr_types.specs.Types.{TypeRow}
use Rattle.clr_types.specs.declared.segment.SegInfo.{SegInfo}
use Rattle.clr_types.proofs.ListMembers.{append_right, in_append}
use Rattle.clr_types.proofs.ChangedLists.{append_left}
use Rattle.clr_types.proofs.PieceGaps.{IsGapped}
use Rattle.clr_types.proofs.RisingLists.{all_at}
use Rattle.clr_heap.specs.View.{first_of, HeapView, IsHeap, last_of, segment_at}
use Rattle.clr_heap.proofs.Framing.{lawful_at}
use Rattle.clr_heap.proofs.Staying.{segment_order}
use Rattle.clr_model.specs.Compaction.{Move, Plug, plug_end}
use Rattle.clr_model.proofs.PlugRoom.{ArePlugs}
use Rattle.clr_plugs.specs.Info.{IsInfoWord}
use Rattle.clr_plugs.proofs.Keeping.{in_pushed}
use Rattle.clr_moves.specs.Moves.{part_of, takes}
use Rattle.clr_moves.specs.Overlaid.{IsOutside}
use Rattle.clr_moves.specs.declared.condemned.Condemned.{Condemned}
use Rattle.clr_plan.specs.LaidParts.{opened_by}
use Rattle.clr_plan.specs.PartLists.{AreFor, moves_in, opened_in, plugs_in}
use Rattle.clr_plan.specs.Scans.{CanScan, plugs_between}
use Rattle.clr_plan.specs.Writes.{is_open, opened}
use Rattle.clr_plan.proofs.Ages.{plugs-of, rise-behind}
use Rattle.clr_plan.proofs.Fitting.{for-append}
use Rattle.clr_plan.proofs.Pins.{front_rises}
use Rattle.clr_plan.proofs.Scanning.{plugs-above}
use Rattle.clr_plan.proofs.Seen as seen

-- ---- plugs with nothing or room for a free item between them

abbrev pub AreGapped : ℕ → List Plug → Type 0
AreGapped low [] = Unit {0}
AreGapped low (p ∷ ps) = IsGapped low p.start × AreGapped (plug_end p) ps

pub gapped-above : (low : ℕ) (ps : List Plug) → AreGapped low ps → (q : Plug) → IsIn q ps → low ≤ q.start
gapped-above low [] g q i = elim i [ ]
gapped-above low (p ∷ ps) g q first = let a = g.0 in omega arith
gapped-above low (p ∷ ps) g q (later i) = let a = g.0 in let b = gapped-above (plug_end p) ps g.1 q i in omega arith

gapped-from : (low : ℕ) (ps : List Plug) → IsRisingBy (λ (p : Plug). p.start) ps → ((p q : Plug) → IsIn p ps → IsIn q ps
    → p.start < q.start → IsGapped (plug_end p) q.start) → ((p : Plug) → IsIn p ps → IsGapped low p.start)
    → AreGapped low ps
gapped-from low [] r apart head = tt
gapped-from low (p ∷ ps) r apart head = (
  head p first,
  gapped-from (plug_end p) ps r.1 (λ q w i j. apart q w (later i) (later j))
      (λ q i. apart p q first (later i) (all_at (λ (w : Plug). p.start < w.start) i r.0)),
)

-- a plug starts at the place, which is the first one of the segment or behind at least 24 unused bytes
pub record IsOpenIn (begin low : ℕ) (ps : List Plug) (x : ℕ) : Type 0 where
  pub plug : Plug
  pub known : IsIn plug ps
  pub start : plug.start ≡ x
  pub room : (x ≡ begin) ⊎ ((low + 24 ≤ x) × ((q : Plug) → IsIn q ps → (plug_end q + 24 ≤ x) ⊎ (x ≤ q.start)))

open-here : (begin low : ℕ) (p : Plug) (ps : List Plug) → AreGapped low (p ∷ ps) → is_open begin low p.start ≡ true
    → IsOpenIn begin low (p ∷ ps) p.start
open-here begin low p ps g t = record { plug = p; known = first; start = refl; room = go (p.start == begin) refl t }
  where
    above : (q : Plug) → IsIn q (p ∷ ps) → p.start ≤ q.start
    above q first = omega arith
    above q (later i) = let a = gapped-above (plug_end p) ps g.1 q i in omega arith

    gap : (p.start == low) ≡ false → low + 24 ≤ p.start
    gap ne = elim g.0 [
      | inl e ↦ absurd (both_ways (p.start == low) ne (eq-eqb p.start low (sym e)))
      | inr l ↦ l
    ]

    apart : (b : Bool) → (p.start == low) ≡ b → (not b || false) ≡ true → low + 24 ≤ p.start
    apart true is t = absurd cc
    apart false is t = gap is

    go : (b : Bool) → (p.start == begin) ≡ b → (not (p.start == low) || b) ≡ true → (p.start ≡ begin)
        ⊎ ((low + 24 ≤ p.start) × ((q : Plug) → IsIn q (p ∷ ps) → (plug_end q + 24 ≤ p.start) ⊎ (p.start ≤ q.start)))
    go true is t = inl (eqb-true p.start begin is)
    go false is t = inr (apart (p.start == low) refl t, λ q i. inr (above q i))

pub open-place : (free : List ℕ) (begin low : ℕ) (ps : List Plug) → AreGapped low ps → (x : ℕ)
    → IsIn x (opened_by free begin low ps) → IsIn x free ⊎ IsOpenIn begin low ps x
open-place free begin low [] g x i = inl i
open-place free begin low (p ∷ ps) g x i = step (open-place (opened free begin low p.start) begin (plug_end p) ps g.1 x
    i)
  where
    split : (b : Bool) → is_open begin low p.start ≡ b → IsIn x (if b then free ++ p.start ∷ [] else free) → IsIn x free
        ⊎ IsOpenIn begin low (p ∷ ps) x
    split false is i = inl i
    split true is i = elim (in_pushed free p.start x i) [
      | inl j ↦ inl j
      | inr e ↦
          inr (subst (IsOpenIn begin low (p ∷ ps)) (sym e) (open-here begin low p ps g is))
    ]

    wider : IsOpenIn begin (plug_end p) ps x → IsOpenIn begin low (p ∷ ps) x
    wider o = record {
      plug = o.plug;
      known = later o.known;
      start = o.start;
      room = elim o.room [
        | inl e ↦ inl e
        | inr (l, others) ↦ inr (let a = g.0 in omega arith, λ q i. cons q i l others)
      ];
    }
      where
        cons : (q : Plug) → IsIn q (p ∷ ps) → plug_end p + 24 ≤ x → ((w : Plug) → IsIn w ps → (plug_end w + 24 ≤ x)
            ⊎ (x ≤ w.start)) → (plug_end q + 24 ≤ x) ⊎ (x ≤ q.start)
        cons q first l others = inl l
        cons q (later i) l others = others q i

    step : IsIn x (opened free begin low p.start) ⊎ IsOpenIn begin (plug_end p) ps x → IsIn x free
        ⊎ IsOpenIn begin low (p ∷ ps) x
    step (inl i) = split (is_open begin low p.start) refl i
    step (inr o) = inr (wider o)

-- ---- where they stand

-- where a plug of the part of segment t lies
pub record LiesInPart (h : HeapView) (g : Condemned) (t : ℕ) (q : Plug) : Type 0 where
  pub low : part_of h g t ≤ q.start
  pub high : plug_end q ≤ last_of h t
  pub aligned : q.start % 8 ≡ 0
  pub ends : plug_end q % 8 ≡ 0
  pub segment : q.segment ≡ (segment_at h t).base

pub in-stretch : (rows : List TypeRow) (h : HeapView) (g : Condemned) (t p c : ℕ) → CanScan rows h t p c → (q : Plug)
    → IsIn q (plugs_between rows h t p c) → part_of h g t ≤ p → c ≤ last_of h t → LiesInPart h g t q
in-stretch rows h g t p c s q i low high =
    let lies = all_at (λ (w : Plug). seen.LiesUpTo c w.start (plug_end w)) i (seen.plugs-lie rows h t p c s) in
    let above = all_at (λ (w : Plug). p ≤ w.start) i (plugs-above rows h t p c s) in
    let ends = lies.high in
    record {
      low = omega (arith, above, low);
      high = omega (arith, ends, high);
      aligned = lies.starts;
      ends = lies.ends;
      segment = (plugs-of rows h t p c s (λ n. Unit {0}) (λ x l u. tt) q i).1;
    }

-- the plugs of a part among those of all
pub in-plugs : (h : HeapView) (g : Condemned) (plugs : ℕ → List Plug) (k t : ℕ) (q : Plug) → t < k
    → takes g (segment_at h t) ≡ true → IsIn q (plugs t) → IsIn q (plugs_in h g plugs k)
in-plugs h g plugs zero t q l on i = absurd (omega arith)
in-plugs h g plugs (suc k) t q l on i = elim (cases_lt t k) [
  | inl u ↦ append_left (if takes g (segment_at h k) then plugs k else []) (in-plugs h g plugs k t q u on i)
  | inr u ↦
      let same : t ≡ k = omega arith in
      append_right (plugs_in h g plugs k)
      (subst (λ (b : Bool). IsIn q (if b then plugs k else []))
      (sym (subst (λ j. takes g (segment_at h j) ≡ true) same on)) (subst (λ j. IsIn q (plugs j)) same i))
]

-- the parts are among those of the `count` lowest segments, and these are their plugs
pub record HaveHomes (h : HeapView) (g : Condemned) (plugs : ℕ → List Plug) (count : ℕ) : Type 0 where
  pub heap : IsHeap h
  pub inside : count ≤ length h.segments
  pub above : (t : ℕ) → count ≤ t → t < length h.segments → takes g (segment_at h t) ≡ false
  pub segments : List SegInfo
  pub lie : ArePlugs segments (plugs_in h g plugs count)
  pub from_first : (t : ℕ) → t < count → takes g (segment_at h t) ≡ true → first_of h t ≤ part_of h g t
  pub lies : (t : ℕ) → t < count → takes g (segment_at h t) ≡ true → (q : Plug) → IsIn q (plugs t)
      → LiesInPart h g t q
  pub gapped : (t : ℕ) → t < count → takes g (segment_at h t) ≡ true → (q : Plug) → IsIn q (plugs t)
      → IsGapped (part_of h g t) q.start

module _ (h : HeapView) (g : Condemned) (plugs : ℕ → List Plug) (count : ℕ) (homes : HaveHomes h g plugs count) where
  abbrev pub all : List Plug
  all = plugs_in h g plugs count

  pub inside-of : (t : ℕ) → t < count → t < length h.segments
  inside-of t l = let i = homes.inside in omega (arith, l, i)

  -- ---- the part of a plug

  pub record HasHome (k : ℕ) (q : Plug) : Type 0 where
    pub number : ℕ
    pub below : number < k
    pub taken : takes g (segment_at h number) ≡ true
    pub known : IsIn q (plugs number)

  pub home-of : (k : ℕ) (q : Plug) → IsIn q (plugs_in h g plugs k) → HasHome k q
  home-of zero q i = elim i [ ]
  home-of (suc k) q i = elim (in_append (plugs_in h g plugs k) i) [
    | inl j ↦ let r = home-of k q j in record {
      number = r.number;
      below = (let b = r.below in omega (arith, b));
      taken = r.taken;
      known = r.known;
    }
    | inr j ↦ go (takes g (segment_at h k)) refl j
  ]
    where
      go : (b : Bool) → takes g (segment_at h k) ≡ b → IsIn q (if b then plugs k else [])
          → HasHome (suc k) q
      go true on j = record { number = k; below = omega arith; taken = on; known = j }
      go false off j = elim j [ ]

  block-rises : (k : ℕ) → IsRisingBy (λ (p : Plug). p.start) (plugs_in h g plugs k) → (t : ℕ) → t < k
      → takes g (segment_at h t) ≡ true → IsRisingBy (λ (p : Plug). p.start) (plugs t)
  block-rises zero r t l on = absurd (omega arith)
  block-rises (suc k) r t l on = elim (cases_lt t k) [
    | inl u ↦ block-rises k
        (front_rises (plugs_in h g plugs k) (if takes g (segment_at h k) then plugs k else []) r) t u on
    | inr u ↦
        let same : k ≡ t = omega arith in
        subst (λ j. IsRisingBy (λ (p : Plug). p.start) (plugs j)) same
        (subst (λ (b : Bool). IsRisingBy (λ (p : Plug). p.start) (if b then plugs k else []))
        (subst (λ j. takes g (segment_at h j) ≡ true) (sym same) on)
        (rise-behind (plugs_in h g plugs k)
        (if takes g (segment_at h k) then plugs k else []) r))
  ]

  pub part-rises : (t : ℕ) → t < count → takes g (segment_at h t) ≡ true
      → IsRisingBy (λ (p : Plug). p.start)
      (plugs t)
  part-rises t l on = block-rises count homes.lie.rise t l on

  pub sized : (q : Plug) → IsIn q all → 24 ≤ q.size
  sized q i = (homes.lie.each q i).size

  -- ---- the plugs of a part, one after the other

  pub part-gapped : (t : ℕ) → t < count → takes g (segment_at h t) ≡ true
      → AreGapped (part_of h g t) (plugs t)
  part-gapped t l on = gapped-from (part_of h g t) (plugs t) (part-rises t l on)
      (λ p q i j u. homes.lie.apart p q (in-plugs h g plugs count t p l on i) (in-plugs h g plugs count t q l on j) u)
      (homes.gapped t l on)

  pub record HasOpen (k x : ℕ) : Type 0 where
    pub number : ℕ
    pub below : number < k
    pub taken : takes g (segment_at h number) ≡ true
    pub open_in : IsOpenIn (first_of h number) (part_of h g number) (plugs number) x

  open-below : (k x : ℕ) → k ≤ count → IsIn x (opened_in h g plugs k) → HasOpen k x
  open-below zero x l i = elim i [ ]
  open-below (suc k) x l i = go (λ j. open-below k x (omega arith) j) (takes g (segment_at h k)) refl i
    where
      wider : HasOpen k x → HasOpen (suc k) x
      wider r = record {
        number = r.number;
        below = (let b = r.below in omega (arith, b));
        taken = r.taken;
        open_in =
            r.open_in;
      }

      go : (IsIn x (opened_in h g plugs k) → HasOpen k x) → (b : Bool) → takes g (segment_at h k) ≡ b
          → IsIn x (if b then opened_by (opened_in h g plugs k) (first_of h k) (part_of h g k)
          (plugs k) else opened_in h g plugs k) → HasOpen (suc k) x
      go below false off j = wider (below j)
      go below true on j = elim (open-place (opened_in h g plugs k) (first_of h k) (part_of h g k)
          (plugs k) (part-gapped k (omega arith) on) x j) [
            | inl f ↦ wider (below f)
            | inr o ↦ record { number = k; below = omega arith; taken = on; open_in = o }
          ]

  -- THE INFORMATION OF A FREE PLACE stands in no plug, and outside of no part
  module _ (x b : ℕ) (i : IsIn x (opened_in h g plugs count)) (info : IsInfoWord x b) where
    is : HasOpen count x
    is = open-below count x (omega arith) i

    abbrev t : ℕ
    t = is.number

    mine : LiesInPart h g t is.open_in.plug
    mine = homes.lies t is.below is.taken is.open_in.plug is.open_in.known

    inside : t < length h.segments
    inside = inside-of t is.below

    pub free-of-plugs : (q : Plug) → IsIn q all → q.start ≤ b + 8 → b + 8 < plug_end q → ⊥
    free-of-plugs q j low high = go (cases_order home.number t)
      where
        home : HasHome count q
        home = home-of count q j

        its : LiesInPart h g home.number q
        its = homes.lies home.number home.below home.taken q home.known

        same : IsIn q (plugs t) → part_of h g t ≤ q.start → ⊥
        same k above = elim is.open_in.room [
          | inl at ↦
              let f = homes.from_first t is.below is.taken in let c = info.1 in omega (arith, at, f, above, low, c)
          | inr (l, others) ↦ elim (others q k) [
            | inl far ↦ let c = info.0 in omega (arith, far, high, c)
            | inr up ↦
                let c = info.1 in omega (arith, up, low, c)
          ]
        ]

        go : (home.number ≡ t) ⊎ ((home.number < t) ⊎ (t < home.number)) → ⊥
        go (inl e2) = same (subst (λ n. IsIn q (plugs n)) e2 home.known)
            (subst (λ n. part_of h g n ≤ q.start) e2 its.low)
        go (inr (inl l)) =
            let o = segment_order h home.number t homes.heap l inside in
            let top = (lawful_at h home.number homes.heap (inside-of home.number home.below)).high in
            let f = homes.from_first t is.below is.taken in
            let m = mine.low in
            let s = is.open_in.start in
            let d = its.high in
            let c = info.0 in
            omega (arith, o, top, f, m, s, d, c, high)
        go (inr (inr l)) =
            let o = segment_order h t home.number homes.heap l (inside-of home.number home.below) in
            let top = (lawful_at h t homes.heap inside).high in
            let f = homes.from_first home.number home.below home.taken in
            let m = mine.high in
            let s = is.open_in.start in
            let d = its.low in
            let c = info.1 in
            omega (arith, o, top, f, m, s, d, c, low)

    pub free-in-part : IsOutside h g b → ⊥
    free-in-part outside =
        let top = (lawful_at h t homes.heap inside).high in
        let f = homes.from_first t is.below is.taken in
        let m = mine.low in
        let d = mine.high in
        let s = is.open_in.start in
        let low = info.0 in
        let high = info.1 in
        elim (outside t inside is.taken) [
          | inl under ↦ omega (arith, under, low, m, f, s)
          | inr other ↦ elim other [
            | inl (from, below) ↦ elim is.open_in.room [
              | inl at ↦ omega (arith, at, from, high)
              | inr (l, others) ↦ omega (arith, l, below, low)
            ]
            | inr over ↦ omega (arith, over, high, s, d, top)
          ]
        ]

  -- ---- moves

  pub all-for : (each : ℕ → List Move) → ((t : ℕ) → t < count → takes g (segment_at h t) ≡ true
      → AreFor (plugs t) (each t)) → (k : ℕ) → k ≤ count → AreFor (plugs_in h g plugs k)
      (moves_in h g each k)
  all-for each fit zero l = tt
  all-for each fit (suc k) l =
      for-append (plugs_in h g plugs k) (if takes g (segment_at h k) then plugs k else []) (moves_in h g each k)
      (if takes g (segment_at h k) then each k else [])
      (all-for each fit k (omega arith)) (go (takes g (segment_at h k)) refl)
    where
      go : (b : Bool) → takes g (segment_at h k) ≡ b → AreFor (if b then plugs k else [])
          (if b then each k else [])
      go true on = fit k (omega arith) on
      go false off = tt
