-- What is told of roots, one after the other.
use Rattle.std.proofs.Common.{◌≡◌, ◌≢◌, ℕ, suc, ◌+◌, ◌<◌, ◌≤◌, Bool, true, false, ◌&&◌, Some, List, [], ◌∷◌, ◌++◌}
use Rattle.std.proofs.Common.{append-nil, append_assoc, ap, ap₂, arith, codes, decimal, get_or, length, nat_lt, refl}
use Rattle.std.proofs.Common.{subst, sym, take, ◌∙◌, length-append}
use Rattle.std.specs.FinMap as finmap
use Rattle.std.specs.List.{enumerate_from, flat_map}
use Rattle.std.proofs.lemmas.Bool.{lt-ltb, le-ltb}
use Rattle.std.proofs.lemmas.Grind.{flat_map-append}
use Rattle.std.proofs.lemmas.List.{take_all, take_more}
use Rattle.std.proofs.lemmas.List.FromFn.{get_or-enumerate_from}
use Rattle.clr_nums.specs.Numbers.{hex16}
use Rattle.clr_types.specs.Kinds.{is_root_kind}
use Rattle.clr_types.specs.Types.{TypeRow, name_of}
use Rattle.clr_types.specs.declared.handle.Handle.{Handle as Row}
use Rattle.clr_handles.specs.Places.{IsNext, NoneNames}
use Rattle.clr_handles.specs.Tables.{Table}
use Rattle.clr_model.specs.Looks.{handle_root_at, IsRootsText, leads, leads_not, local_root_at, no_more, ready_root_at}
use Rattle.clr_model.specs.Looks.{Root, IsShortest, root_if, TellsRoots}
use Rattle.clr_model.specs.Lookups.{object_at}
use Rattle.clr_model.specs.Machine.{Machine, Object}
use Rattle.clr_model.specs.ReplyText.{spaced}
use Rattle.clr_model.specs.Sos.{chain_line, line, type_of_place}
use Rattle.clr_sos.specs.RootTexts.{IsRootOrigin, origin_line, place_line}
use Rattle.clr_sos.specs.Views.{IsViewOf}
use Rattle.clr_sos.specs.declared.reach.Origin.{Origin}
use Rattle.clr_sos.specs.declared.reach.Origin.TheVariants.{Local, Handle, Ready, Through}
use Rattle.clr_sos.specs.declared.view.View.{View}
use Rattle.clr_sos.proofs.NumberedEntries.{entries-all, entries-next, entries_below, none-before}
use Rattle.clr_paths.specs.AllRoots.{AreWays, count_of, HasTold, IsWayFrom, node_at, PutsRoots, root_at, root_words}
use Rattle.clr_paths.specs.declared.all_roots.Ways.{Ways}
use Rattle.clr_paths.proofs.WayChains.{way-none, way-shortest}

-- ---- one list of roots behind the other

module _ (m : Machine) (a : ℕ) where
  -- what is told of two lists is told of both, one behind the other
  tells-append : (rs qs : List Root) (c d : ℕ) (s t : List ℕ) → TellsRoots m a rs c s → TellsRoots m a qs d t
      → TellsRoots m a (rs ++ qs) (c + d) (s ++ t)
  tells-append _ qs _ d _ t no_more more = subst (λ (n : ℕ). TellsRoots m a qs n t) (omega arith) more
  tells-append _ qs _ d _ t (leads_not {root = r} {roots = rs} {count = c} {text = s} not rest) more =
      leads_not not (tells-append rs qs c d s t rest more)
  tells-append _ qs _ d _ t (leads {root = r} {roots = rs} {count = c} {text = s} chain shortest rest) more =
      subst (λ (n : ℕ).
      TellsRoots m a (r ∷ (rs ++ qs)) n (((line r.words ++ flat_map (chain_line m) chain) ++ s) ++ t))
      (omega arith)
      (subst (TellsRoots m a (r ∷ (rs ++ qs)) (suc (c + d)))
      (sym (append_assoc (line r.words ++ flat_map (chain_line m) chain) s t))
      (leads chain shortest (tells-append rs qs c d s t rest more)))

  -- of no roots nothing is told
  pub told-none : (text : List ℕ) → HasTold m a [] 0 text text
  told-none text = record { blocks = []; told = no_more; put = sym (append-nil text) }

  -- roots are told at a text's end in two steps
  pub told-append : (rs qs : List Root) (c d : ℕ) (old now new : List ℕ) → HasTold m a rs c old now
      → HasTold m a qs d now new → HasTold m a (rs ++ qs) (c + d) old new
  told-append rs qs c d old now new first second = record {
    blocks = first.blocks ++ second.blocks;
    told = tells-append rs qs c d first.blocks second.blocks first.told second.told;
    put = second.put ∙ ap (λ (text : List ℕ). text ++ second.blocks) first.put
        ∙ append_assoc old first.blocks second.blocks;
  }

  -- each root that leads to the object has a byte at least
  tells-few : (rs : List Root) (c : ℕ) (s : List ℕ) → TellsRoots m a rs c s → c ≤ length s
  tells-few _ _ _ no_more = omega arith
  tells-few _ _ _ (leads_not {roots = rs} {count = c} {text = s} not rest) = tells-few rs c s rest
  tells-few _ _ _ (leads {root = r} {roots = rs} {count = c} {text = s} chain shortest rest) =
      let few = tells-few rs c s rest in
      let all = length-append (line r.words ++ flat_map (chain_line m) chain) s in
      let block = length-append (line r.words) (flat_map (chain_line m) chain) in
      let own = length-append (spaced r.words) (10 ∷ []) in
      omega (arith, few, all, block, own)

  -- so the text is longer than there are such roots
  pub told-few : (rs : List Root) (c : ℕ) (old new : List ℕ) → HasTold m a rs c old new → c + length old ≤ length new
  told-few rs c old new t =
      let few = tells-few rs c t.blocks t.told in
      let all = ap (λ (text : List ℕ). length text) t.put ∙ length-append old t.blocks in
      omega (arith, few, all)

-- ---- one root

-- the line of a root has its words
root-line : (root : Origin) → IsRootOrigin root → origin_line root ≡ line (root_words root)
root-line (Local i) is = refl
root-line (Handle h) is = refl
root-line (Ready i) is = refl
root-line (Through i) is = absurd is

-- a null root is none
root-null : (root : Origin) (place : ℕ) → place ≡ 0 → root_at root place ≡ []
root-null root place null =
    ap (λ (b : Bool). root_if b (root_words root) place) (le-ltb 0 place (omega (arith, null)))

-- and any other is one
root-some : (root : Origin) (place : ℕ) → place ≢ 0
    → root_at root place ≡ record { words = root_words root; place = place } ∷ []
root-some root place some =
    ap (λ (b : Bool). root_if b (root_words root) place) (lt-ltb 0 place (omega (arith, some)))

module _ (v : View) (a : ℕ) (root : Origin) (place : ℕ) where
  -- nothing is told of a null root
  pub root-told_null : (text : List ℕ) → place ≡ 0 → PutsRoots v a (λ m. root_at root place) 0 text text
  root-told_null text null = λ m shown.
      subst (λ (rs : List Root). HasTold m a rs 0 text text) (sym (root-null root place null)) (told-none m a text)

module _ (v : View) (places : List ℕ) (ways : Ways) (w : AreWays v places ways) (root : Origin) (place : ℕ)
    (some : place ≢ 0) where
  -- nothing is told of a root whose object has no entry
  pub root-told_none : (text : List ℕ) → ((i : ℕ) → i < count_of ways → node_at places ways i ≢ place)
      → PutsRoots v (node_at places ways 0) (λ m. root_at root place) 0 text text
  root-told_none text none = λ m shown.
      subst (λ (rs : List Root). HasTold m (node_at places ways 0) rs 0 text text) (sym (root-some root place some))
      (record {
        blocks = [];
        told = leads_not (way-none v places ways w m shown place none) no_more;
        put = sym (append-nil text);
      })

  -- and of one whose object has an entry its line, and the way of that
  pub root-told_way : IsRootOrigin root → (old new : List ℕ) (entry : ℕ) (chain : List ℕ) → entry < count_of ways
      → node_at places ways entry ≡ place → IsWayFrom places ways entry chain
      → new ≡ (old ++ origin_line root) ++ flat_map (place_line v) chain
      → PutsRoots v (node_at places ways 0) (λ m. root_at root place) 1 old new
  root-told_way is old new entry chain below at way put = λ m shown.
      let goal = node_at places ways 0 in
      let lines : flat_map (place_line v) chain ≡ flat_map (chain_line m) chain =
      ap₂ (λ (rows : List TypeRow) (os : List Object).
      flat_map (λ (p : ℕ). line (hex16 p ∷ name_of rows (type_of_place (object_at os p)) ∷ [])) chain)
      (sym shown.types) (sym shown.objects) in
      let block = line (root_words root) ++ flat_map (chain_line m) chain in
      subst (λ (rs : List Root). HasTold m goal rs 1 old new) (sym (root-some root place some)) (record {
        blocks = block ++ [];
        told = leads chain
            (subst (λ (x : ℕ). IsShortest m x goal chain) at
            (way-shortest v places ways w m shown entry chain below way))
            no_more;
        put = put ∙ append_assoc old (origin_line root) (flat_map (place_line v) chain)
            ∙ ap₂ (λ (x y : List ℕ). old ++ (x ++ y)) (root-line root is) lines
            ∙ ap (λ (x : List ℕ). old ++ x) (sym (append-nil block));
      })

-- ---- lists of roots

-- a list is as long when it is numbered
enumerated : (k : ℕ) (xs : List ℕ) → length (enumerate_from k xs) ≡ length xs
enumerated k [] = refl
enumerated k (x ∷ xs) = ap suc (enumerated (k + 1) xs)

-- the first n of a list of numbered places, and the next one
pub numbered-more : (says : ℕ × ℕ → List Root) (places : List ℕ) (n : ℕ) → n < length places
    → flat_map says (take (n + 1) (enumerate_from 0 places))
    ≡ flat_map says (take n (enumerate_from 0 places)) ++ says (n, get_or places n 0)
numbered-more says places n l =
    let inside = enumerated 0 places in
    ap (flat_map says) (take_more (enumerate_from 0 places) n (0, 0) (omega (arith, l, inside)))
    ∙ flat_map-append says (take n (enumerate_from 0 places)) (get_or (enumerate_from 0 places) n (0, 0) ∷ [])
    ∙ ap (λ (x : ℕ × ℕ). flat_map says (take n (enumerate_from 0 places)) ++ flat_map says (x ∷ []))
    (get_or-enumerate_from 0 places n (0, 0) l ∙ ap (λ (k : ℕ). (k, get_or places n 0)) (omega arith))
    ∙ ap (λ (rest : List Root). flat_map says (take n (enumerate_from 0 places)) ++ rest)
    (append-nil (says (n, get_or places n 0)))

-- and all of them
pub numbered-all : (says : ℕ × ℕ → List Root) (places : List ℕ) (n : ℕ) → length places ≤ n
    → flat_map says (take n (enumerate_from 0 places)) ≡ flat_map says (enumerate_from 0 places)
numbered-all says places n all =
    let same = enumerated 0 places in
    ap (flat_map says) (take_all n (enumerate_from 0 places) (omega (arith, all, same)))

module _ (v : View) (a : ℕ) where
  -- the next root of a list of numbered places is told
  next-told : (says : ℕ × ℕ → List Root) (origin : ℕ → Origin)
      → ((i place : ℕ) → says (i, place) ≡ root_at (origin i) place) → (own : Machine → List ℕ) (places : List ℕ)
      → ((m : Machine) → IsViewOf v m → own m ≡ places) → (n count one : ℕ) (old now new : List ℕ) → n < length places
      → PutsRoots v a (λ m. flat_map says (take n (enumerate_from 0 (own m)))) count old now
      → PutsRoots v a (λ m. root_at (origin n) (get_or places n 0)) one now new
      → PutsRoots v a (λ m. flat_map says (take (n + 1) (enumerate_from 0 (own m)))) (count + one) old new
  next-told says origin is own places same n count one old now new l first second = λ m shown.
      let before = flat_map says (take n (enumerate_from 0 (own m))) in
      let inside : n < length (own m) = subst (λ (xs : List ℕ). n < length xs) (sym (same m shown)) l in
      let more : flat_map says (take (n + 1) (enumerate_from 0 (own m)))
      ≡ before ++ root_at (origin n) (get_or places n 0) =
      numbered-more says (own m) n inside
      ∙ ap (λ (place : ℕ). before ++ says (n, place)) (ap (λ (xs : List ℕ). get_or xs n 0) (same m shown))
      ∙ ap (λ (rs : List Root). before ++ rs) (is n (get_or places n 0)) in
      subst (λ (rs : List Root). HasTold m a rs (count + one) old new) (sym more)
      (told-append m a before (root_at (origin n) (get_or places n 0)) count one old now new (first m shown)
      (second m shown))

  -- the next local is told
  pub locals-next : (n count one : ℕ) (old now new : List ℕ) → n < length v.locals.now
      → PutsRoots v a (λ m. flat_map local_root_at (take n (enumerate_from 0 m.locals))) count old now
      → PutsRoots v a (λ m. root_at (Local n) (get_or v.locals.now n 0)) one now new
      → PutsRoots v a (λ m. flat_map local_root_at (take (n + 1) (enumerate_from 0 m.locals))) (count + one) old new
  locals-next = next-told local_root_at Local (λ i place. refl) (λ m. m.locals) v.locals.now (λ m shown. shown.locals)

  -- the next object of the queue is told
  pub ready-next : (n count one : ℕ) (old now new : List ℕ) → n < length v.finals.now.ready
      → PutsRoots v a (λ m. flat_map ready_root_at (take n (enumerate_from 0 m.ready))) count old now
      → PutsRoots v a (λ m. root_at (Ready n) (get_or v.finals.now.ready n 0)) one now new
      → PutsRoots v a (λ m. flat_map ready_root_at (take (n + 1) (enumerate_from 0 m.ready))) (count + one) old new
  ready-next =
      next-told ready_root_at Ready (λ i place. refl) (λ m. m.ready) v.finals.now.ready (λ m shown. shown.ready)

  -- and where none follows, all were told
  all-told : (says : ℕ × ℕ → List Root) (own : Machine → List ℕ) (places : List ℕ)
      → ((m : Machine) → IsViewOf v m → own m ≡ places) → (n count : ℕ) (old new : List ℕ) → length places ≤ n
      → PutsRoots v a (λ m. flat_map says (take n (enumerate_from 0 (own m)))) count old new
      → PutsRoots v a (λ m. flat_map says (enumerate_from 0 (own m))) count old new
  all-told says own places same n count old new past told = λ m shown.
      subst (λ (rs : List Root). HasTold m a rs count old new)
      (numbered-all says (own m) n (subst (λ (xs : List ℕ). length xs ≤ n) (sym (same m shown)) past)) (told m shown)

  -- all locals were told
  pub locals-all : (n count : ℕ) (old new : List ℕ) → length v.locals.now ≤ n
      → PutsRoots v a (λ m. flat_map local_root_at (take n (enumerate_from 0 m.locals))) count old new
      → PutsRoots v a (λ m. flat_map local_root_at (enumerate_from 0 m.locals)) count old new
  locals-all = all-told local_root_at (λ m. m.locals) v.locals.now (λ m shown. shown.locals)

  -- the whole queue was told
  pub ready-all : (n count : ℕ) (old new : List ℕ) → length v.finals.now.ready ≤ n
      → PutsRoots v a (λ m. flat_map ready_root_at (take n (enumerate_from 0 m.ready))) count old new
      → PutsRoots v a (λ m. flat_map ready_root_at (enumerate_from 0 m.ready)) count old new
  ready-all = all-told ready_root_at (λ m. m.ready) v.finals.now.ready (λ m shown. shown.ready)

-- ---- handles

-- the roots among handles below a number
abbrev pub held_below : ℕ → Machine → List Root
held_below n m = flat_map handle_root_at (entries_below n (finmap.entries m.handles))

-- what handles below the next one are, and that
handles-next : (table : Table) (from n : ℕ) (row : Row) → IsNext table 0 from n row
    → flat_map handle_root_at (entries_below (n + 1) (finmap.entries table))
    ≡ flat_map handle_root_at (entries_below from (finmap.entries table)) ++ handle_root_at (n, row)
handles-next table from n row next =
    ap (flat_map handle_root_at) (entries-next table from n row next)
    ∙ flat_map-append handle_root_at (entries_below from (finmap.entries table)) ((n, row) ∷ [])
    ∙ ap (λ (rest : List Root). flat_map handle_root_at (entries_below from (finmap.entries table)) ++ rest)
    (append-nil (handle_root_at (n, row)))

-- a handle is a root by its kind
root-of : (h : ℕ) (row : Row) (is : Bool) → is_root_kind row.kind ≡ is
    → handle_root_at (h, row) ≡ root_if (is && nat_lt 0 row.target) (root_words (Handle h)) row.target
root-of h row is e = ap (λ (b : Bool). root_if (b && nat_lt 0 row.target) (root_words (Handle h)) row.target) e

module _ (v : View) (a from n : ℕ) (row : Row) (next : IsNext v.handles.now 0 from n row) (count : ℕ)
    (old now : List ℕ) (first : PutsRoots v a (held_below from) count old now) where
  -- the roots among handles below the next one and that
  held-more : (m : Machine) → IsViewOf v m → held_below (n + 1) m ≡ held_below from m ++ handle_root_at (n, row)
  held-more m shown =
      handles-next m.handles from n row (subst (λ (t : Table). IsNext t 0 from n row) (sym shown.handles) next)

  -- the next handle is told, where it is a root
  pub held-next : is_root_kind row.kind ≡ true → (one : ℕ) (new : List ℕ)
      → PutsRoots v a (λ m. root_at (Handle n) row.target) one now new
      → PutsRoots v a (held_below (n + 1)) (count + one) old new
  held-next is one new second = λ m shown.
      subst (λ (rs : List Root). HasTold m a rs (count + one) old new)
      (sym (held-more m shown ∙ ap (λ (rs : List Root). held_below from m ++ rs) (root-of n row true is)))
      (told-append m a (held_below from m) (root_at (Handle n) row.target) count one old now new (first m shown)
      (second m shown))

  -- and passed over, where it isn't
  pub held-passed : is_root_kind row.kind ≡ false → PutsRoots v a (held_below (n + 1)) count old now
  held-passed is = λ m shown.
      subst (λ (rs : List Root). HasTold m a rs count old now)
      (sym (held-more m shown ∙ ap (λ (rs : List Root). held_below from m ++ rs) (root-of n row false is)
      ∙ append-nil (held_below from m))) (first m shown)

-- no handle was met yet
pub held-none : (v : View) (a : ℕ) (text : List ℕ) → PutsRoots v a (held_below 0) 0 text text
held-none v a text = λ m shown.
    subst (λ (rs : List Root). HasTold m a rs 0 text text)
    (sym (ap (flat_map handle_root_at) (none-before m.handles))) (told-none m a text)

-- where none follows, all handles were met
pub held-all : (v : View) (a from count : ℕ) (old new : List ℕ)
    → ((h : ℕ) (row : Row) → finmap.get v.handles.now h ≡ Some row → h < 65536) → NoneNames v.handles.now 0 from 65536
    → PutsRoots v a (held_below from) count old new
    → PutsRoots v a (λ m. flat_map handle_root_at (finmap.entries m.handles)) count old new
held-all v a from count old new below none told = λ m shown.
    let all : entries_below from (finmap.entries m.handles) ≡ finmap.entries m.handles =
    subst (λ (t : Table). entries_below from (finmap.entries t) ≡ finmap.entries t) (sym shown.handles)
    (entries-all v.handles.now from below none) in
    subst (λ (rs : List Root). HasTold m a rs count old new) (ap (flat_map handle_root_at) all) (told m shown)

-- ---- the whole text

-- THE THREE KINDS OF ROOTS, one behind the other, and the count behind them
pub roots-text : (m : Machine) (a locals targets ready : ℕ) (first second third fourth text : List ℕ) → first ≡ []
    → HasTold m a (flat_map local_root_at (enumerate_from 0 m.locals)) locals first second
    → HasTold m a (flat_map handle_root_at (finmap.entries m.handles)) targets second third
    → HasTold m a (flat_map ready_root_at (enumerate_from 0 m.ready)) ready third fourth
    → text ≡ fourth ++ line (codes "roots" ∷ decimal ((locals + targets) + ready) ∷ []) → IsRootsText m a text
roots-text m a locals targets ready first second third fourth text empty l t r put =
    let own = flat_map local_root_at (enumerate_from 0 m.locals) in
    let held = flat_map handle_root_at (finmap.entries m.handles) in
    let queued = flat_map ready_root_at (enumerate_from 0 m.ready) in
    let two = told-append m a own held locals targets first second third l t in
    let all = told-append m a (own ++ held) queued (locals + targets) ready first third fourth two r in
    record {
      count = (locals + targets) + ready;
      blocks = all.blocks;
      told = all.told;
      shown = put ∙ ap (λ (front : List ℕ). front ++ line (codes "roots" ∷ decimal ((locals + targets) + ready) ∷ []))
          (all.put ∙ ap (λ (front : List ℕ). front ++ all.blocks) empty);
    }
