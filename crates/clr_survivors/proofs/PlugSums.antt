-- What plugs count is what their objects count, and what their moves count.
use Rattle.std.proofs.Common.{◌≡◌, ◌⊎◌, inl, inr, ℕ, ◌+◌, ◌<◌, ◌≤◌, ◌==◌, ◌&&◌, Bool, true, false, if◌then◌else◌}
use Rattle.std.proofs.Common.{List, [], ◌∷◌, ◌++◌, sum_by, refl, sym, ap, ap₂, ◌∙◌, arith, filter}
use Rattle.std.proofs.lemmas.Bool.{cases_lt, eq-eqb, ne_eqb}
use Rattle.std.proofs.lemmas.List.Sums.{sum_by-cons}
use Rattle.clr_types.specs.Rising.{first, IsIn, later}
use Rattle.clr_types.proofs.ListSums.{counted, sum-both, sum-filtered, sum-on}
use Rattle.clr_types.proofs.ChangedLists.{all_members}
use Rattle.clr_types.proofs.RisingLists.{all_at, in_cons}
use Rattle.clr_model.specs.Compaction.{joined, joins, Move, Plug, plug_end, plug_of, plugs_of}
use Rattle.clr_model.specs.Sweep.{Survivor}
use Rattle.clr_model.proofs.CondemnedPlugs.{line_by_age}
use Rattle.clr_model.proofs.PlugWalk.{Each}
use Rattle.clr_model.proofs.PlugsOf.{AreJoined, joins-true, longer, plugs-all}

-- ---- objects and plugs

-- where a plug starts an object of its generation stands
abbrev pub HasHead : List Survivor → Plug → Type 0
HasHead ks p = (k : Survivor) × IsIn k ks × (k.place ≡ p.start) × (k.generation ≡ p.generation)

pub plug-head : (ks : List Survivor) (p : Plug) → IsIn p (plugs_of ks) → HasHead ks p
plug-head ks p i =
    all_at (HasHead ks) i
    (plugs-all (λ k. IsIn k ks) (HasHead ks) (λ k j. (k, j, refl, refl)) (λ k p j f is. (k, j, refl, is.generation)) ks
    (all_members (λ k. IsIn k ks) ks (λ k j. j)))

-- nothing is counted either way
nothing : (b c : Bool) (n : ℕ) → n ≡ 0 → (if b then n else 0) ≡ (if c then n else 0)
nothing true true n z = refl
nothing true false n z = z
nothing false true n z = sym z
nothing false false n z = refl

both_parts : (b : Bool) (m n : ℕ) → (if b then m + n else 0) ≡ (if b then m else 0) + (if b then n else 0)
both_parts true m n = refl
both_parts false m n = omega arith

-- what `after` says of the generation that what stands at a place gets
module _ (e : ℕ) (after : ℕ → ℕ) where
  -- the bytes, where they go from generation e to the next older one
  abbrev pub going : ℕ → ℕ → ℕ → ℕ
  going generation place size = if (generation == e) && (after place == e + 1) then size else 0

  abbrev pub plug_going : Plug → ℕ
  plug_going p = going p.generation p.start p.size

  abbrev pub survivor_going : Survivor → ℕ
  survivor_going k = going k.generation k.place k.size

  -- all places of a plug get one generation
  abbrev pub AgeAlike : List Plug → Type 0
  AgeAlike ps = (p : Plug) → IsIn p ps → (x y : ℕ) → p.start ≤ x → x < plug_end p → p.start ≤ y → y < plug_end p
      → after x ≡ after y

  alike-behind : (k : Survivor) (ps : List Plug) → AgeAlike (joined k ps) → AgeAlike ps
  alike-behind k [] h = λ p i. elim i [ ]
  alike-behind k (r ∷ ps) h = go (joins k r) refl h
    where
      inside : AreJoined k r → (p : Plug) → p ≡ r → AgeAlike (longer k r ∷ ps) → (x y : ℕ) → p.start ≤ x
          → x < plug_end p → p.start ≤ y → y < plug_end p → after x ≡ after y
      inside is p same h x y a b c d =
          let touch = is.touch in
          let start : p.start ≡ r.start = ap (λ (q : Plug). q.start) same in
          let end : plug_end p ≡ plug_end r = ap plug_end same in
          h (longer k r) first x y (omega arith) (omega arith) (omega arith) (omega arith)

      go : (b : Bool) → joins k r ≡ b → AgeAlike (if b then longer k r ∷ ps else plug_of k ∷ r ∷ ps)
          → AgeAlike (r ∷ ps)
      go false f h = λ p i. h p (later i)
      go true f h = λ p i. elim (in_cons i) [ inl same ↦ inside (joins-true k r f) p same h | inr j ↦ h p (later j) ]

  longer-going : (k : Survivor) (r : Plug) → AreJoined k r
      → ((x y : ℕ) → k.place ≤ x → x < plug_end (longer k r) → k.place ≤ y → y < plug_end (longer k r)
      → after x ≡ after y)
      → plug_going (longer k r) ≡ survivor_going k + plug_going r
  longer-going k r is alike =
      both_parts ((r.generation == e) && (after k.place == e + 1)) k.size r.size
      ∙ ap₂ (λ (m n : ℕ). m + n)
      (ap (λ n. if (n == e) && (after k.place == e + 1) then k.size else 0) (sym is.generation))
      (at (cases_lt 0 r.size))
    where
      at : (0 < r.size) ⊎ (r.size ≤ 0)
          → (if (r.generation == e) && (after k.place == e + 1) then r.size else 0) ≡ plug_going r
      at (inl some) =
          let touch = is.touch in
          ap (λ n. if (r.generation == e) && (n == e + 1) then r.size else 0)
          (alike k.place r.start (omega arith) (omega arith) (omega arith) (omega arith))
      at (inr none) =
          nothing ((r.generation == e) && (after k.place == e + 1))
          ((r.generation == e) && (after r.start == e + 1)) r.size (omega arith)

  joined-going : (k : Survivor) (ps : List Plug) → AgeAlike (joined k ps)
      → sum_by plug_going (joined k ps) ≡ survivor_going k + sum_by plug_going ps
  joined-going k [] h = sum_by-cons plug_going (plug_of k) []
  joined-going k (r ∷ ps) h = go (joins k r) refl h
    where
      go : (b : Bool) → joins k r ≡ b → AgeAlike (if b then longer k r ∷ ps else plug_of k ∷ r ∷ ps)
          → sum_by plug_going (if b then longer k r ∷ ps else plug_of k ∷ r ∷ ps)
          ≡ survivor_going k + sum_by plug_going (r ∷ ps)
      go false f h = sum_by-cons plug_going (plug_of k) (r ∷ ps)
      go true f h =
          let whole = sum_by-cons plug_going (longer k r) ps in
          let rest = sum_by-cons plug_going r ps in
          let both : plug_going (longer k r) ≡ survivor_going k + plug_going r =
          longer-going k r (joins-true k r f) (h (longer k r) first) in
          omega (arith, whole, rest, both)

  -- PLUGS COUNT what their objects count
  pub plugs-going : (ks : List Survivor) → AgeAlike (plugs_of ks)
      → sum_by plug_going (plugs_of ks) ≡ sum_by survivor_going ks
  plugs-going [] h = refl
  plugs-going (k ∷ ks) h =
      joined-going k (plugs_of ks) h
      ∙ ap (λ n. survivor_going k + n) (plugs-going ks (alike-behind k (plugs_of ks) h))
      ∙ sym (sum_by-cons survivor_going k ks)

-- ---- plugs by age, and their moves

append-sum : {X : Type 0} (f : X → ℕ) (xs ys : List X) → sum_by f (xs ++ ys) ≡ sum_by f xs + sum_by f ys
append-sum f [] ys = omega arith
append-sum f (x ∷ xs) ys =
    let whole = sum_by-cons f x (xs ++ ys) in
    let low = sum_by-cons f x xs in
    let rest = append-sum f xs ys in
    omega (arith, whole, low, rest)

-- each plug is of one generation
each-age : (n size : ℕ) → n ≤ 2
    → size ≡ (if n == 2 then size else 0) + ((if n == 1 then size else 0) + (if n == 0 then size else 0))
each-age n size l = go (cases_lt n 1) (cases_lt n 2)
  where
    parts : (a b c : Bool) → (n == 2) ≡ a → (n == 1) ≡ b → (n == 0) ≡ c
        → size ≡ (if a then size else 0) + ((if b then size else 0) + (if c then size else 0))
        → size ≡ (if n == 2 then size else 0) + ((if n == 1 then size else 0) + (if n == 0 then size else 0))
    parts a b c x y z is = rw (x, y, z) is

    go : (n < 1) ⊎ (1 ≤ n) → (n < 2) ⊎ (2 ≤ n)
        → size ≡ (if n == 2 then size else 0) + ((if n == 1 then size else 0) + (if n == 0 then size else 0))
    go (inl low) more =
        parts false false true (ne_eqb n 2 (λ f. absurd (omega arith))) (ne_eqb n 1 (λ f. absurd (omega arith)))
        (eq-eqb n 0 (omega arith)) (omega arith)
    go (inr up) (inl low) =
        parts false true false (ne_eqb n 2 (λ f. absurd (omega arith))) (eq-eqb n 1 (omega arith))
        (ne_eqb n 0 (λ f. absurd (omega arith))) (omega arith)
    go (inr up) (inr high) =
        parts true false false (eq-eqb n 2 (omega arith)) (ne_eqb n 1 (λ f. absurd (omega arith)))
        (ne_eqb n 0 (λ f. absurd (omega arith))) (omega arith)

-- plugs by age count what they count
pub by_age-sum : (f : Plug → ℕ) (ps : List Plug) → ((p : Plug) → IsIn p ps → p.generation ≤ 2)
    → sum_by f (line_by_age ps) ≡ sum_by f ps
by_age-sum f ps ages =
    let of : ℕ → Plug → Bool = λ n p. p.generation == n in
    append-sum f (filter (of 2) ps) (filter (of 1) ps ++ filter (of 0) ps)
    ∙ ap₂ (λ (m n : ℕ). m + n) (sum-filtered (of 2) f ps)
    (append-sum f (filter (of 1) ps) (filter (of 0) ps)
    ∙ ap₂ (λ (m n : ℕ). m + n) (sum-filtered (of 1) f ps) (sum-filtered (of 0) f ps)
    ∙ sym (sum-both (counted (of 1) f) (counted (of 0) f) ps))
    ∙ sym (sum-both (counted (of 2) f) (λ p. counted (of 1) f p + counted (of 0) f p) ps)
    ∙ sum-on (λ p. counted (of 2) f p + (counted (of 1) f p + counted (of 0) f p)) f ps
    (λ p i. sym (each-age p.generation (f p) (ages p i)))

-- what each plug counts its move counts
pub moves-sum : (R : Plug → Move → Type 0) (f : Plug → ℕ) (w : Move → ℕ) (ps : List Plug) (vs : List Move)
    → Each R ps vs → ((p : Plug) (v : Move) → IsIn p ps → IsIn v vs → R p v → f p ≡ w v)
    → sum_by f ps ≡ sum_by w vs
moves-sum R f w [] [] each same = refl
moves-sum R f w [] (v ∷ vs) each same = absurd each
moves-sum R f w (p ∷ ps) [] each same = absurd each
moves-sum R f w (p ∷ ps) (v ∷ vs) each same =
    sum_by-cons f p ps
    ∙ ap₂ (λ (m n : ℕ). m + n) (same p v first first each.0)
    (moves-sum R f w ps vs each.1 (λ q u i j. same q u (later i) (later j)))
    ∙ sym (sum_by-cons w v vs)
