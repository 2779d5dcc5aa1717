-- A search breadth first finds each node on a shortest way, also where it is cut off before all entries were followed.
use Rattle.std.proofs.Common.{◌≡◌, ◌≢◌, ◌⊎◌, inl, inr, ℕ, zero, suc, ◌+◌, ◌<◌, ◌≤◌, refl, sym, ◌∙◌, subst, arith}
use Rattle.std.proofs.lemmas.Bool.{cases_eq, cases_lt}
use Rattle.clr_sos.specs.BreadthFirst.{AreNearest, at_start, begins, goes_on, HasDepth, IsBreadthFirst, IsFoundBy}
use Rattle.clr_sos.specs.BreadthFirst.{IsWay, through}

-- a way stays one where there are more edges and starts
pub way-imply : (edge more : ℕ → ℕ → Type 0) (start begin : ℕ → Type 0) → ((x y : ℕ) → edge x y → more x y)
    → ((x : ℕ) → start x → begin x) → (n x : ℕ) → IsWay edge start n x → IsWay more begin n x
way-imply edge more start begin e s _ x (begins is) = begins (s x is)
way-imply edge more start begin e s _ y (goes_on {n = n} {x = x} w is) =
    goes_on (way-imply edge more start begin e s n x w) (e x y is)

module _ (edge : ℕ → ℕ → Type 0) (start : ℕ → Type 0) (node via : ℕ → ℕ) (count next : ℕ)
    (b : IsBreadthFirst edge start node via count next) where
  -- an entry has a depth where the one that led to it has
  deep-by : (i k : ℕ) → via i ≡ k → ((q : ℕ) → k ≡ suc q → (d : ℕ) × HasDepth via q d)
      → (d : ℕ) × HasDepth via i d
  deep-by i zero e before = (1, at_start e)
  deep-by i (suc q) e before = let f = before q refl in (suc f.0, through e f.1)

  -- each of the first n entries has a depth
  deep-below : (n i : ℕ) → i < n → i < count → (d : ℕ) × HasDepth via i d
  deep-below zero i low l = absurd (omega (arith, low))
  deep-below (suc n) i low l = deep-by i (via i) refl
      (λ q e. let back = b.before i l in
      deep-below n q (omega (arith, low, back, e)) (omega (arith, l, back, e)))

  -- each entry has a depth
  pub has_depth : (i : ℕ) → i < count → (d : ℕ) × HasDepth via i d
  has_depth i l = deep-below (i + 1) i (omega arith) l

  -- depths never fall
  pub depth-rises : (i j c d : ℕ) → HasDepth via i c → HasDepth via j d → i ≤ j → j < count → c ≤ d
  depth-rises i j _ _ (at_start e) (at_start f) low l = omega arith
  depth-rises i j _ _ (at_start e) (through f t) low l = omega arith
  depth-rises i j _ _ (through e s) (at_start f) low l =
      let up = b.rises i j low l in absurd (omega (arith, up, e, f))
  depth-rises i j _ _ (through {q = p} {d = c} e s) (through {q = q} {d = d} f t) low l =
      let up = b.rises i j low l in
      let back = b.before j l in
      let less = depth-rises p q c d s t (omega (arith, up, e, f)) (omega (arith, l, back, f)) in
      omega (arith, less)

  -- the node is that of an entry with a depth of at most k
  record IsNear (k x : ℕ) : Type 0 where
    pub index : ℕ
    pub below : index < count
    pub is : node index ≡ x
    pub depth : ℕ
    pub deep : HasDepth via index depth
    pub most : depth ≤ k

  -- each entry has a depth of at most k
  abbrev AreNear : ℕ → Type 0
  AreNear k = (i d : ℕ) → i < count → HasDepth via i d → d ≤ k

  -- what was found when an entry with a depth of at most k was followed, or before that, stands one deeper at most
  near-by : (n k d latest x : ℕ) → n < count → HasDepth via n d → d ≤ k → latest ≤ n + 1
      → IsFoundBy node via count latest x → IsNear (suc k) x
  near-by n k d latest x l deep most late f = go (via f.index) refl
    where
      go : (v : ℕ) → via f.index ≡ v → IsNear (suc k) x
      go zero e = record {
        index = f.index;
        below = f.below;
        is = f.is;
        depth = 1;
        deep = at_start e;
        most = omega arith;
      }
      go (suc q) e =
          let by = f.by in
          let low : q ≤ n = omega (arith, by, e, late) in
          let own = has_depth q (omega (arith, low, l)) in
          let less = depth-rises q n own.0 d own.1 deep low l in
          record {
            index = f.index;
            below = f.below;
            is = f.is;
            depth = suc own.0;
            deep = through e own.1;
            most = omega (arith, less, most);
          }

  -- where an entry with a depth of at most k wasn't followed, each entry stands one deeper at most
  near-cut : (n k d : ℕ) → n < count → next ≤ n → HasDepth via n d → d ≤ k → AreNear (suc k)
  near-cut n k d l late deep most i _ inside (at_start e) = omega arith
  near-cut n k d l late deep most i _ inside (through {q = q} {d = c} e s) =
      let by = b.by_followed i inside in
      let less = depth-rises q n c d s deep (omega (arith, by, e, late)) l in
      omega (arith, less, most)

  -- a way over k nodes ends at a node that was found with a depth of at most k, or all that was found has such a depth
  way-near : (k x : ℕ) → IsWay edge start k x → IsNear k x ⊎ AreNear k
  way-near _ x (begins s) =
      let f = b.starts x s in
      let by = f.by in
      inl (record {
        index = f.index;
        below = f.below;
        is = f.is;
        depth = 1;
        deep = at_start (omega (arith, by));
        most = omega arith;
      })
  way-near _ y (goes_on {n = k} {x = x} w e) = elim (way-near k x w) [
    | inl f ↦ elim (cases_lt f.index next) [
      | inl early ↦ inl (near-by f.index k f.depth (f.index + 1) y f.below f.deep f.most (omega arith)
          (b.followed f.index y early f.below (subst (λ (p : ℕ). edge p y) (sym f.is) e)))
      | inr late ↦ inr (near-cut f.index k f.depth f.below late f.deep f.most)
    ]
    | inr all ↦ inr (λ i d l h. let most = all i d l h in omega (arith, most))
  ]

  -- EACH ENTRY STANDS AT THE LENGTH OF A SHORTEST WAY to its node
  pub nearest : AreNearest edge start node via count
  nearest i d k l deep w = elim (way-near k (node i) w) [
    | inl f ↦ elim (cases_lt f.index i) [
      | inl early ↦ absurd (b.distinct f.index i early l f.is)
      | inr late ↦
          let less = depth-rises i f.index d f.depth deep f.deep late f.below in
          let most = f.most in
          omega (arith, less, most)
    ]
    | inr all ↦ all i d l deep
  ]

  -- a node that was found is still found when entries were added
  found-on : (more : ℕ → ℕ) (by : ℕ → ℕ) (wider : ℕ) → count ≤ wider
      → ((i : ℕ) → i < count → (more i ≡ node i) × (by i ≡ via i)) → (latest x : ℕ)
      → IsFoundBy node via count latest x → IsFoundBy more by wider latest x
  found-on more by wider longer same latest x f =
      let below = f.below in
      let own = same f.index f.below in
      let led = f.by in
      let is = own.1 in
      record {
        index = f.index;
        below = omega (arith, below, longer);
        is = own.0 ∙ f.is;
        by = omega (arith, led, is);
      }

  -- ONE ENTRY MORE WAS FOLLOWED: what was added then came through it, and all that it leads to is found
  pub breadth-more : (more by : ℕ → ℕ) (wider : ℕ) → count ≤ wider
      → ((i : ℕ) → i < count → (more i ≡ node i) × (by i ≡ via i)) → next < count
      → ((i : ℕ) → count ≤ i → i < wider → by i ≡ suc next)
      → ((i j : ℕ) → i < j → j < wider → more i ≢ more j)
      → ((y : ℕ) → edge (node next) y → (i : ℕ) × (i < wider) × (more i ≡ y))
      → IsBreadthFirst edge start more by wider (next + 1)
  breadth-more more by wider longer same inside came distinct all = record {
    starts = λ x s. found-on more by wider longer same 0 x (b.starts x s);
    rises = rises;
    before = λ i l. elim (cases_lt i count) [
      | inl early ↦ let is = (same i early).1 in let back = b.before i early in omega (arith, is, back)
      | inr late ↦ let is = came i late l in omega (arith, is, late, inside)
    ];
    by_followed = latest;
    followed = λ i y low l e. elim (cases_eq i next) [
      | inl here ↦
          let f = all y (subst (λ (p : ℕ). edge p y) ((same i (omega (arith, here, inside))).0 ∙ at i next here) e) in
          let led = latest f.0 f.1 in
          record { index = f.0; below = f.1; is = f.2; by = omega (arith, led, here) }
      | inr other ↦
          let early : i < next = omega (arith, low, other) in
          let was : i < count = omega (arith, early, inside) in
          found-on more by wider longer same (i + 1) y
          (b.followed i y early was (subst (λ (p : ℕ). edge p y) (same i was).0 e))
    ];
    distinct = distinct;
  }
    where
      -- equal indices have equal nodes
      at : (i j : ℕ) → i ≡ j → node i ≡ node j
      at i j e = subst (λ (k : ℕ). node i ≡ node k) e refl

      -- what led to an entry was followed
      latest : (i : ℕ) → i < wider → by i ≤ next + 1
      latest i l = elim (cases_lt i count) [
        | inl early ↦ let is = (same i early).1 in let was = b.by_followed i early in omega (arith, is, was)
        | inr late ↦ let is = came i late l in omega (arith, is)
      ]

      -- and never comes before what led to an earlier entry
      rises : (i j : ℕ) → i ≤ j → j < wider → by i ≤ by j
      rises i j low l = elim (cases_lt j count) [
        | inl early ↦
            let first = (same i (omega (arith, low, early))).1 in
            let second = (same j early).1 in
            let up = b.rises i j low early in
            omega (arith, first, second, up)
        | inr late ↦
            let first = latest i (omega (arith, low, l)) in
            let second = came j late l in
            omega (arith, first, second)
      ]
