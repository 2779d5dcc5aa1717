-- What lines that look at objects, handles and queues reply doesn't depend on free items, contexts, sums, options or a
-- background collection.
use Rattle.std.proofs.Common.{◌≡◌, ℕ, List, [], ◌∷◌, Option}
use Rattle.clr_types.specs.Ranges.{Piece}
use Rattle.clr_model.specs.Machine.{Machine, Marking, Options, Sums}
use Rattle.clr_model.specs.declared.look.Look.{Look}
use Rattle.clr_model.specs.declared.look.Look.TheVariants.{DumpArray, DumpMt, GcRoots, PathTo, Retained, GcHeapStat}
use Rattle.clr_model.specs.declared.look.Look.TheVariants.{ListNearObj, EphRefs, HandleStat, HandlesOf}
use Rattle.clr_model.specs.Looks.{IsLookText, IsPathText, IsRootsText, IsShortest, Root, TellsRoots}
use Rattle.clr_model.specs.Sos.{handle_root, IsChain, IsRootText, local_root, ready_root, RootWords}
use Rattle.clr_settled.specs.Laws.{LooksAtObjects}

module _ (m : Machine) (free : List Piece) (rests : List (Option Piece)) (top : ℕ) (sums : Sums) (options : Options)
    (background : Option Marking) where
  abbrev pub other : Machine
  other = record m {
    layout = record m.layout { free = free; rests = rests; top = top };
    sums = sums;
    options = options;
    background = background;
  }

  root-there : (words : List (List ℕ)) (place : ℕ) → RootWords m words place → RootWords other words place
  root-there _ place (local_root t k thread low got) = local_root t k thread low got
  root-there _ place (handle_root h row got kind target) = handle_root h row got kind target
  root-there _ place (ready_root i got) = ready_root i got

  root-here : (words : List (List ℕ)) (place : ℕ) → RootWords other words place → RootWords m words place
  root-here _ place (local_root t k thread low got) = local_root t k thread low got
  root-here _ place (handle_root h row got kind target) = handle_root h row got kind target
  root-here _ place (ready_root i got) = ready_root i got

  chain-there : (chain : List ℕ) (last : ℕ) → IsChain m chain last → IsChain other chain last
  chain-there [] last none = none
  chain-there (x ∷ []) last is = is
  chain-there (x ∷ y ∷ ys) last is = (is.0, chain-there (y ∷ ys) last is.1)

  chain-here : (chain : List ℕ) (last : ℕ) → IsChain other chain last → IsChain m chain last
  chain-here [] last none = none
  chain-here (x ∷ []) last is = is
  chain-here (x ∷ y ∷ ys) last is = (is.0, chain-here (y ∷ ys) last is.1)

  pub root-alike : (a : ℕ) (text : List ℕ) → IsRootText m a text → IsRootText other a text
  root-alike a text is = record {
    words = is.words;
    chain = is.chain;
    root = is.root;
    not_null = is.not_null;
    rooted = root-there is.words is.root is.rooted;
    starts = is.starts;
    linked = chain-there is.chain a is.linked;
    least = λ words start chain above rooted starts linked.
        is.least words start chain above (root-here words start rooted) starts (chain-here chain a linked);
    distinct = is.distinct;
    shown = is.shown;
  }

  shortest-alike : (from to : ℕ) (chain : List ℕ) → IsShortest m from to chain → IsShortest other from to chain
  shortest-alike from to chain is = record {
    starts = is.starts;
    linked = chain-there chain to is.linked;
    least = λ others starts linked. is.least others starts (chain-here others to linked);
  }

  roots-alike : (a : ℕ) {roots : List Root} {count : ℕ} {text : List ℕ} → TellsRoots m a roots count text
      → TellsRoots other a roots count text
  roots-alike a TellsRoots.no_more = TellsRoots.no_more
  roots-alike a (TellsRoots.leads_not none rest) = TellsRoots.leads_not none (roots-alike a rest)
  roots-alike a (TellsRoots.leads {root} chain is rest) =
      TellsRoots.leads chain (shortest-alike root.place a chain is) (roots-alike a rest)

  path-alike : (a b : ℕ) (text : List ℕ) → IsPathText m a b text → IsPathText other a b text
  path-alike a b text (IsPathText.leads chain is shown) = IsPathText.leads chain (shortest-alike a b chain is) shown
  path-alike a b text (IsPathText.leads_not none shown) = IsPathText.leads_not none shown

  pub look-alike : (look : Look) (text : List ℕ) → LooksAtObjects look → IsLookText m look text
      → IsLookText other look text
  look-alike (DumpArray start count a) text at is = is
  look-alike (DumpMt mt) text at is = is
  look-alike (GcRoots a) text at is = record {
    count = is.count;
    blocks = is.blocks;
    told = roots-alike a is.told;
    shown = is.shown;
  }
  look-alike (PathTo a b) text at is = path-alike a b text is
  look-alike (Retained a) text at is = record {
    live = is.live;
    lives = is.lives;
    without = is.without;
    stays = is.stays;
    shown = is.shown;
  }
  look-alike (GcHeapStat unrooted) text none is = absurd none
  look-alike (ListNearObj a) text none is = absurd none
  look-alike EphRefs text at is = is
  look-alike HandleStat text at is = is
  look-alike (HandlesOf kind) text at is = is
