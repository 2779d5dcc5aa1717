use Rattle.std.proofs.Common.{◌≡◌, ℕ, Bool, [], map, ap, refl, ◌∙◌, sym, subst, length, arith}
use Rattle.std.proofs.lemmas.List.{length-map}
use Rattle.clr_types.specs.Segments.{Layout, rest_pieces}
use Rattle.clr_bricks.specs.Bricks.{entry_at}
use Rattle.clr_cards.specs.Cards.{is_card_set}
use Rattle.clr_generations.specs.Laws.{BrickLaw}
use Rattle.clr_generations.specs.Tables.{AreBricksOf, AreCardsOf}
use Rattle.clr_handles.specs.Tops.{pinned_in}
use Rattle.clr_heap.specs.View.{frame, HeapView}
use Rattle.clr_heap.proofs.Rewrite.{shaped_heap}
use Rattle.clr_model.specs.Compaction.{moved_by}
use Rattle.clr_model.specs.Lawful.{IsLaid}
use Rattle.clr_model.specs.Machine.{Machine}
use Rattle.clr_moves.specs.Objects.{moved_object}
use Rattle.clr_view.specs.Memory.{is_left_name, IsMemoryOf, TestsMarks}
use Rattle.clr_view.specs.View.{objects_in}
use Rattle.clr_view.proofs.LeftNames.{tests_marks}
use Rattle.clr_survivors.proofs.CanMoveAll.{left-stands}
use Rattle.clr_survivors.proofs.PinnedFrom.{pinned-relocated}
use Rattle.clr_survivors.proofs.PlannedPins.{laid-with, memory-with, with_handles}
use Rattle.clr_evacuate.specs.Evacuated.{HasMadeFit, moves_in}
use Rattle.clr_evacuate.specs.Forwarding.{forwarded_object, LeadsBy}
use Rattle.clr_evacuate.proofs.AfterFit.{border_after, still_outside}
use Rattle.clr_evacuate.proofs.FittedNames.{in_new, leads_fit, names_forward, objects_gone, slots_forward}
use Rattle.clr_evacuate.proofs.NothingWent.{still_cards, still_fitted, still_free_heads}
use Rattle.clr_evacuate.proofs.fitting.fit_survivors.Goals as goal
use Rattle.clr_evacuate.proofs.fitting.fit_survivors.Goals.{After-carry_unpinned-bytes}

pub carry_unpinned-bytes-requires-clause-stand : goal.carry_unpinned-bytes-requires-clause-stand
carry_unpinned-bytes-requires-clause-stand c = λ k row here pinned some.
    left-stands c.args.types.now c.args.space.now.heap 1 row.target some (c.requires.marked.named.targets k row here)

pub carry_unpinned-bytes-requires-clause-bricks : goal.carry_unpinned-bytes-requires-clause-bricks
carry_unpinned-bytes-requires-clause-bricks c = c.requires.tidy.tables.bricks

-- a machine whose fit was made
record IsFit (c : After-carry_unpinned-bytes) : Type 0 where
  machine : Machine
  memory : IsMemoryOf c.args.types.now c.args.space.now.heap machine
  laid : IsLaid machine
  bare : rest_pieces machine.layout.rests ≡ []
  kept : ℕ → Bool
  made : HasMadeFit c.args.types.now c.args.space.now.heap c.carry_unpinned-bytes.new.heap machine kept
      c.carry_unpinned-bytes.result

abbrev fit : (c : After-carry_unpinned-bytes) → (n : Machine) (kept : ℕ → Bool)
    → IsMemoryOf c.args.types.now c.args.space.now.heap n → IsLaid n → n.handles ≡ c.args.roots.now.handles
    → TestsMarks c.args.types.now c.args.space.now.heap 1 kept → IsFit c
fit c n kept memory laid same tests = record {
  machine = n;
  memory = memory;
  laid = laid;
  bare = ap (λ (l : Layout). rest_pieces l.rests) memory.layout ∙ ap rest_pieces c.requires.marked.no_contexts;
  kept = kept;
  made = c.carry_unpinned-bytes.ensures.made n kept memory laid same tests;
}

-- there is one
some : (c : After-carry_unpinned-bytes) → IsFit c
some c =
    let rows = c.args.types.now in
    let old = c.args.space.now.heap in
    let table = c.args.roots.now.handles in
    let (n, memory, laid) = c.requires.marked.laid in
    fit c (with_handles n table) (is_left_name rows old 1) (memory-with rows old n table memory)
    (laid-with n table laid) refl (tests_marks rows old 1)

-- the function that the forwards tell
leads : (c : After-carry_unpinned-bytes) (f : IsFit c)
    → LeadsBy c.args.types.now c.carry_unpinned-bytes.new.heap (moved_by (moves_in f.machine f.kept))
leads c f =
    leads_fit c.args.types.now c.args.space.now.heap c.carry_unpinned-bytes.new.heap f.machine f.kept
    c.carry_unpinned-bytes.result c.requires.tidy.heap c.requires.tidy.held f.memory f.laid f.bare f.made

pub forward_all-requires-clause-held : goal.forward_all-requires-clause-held
forward_all-requires-clause-held c =
    (some (goal.at.forward_all-requires-clause-held c).After-carry_unpinned-bytes).made.held

pub forward_all-requires-clause-named : goal.forward_all-requires-clause-named
forward_all-requires-clause-named c =
    let f = some (goal.at.forward_all-requires-clause-named c).After-carry_unpinned-bytes in
    slots_forward c.args.types.now c.args.space.now.heap c.carry_unpinned-bytes.new.heap f.machine f.kept
    c.carry_unpinned-bytes.result c.requires.tidy.heap c.requires.tidy.held f.memory f.laid f.bare f.made
    c.requires.marked.stands

pub forward_all-requires-clause-names : goal.forward_all-requires-clause-names
forward_all-requires-clause-names c =
    let f = some (goal.at.forward_all-requires-clause-names c).After-carry_unpinned-bytes in
    names_forward c.args.types.now c.args.space.now.heap c.carry_unpinned-bytes.new.heap f.machine f.kept
    c.carry_unpinned-bytes.result c.requires.tidy.heap c.requires.tidy.held f.memory f.laid f.bare f.made
    c.args.roots.now.locals.items c.args.roots.now.handles c.args.roots.now.finals c.requires.marked.named

pub forward_all-requires-clause-cards : goal.forward_all-requires-clause-cards
forward_all-requires-clause-cards c =
    let f = some (goal.at.forward_all-requires-clause-cards c).After-carry_unpinned-bytes in
    subst (λ l. AreCardsOf l c.args.space.now.cards) (sym (ap frame f.made.shape.others)) c.requires.tidy.tables.cards

pub forward_all-requires-clause-no_contexts : goal.forward_all-requires-clause-no_contexts
forward_all-requires-clause-no_contexts c =
    let f = some (goal.at.forward_all-requires-clause-no_contexts c).After-carry_unpinned-bytes in
    ap (λ (h : HeapView). h.rests) f.made.shape.others ∙ c.requires.marked.no_contexts

pub forward_all-requires-clause-border : goal.forward_all-requires-clause-border
forward_all-requires-clause-border c =
    let f = some (goal.at.forward_all-requires-clause-border c).After-carry_unpinned-bytes in
    border_after c.args.types.now c.args.space.now.heap c.carry_unpinned-bytes.new.heap f.machine f.kept
    c.carry_unpinned-bytes.result c.requires.tidy.heap c.requires.tidy.held f.memory f.laid f.bare f.made

-- ---- where bytes went

pub forward_all-requires-clause-heap : goal.forward_all-requires-clause-heap
forward_all-requires-clause-heap c =
    let f = some (goal.at.forward_all-requires-clause-heap c).After-carry_unpinned-bytes in
    shaped_heap c.args.space.now.heap c.carry_unpinned-bytes.new.heap f.made.shape c.requires.tidy.heap

pub returns-then-bytes-gt0-clause-fitted : goal.returns-then-bytes-gt0-clause-fitted
returns-then-bytes-gt0-clause-fitted c = λ n kept memory laid same tests.
    let at = (goal.at.returns-then-bytes-gt0-clause-fitted c).After-carry_unpinned-bytes in
    let rows = c.args.types.now in
    let old = c.args.space.now.heap in
    let f = fit at n kept memory laid same tests in
    let gone = c.forward_all.ensures.followed (moved_by (moves_in n kept)) (leads at f) in
    record {
      objects = c.forward_all.ensures.objects (moved_by (moves_in n kept)) (leads at f)
          ∙ ap (map (forwarded_object (moved_by (moves_in n kept)))) f.made.objects
          ∙ objects_gone (moves_in n kept) (objects_in rows old);
      layout = c.forward_all.ensures.layout ∙ f.made.layout;
      marks = λ o i.
          c.forward_all.ensures.marks (moved_object (moves_in n kept) o)
          (in_new rows old c.carry_unpinned-bytes.new.heap n kept c.carry_unpinned-bytes.result
          c.requires.tidy.heap c.requires.tidy.held memory laid f.bare f.made o i)
          ∙ f.made.marks o i;
      locals = gone.locals_is;
      handles = gone.table_is;
      entries = gone.entries_is;
      ready = gone.ready_is;
      counted = f.made.counted;
    }

pub returns-then-bytes-gt0-clause-tidy : goal.returns-then-bytes-gt0-clause-tidy
returns-then-bytes-gt0-clause-tidy c =
    let f = some (goal.at.returns-then-bytes-gt0-clause-tidy c).After-carry_unpinned-bytes in
    let rows = c.args.types.now in
    let old = c.args.space.now.heap in
    let mid = c.carry_unpinned-bytes.new.heap in
    let gone = c.forward_all.ensures in
    let same = ap frame gone.shape.others ∙ ap frame f.made.shape.others in
    record {
      heap = shaped_heap mid c.forward_all.new.space.heap gone.shape
          (shaped_heap old mid f.made.shape c.requires.tidy.heap);
      held = gone.held;
      clean = gone.clean c.carry_unpinned-bytes.ensures.clean;
      free_heads = gone.free_heads (moved_by (moves_in f.machine f.kept)) f.made.forwards
          (still_outside rows old mid f.machine f.kept c.carry_unpinned-bytes.result c.requires.tidy.heap
          c.requires.tidy.held f.memory f.laid f.bare f.made);
      tables = record {
        cards = gone.cards;
        bricks = subst (λ bs. AreBricksOf (frame c.forward_all.new.space.heap) bs) (sym gone.bricks)
            (subst (λ l. AreBricksOf l c.carry_unpinned-bytes.new.bricks) (sym same)
            (c.carry_unpinned-bytes.ensures.spans ∙ c.requires.tidy.tables.bricks));
        card_law = gone.card_law;
        brick_law = subst (λ bs. BrickLaw rows (frame c.forward_all.new.space.heap)
            (objects_in rows c.forward_all.new.space.heap) (entry_at bs)) (sym gone.bricks)
            (gone.brick_law (entry_at c.carry_unpinned-bytes.new.bricks)
            (c.carry_unpinned-bytes.ensures.brick_law c.requires.tidy.tables.brick_law));
      };
    }

pub returns-then-bytes-gt0-clause-no_contexts : goal.returns-then-bytes-gt0-clause-no_contexts
returns-then-bytes-gt0-clause-no_contexts c =
    let f = some (goal.at.returns-then-bytes-gt0-clause-no_contexts c).After-carry_unpinned-bytes in
    ap (λ (h : HeapView). h.rests) c.forward_all.ensures.shape.others
    ∙ ap (λ (h : HeapView). h.rests) f.made.shape.others ∙ c.requires.marked.no_contexts

pub returns-then-bytes-gt0-clause-limit : goal.returns-then-bytes-gt0-clause-limit
returns-then-bytes-gt0-clause-limit c =
    let f = some (goal.at.returns-then-bytes-gt0-clause-limit c).After-carry_unpinned-bytes in
    ap (λ (h : HeapView). h.limit) c.forward_all.ensures.shape.others
    ∙ ap (λ (h : HeapView). h.limit) f.made.shape.others

pub returns-then-bytes-gt0-clause-numbers : goal.returns-then-bytes-gt0-clause-numbers
returns-then-bytes-gt0-clause-numbers c =
    let at = (goal.at.returns-then-bytes-gt0-clause-numbers c).After-carry_unpinned-bytes in
    let f = some at in
    let go = moved_by (moves_in f.machine f.kept) in
    let gone = c.forward_all.ensures.followed go (leads at f) in
    record {
      pinned = ap pinned_in gone.table_is ∙ pinned-relocated go c.args.roots.now.handles;
      spare = gone.spare;
      entries = ap length gone.entries_is ∙ length-map c.args.roots.now.finals.entries go;
    }

-- ---- where none did

pub returns-else-bytes-gt0-clause-fitted : goal.returns-else-bytes-gt0-clause-fitted
returns-else-bytes-gt0-clause-fitted c = λ n kept memory laid same tests.
    let f = fit (goal.at.returns-else-bytes-gt0-clause-fitted c).After-carry_unpinned-bytes n kept memory laid same
    tests in
    let none = c.if-bytes-gt0.false in
    let roots = c.args.roots.now in
    still_fitted c.args.types.now c.args.space.now.heap c.carry_unpinned-bytes.new.heap n kept
    c.carry_unpinned-bytes.result c.requires.tidy.heap c.requires.tidy.held memory laid f.bare f.made
    (omega (arith, none)) roots.locals.items roots.handles roots.finals

pub returns-else-bytes-gt0-clause-tidy : goal.returns-else-bytes-gt0-clause-tidy
returns-else-bytes-gt0-clause-tidy c =
    let f = some (goal.at.returns-else-bytes-gt0-clause-tidy c).After-carry_unpinned-bytes in
    let rows = c.args.types.now in
    let old = c.args.space.now.heap in
    let mid = c.carry_unpinned-bytes.new.heap in
    let some_bytes = c.if-bytes-gt0.false in
    let none : c.carry_unpinned-bytes.result ≡ 0 = omega (arith, some_bytes) in
    let same = ap frame f.made.shape.others in
    let tables = c.requires.tidy.tables in
    record {
      heap = shaped_heap old mid f.made.shape c.requires.tidy.heap;
      held = f.made.held;
      clean = c.carry_unpinned-bytes.ensures.clean;
      free_heads = still_free_heads rows old mid f.machine f.kept c.carry_unpinned-bytes.result c.requires.tidy.heap
          c.requires.tidy.held f.memory f.laid f.bare f.made none;
      tables = record {
        cards = subst (λ l. AreCardsOf l c.args.space.now.cards) (sym same) tables.cards;
        bricks = subst (λ l. AreBricksOf l c.carry_unpinned-bytes.new.bricks) (sym same)
            (c.carry_unpinned-bytes.ensures.spans ∙ tables.bricks);
        card_law = still_cards rows old mid f.machine f.kept c.carry_unpinned-bytes.result c.requires.tidy.heap
            c.requires.tidy.held f.memory f.laid f.bare f.made none (is_card_set c.args.space.now.cards)
            tables.card_law;
        brick_law = c.carry_unpinned-bytes.ensures.brick_law tables.brick_law;
      };
    }

pub returns-else-bytes-gt0-clause-no_contexts : goal.returns-else-bytes-gt0-clause-no_contexts
returns-else-bytes-gt0-clause-no_contexts c =
    let f = some (goal.at.returns-else-bytes-gt0-clause-no_contexts c).After-carry_unpinned-bytes in
    ap (λ (h : HeapView). h.rests) f.made.shape.others ∙ c.requires.marked.no_contexts

pub returns-else-bytes-gt0-clause-limit : goal.returns-else-bytes-gt0-clause-limit
returns-else-bytes-gt0-clause-limit c =
    let f = some (goal.at.returns-else-bytes-gt0-clause-limit c).After-carry_unpinned-bytes in
    ap (λ (h : HeapView). h.limit) f.made.shape.others

pub returns-else-bytes-gt0-clause-numbers : goal.returns-else-bytes-gt0-clause-numbers
returns-else-bytes-gt0-clause-numbers c = record { pinned = refl; spare = refl; entries = refl }
