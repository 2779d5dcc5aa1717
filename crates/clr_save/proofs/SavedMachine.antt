-- Contents with a machine's segments have the bytes of the machine's image.
use Rattle.std.proofs.Common.{◌≡◌, ℕ, ◌+◌, List, [], ◌∷◌, ◌++◌, length, refl, ap, sym, ◌∙◌, append_assoc, codes}
use Rattle.std.specs.List.{flat_map}
use Rattle.std.specs.FinMap as finmap
use Rattle.clr_types.specs.Segments.{Layout}
use Rattle.clr_types.specs.Types.{TypeRow}
use Rattle.clr_model.specs.Machine.{begun_new, begun_store, Machine, no_step, ThreadStep}
use Rattle.clr_format.specs.Saved.{bit, handle_bytes, image_bytes, number_or_zero, queue_bytes, segment_bytes}
use Rattle.clr_format.specs.Saved.{step_words, steps_words}
use Rattle.clr_format.specs.Saved.{tables_bytes, type_bytes, without_rests, word_bytes, words_bytes}
use Rattle.clr_save.specs.SavedImages.{tables_of}
use Rattle.clr_save.specs.Snapshots.{step_of, steps_of}
use Rattle.clr_save.specs.SavedWords.{bytes_of_segments}
use Rattle.clr_save.specs.Contents.{bytes_of, Contents}
use Rattle.clr_save.specs.Written.{bytes_of_tables, step_bytes}
use Rattle.clr_save.proofs.SavedParts.{words_bytes-append}

-- the contents are the machine's, and the segments have the same bytes
pub record AreContentsOf (m : Machine) (c : Contents) : Type 0 where
  pub limit : c.head.limit ≡ m.options.limit
  pub large : c.head.large ≡ m.options.large
  pub compact_large : c.head.compact_large ≡ m.compacts_large
  pub types : c.types ≡ m.types
  pub count : length c.heap.segments ≡ length m.layout.segments
  pub segments : bytes_of_segments c.types c.heap 0 (length c.heap.segments)
      ≡ flat_map (segment_bytes (without_rests m)) m.layout.segments
  pub locals : c.locals ≡ m.locals
  pub tables : c.tables ≡ tables_of m

one_step : (layout : Layout) (t : ℕ) (s : ThreadStep) → words_bytes (step_words layout t s)
    ≡ step_bytes (step_of layout t s)
one_step layout t no_step = refl
one_step layout t (begun_store object slot) = refl
one_step layout t (begun_new type len local) = refl

all_steps : (layout : Layout) (t : ℕ) (ss : List ThreadStep)
    → words_bytes (steps_words layout t ss) ≡ flat_map step_bytes (steps_of layout t ss)
all_steps layout t [] = refl
all_steps layout t (s ∷ ss) =
    words_bytes-append (step_words layout t s) (steps_words layout (t + 1) ss)
    ∙ ap (λ bs. bs ++ words_bytes (steps_words layout (t + 1) ss)) (one_step layout t s)
    ∙ ap (λ bs. step_bytes (step_of layout t s) ++ bs) (all_steps layout (t + 1) ss)

pub tables_are : (m : Machine) → tables_bytes m ≡ bytes_of_tables (tables_of m)
unfolding bytes_of_tables
tables_are m =
    let steps = all_steps m.layout 1 m.steps in
    let count = finmap.len-entries m.handles in
    let joined : ((word_bytes (number_or_zero m.holder) ++ flat_map step_bytes (steps_of m.layout 1 m.steps))
    ++ (word_bytes (length (finmap.entries m.handles)) ++ flat_map handle_bytes (finmap.entries m.handles)))
    ++ (queue_bytes m.entries ++ queue_bytes m.ready)
    ≡ word_bytes (number_or_zero m.holder) ++ (flat_map step_bytes (steps_of m.layout 1 m.steps)
    ++ (word_bytes (length (finmap.entries m.handles)) ++ (flat_map handle_bytes (finmap.entries m.handles)
    ++ (queue_bytes m.entries ++ queue_bytes m.ready)))) = simp append_assoc in
    ap (λ bs. ((word_bytes (number_or_zero m.holder) ++ bs)
    ++ (word_bytes (finmap.len m.handles) ++ flat_map handle_bytes (finmap.entries m.handles)))
    ++ (queue_bytes m.entries ++ queue_bytes m.ready)) steps
    ∙ ap (λ n. ((word_bytes (number_or_zero m.holder) ++ flat_map step_bytes (steps_of m.layout 1 m.steps))
    ++ (word_bytes n ++ flat_map handle_bytes (finmap.entries m.handles)))
    ++ (queue_bytes m.entries ++ queue_bytes m.ready)) count
    ∙ joined

-- the image of the machine
pub image_is : (m : Machine) (c : Contents) → AreContentsOf m c → bytes_of c ≡ image_bytes m
unfolding bytes_of image_bytes
image_is m c are =
    let segments = are.segments in
    let types = are.types in
    let count = are.count in
    let locals = are.locals in
    let limit = are.limit in
    let large = are.large in
    let compact = are.compact_large in
    let tables = ap bytes_of_tables are.tables ∙ sym (tables_are m) in
    let split : (word_bytes (length m.types) ++ flat_map type_bytes m.types)
    ++ ((word_bytes (length m.layout.segments) ++ flat_map (segment_bytes (without_rests m)) m.layout.segments)
    ++ (words_bytes m.locals ++ tables_bytes m))
    ≡ ((word_bytes (length m.types) ++ flat_map type_bytes m.types)
    ++ ((word_bytes (length m.layout.segments) ++ flat_map (segment_bytes (without_rests m)) m.layout.segments)
    ++ words_bytes m.locals)) ++ tables_bytes m = sym (simp append_assoc) in
    let front : codes "CLRHEAP2" ++ words_bytes (c.head.limit ∷ c.head.large ∷ bit c.head.compact_large ∷ [])
    ≡ codes "CLRHEAP2" ++ words_bytes (m.options.limit ∷ m.options.large ∷ bit m.compacts_large ∷ []) =
    rw (limit, large, compact) refl in
    let named : word_bytes (length c.types) ++ flat_map type_bytes c.types
    ≡ word_bytes (length m.types) ++ flat_map type_bytes m.types =
    ap (λ (rows : List TypeRow). word_bytes (length rows) ++ flat_map type_bytes rows) types in
    let placed : word_bytes (length c.heap.segments) ++ bytes_of_segments c.types c.heap 0 (length c.heap.segments)
    ≡ word_bytes (length m.layout.segments) ++ flat_map (segment_bytes (without_rests m)) m.layout.segments =
    ap (λ bs. word_bytes (length c.heap.segments) ++ bs) segments
    ∙ ap (λ n. word_bytes n ++ flat_map (segment_bytes (without_rests m)) m.layout.segments) count in
    let last : words_bytes c.locals ++ bytes_of_tables c.tables ≡ words_bytes m.locals ++ tables_bytes m =
    ap (λ ls. words_bytes ls ++ bytes_of_tables c.tables) locals ∙ ap (λ bs. words_bytes m.locals ++ bs) tables in
    ap (λ bs. bs ++ ((word_bytes (length c.types) ++ flat_map type_bytes c.types)
    ++ ((word_bytes (length c.heap.segments) ++ bytes_of_segments c.types c.heap 0 (length c.heap.segments))
    ++ (words_bytes c.locals ++ bytes_of_tables c.tables)))) front
    ∙ ap (λ bs. (codes "CLRHEAP2" ++ words_bytes (m.options.limit ∷ m.options.large ∷ bit m.compacts_large ∷ [])) ++ bs)
    (ap (λ bs. bs ++ ((word_bytes (length c.heap.segments)
    ++ bytes_of_segments c.types c.heap 0 (length c.heap.segments))
    ++ (words_bytes c.locals ++ bytes_of_tables c.tables))) named
    ∙ ap (λ bs. (word_bytes (length m.types) ++ flat_map type_bytes m.types) ++ bs)
    (ap (λ bs. bs ++ (words_bytes c.locals ++ bytes_of_tables c.tables)) placed
    ∙ ap (λ bs. (word_bytes (length m.layout.segments) ++ flat_map (segment_bytes (without_rests m)) m.layout.segments)
    ++ bs) last)
    ∙ split)
