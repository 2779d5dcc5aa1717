-- The replies are written one behind the other.
use Rattle.std.proofs.Common.{List, ℕ, ◌++◌, ◌∙◌, ap, append_assoc, refl, sym}
use Rattle.std.specs.Prelude.{codes}
use Rattle.std.proofs.lemmas.Result.{err_from_is_err_and}
use Rattle.clr_heap.specs.View.{heap_items}
use Rattle.clr_model.specs.declared.Mode.TheVariants.{Full}
use Rattle.clr_model.specs.Sos.{dump_by_mode, eeheap_text}
use Rattle.clr_sos.proofs.BufferedTexts.{cut_before, cut_more, cut_within, put_more}
use Rattle.clr_image.specs.Texts.{all_text, tables_text}
use Rattle.clr_image.proofs.ShownTexts.{all-shown, parts-shown}
use Rattle.clr_image.proofs.inspecting.write_replies.Goals as goal

pub returns-in_err-write_buffered-clause-cut : goal.returns-in_err-write_buffered-clause-cut
returns-in_err-write_buffered-clause-cut g c =
    let p = err_from_is_err_and c.from_residual.result c.from_residual.ensures.1 in
    rw p.1 (λ m is.
    let rest = all_text m ++ (tables_text c.args.first m ++ codes "clean\n") in
    cut_before _ _ _ _ _ c.args.heap.now rest _ c.in_err-write_buffered.ensures.cut
    (ap (λ (l : List ℕ). l ++ rest) (c.requires.heap m is)))

pub returns-in_err-write_dumpheap-clause-cut : goal.returns-in_err-write_dumpheap-clause-cut
returns-in_err-write_dumpheap-clause-cut g c =
    let failed = c.from_residual-in_err-write_dumpheap in
    let p = err_from_is_err_and failed.result failed.ensures.1 in
    let rows = c.args.view.now.types.now in
    let h = c.args.view.now.heap.now in
    let listing = dump_by_mode Full rows (heap_items rows h) in
    rw p.1 (λ m is.
    let tables = tables_text c.args.first m in
    cut_within _ (g.K.Sink.written c.write_buffered.new.sink) _ _ (g.K.Sink.faults c.write_buffered.new.sink) _ _
    c.write_buffered.new.buffer.items c.args.heap.now listing (tables ++ codes "clean\n") _
    c.in_ok-write_buffered.ensures.put c.in_err-write_dumpheap.ensures.cut
    (sym (append_assoc (c.args.heap.now ++ listing) tables (codes "clean\n"))
    ∙ parts-shown c.args.heap.now listing tables (codes "clean\n") (eeheap_text m) (all_text m) (c.requires.heap m is)
    (all-shown m rows h c.write_dumpheap.ensures.heap c.requires.held is.types is.objects is.layout)))

pub returns-in_err-write_tables-clause-cut : goal.returns-in_err-write_tables-clause-cut
returns-in_err-write_tables-clause-cut g c =
    let failed = c.from_residual-in_err-write_tables in
    let p = err_from_is_err_and failed.result failed.ensures.1 in
    let rows = c.args.view.now.types.now in
    let h = c.args.view.now.heap.now in
    let listing = dump_by_mode Full rows (heap_items rows h) in
    rw p.1 (λ m is.
    let tables = tables_text c.args.first m in
    cut_within _ (g.K.Sink.written c.write_dumpheap.new.sink) _ _ (g.K.Sink.faults c.write_dumpheap.new.sink) _ _
    c.write_dumpheap.new.buffer.items (c.args.heap.now ++ listing) tables (codes "clean\n") _
    (put_more _ (g.K.Sink.written c.write_buffered.new.sink) _ _ (g.K.Sink.faults c.write_buffered.new.sink) _ _
    c.write_buffered.new.buffer.items c.write_dumpheap.new.buffer.items c.args.heap.now listing
    (c.args.heap.now ++ listing) c.in_ok-write_buffered.ensures.put c.in_ok-write_dumpheap.ensures.put refl)
    (c.in_err-write_tables.ensures.cut m is)
    (parts-shown c.args.heap.now listing tables (codes "clean\n") (eeheap_text m) (all_text m) (c.requires.heap m is)
    (all-shown m rows h c.write_dumpheap.ensures.heap c.requires.held is.types is.objects is.layout)))

pub returns-in_err-write_buffered-2-clause-cut : goal.returns-in_err-write_buffered-2-clause-cut
returns-in_err-write_buffered-2-clause-cut g c =
    let failed = c.from_residual-in_err-write_buffered-2 in
    let p = err_from_is_err_and failed.result failed.ensures.1 in
    let rows = c.args.view.now.types.now in
    let h = c.args.view.now.heap.now in
    let listing = dump_by_mode Full rows (heap_items rows h) in
    rw p.1 (λ m is.
    let tables = tables_text c.args.first m in
    cut_more _ (g.K.Sink.written c.write_tables.new.sink) _ _ (g.K.Sink.faults c.write_tables.new.sink) _ _
    c.write_tables.new.buffer.items ((c.args.heap.now ++ listing) ++ tables) (codes "clean\n") _
    (put_more _ (g.K.Sink.written c.write_dumpheap.new.sink) _ _ (g.K.Sink.faults c.write_dumpheap.new.sink) _ _
    c.write_dumpheap.new.buffer.items c.write_tables.new.buffer.items (c.args.heap.now ++ listing) tables
    ((c.args.heap.now ++ listing) ++ tables)
    (put_more _ (g.K.Sink.written c.write_buffered.new.sink) _ _ (g.K.Sink.faults c.write_buffered.new.sink) _ _
    c.write_buffered.new.buffer.items c.write_dumpheap.new.buffer.items c.args.heap.now listing
    (c.args.heap.now ++ listing) c.in_ok-write_buffered.ensures.put c.in_ok-write_dumpheap.ensures.put refl)
    (c.in_ok-write_tables.ensures.put m is) refl) c.in_err-write_buffered-2.ensures.cut
    (parts-shown c.args.heap.now listing tables (codes "clean\n") (eeheap_text m) (all_text m) (c.requires.heap m is)
    (all-shown m rows h c.write_dumpheap.ensures.heap c.requires.held is.types is.objects is.layout)))

pub returns-clause-put : goal.returns-clause-put
returns-clause-put g c = λ m is.
    let rows = c.args.view.now.types.now in
    let h = c.args.view.now.heap.now in
    let listing = dump_by_mode Full rows (heap_items rows h) in
    let tables = tables_text c.args.first m in
    put_more _ (g.K.Sink.written c.write_tables.new.sink) _ _ (g.K.Sink.faults c.write_tables.new.sink) _ _
    c.write_tables.new.buffer.items _ ((c.args.heap.now ++ listing) ++ tables) (codes "clean\n") _
    (put_more _ (g.K.Sink.written c.write_dumpheap.new.sink) _ _ (g.K.Sink.faults c.write_dumpheap.new.sink) _ _
    c.write_dumpheap.new.buffer.items c.write_tables.new.buffer.items (c.args.heap.now ++ listing) tables
    ((c.args.heap.now ++ listing) ++ tables)
    (put_more _ (g.K.Sink.written c.write_buffered.new.sink) _ _ (g.K.Sink.faults c.write_buffered.new.sink) _ _
    c.write_buffered.new.buffer.items c.write_dumpheap.new.buffer.items c.args.heap.now listing
    (c.args.heap.now ++ listing) c.in_ok-write_buffered.ensures.put c.in_ok-write_dumpheap.ensures.put refl)
    (c.in_ok-write_tables.ensures.put m is) refl) c.in_ok-write_buffered-2.ensures.put
    (parts-shown c.args.heap.now listing tables (codes "clean\n") (eeheap_text m) (all_text m) (c.requires.heap m is)
    (all-shown m rows h c.write_dumpheap.ensures.heap c.requires.held is.types is.objects is.layout))
