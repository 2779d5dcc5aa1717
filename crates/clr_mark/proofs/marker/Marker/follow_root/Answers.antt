use Rattle.std.proofs.Common.{◌∙◌, sym, ap}
use Rattle.std.proofs.lemmas.Bool.{both_ways}
use Rattle.clr_heap.specs.Parts.{unmarked}
use Rattle.clr_view.specs.Marks.{has_mark}
use Rattle.clr_mark.specs.Marks.{is_condemned_place}
use Rattle.clr_mark.proofs.Graying.{object_word}
use Rattle.clr_mark.proofs.Laws.{gray_stack}
use Rattle.clr_mark.proofs.RootsFollowed.{root_closed, root_mark, rooted-refl, rooted_gray, rooted_new}
use Rattle.clr_mark.proofs.marker.Marker.follow_root.Goals as goal

pub segment_of-k-requires : goal.segment_of-k-requires
segment_of-k-requires c = object_word c.args.types.now c.args.heap.now c.args.self.now.oldest c.args.obj
    c.requires.gray.closed.heap c.requires.gray.closed.held c.requires.object

pub word_at-word-requires-clause-word : goal.word_at-word-requires-clause-word
word_at-word-requires-clause-word c = object_word c.args.types.now c.args.heap.now c.args.self.now.oldest c.args.obj
    c.requires.gray.closed.heap c.requires.gray.closed.held c.requires.object

pub set_word_at-requires-clause-word : goal.set_word_at-requires-clause-word
set_word_at-requires-clause-word c = object_word c.args.types.now c.args.heap.now c.args.self.now.oldest c.args.obj
    c.requires.gray.closed.heap c.requires.gray.closed.held c.requires.object

pub follow-requires : goal.follow-requires
follow-requires c =
    let near = sym c.is_condemned.ensures ∙ c.if-not-is_condemned.false in
    let mark = root_mark c.args.types.now c.args.heap.now c.set_word_at.new.self c.args.self.now c.args.obj
    c.word_at-word.result c.requires.gray c.requires.object near (sym c.is_marked.ensures ∙ c.if-is_marked.false)
    c.word_at-word.ensures c.set_word_at.ensures in
    record {
      closed = root_closed c.args.types.now c.args.heap.now c.set_word_at.new.self c.args.self.now c.args.obj
          c.requires.gray mark.after;
      marked = mark.after.there near;
      stacked = λ x i. mark.after.kept x
          (gray_stack c.args.types.now c.args.heap.now c.args.self.now c.requires.gray x i);
      segment = c.segment_of-k.ensures ∙ mark.index;
      word = c.unmarked.ensures ∙ ap unmarked c.word_at-word.ensures ∙ mark.word;
      known = c.requires.known;
    }

pub returns-then-not-is_condemned-clause-rooted : goal.returns-then-not-is_condemned-clause-rooted
returns-then-not-is_condemned-clause-rooted c =
    let g = c.args.self.now.oldest in
    rooted-refl c.args.types.now g c.args.heap.now c.args.obj
    (λ near. absurd (both_ways (is_condemned_place c.args.heap.now g c.args.obj)
    (sym c.is_condemned.ensures ∙ c.if-not-is_condemned.true) near))

pub returns-then-is_marked-clause-rooted : goal.returns-then-is_marked-clause-rooted
returns-then-is_marked-clause-rooted c =
    rooted-refl c.args.types.now c.args.self.now.oldest c.args.heap.now c.args.obj
    (λ near. record {
      stands = c.requires.object;
      mark = sym (ap has_mark c.word_at-word.ensures) ∙ sym c.is_marked.ensures ∙ c.if-is_marked.true;
    })

pub returns-clause-gray : goal.returns-clause-gray
returns-clause-gray c =
    let near = sym c.is_condemned.ensures ∙ c.if-not-is_condemned.false in
    let mark = root_mark c.args.types.now c.args.heap.now c.set_word_at.new.self c.args.self.now c.args.obj
    c.word_at-word.result c.requires.gray c.requires.object near (sym c.is_marked.ensures ∙ c.if-is_marked.false)
    c.word_at-word.ensures c.set_word_at.ensures in
    rooted_gray c.args.types.now c.args.heap.now c.set_word_at.new.self c.args.self.now c.args.obj c.requires.gray
    mark.after c.follow.new.heap c.follow.new.self near c.follow.ensures.grayed c.follow.ensures.followed

pub returns-clause-rooted : goal.returns-clause-rooted
returns-clause-rooted c =
    let near = sym c.is_condemned.ensures ∙ c.if-not-is_condemned.false in
    let mark = root_mark c.args.types.now c.args.heap.now c.set_word_at.new.self c.args.self.now c.args.obj
    c.word_at-word.result c.requires.gray c.requires.object near (sym c.is_marked.ensures ∙ c.if-is_marked.false)
    c.word_at-word.ensures c.set_word_at.ensures in
    rooted_new c.args.types.now c.args.heap.now c.set_word_at.new.self c.args.self.now c.args.obj c.requires.gray
    mark.after c.follow.new.heap c.follow.new.self near c.follow.ensures.grayed c.follow.ensures.followed
