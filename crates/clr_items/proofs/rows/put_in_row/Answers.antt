use Rattle.std.proofs.Common.{◌≡◌, ◌<◌, Bool, List, ap, arith, get_or, length, set, sym, subst, ◌∙◌, if◌then◌else◌}
use Rattle.clr_types.specs.Ranges.{Piece}
use Rattle.clr_types.specs.Rising.{insert_by, IsRisingBy}
use Rattle.clr_items.specs.Stretches.{all_of}
use Rattle.clr_items.proofs.Lists.{place}
use Rattle.clr_items.proofs.StretchRows.{end-put, filled-set, home-put, home-read, put-filled, rise-at}
use Rattle.clr_items.proofs.rows.put_in_row.Goals as goal

pub returns-then-k-len-clause-added : goal.returns-then-k-len-clause-added
returns-then-k-len-clause-added c = λ done.
    let row = c.args.row.now.items in
    let x = c.args.item in
    let k = c.find_stretch-k.result in
    let ok = c.args.row.now.ok in
    let len = c.len.ensures in
    let test = c.if-k-len.true in
    let home = home-read row c.as_slice.result.now k x.place c.place.result c.find_stretch-k.ensures.home
    c.place.ensures c.as_slice.ensures.value in
    c.add_last.ensures.added done ∙ end-put row k x (omega (arith, ok, len, test)) home

pub put-requires : goal.put-requires
put-requires c =
    let row = c.args.row.now.items in
    let k = c.find_stretch-k.result in
    let ok = c.args.row.now.ok in
    let len = c.len.ensures in
    let test = c.if-k-len.false in
    let long = ap length c.as_slice.ensures.value in
    let within = c.find_stretch-k.ensures.within in
    let inside : k < length row = omega (arith, ok, len, test, long, within) in
    subst (IsRisingBy place) (sym c.index_mut.ensures.value)
    (rise-at row k c.index_mut.result.now inside c.requires.rising)

pub returns-clause-filled : goal.returns-clause-filled
returns-clause-filled c =
    let row = c.args.row.now.items in
    let k = c.find_stretch-k.result in
    let old = c.index_mut.result.now in
    let fine = c.if-not-put.false in
    let new : c.put.new.self ≡ insert_by place c.args.item old = c.put.ensures
    ∙ ap (λ (b : Bool). if b then insert_by place c.args.item old else old) fine in
    c.split_if_long.ensures.filled (filled-set row k c.put.new.self
    (subst (λ (s : List Piece). 0 < length s) (sym new) (put-filled c.args.item old)) c.requires.filled)

pub returns-clause-added : goal.returns-clause-added
returns-clause-added c = λ _.
    let row = c.args.row.now.items in
    let x = c.args.item in
    let k = c.find_stretch-k.result in
    let old = c.index_mut.result.now in
    let fine = c.if-not-put.false in
    let ok = c.args.row.now.ok in
    let len = c.len.ensures in
    let test = c.if-k-len.false in
    let long = ap length c.as_slice.ensures.value in
    let within = c.find_stretch-k.ensures.within in
    let inside : k < length row = omega (arith, ok, len, test, long, within) in
    let new : c.put.new.self ≡ insert_by place x (get_or row k old) = c.put.ensures
    ∙ ap (λ (b : Bool). if b then insert_by place x old else old) fine
    ∙ ap (insert_by place x) c.index_mut.ensures.value in
    let home = home-read row c.as_slice.result.now k x.place c.place.result c.find_stretch-k.ensures.home
    c.place.ensures c.as_slice.ensures.value in
    c.split_if_long.ensures.items
    ∙ ap (λ (s : List Piece). all_of (set row k s)) new
    ∙ home-put row k x old inside home
