use Rattle.std.proofs.Common.{◌≡◌, ℕ, ◌-◌, ◌++◌, ◌∷◌, [], map, subst, sym, ◌∙◌, arith, rules}
use Rattle.std.proofs.lemmas.List.{nil_from_length}
use Rattle.std.proofs.lemmas.Result.{err_from_is_err_and}
use Rattle.wire_base.specs.Reading.{Stops}
use Rattle.types_10.specs.Kinds.{size_width}
use Rattle.types_10.specs.Loads.{element_load}
use Rattle.types_10.specs.View.{value_tree}
use Rattle.types_10.specs.Reading.{row_in, two_in, value_in, shape_in, element_in}
use Rattle.types_10.specs.Reading.{items_in, entries_in, elements_in, level}
use Rattle.types_10.specs.Shapes.{shape_data}
use Rattle.types_10.proofs.Levels.{contents_more, element_plain, element_none, element_deep}
use Rattle.types_10.proofs.Levels.{element_more}
use Rattle.types_10.proofs.Constructors.{descriptor_goes_on, ends_at_code, ends_at_descriptor}
use Rattle.types_10.proofs.Constructors.{done_at_code, ends_without_code, told_stops}
use Rattle.types_10.proofs.Filled.{filled_ends, filled_over, filled_done, items_counted}
use Rattle.types_10.proofs.Filled.{entries_counted, elements_counted}
use Rattle.types_10.proofs.Rows.{row_goes_on, row_ends, row_done}
use Rattle.types_10.proofs.reading.+nested.Goals.{element_of-then-depth-eq0-via-then-depth-eq0}
use Rattle.types_10.proofs.reading.+nested.Goals.{element_of-then-depth-eq0-via-else-depth-eq0+then-not-is_within}
use Rattle.types_10.proofs.reading.+nested.Goals as goal

pub values_of-returns-in_err-value : goal.values_of-returns-in_err-value
values_of-returns-in_err-value t c =
    let read = λ (room : ℕ). value_in c.args.depth room c.args.bounds.cut in
    let p = err_from_is_err_and c.from_residual.result c.from_residual.ensures.1 in
    rw (p.1, p.2) (row_ends c.in_err-value.field-0.0 read c.loop-done.list c.args.count c.loop-done.done c.loop-done.spare c.args.bounds.end c.loop-done.rest.now (row_in read c.args.count c.args.room c.args.bounds.end c.args.bytes.now) (omega arith) c.in_err-value.ensures c.loop-done.invariant.1)

pub values_of-loop-done-preserved : goal.values_of-loop-done-preserved
values_of-loop-done-preserved t c =
    let read = λ (room : ℕ). value_in c.args.depth room c.args.bounds.cut in
    let list : c.push.new.self ≡ c.loop-done.list ++ value_tree c.in_ok-value.value ∷ [] = c.in_ok-push.ensures.ok in
    (omega arith, rw list (row_goes_on read c.loop-done.list c.args.count c.loop-done.done c.loop-done.spare c.args.bounds.end c.loop-done.rest.now (value_tree c.in_ok-value.value) c.in_ok-value.left c.in_ok-value.after.now (row_in read c.args.count c.args.room c.args.bounds.end c.args.bytes.now) (omega arith) c.in_ok-value.ensures c.loop-done.invariant.1))

pub values_of-returns : goal.values_of-returns
values_of-returns t c =
    let read = λ (room : ℕ). value_in c.args.depth room c.args.bounds.cut in
    row_done read c.loop-done.list c.args.count c.loop-done.done c.loop-done.spare c.args.bounds.end c.loop-done.rest.now (row_in read c.args.count c.args.room c.args.bounds.end c.args.bytes.now) (omega arith) c.loop-done.invariant.1

pub pairs_of-returns-in_err-key : goal.pairs_of-returns-in_err-key
pairs_of-returns-in_err-key t c =
    let read = two_in (λ room. value_in c.args.depth room c.args.bounds.cut) in
    let p = err_from_is_err_and c.from_residual.result c.from_residual.ensures.1 in
    rw (p.1, p.2) (row_ends c.in_err-key.field-0.0 read c.loop-done.list c.args.count c.loop-done.done c.loop-done.spare c.args.bounds.end c.loop-done.rest.now (row_in read c.args.count c.args.room c.args.bounds.end c.args.bytes.now) (omega arith) c.in_err-key.ensures c.loop-done.invariant.1)

pub pairs_of-loop-done-preserved : goal.pairs_of-loop-done-preserved
pairs_of-loop-done-preserved t c =
    let read = two_in (λ room. value_in c.args.depth room c.args.bounds.cut) in
    let list : c.push.new.self ≡ c.loop-done.list ++ (value_tree c.in_ok-key.key, value_tree c.in_ok-key.value) ∷ [] = c.in_ok-push.ensures.ok in
    (omega arith, rw list (row_goes_on read c.loop-done.list c.args.count c.loop-done.done c.loop-done.spare c.args.bounds.end c.loop-done.rest.now ((value_tree c.in_ok-key.key, value_tree c.in_ok-key.value)) c.in_ok-key.left c.in_ok-key.after.now (row_in read c.args.count c.args.room c.args.bounds.end c.args.bytes.now) (omega arith) c.in_ok-key.ensures c.loop-done.invariant.1))

pub pairs_of-returns : goal.pairs_of-returns
pairs_of-returns t c =
    let read = two_in (λ room. value_in c.args.depth room c.args.bounds.cut) in
    row_done read c.loop-done.list c.args.count c.loop-done.done c.loop-done.spare c.args.bounds.end c.loop-done.rest.now (row_in read c.args.count c.args.room c.args.bounds.end c.args.bytes.now) (omega arith) c.loop-done.invariant.1

pub elements_of-returns-in_err-value : goal.elements_of-returns-in_err-value
elements_of-returns-in_err-value t c =
    let read = λ (room : ℕ). element_in c.args.depth room (shape_data c.args.shape.now) c.args.at c.args.bounds.cut in
    let p = err_from_is_err_and c.from_residual.result c.from_residual.ensures.1 in
    rw (p.1, p.2) (row_ends c.in_err-value.field-0.0 read c.loop-done.list c.args.count c.loop-done.done c.loop-done.spare c.args.bounds.end c.loop-done.rest.now (row_in read c.args.count c.args.room c.args.bounds.end c.args.bytes.now) (omega arith) c.in_err-value.ensures c.loop-done.invariant.1)

pub elements_of-loop-done-preserved : goal.elements_of-loop-done-preserved
elements_of-loop-done-preserved t c =
    let read = λ (room : ℕ). element_in c.args.depth room (shape_data c.args.shape.now) c.args.at c.args.bounds.cut in
    let list : c.push.new.self ≡ c.loop-done.list ++ value_tree c.in_ok-value.value ∷ [] = c.in_ok-push.ensures.ok in
    (omega arith, rw list (row_goes_on read c.loop-done.list c.args.count c.loop-done.done c.loop-done.spare c.args.bounds.end c.loop-done.rest.now (value_tree c.in_ok-value.value) c.in_ok-value.left c.in_ok-value.after.now (row_in read c.args.count c.args.room c.args.bounds.end c.args.bytes.now) (omega arith) c.in_ok-value.ensures c.loop-done.invariant.1))

pub elements_of-returns : goal.elements_of-returns
elements_of-returns t c =
    let read = λ (room : ℕ). element_in c.args.depth room (shape_data c.args.shape.now) c.args.at c.args.bounds.cut in
    row_done read c.loop-done.list c.args.count c.loop-done.done c.loop-done.spare c.args.bounds.end c.loop-done.rest.now (row_in read c.args.count c.args.room c.args.bounds.end c.args.bytes.now) (omega arith) c.loop-done.invariant.1

pub content_of-returns-else-depth-eq0 : goal.content_of-returns-else-depth-eq0
content_of-returns-else-depth-eq0 t c =
    rw (contents_more c.args.depth c.args.room c.args.code.kind c.args.code.at c.args.bounds.cut c.args.bounds.end c.args.content.now (omega arith)) c.deep_of.ensures

pub element_of-returns-in_default : goal.element_of-returns-in_default
element_of-returns-in_default t c =
    let none : c.args.descriptors.now ≡ [] = nil_from_length c.args.descriptors.now c.in_default.ensures.cases in
    rw (none, element_plain c.args.depth c.args.room c.args.code.kind c.args.code.at c.args.bounds.cut c.args.bounds.end c.args.content.now) c.content_of.ensures

pub element_of-returns-then-depth-eq0 : goal.element_of-returns-then-depth-eq0
element_of-returns-then-depth-eq0 t c =
    let x = value_tree c.in-Some.descriptor.now in
    let xs = map value_tree c.in-Some.inner.now in
    let parts = c.in-Some.ensures.cases.0 in
    elim c.then-depth-eq0.branch [
      | element_of-then-depth-eq0-via-then-depth-eq0 w ↦ rw (parts, w.if-depth-eq0.true) (element_none c.args.room x xs c.args.code.kind c.args.code.at c.args.bounds.cut c.args.bounds.end c.args.content.now)
      | element_of-then-depth-eq0-via-else-depth-eq0+then-not-is_within w ↦
          rw parts (element_deep c.args.depth c.args.room x xs c.args.code.kind c.args.code.at c.args.bounds.cut c.args.bounds.end c.args.content.now (omega arith) (cc (w.is_within.ensures, w.if-not-is_within.true)))
    ]

pub element_of-returns-in_err-value : goal.element_of-returns-in_err-value
element_of-returns-in_err-value t c =
    let x = value_tree c.in-Some.descriptor.now in
    let xs = map value_tree c.in-Some.inner.now in
    let more = element_more c.args.depth c.args.room x xs c.args.code.kind c.args.code.at c.args.bounds.cut c.args.bounds.end c.args.content.now (omega arith) (cc (c.is_within.ensures, c.if-not-is_within.false)) in
    rw (c.in-Some.ensures.cases.0, more) (search rules)

pub element_of-returns : goal.element_of-returns
element_of-returns t c =
    let x = value_tree c.in-Some.descriptor.now in
    let xs = map value_tree c.in-Some.inner.now in
    let more = element_more c.args.depth c.args.room x xs c.args.code.kind c.args.code.at c.args.bounds.cut c.args.bounds.end c.args.content.now (omega arith) (cc (c.is_within.ensures, c.if-not-is_within.false)) in
    rw (c.in-Some.ensures.cases.0, more) (search rules)

pub shape_of-returns-in_err-code : goal.shape_of-returns-in_err-code
shape_of-returns-in_err-code t c =
    let p = err_from_is_err_and c.from_residual.result c.from_residual.ensures.1 in
    rw (p.1, p.2) (ends_at_code c.in_err-code.field-0.0 (value_in c.args.depth) c.loop-most.descriptors c.loop-most.most c.loop-most.spare c.args.bounds.cut c.args.bounds.end c.loop-most.rest.now (shape_in c.args.depth c.args.room c.args.bounds.cut c.args.bounds.end c.args.bytes.now) (omega arith) (told_stops c.in_err-code.field-0.0 _ c.in_err-code.ensures) c.loop-most.invariant)

pub shape_of-returns-in_default : goal.shape_of-returns-in_default
shape_of-returns-in_default t c =
    done_at_code (value_in c.args.depth) c.loop-most.descriptors c.loop-most.most c.loop-most.spare c.args.bounds.cut c.args.bounds.end c.loop-most.rest.now c.in_ok-code.code.kind c.in_ok-code.code.at c.in_ok-code.after.now _ (omega arith) c.in_ok-code.ensures c.in_default.not-Described c.loop-most.invariant

pub shape_of-returns-in_err-descriptor : goal.shape_of-returns-in_err-descriptor
shape_of-returns-in_err-descriptor t c =
    let p = err_from_is_err_and c.from_residual-in_err-descriptor.result c.from_residual-in_err-descriptor.ensures.1 in
    rw (p.1, p.2) (ends_at_descriptor c.in_err-descriptor.field-0.0 (value_in c.args.depth) c.loop-most.descriptors c.loop-most.most c.loop-most.spare c.args.bounds.cut c.args.bounds.end c.loop-most.rest.now c.in_ok-code.code.at c.in_ok-code.after.now (shape_in c.args.depth c.args.room c.args.bounds.cut c.args.bounds.end c.args.bytes.now) (omega arith)
    (rw c.in-Described.is at c.in_ok-code.ensures) c.in_err-descriptor.ensures c.loop-most.invariant)

pub shape_of-loop-most-preserved : goal.shape_of-loop-most-preserved
shape_of-loop-most-preserved t c =
    let list : c.push.new.self ≡ c.loop-most.descriptors ++ value_tree c.in_ok-descriptor.descriptor ∷ [] = c.in_ok-push.ensures.ok in
    rw list (descriptor_goes_on (value_in c.args.depth) c.loop-most.descriptors c.loop-most.most (c.loop-most.most - 1) c.loop-most.spare c.args.bounds.cut c.args.bounds.end c.loop-most.rest.now c.in_ok-code.code.at c.in_ok-code.after.now (value_tree c.in_ok-descriptor.descriptor) c.in_ok-descriptor.left c.in_ok-descriptor.after.now (shape_in c.args.depth c.args.room c.args.bounds.cut c.args.bounds.end c.args.bytes.now) (omega arith)
    (rw c.in-Described.is at c.in_ok-code.ensures) c.in_ok-descriptor.ensures c.loop-most.invariant)

pub shape_of-returns : goal.shape_of-returns
shape_of-returns t c =
    ends_without_code (value_in c.args.depth) c.loop-most.descriptors c.loop-most.most c.loop-most.spare c.args.bounds.cut c.args.bounds.end c.loop-most.rest.now (shape_in c.args.depth c.args.room c.args.bounds.cut c.args.bounds.end c.args.bytes.now) (omega arith) c.loop-most.invariant

pub list_of-returns-in_err-list : goal.list_of-returns-in_err-list
list_of-returns-in_err-list t c =
    let p = err_from_is_err_and c.from_residual-in_err-list.result c.from_residual-in_err-list.ensures.1 in
    let w = size_width c.args.size in
    let inside = c.bounds_inside-inside.result in
    let inner = items_in w (value_in c.args.depth) c.args.room in
    let row = items_counted w (value_in c.args.depth) c.args.room inside.cut inside.end c.in_ok-body.body.now c.in_ok-count.count c.in_ok-count.items.now c.in_ok-count.ensures in
    rw (p.1, p.2) (filled_ends c.in_err-list.field-0.0 w c.args.at inner c.args.bounds.cut c.args.bounds.end c.args.content.now c.in_ok-body.body.now c.in_ok-body.rest.now inside c.in_ok-body.ensures c.bounds_inside-inside.ensures (subst (Stops c.in_err-list.field-0.0) (sym row) c.in_err-list.ensures))

pub list_of-returns-then-not-is_empty : goal.list_of-returns-then-not-is_empty
list_of-returns-then-not-is_empty t c =
    let w = size_width c.args.size in
    let inside = c.bounds_inside-inside.result in
    let inner = items_in w (value_in c.args.depth) c.args.room in
    let row = items_counted w (value_in c.args.depth) c.args.room inside.cut inside.end c.in_ok-body.body.now c.in_ok-count.count c.in_ok-count.items.now c.in_ok-count.ensures in
    filled_over w c.args.at inner c.args.bounds.cut c.args.bounds.end c.args.content.now c.in_ok-body.body.now c.in_ok-body.rest.now inside (c.in_ok-list.list, c.in_ok-list.room) c.in_ok-list.left.now c.in_ok-body.ensures c.bounds_inside-inside.ensures (row ∙ c.in_ok-list.ensures) (cc (c.is_empty.ensures, c.if-not-is_empty.true))

pub list_of-returns : goal.list_of-returns
list_of-returns t c =
    let w = size_width c.args.size in
    let inside = c.bounds_inside-inside.result in
    let inner = items_in w (value_in c.args.depth) c.args.room in
    let row = items_counted w (value_in c.args.depth) c.args.room inside.cut inside.end c.in_ok-body.body.now c.in_ok-count.count c.in_ok-count.items.now c.in_ok-count.ensures in
    filled_done w c.args.at inner c.args.bounds.cut c.args.bounds.end c.args.content.now c.in_ok-body.body.now c.in_ok-body.rest.now inside (c.in_ok-list.list, c.in_ok-list.room) c.in_ok-list.left.now c.in_ok-body.ensures c.bounds_inside-inside.ensures (row ∙ c.in_ok-list.ensures) (cc (c.is_empty.ensures, c.if-not-is_empty.false))

pub map_of-returns-in_err-list : goal.map_of-returns-in_err-list
map_of-returns-in_err-list t c =
    let p = err_from_is_err_and c.from_residual-in_err-list.result c.from_residual-in_err-list.ensures.1 in
    let w = size_width c.args.size in
    let inside = c.bounds_inside-inside.result in
    let inner = entries_in w (value_in c.args.depth) c.args.room in
    let row = entries_counted w (value_in c.args.depth) c.args.room inside.cut inside.end c.in_ok-body.body.now c.in_ok-count.count c.in_ok-count.entries.now c.in_ok-count.ensures (omega arith) in
    rw (p.1, p.2) (filled_ends c.in_err-list.field-0.0 w c.args.at inner c.args.bounds.cut c.args.bounds.end c.args.content.now c.in_ok-body.body.now c.in_ok-body.rest.now inside c.in_ok-body.ensures c.bounds_inside-inside.ensures (subst (Stops c.in_err-list.field-0.0) (sym row) c.in_err-list.ensures))

pub map_of-returns-then-not-is_empty : goal.map_of-returns-then-not-is_empty
map_of-returns-then-not-is_empty t c =
    let w = size_width c.args.size in
    let inside = c.bounds_inside-inside.result in
    let inner = entries_in w (value_in c.args.depth) c.args.room in
    let row = entries_counted w (value_in c.args.depth) c.args.room inside.cut inside.end c.in_ok-body.body.now c.in_ok-count.count c.in_ok-count.entries.now c.in_ok-count.ensures (omega arith) in
    filled_over w c.args.at inner c.args.bounds.cut c.args.bounds.end c.args.content.now c.in_ok-body.body.now c.in_ok-body.rest.now inside (c.in_ok-list.list, c.in_ok-list.room) c.in_ok-list.left.now c.in_ok-body.ensures c.bounds_inside-inside.ensures (row ∙ c.in_ok-list.ensures) (cc (c.is_empty.ensures, c.if-not-is_empty.true))

pub map_of-returns : goal.map_of-returns
map_of-returns t c =
    let w = size_width c.args.size in
    let inside = c.bounds_inside-inside.result in
    let inner = entries_in w (value_in c.args.depth) c.args.room in
    let row = entries_counted w (value_in c.args.depth) c.args.room inside.cut inside.end c.in_ok-body.body.now c.in_ok-count.count c.in_ok-count.entries.now c.in_ok-count.ensures (omega arith) in
    filled_done w c.args.at inner c.args.bounds.cut c.args.bounds.end c.args.content.now c.in_ok-body.body.now c.in_ok-body.rest.now inside (c.in_ok-list.list, c.in_ok-list.room) c.in_ok-list.left.now c.in_ok-body.ensures c.bounds_inside-inside.ensures (row ∙ c.in_ok-list.ensures) (cc (c.is_empty.ensures, c.if-not-is_empty.false))

pub array_of-returns-in_err-list : goal.array_of-returns-in_err-list
array_of-returns-in_err-list t c =
    let p = err_from_is_err_and c.from_residual-in_err-list.result c.from_residual-in_err-list.ensures.1 in
    let w = size_width c.args.size in
    let inside = c.bounds_inside-inside.result in
    let inner = elements_in w (level c.args.depth) c.args.room in
    let row = elements_counted w (level c.args.depth) c.args.room inside.cut inside.end c.in_ok-body.body.now c.in_ok-count.count c.in_ok-count.shape.now (shape_data c.in_ok-shape.shape) c.in_ok-shape.room c.in_ok-shape.elements.now c.in_ok-room.room c.saturating_sub-at.result c.in_ok-count.ensures c.in_ok-shape.ensures (c.in_ok-room.ensures (element_load (shape_data c.in_ok-shape.shape)) c.element_load.ensures) (omega arith) in
    rw (p.1, p.2) (filled_ends c.in_err-list.field-0.0 w c.args.at inner c.args.bounds.cut c.args.bounds.end c.args.content.now c.in_ok-body.body.now c.in_ok-body.rest.now inside c.in_ok-body.ensures c.bounds_inside-inside.ensures (subst (Stops c.in_err-list.field-0.0) (sym row) c.in_err-list.ensures))

pub array_of-returns-then-not-is_empty : goal.array_of-returns-then-not-is_empty
array_of-returns-then-not-is_empty t c =
    let w = size_width c.args.size in
    let inside = c.bounds_inside-inside.result in
    let inner = elements_in w (level c.args.depth) c.args.room in
    let row = elements_counted w (level c.args.depth) c.args.room inside.cut inside.end c.in_ok-body.body.now c.in_ok-count.count c.in_ok-count.shape.now (shape_data c.in_ok-shape.shape) c.in_ok-shape.room c.in_ok-shape.elements.now c.in_ok-room.room c.saturating_sub-at.result c.in_ok-count.ensures c.in_ok-shape.ensures (c.in_ok-room.ensures (element_load (shape_data c.in_ok-shape.shape)) c.element_load.ensures) (omega arith) in
    filled_over w c.args.at inner c.args.bounds.cut c.args.bounds.end c.args.content.now c.in_ok-body.body.now c.in_ok-body.rest.now inside (c.in_ok-list.list, c.in_ok-list.room) c.in_ok-list.left.now c.in_ok-body.ensures c.bounds_inside-inside.ensures (row ∙ c.in_ok-list.ensures) (cc (c.is_empty.ensures, c.if-not-is_empty.true))

pub array_of-returns : goal.array_of-returns
array_of-returns t c =
    let w = size_width c.args.size in
    let inside = c.bounds_inside-inside.result in
    let inner = elements_in w (level c.args.depth) c.args.room in
    let row = elements_counted w (level c.args.depth) c.args.room inside.cut inside.end c.in_ok-body.body.now c.in_ok-count.count c.in_ok-count.shape.now (shape_data c.in_ok-shape.shape) c.in_ok-shape.room c.in_ok-shape.elements.now c.in_ok-room.room c.saturating_sub-at.result c.in_ok-count.ensures c.in_ok-shape.ensures (c.in_ok-room.ensures (element_load (shape_data c.in_ok-shape.shape)) c.element_load.ensures) (omega arith) in
    filled_done w c.args.at inner c.args.bounds.cut c.args.bounds.end c.args.content.now c.in_ok-body.body.now c.in_ok-body.rest.now inside (c.in_ok-list.list, c.in_ok-list.room) c.in_ok-list.left.now c.in_ok-body.ensures c.bounds_inside-inside.ensures (row ∙ c.in_ok-list.ensures) (cc (c.is_empty.ensures, c.if-not-is_empty.false))
