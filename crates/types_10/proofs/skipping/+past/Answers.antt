use Rattle.std.proofs.Common.{◌≡◌, ℕ, ◌-◌, ◌≤◌, true, List, ap, subst, sym, ◌∙◌, arith}
use Rattle.std.proofs.lemmas.Result.{err_from_is_err_and}
use Rattle.wire_base.specs.Reading.{Reads, made}
use Rattle.types_10.specs.Tree.{Tree}
use Rattle.types_10.specs.Kinds.{size_width, is_bare}
use Rattle.types_10.specs.Loads.{element_load}
use Rattle.types_10.specs.Reading.{Fault, IsTold, row_in, value_in, shape_in, element_in}
use Rattle.types_10.specs.Reading.{items_in, entries_in, elements_in, level}
use Rattle.types_10.specs.Skipping.{with_room, extent, each_extent, pairs_extent, front_depth, front}
use Rattle.types_10.specs.Skipping.{behind, outline, no_extent}
use Rattle.types_10.specs.declared.skipping.Front.{Front}
use Rattle.types_10.specs.declared.skipping.Outline.{Outline}
use Rattle.types_10.proofs.Filled.{items_counted, elements_counted}
use Rattle.types_10.proofs.Pasts.{found_in, so_far_goes_on, so_far_ends, so_far_done}
use Rattle.types_10.proofs.Pasts.{entries_paired, filled_past_ends, filled_past_over}
use Rattle.types_10.proofs.Pasts.{filled_past_done, front_goes_on, front_ends_at_code}
use Rattle.types_10.proofs.Pasts.{front_ends_at_descriptor, front_done, front_without_code}
use Rattle.types_10.proofs.Pasts.{element_beyond, element_told, element_found, depth_inside}
use Rattle.types_10.proofs.Pasts.{both_done, so_far_begins, alike_done, element_stays}
use Rattle.types_10.proofs.skipping.+past.Goals as goal

-- ---- so many values

pub values_past-returns-in_err-value : goal.values_past-returns-in_err-value
values_past-returns-in_err-value t c =
    let read = λ (room : ℕ). value_in c.args.depth room c.args.bounds.cut in
    let p = err_from_is_err_and c.from_residual.result c.from_residual.ensures.1 in
    rw (p.1, p.2) (so_far_ends c.in_err-value.field-0.0 read (row_in read c.args.count c.args.room c.args.bounds.end c.args.bytes.now) c.loop-done.all c.args.count c.loop-done.done c.loop-done.spare c.args.bounds.end c.loop-done.rest.now (omega arith) c.loop-done.invariant.1 c.in_err-value.ensures)

pub values_past-loop-done-preserved : goal.values_past-loop-done-preserved
values_past-loop-done-preserved t c =
    let read = λ (room : ℕ). value_in c.args.depth room c.args.bounds.cut in
    (omega arith, rw c.joined-all.ensures (so_far_goes_on read (row_in read c.args.count c.args.room c.args.bounds.end c.args.bytes.now) c.loop-done.all c.args.count c.loop-done.done c.loop-done.spare c.args.bounds.end c.loop-done.rest.now c.in_ok-value.value c.in_ok-value.left c.in_ok-value.after.now (omega arith) c.loop-done.invariant.1 c.in_ok-value.ensures))

pub values_past-returns : goal.values_past-returns
values_past-returns t c =
    let read = λ (room : ℕ). value_in c.args.depth room c.args.bounds.cut in
    so_far_done read (row_in read c.args.count c.args.room c.args.bounds.end c.args.bytes.now) c.loop-done.all c.args.count c.loop-done.done c.loop-done.spare c.args.bounds.end c.loop-done.rest.now (omega arith) c.loop-done.invariant.1

-- ---- so many elements

pub elements_past-returns-in_err-value : goal.elements_past-returns-in_err-value
elements_past-returns-in_err-value t c = λ k is.
    let read = λ (room : ℕ). element_in c.args.depth room k c.args.at c.args.bounds.cut in
    let p = err_from_is_err_and c.from_residual.result c.from_residual.ensures.1 in
    rw (p.1, p.2) (so_far_ends c.in_err-value.field-0.0 read (row_in read c.args.count c.args.room c.args.bounds.end c.args.bytes.now) c.loop-done.all c.args.count c.loop-done.done c.loop-done.spare c.args.bounds.end c.loop-done.rest.now (omega arith) (c.loop-done.invariant.1 k is) (c.in_err-value.ensures k is))

pub elements_past-loop-done-preserved : goal.elements_past-loop-done-preserved
elements_past-loop-done-preserved t c = (
  omega arith,
  λ k is.
      let read = λ (room : ℕ). element_in c.args.depth room k c.args.at c.args.bounds.cut in
      rw c.joined-all.ensures (so_far_goes_on read (row_in read c.args.count c.args.room c.args.bounds.end c.args.bytes.now) c.loop-done.all c.args.count c.loop-done.done c.loop-done.spare c.args.bounds.end c.loop-done.rest.now c.in_ok-value.value c.in_ok-value.left c.in_ok-value.after.now (omega arith) (c.loop-done.invariant.1 k is) (c.in_ok-value.ensures k is)),
)

pub elements_past-returns : goal.elements_past-returns
elements_past-returns t c = λ k is.
    let read = λ (room : ℕ). element_in c.args.depth room k c.args.at c.args.bounds.cut in
    so_far_done read (row_in read c.args.count c.args.room c.args.bounds.end c.args.bytes.now) c.loop-done.all c.args.count c.loop-done.done c.loop-done.spare c.args.bounds.end c.loop-done.rest.now (omega arith) (c.loop-done.invariant.1 k is)

-- ---- so many elements without bytes

pub alike_past-returns-then-count-eq0 : goal.alike_past-returns-then-count-eq0
alike_past-returns-then-count-eq0 t c = λ k is.
    let read = λ (room : ℕ). element_in c.args.depth room k c.args.at c.args.bounds.cut in
    let total = row_in read c.args.count c.args.room c.args.bounds.end c.args.bytes.now in
    rw c.none.ensures (so_far_done read total no_extent c.args.count 0 c.args.room c.args.bounds.end c.args.bytes.now (omega arith) (so_far_begins read c.args.count c.args.room c.args.bounds.end c.args.bytes.now))

pub alike_past-returns-in_err-first : goal.alike_past-returns-in_err-first
alike_past-returns-in_err-first t c = λ k is.
    let read = λ (room : ℕ). element_in c.args.depth room k c.args.at c.args.bounds.cut in
    let total = row_in read c.args.count c.args.room c.args.bounds.end c.args.bytes.now in
    let p = err_from_is_err_and c.from_residual.result c.from_residual.ensures.1 in
    rw (p.1, p.2) (so_far_ends c.in_err-first.field-0.0 read total no_extent c.args.count 0 c.args.room c.args.bounds.end c.args.bytes.now (omega arith) (so_far_begins read c.args.count c.args.room c.args.bounds.end c.args.bytes.now) (c.in_err-first.ensures k is))

pub alike_past-returns : goal.alike_past-returns
alike_past-returns t c = λ k is.
    let read = λ (room : ℕ). element_in c.args.depth room k c.args.at c.args.bounds.cut in
    let bare : is_bare k.1 ≡ true = sym (ap (λ (o : Outline). is_bare o.kind) is) ∙ c.requires in
    rw c.times.ensures (alike_done read c.args.count c.args.room c.args.bounds.end c.args.bytes.now c.in_ok-first.first c.in_ok-first.room c.in_ok-first.rest.now (omega arith) (c.in_ok-first.ensures k is) (λ x. element_stays k c.args.depth c.args.room c.args.at c.args.bounds.cut c.args.bounds.end c.args.bytes.now x c.in_ok-first.room c.in_ok-first.rest.now bare))

-- ---- an element

pub element_past-returns-then-front-from : goal.element_past-returns-then-front-from
element_past-returns-then-front-from t c = λ k is.
    let deep = ap (λ (o : Outline). o.front.depth) is in
    ap (made (with_room extent)) (element_beyond k.0 c.args.depth c.args.room k.1 c.args.at c.args.bounds.cut c.args.bounds.end c.args.content.now (omega (arith, deep)))

pub element_past-returns-in_err-value : goal.element_past-returns-in_err-value
element_past-returns-in_err-value t c = λ k is.
    let p = err_from_is_err_and c.from_residual.result c.from_residual.ensures.1 in
    let deep = ap (λ (o : Outline). o.front.depth) is in
    let fits : front_depth k.0 ≤ c.args.depth = omega (arith, deep) in
    let inside = depth_inside k.0 c.args.depth c.args.shape.front.count (omega arith) (ap (λ (o : Outline). o.front.count) is) fits in
    rw (p.1, p.2) (element_told c.in_err-value.field-0.0 k c.args.depth c.saturating_sub-inside.result c.args.room c.args.shape.kind c.args.at c.args.bounds.cut c.args.bounds.end c.args.content.now fits (omega (arith, inside)) (ap (λ (o : Outline). o.kind) is) c.in_err-value.ensures)

pub element_past-returns : goal.element_past-returns
element_past-returns t c = λ k is.
    let deep = ap (λ (o : Outline). o.front.depth) is in
    let fits : front_depth k.0 ≤ c.args.depth = omega (arith, deep) in
    let inside = depth_inside k.0 c.args.depth c.args.shape.front.count (omega arith) (ap (λ (o : Outline). o.front.count) is) fits in
    let same : c.behind.result ≡ behind (front k.0) c.in_ok-value.value = c.behind.ensures ∙ ap (λ (f : Front). behind f c.in_ok-value.value) (ap (λ (o : Outline). o.front) is) in
    rw same (element_found k c.args.depth c.saturating_sub-inside.result c.args.room c.args.shape.kind c.args.at c.args.bounds.cut c.args.bounds.end c.args.content.now c.in_ok-value.value c.in_ok-value.room c.in_ok-value.rest.now fits (omega (arith, inside)) (ap (λ (o : Outline). o.kind) is) c.in_ok-value.ensures)

-- ---- a constructor

pub shape_past-returns-in_err-code : goal.shape_past-returns-in_err-code
shape_past-returns-in_err-code t c =
    let p = err_from_is_err_and c.from_residual.result c.from_residual.ensures.1 in
    rw (p.1, p.2) (front_ends_at_code c.in_err-code.field-0.0 (value_in c.args.depth) (shape_in c.args.depth c.args.room c.args.bounds.cut c.args.bounds.end c.args.bytes.now) c.loop-most.front c.loop-most.most c.loop-most.spare c.args.bounds.cut c.args.bounds.end c.loop-most.rest.now (omega arith) c.in_err-code.ensures c.loop-most.invariant)

pub shape_past-returns-in_default : goal.shape_past-returns-in_default
shape_past-returns-in_default t c =
    front_done (value_in c.args.depth) (shape_in c.args.depth c.args.room c.args.bounds.cut c.args.bounds.end c.args.bytes.now) c.loop-most.front c.loop-most.most c.loop-most.spare c.args.bounds.cut c.args.bounds.end c.loop-most.rest.now c.in_ok-code.code.kind c.in_ok-code.code.at c.in_ok-code.after.now (omega arith) c.in_ok-code.ensures c.in_default.not-Described c.loop-most.invariant

pub shape_past-returns-in_err-descriptor : goal.shape_past-returns-in_err-descriptor
shape_past-returns-in_err-descriptor t c =
    let p = err_from_is_err_and c.from_residual-in_err-descriptor.result c.from_residual-in_err-descriptor.ensures.1 in
    rw (p.1, p.2) (front_ends_at_descriptor c.in_err-descriptor.field-0.0 (value_in c.args.depth) (shape_in c.args.depth c.args.room c.args.bounds.cut c.args.bounds.end c.args.bytes.now) c.loop-most.front c.loop-most.most c.loop-most.spare c.args.bounds.cut c.args.bounds.end c.loop-most.rest.now c.in_ok-code.code.at c.in_ok-code.after.now (omega arith)
    (rw c.in-Described.is at c.in_ok-code.ensures) c.in_err-descriptor.ensures c.loop-most.invariant)

pub shape_past-loop-most-preserved : goal.shape_past-loop-most-preserved
shape_past-loop-most-preserved t c =
    rw c.one_more-front.ensures (front_goes_on (value_in c.args.depth) (shape_in c.args.depth c.args.room c.args.bounds.cut c.args.bounds.end c.args.bytes.now) c.loop-most.front c.loop-most.most (c.loop-most.most - 1) c.loop-most.spare c.args.bounds.cut c.args.bounds.end c.loop-most.rest.now c.in_ok-code.code.at c.in_ok-code.after.now c.in_ok-descriptor.descriptor c.in_ok-descriptor.left c.in_ok-descriptor.after.now (omega arith)
    (rw c.in-Described.is at c.in_ok-code.ensures) c.in_ok-descriptor.ensures c.loop-most.invariant)

pub shape_past-returns : goal.shape_past-returns
shape_past-returns t c =
    front_without_code (value_in c.args.depth) (shape_in c.args.depth c.args.room c.args.bounds.cut c.args.bounds.end c.args.bytes.now) c.loop-most.front c.loop-most.most c.loop-most.spare c.args.bounds.cut c.args.bounds.end c.loop-most.rest.now (omega arith) c.loop-most.invariant

-- ---- lists

pub list_past-returns-in_err-inner : goal.list_past-returns-in_err-inner
list_past-returns-in_err-inner t c =
    let p = err_from_is_err_and c.from_residual-in_err-inner.result c.from_residual-in_err-inner.ensures.1 in
    let w = size_width c.args.size in
    let inside = c.bounds_inside-inside.result in
    let inner = items_in w (value_in c.args.depth) c.args.room in
    let row = items_counted w (value_in c.args.depth) c.args.room inside.cut inside.end c.in_ok-body.body.now c.in_ok-count.count c.in_ok-count.items.now c.in_ok-count.ensures in
    let told = subst (λ (r : Reads (List Tree × ℕ) Fault). IsTold c.in_err-inner.field-0.0 (made (with_room each_extent) r)) (sym row) c.in_err-inner.ensures in
    rw (p.1, p.2) (filled_past_ends each_extent c.in_err-inner.field-0.0 w c.args.at inner c.args.bounds.cut c.args.bounds.end c.args.content.now c.in_ok-body.body.now c.in_ok-body.rest.now inside c.in_ok-body.ensures c.bounds_inside-inside.ensures told)

pub list_past-returns-then-not-is_empty : goal.list_past-returns-then-not-is_empty
list_past-returns-then-not-is_empty t c =
    let w = size_width c.args.size in
    let inside = c.bounds_inside-inside.result in
    let inner = items_in w (value_in c.args.depth) c.args.room in
    let row = items_counted w (value_in c.args.depth) c.args.room inside.cut inside.end c.in_ok-body.body.now c.in_ok-count.count c.in_ok-count.items.now c.in_ok-count.ensures in
    filled_past_over each_extent w c.args.at inner c.args.bounds.cut c.args.bounds.end c.args.content.now c.in_ok-body.body.now c.in_ok-body.rest.now inside c.in_ok-inner.inner c.in_ok-inner.room c.in_ok-inner.left.now c.in_ok-body.ensures c.bounds_inside-inside.ensures (ap (made (with_room each_extent)) row ∙ c.in_ok-inner.ensures) (cc (c.is_empty.ensures, c.if-not-is_empty.true))

pub list_past-returns : goal.list_past-returns
list_past-returns t c =
    let w = size_width c.args.size in
    let inside = c.bounds_inside-inside.result in
    let inner = items_in w (value_in c.args.depth) c.args.room in
    let row = items_counted w (value_in c.args.depth) c.args.room inside.cut inside.end c.in_ok-body.body.now c.in_ok-count.count c.in_ok-count.items.now c.in_ok-count.ensures in
    filled_past_done each_extent w c.args.at inner c.args.bounds.cut c.args.bounds.end c.args.content.now c.in_ok-body.body.now c.in_ok-body.rest.now inside c.in_ok-inner.inner c.in_ok-inner.room c.in_ok-inner.left.now c.in_ok-body.ensures c.bounds_inside-inside.ensures (ap (made (with_room each_extent)) row ∙ c.in_ok-inner.ensures) (cc (c.is_empty.ensures, c.if-not-is_empty.false))

-- ---- maps

pub map_past-returns-in_err-inner : goal.map_past-returns-in_err-inner
map_past-returns-in_err-inner t c =
    let p = err_from_is_err_and c.from_residual-in_err-inner.result c.from_residual-in_err-inner.ensures.1 in
    let w = size_width c.args.size in
    let inside = c.bounds_inside-inside.result in
    let inner = entries_in w (value_in c.args.depth) c.args.room in
    let row = entries_paired w (value_in c.args.depth) c.args.room inside.cut inside.end c.in_ok-body.body.now c.in_ok-count.count c.in_ok-count.entries.now c.in_ok-count.ensures (omega arith) in
    let told = subst (IsTold c.in_err-inner.field-0.0) (sym row) c.in_err-inner.ensures in
    rw (p.1, p.2) (filled_past_ends pairs_extent c.in_err-inner.field-0.0 w c.args.at inner c.args.bounds.cut c.args.bounds.end c.args.content.now c.in_ok-body.body.now c.in_ok-body.rest.now inside c.in_ok-body.ensures c.bounds_inside-inside.ensures told)

pub map_past-returns-then-not-is_empty : goal.map_past-returns-then-not-is_empty
map_past-returns-then-not-is_empty t c =
    let w = size_width c.args.size in
    let inside = c.bounds_inside-inside.result in
    let inner = entries_in w (value_in c.args.depth) c.args.room in
    let row = entries_paired w (value_in c.args.depth) c.args.room inside.cut inside.end c.in_ok-body.body.now c.in_ok-count.count c.in_ok-count.entries.now c.in_ok-count.ensures (omega arith) in
    filled_past_over pairs_extent w c.args.at inner c.args.bounds.cut c.args.bounds.end c.args.content.now c.in_ok-body.body.now c.in_ok-body.rest.now inside c.in_ok-inner.inner c.in_ok-inner.room c.in_ok-inner.left.now c.in_ok-body.ensures c.bounds_inside-inside.ensures (row ∙ c.in_ok-inner.ensures) (cc (c.is_empty.ensures, c.if-not-is_empty.true))

pub map_past-returns : goal.map_past-returns
map_past-returns t c =
    let w = size_width c.args.size in
    let inside = c.bounds_inside-inside.result in
    let inner = entries_in w (value_in c.args.depth) c.args.room in
    let row = entries_paired w (value_in c.args.depth) c.args.room inside.cut inside.end c.in_ok-body.body.now c.in_ok-count.count c.in_ok-count.entries.now c.in_ok-count.ensures (omega arith) in
    filled_past_done pairs_extent w c.args.at inner c.args.bounds.cut c.args.bounds.end c.args.content.now c.in_ok-body.body.now c.in_ok-body.rest.now inside c.in_ok-inner.inner c.in_ok-inner.room c.in_ok-inner.left.now c.in_ok-body.ensures c.bounds_inside-inside.ensures (row ∙ c.in_ok-inner.ensures) (cc (c.is_empty.ensures, c.if-not-is_empty.false))

-- ---- arrays

pub array_past-returns-in_err-inner : goal.array_past-returns-in_err-inner
array_past-returns-in_err-inner t c =
    let p = err_from_is_err_and c.from_residual-in_err-inner.result c.from_residual-in_err-inner.ensures.1 in
    let w = size_width c.args.size in
    let inside = c.bounds_inside-inside.result in
    let inner = elements_in w (level c.args.depth) c.args.room in
    let k = found_in outline (shape_in c.args.depth c.args.room inside.cut inside.end c.in_ok-count.shape.now) c.in_ok-outline.outline c.in_ok-outline.room c.in_ok-outline.elements.now c.in_ok-outline.ensures in
    let room = c.in_ok-room.ensures (element_load k.0) (c.element_load.ensures k.0 (sym k.2)) in
    let row = elements_counted w (level c.args.depth) c.args.room inside.cut inside.end c.in_ok-body.body.now c.in_ok-count.count c.in_ok-count.shape.now k.0 c.in_ok-outline.room c.in_ok-outline.elements.now c.in_ok-room.room c.saturating_sub-at.result c.in_ok-count.ensures k.1 room (omega arith) in
    let told = subst (λ (r : Reads (List Tree × ℕ) Fault). IsTold c.in_err-inner.field-0.0 (made (with_room each_extent) r)) (sym row) (c.in_err-inner.ensures k.0 (sym k.2)) in
    rw (p.1, p.2) (filled_past_ends each_extent c.in_err-inner.field-0.0 w c.args.at inner c.args.bounds.cut c.args.bounds.end c.args.content.now c.in_ok-body.body.now c.in_ok-body.rest.now inside c.in_ok-body.ensures c.bounds_inside-inside.ensures told)

pub array_past-returns-then-not-is_empty : goal.array_past-returns-then-not-is_empty
array_past-returns-then-not-is_empty t c =
    let w = size_width c.args.size in
    let inside = c.bounds_inside-inside.result in
    let inner = elements_in w (level c.args.depth) c.args.room in
    let k = found_in outline (shape_in c.args.depth c.args.room inside.cut inside.end c.in_ok-count.shape.now) c.in_ok-outline.outline c.in_ok-outline.room c.in_ok-outline.elements.now c.in_ok-outline.ensures in
    let room = c.in_ok-room.ensures (element_load k.0) (c.element_load.ensures k.0 (sym k.2)) in
    let row = elements_counted w (level c.args.depth) c.args.room inside.cut inside.end c.in_ok-body.body.now c.in_ok-count.count c.in_ok-count.shape.now k.0 c.in_ok-outline.room c.in_ok-outline.elements.now c.in_ok-room.room c.saturating_sub-at.result c.in_ok-count.ensures k.1 room (omega arith) in
    filled_past_over each_extent w c.args.at inner c.args.bounds.cut c.args.bounds.end c.args.content.now c.in_ok-body.body.now c.in_ok-body.rest.now inside c.in_ok-inner.inner c.in_ok-inner.room c.in_ok-inner.left.now c.in_ok-body.ensures c.bounds_inside-inside.ensures (ap (made (with_room each_extent)) row ∙ c.in_ok-inner.ensures k.0 (sym k.2)) (cc (c.is_empty.ensures, c.if-not-is_empty.true))

pub array_past-returns : goal.array_past-returns
array_past-returns t c =
    let w = size_width c.args.size in
    let inside = c.bounds_inside-inside.result in
    let inner = elements_in w (level c.args.depth) c.args.room in
    let k = found_in outline (shape_in c.args.depth c.args.room inside.cut inside.end c.in_ok-count.shape.now) c.in_ok-outline.outline c.in_ok-outline.room c.in_ok-outline.elements.now c.in_ok-outline.ensures in
    let room = c.in_ok-room.ensures (element_load k.0) (c.element_load.ensures k.0 (sym k.2)) in
    let row = elements_counted w (level c.args.depth) c.args.room inside.cut inside.end c.in_ok-body.body.now c.in_ok-count.count c.in_ok-count.shape.now k.0 c.in_ok-outline.room c.in_ok-outline.elements.now c.in_ok-room.room c.saturating_sub-at.result c.in_ok-count.ensures k.1 room (omega arith) in
    filled_past_done each_extent w c.args.at inner c.args.bounds.cut c.args.bounds.end c.args.content.now c.in_ok-body.body.now c.in_ok-body.rest.now inside c.in_ok-inner.inner c.in_ok-inner.room c.in_ok-inner.left.now c.in_ok-body.ensures c.bounds_inside-inside.ensures (ap (made (with_room each_extent)) row ∙ c.in_ok-inner.ensures k.0 (sym k.2)) (cc (c.is_empty.ensures, c.if-not-is_empty.false))

-- ---- described values

pub deep_past-returns-in_ok-value-in-Described : goal.deep_past-returns-in_ok-value-in-Described
deep_past-returns-in_ok-value-in-Described t c =
    let d = c.in_ok-descriptor-in-Described in
    let v = c.in_ok-value-in-Described in
    rw (c.in-Described.is, c.outer-in-Described.ensures, c.joined.ensures) (both_done (λ (room : ℕ). value_in c.args.depth room c.args.bounds.cut) c.args.room c.args.bounds.end c.args.content.now d.descriptor v.value d.room v.room d.rest.now v.rest.now d.ensures v.ensures)
