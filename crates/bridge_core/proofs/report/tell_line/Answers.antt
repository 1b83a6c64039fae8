use Rattle.bridge_core.proofs.OwedLines.{line_parts}
use Rattle.bridge_core.proofs.Writings.{writes_front, writes_same, writes_then}
use Rattle.bridge_core.proofs.report.tell_line.Goals as goal

pub returns-then-not-tell_number : goal.returns-then-not-tell_number
returns-then-not-tell_number g c =
    let pair = rw c.from.ensures at c.tell_number.ensures in
    writes_same _ _ _ _ _ _ _ (line_parts c.args.pair c.args.item) (writes_front _ _ _ _ _ _ _ c.if-not-tell_number.true pair)

pub returns-then-not-tell_number-2 : goal.returns-then-not-tell_number-2
returns-then-not-tell_number-2 g c =
    let pair = rw c.from.ensures at c.tell_number.ensures in
    let life = writes_front _ _ _ _ _ _ _ c.if-not-tell_number-2.true c.tell_number-2.ensures in
    writes_same _ _ _ _ _ _ _ (line_parts c.args.pair c.args.item) (writes_then _ _ _ _ _ _ _ _ _ _ c.if-not-tell_number.false pair life)

pub returns-then-not-tell_number-3 : goal.returns-then-not-tell_number-3
returns-then-not-tell_number-3 g c =
    let pair = rw c.from.ensures at c.tell_number.ensures in
    let number = rw c.what_name.ensures at c.tell_number-3.ensures in
    let behind = writes_front _ _ _ _ _ _ _ c.if-not-tell_number-3.true number in
    let life = writes_then _ _ _ _ _ _ _ _ _ _ c.if-not-tell_number-2.false c.tell_number-2.ensures behind in
    writes_same _ _ _ _ _ _ _ (line_parts c.args.pair c.args.item) (writes_then _ _ _ _ _ _ _ _ _ _ c.if-not-tell_number.false pair life)

pub returns : goal.returns
returns g c =
    let pair = rw c.from.ensures at c.tell_number.ensures in
    let number = rw c.what_name.ensures at c.tell_number-3.ensures in
    let fate = rw c.fate_name.ensures at c.tell_text.ensures in
    let behind = writes_then _ _ _ _ _ _ _ _ _ _ c.if-not-tell_number-3.false number fate in
    let life = writes_then _ _ _ _ _ _ _ _ _ _ c.if-not-tell_number-2.false c.tell_number-2.ensures behind in
    writes_same _ _ _ _ _ _ _ (line_parts c.args.pair c.args.item) (writes_then _ _ _ _ _ _ _ _ _ _ c.if-not-tell_number.false pair life)
