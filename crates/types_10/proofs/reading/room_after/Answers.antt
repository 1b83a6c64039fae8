use Rattle.std.proofs.Common.{◌≡◌, ℕ, ◌*◌, ap, ◌∙◌, arith}
use Rattle.types_10.specs.Measures.{capped}
use Rattle.types_10.proofs.Capped.{none_left, some_left}
use Rattle.types_10.proofs.reading.room_after.Goals as goal

pub returns-then-load-room : goal.returns-then-load-room
returns-then-load-room c = λ e each.
    let load : c.saturating_mul-load.result ≡ capped (c.args.count * capped e) = c.saturating_mul-load.ensures ∙ ap (λ (e : ℕ). capped (c.args.count * e)) each in
    none_left c.args.cut c.args.room c.args.count e (omega arith) (omega arith)

pub returns : goal.returns
returns c = λ e each.
    let load : c.saturating_mul-load.result ≡ capped (c.args.count * capped e) = c.saturating_mul-load.ensures ∙ ap (λ (e : ℕ). capped (c.args.count * e)) each in
    rw load (some_left c.args.cut c.args.room c.args.count e (omega arith) (omega arith))
