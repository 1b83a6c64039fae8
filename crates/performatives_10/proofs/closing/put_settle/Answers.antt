use Rattle.std.proofs.Common.{List, ℕ, Option, Some, true, ap, ◌∙◌, subst}
use Rattle.performatives_10.specs.Closing.{frame_of, state_of, settled_by, disposition_text}
use Rattle.performatives_10.specs.Closing.{IsWrittenOver}
use Rattle.performatives_10.proofs.Frames.{state_part, settle_is}
use Rattle.performatives_10.proofs.closing.put_settle.Goals as goal

pub returns : goal.returns
returns c =
    let s = c.args.state in
    let first = c.args.first in
    let text : ℕ → List ℕ = λ code. disposition_text c.args.channel 5 65 first c.last_of.result (state_part code) in
    let frame : Option ℕ → List ℕ = λ last. frame_of c.args.channel (settled_by true first last (Some (state_of s))) in
    let Stands : List ℕ → Type 0 = λ t. IsWrittenOver t c.args.out.now c.put_disposition.new.out c.put_disposition.result in
    subst Stands (ap text c.settle_code.ensures ∙ settle_is c.args.channel first c.last_of.result s c.put_disposition.ensures.short
    ∙ ap frame c.last_of.ensures) c.put_disposition.ensures.frame
