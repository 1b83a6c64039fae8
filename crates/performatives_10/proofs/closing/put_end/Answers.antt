use Rattle.std.proofs.Common.{List, ℕ, ap, sym, ◌∙◌, subst}
use Rattle.performatives_10.specs.Closing.{end_text, IsWrittenOver}
use Rattle.performatives_10.specs.declared.closing.Ending.{Ending}
use Rattle.performatives_10.proofs.Frames.{end_is, close_is}
use Rattle.performatives_10.proofs.closing.put_end.Goals as goal

pub returns-in-End : goal.returns-in-End
returns-in-End c =
    let Stands : List ℕ → Type 0 = λ t. IsWrittenOver t c.args.out.now c.put_ending.new.out c.put_ending.result in
    let text : Ending → List ℕ = λ e. end_text c.args.channel e c.args.condition in
    subst Stands (end_is c.args.channel c.args.condition c.put_ending.ensures.short ∙ ap text (sym c.in-End.is)) c.put_ending.ensures.frame

pub returns-in-Close : goal.returns-in-Close
returns-in-Close c =
    let end = c.put_ending-in-Close in
    let Stands : List ℕ → Type 0 = λ t. IsWrittenOver t c.args.out.now end.new.out end.result in
    let text : Ending → List ℕ = λ e. end_text c.args.channel e c.args.condition in
    subst Stands (close_is c.args.channel c.args.condition end.ensures.short ∙ ap text (sym c.in-Close.is)) end.ensures.frame
