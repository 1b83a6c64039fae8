use Rattle.std.proofs.Common.{◌≡◌, Some, None, slice_get}
use Rattle.std.proofs.lemmas.Option.{slice_get-map}
use Rattle.gate_outside.specs.Marks.{entry_at}
use Rattle.gate_outside.proofs.MarkLemmas.{AreWithin-get}
use Rattle.gate_outside.proofs.log.Log.copy.Goals as goal

pub copied_entry-requires : goal.copied_entry-requires
copied_entry-requires c =
    let there : slice_get c.self.inside.marks.items c.args.k ≡ Some c.in-Some.mark = cc in
    rw c.as_slice-in-Some.ensures.value (AreWithin-get _ _ c.args.k _ c.self.invariant.within there)

pub returns-in_ok-entry-in-Some : goal.returns-in_ok-entry-in-Some
returns-in_ok-entry-in-Some c =
    let there : slice_get c.self.inside.marks.items c.args.k ≡ Some c.in-Some.mark = cc in
    let mapped = slice_get-map (entry_at c.self.inside.bytes.items) c.self.inside.marks.items c.args.k in
    rw (← c.self.view_is, mapped, there) (cc (c.in_ok-entry-in-Some.ensures))

pub returns-in-None : goal.returns-in-None
returns-in-None c =
    let there : slice_get c.self.inside.marks.items c.args.k ≡ None = cc in
    let mapped = slice_get-map (entry_at c.self.inside.bytes.items) c.self.inside.marks.items c.args.k in
    rw (← c.self.view_is, mapped, there)
