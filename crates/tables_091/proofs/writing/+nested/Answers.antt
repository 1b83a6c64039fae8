use Rattle.std.proofs.Common.{ℕ, ◌<◌, ◌^◌, List, length, subst, sym, ap, arith}
use Rattle.std.proofs.lemmas.Result.{err_from_is_err_and}
use Rattle.std.proofs.lemmas.Grind.{common_steps}
use denote.Param.Weighed.{at_most}
use Rattle.wire_base.proofs.Outputs.{still_there}
use Rattle.tables_091.specs.declared.field.Field.{Field}
use Rattle.tables_091.specs.declared.field.FieldList.TheDeep.{size-Field}
use Rattle.tables_091.specs.declared.field.FieldList.TheShapes.{weighed-Table-entries-at-2}
use Rattle.tables_091.specs.Writing.{field_text, entry_text, FieldIsShort, EntryIsShort}
use Rattle.tables_091.proofs.Lists.{fields_text, entries_text, fields_are_short, entries_are_short}
use Rattle.tables_091.proofs.Lists.{field_fits, entry_fits}
use Rattle.tables_091.proofs.writing.+nested.Goals as goal

pub put_fields-put_field-requires : goal.put_fields-put_field-requires
put_fields-put_field-requires t c =
    let fs = c.args.fields.now in
    let i = c.loop-field.field-index in
    let f = c.field-item.result in (
      omega (arith, c.decreases, at_most size-Field fs i f c.loop-field-test.true, ap size-Field c.field-item.is),
      (
        subst FieldIsShort (sym c.field-item.is) (fields_are_short fs c.requires.names i f c.loop-field-test.true),
        subst (λ (g : Field). length (field_text g) < 2 ^ 32) (sym c.field-item.is) (field_fits fs i f c.loop-field-test.true c.requires.size),
      ),
    )

pub put_fields-returns-in_err-put_field-clause-err : goal.put_fields-returns-in_err-put_field-clause-err
put_fields-returns-in_err-put_field-clause-err t c =
    let p = err_from_is_err_and c.from_residual.result c.from_residual.ensures.1 in
    rw p.1 (still_there c.args.out.now c.loop-field.out c.put_field.new.out _ c.loop-field.invariant c.in_err-put_field.ensures.err)

pub put_entries-put_entry-requires : goal.put_entries-put_entry-requires
put_entries-put_entry-requires t c =
    let es = c.args.entries.now in
    let i = c.loop-entry.entry-index in
    let e = c.entry-item.result in (
      omega (arith, c.decreases, at_most (weighed-Table-entries-at-2.weight Field size-Field) es i e c.loop-entry-test.true, ap (weighed-Table-entries-at-2.weight Field size-Field) c.entry-item.is),
      (
        subst EntryIsShort (sym c.entry-item.is) (entries_are_short es c.requires.names i e c.loop-entry-test.true),
        subst (λ (g : List ℕ × Field). length (entry_text g) < 2 ^ 32) (sym c.entry-item.is) (entry_fits es i e c.loop-entry-test.true c.requires.size),
      ),
    )

pub put_entries-returns-in_err-put_entry-clause-err : goal.put_entries-returns-in_err-put_entry-clause-err
put_entries-returns-in_err-put_entry-clause-err t c =
    let p = err_from_is_err_and c.from_residual.result c.from_residual.ensures.1 in
    rw p.1 (still_there c.args.out.now c.loop-entry.out c.put_entry.new.out _ c.loop-entry.invariant c.in_err-put_entry.ensures.err)

pub put_fields-returns-clause-ok : goal.put_fields-returns-clause-ok
put_fields-returns-clause-ok t c = grind (arith, common_steps, fields_text c.args.fields.now)

pub put_entries-returns-clause-ok : goal.put_entries-returns-clause-ok
put_entries-returns-clause-ok t c = grind (arith, common_steps, entries_text c.args.entries.now)
