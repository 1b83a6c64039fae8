-- What is said of the values in a list or a table, said of the list's fields and the table's entries one by one.
use Rattle.std.proofs.Common.{◌≡◌, ℕ, List, [], ◌∷◌, ◌++◌, length, get_or, ◌<◌, ◌^◌, map, All, refl}
use Rattle.std.proofs.Common.{ap, arith}
use Rattle.std.specs.List.{flat_map, AllByRecursion}
use Rattle.std.proofs.lemmas.List.Folds.{length-flat_map-take}
use Rattle.std.proofs.lemmas.List.Elements.{All-from_recursion}
use Rattle.tables_091.specs.declared.field.Field.{Field}
use Rattle.tables_091.specs.Tree.{trees_of, members_of}
use Rattle.tables_091.specs.View.{field_tree, entry_member}
use Rattle.tables_091.specs.Writing.{trees_text, members_text, field_text, entry_text}
use Rattle.tables_091.specs.Writing.{TreesNamesAreShort, MembersNamesAreShort, FieldIsShort}
use Rattle.tables_091.specs.Writing.{EntryIsShort}

pub fields_text : (fs : List Field) → trees_text (trees_of (map field_tree fs)) ≡ flat_map field_text fs
fields_text [] = refl
fields_text (f ∷ fs) = ap (λ (t : List ℕ). field_text f ++ t) (fields_text fs)

pub entries_text : (es : List (List ℕ × Field)) → members_text (members_of (map entry_member es)) ≡ flat_map entry_text es
entries_text [] = refl
entries_text (e ∷ es) = ap (λ (t : List ℕ). entry_text e ++ t) (entries_text es)

fields_short : (fs : List Field) → TreesNamesAreShort (trees_of (map field_tree fs)) → AllByRecursion FieldIsShort fs
fields_short [] h = tt
fields_short (f ∷ fs) h = (h.0, fields_short fs h.1)

pub fields_are_short : (fs : List Field) → TreesNamesAreShort (trees_of (map field_tree fs)) → All FieldIsShort fs
fields_are_short fs h = All-from_recursion FieldIsShort fs (fields_short fs h)

entries_short : (es : List (List ℕ × Field)) → MembersNamesAreShort (members_of (map entry_member es)) → AllByRecursion EntryIsShort es
entries_short [] h = tt
entries_short (e ∷ es) h = ((h.0, h.1), entries_short es h.2)

pub entries_are_short : (es : List (List ℕ × Field)) → MembersNamesAreShort (members_of (map entry_member es)) → All EntryIsShort es
entries_are_short es h = All-from_recursion EntryIsShort es (entries_short es h)

-- a part of what is written is no longer than all of it
pub field_fits : (fs : List Field) (i : ℕ) (d : Field) → i < length fs → length (trees_text (trees_of (map field_tree fs))) < 2 ^ 32 → length (field_text (get_or fs i d)) < 2 ^ 32
field_fits fs i d within size = omega (arith, length-flat_map-take field_text fs i d within, ap length (fields_text fs))

pub entry_fits : (es : List (List ℕ × Field)) (i : ℕ) (d : List ℕ × Field) → i < length es → length (members_text (members_of (map entry_member es))) < 2 ^ 32 → length (entry_text (get_or es i d)) < 2 ^ 32
entry_fits es i d within size = omega (arith, length-flat_map-take entry_text es i d within, ap length (entries_text es))
