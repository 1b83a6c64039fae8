-- What is written of a performative is read back.
use Rattle.std.proofs.Common.{◌≡◌, ◌≢◌, inl, ℕ, suc, ◌+◌, Bool, true, false, List, [], ◌∷◌}
use Rattle.std.proofs.Common.{◌++◌, length, Option, Some, None, Result, Ok, refl, sym, ap, subst}
use Rattle.std.proofs.Common.{◌∙◌, arith}
use Rattle.types_10.specs.Tree.{Scalar, boolean, Tree, scalar, Trees, trees_of}
use Rattle.types_10.specs.Ranges.{IsRanged}
use Rattle.types_10.specs.Writing.{HasSpelling}
use Rattle.types_10.specs.Reading.{value_at}
use Rattle.types_10.specs.Fields.{tree_at, trim}
use Rattle.types_10.proofs.Canonical.{written_is_canonical}
use Rattle.types_10.proofs.ValueLaws.{spelled_is_read}
use Rattle.types_10.proofs.Within.{canonical_is_spelled}
use Rattle.types_10.proofs.Trimmed.{trimmed_at}
use Rattle.performatives_10.specs.Fields.{mandatory, optional, defaults, Row}
use Rattle.performatives_10.specs.Fields.{leaf_in, field_in, fields_in, leaves_in}
use Rattle.performatives_10.specs.Reading.{rows, type_in, read_of, whole, error_in, state_in}
use Rattle.performatives_10.specs.Reading.{state_read, source_in, target_in, perf_of, behind}
use Rattle.performatives_10.specs.Reading.{perf_at}
use Rattle.performatives_10.specs.View.{kind_of, fields_of, parts_of, error_tree, state_tree}
use Rattle.performatives_10.specs.View.{source_fields, target_fields, source_tree, target_tree}
use Rattle.performatives_10.specs.Rows.{source_rows, target_rows, source_code, target_code}
use Rattle.performatives_10.specs.declared.fault.PerfFault.{PerfFault}
use Rattle.performatives_10.specs.declared.performative.Source10.{Source10}
use Rattle.performatives_10.specs.declared.performative.Target10.{Target10}
use Rattle.performatives_10.specs.Writing.{is_same_boolean, written_field, written, perf_tree}
use Rattle.performatives_10.specs.Writing.{perf_text}
use Rattle.performatives_10.specs.Grammar.{Types, IsField, AreFields, AreOfTypes, HasTypes}
use Rattle.performatives_10.specs.declared.performative.Perf.{Perf}
use Rattle.performatives_10.specs.declared.performative.Error10.{Error10}
use Rattle.performatives_10.specs.declared.performative.State.{State}
use Rattle.performatives_10.specs.declared.performative.State.TheVariants as state
use Rattle.performatives_10.proofs.FieldLaws.{fields_is}
use Rattle.performatives_10.proofs.PerfLaws.{listed_is, named, ends_at, value_read}

-- ---- fields

same_is : (s : Scalar) (x : Tree) → is_same_boolean s x ≡ true → x ≡ scalar s
same_is (boolean true) (scalar (boolean true)) e = refl
same_is (boolean false) (scalar (boolean false)) e = refl
same_is s x e = absurd cc

-- what is written of a field is read as that field
field_back : (type_in : Types) (r : Row) (x : Tree) → IsField type_in r x x → IsField type_in r (written_field r.1 x) x
field_back type_in (t, mandatory) x h = h
field_back type_in (t, optional) x h = h
field_back type_in (t, defaults s) x h = step (is_same_boolean s x) refl
  where
    step : (b : Bool) → is_same_boolean s x ≡ b → IsField type_in (t, defaults s) (written_field (defaults s) x) x
    step true e = rw e (inl (refl, same_is s x e))
    step false e = rw e h

fields_back : (type_in : Types) (rs : List Row) (xs : List Tree) (k : ℕ) (ts : Trees) → AreOfTypes type_in rs xs
    → ((i : ℕ) → tree_at ts (k + i) ≡ tree_at (trees_of (written rs xs)) i) → AreFields type_in rs k ts xs
fields_back type_in [] xs k ts h at = h
fields_back type_in (r ∷ rs) [] k ts h at = absurd h
fields_back type_in (r ∷ rs) (x ∷ xs) k ts (one, more) at =
    let none : k + 0 ≡ k = omega arith in
    let first : tree_at ts k ≡ written_field r.1 x = ap (tree_at ts) (sym none) ∙ at 0 in
    let next : (i : ℕ) → (k + 1) + i ≡ k + suc i = λ i. omega arith in
    let rest : (i : ℕ) → tree_at ts ((k + 1) + i) ≡ tree_at (trees_of (written rs xs)) i = λ i. ap (tree_at ts) (next i) ∙ at (suc i) in
    (x, xs, refl, subst (λ (t : Tree). IsField type_in r t x) (sym first) (field_back type_in r x one), fields_back type_in rs xs (k + 1) ts more rest)

-- the fields that were trimmed
list_back : (type_in : Types) (rs : List Row) (xs : List Tree) → AreOfTypes type_in rs xs → fields_in type_in rs 0 (trees_of (trim (written rs xs))) ≡ Ok xs
list_back type_in rs xs h =
    fields_is type_in rs 0 (trees_of (trim (written rs xs))) xs (fields_back type_in rs xs 0 (trees_of (trim (written rs xs))) h
    (λ i. let none : 0 + i ≡ i = omega arith in ap (tree_at (trees_of (trim (written rs xs)))) none ∙ trimmed_at (written rs xs) i))

-- ---- performatives

pub perf_back : (p : Perf) (rest : List ℕ) → HasTypes p → IsRanged (perf_tree p) → HasSpelling (perf_tree p)
    → perf_at (perf_text p ++ rest) ≡ Ok (parts_of p, length (perf_text p))
perf_back p rest types r h =
    let t = perf_tree p in
    let k = kind_of p in
    let none : 0 + length (perf_text p) ≡ length (perf_text p) = omega arith in
    let read : value_at (perf_text p ++ rest) 0 ≡ value_read t (length (perf_text p)) =
    spelled_is_read (perf_text p ++ rest) 0 t (perf_text p) rest (canonical_is_spelled t (perf_text p) (written_is_canonical t r h)) refl ∙ ap (value_read t) none in
    let fields = list_back type_in (rows k) (fields_of p) types in
    let is : perf_of t ≡ Ok (parts_of p) =
    listed_is k (trees_of (trim (written (rows k) (fields_of p)))) ∙ ap (named k) fields in
    ap behind read ∙ ap (ends_at (length (perf_text p))) is

-- ---- errors, states and termini

error_of : List ℕ → Option (List ℕ) → Error10
error_of c d = record { condition = c; description = d }

error_back_by : (c : List ℕ) (d : Option (List ℕ)) → error_in (error_tree (record { condition = c; description = d })) ≡ Some (error_tree (record { condition = c; description = d }))
unfolding error_in leaf_in field_in
error_back_by c None = refl
error_back_by c (Some s) = refl

pub error_back : (e : Error10) → error_in (error_tree e) ≡ Some (error_tree e)
error_back e = error_back_by e.condition e.description

pub state_back : (s : State) → s ≢ state.Received → state_in (state_tree s) ≡ Some (state_tree s)
unfolding state_in state_read leaf_in field_in
state_back state.Received h = absurd (h refl)
state_back state.Accepted h = refl
state_back (state.Rejected None) h = refl
state_back (state.Rejected (Some e)) h = rw (error_back e) refl
state_back state.Released h = refl
state_back state.Modified h = refl

pub source_back : (s : Source10) → AreOfTypes leaves_in source_rows (source_fields s) → source_in (source_tree s) ≡ Some (source_tree s)
unfolding source_in
source_back s h = ap (λ (r : Result (List Tree) PerfFault). read_of (whole source_code r)) (list_back leaves_in source_rows (source_fields s) h)

pub target_back : (s : Target10) → AreOfTypes leaves_in target_rows (target_fields s) → target_in (target_tree s) ≡ Some (target_tree s)
unfolding target_in
target_back s h = ap (λ (r : Result (List Tree) PerfFault). read_of (whole target_code r)) (list_back leaves_in target_rows (target_fields s) h)
