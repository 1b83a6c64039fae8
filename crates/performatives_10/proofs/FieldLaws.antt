-- Fields are read exactly where they are what their rows say, and else the first that is at fault is told.
use Rattle.std.proofs.Common.{◌≡◌, ◌≢◌, inl, inr, ℕ, ◌+◌, Bool, true, false, List, [], ◌∷◌, Option}
use Rattle.std.proofs.Common.{Some, None, Result, Ok, Err, refl, sym, ap, ◌∙◌}
use Rattle.wire_base.specs.Reading.{◌>>=◌}
use Rattle.types_10.specs.Tree.{Tree, Trees}
use Rattle.types_10.specs.Fields.{absent, is_absent, tree_at}
use Rattle.performatives_10.specs.Fields.{Need, mandatory, optional, defaults, Row}
use Rattle.performatives_10.specs.Fields.{typed, filled, field_in, fields_in}
use Rattle.performatives_10.specs.Grammar.{Types, IsFilled, IsField, AreFields, IsFieldFault}
use Rattle.performatives_10.specs.Grammar.{IsFirstFault}
use Rattle.performatives_10.specs.declared.fault.PerfFault.{PerfFault}
use Rattle.performatives_10.specs.declared.fault.PerfFault.TheVariants as fault
use Rattle.types_10.proofs.Trimmed.{absent_is}

-- ---- one field

pub field_absent : (need : Need) (k : ℕ) (t : Tree) (read : Option Tree) → is_absent t ≡ true → field_in need k t read ≡ filled need k
unfolding field_in
field_absent need k t read e = rw e refl

pub field_there : (need : Need) (k : ℕ) (t : Tree) (read : Option Tree) → is_absent t ≡ false → field_in need k t read ≡ typed k read
unfolding field_in
field_there need k t read e = rw e refl

there_is : (t : Tree) → is_absent t ≡ false → t ≢ absent
there_is t e same = let yes_it_is : is_absent t ≡ true = ap is_absent same in absurd cc

not_absent : (t : Tree) → t ≢ absent → is_absent t ≡ false
not_absent t some = step (is_absent t) refl
  where
    step : (b : Bool) → is_absent t ≡ b → is_absent t ≡ false
    step true e = absurd (some (absent_is t e))
    step false e = e

filled_ok : (need : Need) (k : ℕ) (x : Tree) → filled need k ≡ Ok x → IsFilled need x
filled_ok mandatory k x e = absurd cc
filled_ok optional k x e = cc
filled_ok (defaults s) k x e = cc

filled_err : (need : Need) (k : ℕ) (e : PerfFault) → filled need k ≡ Err e → (need ≡ mandatory) × (e ≡ fault.Missing k)
filled_err mandatory k e h = (refl, cc)
filled_err optional k e h = absurd cc
filled_err (defaults s) k e h = absurd cc

filled_is : (need : Need) (k : ℕ) (x : Tree) → IsFilled need x → filled need k ≡ Ok x
filled_is mandatory k x e = absurd e
filled_is optional k x e = rw e refl
filled_is (defaults s) k x e = rw e refl

typed_ok : (k : ℕ) (read : Option Tree) (x : Tree) → typed k read ≡ Ok x → read ≡ Some x
typed_ok k (Some y) x e = cc
typed_ok k None x e = absurd cc

typed_err : (k : ℕ) (read : Option Tree) (e : PerfFault) → typed k read ≡ Err e → (read ≡ None) × (e ≡ fault.WrongType k)
typed_err k (Some y) e h = absurd cc
typed_err k None e h = (refl, cc)

field_ok : (type_in : Types) (r : Row) (k : ℕ) (t x : Tree) → field_in r.1 k t (type_in r.0 t) ≡ Ok x → IsField type_in r t x
field_ok type_in r k t x h = step (is_absent t) refl
  where
    step : (b : Bool) → is_absent t ≡ b → IsField type_in r t x
    step true e = inl (absent_is t e, filled_ok r.1 k x (sym (field_absent r.1 k t (type_in r.0 t) e) ∙ h))
    step false e = inr (there_is t e, typed_ok k (type_in r.0 t) x (sym (field_there r.1 k t (type_in r.0 t) e) ∙ h))

field_err : (type_in : Types) (r : Row) (k : ℕ) (t : Tree) (f : PerfFault) → field_in r.1 k t (type_in r.0 t) ≡ Err f → IsFieldFault type_in r k t f
field_err type_in r k t f h = step (is_absent t) refl
  where
    step : (b : Bool) → is_absent t ≡ b → IsFieldFault type_in r k t f
    step true e =
        let is = filled_err r.1 k f (sym (field_absent r.1 k t (type_in r.0 t) e) ∙ h) in
        inl (absent_is t e, is.0, is.1)
    step false e =
        let is = typed_err k (type_in r.0 t) f (sym (field_there r.1 k t (type_in r.0 t) e) ∙ h) in
        inr (there_is t e, is.0, is.1)

field_is : (type_in : Types) (r : Row) (k : ℕ) (t x : Tree) → IsField type_in r t x → field_in r.1 k t (type_in r.0 t) ≡ Ok x
field_is type_in r k t x (inl (e, h)) = field_absent r.1 k t (type_in r.0 t) (ap is_absent e) ∙ filled_is r.1 k x h
field_is type_in r k t x (inr (e, h)) = field_there r.1 k t (type_in r.0 t) (not_absent t e) ∙ ap (typed k) h

-- ---- all fields

pub fields_ok : (type_in : Types) (rs : List Row) (k : ℕ) (ts : Trees) (xs : List Tree) → fields_in type_in rs k ts ≡ Ok xs → AreFields type_in rs k ts xs
fields_ok type_in [] k ts xs h = cc
fields_ok type_in (r ∷ rs) k ts xs h =
    step (field_in r.1 k (tree_at ts k) (type_in r.0 (tree_at ts k))) (fields_in type_in rs (k + 1) ts) refl (fields_ok type_in rs (k + 1) ts) h
  where
    step : (one : Result Tree PerfFault) (more : Result (List Tree) PerfFault) → field_in r.1 k (tree_at ts k) (type_in r.0 (tree_at ts k)) ≡ one
        → ((ys : List Tree) → more ≡ Ok ys → AreFields type_in rs (k + 1) ts ys)
        → (one >>= λ y. more >>= λ ys. Ok (y ∷ ys)) ≡ Ok xs → AreFields type_in (r ∷ rs) k ts xs
    step (Ok y) (Ok ys) is so e = (y, ys, cc, field_ok type_in r k (tree_at ts k) y is, so ys refl)
    step (Ok y) (Err f) is so e = absurd cc
    step (Err f) more is so e = absurd cc

pub fields_err : (type_in : Types) (rs : List Row) (k : ℕ) (ts : Trees) (f : PerfFault) → fields_in type_in rs k ts ≡ Err f → IsFirstFault type_in rs k ts f
fields_err type_in [] k ts f h = absurd cc
fields_err type_in (r ∷ rs) k ts f h =
    step (field_in r.1 k (tree_at ts k) (type_in r.0 (tree_at ts k))) (fields_in type_in rs (k + 1) ts) refl (fields_err type_in rs (k + 1) ts) h
  where
    step : (one : Result Tree PerfFault) (more : Result (List Tree) PerfFault) → field_in r.1 k (tree_at ts k) (type_in r.0 (tree_at ts k)) ≡ one
        → ((g : PerfFault) → more ≡ Err g → IsFirstFault type_in rs (k + 1) ts g)
        → (one >>= λ y. more >>= λ ys. Ok (y ∷ ys)) ≡ Err f → IsFirstFault type_in (r ∷ rs) k ts f
    step (Ok y) (Ok ys) is so e = absurd cc
    step (Ok y) (Err g) is so e = inr (y, field_ok type_in r k (tree_at ts k) y is, so f cc)
    step (Err g) more is so e = inl (field_err type_in r k (tree_at ts k) f (is ∙ cc))

pub fields_is : (type_in : Types) (rs : List Row) (k : ℕ) (ts : Trees) (xs : List Tree) → AreFields type_in rs k ts xs → fields_in type_in rs k ts ≡ Ok xs
fields_is type_in [] k ts xs h = rw h refl
fields_is type_in (r ∷ rs) k ts xs (y, ys, e, one, more) =
    let first = field_is type_in r k (tree_at ts k) y one in
    let others = fields_is type_in rs (k + 1) ts ys more in
    rw (first, others, e) refl

-- the fault of a field has a place
pub fault_places : (P : PerfFault → Type 0) (type_in : Types) (rs : List Row) (k : ℕ) (ts : Trees) (e : PerfFault) → IsFirstFault type_in rs k ts e
    → ((at : ℕ) → e ≡ fault.Missing at → P e) → ((at : ℕ) → e ≡ fault.WrongType at → P e) → P e
fault_places P type_in [] k ts e h m w = absurd h
fault_places P type_in (r ∷ rs) k ts e (inl (inl (a, n, is))) m w = m k is
fault_places P type_in (r ∷ rs) k ts e (inl (inr (a, n, is))) m w = w k is
fault_places P type_in (r ∷ rs) k ts e (inr (x, one, more)) m w = fault_places P type_in rs (k + 1) ts e more m w
