-- The fields of some rows and then of others are the fields of all of them.
use Rattle.std.proofs.Common.{◌≡◌, ◌+◌, ℕ, List, [], ◌∷◌, ◌++◌, length, Result, Ok, Err, ap}
use Rattle.std.proofs.Common.{◌∙◌, refl, arith}
use Rattle.wire_base.specs.Reading.{◌>>=◌, Stops}
use Rattle.wire_base.specs.declared.stop.Stop.{Stop}
use Rattle.wire_base.specs.declared.stop.Stop.TheVariants as stop
use Rattle.types_10.specs.Tree.{Tree, Trees}
use Rattle.sections_10.specs.Fields.{Row, fields_in, field_at}
use Rattle.sections_10.specs.Rows.{properties_rows}
use Rattle.sections_10.specs.Parts.{route_rows, content_rows, group_rows}

abbrev Fields : Type 0
Fields = Result (List Tree) (Unit {0})

abbrev with_first : Result Tree (Unit {0}) → Fields → Fields
with_first first others = first >>= λ x. others >>= λ xs. Ok (x ∷ xs)

abbrev joined : Fields → Fields → Fields
joined front rest = front >>= λ xs. rest >>= λ ys. Ok (xs ++ ys)

no_front : (rest : Fields) → rest ≡ joined (Ok []) rest
no_front (Ok ys) = refl
no_front (Err e) = refl

one_more : (first : Result Tree (Unit {0})) (front rest : Fields) → with_first first (joined front rest) ≡ joined (with_first first front) rest
one_more (Err e) front rest = refl
one_more (Ok x) (Err e) rest = refl
one_more (Ok x) (Ok xs) (Err e) = refl
one_more (Ok x) (Ok xs) (Ok ys) = refl

split_in : (front rest : List Row) (k : ℕ) (ts : Trees) → fields_in (front ++ rest) k ts ≡ joined (fields_in front k ts) (fields_in rest (k + length front) ts)
split_in [] rest k ts =
    let here : k ≡ k + 0 = omega arith in
    ap (λ (i : ℕ). fields_in rest i ts) here ∙ no_front (fields_in rest (k + 0) ts)
split_in (r ∷ front) rest k ts =
    let place : (k + 1) + length front ≡ k + length (r ∷ front) = omega arith in
    ap (with_first (field_at r k ts)) (split_in front rest (k + 1) ts)
    ∙ one_more (field_at r k ts) (fields_in front (k + 1) ts) (fields_in rest ((k + 1) + length front) ts)
    ∙ ap (λ (i : ℕ). joined (fields_in (r ∷ front) k ts) (fields_in rest i ts)) place

-- the fields of properties, part by part
in_parts : (ts : Trees) → fields_in properties_rows 0 ts ≡ joined (fields_in route_rows 0 ts) (joined (fields_in content_rows 5 ts) (fields_in group_rows 10 ts))
in_parts ts =
    split_in route_rows (content_rows ++ group_rows) 0 ts
    ∙ ap (joined (fields_in route_rows 0 ts)) (split_in content_rows group_rows 5 ts)

all_read : (a b c : Fields) (xs ys zs : List Tree) → a ≡ Ok xs → b ≡ Ok ys → c ≡ Ok zs → joined a (joined b c) ≡ Ok (xs ++ (ys ++ zs))
all_read a b c xs ys zs p q r = rw (p, q, r) refl

pub parts_read : (ts : Trees) (xs ys zs : List Tree) → fields_in route_rows 0 ts ≡ Ok xs → fields_in content_rows 5 ts ≡ Ok ys → fields_in group_rows 10 ts ≡ Ok zs
    → fields_in properties_rows 0 ts ≡ Ok (xs ++ (ys ++ zs))
parts_read ts xs ys zs p q r = in_parts ts ∙ all_read (fields_in route_rows 0 ts) (fields_in content_rows 5 ts) (fields_in group_rows 10 ts) xs ys zs p q r

-- the first part that isn't read stops all
first_stops : (e : Stop (Unit {0})) (r a b : Fields) → r ≡ joined a b → Stops e a → Stops e r
first_stops stop.Memory r a b is p = tt
first_stops (stop.Fault f) r a b is p = is ∙ ap (λ (x : Fields). joined x b) p

later_stops : (e : Stop (Unit {0})) (r a b : Fields) (xs : List Tree) → r ≡ joined a b → a ≡ Ok xs → Stops e b → Stops e r
later_stops stop.Memory r a b xs is p q = tt
later_stops (stop.Fault f) r a b xs is p q = is ∙ ap (λ (x : Fields). joined x b) p ∙ ap (joined (Ok xs)) q

pub route_stops : (e : Stop (Unit {0})) (ts : Trees) → Stops e (fields_in route_rows 0 ts) → Stops e (fields_in properties_rows 0 ts)
route_stops e ts p = first_stops e (fields_in properties_rows 0 ts) (fields_in route_rows 0 ts) (joined (fields_in content_rows 5 ts) (fields_in group_rows 10 ts)) (in_parts ts) p

pub content_stops : (e : Stop (Unit {0})) (ts : Trees) (xs : List Tree) → fields_in route_rows 0 ts ≡ Ok xs → Stops e (fields_in content_rows 5 ts) → Stops e (fields_in properties_rows 0 ts)
content_stops e ts xs p q =
    let rest = joined (fields_in content_rows 5 ts) (fields_in group_rows 10 ts) in
    later_stops e (fields_in properties_rows 0 ts) (fields_in route_rows 0 ts) rest xs (in_parts ts) p
    (first_stops e rest (fields_in content_rows 5 ts) (fields_in group_rows 10 ts) refl q)

pub group_stops : (e : Stop (Unit {0})) (ts : Trees) (xs ys : List Tree) → fields_in route_rows 0 ts ≡ Ok xs → fields_in content_rows 5 ts ≡ Ok ys → Stops e (fields_in group_rows 10 ts)
    → Stops e (fields_in properties_rows 0 ts)
group_stops e ts xs ys p q h =
    let rest = joined (fields_in content_rows 5 ts) (fields_in group_rows 10 ts) in
    later_stops e (fields_in properties_rows 0 ts) (fields_in route_rows 0 ts) rest xs (in_parts ts) p
    (later_stops e rest (fields_in content_rows 5 ts) (fields_in group_rows 10 ts) ys refl q h)
