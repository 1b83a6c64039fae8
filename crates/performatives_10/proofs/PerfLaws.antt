-- A performative is read exactly where bytes begin with one, and else the first fault is told.
use Rattle.std.proofs.Common.{◌≡◌, ◌↔◌, ◌⊎◌, inl, inr, ℕ, Bool, true, false, cond, eqb, List, []}
use Rattle.std.proofs.Common.{◌∷◌, Option, Some, None, Result, Ok, Err, IfOk, IfErr, refl, sym, ap}
use Rattle.std.proofs.Common.{subst, ◌∙◌}
use Rattle.std.specs.Prelude.{IsOkAnd}
use Rattle.std.proofs.lemmas.Bool.{eqb-true}
use Rattle.wire_base.specs.Bytes.{IsBytes}
use Rattle.wire_base.specs.Spelling.{StandsAt}
use Rattle.wire_base.specs.Reading.{◌>>=◌}
use Rattle.types_10.specs.Tree.{Tree, scalar, ulong, list, described, Trees}
use Rattle.types_10.specs.Grammar.{IsValue}
use Rattle.types_10.specs.Reading.{Fault, value_at}
use Rattle.types_10.proofs.FaultLaws.{fault_is_first}
use Rattle.types_10.proofs.ValueLaws.{value_is_read}
use Rattle.performatives_10.specs.Fields.{fields_in}
use Rattle.performatives_10.specs.Composites.{if_some, ulong_of, list_of, described_list}
use Rattle.performatives_10.specs.Rows.{kinds}
use Rattle.performatives_10.specs.Reading.{Parts, code_of, rows, type_in, perf_in, first_with}
use Rattle.performatives_10.specs.Reading.{kind_with, known_in, listed_in, perf_of, behind, perf_at}
use Rattle.performatives_10.specs.Reading.{seen}
use Rattle.performatives_10.specs.View.{parts_of}
use Rattle.performatives_10.specs.Grammar.{IsListed, IsParts, IsPerfAt, IsFirstFault, HasFieldFault}
use Rattle.performatives_10.specs.Grammar.{IsPerfFault}
use Rattle.performatives_10.specs.declared.fault.PerfFault.{PerfFault}
use Rattle.performatives_10.specs.declared.fault.PerfFault.TheVariants as fault
use Rattle.performatives_10.specs.declared.kind.PerfKind.{PerfKind}
use Rattle.performatives_10.specs.declared.kind.PerfKind.TheVariants as row
use Rattle.performatives_10.specs.declared.performative.Perf.{Perf}
use Rattle.performatives_10.proofs.FieldLaws.{fields_ok, fields_err, fields_is, fault_places}

-- ---- described lists

ulong_is : (t : Tree) (n : ℕ) → ulong_of t ≡ Some n → t ≡ scalar (ulong n)
ulong_is (scalar (ulong m)) n e = let same : m ≡ n = cc in rw same refl
ulong_is t n e = absurd cc

list_is : (t : Tree) (ts : Trees) → list_of t ≡ Some ts → t ≡ list ts
list_is (list us) ts e = let same : us ≡ ts = cc in rw same refl
list_is t ts e = absurd cc

abbrev listed : ℕ → Trees → ℕ × Trees
listed n ts = (n, ts)

abbrev both : Option ℕ → Option Trees → Option (ℕ × Trees)
both a b = if_some a (λ n. if_some b (λ ts. Some (n, ts)))

described_is : (t : Tree) (n : ℕ) (ts : Trees) → described_list t ≡ Some (n, ts) → t ≡ described (scalar (ulong n)) (list ts)
described_is (described d u) n ts e = step (ulong_of d) refl (list_of u) refl e
  where
    step : (a : Option ℕ) → ulong_of d ≡ a → (b : Option Trees) → list_of u ≡ b → both a b ≡ Some (n, ts)
        → described d u ≡ described (scalar (ulong n)) (list ts)
    step (Some m) p (Some us) q h =
        let pair : listed m us ≡ listed n ts = cc in
        let code : m ≡ n = ap (λ (c : ℕ × Trees). c.0) pair in
        let fields : us ≡ ts = ap (λ (c : ℕ × Trees). c.1) pair in
        rw (ulong_is d m p, list_is u us q, code, fields) refl
    step (Some m) p None q h = absurd cc
    step None p b q h = absurd cc
described_is t n ts e = absurd cc

-- ---- codes

first_is : (ks : List PerfKind) (n : ℕ) (k : PerfKind) → first_with ks n ≡ Some k → n ≡ code_of k
first_is [] n k e = absurd cc
first_is (j ∷ ks) n k e = step (eqb n (code_of j)) refl e (first_is ks n k)
  where
    step : (b : Bool) → eqb n (code_of j) ≡ b → cond b (Some j) (first_with ks n) ≡ Some k → (first_with ks n ≡ Some k → n ≡ code_of k) → n ≡ code_of k
    step true p h later = let same : j ≡ k = cc in eqb-true n (code_of j) p ∙ ap code_of same
    step false p h later = later h

kind_is : (n : ℕ) (k : PerfKind) → kind_with n ≡ Some k → n ≡ code_of k
unfolding kind_with
kind_is n k e = first_is kinds n k e

pub kind_known : (k : PerfKind) → kind_with (code_of k) ≡ Some k
unfolding kind_with
kind_known row.Open = refl
kind_known row.Begin = refl
kind_known row.Attach = refl
kind_known row.Flow = refl
kind_known row.Transfer = refl
kind_known row.Disposition = refl
kind_known row.Detach = refl
kind_known row.End = refl
kind_known row.Close = refl
kind_known row.SaslMechanisms = refl
kind_known row.SaslInit = refl
kind_known row.SaslChallenge = refl
kind_known row.SaslResponse = refl
kind_known row.SaslOutcome = refl

-- ---- one value

-- a list of some kind is read as its fields
pub listed_is : (k : PerfKind) (ts : Trees) → perf_of (described (scalar (ulong (code_of k))) (list ts)) ≡ perf_in k ts
unfolding perf_of
listed_is k ts = ap (λ (o : Option PerfKind). known_in o ts) (kind_known k)

abbrev pub named : PerfKind → Result (List Tree) PerfFault → Result Parts PerfFault
named k read = read >>= λ xs. Ok (k, xs)

with_kind : (k : PerfKind) (read : Result (List Tree) PerfFault) (p : Parts) → named k read ≡ Ok p → (k ≡ p.0) × (read ≡ Ok p.1)
with_kind k (Ok xs) p h = let same : (k, xs) ≡ p = cc in (ap (λ (q : Parts). q.0) same, ap (λ (q : Parts). Ok q.1) same)
with_kind k (Err e) p h = absurd cc

without_kind : (k : PerfKind) (read : Result (List Tree) PerfFault) (e : PerfFault) → named k read ≡ Err e → read ≡ Err e
without_kind k (Ok xs) e h = absurd cc
without_kind k (Err f) e h = let same : f ≡ e = cc in rw same refl

-- what was read of a value: its row and its fields
value_ok : (t : Tree) (p : Parts) → perf_of t ≡ Ok p → IsParts p t
unfolding perf_of
value_ok t p h = step (described_list t) refl h
  where
    found : (n : ℕ) (ts : Trees) (o : Option PerfKind) → described_list t ≡ Some (n, ts) → kind_with n ≡ o → known_in o ts ≡ Ok p → IsParts p t
    found n ts None d w h = absurd cc
    found n ts (Some k) d w h =
        let parts = with_kind k (fields_in type_in (rows k) 0 ts) p h in
        let code : n ≡ code_of p.0 = kind_is n k w ∙ ap code_of parts.0 in
        let fields : fields_in type_in (rows p.0) 0 ts ≡ Ok p.1 = subst (λ (j : PerfKind). fields_in type_in (rows j) 0 ts ≡ Ok p.1) parts.0 parts.1 in
        (ts, described_is t n ts d ∙ ap (λ (m : ℕ). described (scalar (ulong m)) (list ts)) code, fields_ok type_in (rows p.0) 0 ts p.1 fields)

    step : (o : Option (ℕ × Trees)) → described_list t ≡ o → listed_in o ≡ Ok p → IsParts p t
    step None d h = absurd cc
    step (Some (n, ts)) d h = found n ts (kind_with n) d refl h

value_is : (t : Tree) (p : Parts) → IsParts p t → perf_of t ≡ Ok p
value_is t p (ts, e, fields) =
    ap perf_of e ∙ listed_is p.0 ts ∙ ap (named p.0) (fields_is type_in (rows p.0) 0 ts p.1 fields)

-- the fault of a value
abbrev HasFault : Tree → PerfFault → Type 0
HasFault t e =
    ((e ≡ fault.UnknownDescriptor) × ((k : PerfKind) (ts : Trees) → IsListed k ts t → ⊥))
    ⊎ ((k : PerfKind) × (ts : Trees) × IsListed k ts t × IsFirstFault type_in (rows k) 0 ts e)

unlisted : (t : Tree) → described_list t ≡ None → (k : PerfKind) (ts : Trees) → IsListed k ts t → ⊥
unlisted t d k ts h = let some : described_list t ≡ Some (code_of k, ts) = ap described_list h in absurd cc

abbrev some_list : ℕ → Trees → Option (ℕ × Trees)
some_list n ts = Some (n, ts)

same_code : (m n : ℕ) (us ts : Trees) → some_list m us ≡ some_list n ts → m ≡ n
same_code m n us ts e = let pair : listed m us ≡ listed n ts = cc in ap (λ (c : ℕ × Trees). c.0) pair

abbrev no_kind : Option PerfKind
no_kind = None

none_some : (k : PerfKind) → no_kind ≡ Some k → ⊥
none_some k e = absurd cc

unknown : (t : Tree) (n : ℕ) (us : Trees) → described_list t ≡ Some (n, us) → kind_with n ≡ None → (k : PerfKind) (ts : Trees) → IsListed k ts t → ⊥
unknown t n us d w k ts h =
    let code : n ≡ code_of k = same_code n (code_of k) us ts (sym d ∙ ap described_list h) in
    let known : kind_with n ≡ Some k = ap kind_with code ∙ kind_known k in
    none_some k (sym w ∙ known)

value_err : (t : Tree) (e : PerfFault) → perf_of t ≡ Err e → HasFault t e
unfolding perf_of
value_err t e h = step (described_list t) refl h
  where
    found : (n : ℕ) (ts : Trees) (o : Option PerfKind) → described_list t ≡ Some (n, ts) → kind_with n ≡ o → known_in o ts ≡ Err e → HasFault t e
    found n ts None d w h = inl (cc, unknown t n ts d w)
    found n ts (Some k) d w h =
        let is : t ≡ described (scalar (ulong (code_of k))) (list ts) = described_is t n ts d ∙ ap (λ (m : ℕ). described (scalar (ulong m)) (list ts)) (kind_is n k w) in
        inr (k, ts, is, fields_err type_in (rows k) 0 ts e (without_kind k (fields_in type_in (rows k) 0 ts) e h))

    step : (o : Option (ℕ × Trees)) → described_list t ≡ o → listed_in o ≡ Err e → HasFault t e
    step None d h = inl (cc, unlisted t d)
    step (Some (n, ts)) d h = found n ts (kind_with n) d refl h

-- ---- bytes

abbrev pub Reads : Type 0
Reads = Result (Parts × ℕ) PerfFault

abbrev pub ends_at : ℕ → Result Parts PerfFault → Reads
ends_at n r = r >>= λ p. Ok (p, n)

abbrev read_ok : Parts → ℕ → Reads
read_ok p n = Ok (p, n)

abbrev read_err : PerfFault → Reads
read_err e = Err e

abbrev parts_and : Parts → ℕ → Parts × ℕ
parts_and p n = (p, n)

same_read : (p q : Parts) (m n : ℕ) → read_ok p m ≡ read_ok q n → (p ≡ q) × (m ≡ n)
same_read p q m n e =
    let pair : parts_and p m ≡ parts_and q n = cc in
    (ap (λ (x : Parts × ℕ). x.0) pair, ap (λ (x : Parts × ℕ). x.1) pair)

not_read : (f : PerfFault) (p : Parts) (n : ℕ) → read_err f ≡ read_ok p n → ⊥
not_read f p n e = absurd cc

abbrev pub value_read : Tree → ℕ → Result (Tree × ℕ) Fault
value_read t n = Ok (t, n)

behind_ok : (r : Result (Tree × ℕ) Fault) (p : Parts) (after : ℕ) → behind r ≡ Ok (p, after) → (t : Tree) × (r ≡ Ok (t, after)) × (perf_of t ≡ Ok p)
behind_ok (Err f) p after h = absurd cc
behind_ok (Ok v) p after h = step (perf_of v.0) refl h
  where
    step : (r : Result Parts PerfFault) → perf_of v.0 ≡ r → ends_at v.1 r ≡ read_ok p after → (t : Tree) × (value_read v.0 v.1 ≡ value_read t after) × (perf_of t ≡ Ok p)
    step (Ok q) d e =
        let same = same_read q p v.1 after e in
        let end : v.1 ≡ after = same.1 in
        let parts : q ≡ p = same.0 in
        (v.0, rw (sym end) refl, d ∙ rw parts refl)
    step (Err f) d e = absurd (not_read f p after e)

pub bytes_ok : (bytes : List ℕ) (p : Parts) (after : ℕ) → IsBytes bytes → perf_at bytes ≡ Ok (p, after)
    → (t : Tree) × StandsAt IsValue t bytes 0 after × IsParts p t
bytes_ok bytes p after fits h =
    let read = behind_ok (value_at bytes 0) p after h in
    (read.0, (value_is_read read.0 bytes 0 after fits).0 read.1, value_ok read.0 p read.2)

pub bytes_is : (bytes : List ℕ) (p : Parts) (after : ℕ) (t : Tree) → IsBytes bytes → StandsAt IsValue t bytes 0 after → IsParts p t → perf_at bytes ≡ Ok (p, after)
bytes_is bytes p after t fits stands is =
    ap behind ((value_is_read t bytes 0 after fits).1 stands) ∙ ap (ends_at after) (value_is t p is)

-- a fault of fields is Missing or WrongType
placed : (bytes : List ℕ) (e : PerfFault) (k : PerfKind) (ts : Trees) → IsFirstFault type_in (rows k) 0 ts e → HasFieldFault bytes e → IsPerfFault bytes e
placed bytes e k ts first is = fault_places (IsPerfFault bytes) type_in (rows k) 0 ts e first
    (λ at same. subst (IsPerfFault bytes) (sym same) (subst (HasFieldFault bytes) same is))
    (λ at same. subst (IsPerfFault bytes) (sym same) (subst (HasFieldFault bytes) same is))

pub bytes_err : (bytes : List ℕ) (e : PerfFault) → IsBytes bytes → perf_at bytes ≡ Err e → IsPerfFault bytes e
bytes_err bytes e fits h = at (value_at bytes 0) refl h
  where
    told : (t : Tree) (after : ℕ) → StandsAt IsValue t bytes 0 after → HasFault t e → IsPerfFault bytes e
    told t after stands (inl (is, none)) = subst (IsPerfFault bytes) (sym is) (t, after, stands, none)
    told t after stands (inr (k, ts, is, first)) = placed bytes e k ts first (t, after, k, ts, stands, is, first)

    step : (t : Tree) (after : ℕ) (r : Result Parts PerfFault) → value_at bytes 0 ≡ Ok (t, after) → perf_of t ≡ r → ends_at after r ≡ read_err e → IsPerfFault bytes e
    step t after (Ok q) v d h = absurd cc
    step t after (Err f) v d h = told t after ((value_is_read t bytes 0 after fits).0 v) (value_err t e (d ∙ cc))

    at : (r : Result (Tree × ℕ) Fault) → value_at bytes 0 ≡ r → behind r ≡ Err e → IsPerfFault bytes e
    at (Err f) v h = let same : fault.Value f ≡ e = cc in subst (IsPerfFault bytes) same ((fault_is_first bytes 0 f fits).0 v)
    at (Ok (t, after)) v h = step t after (perf_of t) v refl h

-- ---- the clauses, of what a function answers

pub found_by : (bytes : List ℕ) (read : Result (Perf × ℕ) PerfFault) → IsBytes bytes → seen read ≡ perf_at bytes → IfOk read (λ x. IsPerfAt x.0 bytes x.1)
found_by bytes (Ok x) fits h = bytes_ok bytes (parts_of x.0) x.1 fits (sym h)
found_by bytes (Err e) fits h = tt

pub only_by : (bytes : List ℕ) (read : Result (Perf × ℕ) PerfFault) → IsBytes bytes → seen read ≡ perf_at bytes
    → (p : Perf) (after : ℕ) → IsPerfAt p bytes after → IsOkAnd read (λ x. (parts_of x.0 ≡ parts_of p) × (x.1 ≡ after))
only_by bytes (Ok x) fits h p after (t, stands, is) =
    same_read (parts_of x.0) (parts_of p) x.1 after (h ∙ bytes_is bytes (parts_of p) after t fits stands is)
only_by bytes (Err e) fits h p after (t, stands, is) = absurd (not_read e (parts_of p) after (h ∙ bytes_is bytes (parts_of p) after t fits stands is))

pub fault_by : (bytes : List ℕ) (read : Result (Perf × ℕ) PerfFault) → IsBytes bytes → seen read ≡ perf_at bytes → IfErr read (IsPerfFault bytes)
fault_by bytes (Ok x) fits h = tt
fault_by bytes (Err e) fits h = bytes_err bytes e fits (sym h)

pub read_exactly : (p : Perf) (bytes : List ℕ) (after : ℕ) → IsBytes bytes → (perf_at bytes ≡ Ok (parts_of p, after)) ↔ IsPerfAt p bytes after
read_exactly p bytes after fits = (bytes_ok bytes (parts_of p) after fits, λ h. bytes_is bytes (parts_of p) after h.0 fits h.1 h.2)
