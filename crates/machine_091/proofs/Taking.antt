-- What a content header makes of a content in progress, from what putting contents together says.
use Rattle.std.proofs.Common.{◌≡◌, ◌≢◌, ℕ, ◌+◌, ◌<◌, ◌≤◌, Bool, true, false, cond, eqb, nat_lt}
use Rattle.std.proofs.Common.{List, [], length, Option, None, Some, Result, Ok, Err, IfOk, IfErr}
use Rattle.std.proofs.Common.{refl, sym, ap, ◌∙◌, arith}
use Rattle.std.proofs.lemmas.Bool.Decides.{nat_tests}
use Rattle.std.specs.List.{concat}
use Rattle.wire_base.specs.Bytes.{IsBytes}
use Rattle.wire_base.specs.declared.memory.Memory.{Memory}
use Rattle.tables_091.specs.Tree.{Tree}
use Rattle.content_091.specs.Assembling.{header_with, HasBegun, Joins, IsHeaderRefusal}
use Rattle.content_091.specs.Grammar.{IsHeader}
use Rattle.content_091.specs.View.{an_octet, a_longlong, a_text, a_table, parts_of}
use Rattle.content_091.specs.declared.assembly.Assembly.{Assembly}
use Rattle.content_091.specs.declared.assembly.Content.{Content}
use Rattle.content_091.specs.declared.assembly.ContentFault.{ContentFault}
use Rattle.content_091.specs.declared.assembly.ContentFault.TheVariants as fault
use Rattle.content_091.specs.declared.assembly.Stage.{Stage}
use Rattle.content_091.specs.declared.assembly.Stage.TheVariants as stage
use Rattle.content_091.specs.declared.assembly.Step.{Step}
use Rattle.content_091.specs.declared.assembly.Step.TheVariants as step
use Rattle.content_091.specs.declared.assembly.TheConstants.{BODY_MAX}
use Rattle.content_091.specs.declared.header.Header91.{Header91}
use Rattle.content_091.proofs.FaultLaws.{fault_exactly, read_exactly}
use Rattle.machine_091.specs.Contents.{Taking, started, sized, read, with_header}
use Rattle.machine_091.specs.Headers.{octet_of, longlong_of, shortstr_of, fields_of, header_of}

-- ---- a header from its parts

octet_back : (n : Option ℕ) → octet_of (an_octet n) ≡ n
octet_back None = refl
octet_back (Some n) = refl

longlong_back : (n : Option ℕ) → longlong_of (a_longlong n) ≡ n
longlong_back None = refl
longlong_back (Some n) = refl

shortstr_back : (s : Option (List ℕ)) → shortstr_of (a_text s) ≡ s
shortstr_back None = refl
shortstr_back (Some s) = refl

fields_back : (ms : Option (List (List ℕ × Tree))) → fields_of (a_table ms) ≡ ms
fields_back None = refl
fields_back (Some ms) = refl

pub header_back : (h : Header91) → header_of (parts_of h) ≡ h
header_back h =
    let p = h.props in
    rw (
      shortstr_back p.content_type,
      shortstr_back p.content_encoding,
      fields_back p.headers,
      octet_back p.delivery_mode,
      octet_back p.priority,
      shortstr_back p.correlation_id,
      shortstr_back p.reply_to,
      shortstr_back p.expiration,
      shortstr_back p.message_id,
      longlong_back p.timestamp,
      shortstr_back p.kind,
      shortstr_back p.user_id,
      shortstr_back p.app_id,
      shortstr_back p.cluster_id,
    ) refl

-- ---- a header that is taken

-- what is put together from a header without a body
abbrev empty : Header91 → Content
empty h = record { props = h.props; body = [] }

sized_few : (h : Header91) → h.size ≤ BODY_MAX → sized h ≡ Ok (started h)
sized_few h few = by (nat_lt BODY_MAX h.size) refl
  where
    by : (b : Bool) → nat_lt BODY_MAX h.size ≡ b → cond {A = Taking} b (Err fault.TooLarge) (Ok (started h)) ≡ Ok (started h)
    by true e = absurd (grind (arith, nat_tests, few, e))
    by false e = refl

started_more : (h : Header91) → 0 < h.size → started h ≡ (record { stage = stage.Taking (record { content = empty h; left = h.size }) }, step.More)
started_more h some = by (eqb h.size 0) refl
  where
    by : (b : Bool) → eqb h.size 0 ≡ b
        → cond {A = Assembly × Step} b (record { stage = stage.Whole }, step.Whole (empty h)) (record { stage = stage.Taking (record { content = empty h; left = h.size }) }, step.More)
        ≡ (record { stage = stage.Taking (record { content = empty h; left = h.size }) }, step.More)
    by true e = absurd (grind (arith, nat_tests, some, e))
    by false e = refl

started_whole : (h : Header91) → h.size ≡ 0 → started h ≡ (record { stage = stage.Whole }, step.Whole (empty h))
started_whole h none = rw none refl

-- a header that was spelled is read
spelled_taken : (h : Header91) (a : Assembly) (payload : List ℕ) → IsBytes payload → HasBegun a → IsHeader h payload → h.size ≤ BODY_MAX
    → with_header payload a.stage ≡ Ok (started h)
spelled_taken h a payload fits begun spelled few =
    ap (with_header payload) begun ∙ ap read ((read_exactly h payload fits).1 spelled) ∙ ap sized (header_back h) ∙ sized_few h few

-- a content without a body
empty_is : (c : Content) → c.body ≡ [] → record { props = c.props; body = [] } ≡ c
empty_is c none = ap (λ (t : List ℕ). record { props = c.props; body = t }) (sym none)

header_taken : (a after : Assembly) (payload : List ℕ) (s : Step) → IsBytes payload → HasBegun a → Joins after payload [] s
    → with_header payload a.stage ≡ Ok (after, s)
header_taken a after payload step.More fits begun (c, left, missing, some, spelled, none, few) =
    let h = header_with c (length (concat []) + left) in
    let size : h.size ≡ left = omega arith in
    let is : Taking = Ok (after, step.More) in
    spelled_taken h a payload fits begun spelled few
    ∙ ap (λ (x : Assembly × Step). Ok x) (started_more h (omega (arith, some, size)))
    ∙ ap (λ (n : ℕ). Ok (record { stage = stage.Taking (record { content = record { props = c.props; body = [] }; left = n }) }, step.More)) size
    ∙ ap (λ (d : Content). Ok (record { stage = stage.Taking (record { content = d; left = left }) }, step.More)) (empty_is c none)
    ∙ ap (λ (x : Stage). Ok (record { stage = x }, step.More)) (sym missing)
header_taken a after payload (step.Whole d) fits begun (whole, (spelled, none, few)) =
    let h = header_with d (length (concat [])) in
    spelled_taken h a payload fits begun spelled few
    ∙ ap (λ (x : Assembly × Step). Ok x) (started_whole h refl)
    ∙ ap (λ (e : Content). Ok (record { stage = stage.Whole }, step.Whole e)) (empty_is d none)
    ∙ ap (λ (x : Stage). Ok (record { stage = x }, step.Whole d)) (sym whole)

-- ---- a header that is refused

header_refused : (a : Assembly) (payload : List ℕ) (f : ContentFault) → IsBytes payload → IsHeaderRefusal a payload f
    → with_header payload a.stage ≡ Err f
header_refused a payload fault.Unexpected fits other = by a.stage other
  where
    by : (x : Stage) → x ≢ stage.Begun → with_header payload x ≡ Err fault.Unexpected
    by stage.Begun other = absurd (other refl)
    by (stage.Taking p) other = refl
    by stage.Whole other = refl
header_refused a payload (fault.Header e) fits (begun, broken) = ap (with_header payload) begun ∙ ap read ((fault_exactly payload e fits).1 broken)
header_refused a payload fault.TooLarge fits (begun, h, spelled, more) =
    ap (with_header payload) begun ∙ ap read ((read_exactly h payload fits).1 spelled) ∙ ap sized (header_back h) ∙ by (nat_lt BODY_MAX h.size) refl
  where
    by : (b : Bool) → nat_lt BODY_MAX h.size ≡ b → cond {A = Taking} b (Err fault.TooLarge) (Ok (started h)) ≡ Err fault.TooLarge
    by true e = refl
    by false e = absurd (grind (arith, nat_tests, more, e))
header_refused a payload fault.Overrun fits none = absurd none

-- ---- the clauses, of what a function answers

-- what a call on a content that is put together answers
abbrev Answer : Type 0
Answer = Result (Result Step ContentFault) Memory

pub header_ok : (answer : Answer) (t : Taking) (a after : Assembly) (payload : List ℕ) → IsBytes payload → t ≡ with_header payload a.stage
    → IfOk answer (λ r. IfOk r (λ s. HasBegun a)) → IfOk answer (λ r. IfOk r (Joins after payload [])) → IfOk answer (λ r. IfOk r (λ s. t ≡ Ok (after, s)))
header_ok (Ok (Ok s)) t a after payload fits is begun joins = is ∙ header_taken a after payload s fits begun joins
header_ok (Ok (Err f)) t a after payload fits is begun joins = tt
header_ok (Err m) t a after payload fits is begun joins = tt

pub header_err : (answer : Answer) (t : Taking) (a : Assembly) (payload : List ℕ) → IsBytes payload → t ≡ with_header payload a.stage
    → IfOk answer (λ r. IfErr r (IsHeaderRefusal a payload)) → IfOk answer (λ r. IfErr r (λ f. t ≡ Err f))
header_err (Ok (Ok s)) t a payload fits is refused = tt
header_err (Ok (Err f)) t a payload fits is refused = is ∙ header_refused a payload f fits refused
header_err (Err m) t a payload fits is refused = tt
