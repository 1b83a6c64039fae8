-- Contents that are put together, by the headers and the payloads that were given.
use Rattle.std.proofs.Common.{◌≡◌, ℕ, ◌+◌, ◌-◌, ◌≤◌, List, [], ◌∷◌, ◌++◌, length, Result, Ok, Err}
use Rattle.std.proofs.Common.{IfOk, refl, sym, ap, subst, ◌∙◌, arith}
use Rattle.std.proofs.lemmas.List.{append-nil, length-append}
use Rattle.std.proofs.lemmas.List.Folds.{concat-append}
use Rattle.std.specs.List.{concat}
use Rattle.content_091.specs.Grammar.{IsHeader}
use Rattle.content_091.specs.Assembling.{header_with, IsContent, HasTaken, Starts, with_bytes, Adds}
use Rattle.content_091.specs.Assembling.{Grows, Joins}
use Rattle.wire_base.specs.declared.memory.Memory.{Memory}
use Rattle.wire_base.specs.declared.scan.At.{At}
use Rattle.content_091.specs.declared.header.Header91.{Header91}
use Rattle.content_091.specs.declared.header.Props.{Props}
use Rattle.content_091.specs.declared.assembly.TheConstants.{BODY_MAX}
use Rattle.content_091.specs.declared.assembly.Content.{Content}
use Rattle.content_091.specs.declared.assembly.Partial.{Partial}
use Rattle.content_091.specs.declared.assembly.Assembly.{Assembly}
use Rattle.content_091.specs.declared.assembly.Stage.TheVariants as stage
use Rattle.content_091.specs.declared.assembly.Step.{Step}
use Rattle.content_091.specs.declared.assembly.Step.TheVariants as step
use Rattle.content_091.specs.declared.assembly.ContentFault.{ContentFault}
use Rattle.content_091.specs.declared.reading.HeaderFault.{HeaderFault}
use Rattle.content_091.proofs.HeaderLaws.{one_header}

-- what is missing is one content
abbrev partial : Content → ℕ → Partial
partial c left = record { content = c; left = left }

same_partial : (a : Assembly) (p q : Partial) → a.stage ≡ stage.Taking p → a.stage ≡ stage.Taking q → p ≡ q
same_partial a p q h i = cc (h, i)

-- one payload more
joined_one : (payloads : List (List ℕ)) (payload : List ℕ) → concat (payloads ++ payload ∷ []) ≡ concat payloads ++ payload
joined_one payloads payload =
    concat-append payloads (payload ∷ []) ∙ ap (λ (t : List ℕ). concat payloads ++ t) (append-nil payload)

-- a header begins a content
pub started_by : (h : Header91) (a : Assembly) (payload : List ℕ) (s : Step) → IsHeader h payload → h.size ≤ BODY_MAX → Starts h a s → Joins a payload [] s
started_by h a payload step.More spelled few (some, missing) =
    let size : h.size ≡ length (concat []) + h.size = omega arith in
    let header : IsHeader (record { size = length (concat []) + h.size; props = h.props }) payload =
    subst (λ (n : ℕ). IsHeader (record { size = n; props = h.props }) payload) size spelled in
    (record { props = h.props; body = [] }, h.size, missing, some, header, refl, omega (arith, few))
started_by h a payload (step.Whole c) spelled few (none, whole, same) =
    let content : IsContent (record { props = h.props; body = [] }) payload [] =
    (subst (λ (n : ℕ). IsHeader (record { size = n; props = h.props }) payload) none spelled, refl, omega arith) in
    (whole, subst (λ (d : Content). IsContent d payload []) (sym same) content)

-- a payload goes on with it
pub joined_by : (a after : Assembly) (payload : List ℕ) (s : Step) (header : List ℕ) (payloads : List (List ℕ)) → Grows a payload after s → HasTaken a header payloads
    → Joins after header (payloads ++ payload ∷ []) s
joined_by a after payload step.More header payloads (p, missing, (less, missing_after)) (d, n, there, some, spelled, body, few) =
    let c = p.content in
    let left = p.left in
    let same = same_partial a p (partial d n) missing there in
    let content : c ≡ d = ap (λ (p : Partial). p.content) same in
    let count : left ≡ n = ap (λ (p : Partial). p.left) same in
    let more = joined_one payloads payload in
    let size : length (concat payloads) + n ≡ length (concat (payloads ++ payload ∷ [])) + (left - length payload) =
    omega (arith, count, less, ap length more, length-append (concat payloads) payload) in
    let header_is : IsHeader (header_with (with_bytes c payload) (length (concat (payloads ++ payload ∷ [])) + (left - length payload))) header =
    subst (λ (k : ℕ). IsHeader (header_with (with_bytes c payload) k) header) size
    (subst (λ (e : Content). IsHeader (header_with e (length (concat payloads) + n)) header) (sym content) spelled) in
    let body_is : c.body ++ payload ≡ concat (payloads ++ payload ∷ []) =
    ap (λ (e : Content). e.body ++ payload) content ∙ ap (λ (t : List ℕ). t ++ payload) body ∙ sym more in
    (with_bytes c payload, left - length payload, missing_after, omega (arith, less), header_is, body_is, omega (arith, few, size))
joined_by a after payload (step.Whole whole) header payloads (p, missing, (all_of_it, handed, is)) (d, n, there, some, spelled, body, few) =
    let c = p.content in
    let same = same_partial a p (partial d n) missing there in
    let content : c ≡ d = ap (λ (p : Partial). p.content) same in
    let count : length payload ≡ n = all_of_it ∙ ap (λ (p : Partial). p.left) same in
    let more = joined_one payloads payload in
    let size : length (concat payloads) + n ≡ length (concat (payloads ++ payload ∷ [])) =
    omega (arith, count, ap length more, length-append (concat payloads) payload) in
    let header_is : IsHeader (header_with (with_bytes c payload) (length (concat (payloads ++ payload ∷ [])))) header =
    subst (λ (k : ℕ). IsHeader (header_with (with_bytes c payload) k) header) size
    (subst (λ (e : Content). IsHeader (header_with e (length (concat payloads) + n)) header) (sym content) spelled) in
    let body_is : c.body ++ payload ≡ concat (payloads ++ payload ∷ []) =
    ap (λ (e : Content). e.body ++ payload) content ∙ ap (λ (t : List ℕ). t ++ payload) body ∙ sym more in
    let all : IsContent (with_bytes c payload) header (payloads ++ payload ∷ []) = (header_is, body_is, omega (arith, few, size)) in
    (handed, subst (λ (e : Content). IsContent e header (payloads ++ payload ∷ [])) (sym is) all)

-- a header and payloads are at most one content
pub one_content : (c d : Content) (header : List ℕ) (payloads : List (List ℕ)) → IsContent c header payloads → IsContent d header payloads → c ≡ d
one_content c d header payloads h i =
    let n = length (concat payloads) in
    let props : c.props ≡ d.props = ap (λ (x : Header91). x.props) (one_header (header_with c n) (header_with d n) header h.0 i.0) in
    let body : c.body ≡ d.body = h.1 ∙ sym i.1 in
    ap (λ (p : Props). record { props = p; body = c.body }) props ∙ ap (λ (t : List ℕ). record { props = d.props; body = t }) body

-- ---- the clauses, of what a function answers

pub header_joined : (read : Result Header91 (At HeaderFault)) (h : Header91) (a : Assembly) (payload : List ℕ) (s : Step) → read ≡ Ok h → IfOk read (λ i. IsHeader i payload)
    → h.size ≤ BODY_MAX → Starts h a s → Joins a payload [] s
header_joined read h a payload s is found few starts =
    started_by h a payload s (subst (λ (r : Result Header91 (At HeaderFault)). IfOk r (λ i. IsHeader i payload)) is found) few starts

pub payload_joined : (a after : Assembly) (payload : List ℕ) (p : Partial) (result : Result (Result Step ContentFault) Memory) → a.stage ≡ stage.Taking p
    → IfOk result (λ read. IfOk read (Adds p payload after)) → (header : List ℕ) (payloads : List (List ℕ)) → HasTaken a header payloads
    → IfOk result (λ read. IfOk read (Joins after header (payloads ++ payload ∷ [])))
payload_joined a after payload p (Ok (Ok s)) taking adds header payloads taken = joined_by a after payload s header payloads (p, taking, adds) taken
payload_joined a after payload p (Ok (Err e)) taking adds header payloads taken = tt
payload_joined a after payload p (Err m) taking adds header payloads taken = tt
