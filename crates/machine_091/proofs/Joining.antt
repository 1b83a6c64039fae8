-- The frames of a content in progress, and of one that is whole.
use Rattle.std.proofs.Common.{◌≡◌, ℕ, ◌-◌, ◌≤◌, Bool, true, false, cond, eqb, nat_lt, List, [], ◌∷◌}
use Rattle.std.proofs.Common.{◌++◌, length, map, Some, Result, Ok, Err, refl, sym, ap, subst, ◌∙◌}
use Rattle.std.proofs.Common.{arith}
use Rattle.std.proofs.lemmas.Bool.{eqb-true}
use Rattle.std.proofs.lemmas.Bool.Decides.{nat_tests}
use Rattle.std.proofs.lemmas.List.{map-append}
use Rattle.wire_base.specs.Bytes.{IsBytes}
use Rattle.wire_base.specs.declared.scan.At.{At}
use Rattle.wire_base.proofs.Laws.{ok_is}
use Rattle.content_091.specs.Assembling.{IsContent, HasTaken, Starts, with_bytes, Adds, Joins}
use Rattle.content_091.specs.Properties.{Parts}
use Rattle.content_091.specs.Reading.{header_in}
use Rattle.content_091.specs.declared.assembly.Assembly.{Assembly}
use Rattle.content_091.specs.declared.assembly.Content.{Content}
use Rattle.content_091.specs.declared.assembly.ContentFault.{ContentFault}
use Rattle.content_091.specs.declared.assembly.ContentFault.TheVariants as fault
use Rattle.content_091.specs.declared.assembly.Partial.{Partial}
use Rattle.content_091.specs.declared.assembly.Stage.{Stage}
use Rattle.content_091.specs.declared.assembly.Stage.TheVariants as stage
use Rattle.content_091.specs.declared.assembly.Step.{Step}
use Rattle.content_091.specs.declared.assembly.Step.TheVariants as step
use Rattle.content_091.specs.declared.assembly.TheConstants.{BODY_MAX}
use Rattle.content_091.specs.declared.header.Header91.{Header91}
use Rattle.content_091.specs.declared.reading.HeaderFault.{HeaderFault}
use Rattle.content_091.proofs.Contents.{started_by, joined_by}
use Rattle.frames_091.specs.declared.frame.Frame91.{Frame91}
use Rattle.frames_091.specs.declared.frame.Kind91.{Kind91}
use Rattle.frames_091.specs.declared.frame.Kind91.TheVariants as frame
use Rattle.machine_091.specs.Contents.{Taking, IsOfContent, started, read, with_header, grown}
use Rattle.machine_091.specs.Contents.{with_body, taken}
use Rattle.machine_091.specs.Headers.{header_of}
use Rattle.machine_091.specs.Laws.{frame_of}
use Rattle.machine_091.specs.declared.contents.Incoming.{Incoming}
use Rattle.machine_091.proofs.Spelled.{header_spelled}

-- what was taken
abbrev took : Assembly × Step → Taking
took x = Ok x

taken_is : (x y : Assembly × Step) → took x ≡ took y → x ≡ y
taken_is x y e = ok_is {F = ContentFault} x y e

-- ---- a header that was taken

-- it was awaited, it was read, and its size is no greater than may be
record IsHeaderTaken (payload : List ℕ) (st : Stage) (x : Assembly × Step) : Type 0 where
  begun : st ≡ stage.Begun
  parts : Parts
  read_as : header_in payload ≡ Ok parts
  few : (header_of parts).size ≤ BODY_MAX
  made : started (header_of parts) ≡ x

header_made : (payload : List ℕ) (st : Stage) (x : Assembly × Step) → with_header payload st ≡ Ok x → IsHeaderTaken payload st x
header_made payload (stage.Taking p) x e = absurd cc
header_made payload stage.Whole x e = absurd cc
header_made payload stage.Begun x e = by (header_in payload) refl e
  where
    sizes : (p : Parts) → header_in payload ≡ Ok p → (b : Bool) → nat_lt BODY_MAX (header_of p).size ≡ b
        → cond {A = Taking} b (Err fault.TooLarge) (Ok (started (header_of p))) ≡ Ok x → IsHeaderTaken payload stage.Begun x
    sizes p k true l e = absurd cc
    sizes p k false l e = record {
      begun = refl;
      parts = p;
      read_as = k;
      few = grind (arith, nat_tests, l);
      made = taken_is (started (header_of p)) x e;
    }

    by : (r : Result Parts (At HeaderFault)) → header_in payload ≡ r → read r ≡ Ok x → IsHeaderTaken payload stage.Begun x
    by (Ok p) k e = sizes p k (nat_lt BODY_MAX (header_of p).size) refl e
    by (Err f) k e = absurd cc

-- what a header begins
starts_as : (h : Header91) (a : Assembly) (s : Step) → started h ≡ (a, s) → Starts h a s
starts_as h a s e = by (eqb h.size 0) refl s e
  where
    by : (b : Bool) → eqb h.size 0 ≡ b → (s : Step)
        → cond {A = Assembly × Step} b (record { stage = stage.Whole }, step.Whole (record { props = h.props; body = [] }))
        (record { stage = stage.Taking (record { content = record { props = h.props; body = [] }; left = h.size }) }, step.More) ≡ (a, s) → Starts h a s
    by true z step.More e = absurd (cc (ap (λ (x : Assembly × Step). x.1) e))
    by true z (step.Whole d) e =
        (eqb-true h.size 0 z, ap (λ (x : Assembly × Step). x.0.stage) (sym e), whole d (ap (λ (x : Assembly × Step). x.1) e))
      where
        whole : (d : Content) → step.Whole (record { props = h.props; body = [] }) ≡ step.Whole d → d ≡ record { props = h.props; body = [] }
        whole d e = cc
    by false z step.More e = (grind (arith, nat_tests, z), ap (λ (x : Assembly × Step). x.0.stage) (sym e))
    by false z (step.Whole d) e = absurd (cc (ap (λ (x : Assembly × Step). x.1) e))

pub header_joins : (payload : List ℕ) (st : Stage) (a : Assembly) (s : Step) → with_header payload st ≡ Ok (a, s) → IsBytes payload → Joins a payload [] s
header_joins payload st a s e fits =
    let h = header_made payload st (a, s) e in
    started_by (header_of h.parts) a payload s (header_spelled payload h.parts fits h.read_as) h.few (starts_as (header_of h.parts) a s h.made)

-- ---- a body frame that was taken

-- a header came, and the payload adds to the content
pub record IsBodyTaken (payload : List ℕ) (st : Stage) (a : Assembly) (s : Step) : Type 0 where
  pub partial : Partial
  pub there : st ≡ stage.Taking partial
  pub adds : Adds partial payload a s

adds_as : (payload : List ℕ) (p : Partial) (a : Assembly) (s : Step) → grown payload p ≡ Ok (a, s) → Adds p payload a s
adds_as payload p a s e = by (nat_lt p.left (length payload)) (eqb (length payload) p.left) refl refl s e
  where
    by : (more all : Bool) → nat_lt p.left (length payload) ≡ more → eqb (length payload) p.left ≡ all → (s : Step)
        → cond {A = Taking} more (Err fault.Overrun)
        (cond {A = Taking} all (Ok (record { stage = stage.Whole }, step.Whole (with_bytes p.content payload)))
        (Ok (record { stage = stage.Taking (record { content = with_bytes p.content payload; left = p.left - length payload }) }, step.More))) ≡ Ok (a, s)
        → Adds p payload a s
    by true all m l s e = absurd cc
    by false true m l step.More e = absurd (cc (ap (λ (x : Assembly × Step). x.1) (taken_is _ (a, step.More) e)))
    by false true m l (step.Whole d) e =
        let same = taken_is _ (a, step.Whole d) e in
        (eqb-true (length payload) p.left l, ap (λ (x : Assembly × Step). x.0.stage) (sym same), whole d (ap (λ (x : Assembly × Step). x.1) same))
      where
        whole : (d : Content) → step.Whole (with_bytes p.content payload) ≡ step.Whole d → d ≡ with_bytes p.content payload
        whole d e = cc
    by false false m l step.More e =
        let same = taken_is _ (a, step.More) e in
        (grind (arith, nat_tests, m, l), ap (λ (x : Assembly × Step). x.0.stage) (sym same))
    by false false m l (step.Whole d) e = absurd (cc (ap (λ (x : Assembly × Step). x.1) (taken_is _ (a, step.Whole d) e)))

pub body_made : (payload : List ℕ) (st : Stage) (a : Assembly) (s : Step) → with_body payload st ≡ Ok (a, s) → IsBodyTaken payload st a s
body_made payload stage.Begun a s e = absurd cc
body_made payload (stage.Taking p) a s e = record { partial = p; there = refl; adds = adds_as payload p a s e }
body_made payload stage.Whole a s e = absurd cc

-- ---- the frames behind the method

-- the header and the body, as far as they came
abbrev pub behind_method : ℕ → List ℕ → List (List ℕ) → List Frame91
behind_method n header payloads = frame_of frame.Header n header ∷ map (frame_of frame.Body n) payloads

-- a content in progress has taken these frames
pub data Progress (rest : List Frame91) (n : ℕ) (i : Incoming) : Type 0 where
  Alone : rest ≡ [] → i.assembly.stage ≡ stage.Begun → Progress rest n i
  Within : (header : List ℕ) (payloads : List (List ℕ)) (p : Partial) → rest ≡ behind_method n header payloads → i.assembly.stage ≡ stage.Taking p
      → (IsBytes header → HasTaken i.assembly header payloads) → Progress rest n i

-- so they are where one more came: more is to come, or it is whole
abbrev pub Goes : List Frame91 → ℕ → Incoming → Assembly → Step → Type 0
Goes rest n i a step.More = Progress rest n (record i { assembly = a })
Goes rest n i a (step.Whole d) =
    (header : List ℕ) × (payloads : List (List ℕ)) × (rest ≡ behind_method n header payloads) × (IsBytes header → IsContent d header payloads)

pub frame_is : (f : Frame91) (k : Kind91) (n : ℕ) → f.kind ≡ k → f.channel ≡ n → f ≡ frame_of k n f.payload
frame_is f k n kind channel =
    ap (λ (x : Kind91). record { kind = x; channel = f.channel; payload = f.payload }) kind
    ∙ ap (λ (x : ℕ). record { kind = k; channel = x; payload = f.payload }) channel

-- a content whose header came with more to come has a part of its body
taking_after : (h : Header91) (a : Assembly) → Starts h a step.More → (p : Partial) × (a.stage ≡ stage.Taking p)
taking_after h a starts = (record { content = record { props = h.props; body = [] }; left = h.size }, starts.1)

header_goes : (f : Frame91) (n : ℕ) (i : Incoming) (a : Assembly) (s : Step) → f.kind ≡ frame.Header → f.channel ≡ n
    → with_header f.payload i.assembly.stage ≡ Ok (a, s) → Goes (f ∷ []) n i a s
header_goes f n i a step.More kind channel e =
    let h = header_made f.payload i.assembly.stage (a, step.More) e in
    let t = taking_after (header_of h.parts) a (starts_as (header_of h.parts) a step.More h.made) in
    Within f.payload [] t.0 (ap (λ (g : Frame91). g ∷ []) (frame_is f frame.Header n kind channel)) t.1
    (header_joins f.payload i.assembly.stage a step.More e)
header_goes f n i a (step.Whole d) kind channel e =
    (f.payload, [], ap (λ (g : Frame91). g ∷ []) (frame_is f frame.Header n kind channel), λ fits. (header_joins f.payload i.assembly.stage a (step.Whole d) e fits).1)

-- one more payload
longer : (n : ℕ) (header : List ℕ) (payloads : List (List ℕ)) (f : Frame91) → f.kind ≡ frame.Body → f.channel ≡ n
    → behind_method n header payloads ++ f ∷ [] ≡ behind_method n header (payloads ++ f.payload ∷ [])
longer n header payloads f kind channel =
    ap (λ (g : Frame91). frame_of frame.Header n header ∷ map (frame_of frame.Body n) payloads ++ g ∷ []) (frame_is f frame.Body n kind channel)
    ∙ ap (λ (gs : List Frame91). frame_of frame.Header n header ∷ gs) (sym (map-append (frame_of frame.Body n) payloads (f.payload ∷ [])))

body_goes : (rest : List Frame91) (f : Frame91) (n : ℕ) (i : Incoming) (a : Assembly) (s : Step) (header : List ℕ) (payloads : List (List ℕ))
    → rest ≡ behind_method n header payloads → (IsBytes header → HasTaken i.assembly header payloads) → f.kind ≡ frame.Body → f.channel ≡ n
    → IsBodyTaken f.payload i.assembly.stage a s → Goes (rest ++ f ∷ []) n i a s
body_goes rest f n i a step.More header payloads is has kind channel b =
    Within header (payloads ++ f.payload ∷ []) (record { content = with_bytes b.partial.content f.payload; left = b.partial.left - length f.payload })
    (ap (λ (gs : List Frame91). gs ++ f ∷ []) is ∙ longer n header payloads f kind channel) b.adds.1
    (λ fits. joined_by i.assembly a f.payload step.More header payloads (b.partial, b.there, b.adds) (has fits))
body_goes rest f n i a (step.Whole d) header payloads is has kind channel b = (
  header,
  payloads ++ f.payload ∷ [],
  ap (λ (gs : List Frame91). gs ++ f ∷ []) is ∙ longer n header payloads f kind channel,
  λ fits. (joined_by i.assembly a f.payload (step.Whole d) header payloads (b.partial, b.there, b.adds) (has fits)).1,
)

-- a frame that is taken
pub frame_goes : (rest : List Frame91) (f : Frame91) (n : ℕ) (i : Incoming) (a : Assembly) (s : Step) → f.channel ≡ n → IsOfContent f.kind
    → taken f.kind f.payload (Some i) ≡ Ok (a, s) → Progress rest n i → Goes (rest ++ f ∷ []) n i a s
frame_goes rest f n i a s channel of is before = by f.kind refl of is
  where
    header : f.kind ≡ frame.Header → with_header f.payload i.assembly.stage ≡ Ok (a, s) → Progress rest n i → Goes (rest ++ f ∷ []) n i a s
    header kind e (Alone none begun) =
        subst (λ (gs : List Frame91). Goes (gs ++ f ∷ []) n i a s) (sym none) (header_goes f n i a s kind channel e)
    header kind e (Within x payloads p parts there has) = let begun = (header_made f.payload i.assembly.stage (a, s) e).begun in absurd cc

    body : f.kind ≡ frame.Body → with_body f.payload i.assembly.stage ≡ Ok (a, s) → Progress rest n i → Goes (rest ++ f ∷ []) n i a s
    body kind e (Alone none begun) = let b = body_made f.payload i.assembly.stage a s e in let there = b.there in absurd cc
    body kind e (Within x payloads p parts there has) =
        body_goes rest f n i a s x payloads parts has kind channel (body_made f.payload i.assembly.stage a s e)

    by : (k : Kind91) → f.kind ≡ k → IsOfContent k → taken k f.payload (Some i) ≡ Ok (a, s) → Goes (rest ++ f ∷ []) n i a s
    by frame.Method kind of e = absurd of
    by frame.Header kind of e = header kind e before
    by frame.Body kind of e = body kind e before
    by frame.Heartbeat kind of e = absurd of
