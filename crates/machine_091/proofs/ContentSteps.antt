-- The step of a content header or a body frame, where the code asks for the places of the order in groups.
use Rattle.std.proofs.Common.{◌≡◌, ℕ, Bool, true, false, cond, List, [], ◌∷◌, ◌++◌, Option, None}
use Rattle.std.proofs.Common.{Some, Result, Ok, Err, IfOk, IfErr, refl, sym, ap, subst, ◌∙◌}
use Rattle.content_091.specs.declared.assembly.Content.{Content}
use Rattle.content_091.specs.declared.assembly.ContentFault.{ContentFault}
use Rattle.content_091.specs.declared.assembly.ContentFault.TheVariants as fault
use Rattle.content_091.specs.declared.assembly.Step.TheVariants as step
use Rattle.close_translate.specs.declared.codes.TheConstants.{NOT_IMPLEMENTED}
use Rattle.frames_091.specs.declared.frame.Frame91.{Frame91}
use Rattle.frames_091.specs.declared.frame.Kind91.{Kind91}
use Rattle.frames_091.specs.declared.frame.Kind91.TheVariants as frame
use Rattle.methods_091.specs.Reading.{Read, method_in}
use Rattle.methods_091.specs.declared.method.Method91.{Method91}
use Rattle.machine_091.specs.Checked.{IsFirstOf, IsFedAt}
use Rattle.machine_091.specs.Contents.{Taking, IsOfContent, is_immediate, taken}
use Rattle.machine_091.specs.Laws.{frame_of}
use Rattle.machine_091.specs.Refusals.{places, taken_by, refusal_by}
use Rattle.machine_091.specs.RefusalsContents.{awaited_order, fault_order, immediate_order}
use Rattle.machine_091.specs.RefusalsContents.{publish_order}
use Rattle.machine_091.specs.RefusalsFrames.{first, content_order, channel_order, closing_order}
use Rattle.machine_091.specs.State.{is_running, content_at, with_content}
use Rattle.machine_091.specs.Transitions.{content_effect, frame_effect, ruled_step, ordered_step}
use Rattle.machine_091.specs.Transitions.{refused}
use Rattle.machine_091.specs.declared.contents.Fed.TheVariants as fed
use Rattle.machine_091.specs.declared.contents.Incoming.{Incoming}
use Rattle.machine_091.specs.declared.state.Connection.{Connection}
use Rattle.machine_091.specs.declared.unit.Refusal.{Refusal}
use Rattle.machine_091.specs.declared.unit.Ruling.{Ruling}
use Rattle.machine_091.specs.declared.unit.Ruling.TheVariants as ruling
use Rattle.machine_091.specs.declared.unit.Unit91.{Unit91}
use Rattle.machine_091.specs.declared.unit.Unit91.TheVariants as unit
use Rattle.machine_091.specs.declared.unit.Want91.TheVariants as want

-- ---- the places of a frame of a content

-- those before the content in progress is asked for
abbrev pub content_places : Connection → Frame91 → List (Option Ruling)
content_places c f =
    content_order (is_running c.phase) f.channel ∷ channel_order c f.channel false ∷ closing_order c f.channel false false ∷ []

-- and those that ask for it
abbrev pub taking_places : Option Incoming → Taking → List (Option Ruling)
taking_places o t = awaited_order t ∷ fault_order t ∷ None ∷ publish_order o t ∷ []

pub order_is : (c : Connection) (f : Frame91) (read : Read) (k : Kind91) → IsOfContent k
    → first (places c f read k) ≡ first (content_places c f ++ taking_places (content_at c f.channel) (taken_by c f k))
order_is c f read frame.Method of = absurd of
order_is c f read frame.Header of = refl
order_is c f read frame.Body of = refl
order_is c f read frame.Heartbeat of = absurd of

pub effect_is : (c : Connection) (n : ℕ) (payload : List ℕ) (k : Kind91) → IsOfContent k
    → frame_effect c n payload k ≡ content_effect c n (content_at c n) (taken k payload (content_at c n))
effect_is c n payload frame.Method of = absurd of
effect_is c n payload frame.Header of = refl
effect_is c n payload frame.Body of = refl
effect_is c n payload frame.Heartbeat of = absurd of

-- ---- a ruling on a frame of a content

-- the frame without its payload
abbrev pub hollow : Frame91 → Unit91
hollow f = unit.Frame (frame_of f.kind f.channel [])

-- a ruling doesn't tell of the payload
pub hollow_is : (c : Connection) (f : Frame91) (r : Ruling) → IsOfContent f.kind → ruled_step c (hollow f) (Some r) ≡ ruled_step c (unit.Frame f) (Some r)
hollow_is c f ruling.PassedOver of = refl
hollow_is c f (ruling.Refused code) of =
    ap (λ (x : Refusal). (refused c (unit.Frame f) code, want.Refuse x)) (no_ids f.kind of)
  where
    no_ids : (k : Kind91) → IsOfContent k → refusal_by k code [] ≡ refusal_by k code f.payload
    no_ids frame.Method of = absurd of
    no_ids frame.Header of = refl
    no_ids frame.Body of = refl
    no_ids frame.Heartbeat of = absurd of
hollow_is c f (ruling.MethodRefused code) of = refl
hollow_is c f (ruling.ChannelRefused code) of = refl

-- a step whose ruling is known
step_is : (c : Connection) (f : Frame91) (o : Option Ruling) → first (places c f (method_in f.payload) f.kind) ≡ o
    → ordered_step c (unit.Frame f) ≡ ruled_step c (unit.Frame f) o
step_is c f o first_is = ap (ruled_step c (unit.Frame f)) first_is

-- the places before apply
pub ruled_is : (c : Connection) (f : Frame91) (r : Ruling) → IsOfContent f.kind → IsFirstOf (content_places c f) (Some r)
    → ordered_step c (unit.Frame f) ≡ ruled_step c (hollow f) (Some r)
ruled_is c f r of ruled =
    step_is c f (Some r) (order_is c f (method_in f.payload) f.kind of ∙ ruled (taking_places (content_at c f.channel) (taken_by c f f.kind)))
    ∙ sym (hollow_is c f r of)

-- they don't: what was made of the content decides
taking_is : (c : Connection) (f : Frame91) (o : Option Incoming) (t : Taking) → IsOfContent f.kind → IsFirstOf (content_places c f) None
    → content_at c f.channel ≡ o → taken_by c f f.kind ≡ t → ordered_step c (unit.Frame f) ≡ ruled_step c (unit.Frame f) (first (taking_places o t))
taking_is c f o t of none at taking =
    step_is c f (first (taking_places o t))
    (order_is c f (method_in f.payload) f.kind of ∙ none (taking_places (content_at c f.channel) (taken_by c f f.kind))
    ∙ ap (λ (p : Option Incoming). first (taking_places p (taken_by c f f.kind))) at
    ∙ ap (λ (s : Taking). first (taking_places o s)) taking)

-- ---- a frame that isn't awaited, or is at fault

fault_first : (o : Option Incoming) (x : ContentFault) → first (taking_places o (Err x)) ≡ first (awaited_order (Err x) ∷ fault_order (Err x) ∷ [])
fault_first o fault.Unexpected = refl
fault_first o (fault.Header e) = refl
fault_first o fault.TooLarge = refl
fault_first o fault.Overrun = refl

pub refused_is : (c : Connection) (f : Frame91) (x : ContentFault) (r : Ruling) → IsOfContent f.kind → IsFirstOf (content_places c f) None
    → taken_by c f f.kind ≡ Err x → Some r ≡ first (awaited_order (Err x) ∷ fault_order (Err x) ∷ [])
    → ordered_step c (unit.Frame f) ≡ ruled_step c (hollow f) (Some r)
refused_is c f x r of none taking rules =
    taking_is c f (content_at c f.channel) (Err x) of none refl taking
    ∙ ap (ruled_step c (unit.Frame f)) (fault_first (content_at c f.channel) x ∙ sym rules)
    ∙ sym (hollow_is c f r of)

-- ---- a frame that is taken

-- what it does, once its ruling is none
effect_of : (c : Connection) (f : Frame91) (o : Option Incoming) (t : Taking) → IsOfContent f.kind → content_at c f.channel ≡ o → taken_by c f f.kind ≡ t
    → ruled_step c (unit.Frame f) None ≡ content_effect c f.channel o t
effect_of c f o t of at taking =
    effect_is c f.channel f.payload f.kind of
    ∙ ap (λ (p : Option Incoming). content_effect c f.channel p (taken_by c f f.kind)) at
    ∙ ap (content_effect c f.channel o) taking

pub more_is : (c after : Connection) (f : Frame91) → IsOfContent f.kind → IsFirstOf (content_places c f) None → IsFedAt c after f fed.More
    → ordered_step c (unit.Frame f) ≡ (after, want.Nothing)
more_is c after f of none (o, (i, a, at, slot, taking), same) =
    taking_is c f (Some i) (Ok (a, step.More)) of none at taking
    ∙ effect_of c f (Some i) (Ok (a, step.More)) of at taking
    ∙ ap (λ (p : Option Incoming). (with_content c f.channel p, want.Nothing)) (sym slot)
    ∙ ap (λ (d : Connection). (d, want.Nothing)) (sym same)

-- the method of a whole content is refused, or it isn't
immediate_is : (m : Method91) (r : Ruling) → Some r ≡ immediate_order m → r ≡ ruling.MethodRefused NOT_IMPLEMENTED
immediate_is m r e = by (is_immediate m) e
  where
    by : (b : Bool) → Some r ≡ cond {A = Option Ruling} b (Some (ruling.MethodRefused NOT_IMPLEMENTED)) None → r ≡ ruling.MethodRefused NOT_IMPLEMENTED
    by true e = cc
    by false e = absurd cc

alone : (o : Option Ruling) → first (o ∷ []) ≡ o
alone None = refl
alone (Some r) = refl

-- what is left of a content that was handed out is dropped with all others
pub whole_refused : (c after : Connection) (f : Frame91) (m : Method91) (d : Content) (r : Ruling) → IsOfContent f.kind
    → IsFirstOf (content_places c f) None → IsFedAt c after f (fed.Whole m d) → Some r ≡ immediate_order m
    → ordered_step c (unit.Frame f) ≡ ruled_step after (hollow f) (Some r)
whole_refused c after f m d r of none (o, (i, a, at, slot, method, taking), same) rules =
    taking_is c f (Some i) (Ok (a, step.Whole d)) of none at taking
    ∙ ap (ruled_step c (unit.Frame f)) (alone (immediate_order i.method) ∙ ap immediate_order (sym method) ∙ sym rules)
    ∙ dropped r (immediate_is m r rules)
    ∙ ap (λ (e : Connection). ruled_step e (unit.Frame f) (Some r)) (sym same)
    ∙ sym (hollow_is after f r of)
  where
    dropped : (r : Ruling) → r ≡ ruling.MethodRefused NOT_IMPLEMENTED
        → ruled_step c (unit.Frame f) (Some r) ≡ ruled_step (with_content c f.channel o) (unit.Frame f) (Some r)
    dropped (ruling.MethodRefused code) e = refl
    dropped (ruling.Refused code) e = absurd cc
    dropped (ruling.ChannelRefused code) e = absurd cc
    dropped ruling.PassedOver e = absurd cc

pub whole_is : (c after : Connection) (f : Frame91) (m : Method91) (d : Content) → IsOfContent f.kind → IsFirstOf (content_places c f) None
    → IsFedAt c after f (fed.Whole m d) → None ≡ immediate_order m → ordered_step c (unit.Frame f) ≡ (after, want.Publish f.channel m d)
whole_is c after f m d of none (o, (i, a, at, slot, method, taking), same) rules =
    taking_is c f (Some i) (Ok (a, step.Whole d)) of none at taking
    ∙ ap (ruled_step c (unit.Frame f)) (alone (immediate_order i.method) ∙ ap immediate_order (sym method) ∙ sym rules)
    ∙ effect_of c f (Some i) (Ok (a, step.Whole d)) of at taking
    ∙ ap (λ (p : Option Incoming). (with_content c f.channel p, want.Publish f.channel i.method d)) (sym slot)
    ∙ ap (λ (e : Connection). (e, want.Publish f.channel i.method d)) (sym same)
    ∙ ap (λ (x : Method91). (after, want.Publish f.channel x d)) (sym method)

-- ---- what a function that gives a frame to a content answers

pub ok_given : {A E : Type 0} (r : Result A E) (x : A) (P : A → Type 0) → r ≡ Ok x → IfOk r P → P x
ok_given r x P is h = subst (λ (s : Result _ _). IfOk s P) is h

pub err_given : {A E : Type 0} (r : Result A E) (x : E) (P : E → Type 0) → r ≡ Err x → IfErr r P → P x
err_given r x P is h = subst (λ (s : Result _ _). IfErr s P) is h
