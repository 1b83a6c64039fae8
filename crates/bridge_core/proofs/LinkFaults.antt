-- What closes by a performative that names a link.
use Rattle.std.proofs.Common.{◌≡◌, ◌∙◌, ℕ, zero, suc, List, [], ◌∷◌, Option, None, Some, refl, sym}
use Rattle.std.proofs.Common.{ap}
use Rattle.std.specs.Prelude.{◌-◌, ◌++◌, Bool, true, false, if◌then◌else◌, is_some, length, slice_set}
use Rattle.std.specs.Prelude.{OnErr, OnOk, Result, Ok, Err}
use Rattle.std.specs.Option.{option_map}
use Rattle.close_translate.specs.declared.codes.TheConstants.{INTERNAL_ERROR, PRECONDITION_FAILED}
use Rattle.close_translate.specs.declared.conditions.Scope.{Scope}
use Rattle.close_translate.specs.declared.conditions.Scope.TheVariants as scope
use Rattle.machine_10.specs.Parts.{Parts, parts_of}
use Rattle.performatives_10.specs.declared.performative.Attach.{Attach}
use Rattle.performatives_10.specs.declared.performative.Detach.{Detach}
use Rattle.performatives_10.specs.declared.performative.Flow.{Flow}
use Rattle.performatives_10.specs.declared.performative.Perf.{Perf}
use Rattle.performatives_10.specs.declared.performative.Perf.TheVariants as perf
use Rattle.performatives_10.specs.declared.performative.Transfer.{Transfer}
use Rattle.performatives_10.specs.declared.condition.Condition.{Condition}
use Rattle.session_path.specs.Path.{PathState, closes_at as closes_channel, failed, transfer_came, transfer_fault}
use Rattle.consume_path.specs.declared.delivery.Content.{Content}
use Rattle.consume_path.specs.declared.receiving.Part.{Part}
use Rattle.consume_path.specs.declared.receiving.TransferFault.{TransferFault}
use Rattle.property_map.specs.Received.{received_in}
use Rattle.property_map.specs.declared.received.Received.{Received}
use Rattle.session_path.specs.Due.{queue_at}
use Rattle.gate_model.specs.Lives.{life_at}
use Rattle.close_translate.specs.Conditions.{code_by}
use Rattle.gate_model.specs.Upstream.{condition_in}
use Rattle.types_10.specs.Fields.{maybe}
use Rattle.performatives_10.specs.View.{error_tree}
use Rattle.gate_model.specs.Paths.{arrived_at, content_of, is_again}
use Rattle.gate_model.specs.Paths.{closed_path, or_no_path, part_in, path_at}
use Rattle.gate_model.specs.Paths.{is_attached, received_at, slot_at, transfer_error, transferred}
use Rattle.gate_model.specs.Paths.{transferred_by, with_path}
use Rattle.gate_model.specs.State.{State, carried, closing_code, fail, fail_life, link_scope}
use Rattle.gate_model.specs.State.{met_session, or_unattached, path_heard, scoped, session_lost, transfer_scope}
use Rattle.gate_model.specs.State.{unattached, windowed, with_session}
use Rattle.gate_model.specs.declared.life.SessionState.{SessionState}
use Rattle.bridge_core.specs.LinkFaults.{ended_by, ended_unless, fault_in, link_fault, takes_memory_of}
use Rattle.bridge_core.specs.PathChanges.{partial_in, path_changed}
use Rattle.bridge_core.specs.declared.path_changes.LinkFault.{LinkFault}
use Rattle.bridge_core.specs.declared.path_changes.LinkFault.TheVariants.{Closes, Ends}
use Rattle.bridge_core.specs.declared.paths.PathChange.{PathChange}

pub closes_all : (w : State) (n : ℕ) (p : Parts) (payload : List ℕ) (k : Condition) → Some (Closes k) ≡ link_fault p payload (life_at w.lives n).session (path_at w.paths n)
    → fail INTERNAL_ERROR (Some k) (windowed n p w) ≡ with_session n p payload w
closes_all w n p payload k e = by (link_scope p payload (life_at w.lives n).session (path_at w.paths n)) e
  where
    error_in : Option LinkFault → Condition
    error_in None = k
    error_in (Some (Closes c)) = c
    error_in (Some (Ends c)) = k

    by : (o : Option Scope) → Some (Closes k) ≡ fault_in o p payload (life_at w.lives n).session (path_at w.paths n)
        → fail INTERNAL_ERROR (Some k) (windowed n p w) ≡ scoped o n p payload w
    by None e = absurd cc
    by (Some scope.Connection) e = ap (λ (o : Option LinkFault). fail INTERNAL_ERROR (Some (error_in o)) (windowed n p w)) e
    by (Some scope.Channel) e = absurd cc

pub ends_session : (w : State) (n : ℕ) (p : Parts) (payload : List ℕ) (k : Condition) → Some (Ends k) ≡ link_fault p payload (life_at w.lives n).session (path_at w.paths n)
    → fail_life n PRECONDITION_FAILED (Some k) closed_path (session_lost n (windowed n p w)) ≡ with_session n p payload w
ends_session w n p payload k e = by (link_scope p payload (life_at w.lives n).session (path_at w.paths n)) e
  where
    error_in : Option LinkFault → Condition
    error_in None = k
    error_in (Some (Closes c)) = k
    error_in (Some (Ends c)) = c

    by : (o : Option Scope) → Some (Ends k) ≡ fault_in o p payload (life_at w.lives n).session (path_at w.paths n)
        → fail_life n PRECONDITION_FAILED (Some k) closed_path (session_lost n (windowed n p w)) ≡ scoped o n p payload w
    by None e = absurd cc
    by (Some scope.Connection) e = absurd cc
    by (Some scope.Channel) e = ap (λ (o : Option LinkFault). fail_life n PRECONDITION_FAILED (Some (error_in o)) closed_path (session_lost n (windowed n p w))) e

pub ends_none : (w : State) (n : ℕ) (p : Parts) (payload : List ℕ) → None ≡ link_fault p payload (life_at w.lives n).session (path_at w.paths n)
    → met_session n p (closing_code p payload (path_at w.paths n)) (carried n p payload w) ≡ with_session n p payload w
ends_none w n p payload e = by (link_scope p payload (life_at w.lives n).session (path_at w.paths n)) e
  where
    by : (o : Option Scope) → None ≡ fault_in o p payload (life_at w.lives n).session (path_at w.paths n)
        → met_session n p (closing_code p payload (path_at w.paths n)) (carried n p payload w) ≡ scoped o n p payload w
    by None e = refl
    by (Some scope.Connection) e = absurd cc
    by (Some scope.Channel) e = absurd cc

-- ---- paths

same_change : (n : ℕ) (f g : PathState → PathState) (ps : List (Option PathState)) → ((s : PathState) → f s ≡ g s) → with_path n f ps ≡ with_path n g ps
same_change n f g ps e = ap (slice_set ps n) (by (slot_at ps n))
  where
    by : (o : Option PathState) → option_map f o ≡ option_map g o
    by None = refl
    by (Some s) = ap (λ (t : PathState). Some t) (e s)

same_path : (n : ℕ) (ps : List (Option PathState)) → with_path n (λ (s : PathState). s) ps ≡ ps
same_path n [] = refl
same_path zero (o ∷ ps) = ap (λ (x : Option PathState). x ∷ ps) (by o)
  where
    by : (o : Option PathState) → option_map (λ (s : PathState). s) o ≡ o
    by None = refl
    by (Some s) = refl
same_path (suc n) (o ∷ ps) = ap (λ (xs : List (Option PathState)). o ∷ xs) (same_path n ps)

pub heard_none : (limit n : ℕ) (p : Parts) (payload : List ℕ) (ps : List (Option PathState)) → ((s : PathState) → s ≡ path_heard limit n p payload s)
    → ps ≡ with_path n (path_heard limit n p payload) ps
heard_none limit n p payload ps e = sym (same_path n ps) ∙ same_change n (λ (s : PathState). s) (path_heard limit n p payload) ps e

pub heard_change : (limit n : ℕ) (p : Parts) (payload : List ℕ) (c : PathChange) (ps : List (Option PathState))
    → ((s : PathState) → path_changed c s ≡ path_heard limit n p payload s)
    → with_path n (path_changed c) ps ≡ with_path n (path_heard limit n p payload) ps
heard_change limit n p payload c ps e = same_change n (path_changed c) (path_heard limit n p payload) ps e

-- what changes the path of a channel alike
same_at : (n : ℕ) (f g : PathState → PathState) (ps : List (Option PathState)) → f (path_at ps n) ≡ g (path_at ps n) → with_path n f ps ≡ with_path n g ps
same_at n f g ps e = ap (slice_set ps n) (by (slot_at ps n) e)
  where
    by : (o : Option PathState) → f (or_no_path o) ≡ g (or_no_path o) → option_map f o ≡ option_map g o
    by None e = refl
    by (Some s) e = ap (λ (t : PathState). Some t) e

-- ---- transfers

pub failed_heard : (limit n : ℕ) (t : Transfer) (payload : List ℕ) (fault : TransferFault) (ps : List (Option PathState))
    → Some fault ≡ transfer_fault t.handle (part_in (parts_of (perf.Transfer t)).1) (length payload) (path_at ps n)
    → with_path n (failed t.handle fault) ps ≡ with_path n (transferred limit n (parts_of (perf.Transfer t)).1 payload) ps
unfolding parts_of
failed_heard limit n t payload fault ps e =
    same_at n (failed t.handle fault) (transferred limit n (parts_of (perf.Transfer t)).1 payload) ps
    (ap (λ (o : Option TransferFault). transferred_by o limit n t.handle (part_in (parts_of (perf.Transfer t)).1) payload (path_at ps n)) e)

pub part_heard : (limit n : ℕ) (t : Transfer) (part : Part) (payload : List ℕ) (image : Option Content) (again : Bool) (ps : List (Option PathState))
    → part ≡ part_in (parts_of (perf.Transfer t)).1 → None ≡ transfer_fault t.handle part (length payload) (path_at ps n)
    → image ≡ option_map (content_of limit n) (received_at limit t.handle payload (path_at ps n))
    → again ≡ is_again (received_at limit t.handle payload (path_at ps n))
    → with_path n (transfer_came t.handle part payload image again) ps ≡ with_path n (transferred limit n (parts_of (perf.Transfer t)).1 payload) ps
unfolding parts_of
part_heard limit n t part payload image again ps h e f g =
    same_at n (transfer_came t.handle part payload image again) (transferred limit n (parts_of (perf.Transfer t)).1 payload) ps
    (ap (λ (o : Option Content). transfer_came t.handle part payload o again (path_at ps n)) f
    ∙ ap (λ (b : Bool). transfer_came t.handle part payload (option_map (content_of limit n) (received_at limit t.handle payload (path_at ps n))) b (path_at ps n)) g
    ∙ ap (λ (q : Part). arrived_at limit n t.handle q payload (path_at ps n)) h
    ∙ ap (λ (o : Option TransferFault). transferred_by o limit n t.handle (part_in (parts_of (perf.Transfer t)).1) payload (path_at ps n))
    (e ∙ ap (λ (q : Part). transfer_fault t.handle q (length payload) (path_at ps n)) h))

-- one behind which its delivery goes on, or is none any more
pub more_heard : (limit n : ℕ) (t : Transfer) (part : Part) (payload : List ℕ) (ps qs : List (Option PathState))
    → part ≡ part_in (parts_of (perf.Transfer t)).1 → None ≡ transfer_fault t.handle part (length payload) (path_at ps n)
    → ((image : Option Content) (again : Bool) → qs ≡ with_path n (transfer_came t.handle part payload image again) ps)
    → qs ≡ with_path n (transferred limit n (parts_of (perf.Transfer t)).1 payload) ps
more_heard limit n t part payload ps qs h e f =
    let r : Option Received = received_at limit t.handle payload (path_at ps n) in
    f (option_map (content_of limit n) r) (is_again r)
    ∙ part_heard limit n t part payload (option_map (content_of limit n) r) (is_again r) ps h e refl refl

-- the last one
pub last_heard : (limit m n : ℕ) (t : Transfer) (part : Part) (payload queue before : List ℕ) (image : Option Content) (again : Bool) (ps : List (Option PathState))
    → limit ≡ m → part ≡ part_in (parts_of (perf.Transfer t)).1 → None ≡ transfer_fault t.handle part (length payload) (path_at ps n)
    → queue ≡ queue_at t.handle (path_at ps n) → before ≡ partial_in t.handle (path_at ps n)
    → image ≡ option_map (content_of limit n) (received_in queue (limit - 8) (before ++ payload))
    → again ≡ is_again (received_in queue (limit - 8) (before ++ payload))
    → with_path n (transfer_came t.handle part payload image again) ps ≡ with_path n (transferred m n (parts_of (perf.Transfer t)).1 payload) ps
last_heard limit m n t part payload queue before image again ps l h e q b f g =
    let is : received_in queue (limit - 8) (before ++ payload) ≡ received_at limit t.handle payload (path_at ps n) =
    ap (λ (x : List ℕ). received_in x (limit - 8) (before ++ payload)) q
    ∙ ap (λ (x : List ℕ). received_in (queue_at t.handle (path_at ps n)) (limit - 8) (x ++ payload)) b in
    part_heard limit n t part payload image again ps h e (f ∙ ap (option_map (content_of limit n)) is) (g ∙ ap is_again is)
    ∙ ap (λ (k : ℕ). with_path n (transferred k n (parts_of (perf.Transfer t)).1 payload) ps) l

-- ---- what calls make, which may have no memory

pub retold : {A E : Type 0} (r : Result A E) (qs xs ys : List (Option PathState)) → OnOk r (qs ≡ xs) → xs ≡ ys → OnOk r (qs ≡ ys)
retold (Ok a) qs xs ys e f = e ∙ f
retold (Err b) qs xs ys e f = tt

pub more_made : {A E : Type 0} (r : Result A E) (limit n : ℕ) (t : Transfer) (part : Part) (payload : List ℕ) (ps qs : List (Option PathState))
    → part ≡ part_in (parts_of (perf.Transfer t)).1 → None ≡ transfer_fault t.handle part (length payload) (path_at ps n)
    → ((image : Option Content) (again : Bool) → OnOk r (qs ≡ with_path n (transfer_came t.handle part payload image again) ps))
    → OnOk r (qs ≡ with_path n (transferred limit n (parts_of (perf.Transfer t)).1 payload) ps)
more_made (Ok a) limit n t part payload ps qs h e f = more_heard limit n t part payload ps qs h e f
more_made (Err b) limit n t part payload ps qs h e f = tt

pub paths_made : {A E : Type 0} (r : Result A E) (v w : State) (ps : List (Option PathState)) (g : State → List (Option PathState))
    → OnOk r (ps ≡ g v) → v ≡ w → OnOk r (record v { paths = ps } ≡ record w { paths = g w })
paths_made (Ok a) v w ps g e f =
    ap (λ (xs : List (Option PathState)). record v { paths = xs }) e ∙ ap (λ (s : State). record s { paths = g s }) f
paths_made (Err b) v w ps g e f = tt

pub paths_kept : {A E : Type 0} (r : Result A E) (v w : State) (ps : List (Option PathState)) → OnErr r (ps ≡ v.paths) → v ≡ w
    → OnErr r (record v { paths = ps } ≡ w)
paths_kept (Ok a) v w ps e f = tt
paths_kept (Err b) v w ps e f = ap (λ (xs : List (Option PathState)). record v { paths = xs }) e ∙ f

pub paths_retold : {A E : Type 0} (r : Result A E) (v w : State) (ps qs : List (Option PathState)) → OnOk r (v ≡ record w { paths = ps }) → ps ≡ qs
    → OnOk r (v ≡ record w { paths = qs })
paths_retold (Ok a) v w ps qs e f = e ∙ ap (λ (xs : List (Option PathState)). record w { paths = xs }) f
paths_retold (Err b) v w ps qs e f = tt

pub takes_as : {A E : Type 0} (r : Result A E) (b c : Bool) → OnErr r (b ≡ true) → b ≡ c → OnErr r (c ≡ true)
takes_as (Ok a) b c e f = tt
takes_as (Err x) b c e f = sym f ∙ e

-- ---- codes

pub transfer_code : (p : Perf) (t : Transfer) (part : Part) (size : ℕ) (payload : List ℕ) (s x : PathState) (o : Option TransferFault)
    → p ≡ perf.Transfer t → part ≡ part_in (parts_of (perf.Transfer t)).1 → length payload ≡ size → o ≡ transfer_fault t.handle part size s → s ≡ x
    → (if is_some o then Some PRECONDITION_FAILED else None) ≡ closing_code (parts_of p) payload x
unfolding parts_of
transfer_code p t part size payload s x o e f g h i =
    ap (λ (y : Option TransferFault). if is_some y then Some PRECONDITION_FAILED else None)
    (h ∙ ap (λ (m : ℕ). transfer_fault t.handle part m s) (sym g) ∙ ap (λ (q : Part). transfer_fault t.handle q (length payload) s) f)
    ∙ sym (ap (λ (q : Perf). closing_code (parts_of q) payload s) e)
    ∙ ap (closing_code (parts_of p) payload) i

pub detach_code : (p : Perf) (d : Detach) (payload : List ℕ) (s x : PathState) (b : Bool) → p ≡ perf.Detach d → b ≡ closes_channel d.handle s → s ≡ x
    → (if b then Some (code_by (condition_in (maybe error_tree d.error)) scope.Channel) else None) ≡ closing_code (parts_of p) payload x
unfolding parts_of
detach_code p d payload s x b e f i =
    ap (λ (c : Bool). if c then Some (code_by (condition_in (maybe error_tree d.error)) scope.Channel) else None) f
    ∙ sym (ap (λ (q : Perf). closing_code (parts_of q) payload s) e)
    ∙ ap (closing_code (parts_of p) payload) i

pub transfer_heard : (limit n : ℕ) (p : Perf) (t : Transfer) (payload : List ℕ) (ps : List (Option PathState)) → p ≡ perf.Transfer t
    → with_path n (transferred limit n (parts_of (perf.Transfer t)).1 payload) ps ≡ with_path n (path_heard limit n (parts_of p) payload) ps
unfolding parts_of
transfer_heard limit n p t payload ps e = sym (ap (λ (q : Perf). with_path n (path_heard limit n (parts_of q) payload) ps) e)

pub transfer_takes : (p : Perf) (t : Transfer) → p ≡ perf.Transfer t → takes_memory_of (parts_of p) ≡ true
unfolding parts_of
transfer_takes p t e = ap (λ (q : Perf). takes_memory_of (parts_of q)) e

-- ---- performatives

pub attach_link : (p : Perf) (a : Attach) (payload : List ℕ) (x : SessionState) (s : PathState) → p ≡ perf.Attach a
    → link_fault (parts_of (perf.Attach a)) payload x s ≡ link_fault (parts_of p) payload x s
attach_link p a payload x s e = sym (ap (λ (q : Perf). link_fault (parts_of q) payload x s) e)

flow_by : (f : Flow) (h : ℕ) (payload : List ℕ) (x : SessionState) (s : PathState) (b : Bool) → is_attached h s ≡ b
    → link_fault (parts_of (perf.Flow (record f { handle = Some h }))) payload x s ≡ ended_unless b
unfolding parts_of
flow_by f h payload x s true e = ap (λ (b : Bool). fault_in (unattached b) (parts_of (perf.Flow (record f { handle = Some h }))) payload x s) e
flow_by f h payload x s false e = ap (λ (b : Bool). fault_in (unattached b) (parts_of (perf.Flow (record f { handle = Some h }))) payload x s) e

pub flow_link : (p : Perf) (f : Flow) (h : ℕ) (payload : List ℕ) (x : SessionState) (s : PathState) → p ≡ perf.Flow f → f.handle ≡ Some h
    → ended_unless (is_attached h s) ≡ link_fault (parts_of p) payload x s
flow_link p f h payload x s e g =
    sym (ap (λ (q : Perf). link_fault (parts_of q) payload x s) e
    ∙ ap (λ (o : Option ℕ). link_fault (parts_of (perf.Flow (record f { handle = o }))) payload x s) g
    ∙ flow_by f h payload x s (is_attached h s) refl)

detach_by : (d : Detach) (payload : List ℕ) (x : SessionState) (s : PathState) (b : Bool) → is_attached d.handle s ≡ b
    → link_fault (parts_of (perf.Detach d)) payload x s ≡ ended_unless b
unfolding parts_of
detach_by d payload x s true e = ap (λ (b : Bool). fault_in (unattached b) (parts_of (perf.Detach d)) payload x s) e
detach_by d payload x s false e = ap (λ (b : Bool). fault_in (unattached b) (parts_of (perf.Detach d)) payload x s) e

pub detach_link : (p : Perf) (d : Detach) (payload : List ℕ) (x : SessionState) (s : PathState) → p ≡ perf.Detach d
    → ended_unless (is_attached d.handle s) ≡ link_fault (parts_of p) payload x s
detach_link p d payload x s e =
    sym (ap (λ (q : Perf). link_fault (parts_of q) payload x s) e ∙ detach_by d payload x s (is_attached d.handle s) refl)

transfer_by : (t : Transfer) (payload : List ℕ) (x : SessionState) (s : PathState) (o : Option Condition)
    → transfer_error (parts_of (perf.Transfer t)).1 payload x s ≡ o → link_fault (parts_of (perf.Transfer t)) payload x s ≡ ended_by o
unfolding parts_of
transfer_by t payload x s None e = ap (λ (o : Option Condition). fault_in (transfer_scope o) (parts_of (perf.Transfer t)) payload x s) e
transfer_by t payload x s (Some c) e =
    ap (λ (o : Option Condition). fault_in (transfer_scope o) (parts_of (perf.Transfer t)) payload x s) e
    ∙ ap (λ (o : Option Condition). Some (Ends (or_unattached o))) e

pub transfer_link : (p : Perf) (t : Transfer) (payload : List ℕ) (x : SessionState) (s : PathState) → p ≡ perf.Transfer t
    → ended_by (transfer_error (parts_of (perf.Transfer t)).1 payload x s) ≡ link_fault (parts_of p) payload x s
transfer_link p t payload x s e =
    sym (ap (λ (q : Perf). link_fault (parts_of q) payload x s) e ∙ transfer_by t payload x s (transfer_error (parts_of (perf.Transfer t)).1 payload x s) refl)
