-- What a performative that names a link makes of a path.
use Rattle.std.proofs.Common.{◌≡◌, ◌∙◌, ℕ, Bool, true, false, List, Option, None, Some, refl, sym, ap}
use Rattle.std.proofs.Common.{length, ◌%◌, ◌^◌}
use Rattle.std.specs.Prelude.{if◌then◌else◌, is_some}
use Rattle.std.specs.Option.{option_map, unwrap_or}
use Rattle.consume_path.specs.declared.receiving.Part.{Part}
use Rattle.types_10.specs.Fields.{a_binary, a_boolean, a_uint, maybe}
use Rattle.performatives_10.specs.View.{attach_fields, error_tree, source_tree, target_tree}
use Rattle.performatives_10.specs.View.{transfer_fields}
use Rattle.performatives_10.specs.declared.performative.Attach.{Attach}
use Rattle.performatives_10.specs.declared.performative.Detach.{Detach}
use Rattle.performatives_10.specs.declared.performative.Flow.{Flow}
use Rattle.performatives_10.specs.declared.performative.Perf.{Perf}
use Rattle.performatives_10.specs.declared.performative.Perf.TheVariants as perf
use Rattle.performatives_10.specs.declared.performative.Source10.{Source10}
use Rattle.performatives_10.specs.declared.performative.Target10.{Target10}
use Rattle.performatives_10.specs.declared.performative.Transfer.{Transfer}
use Rattle.machine_10.specs.Parts.{parts_of}
use Rattle.machine_10.specs.Reading.{number_in, number_or}
use Rattle.session_path.specs.Path.{PathState, attach_came, detach_came, flow_came}
use Rattle.session_path.specs.declared.path.AttachHeard.{AttachHeard}
use Rattle.gate_model.specs.Paths.{attached_as, binary_in, credit_of, heard_as, is_not_found}
use Rattle.gate_model.specs.Paths.{is_there, name_in, part_in}
use Rattle.gate_model.specs.Session.{is_true}
use Rattle.gate_model.specs.Upstream.{condition_in}
use Rattle.gate_model.specs.State.{path_heard}

pub detach_heard : (p : Perf) (d : Detach) (b : Bool) → p ≡ perf.Detach d → b ≡ is_not_found (condition_in (maybe error_tree d.error))
    → (limit n : ℕ) (payload : List ℕ) (s : PathState) → detach_came d.handle b s ≡ path_heard limit n (parts_of p) payload s
unfolding parts_of
detach_heard p d b e f limit n payload s =
    ap (λ (c : Bool). detach_came d.handle c s) f ∙ sym (ap (λ (q : Perf). path_heard limit n (parts_of q) payload s) e)

-- ---- attaches

target_there : (o : Option Target10) → is_there (maybe target_tree o) ≡ is_some o
target_there None = refl
target_there (Some t) = refl

source_there : (o : Option Source10) → is_there (maybe source_tree o) ≡ is_some o
source_there None = refl
source_there (Some x) = refl

count_at : (o : Option ℕ) → number_or 0 (number_in (maybe a_uint o)) ≡ unwrap_or o 0
count_at None = refl
count_at (Some n) = refl

pub target_in : (a : Attach) (b : Bool) → a.role ≡ true → b ≡ is_some a.target → b ≡ (if a.role then is_some a.target else is_some a.source)
target_in a b e f = f ∙ ap (λ (r : Bool). if r then is_some a.target else is_some a.source) (sym e)

pub source_in : (a : Attach) (b : Bool) → a.role ≡ false → b ≡ is_some a.source → b ≡ (if a.role then is_some a.target else is_some a.source)
source_in a b e f = f ∙ ap (λ (r : Bool). if r then is_some a.target else is_some a.source) (sym e)

abbrev pub heard_by : Attach → ℕ → Bool → ℕ → AttachHeard
heard_by a name there count = record { name = name; peer = a.handle; role = a.role; there = there; count = count }

pub heard_is : (a : Attach) (name : ℕ) (there : Bool) (count : ℕ) → there ≡ (if a.role then is_some a.target else is_some a.source)
    → count ≡ unwrap_or a.initial_delivery_count 0
    → heard_by a name there count ≡ heard_as (parts_of (perf.Attach a)).1 name
unfolding parts_of
heard_is a name there count e f =
    ap (λ (b : Bool). heard_by a name b count)
    (e ∙ ap (λ (b : Bool). if a.role then b else is_some a.source) (sym (target_there a.target))
    ∙ ap (λ (b : Bool). if a.role then is_there (maybe target_tree a.target) else b) (sym (source_there a.source)))
    ∙ ap (heard_by a name (if a.role then is_there (maybe target_tree a.target) else is_there (maybe source_tree a.source))) (f ∙ sym (count_at a.initial_delivery_count))

pub attach_heard : (p : Perf) (a : Attach) (name : ℕ) (h : AttachHeard) → p ≡ perf.Attach a → name_in a.name ≡ Some name
    → h ≡ heard_as (parts_of (perf.Attach a)).1 name
    → (limit n : ℕ) (payload : List ℕ) (s : PathState) → attach_came h s ≡ path_heard limit n (parts_of p) payload s
unfolding parts_of
attach_heard p a name h e named is limit n payload s =
    sym (ap (λ (q : Perf). path_heard limit n (parts_of q) payload s) e
    ∙ ap (λ (o : Option ℕ). attached_as o (attach_fields a) s) named
    ∙ ap (λ (x : AttachHeard). attach_came x s) (sym is))

-- ---- flows

flow_by : (f : Flow) (h : ℕ) (count credit : Option ℕ) (limit n : ℕ) (payload : List ℕ) (s : PathState)
    → path_heard limit n (parts_of (perf.Flow (record f { handle = Some h; delivery_count = count; link_credit = credit }))) payload s
    ≡ flow_came h count (credit_of credit) f.drain f.echo s
unfolding parts_of
flow_by f h None None limit n payload s = refl
flow_by f h None (Some m) limit n payload s = refl
flow_by f h (Some k) None limit n payload s = refl
flow_by f h (Some k) (Some m) limit n payload s = refl

pub flow_heard : (p : Perf) (f : Flow) (h : ℕ) (count : Option ℕ) (credit : ℕ) (drain echo : Bool) → p ≡ perf.Flow f → f.handle ≡ Some h
    → count ≡ f.delivery_count → credit ≡ credit_of f.link_credit → drain ≡ f.drain → echo ≡ f.echo
    → (limit n : ℕ) (payload : List ℕ) (s : PathState) → flow_came h count credit drain echo s ≡ path_heard limit n (parts_of p) payload s
flow_heard p f h count credit drain echo e g of_count of_credit of_drain of_echo limit n payload s =
    ap (λ (x : Option ℕ). flow_came h x credit drain echo s) of_count
    ∙ ap (λ (x : ℕ). flow_came h f.delivery_count x drain echo s) of_credit
    ∙ ap (λ (x : Bool). flow_came h f.delivery_count (credit_of f.link_credit) x echo s) of_drain
    ∙ ap (λ (x : Bool). flow_came h f.delivery_count (credit_of f.link_credit) f.drain x s) of_echo
    ∙ sym (ap (λ (q : Perf). path_heard limit n (parts_of q) payload s) e
    ∙ ap (λ (o : Option ℕ). path_heard limit n (parts_of (perf.Flow (record f { handle = o }))) payload s) g
    ∙ flow_by f h f.delivery_count f.link_credit limit n payload s)

-- ---- transfers

number_there : (o : Option ℕ) → number_in (maybe a_uint o) ≡ o
number_there None = refl
number_there (Some n) = refl

length_there : (o : Option (List ℕ)) → option_map length (binary_in (maybe a_binary o)) ≡ option_map length o
length_there None = refl
length_there (Some s) = refl

flag_there : (o : Option Bool) → is_true (maybe a_boolean o) ≡ unwrap_or o false
flag_there None = refl
flag_there (Some b) = refl

pub part_is : (t : Transfer) (p : Part) → p.id ≡ option_map (λ (id : ℕ). id % 2 ^ 32) t.delivery_id → p.tag_length ≡ option_map length t.delivery_tag
    → p.settled ≡ unwrap_or t.settled false → p.more ≡ t.more → p.aborted ≡ t.aborted → p.resume ≡ t.resume
    → p ≡ part_in (parts_of (perf.Transfer t)).1
unfolding parts_of
part_is t p id long settled more aborted resume =
    ap (λ (o : Option ℕ). record p { id = o }) (id ∙ ap (option_map (λ (i : ℕ). i % 2 ^ 32)) (sym (number_there t.delivery_id)))
    ∙ ap (λ (o : Option ℕ). record p { id = option_map (λ (i : ℕ). i % 2 ^ 32) (number_in (maybe a_uint t.delivery_id)); tag_length = o }) (long ∙ sym (length_there t.delivery_tag))
    ∙ ap (λ (b : Bool). record (part_in (transfer_fields t)) { settled = b; more = p.more; aborted = p.aborted; resume = p.resume }) (settled ∙ sym (flag_there t.settled))
    ∙ ap (λ (b : Bool). record (part_in (transfer_fields t)) { more = b; aborted = p.aborted; resume = p.resume }) more
    ∙ ap (λ (b : Bool). record (part_in (transfer_fields t)) { aborted = b; resume = p.resume }) aborted
    ∙ ap (λ (b : Bool). record (part_in (transfer_fields t)) { resume = b }) resume
