-- What becomes of what a unit wants is what the step makes of it.
use Rattle.std.proofs.Common.{◌≡◌, ◌∙◌, ℕ, ◌+◌, Bool, true, false, not, ◌&&◌, ◌||◌, List, Option}
use Rattle.std.proofs.Common.{None, Some, [], inl, inr, is_some, if◌then◌else◌, unwrap_or, refl, sym, ap, subst, arith}
use Rattle.content_091.specs.declared.assembly.Content.{Content}
use Rattle.methods_091.specs.declared.method.Method91.{Method91}
use Rattle.close_translate.specs.declared.codes.TheConstants.{NOT_FOUND, PRECONDITION_FAILED}
use Rattle.property_map.specs.Image.{IsFault10, first_fault}
use Rattle.property_map.specs.Spelling.{image_text}
use Rattle.property_map.specs.Told.{told_of}
use Rattle.property_map.specs.declared.fault.MapFault.{MapFault}
use Rattle.property_map.specs.declared.message.Message091.{Message091}
use Rattle.property_map.specs.declared.told.Told.{Told}
use Rattle.machine_091.specs.Calls.{after_closing}
use Rattle.machine_091.specs.RefusalsOpening.{is_login}
use Rattle.machine_091.specs.State.{is_closing}
use Rattle.machine_091.specs.Transitions.{Step, unit_step}
use Rattle.machine_091.specs.declared.state.Connection.{Connection}
use Rattle.machine_091.specs.declared.unit.Refusal.{Refusal}
use Rattle.machine_091.specs.declared.unit.Unit91.{Unit91}
use Rattle.machine_091.specs.declared.unit.Want91.{Want91}
use Rattle.machine_091.specs.declared.unit.Want91.TheVariants as want
use Rattle.session_path.specs.Path.{PathState, published}
use Rattle.gate_model.specs.Paths.{with_path}
use Rattle.gate_model.specs.Requests.{address_for, address_of, message_of, refusal_for}
use Rattle.gate_model.specs.Requests.{refusal_of_want, refused_by, refused_for, told_by, told_in}
use Rattle.gate_model.specs.Returns.{back_of, is_mandatory}
use Rattle.gate_model.specs.declared.setup.Route.{Route}
use Rattle.gate_model.specs.State.{State, came, condition_by, is_foreign, keep_login, want_in}
use Rattle.gate_model.specs.State as state
use Rattle.gate_model.specs.Upstream.{UpState, closing_with}
use Rattle.performatives_10.specs.declared.condition.Condition.{Condition}
use Rattle.bridge_core.specs.Going.{KeepsGoing}
use Rattle.bridge_core.specs.Logins.{IsLoginWant}
use Rattle.bridge_core.specs.Met.{IsLoginMet, IsMet, IsOf, IsPublish, applied, back_if, counted}
use Rattle.bridge_core.specs.Met.{is_publish}
use Rattle.bridge_core.specs.Met.{takes_memory_for, takes_memory_met}
use Rattle.bridge_core.specs.declared.requests.Met.{Met}
use Rattle.bridge_core.specs.declared.requests.Met.TheVariants as met
use Rattle.bridge_core.specs.declared.requests.Published.{Published}
use Rattle.bridge_core.specs.declared.requests.Published.TheVariants as outcome

-- ---- a publish

-- one that has an address and an image is sent there
none_at : (o : Option (List ℕ)) (f : Option MapFault) (a : List ℕ) → Some a ≡ o → f ≡ None
    → (if not (is_some o) then Some NOT_FOUND else if is_some f then Some PRECONDITION_FAILED else None) ≡ None
none_at None f a at e = absurd cc
none_at (Some b) None a at e = refl
none_at (Some b) (Some f) a at e = absurd cc

pub publish_sent : (routes : List Route) (l n : ℕ) (mandatory : Bool) (m x : Message091) (a address payload : List ℕ) (back : List (List ℕ))
    → Some a ≡ address_for routes m → address ≡ a → x ≡ m → first_fault x ≡ None → payload ≡ image_text x → back ≡ back_if mandatory l n m
    → IsPublish routes l n mandatory m (outcome.Sent address payload back)
publish_sent routes l n mandatory m x a address payload back at is same right image gives = (
  none_at (address_for routes m) (first_fault m) a at (sym (ap first_fault same) ∙ right),
  is ∙ ap (λ (o : Option (List ℕ)). unwrap_or o []) at,
  image ∙ ap image_text same,
  gives,
)

-- one that has an address and no image is refused, and its first fault is told
fault_at : (o : Option (List ℕ)) (f : Option MapFault) (a : List ℕ) (g : MapFault) → Some a ≡ o → f ≡ Some g
    → (if not (is_some o) then Some NOT_FOUND else if is_some f then Some PRECONDITION_FAILED else None) ≡ Some PRECONDITION_FAILED
fault_at None f a g at e = absurd cc
fault_at (Some b) None a g at e = absurd cc
fault_at (Some b) (Some f) a g at e = refl

told_at : (o : Option (List ℕ)) (a : List ℕ) (t : Option Told) → Some a ≡ o → t ≡ (if is_some o then t else None)
told_at None a t at = absurd cc
told_at (Some b) a t at = refl

-- what is told is told of a fault, and not where memory ran out
named : (x : Message091) (f : MapFault) (told : Told) → IsFault10 x f → Some told ≡ told_of f → first_fault x ≡ Some f
named x f told (inl is) tells = by (tells ∙ ap told_of is)
  where
    by : Some told ≡ None → first_fault x ≡ Some f
    by e = absurd cc
named x f told (inr is) tells = is

pub publish_refused : (routes : List Route) (l n : ℕ) (mandatory : Bool) (m x : Message091) (a : List ℕ) (f : MapFault) (told : Told)
    → Some a ≡ address_for routes m → x ≡ m → IsFault10 x f → Some told ≡ told_of f
    → IsPublish routes l n mandatory m (outcome.Refused PRECONDITION_FAILED (Some told))
publish_refused routes l n mandatory m x a f told at same wrong tells =
    let found : first_fault m ≡ Some f = sym (ap first_fault same) ∙ named x f told wrong tells in (
      fault_at (address_for routes m) (first_fault m) a f at found,
      tells ∙ sym (ap told_by found) ∙ told_at (address_for routes m) a (told_by (first_fault m)) at,
    )

-- that of its method and its content
own_publish : (routes : List Route) (l n : ℕ) (m : Method91) (b : Content) (mandatory : Bool) (x : Message091) (p q : Published) → x ≡ message_of m b → mandatory ≡ is_mandatory m → p ≡ q
    → IsPublish routes l n mandatory x p → IsPublish routes l n (is_mandatory m) (message_of m b) q
own_publish routes l n m b mandatory x p q is flag of h =
    subst (λ (y : Bool). IsPublish routes l n y (message_of m b) q) flag
    (subst (λ (y : Message091). IsPublish routes l n mandatory y q) is (subst (IsPublish routes l n mandatory x) of h))

pub sent_met : (routes : List Route) (ps : List (Option PathState)) (n : ℕ) (m : Method91) (b : Content) (c : Connection) (l : ℕ) (mandatory : Bool) (x : Message091) (p : Published) (address payload : List ℕ) (back : List (List ℕ))
    → l ≡ c.limits.frame_max → x ≡ message_of m b → mandatory ≡ is_mandatory m → p ≡ outcome.Sent address payload back → IsPublish routes l n mandatory x p
    → IsMet routes ps (want.Publish n m b) c c (met.Publish n address payload back)
sent_met routes ps n m b c l mandatory x p address payload back fits is flag of h =
    let own : IsPublish routes c.limits.frame_max n (is_mandatory m) (message_of m b) (outcome.Sent address payload back) =
    own_publish routes c.limits.frame_max n m b mandatory x p (outcome.Sent address payload back) is flag of (subst (λ (k : ℕ). IsPublish routes k n mandatory x p) fits h) in
    (refl, ap (refused_for n m) own.0, (refl, own.1, own.2, own.3))

pub refused_met : (routes : List Route) (ps : List (Option PathState)) (n : ℕ) (m : Method91) (b : Content) (c d : Connection) (r : Refusal) (t : Met) (l : ℕ) (mandatory : Bool) (x : Message091) (p : Published) (code : ℕ) (told : Option Told)
    → l ≡ c.limits.frame_max → x ≡ message_of m b → mandatory ≡ is_mandatory m → p ≡ outcome.Refused code told → IsPublish routes l n mandatory x p
    → r ≡ refusal_for n m code → d ≡ after_closing r.scope r.channel c → t ≡ met.Want (want.Refuse r) told → IsMet routes ps (want.Publish n m b) c d t
refused_met routes ps n m b c d r t l mandatory x p code told fits is flag of h refuses closes tells =
    let own : IsPublish routes c.limits.frame_max n (is_mandatory m) (message_of m b) (outcome.Refused code told) =
    own_publish routes c.limits.frame_max n m b mandatory x p (outcome.Refused code told) is flag of (subst (λ (k : ℕ). IsPublish routes k n mandatory x p) fits h) in
    subst (IsMet routes ps (want.Publish n m b) c d) (sym tells) (
      ap (λ (e : Connection). (e, want.Refuse r)) closes
          ∙ ap (λ (q : Option Refusal). refused_by q (c, want.Publish n m b)) (ap Some refuses ∙ ap (refused_for n m) (sym own.0)),
      refl,
      own.1,
    )

-- ---- which may run out of memory

pub publish_takes : (x : Want91) → is_publish x ≡ true → takes_memory_for x ≡ true
publish_takes want.Nothing e = absurd cc
publish_takes want.Start e = absurd cc
publish_takes (want.Login mechanism response) e = absurd cc
publish_takes want.Tuned e = absurd cc
publish_takes want.OpenUp e = absurd cc
publish_takes (want.Method n m) e = absurd cc
publish_takes (want.Publish n m c) e = refl
publish_takes (want.ChannelCloseOk n) e = absurd cc
publish_takes want.Close e = absurd cc
publish_takes want.CloseOk e = absurd cc
publish_takes (want.Refuse r) e = absurd cc

-- a publish comes of nothing else
of_publish : (routes : List Route) (l : ℕ) (x : Want91) (n : ℕ) (address payload : List ℕ) (back : List (List ℕ)) → IsOf routes l x n address payload back → is_publish x ≡ true
of_publish routes l want.Nothing n address payload back of = of
of_publish routes l want.Start n address payload back of = of
of_publish routes l (want.Login mechanism response) n address payload back of = of
of_publish routes l want.Tuned n address payload back of = of
of_publish routes l want.OpenUp n address payload back of = of
of_publish routes l (want.Method k m) n address payload back of = of
of_publish routes l (want.Publish k m c) n address payload back of = refl
of_publish routes l (want.ChannelCloseOk k) n address payload back of = of
of_publish routes l want.Close n address payload back of = of
of_publish routes l want.CloseOk n address payload back of = of
of_publish routes l (want.Refuse r) n address payload back of = of

-- what may run out of memory is no refusal
pub met_takes : (routes : List Route) (ps : List (Option PathState)) (x : Want91) (c d : Connection) (m : Met) → IsMet routes ps x c d m → takes_memory_met m ≡ true → (d ≡ c) × (takes_memory_for x ≡ true)
met_takes routes ps x c d (met.Want y told) i e = by (refusal_of_want routes ps x) i.0
  where
    by : (r : Option Refusal) → (d, y) ≡ refused_by r (c, x) → (d ≡ c) × (takes_memory_for x ≡ true)
    by None k = (ap (λ (s : Step). s.0) k, sym (ap (λ (s : Step). takes_memory_for s.1) k) ∙ e)
    by (Some r) k = let none : takes_memory_for y ≡ false = ap (λ (s : Step). takes_memory_for s.1) k in absurd cc
met_takes routes ps x c d (met.Publish n address payload back) i e = (i.0, publish_takes x (of_publish routes c.limits.frame_max x n address payload back i.2))

-- ---- logins

-- a login that is taken is one that a client may tell: a law of the connection
abbrev pub LoginsNamed : Type 0
LoginsNamed = (c : Connection) (u : Unit91) (mechanism response : List ℕ) → (unit_step c u).1 ≡ want.Login mechanism response → is_login mechanism response ≡ true

login_want : LoginsNamed → (c : Connection) (u : Unit91) (x : Want91) → x ≡ (unit_step c u).1 → IsLoginWant x
login_want law c u want.Nothing is = tt
login_want law c u want.Start is = tt
login_want law c u (want.Login mechanism response) is = law c u mechanism response (sym is)
login_want law c u want.Tuned is = tt
login_want law c u want.OpenUp is = tt
login_want law c u (want.Method n m) is = tt
login_want law c u (want.Publish n m b) is = tt
login_want law c u (want.ChannelCloseOk n) is = tt
login_want law c u want.Close is = tt
login_want law c u want.CloseOk is = tt
login_want law c u (want.Refuse r) is = tt

-- a login that is met is one that a client may tell
pub login_met : LoginsNamed → (routes : List Route) (ps : List (Option PathState)) (k : Connection) (u : Unit91) (x : Want91) (c d : Connection) (m : Met) → x ≡ (unit_step k u).1 → IsMet routes ps x c d m → IsLoginMet m
login_met law routes ps k u x c d (met.Want y told) is i = by (refusal_of_want routes ps x) i.0
  where
    by : (r : Option Refusal) → (d, y) ≡ refused_by r (c, x) → IsLoginWant y
    by None e = subst (λ (s : Step). IsLoginWant s.1) (sym e) (login_want law k u x is)
    by (Some r) e = subst (λ (s : Step). IsLoginWant s.1) (sym e) tt
login_met law routes ps k u x c d (met.Publish n address payload back) is i = tt

-- ---- the state

abbrev met_by : Bool → Option Told → State → Step → State
met_by closing told w s = state.met closing told s.1 (record w { conn = s.0 })

nothing_more : (b closing : Bool) → (b || (not closing && false)) ≡ b
nothing_more true closing = refl
nothing_more false true = refl
nothing_more false false = refl

-- a publish changes a path alone
published_met : (closing : Bool) (told : Option Told) (w : State) (c : Connection) (n : ℕ) (m : Method91) (b : Content)
    → record w {
      conn = c;
      paths = with_path n (published (address_of w.routes (message_of m b)) (image_text (message_of m b)) (back_of c.limits.frame_max n m (message_of m b))) w.paths;
      up = closing_with closing None w.up;
    } ≡ met_by closing told w (c, want.Publish n m b)
published_met closing told w c n m b =
    ap (λ (k : ℕ). at k w.client_closed) none ∙ ap (at (w.opened + 0)) (sym (nothing_more w.client_closed closing))
  where
    none : w.opened ≡ w.opened + 0
    none = omega arith

    at : ℕ → Bool → State
    at k closed = record w {
      conn = c;
      paths = with_path n (published (address_of w.routes (message_of m b)) (image_text (message_of m b)) (back_of c.limits.frame_max n m (message_of m b))) w.paths;
      opened = k;
      up = closing_with closing None w.up;
      client_closed = closed;
    }

applied_met : (closing : Bool) (w : State) (x : Want91) (c d : Connection) (m : Met) → IsMet w.routes w.paths x c d m
    → applied closing m (record w { conn = d }) ≡ met_by closing (told_in w.routes x) w (refused_by (refusal_of_want w.routes w.paths x) (c, x))
applied_met closing w x c d (met.Want y told) i = ap (λ (t : Option Told). met_by closing t w (d, y)) i.2 ∙ ap (met_by closing (told_in w.routes x) w) i.0
applied_met closing w x c d (met.Publish n address payload back) i =
    by x i.2 ∙ ap (λ (r : Option Refusal). met_by closing (told_in w.routes x) w (refused_by r (c, x))) (sym i.1)
  where
    no : {A : Type 0} → false ≡ true → A
    no e = absurd cc

    at : Connection → ℕ → List ℕ → List ℕ → List (List ℕ) → State
    at e k a p r = record w { conn = e; paths = with_path k (published a p r) w.paths; up = closing_with closing None w.up }

    by : (x : Want91) → IsOf w.routes c.limits.frame_max x n address payload back → at d n address payload back ≡ met_by closing (told_in w.routes x) w (c, x)
    by want.Nothing of = no of
    by want.Start of = no of
    by (want.Login mechanism response) of = no of
    by want.Tuned of = no of
    by want.OpenUp of = no of
    by (want.Method k m) of = no of
    by (want.Publish k m b) of =
        ap (λ (e : Connection). at e n address payload back) i.0
        ∙ ap (λ (j : ℕ). at c j address payload back) of.0
        ∙ ap (λ (a : List ℕ). at c k a payload back) of.1
        ∙ ap (λ (p : List ℕ). at c k (address_of w.routes (message_of m b)) p back) of.2
        ∙ ap (at c k (address_of w.routes (message_of m b)) (image_text (message_of m b))) of.3
        ∙ published_met closing (told_in w.routes (want.Publish k m b)) w c k m b
    by (want.ChannelCloseOk k) of = no of
    by want.Close of = no of
    by want.CloseOk of = no of
    by (want.Refuse r) of = no of

-- the whole step, where the connection took the unit, and that is its want
pub came_is : (v w z new : State) (u : Unit91) (x : Want91) (c d : Connection) (m : Met) (foreign closing : Bool) → v ≡ w
    → foreign ≡ is_foreign v.conn.stream → closing ≡ is_closing v.conn → c ≡ (unit_step v.conn u).0 → x ≡ (unit_step v.conn u).1 → IsMet v.routes v.paths x c d m
    → z ≡ applied closing m (record v { conn = d }) → new ≡ counted foreign z → new ≡ came w u
came_is v w z new u x c d m foreign closing same turns closes at is i met counts =
    counts
    ∙ ap (λ (b : Bool). counted b z) turns
    ∙ ap (counted (is_foreign v.conn.stream))
    (met ∙ ap (λ (b : Bool). applied b m (record v { conn = d })) closes ∙ applied_met (is_closing v.conn) v x c d m i
    ∙ ap (λ (s : Step). met_by (is_closing v.conn) (told_in v.routes s.1) v (refused_by (refusal_of_want v.routes v.paths s.1) s))
    (ap (λ (e : Connection). (e, x)) at ∙ ap (λ (y : Want91). ((unit_step v.conn u).0, y)) is))
    ∙ ap (λ (t : State). came t u) same

-- a unit that wants nothing changes what is told the container at the close alone
nothing_met : (closing : Bool) (v : State) (c : Connection)
    → record v { conn = c; up = closing_with closing None v.up } ≡ applied closing (met.Want want.Nothing None) (record v { conn = c })
nothing_met closing v c =
    ap (λ (k : ℕ). at k v.client_closed) none ∙ ap (at (v.opened + 0)) (sym (nothing_more v.client_closed closing))
  where
    none : v.opened ≡ v.opened + 0
    none = omega arith

    at : ℕ → Bool → State
    at k closed = record v { conn = c; opened = k; up = closing_with closing None v.up; client_closed = closed }

-- the whole step of one
pub passed_is : (v w new : State) (u : Unit91) (x : Want91) (c : Connection) (foreign closing : Bool) → v ≡ w
    → foreign ≡ is_foreign v.conn.stream → closing ≡ is_closing v.conn → c ≡ (unit_step v.conn u).0 → x ≡ (unit_step v.conn u).1 → x ≡ want.Nothing
    → new ≡ counted foreign (record v { conn = c; up = closing_with closing None v.up }) → new ≡ came w u
passed_is v w new u x c foreign closing same turns closes at is nothing counts =
    came_is v w (record v { conn = c; up = closing_with closing None v.up }) new u want.Nothing c c (met.Want want.Nothing None) foreign closing
    same turns closes at (sym nothing ∙ is) (refl, refl, refl) (nothing_met closing v c) counts

-- the units in progress stay
closing_keeps : (closing : Bool) (why : Option Condition) (s : UpState) → (closing_with closing why s).in_progress ≡ s.in_progress
closing_keeps true why s = refl
closing_keeps false why s = refl

login_keeps : (x : Want91) (s : UpState) → (keep_login x s).in_progress ≡ s.in_progress
login_keeps want.Nothing s = refl
login_keeps want.Start s = refl
login_keeps (want.Login mechanism response) s = refl
login_keeps want.Tuned s = refl
login_keeps want.OpenUp s = refl
login_keeps (want.Method n m) s = refl
login_keeps (want.Publish n m b) s = refl
login_keeps (want.ChannelCloseOk n) s = refl
login_keeps want.Close s = refl
login_keeps want.CloseOk s = refl
login_keeps (want.Refuse r) s = refl

pub came_keeps : (w new : State) (u : Unit91) → new ≡ came w u → KeepsGoing w new
came_keeps w new u e = subst (KeepsGoing w) (sym e) (record {
  client = refl;
  up =
      closing_keeps (is_closing w.conn) (condition_by (want_in w.routes w.paths w.conn u)) (keep_login (want_in w.routes w.paths w.conn u) w.up)
      ∙ login_keeps (want_in w.routes w.paths w.conn u) w.up;
})
