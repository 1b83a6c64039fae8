-- The first place of the order of refusals that applies, where the code asks for the places in groups.
use Rattle.std.proofs.Common.{◌≡◌, Bool, true, false, cond, List, [], ◌∷◌, ◌++◌, Option, None, Some}
use Rattle.std.proofs.Common.{Ok, Err, refl, sym, ap, ◌∙◌}
use Rattle.wire_base.specs.declared.scan.At.{At}
use Rattle.frames_091.specs.declared.frame.Frame91.{Frame91}
use Rattle.frames_091.specs.declared.frame.Kind91.TheVariants as frame
use Rattle.methods_091.specs.Reading.{Read, method_in}
use Rattle.methods_091.specs.View.{kind_of, args_of, parts_of}
use Rattle.methods_091.specs.declared.method.Method91.{Method91}
use Rattle.methods_091.specs.declared.reading.MethodFault.{MethodFault}
use Rattle.machine_091.specs.Checked.{IsFirstOf}
use Rattle.machine_091.specs.Refusals.{places, channel_place, closing_place, content_place}
use Rattle.machine_091.specs.RefusalsFrames.{first, refused, fault_code}
use Rattle.machine_091.specs.RefusalsOpening.{expected_order, opening_refusal}
use Rattle.machine_091.specs.RefusalsRunning.{class_order, running_state, running_refusal}
use Rattle.machine_091.specs.State.{is_running, channel_at}
use Rattle.machine_091.specs.declared.state.Connection.{Connection}
use Rattle.machine_091.specs.declared.unit.Ruling.{Ruling}

-- ---- the places of a method frame

-- those that ask for its channel and the content in progress there
abbrev pub method_places : Connection → Frame91 → List (Option Ruling)
method_places c f = channel_place c f frame.Method ∷ closing_place c f frame.Method ∷ content_place c f frame.Method ∷ []

-- those behind them, of a method that was read
abbrev behind : Connection → Frame91 → Method91 → Bool → List (Option Ruling)
behind c f m runs =
    None
    ∷ cond runs (running_state (channel_at c f.channel) f.channel (kind_of m)) None
    ∷ cond runs (running_refusal c.carried_max f.channel (kind_of m) (args_of m)) (opening_refusal c (args_of m))
    ∷ []

-- all of them, of a method that was read
abbrev order : Connection → Frame91 → Method91 → Bool → List (Option Ruling)
order c f m runs =
    None ∷ cond runs (class_order f.channel f.payload) (expected_order c (Ok (parts_of m))) ∷ method_places c f ++ behind c f m runs

-- of one that can't be read
abbrev unread : Connection → Frame91 → At MethodFault → Bool → List (Option Ruling)
unread c f e runs = None ∷ cond runs (class_order f.channel f.payload) None ∷ method_places c f ++ refused (fault_code e.fault) ∷ None ∷ None ∷ []

read_order : (c : Connection) (f : Frame91) (m : Method91) (runs : Bool) → method_in f.payload ≡ Ok (parts_of m) → is_running c.phase ≡ runs
    → places c f (method_in f.payload) frame.Method ≡ order c f m runs
read_order c f m runs read is = ap (λ (r : Read). places c f r frame.Method) read ∙ ap (order c f m) is

unread_order : (c : Connection) (f : Frame91) (e : At MethodFault) (runs : Bool) → method_in f.payload ≡ Err e → is_running c.phase ≡ runs
    → places c f (method_in f.payload) frame.Method ≡ unread c f e runs
unread_order c f e runs read is = ap (λ (r : Read). places c f r frame.Method) read ∙ ap (unread c f e) is

-- ---- before the connection runs

-- a place that stands alone
alone : (o : Option Ruling) → first (o ∷ []) ≡ o
alone None = refl
alone (Some r) = refl

pub opening_some : (c : Connection) (f : Frame91) (m : Method91) (r : Ruling) → is_running c.phase ≡ false → method_in f.payload ≡ Ok (parts_of m)
    → None ≡ expected_order c (Ok (parts_of m)) → IsFirstOf (method_places c f) (Some r) → Some r ≡ first (places c f (method_in f.payload) frame.Method)
opening_some c f m r opening read none ruled =
    sym (ap first (read_order c f m false read opening)
    ∙ ap (λ (o : Option Ruling). first (o ∷ method_places c f ++ behind c f m false)) (sym none)
    ∙ ruled (behind c f m false))

pub opening_none : (c : Connection) (f : Frame91) (m : Method91) (o : Option Ruling) → is_running c.phase ≡ false → method_in f.payload ≡ Ok (parts_of m)
    → None ≡ expected_order c (Ok (parts_of m)) → IsFirstOf (method_places c f) None → o ≡ opening_refusal c (args_of m)
    → o ≡ first (places c f (method_in f.payload) frame.Method)
opening_none c f m o opening read none ruled own =
    sym (ap first (read_order c f m false read opening)
    ∙ ap (λ (o : Option Ruling). first (o ∷ method_places c f ++ behind c f m false)) (sym none)
    ∙ ruled (behind c f m false) ∙ alone (opening_refusal c (args_of m)) ∙ sym own)

-- ---- a method that can't be read

pub unread_some : (c : Connection) (f : Frame91) (e : At MethodFault) (r : Ruling) → is_running c.phase ≡ false → method_in f.payload ≡ Err e
    → IsFirstOf (method_places c f) (Some r) → first (places c f (method_in f.payload) frame.Method) ≡ Some r
unread_some c f e r opening read ruled = ap first (unread_order c f e false read opening) ∙ ruled (refused (fault_code e.fault) ∷ None ∷ None ∷ [])

pub unread_none : (c : Connection) (f : Frame91) (e : At MethodFault) → is_running c.phase ≡ false → method_in f.payload ≡ Err e
    → IsFirstOf (method_places c f) None → first (places c f (method_in f.payload) frame.Method) ≡ refused (fault_code e.fault)
unread_none c f e opening read ruled = ap first (unread_order c f e false read opening) ∙ ruled (refused (fault_code e.fault) ∷ None ∷ None ∷ [])

-- ---- once the connection runs

-- whether it is read or not, the class and the channel come first
pub running_some : (c : Connection) (f : Frame91) (r : Ruling) → is_running c.phase ≡ true → None ≡ class_order f.channel f.payload
    → IsFirstOf (method_places c f) (Some r) → first (places c f (method_in f.payload) frame.Method) ≡ Some r
running_some c f r runs none ruled = by (method_in f.payload)
  where
    passed : (o : Option Ruling) (rest : List (Option Ruling)) → first (cond (is_running c.phase) (class_order f.channel f.payload) o ∷ method_places c f ++ rest) ≡ Some r
    passed o rest =
        ap (λ (b : Bool). first (cond b (class_order f.channel f.payload) o ∷ method_places c f ++ rest)) runs
        ∙ ap (λ (p : Option Ruling). first (p ∷ method_places c f ++ rest)) (sym none) ∙ ruled rest

    by : (read : Read) → first (places c f read frame.Method) ≡ Some r
    by (Ok m) = passed (expected_order c (Ok m)) _
    by (Err e) = passed None _

pub running_unread : (c : Connection) (f : Frame91) (e : At MethodFault) → is_running c.phase ≡ true → method_in f.payload ≡ Err e
    → None ≡ class_order f.channel f.payload → IsFirstOf (method_places c f) None
    → first (places c f (method_in f.payload) frame.Method) ≡ refused (fault_code e.fault)
running_unread c f e runs read none ruled =
    ap first (unread_order c f e true read runs)
    ∙ ap (λ (p : Option Ruling). first (p ∷ method_places c f ++ refused (fault_code e.fault) ∷ None ∷ None ∷ [])) (sym none)
    ∙ ruled (refused (fault_code e.fault) ∷ None ∷ None ∷ [])

-- a method that was read is asked for its state, and then for its own refusals
pub running_read : (c : Connection) (f : Frame91) (m : Method91) → is_running c.phase ≡ true → method_in f.payload ≡ Ok (parts_of m)
    → None ≡ class_order f.channel f.payload → IsFirstOf (method_places c f) None
    → first (places c f (method_in f.payload) frame.Method)
    ≡ first (running_state (channel_at c f.channel) f.channel (kind_of m) ∷ running_refusal c.carried_max f.channel (kind_of m) (args_of m) ∷ [])
running_read c f m runs read none ruled =
    ap first (read_order c f m true read runs)
    ∙ ap (λ (p : Option Ruling). first (p ∷ method_places c f ++ behind c f m true)) (sym none) ∙ ruled (behind c f m true)
