-- The units that are due to an end are those of its rows, in their order.
use Rattle.std.proofs.Common.{◌≡◌, Bool, true, false, not, List, [], ◌∷◌, ◌++◌, refl, if◌then◌else◌}
use Rattle.std.proofs.Common.{append_assoc, append-nil}
use Rattle.gate_model.specs.Due.{attaches, begins, channel_closes, channel_oks, client_rows, close_behind, close_oks}
use Rattle.gate_model.specs.Due.{confirms, consume_oks, contents, delivers, detaches, disposals, ends, gets, if_so, is_beat_due, last_closes}
use Rattle.gate_model.specs.Due.{link_flows, may_answer, may_confirm_some, may_end, may_go, may_idle, may_return, may_tell, open_oks, openings}
use Rattle.gate_model.specs.Due.{path_oks, rows_in, session_flows, settlings, transfers, unless_out, up_rows, when, writings}
use Rattle.gate_model.specs.State.{State, is_settled}
use Rattle.gate_model.specs.Upstream.{opening_rows, when_up}
use Rattle.gate_model.specs.declared.outgoing.UpUnit.{UpUnit}
use Rattle.gate_model.specs.declared.outgoing.UpUnit.TheVariants as up
use Rattle.gate_model.specs.declared.reply.Reply.{Reply}
use Rattle.gate_model.specs.declared.reply.Reply.TheVariants as reply
use Rattle.bridge_core.specs.Rows.{in_order, is_up_closing, is_up_open, units_of, units_if, up_units_of}
use Rattle.bridge_core.specs.declared.rows.Row.{Row}
use Rattle.bridge_core.specs.declared.rows.Row.TheVariants as row
use Rattle.bridge_core.specs.declared.rows.UpRow.{UpRow}
use Rattle.bridge_core.specs.declared.rows.UpRow.TheVariants as up_row

-- ---- to the client

abbrev pub client_order : List Row
client_order =
    row.Content ∷ row.Writing ∷ row.Opening ∷ row.ChannelOpenOk ∷ row.Ok ∷ row.ConsumeOk ∷ row.Get ∷ row.Deliver ∷ row.Confirm ∷ row.CloseOk
    ∷ row.ChannelCloseOk ∷ row.Close ∷ row.ChannelClose ∷ row.Heartbeat ∷ []

if_same : (b : Bool) (us : List Reply) → if_so b us ≡ units_if b us
if_same true us = refl
if_same false us = refl

if_both : {A : Type 0} (b : Bool) (us vs : List A) → units_if b (us ++ vs) ≡ units_if b us ++ units_if b vs
if_both true us vs = refl
if_both false us vs = refl

lists_in_order : (mr ma mc me mt : Bool) (a b c d e f g h i j k l m n : List Reply)
    → (if_so mr a ++ (if_so ma b ++ (c ++ (if_so ma (d ++ (e ++ (f ++ (g ++ h)))) ++ (if_so mc i ++ (j ++ (if_so me k ++ (l ++ if_so mt m)))))))) ++ n
    ≡ units_if mr a ++ (units_if ma b ++ (c ++ (units_if ma d ++ (units_if ma e ++ (units_if ma f ++ (units_if ma g ++ (units_if ma h
    ++ (units_if mc i ++ (j ++ (units_if me k ++ (l ++ (units_if mt m ++ (n ++ [])))))))))))))
lists_in_order mr ma mc me mt a b c d e f g h i j k l m n = simp (if_same, if_both, append_assoc, append-nil) refl

pub client_in_order : (w : State) → client_rows w ≡ in_order (units_of w) client_order
client_in_order w =
    lists_in_order (may_return w) (may_answer w) (may_confirm_some w) (may_end w) (may_tell w)
    (contents w) (writings w) (openings (may_go (is_settled w) w.pending)) (open_oks w) (path_oks w) (consume_oks w) (gets w) (delivers w)
    (confirms w) (close_oks (may_go (is_settled w) w.pending)) (channel_oks w) (last_closes (may_go (is_settled w) w.pending)) (channel_closes w)
    (when (is_beat_due w) reply.Heartbeat)

-- ---- to the container

abbrev pub up_order : List UpRow
up_order =
    up_row.Opening ∷ up_row.Begin ∷ up_row.Attach ∷ up_row.LinkFlow ∷ up_row.SessionFlow ∷ up_row.Transfer ∷ up_row.Dispose ∷ up_row.Settle
    ∷ up_row.Detach ∷ up_row.End ∷ up_row.Close ∷ up_row.Empty ∷ []

parting_lists : (out : Bool) (a b c d e f g h i j : List UpUnit)
    → ((unless_out out (a ++ (b ++ (c ++ d))) ++ (e ++ (f ++ g))) ++ (h ++ i)) ++ j
    ≡ units_if (not out) a ++ (units_if (not out) b ++ (units_if (not out) c ++ (units_if (not out) d ++ (e ++ (f ++ (g ++ (h ++ (i ++ (j ++ [])))))))))
parting_lists true a b c d e f g h i j = simp (append_assoc, append-nil) refl
parting_lists false a b c d e f g h i j = simp (append_assoc, append-nil) refl

running_lists : (out : Bool) (o p a b c d e f g h j : List UpUnit)
    → (o ++ (p ++ ((unless_out out (a ++ (b ++ (c ++ d))) ++ (e ++ (f ++ g))) ++ h))) ++ j
    ≡ o ++ (p ++ (units_if (not out) a ++ (units_if (not out) b ++ (units_if (not out) c ++ (units_if (not out) d ++ (e ++ (f ++ (g ++ (h ++ (j ++ []))))))))))
running_lists true o p a b c d e f g h j = simp (append_assoc, append-nil) refl
running_lists false o p a b c d e f g h j = simp (append_assoc, append-nil) refl

-- while the connection closes or not
rows_by : (w : State) (closing : Bool) → rows_in closing w
    ≡ units_if (not closing) (opening_rows w.up.pending) ++ (units_if (not closing) (begins w)
    ++ (units_if (not w.out_of_memory) (attaches w) ++ (units_if (not w.out_of_memory) (link_flows w)
    ++ (units_if (not w.out_of_memory) (session_flows w) ++ (units_if (not w.out_of_memory) (transfers w)
    ++ (disposals w ++ (settlings w ++ (detaches w ++ (ends closing w ++ (units_if closing (close_behind w)
    ++ (when_up (may_idle w) up.Empty ++ [])))))))))))
rows_by w true =
    parting_lists w.out_of_memory (attaches w) (link_flows w) (session_flows w) (transfers w) (disposals w) (settlings w) (detaches w)
    (ends true w) (close_behind w) (when_up (may_idle w) up.Empty)
rows_by w false =
    running_lists w.out_of_memory (opening_rows w.up.pending) (begins w) (attaches w) (link_flows w) (session_flows w) (transfers w)
    (disposals w) (settlings w) (detaches w) (ends false w) (when_up (may_idle w) up.Empty)

pub up_in_order : (w : State) → up_rows w ≡ units_if (is_up_open w) (in_order (up_units_of w) up_order)
up_in_order w = by (is_up_open w)
  where
    by : (b : Bool) → (if b then rows_in (is_up_closing w) w else []) ≡ units_if b (in_order (up_units_of w) up_order)
    by true = rows_by w (is_up_closing w)
    by false = refl
