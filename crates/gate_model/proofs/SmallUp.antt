-- The units to a container that aren't transfers have at most 512 bytes, where the names that they carry are short.
use Rattle.std.proofs.Common.{ℕ, ◌≤◌, Bool, true, false, List, [], ◌∷◌, ◌++◌, length, Option, None, Some, codes, decimal, arith}
use Rattle.std.specs.Prelude.{IfSome}
use Rattle.std.proofs.Common.{length-append}
use Rattle.consume_path.specs.Offers.{most_bytes}
use Rattle.frames_10.specs.declared.frame.Kind10.TheVariants.{Amqp, Sasl}
use Rattle.performatives_10.specs.Closing.{end_text, ending_of, error_by, error_of, last_of, settle_text, settling, state_of}
use Rattle.types_10.specs.Fields.{a_string, a_uint, maybe}
use Rattle.performatives_10.specs.Conditions.{name_of}
use Rattle.performatives_10.specs.Rows.{error_code, source_code, target_code}
use Rattle.performatives_10.specs.View.{error_fields, error_tree, source_fields, source_tree, state_tree, target_fields, target_tree}
use Rattle.performatives_10.specs.declared.closing.Ending.{Ending}
use Rattle.performatives_10.specs.declared.closing.Ending.TheVariants as ending
use Rattle.performatives_10.specs.declared.closing.Settle.{Settle}
use Rattle.performatives_10.specs.declared.closing.Settle.TheVariants as settle
use Rattle.performatives_10.specs.declared.condition.Condition.{Condition}
use Rattle.session_path.specs.Links.{link_name}
use Rattle.types_10.specs.Writing.{value_text}
use Rattle.gate_model.specs.Setup.{IsHost, IsInForm}
use Rattle.gate_model.specs.Spelling.{Context, attach_perf, begin_perf, container_id, flow_perf, init_of, init_text}
use Rattle.gate_model.specs.Spelling.{link_flow_perf, open_of, settle_of, settle_perf, source_of, spell_on, spell_up, target_of}
use Rattle.gate_model.specs.declared.channel.AttachOut.{AttachOut}
use Rattle.gate_model.specs.declared.channel.SessionUnit.{SessionUnit}
use Rattle.gate_model.specs.declared.channel.SessionUnit.TheVariants as unit
use Rattle.gate_model.specs.declared.outgoing.UpUnit.{UpUnit}
use Rattle.gate_model.specs.declared.outgoing.UpUnit.TheVariants as up
use Rattle.gate_model.specs.declared.limits.TheConstants.{HANDLE_MAX}
use Rattle.gate_model.specs.declared.timers.TheConstants.{IDLE_STATED}
use Rattle.machine_091.specs.declared.limits.TheConstants.{CHANNEL_MAX}
use Rattle.machine_10.specs.declared.limits.TheConstants.{FRAME_MAX, WINDOW}
use Rattle.machine_10.specs.declared.state.Upstream.{Upstream}
use Rattle.gate_model.proofs.Consumers.{decimal_few}
use Rattle.gate_model.proofs.Widths.{binary_few, boolean_few, composite_few, condition_few, frame_few, frame_long}
use Rattle.gate_model.proofs.Widths.{maybe_few, string_few, symbol_few, ubyte_few, uint_few, ulong_few, ushort_few}

-- ---- names

name_few : (n : ℕ) → length (link_name n) ≤ 66
name_few n = omega (arith, length-append (codes "l-") (decimal n), decimal_few n)

id_few : (name : List ℕ) (n : ℕ) → length name ≤ 100 → length (container_id name n) ≤ 165
id_few name n short = omega (arith, length-append name (codes "-" ++ decimal n), length-append (codes "-") (decimal n), decimal_few n, short)

-- ---- errors and states

some : 1 ≤ 1
some = omega arith

error_few : (c : Condition) → length (value_text (error_tree (error_by c))) ≤ 65
error_few c = composite_few error_code (error_fields (error_by c)) (45 ∷ 1 ∷ []) (symbol_few 40 (name_of c) (condition_few c), (some, tt))

errors_few : (o : Option Condition) → length (value_text (maybe error_tree (error_of o))) ≤ 65
errors_few None = omega arith
errors_few (Some c) = error_few c

state_few : (x : Settle) → length (value_text (state_tree (state_of x))) ≤ 20
state_few settle.Accepted = omega arith
state_few settle.Rejected = omega arith
state_few settle.Released = omega arith

-- ---- frames of sessions' links

end_few : (n : ℕ) (e : Ending) (o : Option Condition) → length (end_text n e o) ≤ 512
end_few n (ending.Detach handle) o =
    frame_few Amqp n (ending_of (ending.Detach handle) o) (5 ∷ 1 ∷ 65 ∷ []) (uint_few handle, (boolean_few true, (errors_few o, tt))) (omega arith)
end_few n ending.End o = frame_few Amqp n (ending_of ending.End o) (65 ∷ []) (errors_few o, tt) (omega arith)
end_few n ending.Close o = frame_few Amqp n (ending_of ending.Close o) (65 ∷ []) (errors_few o, tt) (omega arith)

settle_few : (n first last : ℕ) (x : Settle) → length (settle_text n first last x) ≤ 512
settle_few n first last x =
    frame_few Amqp n (settling first last x) (1 ∷ 5 ∷ 5 ∷ 1 ∷ 20 ∷ 1 ∷ []) (
      boolean_few true,
      (
        uint_few first,
        (
          maybe_few a_uint 5 (last_of first last) (omega arith) uint_few,
          (boolean_few true, (state_few x, (boolean_few false, tt))),
        ),
      ),
    ) (omega arith)

-- of the source and the target one has the address
source_few : (address : List ℕ) → length address ≤ 255 → length (value_text (source_tree (source_of address))) ≤ 289
source_few address short =
    composite_few source_code (source_fields (source_of address)) (260 ∷ 1 ∷ 1 ∷ 1 ∷ 1 ∷ 1 ∷ 1 ∷ 1 ∷ 1 ∷ 1 ∷ 1 ∷ [])
    (string_few 255 address short, (some, (some, (some, (some, (some, (some, (some, (some, (some, (some, tt)))))))))))

target_few : (address : List ℕ) → length address ≤ 255 → length (value_text (target_tree (target_of address))) ≤ 285
target_few address short =
    composite_few target_code (target_fields (target_of address)) (260 ∷ 1 ∷ 1 ∷ 1 ∷ 1 ∷ 1 ∷ 1 ∷ [])
    (string_few 255 address short, (some, (some, (some, (some, (some, (some, tt)))))))

attach_few : (n : ℕ) (a : AttachOut) (text : List ℕ) → length text ≤ 255 → length (spell_on n (unit.Attach a) text) ≤ 512
attach_few n a text short = by a.receives
  where
    by : (b : Bool) → length (spell_on n (unit.Attach (record a { receives = b })) text) ≤ 512
    by true =
        frame_few Amqp n (attach_perf (record a { receives = true }) text) (71 ∷ 5 ∷ 1 ∷ 2 ∷ 2 ∷ 289 ∷ 30 ∷ 1 ∷ 1 ∷ 1 ∷ 9 ∷ 1 ∷ 1 ∷ 1 ∷ []) (
          string_few 66 (link_name a.name) (name_few a.name),
          (
            uint_few a.handle,
            (
              boolean_few true,
              (
                ubyte_few 0,
                (
                  ubyte_few 0,
                  (
                    source_few text short,
                    (
                      omega arith,
                      (some, (boolean_few false, (some, (ulong_few most_bytes, (some, (some, (some, tt))))))),
                    ),
                  ),
                ),
              ),
            ),
          ),
        ) (omega arith)
    by false =
        frame_few Amqp n (attach_perf (record a { receives = false }) text) (71 ∷ 5 ∷ 1 ∷ 2 ∷ 2 ∷ 30 ∷ 285 ∷ 1 ∷ 1 ∷ 5 ∷ 1 ∷ 1 ∷ 1 ∷ 1 ∷ []) (
          string_few 66 (link_name a.name) (name_few a.name),
          (
            uint_few a.handle,
            (
              boolean_few false,
              (
                ubyte_few 0,
                (
                  ubyte_few 0,
                  (
                    omega arith,
                    (
                      target_few text short,
                      (some, (boolean_few false, (uint_few 0, (some, (some, (some, (some, tt))))))),
                    ),
                  ),
                ),
              ),
            ),
          ),
        ) (omega arith)

-- what is short of what a unit carries: the address of an attach; of transfers it says nothing
abbrev pub IsBriefOn : SessionUnit → List ℕ → Type 0
IsBriefOn (unit.Attach a) text = length text ≤ 255
IsBriefOn (unit.Transfer t) text = ⊥
IsBriefOn x text = Unit {0}

on_few : (n : ℕ) (u : SessionUnit) (text : List ℕ) → IsBriefOn u text → length (spell_on n u text) ≤ 512
on_few n (unit.Attach a) text short = attach_few n a text short
on_few n (unit.Flow f) text short =
    frame_few Amqp n (link_flow_perf f) (5 ∷ 5 ∷ 5 ∷ 5 ∷ 5 ∷ 5 ∷ 5 ∷ 1 ∷ 1 ∷ 1 ∷ 1 ∷ []) (
      uint_few f.incoming,
      (
        uint_few WINDOW,
        (
          uint_few f.outgoing,
          (
            uint_few WINDOW,
            (
              uint_few f.handle,
              (
                uint_few f.count,
                (
                  uint_few f.credit,
                  (some, (boolean_few f.drain, (boolean_few false, (some, tt)))),
                ),
              ),
            ),
          ),
        ),
      ),
    ) (omega arith)
on_few n (unit.Transfer t) text short = absurd short
on_few n (unit.Dispose x) text short = settle_few n x.first x.last (settle_of x.settle)
on_few n (unit.Settle x) text short =
    frame_few Amqp n (settle_perf x) (1 ∷ 5 ∷ 5 ∷ 1 ∷ 1 ∷ 1 ∷ []) (
      boolean_few false,
      (
        uint_few x.first,
        (
          maybe_few a_uint 5 x.last (omega arith) uint_few,
          (boolean_few true, (some, (boolean_few false, tt))),
        ),
      ),
    ) (omega arith)
on_few n (unit.Detach k handle why) text short = end_few n (ending.Detach handle) why

-- ---- frames of a connection and its sessions

abbrev pub IsBrief : UpUnit → List ℕ → Type 0
IsBrief (up.OnSession n u) text = IsBriefOn u text
IsBrief u text = Unit {0}

-- a login is
pub record HasBriefLogin (c : Upstream) : Type 0 where
  pub mechanism : length c.mechanism ≤ 9
  pub response : length c.response ≤ 300

abbrev pub IfBriefLogin : Option Upstream → Type 0
IfBriefLogin None = Unit {0}
IfBriefLogin (Some c) = HasBriefLogin c

init_few : (o : Option Upstream) → IfBriefLogin o → length (init_text o) ≤ 512
init_few None b = omega arith
init_few (Some c) b =
    frame_few Sasl 0 (init_of c) (14 ∷ 305 ∷ 1 ∷ []) (symbol_few 9 c.mechanism b.mechanism, (binary_few 300 c.response b.response, (some, tt))) (omega arith)

host_few : (o : Option (List ℕ)) → IfSome o IsHost → length (value_text (maybe a_string o)) ≤ 205
host_few None is = omega arith
host_few (Some host) is = string_few 200 host is.short

pub spelled_few : (c : Context) (u : UpUnit) (text : List ℕ) → IsInForm c.setup → IfBriefLogin c.container → IsBrief u text → length (spell_up c u text) ≤ 512
spelled_few c up.SaslHeader text f l b = omega arith
spelled_few c up.SaslInit text f l b = init_few c.container l
spelled_few c up.AmqpHeader text f l b = omega arith
spelled_few c up.Open text f l b =
    frame_few Amqp 0 (open_of c.setup c.number) (170 ∷ 205 ∷ 5 ∷ 3 ∷ 5 ∷ 1 ∷ 1 ∷ 1 ∷ 1 ∷ 1 ∷ []) (
      string_few 165 (container_id c.setup.name c.number) (id_few c.setup.name c.number f.name.short),
      (
        host_few c.setup.host f.host,
        (
          uint_few FRAME_MAX,
          (
            ushort_few CHANNEL_MAX,
            (
              uint_few IDLE_STATED,
              (some, (some, (some, (some, (some, tt))))),
            ),
          ),
        ),
      ),
    ) (omega arith)
spelled_few c (up.Close why) text f l b = end_few 0 ending.Close why
spelled_few c up.Empty text f l b = omega (arith, frame_long Amqp 0 [])
spelled_few c (up.OnSession n u) text f l b = on_few n u text b
spelled_few c (up.Flow n i o) text f l b =
    frame_few Amqp n (flow_perf i o) (5 ∷ 5 ∷ 5 ∷ 5 ∷ 1 ∷ 1 ∷ 1 ∷ 1 ∷ 1 ∷ 1 ∷ 1 ∷ []) (
      uint_few i,
      (
        uint_few WINDOW,
        (
          uint_few o,
          (
            uint_few WINDOW,
            (some, (some, (some, (some, (boolean_few false, (boolean_few false, (some, tt))))))),
          ),
        ),
      ),
    ) (omega arith)
spelled_few c (up.Begin n) text f l b =
    frame_few Amqp n begin_perf (1 ∷ 5 ∷ 5 ∷ 5 ∷ 5 ∷ 1 ∷ 1 ∷ 1 ∷ [])
    (some, (uint_few 0, (uint_few WINDOW, (uint_few WINDOW, (uint_few HANDLE_MAX, (some, (some, (some, tt)))))))) (omega arith)
spelled_few c (up.End n why) text f l b = end_few n ending.End why
