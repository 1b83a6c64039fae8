-- The bytes of a unit to a client are some, and few.
use Rattle.property_map.specs.declared.told.Told.{Told}
use Rattle.gate_model.specs.declared.reply.Reason.{Reason}
use Rattle.std.proofs.Common.{◌≡◌, Bool, List, arith, codes, false, if◌then◌else◌, length, ℕ, ◌<◌, ◌≤◌, Option, None, Some, ◌∷◌, true}
use Rattle.std.proofs.lemmas.List.{length-append}
use Rattle.close_translate.specs.Codes.{name_of}
use Rattle.frames_091.specs.Frames.{frame_text}
use Rattle.frames_091.specs.declared.frame.Frame91.{Frame91}
use Rattle.methods_091.specs.Closing.{close_text}
use Rattle.gate_model.specs.declared.channel.ChannelUnit.{ChannelUnit}
use Rattle.gate_model.specs.declared.channel.ChannelUnit.TheVariants as unit
use Rattle.session_path.specs.declared.path.PathOk.TheVariants as ok
use Rattle.methods_091.specs.declared.method.Method91.TheVariants.{BasicAck, BasicNack}
use Rattle.gate_model.specs.Due.{takes_memory_back, takes_memory_told}
use Rattle.gate_model.specs.Spelling.{channel_text, reason_text, spell_told, told_or}
use Rattle.property_map.specs.Told.{fault_text, part_text}
use Rattle.property_map.specs.declared.fault.PropName.{PropName}
use Rattle.property_map.specs.declared.fault.PropName.TheVariants as part
use Rattle.property_map.specs.declared.told.FaultName.{FaultName}
use Rattle.property_map.specs.declared.told.FaultName.TheVariants as name
use Rattle.gate_model.specs.declared.reply.Reply.{Reply}
use Rattle.gate_model.specs.declared.reply.Reply.TheVariants as reply
use Rattle.gate_model.specs.Spelling.{close_on, open_ok_frame, spell_reply, start_frame, tune_frame}

frame_some : (f : Frame91) → 0 < length (frame_text f)
unfolding frame_text
frame_some f = omega arith

start_some : 0 < length start_frame
unfolding start_frame
start_some = frame_some _

tune_some : 0 < length tune_frame
unfolding tune_frame
tune_some = frame_some _

open_ok_some : 0 < length open_ok_frame
unfolding open_ok_frame
open_ok_some = frame_some _

-- all but the frames of returns and contents, which are spelled before, delivers, and answers of the class basic
pub spelled_some : (r : Reply) (text : List ℕ) → takes_memory_back r ≡ false → 0 < length (spell_reply r text)
spelled_some reply.Protocol text e = omega arith
spelled_some reply.Start text e = start_some
spelled_some reply.Tune text e = tune_some
spelled_some reply.OpenOk text e = open_ok_some
spelled_some (reply.OnChannel n (unit.Ok x)) text e = frame_some _
spelled_some (reply.OnChannel n (unit.Deliver d)) text e = absurd cc
spelled_some (reply.OnChannel n (unit.Content c)) text e = absurd cc
spelled_some (reply.OnChannel n (unit.Confirm c)) text e = frame_some _
spelled_some (reply.OnChannel n (unit.Return r)) text e = absurd cc
spelled_some x text e = frame_some _

close_small : (code : ℕ) (text : List ℕ) (class method : ℕ) → length text ≤ 255 → length (close_text code text class method) ≤ 512
unfolding frame_text
close_small code text class method short = grind (arith, length-append, short)

-- the longest name of a code has 19 letters
name_small : (code : ℕ) → length (name_of code) ≤ 255
name_small code = grind arith

-- so have the names of faults and of parts of a message
fault_small : (f : FaultName) → length (fault_text f) ≤ 16
fault_small name.NotUtf8 = omega arith
fault_small x = omega arith

part_small : (p : PropName) → length (part_text p) ≤ 16
part_small part.Exchange = omega arith
part_small x = omega arith

reason_small : (r : Reason) → length (reason_text r) ≤ 255
reason_small r = by r.told
  where
    by : (o : Option Told) → length (told_or (name_of r.refusal.code) o) ≤ 255
    by None = name_small r.refusal.code
    by (Some t) = let f = fault_small t.fault in let p = part_small t.part in let long = length-append (fault_text t.fault) (32 ∷ part_text t.part) in omega (arith, f, p, long)

-- the same on a channel
close_on_small : (n : ℕ) (r : Reason) → length (reason_text r) ≤ 255 → length (close_on n r) ≤ 512
unfolding frame_text
close_on_small n r short = grind (arith, length-append, short)

-- so are answers and confirms
on_channel_small : (n : ℕ) (u : ChannelUnit) (text : List ℕ) → takes_memory_told u ≡ false → length (spell_told n u text) ≤ 512
unfolding frame_text
on_channel_small n (unit.Ok ok.Flow) text e = omega arith
on_channel_small n (unit.Ok ok.Declare) text e = omega arith
on_channel_small n (unit.Ok ok.Select) text e = omega arith
on_channel_small n (unit.Ok (ok.Consume link)) text e = absurd cc
on_channel_small n (unit.Ok (ok.Qos count global)) text e = absurd cc
on_channel_small n (unit.Ok ok.Cancel) text e = absurd cc
on_channel_small n (unit.Ok ok.Queue) text e = absurd cc
on_channel_small n (unit.Ok ok.Get) text e = absurd cc
on_channel_small n (unit.Ok (ok.Empty link)) text e = absurd cc
on_channel_small n (unit.Ok ok.Recover) text e = absurd cc
on_channel_small n (unit.Deliver d) text e = absurd cc
on_channel_small n (unit.Content c) text e = absurd cc
on_channel_small n (unit.Return r) text e = absurd cc
on_channel_small n (unit.Confirm c) text e = by c.ack
  where
    by : (b : Bool) → length (channel_text n (if b then BasicAck c.number c.multiple else BasicNack c.number c.multiple false)) ≤ 512
    by true = omega arith
    by false = omega arith

pub spelled_small : (r : Reply) (text : List ℕ) → takes_memory_back r ≡ false → length (spell_reply r text) ≤ 512
unfolding start_frame tune_frame open_ok_frame frame_text
spelled_small (reply.Close r) text e = close_small r.code (name_of r.code) r.class r.method (name_small r.code)
spelled_small reply.NoMemory text e = close_small 506 (codes "NO_MEMORY") 0 0 (omega arith)
spelled_small (reply.ChannelClose n r) text e = close_on_small n r (reason_small r)
spelled_small (reply.OnChannel n u) text e = on_channel_small n u text e
spelled_small r text e = omega arith
