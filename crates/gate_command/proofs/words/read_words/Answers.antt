use Rattle.std.proofs.Common.{◌≡◌, Ok, Err, map, sym, ◌∙◌, ap}
use Rattle.std.specs.String.{string_bytes}
use Rattle.gate_command.specs.Reading.{asked_by, command_in}
use Rattle.gate_command.specs.View.{request_of}
use Rattle.gate_command.proofs.CommandLaws.{command_in-is, is-command_in, command_in-ceases}
use Rattle.gate_command.proofs.CommandLaws.{asked_in_form}
use Rattle.gate_command.proofs.words.read_words.Goals as goal

pub asked_for-requires : goal.asked_for-requires
asked_for-requires c =
    let read : command_in (map string_bytes c.args.words.now.items) ≡ Ok (request_of c.in-Ok.command) = rw (← c.as_slice.ensures.value) (sym c.in-Ok.ensures) in
    let asks = command_in-is (map string_bytes c.args.words.now.items) (request_of c.in-Ok.command) read in
    asked_in_form _ _ asks.command

pub returns-in_ok-asked_for-in-Ok-clause-found : goal.returns-in_ok-asked_for-in-Ok-clause-found
returns-in_ok-asked_for-in-Ok-clause-found c =
    let read : command_in (map string_bytes c.args.words.now.items) ≡ Ok (request_of c.in-Ok.command) = rw (← c.as_slice.ensures.value) (sym c.in-Ok.ensures) in
    rw c.in_ok-asked_for-in-Ok.ensures (command_in-is (map string_bytes c.args.words.now.items) (request_of c.in-Ok.command) read)

pub returns-in_ok-asked_for-in-Ok-clause-only : goal.returns-in_ok-asked_for-in-Ok-clause-only
returns-in_ok-asked_for-in-Ok-clause-only c = λ asked asks.
    let read : command_in (map string_bytes c.args.words.now.items) ≡ Ok (request_of c.in-Ok.command) = rw (← c.as_slice.ensures.value) (sym c.in-Ok.ensures) in
    let is_read = is-command_in (map string_bytes c.args.words.now.items) asked asks in
    let same : is_read.request ≡ request_of c.in-Ok.command = let e = is_read.reads in cc in
    ap Ok (c.in_ok-asked_for-in-Ok.ensures ∙ ap asked_by (sym same) ∙ sym is_read.meant)

pub returns-in_ok-asked_for-in-Ok-clause-in_form : goal.returns-in_ok-asked_for-in-Ok-clause-in_form
returns-in_ok-asked_for-in-Ok-clause-in_form c =
    let read : command_in (map string_bytes c.args.words.now.items) ≡ Ok (request_of c.in-Ok.command) = rw (← c.as_slice.ensures.value) (sym c.in-Ok.ensures) in
    let asks = command_in-is (map string_bytes c.args.words.now.items) (request_of c.in-Ok.command) read in
    rw c.in_ok-asked_for-in-Ok.ensures (asked_in_form _ _ asks.command)

pub returns-in-Err-clause-only : goal.returns-in-Err-clause-only
returns-in-Err-clause-only c = λ asked asks.
    let read : command_in (map string_bytes c.args.words.now.items) ≡ Err c.in-Err.misplaced = rw (← c.as_slice.ensures.value) (sym c.in-Err.ensures) in
    let is_read = is-command_in (map string_bytes c.args.words.now.items) asked asks in
    let e = is_read.reads in
    absurd cc

pub returns-in-Err-clause-place : goal.returns-in-Err-clause-place
returns-in-Err-clause-place c =
    let read : command_in (map string_bytes c.args.words.now.items) ≡ Err c.in-Err.misplaced = rw (← c.as_slice.ensures.value) (sym c.in-Err.ensures) in
    command_in-ceases _ _ read
