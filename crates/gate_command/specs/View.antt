-- What the specifications see of the code's own types.
use Rattle.std.specs.Prelude.{option_copied, option_map, Result, Ok, Err}
use Rattle.gate_command.specs.declared.options.Gathered.{Gathered}
use Rattle.gate_command.specs.declared.options.Progress.{Progress}
use Rattle.gate_command.specs.declared.options.Progress.TheVariants.{Between, Awaiting}
use Rattle.gate_command.specs.declared.words.Misplaced.{Misplaced}
use Rattle.gate_command.specs.Command.{Settings}
use Rattle.gate_command.specs.declared.words.Command.{Command}
use Rattle.gate_command.specs.declared.words.Command.TheVariants as command
use Rattle.gate_command.specs.Reading.{State, between, awaiting, Request, serving, replaying}
use Rattle.gate_command.specs.Reading.{showing, routes_of}

-- what the options say that were read
abbrev pub settings_of : Gathered → Settings
settings_of g = record {
  listen = option_copied g.listen;
  upstream = option_copied g.upstream;
  name = option_copied g.name;
  host = option_copied g.host;
  vhost = option_copied g.vhost;
  exchange = option_map routes_of (option_copied g.exchange);
  pairs = g.pairs;
  turns = g.turns;
  capture = option_copied g.capture;
}

-- where the reading stands
abbrev pub state_of : Progress → State
state_of (Between g) = between (settings_of g)
state_of (Awaiting name g) = awaiting name (settings_of g)

-- what the reading of all options answers
abbrev pub answer_of : Result Gathered Misplaced → Result Settings Misplaced
answer_of (Ok g) = Ok (settings_of g)
answer_of (Err misplaced) = Err misplaced

-- a command that was read
abbrev pub request_of : Command → Request
request_of (command.Serve g) = serving (settings_of g)
request_of command.Replay = replaying
request_of (command.Show what) = showing what

-- what the reading of all words answers
abbrev pub reply_of : Result Command Misplaced → Result Request Misplaced
reply_of (Ok c) = Ok (request_of c)
reply_of (Err misplaced) = Err misplaced
