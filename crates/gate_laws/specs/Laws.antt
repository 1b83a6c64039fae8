-- All the laws of a run together.
use Rattle.std.specs.Prelude.{◌≡◌, ℕ, false, List, drop}
use Rattle.gate_relay.specs.Entries.{Entry}
use Rattle.gate_runs.specs.declared.limits.Limits.{Limits}
use Rattle.gate_runs.specs.Journal.{journal}
use Rattle.gate_runs.specs.Marks.{History, calls}
use Rattle.gate_runs.specs.Next.{Done, next}
use Rattle.gate_runs.specs.Report.{report}
use Rattle.gate_turn_laws.specs.Laws.{KeepsTurns}
use Rattle.gate_turn_laws.specs.Lines.{told_lines}
use Rattle.gate_turn_laws.specs.Log.{IsPlain, IsWholeRun}
use Rattle.gate_turn_laws.specs.Quiet.{IdlesAtRest, IdlesInSilence}
use Rattle.gate_model.specs.Addresses.{ReachesAddress}
use Rattle.gate_model.specs.Asked.{AreCalledFor, GoesWhenDue}
use Rattle.gate_model.specs.Frames.{FitsClients, FitsContainers}
use Rattle.gate_model.specs.Oks.{AnswersInOrder}
use Rattle.gate_model.specs.Once.{AnswersOnce}
use Rattle.gate_model.specs.Order.{TakesInOrder}
use Rattle.gate_model.specs.Picks.{ArePicks}
use Rattle.gate_model.specs.Contents.{AreImages, StandTogether, Writes}
use Rattle.gate_model.specs.Begins.{OpensBehindBegins}
use Rattle.gate_model.specs.Behind.{DeliversBehind}
use Rattle.gate_model.specs.Closes.{ClosesALifeOnce}
use Rattle.gate_model.specs.Counts.{CountsAreKept}
use Rattle.gate_model.specs.Credits.{KeepsQuotas, StatesCredit}
use Rattle.gate_model.specs.Declares.{DeclaresFound}
use Rattle.gate_model.specs.Delivers.{Delivers}
use Rattle.gate_model.specs.Dues.{EndsContainers}
use Rattle.gate_model.specs.Errors.{StatesErrors}
use Rattle.gate_model.specs.Faults.{StatesFaults}
use Rattle.gate_model.specs.Giving.{GivesUpIdle}
use Rattle.gate_model.specs.Handles.{NamesItsHandles}
use Rattle.gate_model.specs.Hears.{HearsLinks}
use Rattle.gate_model.specs.Holding.{HoldsFew, TakesWithRoom}
use Rattle.gate_model.specs.Linger.{Lingers}
use Rattle.gate_model.specs.LinkCredits.{CreditIsKept}
use Rattle.gate_model.specs.Losses.{LosesPublishes}
use Rattle.gate_model.specs.Owes.{EndsClients}
use Rattle.gate_model.specs.Parting.{StopsWhenClosed}
use Rattle.gate_model.specs.Passed.{StatesPassed}
use Rattle.gate_model.specs.Publishing.{ArePieces, Confirms, EndWhole, Returns, Transfers}
use Rattle.gate_model.specs.Reasons.{ClosesOnce, SaysWhy}
use Rattle.gate_model.specs.Records.{Records}
use Rattle.gate_model.specs.Recovers.{GoBack, GoBeforeLeaving, LeavesOthers}
use Rattle.gate_model.specs.Releases.{Releases}
use Rattle.gate_model.specs.Repeats.{AttachesOnce, EndsOnce, FlowsOnce, SettlesInOrder}
use Rattle.gate_model.specs.Reports.{lines_owed}
use Rattle.gate_model.specs.Rests.{ServesClients, SuppliesContainers}
use Rattle.gate_model.specs.Selects.{CountsFromSelect}
use Rattle.gate_model.specs.Settles.{Grants, Settles}
use Rattle.gate_model.specs.Setup.{IsInForm, SetupText}
use Rattle.gate_model.specs.Sources.{GetsFromItsQueue}
use Rattle.gate_model.specs.Starts.{StartsBehind}
use Rattle.gate_model.specs.State.{owed_lines}
use Rattle.gate_model.specs.Supplies.{AttachesLinks, DetachesDone, FillsQuotas, LeavesCredit}
use Rattle.gate_model.specs.Takers.{TakesAsAsked}
use Rattle.gate_model.specs.Takes.{TakesInTurn}
use Rattle.gate_model.specs.Waiting.{ChannelsEndWhenSettled, EndsWhenSettled, OpensWhenOpened}
use Rattle.gate_model.specs.Wishes.{MeetsWishes}
use Rattle.gate_pair.specs.Answers.{IsAnswered}
use Rattle.gate_pair.specs.Lawful.{AreLawful}
use Rattle.gate_pair.specs.Meaning.{pair_words, state_of, steps_of}
use Rattle.gate_pair.specs.Silence.{GivesUp}
use Rattle.gate_pair.specs.Times.{KeepsTimes}

-- what holds of the entries of each pair, in a run whose pairs share s
pub record IsLawfulPair (s : SetupText) (h : List Entry) : Type 0 where
  -- each stands where what came before it allows it, and what goes is what is due first
  pub entries : AreLawful s h
  pub picks : ArePicks (steps_of s h)
  -- each end took what it was sent, and its client what answers it and tells what happened upstream
  pub answers : IsAnswered s h
  -- a client's units are taken up in the order of their channel
  pub order : TakesInOrder (steps_of s h)
  -- while many publishes are held, nothing of it is
  pub room : TakesWithRoom (steps_of s h)
  pub held : HoldsFew (steps_of s h)
  -- each request on a channel is answered at most once, in its order; a declaration only where its
  -- queue was found
  pub once : AnswersOnce (steps_of s h)
  pub requests : AnswersInOrder (steps_of s h)
  -- what went is what its own request wished for: a basic.consume its tag, a basic.get one answer
  pub met : MeetsWishes (steps_of s h)
  pub declared : DeclaresFound (steps_of s h)
  -- nothing of a channel is taken up while its request waits
  pub turns : TakesInTurn (steps_of s h)
  -- each confirm covers publishes with the outcome that it tells, accepted ones by an ack; frames
  -- of returns are those of mandatory publishes that no queue took; frames of transfers go within
  -- credit and window, in order, and carry each byte of an image once
  pub confirms : Confirms (steps_of s h)
  pub returns : Returns (steps_of s h)
  pub transfers : Transfers (steps_of s h)
  -- the credit is what all that went and came on the link leaves of it, and a flow states that or
  -- gives it back
  pub credit : CreditIsKept (steps_of s h)
  pub counts : CountsAreKept (steps_of s h)
  -- each frame goes under a handle that is tied to the address that its publish asked for; which
  -- publishes wait for a confirm, and its number, is said by the first confirm.select
  pub reaches : ReachesAddress (steps_of s h)
  pub numbers : CountsFromSelect (steps_of s h)
  pub pieces : ArePieces (steps_of s h)
  pub wholes : EndWhole (steps_of s h)
  -- a link that is given up for its handle has no publish without outcome
  pub given : GivesUpIdle (steps_of s h)
  -- each deliver is the next of its link, within the prefetch of its consumer and of all
  pub delivers : Delivers (steps_of s h)
  -- it carries the image of its message; the frames of its content are those of that, each once, in
  -- order; and they stand together
  pub images : AreImages (steps_of s h)
  pub contents : Writes (steps_of s h)
  pub together : StandTogether (steps_of s h)
  -- each disposition covers deliveries that are owed its state; each credit is within a quota; and
  -- none is left that lacks a disposition where a session or a link of it is given up
  pub settles : Settles (steps_of s h)
  pub grants : Grants (steps_of s h)
  -- a link for gets has its one credit while its get waits, and a consumer's quota is that of the
  -- last basic.qos before it, which the credit left and what is in use keep to at all times; that
  -- credit is what all that went and came on the link leaves of it
  pub credits : StatesCredit (steps_of s h)
  pub quotas : KeepsQuotas (steps_of s h)
  pub left : LeavesCredit (steps_of s h)
  pub releases : Releases (steps_of s h)
  -- whether a delivery waits for an acknowledgement, and which prefetch limits it, is what the
  -- request of its link said; a consumer has what comes on its link until its cancel
  pub taken : TakesAsAsked (steps_of s h)
  -- a recover releases what its client has, and nothing else
  pub recovered : GoBack (steps_of s h)
  pub unrecovered : LeavesOthers (steps_of s h)
  pub gone : GoBeforeLeaving (steps_of s h)
  -- a session's end lingers for what becomes of its publishes, which is decided once the container
  -- is lost, states the error of what closed its channel, and goes once; so do dispositions of role
  -- sender, flows and attaches
  pub lingers : Lingers (steps_of s h)
  pub lost : LosesPublishes (steps_of s h)
  pub errors : StatesErrors (steps_of s h)
  pub ends_once : EndsOnce (steps_of s h)
  pub outcomes : SettlesInOrder (steps_of s h)
  pub flows : FlowsOnce (steps_of s h)
  pub attaches : AttachesOnce (steps_of s h)
  -- what goes on a link goes under its handle, and what comes under a handle of the container
  -- counts on the link that it names; and what is recorded of its deliveries is what went
  pub handles : NamesItsHandles (steps_of s h)
  pub heard : HearsLinks (steps_of s h)
  pub recorded : Records (steps_of s h)
  -- a receiving link is attached to the queue that it is for; a basic.get has its message of its own
  pub sources : GetsFromItsQueue (steps_of s h)
  -- a detach states an error for a transfer that passed that limit alone, and for each such one
  pub faults : StatesFaults (steps_of s h)
  pub passed : StatesPassed (steps_of s h)
  -- on a channel that is closed no answer and no delivery goes; its close has its reason, and is
  -- the only one of its life; and a deliver goes behind the answers, and names a tag of which its
  -- client was told
  pub stops : StopsWhenClosed (steps_of s h)
  pub reasons : SaysWhy (steps_of s h)
  pub closes_once : ClosesOnce (steps_of s h)
  pub life_once : ClosesALifeOnce (steps_of s h)
  pub behind : DeliversBehind (steps_of s h)
  pub started : StartsBehind (steps_of s h)
  -- the report is owed the lines of the publishes that were lost before they had an outcome, and of
  -- the deliveries that were lost or left
  pub lines : owed_lines (state_of s h) ≡ lines_owed (steps_of s h)
  -- where nothing goes to an end, nothing is owed to it
  pub served : ServesClients (steps_of s h)
  pub supplied : SuppliesContainers (steps_of s h)
  pub filled : FillsQuotas (steps_of s h)
  pub attached : AttachesLinks (steps_of s h)
  pub detached : DetachesDone (steps_of s h)
  pub ended : EndsContainers (steps_of s h)
  pub replied : EndsClients (steps_of s h)
  -- a client is told of the end of its connection or a channel, and of the begin of both, once the
  -- container is through
  pub ends : EndsWhenSettled (steps_of s h)
  pub channels : ChannelsEndWhenSettled (steps_of s h)
  pub opens : OpensWhenOpened (steps_of s h)
  pub begun : OpensBehindBegins (steps_of s h)
  -- the container is sent what was called for, and a close where that may go
  pub called : AreCalledFor (steps_of s h)
  pub goes : GoesWhenDue (steps_of s h)
  -- no frame that goes to the client passes its limit; nor one to the container
  pub frames : FitsClients (steps_of s h)
  pub frames_up : IsInForm s → FitsContainers s (steps_of s h)
  -- heartbeats and empty frames go, and each end is shut, where time or another cause makes that
  -- due
  pub times : KeepsTimes s h
  -- each end is given up at the first moment at which no byte of it came for too long
  pub silences : GivesUp s h

pub record IsLawfulRun (s : SetupText) (c : Limits) (m : History) : Type 0 where
  pub pairs : (p : ℕ) → IsLawfulPair s (journal p m)
  -- the turns, the end of the service, its limits and its report; a pair's connection upstream is
  -- asked for once, and its end read, written to and shut only after that answered
  pub turns : KeepsTurns (pair_words s) c m
  pub lines : report (pair_words s) m ≡ told_lines (pair_words s) false m
  -- no idle turn leaves anything due, and what is to be read was read dry
  pub rests : IdlesAtRest (pair_words s) c m
  pub silent : IdlesInSilence (pair_words s) m
  -- where no pair ran out of memory and no sink failed, and nothing more comes, the calls alone are
  -- a whole run: each is the next one after those before it, and none comes after the last
  pub alone : IsPlain m → next (pair_words s) c m ≡ Done → IsWholeRun (pair_words s) c (calls m)

-- all of them hold at each point of a run: after all its marks, and before any number of the newest
abbrev pub IsLawfulThroughout : SetupText → Limits → History → Type 0
IsLawfulThroughout s c m = (n : ℕ) → IsLawfulRun s c (drop n m)
