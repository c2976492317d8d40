-- Document 01, 'What stops a call': the number and the values of each answer. 0 is a call that nothing stopped.
-- Assumes nothing.
use Rattle.std.specs.Prelude.{List, [], ◌∷◌, ℕ}
use Rattle.rules.specs.Answer.{Value, number, integer, source, name}
use Rattle.rules.specs.Bytes.{bit}
use Rattle.model.specs.declared.StepAnswer.{StepAnswer}
use Rattle.model.specs.declared.StepAnswer.TheVariants as says
use Rattle.model.specs.declared.PollAnswer.{PollAnswer}
use Rattle.model.specs.declared.PollAnswer.TheVariants as poll
use Rattle.model.specs.declared.ExpiryAnswer.{ExpiryAnswer}
use Rattle.model.specs.declared.ExpiryAnswer.TheVariants as expiry
use Rattle.model.specs.declared.ListenAnswer.{ListenAnswer}
use Rattle.model.specs.declared.ListenAnswer.TheVariants as listen
use Rattle.model.specs.declared.MuteAnswer.{MuteAnswer}
use Rattle.model.specs.declared.MuteAnswer.TheVariants as mute
use Rattle.model.specs.declared.ClearAnswer.{ClearAnswer}
use Rattle.model.specs.declared.ClearAnswer.TheVariants as clear

abbrev pub step_number : StepAnswer → ℕ
step_number says.Nothing = 0
step_number (says.Released r b) = 0
step_number (says.TooLong n) = 1
step_number (says.IllegalUniverse u) = 2
step_number (says.UniverseTimeout c u) = 4
step_number (says.UniverseTerminated c u) = 5
step_number (says.SourcesExceeded n) = 6
step_number (says.OutOfSequence a l d) = 7
step_number says.DmxMergeError = 8
step_number says.SourceDiscovered = 9
step_number says.PairsFull = 10
step_number says.ListenedFull = 11
step_number says.WaitingFull = 12
step_number says.PagesFull = 13
step_number (says.TooShort n) = 15
step_number (says.Repeated a l d) = 21

-- the values of a step's answer; number 9 returns the name of the packet in hand
abbrev pub step_values : List ℕ → StepAnswer → List Value
step_values own says.Nothing = []
step_values own (says.Released r b) = number r ∷ number b ∷ []
step_values own (says.TooLong n) = number n ∷ []
step_values own (says.IllegalUniverse u) = number u ∷ []
step_values own (says.UniverseTimeout c u) = source c ∷ number u ∷ []
step_values own (says.UniverseTerminated c u) = source c ∷ number u ∷ []
step_values own (says.SourcesExceeded n) = number n ∷ []
step_values own (says.OutOfSequence a l d) = number a ∷ number l ∷ integer d ∷ []
step_values own says.DmxMergeError = []
step_values own says.SourceDiscovered = name own ∷ []
step_values own says.PairsFull = []
step_values own says.ListenedFull = []
step_values own says.WaitingFull = []
step_values own says.PagesFull = []
step_values own (says.TooShort n) = number n ∷ []
step_values own (says.Repeated a l d) = number a ∷ number l ∷ integer d ∷ []

abbrev pub poll_number : PollAnswer → ℕ
poll_number poll.Polled = 0
poll_number (poll.UniverseTimeout c u) = 4
poll_number (poll.TooShort n) = 15

abbrev pub poll_values : PollAnswer → List Value
poll_values poll.Polled = []
poll_values (poll.UniverseTimeout c u) = source c ∷ number u ∷ []
poll_values (poll.TooShort n) = number n ∷ []

abbrev pub expiry_number : ExpiryAnswer → ℕ
expiry_number expiry.Swept = 0
expiry_number (expiry.TooShort n) = 15

abbrev pub expiry_values : ExpiryAnswer → List Value
expiry_values expiry.Swept = []
expiry_values (expiry.TooShort n) = number n ∷ []

abbrev pub listen_number : ListenAnswer → ℕ
listen_number listen.Listening = 0
listen_number (listen.IllegalUniverse u) = 2
listen_number listen.ListenedFull = 11

abbrev pub listen_values : ListenAnswer → List Value
listen_values listen.Listening = []
listen_values (listen.IllegalUniverse u) = number u ∷ []
listen_values listen.ListenedFull = []

abbrev pub mute_number : MuteAnswer → ℕ
mute_number mute.Muted = 0
mute_number (mute.IllegalUniverse u) = 2
mute_number (mute.UniverseNotRegistered u) = 3

abbrev pub mute_values : MuteAnswer → List Value
mute_values mute.Muted = []
mute_values (mute.IllegalUniverse u) = number u ∷ []
mute_values (mute.UniverseNotRegistered u) = number u ∷ []

abbrev pub clear_number : ClearAnswer → ℕ
clear_number (clear.Cleared b) = 0
clear_number (clear.TooShort n) = 15

abbrev pub clear_values : ClearAnswer → List Value
clear_values (clear.Cleared b) = number (bit b) ∷ []
clear_values (clear.TooShort n) = number n ∷ []
