-- What the poll does: for every state that has these tables, the model's definition gives what the code leaves and answers.
-- Assumes nothing.
use Rattle.std.specs.Prelude.{◌≡◌, List, Bool, ◌&&◌, ℕ, eqb}
use Rattle.std.proofs.Math.Option.{Option}
use Rattle.settings.specs.declared.Settings.{Settings}
use Rattle.waiting_store.specs.Entries.{waiting_of}
use Rattle.waiting_store.specs.Entries as waiting
use Rattle.pairs.specs.declared.SweepAnswer.{SweepAnswer}
use Rattle.pairs.specs.Table.{Key}
use Rattle.pairs.specs.Answers.{answer_of}
use Rattle.pair_rows.specs.View.{Rows}
use Rattle.sequences.specs.declared.SequenceNumbering.{SequenceNumbering}
use Rattle.sequences.specs.View as sequences
use Rattle.model.specs.State.{State}
use Rattle.model.specs.Step.{with_data, with_sync, with_waiting, poll}

-- the poll
pub record Polls (S : Settings) (now : ℕ) (q : SequenceNumbering) (m : sequences.Lent) (n : ℕ) (rows : Rows) (store : List ℕ) (q' : SequenceNumbering) (m' : sequences.Lent) (n' : ℕ) (rows' : Rows) (store' : List ℕ) (answer : SweepAnswer) : Type 0 where
  pub timed_out : Option Key
  pub answer_is : answer ≡ answer_of timed_out
  pub state_is : (s : State) → s.data_pairs ≡ sequences.data_of q m → s.sync_pairs ≡ sequences.sync_of q m → s.waiting ≡ waiting_of n rows store
      → poll S now s ≡ (with_data (sequences.data_of q' m') (with_sync (sequences.sync_of q' m') (with_waiting (waiting_of n' rows' store') s)), timed_out)
  pub kept : sequences.Kept q' m'
  pub kept_waiting : waiting.Kept n' rows' store'
  pub lent_waiting : waiting.Lent rows store rows' store'

-- the notes of both tables are quiet, and nothing waits
abbrev pub idle : Settings → ℕ → SequenceNumbering → ℕ → Bool
idle S now q n = sequences.quiet S.announce_timeout now q && eqb n 0
