-- Document 01: "Age is now minus the stored reading, zero if that is negative." "Age 2,500 or more is expired."
-- Assumes nothing.
use Rattle.std.specs.Prelude.{ℕ, ◌-◌, Bool, nat_le}

-- a difference of naturals stops at zero
abbrev pub age : ℕ → ℕ → ℕ
age now reading = now - reading

-- the time after which data is lost, in milliseconds (E1.31 6.7.1, network data loss)
abbrev pub data_loss : ℕ
data_loss = 2500

-- as old as the given time, or older
abbrev pub aged : ℕ → ℕ → ℕ → Bool
aged time now reading = nat_le time (age now reading)

abbrev pub expired : ℕ → ℕ → Bool
expired now reading = aged data_loss now reading
