-- Byte by byte.
-- Assumes nothing.
use mathlib.Core.Path.{sym}
use Rattle.settings_store.proofs.ReturnsLaws.{record_is}
use borrow.Author.Rules.{rules}
use Rattle.settings_calls.proofs.record_of.Goals as goal

pub returns : goal.returns
returns c =
    let s = c.args.s in (
      rw (c.to_be_bytes-limit.ensures, c.to_be_bytes-expiry.ensures, c.limit_number.ensures, c.merge_number.ensures, c.from.ensures, c.from-2.ensures, c.from-3.ensures, c.from-4.ensures) (sym (record_is s)),
      rw (sym c.limit_number.ensures) (search rules),
    )
