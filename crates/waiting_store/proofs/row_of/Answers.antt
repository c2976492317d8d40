-- The words are the header's, so that they read as the header; its numbers fit their fields.
-- Assumes nothing.
use mathlib.Core.Path.{◌≡◌}
use Rattle.waiting_store.specs.Entries.{row_of, words_of}
use Rattle.waiting_store.specs.Posts.{rowed_words}
use Rattle.std.proofs.Common.{rules}
use Rattle.waiting_store.proofs.row_of.Goals.{in-Merged, in-Of}
use Rattle.waiting_store.proofs.row_of.Goals as goal

pub returns : goal.returns
returns c =
    let v = c.args in
    let p = c.match-d.present in
    let told : row_of v.d p.0 p.1 p.2 v.n ≡ words_of v.d v.n = elim c.match-d.branch [ in-Merged w ↦ search rules | in-Of w ↦ search rules ] in
    rowed_words v.d v.n _ (search rules) (search rules) (search rules) (search rules) (rw (c.from.ensures, c.from-2.ensures, c.from-3.ensures, c.from-4.ensures) told)
