-- The row is set and the values are laid over the block.
-- Assumes nothing.
use Rattle.waiting_store.specs.Posts.{changed_put}
use Rattle.waiting_store.proofs.write_entry.Goals as goal

pub returns : goal.returns
returns c =
    let v = c.args in
    changed_put v.rows.now v.store.now c.paste.new.elements v.i c.row_of.result v.values.now v.d c.requires.0 c.requires.1 c.requires.2
    c.row_of.ensures.1 c.paste.ensures
