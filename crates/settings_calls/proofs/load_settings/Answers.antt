-- The law of the last return.
-- Assumes nothing.
use mathlib.Core.Path.{sym, ap, ◌∙◌}
use mathlib.Core.List.{List}
use Prim.Native.Nat.{ℕ, ◌+◌}
use native.Mathlib.Omega.{arith}
use lib.ListN.{drop}
use lib.Seq.{get_or-drop}
use Rattle.laws.specs.Parts.{part_rest}
use Rattle.settings_store.specs.Record.{of_layout}
use Rattle.settings_store.proofs.ReturnsLaws.{all_bytes, loads_fields}
use Rattle.settings_calls.specs.View.{layout_fields}
use Rattle.settings_calls.proofs.load_settings.Goals as goal

pub returns : goal.returns
returns c =
    let b = c.args.bytes.now in
    let k = c.type_inv.bytes in
    loads_fields c.args.layouts b c.read_layout.result (layout_fields c.layout_of-layout.result) (all_bytes (drop 3 b) (λ i. rw (get_or-drop 3 b i 0) (omega (arith, k (3 + i))))) (omega (arith, c.if-bytes-lt3.false)) (sym c.is_marked.ensures ∙ c.if-not-is_marked.false) c.layout_of-layout.ensures
    (c.read_layout.ensures ∙ ap (λ (p : List ℕ). of_layout (layout_fields c.layout_of-layout.result) p) (part_rest b 3))
