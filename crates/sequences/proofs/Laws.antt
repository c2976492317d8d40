-- One law for each return of the calls: what the tables' own calls ensure makes the pair of tables that the definition says.
-- Assumes nothing.
use Rattle.std.specs.Prelude.{◌≡◌, refl, Bool, true, false, not, cond, ℕ}
use Rattle.std.proofs.Common.{sym, ap, ◌∙◌, arith}
use Rattle.std.proofs.Math.Option.{Option, none, some}
use Rattle.laws.specs.Cases.{split, clash}
use Rattle.rules.specs.declared.Cid.{Cid}
use Rattle.pairs.specs.declared.Pair.{Pair}
use Rattle.pairs.specs.declared.SweepAnswer.{SweepAnswer}
use Rattle.rules.specs.declared.DataSequence.{DataSequence}
use Rattle.rules.specs.declared.SyncSequence.{SyncSequence}
use Rattle.pair_tables.specs.declared.TableOf.{TableOf}
use Rattle.pairs.specs.declared.SweepAnswer.TheVariants.{Quiet, TimedOut}
use Rattle.pairs.specs.Table.{Table, Key, key, pair_at, sweep, without, unknown}
use Rattle.pairs.specs.Answers.{answer_of}
use Rattle.pair_rows.specs.View.{Rows}
use Rattle.pair_tables.specs.View as tables
use Rattle.pair_tables.specs.View.{table_of, removal}
use Rattle.pair_tables.proofs.CallsLaws.{sweep_quiet}
use Rattle.sequences.specs.declared.SequenceNumbering.{SequenceNumbering}
use Rattle.sequences.specs.Sequences.{Numbers, numbers, timeouts, timeouts_data, timeouts_sync, removed}
use Rattle.sequences.specs.View.{Lent, lent, data_of, sync_of, numbers_of, quiet, Kept, Follows, Unmoved, answered}

-- ── the definition, by what the first sweep gave ──
pub answer_some : (o : Option Key) (c : Cid) (u : ℕ) → TimedOut c u ≡ answer_of o → o ≡ some (key c u)
answer_some none c u e = let z : ◌≡◌ {A = ℕ} 0 1 = cc in absurd (omega arith)
answer_some (some k) c u e = ap {B = Option Key} some (λ i. record { cid = p i; universe = q i })
  where
    p : k.cid ≡ c
    p = cc

    q : k.universe ≡ u
    q = cc

pub answer_none : (o : Option Key) → Quiet ≡ answer_of o → o ≡ none
answer_none none e = refl
answer_none (some k) e = let z : ◌≡◌ {A = ℕ} 0 1 = cc in absurd (omega arith)

timeouts_told : (announce : Bool) (now : ℕ) (n : Numbers) (k : Key) → (sweep announce now n.data_table).1 ≡ some k
    → timeouts announce now n ≡ (numbers (sweep announce now n.data_table).0 n.sync_table, some k)
unfolding timeouts timeouts_data
timeouts_told announce now n k e = ap (timeouts_data announce now n.sync_table) (λ i. ((sweep announce now n.data_table).0, e i))

timeouts_on : (announce : Bool) (now : ℕ) (n : Numbers) → (sweep announce now n.data_table).1 ≡ none
    → timeouts announce now n ≡ (numbers (sweep announce now n.data_table).0 (sweep announce now n.sync_table).0, (sweep announce now n.sync_table).1)
unfolding timeouts timeouts_data timeouts_sync
timeouts_on announce now n e = ap (timeouts_data announce now n.sync_table) (λ i. ((sweep announce now n.data_table).0, e i))

-- ── the calls ──
module _ (n : SequenceNumbering) (m : Lent) (k : Kept n m) (announce : Bool) (now : ℕ) (d : TableOf DataSequence) (dp ds : Rows) where
  -- the data table gave number 4
  pub checks_data : (c : Cid) (u : ℕ) (a : SweepAnswer) → tables.Follows d.table dp ds a (tables.answered (sweep announce now (data_of n m))) → a ≡ TimedOut c u
      → Follows (record { «data» = d; sync = n.sync }) (lent dp ds m.sync_pairs m.sync_sources) (TimedOut c u) (answered (timeouts announce now (numbers_of n m)))
  checks_data c u a f e =
      let t = timeouts_told announce now (numbers_of n m) (key c u) (answer_some (sweep announce now (data_of n m)).1 c u (sym e ∙ f.answer_is)) in
      record {
        numbers_are = ap (λ (x : Table). numbers x (sync_of n m)) f.table_is ∙ sym (ap (λ (r : Numbers × Option Key). r.0) t);
        answer_is = sym (ap (λ (r : Numbers × Option Key). answer_of r.1) t);
        kept = record { kept_data = f.kept; kept_sync = k.kept_sync };
      }

  -- it gave nothing, and the synchronisation table was swept too
  pub checks_both : (a b : SweepAnswer) (y : TableOf SyncSequence) (sp ss : Rows) → tables.Follows d.table dp ds a (tables.answered (sweep announce now (data_of n m))) → a ≡ Quiet
      → tables.Follows y.table sp ss b (tables.answered (sweep announce now (sync_of n m)))
      → Follows (record { «data» = d; sync = y }) (lent dp ds sp ss) b (answered (timeouts announce now (numbers_of n m)))
  checks_both a b y sp ss f e g =
      let t = timeouts_on announce now (numbers_of n m) (answer_none (sweep announce now (data_of n m)).1 (sym e ∙ f.answer_is)) in
      record {
        numbers_are = ap (λ (x : Table). numbers x (table_of y.table sp ss)) f.table_is ∙ ap (numbers (sweep announce now (data_of n m)).0) g.table_is ∙ sym (ap (λ (r : Numbers × Option Key). r.0) t);
        answer_is = g.answer_is ∙ sym (ap (λ (r : Numbers × Option Key). answer_of r.1) t);
        kept = record { kept_data = f.kept; kept_sync = g.kept };
      }

  -- a 4 from the data table leaves the synchronisation rows
  pub unmoved_data : tables.Unmoved n.«data».table m.data_pairs m.data_sources now dp ds → Unmoved n m now (lent dp ds m.sync_pairs m.sync_sources)
  unmoved_data u = record { data_same = u; sync_same = record { rows_same = λ s l. (refl, refl) } }

-- quiet notes: the timeouts leave all, and tell nothing
pub checks_nothing : (n : SequenceNumbering) (m : Lent) (k : Kept n m) (announce : Bool) (now : ℕ) → quiet announce now n ≡ true → Follows n m Quiet (answered (timeouts announce now (numbers_of n m)))
checks_nothing n m k announce now h =
    let d : tables.quiet announce now n.«data».table ≡ true = split (tables.quiet announce now n.«data».table) (λ e. e) (λ e. clash h (rw e)) in
    let y : tables.quiet announce now n.sync.table ≡ true = split (tables.quiet announce now n.sync.table) (λ e. e) (λ e. clash h (rw (d, e))) in
    checks_both n m k announce now n.«data» m.data_pairs m.data_sources Quiet Quiet n.sync m.sync_pairs m.sync_sources
    (sweep_quiet n.«data».table m.data_pairs m.data_sources k.kept_data announce now d) refl
    (sweep_quiet n.sync.table m.sync_pairs m.sync_sources k.kept_sync announce now y)

-- a removal, by what was found of the data pair
pub removed_found : (j : Key) (x : Numbers) (o : Option Pair) → pair_at j x.data_table.pairs ≡ o
    → removed j x ≡ numbers (without j x.data_table) (cond (unknown o) x.sync_table (without j x.sync_table))
unfolding removed
removed_found j x o e = rw e

-- by whether it was known
known_first : (j : Key) (x : Numbers) → not (unknown (pair_at j x.data_table.pairs)) ≡ true → removed j x ≡ numbers (without j x.data_table) (without j x.sync_table)
unfolding removed
known_first j x e = split (unknown (pair_at j x.data_table.pairs)) (λ h. let z : false ≡ true = rw h at e in clash z refl) (λ h. rw h)

unknown_first : (j : Key) (x : Numbers) → not (unknown (pair_at j x.data_table.pairs)) ≡ false → removed j x ≡ numbers (without j x.data_table) x.sync_table
unfolding removed
unknown_first j x e = split (unknown (pair_at j x.data_table.pairs)) (λ h. rw h) (λ h. let z : true ≡ false = rw h at e in clash refl z)

module _ (n : SequenceNumbering) (m : Lent) (k : Kept n m) (j : Key) (d : TableOf DataSequence) (dp ds : Rows) (known : Bool)
    (f : tables.Follows d.table dp ds known (removal j (data_of n m))) where
  pub removes_both : (y : TableOf SyncSequence) (sp ss : Rows) (b : Bool) → known ≡ true → tables.Follows y.table sp ss b (removal j (sync_of n m))
      → (numbers_of (record { «data» = d; sync = y }) (lent dp ds sp ss) ≡ removed j (numbers_of n m)) × Kept (record { «data» = d; sync = y }) (lent dp ds sp ss)
  removes_both y sp ss b e g = (
    ap (λ (x : Table). numbers x (table_of y.table sp ss)) f.table_is ∙ ap (numbers (without j (data_of n m))) g.table_is ∙ sym (known_first j (numbers_of n m) (sym f.answer_is ∙ e)),
    record { kept_data = f.kept; kept_sync = g.kept },
  )

  pub removes_none : known ≡ false
      → (numbers_of (record { «data» = d; sync = n.sync }) (lent dp ds m.sync_pairs m.sync_sources) ≡ removed j (numbers_of n m))
      × Kept (record { «data» = d; sync = n.sync }) (lent dp ds m.sync_pairs m.sync_sources)
  removes_none e = (
    ap (λ (x : Table). numbers x (sync_of n m)) f.table_is ∙ sym (unknown_first j (numbers_of n m) (sym f.answer_is ∙ e)),
    record { kept_data = f.kept; kept_sync = k.kept_sync },
  )
