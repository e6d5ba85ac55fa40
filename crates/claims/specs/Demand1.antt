-- Demand 1, its last sentence as one claim (document 01, "Numbers handed back"): "Every refusal returns its number and
-- a place and changes no lent byte", and no state. That each number is one of the table's is the crate
-- `claims_numbers`. Assumes nothing.
use Rattle.std.specs.Prelude.{◌≡◌, List, [], ℕ, length}
use Rattle.verdict.specs.Rules.{broken, refused}
use Rattle.rows.specs.declared.Row.{Row}
use Rattle.parts.specs.declared.time.Epoch.{Epoch}
use Rattle.reader.specs.Open.{open_of, open_out}
use Rattle.recovery.specs.Recovery.{recover_of, recover_out}
use Rattle.repair.specs.Repair.{repair_of, repair_out}
use Rattle.query.specs.Query.{query_of, query_out}
use Rattle.label.specs.Label.{label_of, label_out}
use Rattle.writer.specs.declared.state.Writer.{Writer}
use Rattle.claims.specs.Calls.{Call, verdict_for, next, lent_to, left_by, stores, accepted}

pub record RefusalsLeave : Type 0 where
  -- every call of the writer: the state, the buffers and the output stay, and nothing is stored or added
  pub writer : (w : Writer) (c : Call) (n p : ℕ) → verdict_for w c ≡ broken n p
      → (next w c ≡ w) × (left_by w c ≡ lent_to c) × (stores w c ≡ []) × (accepted w c ≡ [])
  -- the calls that write into a lent table, file, list or panel
  pub opens : (f table : List ℕ) (n p : ℕ) → open_of f (length table) ≡ refused n p → open_out f table ≡ table
  pub recovers : (f table : List ℕ) (n p : ℕ) → recover_of f (length table) ≡ refused n p → recover_out f table ≡ table
  pub repairs : (f lent out : List ℕ) (n p : ℕ) → repair_of f lent (length out) ≡ refused n p
      → repair_out f lent out ≡ out
  pub queries : (rows : List Row) (t1 t2 : Epoch) (numbers : List ℕ) (n p : ℕ)
      → query_of rows t1 t2 (length numbers) ≡ refused n p → query_out rows t1 t2 numbers ≡ numbers
  pub labels : (name panel : List ℕ) (n p : ℕ) → label_of name (length panel) ≡ refused n p → label_out name panel
      ≡ panel
