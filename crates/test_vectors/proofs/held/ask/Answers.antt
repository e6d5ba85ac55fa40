-- `test_vectors::held::ask` meets its contract. Assumes nothing.
use Rattle.std.proofs.Common.{◌≡◌, ◌/◌, min, length, take, ap, ◌∙◌, arith}
use Rattle.rows.specs.Rows.{stride, rows_of}
use Rattle.query_slice.proofs.Tables.{length-table, filled-rows}
use Rattle.test_vectors.proofs.held.ask.Goals as goal

pub returns : goal.returns
returns c =
    let t = c.args.table.now in
    let f = c.fill-n.ensures in
    let few : c.fill-n.result ≡ min (length t / stride) 8 = omega (arith, f.0, length-table t) in
    let asked : take c.fill-n.result c.fill-n.new.rows ≡ rows_of (min (length t / stride) 8) t =
    rw f.1 (filled-rows t _ _ f.0 ∙ ap (λ j. rows_of j t) few) in
    rw asked at c.query.ensures
