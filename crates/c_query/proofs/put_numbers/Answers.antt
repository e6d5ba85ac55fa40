-- `c_query::put_numbers` meets its contract. Assumes nothing.
use native.Mathlib.Omega.{arith}
use Prim.Native.Nat.{ℕ, ◌+◌, ◌/◌}
use mathlib.Core.Path.{◌≡◌, refl, sym, ap, ◌∙◌}
use mathlib.Core.List.{List, [], ◌∷◌}
use lib.ListN.{length, drop}
use Rattle.wire.specs.Wire.{splice}
use Rattle.wire.proofs.Splices.{length-splice}
use Rattle.rows.specs.declared.Row.{Row}
use Rattle.rows.specs.Rows.{stride}
use Rattle.rows.proofs.Rows.{row-part, rows-turn, rows_end, length-rows}
use Rattle.query.specs.Query.{chosen}
use Rattle.query.proofs.Passes.{length-cons}
use Rattle.c_query.specs.Query.{c_rows, numbers_bytes}
use Rattle.c_query.proofs.Stores.{put-turn, put-end}
use Rattle.c_query.proofs.put_numbers.Goals.{After-row_at-row}
use Rattle.c_query.proofs.put_numbers.Goals as goal

pub loop-i-init : goal.loop-i-init
loop-i-init c = (refl, omega arith, refl)

-- the numbers still to be written, by the row in hand and those behind it
turn : (c : After-row_at-row) →
    let a = c.args in
    let all = c_rows a.rows.now in
    chosen a.from a.to c.loop-i.i (drop c.loop-i.i all) ≡ chosen a.from a.to c.loop-i.i (c.row_at-row.result ∷ drop (c.loop-i.i + 1) all)
turn c =
    let a = c.args in
    ap (chosen a.from a.to c.loop-i.i)
    (rows-turn _ a.rows.now c.loop-i.i c.row_at-row.result (c.row_at-row.ensures ∙ row-part a.rows.now c.loop-i.i) (omega arith))

pub overflow_cast-i : goal.overflow_cast-i
overflow_cast-i c =
    let a = c.args in
    omega (arith, length-rows (length a.rows.now / stride) a.rows.now)

pub put_number-at-requires : goal.put_number-at-requires
put_number-at-requires c =
    let a = c.args in
    omega (
      arith,
      ap length (turn (goal.at.put_number-at-requires c).After-row_at-row),
      length-cons a.from a.to c.loop-i.i c.row_at-row.result (drop (c.loop-i.i + 1) (c_rows a.rows.now)),
    )

pub loop-i-preserved : goal.loop-i-preserved
loop-i-preserved c =
    let a = c.args in
    let one = chosen a.from a.to c.loop-i.i (c.row_at-row.result ∷ []) in
    let rest = drop (c.loop-i.i + 1) (c_rows a.rows.now) in (
      rw c.put_number-at.ensures.1 (length-splice c.loop-i.out c.loop-i.at (numbers_bytes one) ∙ c.loop-i.invariant.0),
      omega (
        arith,
        c.put_number-at.ensures.0,
        ap length (turn (goal.at.loop-i-preserved c).After-row_at-row),
        length-cons a.from a.to c.loop-i.i
            c.row_at-row.result rest,
      ),
      rw (c.put_number-at.ensures.1, c.put_number-at.ensures.0)
          (put-turn a.from a.to c.loop-i.out c.loop-i.at c.loop-i.i c.row_at-row.result rest
          ∙ ap (λ (ns : List ℕ). splice c.loop-i.out c.loop-i.at (numbers_bytes ns)) (sym (turn (goal.at.loop-i-preserved c).After-row_at-row))
          ∙ c.loop-i.invariant.2),
    )

pub returns : goal.returns
returns c =
    let a = c.args in
    sym (put-end a.from a.to c.loop-i.out c.loop-i.at c.loop-i.i)
    ∙ ap (λ (rs : List Row). splice c.loop-i.out c.loop-i.at (numbers_bytes (chosen a.from a.to c.loop-i.i rs)))
    (sym (rows_end _ a.rows.now c.loop-i.i (omega arith)))
    ∙ c.loop-i.invariant.2
