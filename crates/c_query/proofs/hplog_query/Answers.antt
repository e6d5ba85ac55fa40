-- `c_query::hplog_query` meets its contract. Assumes nothing.
use native.Mathlib.Omega.{arith}
use Rattle.query.proofs.Rules.{count_gives, counted-few}
use Rattle.c_query.specs.Query.{epoch, c_rows}
use Rattle.c_query.proofs.Queries.{query-turned, query-uneven, query-refuses, query-short, query-gives}
use Rattle.c_query.proofs.hplog_query.Goals as goal

pub returns-then-t2-t1 : goal.returns-then-t2-t1
returns-then-t2-t1 c =
    let a = c.args in
    query-turned a.rows.now a.t1 a.t2 a.numbers.now _ c.if-t2-t1.true c.refuse.ensures

pub returns-then-n-ne0 : goal.returns-then-n-ne0
returns-then-n-ne0 c =
    let a = c.args in
    query-uneven a.rows.now a.t1 a.t2 a.numbers.now _ c.if-t2-t1.false c.if-n-ne0.true c.refuse-then-n-ne0.ensures

pub returns-then-numbers-needed : goal.returns-then-numbers-needed
returns-then-numbers-needed c =
    let a = c.args in
    query-short a.rows.now a.t1 a.t2 a.numbers.now _ c.if-t2-t1.false c.if-n-ne0.false _ c.in-Ok.ensures
    c.if-numbers-needed.true c.refuse-then-numbers-needed.ensures

pub put_numbers-requires : goal.put_numbers-requires
put_numbers-requires c =
    let a = c.args in
    let all = c_rows a.rows.now in (
      counted-few all (epoch a.t1) (epoch a.t2) _ c.in-Ok.ensures,
      omega (arith, (count_gives all (epoch a.t1) (epoch a.t2) _ c.in-Ok.ensures).1),
    )

pub returns-in-Err : goal.returns-in-Err
returns-in-Err c =
    let a = c.args in
    query-refuses a.rows.now a.t1 a.t2 a.numbers.now _ c.if-t2-t1.false c.if-n-ne0.false _ _
    c.in-Err.ensures c.refused.ensures

pub returns : goal.returns
returns c =
    let a = c.args in
    query-gives a.rows.now a.t1 a.t2 a.numbers.now _ c.if-t2-t1.false c.if-n-ne0.false _ c.in-Ok.ensures _
    c.if-numbers-needed.false c.put_numbers.ensures
    (rw c.from.ensures at c.accepted.ensures)
