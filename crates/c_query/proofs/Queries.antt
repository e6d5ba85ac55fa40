-- Laws of the choice of blocks at the C edge: what each part of the call decides, and what is handed back and written then. Assumes nothing.
use mathlib.Core.Path.{◌≡◌, refl, ap, ◌∙◌}
use mathlib.Core.List.{List, [], ◌∷◌, ◌++◌}
use Prim.Native.Nat.{ℕ, ◌*◌, ◌%◌, ◌≤◌, ◌<◌}
use native.Mathlib.Omega.{arith}
use lib.ListN.{length}
use Rattle.verdict.specs.Rules.{Rule, at_least, Verdict, sound, broken, first_broken, given, refused, settle, if_sound}
use Rattle.verdict.proofs.Laws.{equal-holds, equal-breaks, least-holds, least-breaks, most-holds, most-breaks, first-none, then-sound, then-broken}
use Rattle.wire.specs.Wire.{splice}
use Rattle.rows.specs.Rows.{stride}
use Rattle.query.specs.Query.{row_rules, count_of}
use Rattle.query.proofs.Rules.{count-refuses, count_gives, counted-rows}
use Rattle.c_answer.specs.declared.Answer.{Answer}
use Rattle.c_answer.specs.Answer.{answered}
use Rattle.c_query.specs.Query.{epoch, c_rows, c_chosen, numbers_bytes, c_query_rules, c_query_of, c_query_out}

module _ (rows : List ℕ) (t1 t2 : ℕ) where
  module _ (numbers : List ℕ) where
    -- what is handed back, and the numbers afterwards
    abbrev pub Queries : Answer → List ℕ → Type 0
    Queries r out = (r ≡ c_query_of rows t1 t2 (length numbers)) × (out ≡ c_query_out rows t1 t2 numbers)

    settled : (v : Verdict) (r : Answer) → first_broken (c_query_rules rows t1 t2 (length numbers)) ≡ v
        → r ≡ answered (settle v (length (c_chosen rows t1 t2)))
        → Queries r (if_sound v (splice numbers 0 (numbers_bytes (c_chosen rows t1 t2))) numbers)
    unfolding c_query_of c_query_out
    settled v r e a = rw (e, a) (refl, refl)

    module _ (r : Answer) where
      pub query-turned : t2 < t1 → r ≡ answered (refused 13 t1) → Queries r numbers
      unfolding c_query_rules
      query-turned h a = settled (broken 13 t1) r (most-breaks _ _ _ _ _ h) a

      module _ (times : t1 ≤ t2) where
        pub query-uneven : (length rows % stride ≡ 0 → ⊥) → r ≡ answered (refused 6 (length rows)) → Queries r numbers
        unfolding c_query_rules
        query-uneven h a = settled (broken 6 (length rows)) r (most-holds _ _ _ _ _ times ∙ equal-breaks _ _ _ _ _ h) a

        module _ (even : length rows % stride ≡ 0) where
          abbrev last : List Rule
          last = at_least 12 (4 * length (c_chosen rows t1 t2)) (length numbers) (4 * length (c_chosen rows t1 t2)) ∷ []

          rules : first_broken (c_query_rules rows t1 t2 (length numbers)) ≡ first_broken (row_rules (c_rows rows) ++ last)
          unfolding c_query_rules
          rules = most-holds _ _ _ _ _ times ∙ equal-holds _ _ _ _ _ even

          pub query-refuses : (n p : ℕ) → refused n p ≡ count_of (c_rows rows) (epoch t1) (epoch t2) → r ≡ answered (refused n p) → Queries r numbers
          query-refuses n p e a =
              settled (broken n p) r
              (rules ∙ then-broken (row_rules (c_rows rows)) last n p (count-refuses (c_rows rows) (epoch t1) (epoch t2) times n p e)) a

          module _ (k : ℕ) (e : given k ≡ count_of (c_rows rows) (epoch t1) (epoch t2)) where
            pub query-short : length numbers < 4 * k → r ≡ answered (refused 12 (4 * k)) → Queries r numbers
            query-short h a =
                let s = count_gives (c_rows rows) (epoch t1) (epoch t2) k e in
                let g : length numbers < 4 * length (c_chosen rows t1 t2) = omega (arith, h, s.1) in
                settled (broken 12 (4 * length (c_chosen rows t1 t2))) r
                (rules ∙ then-sound (row_rules (c_rows rows)) last (counted-rows (c_rows rows) (epoch t1) (epoch t2) k e) ∙ least-breaks _ _ _ _ _ g)
                (a ∙ ap (λ (m : ℕ). answered (refused 12 (4 * m))) s.1)

            pub query-gives : (out : List ℕ) → 4 * k ≤ length numbers → out ≡ splice numbers 0 (numbers_bytes (c_chosen rows t1 t2))
                → r ≡ answered (given k) → Queries r out
            query-gives out h w a =
                let s = count_gives (c_rows rows) (epoch t1) (epoch t2) k e in
                let g : 4 * length (c_chosen rows t1 t2) ≤ length numbers = omega (arith, h, s.1) in
                rw w
                (settled sound r
                (rules ∙ then-sound (row_rules (c_rows rows)) last (counted-rows (c_rows rows) (epoch t1) (epoch t2) k e) ∙ least-holds _ _ _ _ _ g
                ∙ first-none)
                (a ∙ ap (λ (m : ℕ). answered (given m)) s.1))
