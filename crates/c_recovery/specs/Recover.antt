-- Recovery at the C edge. Assumes nothing.
use Rattle.std.specs.Prelude.{Bool, List, [], ◌∷◌, ◌++◌, ℕ, length}
use Rattle.verdict.specs.Rules.{Rule, at_least, Verdict, sound, broken, if_sound, first_broken, settle}
use Rattle.wire.specs.Wire.{le, splice}
use Rattle.rows.specs.Rows.{table_bytes}
use Rattle.recovery.specs.Recovery.{report_of, call_rules}
use Rattle.c_answer.specs.declared.Answer.{Answer}
use Rattle.c_answer.specs.Answer.{answered, flag_of}

-- "number and place that stopped it", 0 for a clean end
abbrev pub stop_number : Verdict → ℕ
stop_number sound = 0
stop_number (broken n p) = n

abbrev pub stop_place : Verdict → ℕ
stop_place sound = 0
stop_place (broken n p) = p

-- "four u64: end of the last whole block, number and place that stopped it, 1 or 0 for a whole dictionary"
unfoldable pub report_bytes : (end : ℕ) (stop : Verdict) (whole : Bool) → List ℕ
report_bytes end stop whole = le 8 end ++ (le 8 (stop_number stop) ++ (le 8 (stop_place stop) ++ le 8 (flag_of whole)))

-- recovery's own, with 12 for the rows, and last 12 for the report
unfoldable pub c_recover_rules : (log : List ℕ) (rows report : ℕ) → List Rule
c_recover_rules log rows report = call_rules log rows ++ (at_least 12 32 report 32 ∷ [])

unfoldable pub c_recover_of : (log : List ℕ) (rows report : ℕ) → Answer
c_recover_of log rows report =
    answered (settle (first_broken (c_recover_rules log rows report)) (length (report_of log).rows))

-- the lent rows and the lent report afterwards
unfoldable pub c_recover_rows : (log rows : List ℕ) (report : ℕ) → List ℕ
c_recover_rows log rows report =
    if_sound (first_broken (c_recover_rules log (length rows) report))
    (splice rows 0 (table_bytes (report_of log).rows))
    rows

unfoldable pub c_recover_report : (log : List ℕ) (rows : ℕ) (report : List ℕ) → List ℕ
c_recover_report log rows report =
    if_sound (first_broken (c_recover_rules log rows (length report)))
    (splice report 0 (report_bytes (report_of log).end (report_of log).stop (report_of log).whole))
    report
