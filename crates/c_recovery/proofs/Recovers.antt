-- Laws of recovery at the C edge: what each part of the call decides, and what is handed back and written then. Assumes nothing.
use mathlib.Core.Path.{◌≡◌, refl, sym, ap, ◌∙◌}
use mathlib.Core.List.{List, ◌++◌}
use Prim.Native.Nat.{ℕ, ◌*◌, ◌≤◌, ◌<◌}
use native.Mathlib.Omega.{arith}
use lib.ListN.{length}
use Rattle.verdict.specs.Rules.{Verdict, sound, broken, first_broken, given, refused, settle, if_sound}
use Rattle.verdict.proofs.Laws.{least-holds, least-breaks, first-none, then-sound, then-broken}
use Rattle.wire.specs.Wire.{splice}
use Rattle.rows.specs.Rows.{stride, table_bytes, room_rules}
use Rattle.rows.proofs.Rows.{length-table}
use Rattle.recovery.specs.Recovery.{recover_rules, report_of, call_rules, recover_of, Counts, counted, recover_out}
use Rattle.recovery.proofs.Reports.{counted-refused, counted-given}
use Rattle.c_answer.specs.declared.Answer.{Answer}
use Rattle.c_answer.specs.Answer.{answered}
use Rattle.c_recovery.specs.Recover.{report_bytes, c_recover_rules, c_recover_of, c_recover_rows, c_recover_report}
use Rattle.c_answer.proofs.Lacking.{lacking, lacking-broken, lacking-sound, lacking-rules, lacking-never, roomy-rules}

-- ---- where the report has no room, by what recovery without rows says

module _ (log : List ℕ) (rows : ℕ) where
  pub short-unread : (n p : ℕ) → refused n p ≡ counted (settle (first_broken (recover_rules log)) (report_of log))
      → answered (refused n p) ≡ answered (settle (lacking (call_rules log rows) 32) (length (report_of log).rows))
  unfolding call_rules
  short-unread n p e =
      rw (lacking-broken (recover_rules log ++ room_rules (report_of log).rows rows) 32 n p (then-broken (recover_rules log) _ n p (counted-refused _ _ n p e)))

  module _ (c : Counts) (e : given c ≡ counted (settle (first_broken (recover_rules log)) (report_of log))) where
    passes : (first_broken (recover_rules log) ≡ sound) × (c.blocks ≡ length (report_of log).rows)
    passes =
        let g = counted-given _ (report_of log) c e in
        (g.0, ap (λ (c : Counts). c.blocks) g.1)

    pub short-rows : rows < c.blocks * stride
        → answered (refused 12 (c.blocks * stride)) ≡ answered (settle (lacking (call_rules log rows) 32) (length (report_of log).rows))
    unfolding call_rules room_rules
    short-rows h =
        let l = length-table (report_of log).rows in
        let m : length (table_bytes (report_of log).rows) ≡ c.blocks * stride = omega (arith, l, passes.1) in
        let b = then-sound (recover_rules log) (room_rules (report_of log).rows rows) passes.0 ∙ least-breaks _ _ _ _ _ (omega (arith, m, h))
        ∙ ap (broken 12) m in
        rw (lacking-broken (recover_rules log ++ room_rules (report_of log).rows rows) 32 12 (c.blocks * stride) b)

    pub short-report : c.blocks * stride ≤ rows
        → answered (refused 12 32) ≡ answered (settle (lacking (call_rules log rows) 32) (length (report_of log).rows))
    unfolding call_rules room_rules
    short-report h =
        let l = length-table (report_of log).rows in
        let b = then-sound (recover_rules log) (room_rules (report_of log).rows rows) passes.0 ∙ least-holds _ _ _ _ _ (omega (arith, l, passes.1, h))
        ∙ first-none in
        rw (lacking-sound (recover_rules log ++ room_rules (report_of log).rows rows) 32 b)

-- ---- the whole call

module _ (log rows report : List ℕ) where
  -- what is handed back, and the rows and the report afterwards
  abbrev pub Recovers : Answer → List ℕ → List ℕ → Type 0
  Recovers r after out =
      (r ≡ c_recover_of log (length rows) (length report)) × (after ≡ c_recover_rows log rows (length report))
      × (out ≡ c_recover_report log (length rows) report)

  -- the report's bytes
  abbrev written : List ℕ
  written = report_bytes (report_of log).end (report_of log).stop (report_of log).whole

  settled : (v : Verdict) (r : Answer) → first_broken (c_recover_rules log (length rows) (length report)) ≡ v
      → r ≡ answered (settle v (length (report_of log).rows))
      → Recovers r (if_sound v (splice rows 0 (table_bytes (report_of log).rows)) rows) (if_sound v (splice report 0 written) report)
  unfolding c_recover_of c_recover_rows c_recover_report
  settled v r e a = rw (e, a) (refl, refl, refl)

  module _ (r : Answer) where
    pub recover-short : length report < 32 → r ≡ answered (settle (lacking (call_rules log (length rows)) 32) (length (report_of log).rows))
        → Recovers r rows report
    unfolding c_recover_rules
    recover-short h a =
        let c = call_rules log (length rows) in
        let e = lacking-rules c 32 (length report) h in
        let t = settled (lacking c 32) r e a in (
          t.0,
          sym (lacking-never c 32 (splice rows 0 (table_bytes (report_of log).rows)) rows) ∙ t.1,
          sym (lacking-never c 32 (splice report 0 written) report) ∙ t.2,
        )

    module _ (h : 32 ≤ length report) where
      rules : first_broken (c_recover_rules log (length rows) (length report)) ≡ first_broken (call_rules log (length rows))
      unfolding c_recover_rules
      rules = roomy-rules (call_rules log (length rows)) 32 (length report) h

      pub recover-refuses : (n p : ℕ) (after : List ℕ) → refused n p ≡ counted (recover_of log (length rows)) → after ≡ recover_out log rows
          → r ≡ answered (refused n p) → Recovers r after report
      unfolding recover_of recover_out
      recover-refuses n p after e o a =
          let b = counted-refused (first_broken (call_rules log (length rows))) (report_of log) n p e in
          rw (o, b) (settled (broken n p) r (rules ∙ b) a)

      pub recover-gives : (c : Counts) (after out : List ℕ) → given c ≡ counted (recover_of log (length rows)) → after ≡ recover_out log rows
          → r ≡ answered (given c.blocks) → out ≡ splice report 0 (report_bytes c.end c.stop c.whole) → Recovers r after out
      unfolding recover_of recover_out
      recover-gives c after out e o a w =
          let b = counted-given (first_broken (call_rules log (length rows))) (report_of log) c e in
          rw (o, b.0, w, b.1) (settled sound r (rules ∙ b.0) (a ∙ ap (λ (g : Counts). answered (given g.blocks)) b.1))
