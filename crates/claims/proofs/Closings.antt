-- A closing that is accepted is the last call that stores, and its file is as document 01 has it. Assumes nothing.
use mathlib.Core.Path.{◌≡◌, refl, sym, ap, ◌∙◌}
use mathlib.Core.List.{List, [], ◌∷◌, ◌++◌, map, append_assoc, append-nil}
use Prim.Native.Nat.{ℕ}
use lib.ListN.{length}
use Rattle.verdict.specs.Rules.{sound, broken, first_broken}
use Rattle.verdict.proofs.Laws.{never_both, then-broken, settle-verdict}
use Rattle.layout.specs.Layout.{blocks_bytes, finished_bytes, table_of}
use Rattle.packing.specs.Table.{records_in, fields_of}
use Rattle.writer.specs.declared.state.Turn.TheVariants as turn
use Rattle.writer.specs.declared.state.Writer.{Writer}
use Rattle.writer.specs.State.{new_writer, begun_rules}
use Rattle.writer.specs.Begin.{begin_rules, begin_of}
use Rattle.writer_close.specs.Close.{close_rules, closed, close_of}
use Rattle.writer.proofs.Turns.{not-begun, new-turn, closed-turn}
use Rattle.writer.proofs.Beginning.{begin-turn}
use Rattle.writer_names.specs.Name.{name_rules}
use Rattle.writer_names.specs.Name as writer
use Rattle.writer_entries.specs.Entry.{entry_rules, entry_of}
use Rattle.writer_blocks.specs.Block.{Adding, block_for, block_rules, block_of}
use Rattle.disk.specs.Disk.{Store, finished}
use Rattle.disk.proofs.Disk.{finished-closed}
use Rattle.disk.proofs.Stores.{open_stores, closed_stores}
use Rattle.claims.specs.Calls.{Call, begin, name, entry, block, close, verdict_for, run, last, addings}
use Rattle.claims.specs.Calls.{Writing, new_writing, behind, Fair, Closes, file_of}
use Rattle.claims.specs.Demand2.{AllLate}
use Rattle.claims.proofs.Again.{run-append, last-append, fair-first}
use Rattle.claims.proofs.Calls.{close-leaves}
use Rattle.claims.proofs.Demand1.{call-refused}
use Rattle.claims.proofs.Names.{behind-writer}
use Rattle.claims.proofs.Runs.{Between, relent, Stage, fresh, amid, done, stage-new, close-turn, closing-is}

-- it is accepted between begin and closing only
closing-amid : (xs : List Adding) (ss : List Store) (k : Writing) (t plain stored out : List ℕ)
    → first_broken (close_rules k.writer t plain stored (length out)) ≡ sound → Stage xs ss k
    → Between xs k.writer k.table × (ss ≡ open_stores xs)
closing-amid xs ss k t plain stored out e (fresh n x s) =
    absurd (never_both _ 17 0 (close-turn k.writer (new-turn k.writer.turn n).1 t plain stored out) e)
closing-amid xs ss k t plain stored out e (amid b s) = (b, s)
closing-amid xs ss k t plain stored out e (done c u d p q s) =
    absurd (never_both _ 17 0 (close-turn k.writer (closed-turn k.writer.turn c).1 t plain stored out) e)

module _ (cs : List Call) (t plain stored out : List ℕ) (f : Fair new_writing (cs ++ (close t plain stored out ∷ []))) (c : Closes cs t plain stored out) where
  abbrev k : Writing
  k = behind new_writing cs

  pub closing-rules : first_broken (close_rules k.writer t plain stored (length out)) ≡ sound
  unfolding verdict_for close_of
  closing-rules =
      rw (behind-writer cs new_writing)
      (sym (settle-verdict (first_broken (close_rules (last new_writer cs) t plain stored (length out))) _) ∙ c)

  -- the state behind the calls, with the table that closing is lent
  pub closing-between : Between (addings new_writer cs) k.writer t × (run new_writer cs ≡ open_stores (addings new_writer cs))
  unfolding Fair
  closing-between =
      let g = fair-first cs (close t plain stored out ∷ []) new_writing f in
      let i = closing-amid (addings new_writer cs) (run new_writer cs) k t plain stored out closing-rules (stage-new cs new_writing g.0 refl) in
      (relent (addings new_writer cs) k.writer k.table i.0 t (g.1.0.1 (rw (behind-writer cs new_writing) c)), i.1)

  closing-stores : run new_writer (cs ++ (close t plain stored out ∷ [])) ≡ closed_stores (addings new_writer cs) stored
  unfolding run closed_stores
  closing-stores =
      let i = closing-between in
      let xs = addings new_writer cs in
      run-append new_writer cs (close t plain stored out ∷ [])
      ∙ rw (i.1, ← behind-writer cs new_writing, closing-is xs k.writer t i.0 plain stored out closing-rules, append-nil)

  pub file-is : (let bs = map block_for (addings new_writer cs) in file_of cs t plain stored out [] ≡ finished_bytes (table_of bs) (blocks_bytes 0 bs) stored)
  file-is = ap finished closing-stores ∙ finished-closed (addings new_writer cs) stored

-- ---- behind the closing

late-call : (w : Writer) → w.turn ≡ turn.Closed → (c : Call) → verdict_for w c ≡ broken 17 0
unfolding verdict_for begin_of writer.name_of entry_of block_of close_of name_rules entry_rules block_rules close_rules
late-call w t (begin out) =
    settle-verdict (first_broken (begin_rules w (length out))) _ ∙ begin-turn w (length out) (closed-turn w.turn t).0
late-call w t (name d n) =
    settle-verdict (first_broken (name_rules w d n)) _ ∙ then-broken (begun_rules w) _ 17 0 (not-begun w (closed-turn w.turn t).1)
late-call w t (entry p u text fields) =
    settle-verdict (first_broken (entry_rules w u text (records_in fields) (fields_of fields) (length p))) _
    ∙ then-broken (begun_rules w) _ 17 0 (not-begun w (closed-turn w.turn t).1)
late-call w t (block u a out) =
    settle-verdict (first_broken (block_rules w a (length u) (length out))) _
    ∙ then-broken (begun_rules w) _ 17 0 (not-begun w (closed-turn w.turn t).1)
late-call w t (close u plain stored out) =
    settle-verdict (first_broken (close_rules w u plain stored (length out))) _
    ∙ then-broken (begun_rules w) _ 17 0 (not-begun w (closed-turn w.turn t).1)

late-calls : (cs : List Call) (w : Writer) → w.turn ≡ turn.Closed → AllLate w cs × (run w cs ≡ [])
unfolding AllLate run
late-calls [] w t = (tt, refl)
late-calls (c ∷ cs) w t =
    let v = late-call w t c in
    let x = call-refused w c 17 0 v in
    let r = late-calls cs w t in
    ((v, rw x.0 r.0), rw (x.0, x.2) r.1)

module _ (cs : List Call) (t plain stored out : List ℕ) (c : Closes cs t plain stored out) where
  closed-turned : (last new_writer (cs ++ (close t plain stored out ∷ []))).turn ≡ turn.Closed
  unfolding last closed verdict_for close_of
  closed-turned =
      let w = last new_writer cs in
      let e = sym (settle-verdict (first_broken (close_rules w t plain stored (length out))) _) ∙ c in
      ap (λ (v : Writer). v.turn) (last-append new_writer cs (close t plain stored out ∷ []) ∙ close-leaves w t plain stored out e)

  pub closed-late : (later : List Call) → AllLate (last new_writer (cs ++ (close t plain stored out ∷ []))) later
  closed-late later = (late-calls later (last new_writer (cs ++ (close t plain stored out ∷ []))) closed-turned).0

  -- calls behind it store nothing
  pub closed-stores : (later : List Call) → file_of cs t plain stored out later ≡ file_of cs t plain stored out []
  closed-stores later =
      let one = close t plain stored out ∷ [] in
      let n = (late-calls later (last new_writer (cs ++ one)) closed-turned).1 in
      let s : cs ++ (close t plain stored out ∷ later) ≡ (cs ++ one) ++ later = sym (append_assoc cs one later) in
      ap finished (ap (run new_writer) s ∙ run-append new_writer (cs ++ one) later ∙ rw n (append-nil (run new_writer (cs ++ one))))
