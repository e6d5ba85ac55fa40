-- What repair makes of a disk that was cut: the finished file where the dictionary was stored in full, and else, with a lent one, the file of the
-- blocks stored in full. Assumes nothing.
use mathlib.Core.Path.{◌≡◌, sym, ap, ◌∙◌}
use mathlib.Core.Bool.{true, false}
use mathlib.Core.List.{List, [], ◌∷◌, ◌++◌, map}
use Prim.Native.Nat.{ℕ, ◌+◌, ◌-◌, ◌^◌, ◌≤◌, ◌<◌}
use native.Mathlib.Omega.{arith}
use native.Mathlib.Decide.{dec_le}
use lib.Dec.{leb}
use lib.ListN.{length, take, drop}
use lib.Seq.{take-append_seam, drop_at}
use borrow.Author.Tests.{le-leb, lt-leb, eq-eqb, ne_eqb}
use Rattle.verdict.specs.Rules.{sound, first_broken, given, ruled}
use Rattle.verdict.proofs.Laws.{first-none, equal-holds, least-holds, most-holds, then-sound}
use Rattle.wire.specs.Wire.{part, splice}
use Rattle.parts.specs.declared.Header.{Header}
use Rattle.rows.specs.declared.Row.{Row}
use Rattle.parts.specs.Parts.{empty_header, header_bytes, header_of, footer_bytes}
use Rattle.parts.proofs.Parts.{length-header}
use Rattle.layout.specs.Layout.{Block, blocks_bytes, index_bytes, tail_bytes, finished_bytes, table_of}
use Rattle.layout.proofs.Along.{end-from}
use Rattle.recovery.specs.Recovery.{recover_rules, Report, report_of}
use Rattle.frame.specs.Frame.{size_at, whole_dictionary}
use Rattle.repair.specs.Repair.{closed_rules, lent_rules, dictionary_for, repaired, repair_rules, repair_of, repair_out}
use Rattle.disk.proofs.Blocks.{Valid}
use Rattle.writer_blocks.specs.Block.{Adding, block_for}
use Rattle.disk.specs.Disk.{Store, disk, finished, dictionaries_in_full, some}
use Rattle.disk.proofs.Stores.{closed_stores, Begun}
use Rattle.disk.proofs.Full.{full, prefix}
use Rattle.disk.proofs.Disk.{blocks_in, open_file, end_of, closed_file, Before, Behind, View, before, behind, view, finished-closed}
use Rattle.disk.proofs.Recovers.{open-header, open-whole, closed-accepted, closed-offset, closed-count, behind-header, closed-report}
use Rattle.disk.proofs.Recovers.{closed-whole, closed-part, reports-open}

-- ---- the rules of repair

module _ (d blocks : ℕ) (r : Report) where
  closed_none : d ≡ 0 → first_broken (closed_rules d blocks r) ≡ sound
  unfolding closed_rules
  closed_none e = rw (eq-eqb d 0 e) first-none

  closed-agrees : (d ≡ 0 → ⊥) → r.stop ≡ sound → blocks ≡ length r.rows → first_broken (closed_rules d blocks r) ≡ sound
  unfolding closed_rules ruled
  closed-agrees n s e = rw (ne_eqb d 0 n, s) (equal-holds 9 18 [] blocks (length r.rows) e ∙ first-none)

module _ (r : Report) (lent : ℕ) where
  lent-unneeded : r.whole ≡ true → first_broken (lent_rules r lent) ≡ sound
  unfolding lent_rules
  lent-unneeded w = rw w first-none

  lent_fits : r.whole ≡ false → 1 ≤ lent → lent < 256 ^ 4 → first_broken (lent_rules r lent) ≡ sound
  unfolding lent_rules
  lent_fits w p q = rw w (most-holds 6 lent _ lent 4294967295 (omega arith) ∙ least-holds 16 r.end [] lent 1 p ∙ first-none)

module _ (f lent : List ℕ) where
  rules-sound : (room : ℕ) → first_broken (recover_rules f) ≡ sound → first_broken (closed_rules (header_of f).dictionary (header_of f).blocks (report_of f))
      ≡ sound
      → first_broken (lent_rules (report_of f) (length lent)) ≡ sound → length (repaired f lent) ≤ room → first_broken (repair_rules f lent room) ≡ sound
  unfolding repair_rules
  rules-sound room a b c h =
      then-sound (recover_rules f) _ a ∙ then-sound (closed_rules (header_of f).dictionary (header_of f).blocks (report_of f)) _ b
      ∙ then-sound (lent_rules (report_of f) (length lent)) _ c
      ∙ least-holds 12 (length (repaired f lent)) [] room (length (repaired f lent)) h ∙ first-none

  repaired-by : (rows : List Row) (body d : List ℕ) → (report_of f).rows ≡ rows → part f 64 ((report_of f).end - 64) ≡ body → dictionary_for f lent ≡ d
      → repaired f lent ≡ finished_bytes rows body d
  unfolding repaired
  repaired-by rows body d a b c = rw (a, b, c)

-- ---- the views

-- repair of a file with a lent dictionary refuses nothing in a buffer that has room, and gives this
pub record Gives (f lent result : List ℕ) : Type 0 where
  pub accepts : (room : ℕ) → length result ≤ room → first_broken (repair_rules f lent room) ≡ sound
  pub gives : repaired f lent ≡ result

-- so the call gives its length and what of the file is kept, and puts it in front of the buffer
module _ (f lent result : List ℕ) (g : Gives f lent result) (out : List ℕ) (room : length result ≤ length out) where
  pub repair-gives : repair_of f lent (length out) ≡ given (record { length = length result; kept = (report_of f).end })
  unfolding repair_of
  repair-gives = rw (g.accepts (length out) room, g.gives)

  pub repair-leaves : repair_out f lent out ≡ splice out 0 result
  unfolding repair_out
  repair-leaves = rw (g.accepts (length out) room, g.gives)

gives-by : (f lent : List ℕ) (rows : List Row) (body d : List ℕ) → first_broken (recover_rules f) ≡ sound
    → first_broken (closed_rules (header_of f).dictionary (header_of f).blocks (report_of f)) ≡ sound → first_broken (lent_rules (report_of f) (length lent))
    ≡ sound
    → (report_of f).rows ≡ rows → part f 64 ((report_of f).end - 64) ≡ body → dictionary_for f lent ≡ d
    → Gives f lent (finished_bytes rows body d)
gives-by f lent rows body d a b c p q r =
    let e = repaired-by f lent rows body d p q r in
    record { accepts = λ room h. rules-sound f lent room a b c (rw e h); gives = e }

-- the body is the part from 64 to the end that is reported
body-part : (f x t : List ℕ) (end : ℕ) → drop 64 f ≡ x ++ t → end ≡ 64 + length x → part f 64 (end - 64) ≡ x
body-part f x t end here e =
    let l : end - 64 ≡ length x = omega arith in
    rw (here, l, take-append_seam x t)

-- the header is the first one: the lent dictionary is needed
gives-open : (bs : List Block) → Valid 0 bs → length bs ≤ 4096 → (cut : ℕ) → 64 ≤ cut → (lent : List ℕ) → 1 ≤ length lent → length lent < 256 ^ 4
    → Gives (open_file (take (cut - 64) (blocks_bytes 0 bs))) lent (finished_bytes (table_of (full 64 cut bs)) (blocks_bytes 0 (full 64 cut bs)) lent)
unfolding dictionary_for some
gives-open bs v few cut h lent p q =
    let t = take (cut - 64) (blocks_bytes 0 bs) in
    let f = open_file t in
    let fs = full 64 cut bs in
    let i = prefix 0 (cut - 64) 64 cut 0 bs v (omega arith) in
    let r = reports-open bs v few cut h in
    let w = open-whole t in
    let here : drop 64 f ≡ blocks_bytes 0 fs ++ i.rest = drop_at (header_bytes empty_header) t 64 (length-header empty_header) ∙ i.bytes-are in
    gives-by f lent (table_of fs) (blocks_bytes 0 fs) lent r.accepts
    (closed_none (header_of f).dictionary (header_of f).blocks (report_of f) (ap (λ (h : Header). h.dictionary) (open-header t)))
    (lent_fits (report_of f) (length lent) r.whole p q)
    r.rows
    (body-part f (blocks_bytes 0 fs) i.rest (report_of f).end here (r.end ∙ end-from 64 0 fs))
    (rw w)

-- the header is the last one: where the dictionary is whole it is used, and else the lent one
module _ (bs : List Block) (v : Valid 0 bs) (few : length bs ≤ 4096) (r lent d : List ℕ) where
  gives-closed : first_broken (lent_rules (report_of (closed_file bs r)) (length lent)) ≡ sound → dictionary_for (closed_file bs r) lent ≡ d
      → Gives (closed_file bs r) lent (finished_bytes (table_of bs) (blocks_bytes 0 bs) d)
  gives-closed a b =
      let f = closed_file bs r in
      let e = closed-report bs v few r in
      let at = closed-offset bs v few r in
      let rows : (report_of f).rows ≡ table_of bs = ap (λ (x : Report). x.rows) e in
      gives-by f lent (table_of bs) (blocks_bytes 0 bs) d (closed-accepted bs v few r)
      (closed-agrees (header_of f).dictionary (header_of f).blocks (report_of f) (λ z. omega arith) (ap (λ (x : Report). x.stop) e)
      (closed-count bs v few r ∙ ap length (sym rows)))
      a rows
      (body-part f (blocks_bytes 0 bs) r (report_of f).end (behind-header bs v few r) (ap (λ (x : Report). x.end) e))
      b

  gives-own : whole_dictionary (closed_file bs r) (end_of bs) ≡ true → part (closed_file bs r) (end_of bs + 4) (size_at (closed_file bs r) (end_of bs)) ≡ d
      → Gives (closed_file bs r) lent (finished_bytes (table_of bs) (blocks_bytes 0 bs) d)
  unfolding dictionary_for
  gives-own w p =
      gives-closed (lent-unneeded (report_of (closed_file bs r)) (length lent) (ap (λ (x : Report). x.whole) (closed-report bs v few r) ∙ w))
      (rw (closed-offset bs v few r, w) p)

gives-lent : (bs : List Block) → Valid 0 bs → length bs ≤ 4096 → (r lent : List ℕ) → whole_dictionary (closed_file bs r) (end_of bs) ≡ false
    → 1 ≤ length lent → length lent < 256 ^ 4 → Gives (closed_file bs r) lent (finished_bytes (table_of bs) (blocks_bytes 0 bs) lent)
unfolding dictionary_for
gives-lent bs v few r lent w p q =
    gives-closed bs v few r lent lent (lent_fits (report_of (closed_file bs r)) (length lent) (ap (λ (x : Report). x.whole) (closed-report bs v few r) ∙ w) p q)
    (rw (closed-offset bs v few r, w))

-- what repair makes of the disk that a cut leaves: the finished file where the dictionary was stored in full, and else, with a lent one, the file
-- of the blocks that were
pub record Repairs (ss : List Store) (cut : ℕ) : Type 0 where
  pub own : (lent d : List ℕ) → dictionaries_in_full cut ss ≡ d ∷ [] → Gives (disk cut [] ss) lent (finished ss)
  pub lent : (lent : List ℕ) → dictionaries_in_full cut ss ≡ [] → 1 ≤ length lent → length lent < 256 ^ 4
      → Gives (disk cut [] ss) lent (finished_bytes (table_of (blocks_in 0 cut ss)) (blocks_bytes 0 (blocks_in 0 cut ss)) lent)

module _ (xs : List Adding) (v : Valid 0 (map block_for xs)) (few : length (map block_for xs) ≤ 4096) (ss : List Store) (cut : ℕ) where
  abbrev bs : List Block
  bs = map block_for xs

  repairs-before : Before ss cut bs → Repairs ss cut
  repairs-before b =
      record {
        own = λ lent d e. absurd (let z : ◌≡◌ {A = ℕ} 0 1 = cc b.dictionaries in omega arith);
        lent = λ lent e p q. rw (b.disk-is, b.blocks) (gives-open bs v few cut b.reached lent p q);
      }

  repairs-behind : (d : List ℕ) (j : ℕ) → ss ≡ closed_stores xs d → 1 ≤ length d → length d < 256 ^ 4 → Behind ss cut bs d j → Repairs ss cut
  unfolding tail_bytes
  repairs-behind d j s p q b =
      let r = take j (tail_bytes (end_of bs + 4 + length d) (table_of bs) d) in
      let t = index_bytes (table_of bs) ++ footer_bytes (record { index = end_of bs + 4 + length d }) in
      let w : whole_dictionary (closed_file bs r) (end_of bs) ≡ leb (4 + length d) j = closed-whole bs v few d p q j t in
      elim (dec_le (4 + length d) j) [
        | yes c ↦
            (let e : dictionaries_in_full cut ss ≡ d ∷ [] = rw (le-leb (4 + length d) j c) at b.dictionaries in
            record {
              own = λ lent x z.
                  rw (b.disk-is, s, finished-closed xs d) (gives-own bs v few r lent d (w ∙ le-leb (4 + length d) j c) (closed-part bs v few d p q j t c));
              lent = λ lent z m n. absurd (let z : ◌≡◌ {A = ℕ} 0 1 = cc in omega arith);
            })
        | no c ↦
            (let e : dictionaries_in_full cut ss ≡ [] = rw (lt-leb (4 + length d) j (omega arith)) at b.dictionaries in
            record {
              own = λ lent x z. absurd (let z : ◌≡◌ {A = ℕ} 0 1 = cc in omega arith);
              lent = λ lent z m n. rw (b.disk-is, b.blocks) (gives-lent bs v few r lent (w ∙ lt-leb (4 + length d) j (omega arith)) m n);
            })
      ]

  repairs-view : View ss cut xs → Repairs ss cut
  repairs-view (before b) = repairs-before b
  repairs-view (behind d j s p q b) = repairs-behind d j s p q b

-- every cut of the stores of a writer that began, which leaves a header
pub repairs : (xs : List Adding) → Valid 0 (map block_for xs) → length (map block_for xs) ≤ 4096 → {ss : List Store} → Begun xs ss → (cut : ℕ)
    → 64 ≤ length (disk cut [] ss) → Repairs ss cut
repairs xs v few {ss} b cut h = repairs-view xs v few ss cut (view xs b cut h)
