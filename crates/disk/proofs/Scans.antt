-- What the scan finds in blocks that lie end to end, all of them or up to a cut. Assumes nothing.
use mathlib.Core.Path.{◌≡◌, refl, sym, ap, ◌∙◌}
use mathlib.Core.List.{List, [], ◌∷◌, ◌++◌, append_assoc, append-nil}
use Prim.Native.Nat.{ℕ, zero, suc, ◌+◌, ◌-◌, ◌^◌, ◌≤◌, ◌<◌}
use native.Mathlib.Nat.{zero-add, add-zero, add_assoc, suc-add, not-suc-le-zero}
use native.Mathlib.Omega.{arith}
use native.Mathlib.Decide.{dec_le}
use lib.ListN.{length, take, drop, length-append}
use lib.Seq.{drop-drop, drop_at, take-nil, take-append_seam, length-take-le}
use borrow.Author.Tests.{lt-ltb, le-ltb}
use Rattle.verdict.specs.Rules.{Verdict, sound, broken, first_broken}
use Rattle.wire.proofs.Lists.{take_past}
use Rattle.crc32.specs.Crc.{crc32}
use Rattle.crc32.proofs.Register.{crc32-small}
use Rattle.rows.specs.declared.Row.{Row}
use Rattle.parts.specs.Parts.{block_header_bytes, BlockHeaderFits}
use Rattle.parts.proofs.Parts.{length-block-header, block-header-back}
use Rattle.blocks.specs.Blocks.{head_at, stored_at, end_at, block_rules, block_row, Scan, stopped, before, scan_from, scan_of}
use Rattle.blocks.proofs.Rules.{head-stored, head-sound, sum_agrees, block-no-room, block-head, block-sum}
use Rattle.layout.specs.Layout.{Block, head_of, block_bytes, block_size, blocks_bytes, row_for, rows_from, end_from, table_of}
use Rattle.layout.proofs.Parts.{length-block}
use Rattle.layout.proofs.Along.{end-from}
use Rattle.disk.proofs.Blocks.{Good, Valid, last_end, first_block, length-blocks}
use Rattle.disk.specs.Disk.{stop_for}
use Rattle.disk.proofs.Full.{full, full-first, full-part, part_of, part-first, part-here}

-- ---- a block's header read back

fits : (n earliest : ℕ) (b : Block) → n < 256 ^ 4 → Good earliest b → BlockHeaderFits (head_of n b)
unfolding head_of
fits n earliest b small g =
    record {
      number = small;
      start = g.start_fits;
      end = g.end_fits;
      entries = g.entries_fit;
      stored = g.stored-fits;
      plain = g.plain_fits;
      checksum = omega (arith, crc32-small b.stored g.stored_bytes);
    }

module _ (f : List ℕ) (at n earliest : ℕ) (b : Block) (t : List ℕ) (here : drop at f ≡ block_header_bytes (head_of n b) ++ t) (small : n < 256 ^ 4)
    (g : Good earliest b) where
  head_read : head_at f at ≡ head_of n b
  head_read = rw here (block-header-back (head_of n b) (fits n earliest b small g) t)

  -- the header stands before the limit, and not all of the stored bytes
  head-cut : (limit : ℕ) → at + 36 ≤ limit → limit < at + block_size b → broken 6 (at + 24) ≡ first_broken (block_rules crc32 f limit at n earliest)
  unfolding head_of
  head-cut limit h l =
      block-head crc32 f limit at n earliest h (head_of n b) (limit - (at + 36)) (sym head_read) refl 6 (at + 24)
      (sym (head-stored (head_of n b) at n earliest (limit - (at + 36)) refl g.in_order g.after g.some-entry (omega arith)))

-- ---- a block read back

module _ (f : List ℕ) (at n earliest : ℕ) (b : Block) (t : List ℕ) (here : drop at f ≡ block_bytes n b ++ t) (small : n < 256 ^ 4) (g : Good earliest b) where
  behind-head : drop at f ≡ block_header_bytes (head_of n b) ++ (b.stored ++ t)
  unfolding block_bytes
  behind-head = here ∙ append_assoc (block_header_bytes (head_of n b)) b.stored t

  pub head-back : head_at f at ≡ head_of n b
  head-back = head_read f at n earliest b (b.stored ++ t) behind-head small g

  behind : drop (at + 36) f ≡ b.stored ++ t
  behind = sym (drop-drop 36 at f) ∙ ap (drop 36) behind-head
      ∙ drop_at (block_header_bytes (head_of n b)) (b.stored ++ t) 36 (length-block-header (head_of n b))

  pub stored_back : stored_at f at ≡ b.stored
  unfolding stored_at head_of
  stored_back = rw (head-back, behind, take-append_seam b.stored t)

  pub end_back : end_at f at ≡ at + block_size b
  unfolding end_at head_of
  end_back = rw head-back (add_assoc at 36 (length b.stored))

  pub row_back : block_row f at ≡ row_for n at b
  unfolding block_row row_for head_of
  row_back = rw head-back

  pub drop-back : drop (at + block_size b) f ≡ t
  drop-back = sym (drop-drop (block_size b) at f) ∙ ap (drop (block_size b)) here ∙ drop_at (block_bytes n b) t (block_size b) (length-block n b)

  pub sound_back : (limit : ℕ) → at + block_size b ≤ limit → first_broken (block_rules crc32 f limit at n earliest) ≡ sound
  unfolding head_of
  sound_back limit h =
      sym (block-sum crc32 f limit at n earliest (omega arith) (head_of n b) (limit - (at + 36)) (sym head-back) refl
      (sym (head-sound (head_of n b) at n earliest (limit - (at + 36)) refl g.in_order g.after g.some-entry (omega arith))))
      ∙ sum_agrees crc32 f at (crc32 b.stored) (head_of n b) (sym head-back) (ap crc32 (sym stored_back)) refl

  -- so the scan goes on behind it
  scan-pass : (k limit : ℕ) → at + block_size b ≤ limit
      → scan_from crc32 (suc k) f limit at n earliest ≡ before (row_for n at b) (scan_from crc32 k f limit (at + block_size b) (suc n) b.end)
  unfolding scan_from head_of
  scan-pass k limit h = rw (lt-ltb at limit (omega arith), sound_back limit h, row_back, end_back, head-back)

-- ---- blocks end to end

-- rows before what a scan finds behind them
abbrev pub following : List Row → Scan → Scan
following rows s = record { rows = rows ++ s.rows; end = s.end; stop = s.stop }

pub scan-blocks : (f : List ℕ) (limit k : ℕ) (bs : List Block) (at n earliest : ℕ) (t : List ℕ) → drop at f ≡ blocks_bytes n bs ++ t
    → at + length (blocks_bytes n bs) ≤ limit → Valid earliest bs → n + length bs ≤ 256 ^ 4
    → scan_from crc32 (length bs + k) f limit at n earliest
    ≡ following (rows_from n at bs) (scan_from crc32 k f limit (end_from at bs) (n + length bs) (last_end earliest bs))
unfolding Valid rows_from end_from last_end
scan-blocks f limit k [] at n earliest t here h v few = rw (zero-add, add-zero)
scan-blocks f limit k (b ∷ bs) at n earliest t here h v few =
    let l = length-blocks n b bs in
    let e : n + suc (length bs) ≡ suc n + length bs = omega arith in
    let there : drop at f ≡ block_bytes n b ++ (blocks_bytes (suc n) bs ++ t) = here ∙ first_block n b bs t in
    let small : n < 256 ^ 4 = omega arith in
    let behind = drop-back f at n earliest b (blocks_bytes (suc n) bs ++ t) there small v.0 in
    rw (
      suc-add (length bs) k,
      scan-pass f at n earliest b (blocks_bytes (suc n) bs ++ t) there small v.0 (length bs + k) limit (omega arith),
      scan-blocks f limit k bs (at + block_size b) (suc n) b.end t behind (omega arith) v.1 (omega arith),
      e,
    )

-- nothing is left
scan-none : (k : ℕ) (f : List ℕ) (limit at n earliest : ℕ) → limit ≤ at → scan_from crc32 k f limit at n earliest ≡ stopped at sound
unfolding scan_from
scan-none zero f limit at n earliest h = rw (le-ltb at limit h)
scan-none (suc k) f limit at n earliest h = rw (le-ltb at limit h)

-- all of them, and nothing behind them before the limit
scan-all : (k : ℕ) (f : List ℕ) (limit at n earliest : ℕ) (bs : List Block) (t : List ℕ) → drop at f ≡ blocks_bytes n bs ++ t
    → at + length (blocks_bytes n bs) ≡ limit → Valid earliest bs → n + length bs ≤ 256 ^ 4 → length bs ≤ k
    → scan_from crc32 k f limit at n earliest ≡ record { rows = rows_from n at bs; end = limit; stop = sound }
scan-all k f limit at n earliest bs t here e v few h =
    let q : k ≡ length bs + (k - length bs) = omega arith in
    let p : end_from at bs ≡ limit = end-from at n bs ∙ e in
    ap (λ (j : ℕ). scan_from crc32 j f limit at n earliest) q
    ∙ scan-blocks f limit (k - length bs) bs at n earliest t here (omega arith) v few
    ∙ rw (scan-none (k - length bs) f limit (end_from at bs) (n + length bs) (last_end earliest bs) (omega arith), p, append-nil (rows_from n at bs))

pub scan-clean : (f : List ℕ) (limit : ℕ) (bs : List Block) (t : List ℕ) → drop 64 f ≡ blocks_bytes 0 bs ++ t
    → limit ≡ 64 + length (blocks_bytes 0 bs) → length bs ≤ 4096 → Valid 0 bs
    → scan_of crc32 f limit ≡ record { rows = table_of bs; end = limit; stop = sound }
unfolding scan_of
scan-clean f limit bs t here e few v = scan-all 4096 f limit 64 0 0 bs t here (sym e) v (omega arith) few

-- ---- blocks up to a cut

-- a scan that finds blocks from a place on, the first of them number n, and no more, and what stops it
pub record Finds (n at : ℕ) (bs : List Block) (v : Verdict) (s : Scan) : Type 0 where
  pub rows : s.rows ≡ rows_from n at bs
  pub end : s.end ≡ end_from at bs
  pub stop : s.stop ≡ v

none_found : (n at : ℕ) (v : Verdict) → Finds n at [] v (stopped at v)
unfolding rows_from end_from
none_found n at v = record { rows = refl; end = refl; stop = refl }

-- with some bytes of a block standing there
stop-short : (at n : ℕ) → 1 ≤ n → n < 36 → stop_for at n ≡ broken 6 at
unfolding stop_for
stop-short at zero h l = absurd (omega arith)
stop-short at (suc n) h l = rw (lt-ltb (suc n) 36 l)

stop-long : (at n : ℕ) → 36 ≤ n → stop_for at n ≡ broken 6 (at + 24)
unfolding stop_for
stop-long at zero h = absurd (omega arith)
stop-long at (suc n) h = rw (le-ltb (suc n) 36 h)

pub stop-none : (at n : ℕ) → n ≡ 0 → stop_for at n ≡ sound
unfolding stop_for
stop-none at n e = rw e

stop-at : (k : ℕ) (f : List ℕ) (limit at n earliest m p : ℕ) → broken m p ≡ first_broken (block_rules crc32 f limit at n earliest) → at < limit
    → Finds n at [] (broken m p) (scan_from crc32 (suc k) f limit at n earliest)
unfolding scan_from
stop-at k f limit at n earliest m p e h = rw (lt-ltb at limit h, ← e) (none_found n at (broken m p))

-- of the next block not all bytes stand
scan-part : (fuel : ℕ) (f : List ℕ) (limit at n earliest k : ℕ) (b : Block) (t : List ℕ) → drop at f ≡ take k (block_bytes n b ++ t)
    → limit ≡ at + k → k < block_size b → n < 256 ^ 4 → Good earliest b → Finds n at [] (stop_for at k) (scan_from crc32 (suc fuel) f limit at n earliest)
unfolding block_bytes
scan-part fuel f limit at n earliest k b t here e l small g =
    elim (dec_le 36 k) [
      | yes c ↦
          (let x = block_header_bytes (head_of n b) in
          let there : drop at f ≡ x ++ take (k - 36) (b.stored ++ t) =
          here ∙ ap (take k) (append_assoc x b.stored t) ∙ take_past k 36 x (b.stored ++ t) (length-block-header (head_of n b)) c in
          rw (stop-long at k c)
          (stop-at fuel f limit at n earliest 6 (at + 24)
          (head-cut f at n earliest b (take (k - 36) (b.stored ++ t)) there small g limit (omega arith) (omega arith)) (omega arith)))
      | no c ↦
          elim (dec_le 1 k) [
            | yes p ↦
                rw (stop-short at k p (omega arith))
                (stop-at fuel f limit at n earliest 6 at (sym (block-no-room crc32 f limit at n earliest (omega arith))) (omega arith))
            | no p ↦ rw (stop-none at k (omega arith), scan-none (suc fuel) f limit at n earliest (omega arith)) (none_found n at sound)
          ]
    ]

one_found : (n at : ℕ) (b : Block) (bs : List Block) (v : Verdict) (s : Scan) → Finds (suc n) (at + block_size b) bs v s
    → Finds n at (b ∷ bs) v (before (row_for n at b) s)
unfolding rows_from end_from
one_found n at b bs v s i = record { rows = ap (λ (l : List Row). row_for n at b ∷ l) i.rows; end = i.end; stop = i.stop }

take-blocks : (k n : ℕ) (b : Block) (bs : List Block) → block_size b ≤ k
    → take k (blocks_bytes n (b ∷ bs)) ≡ block_bytes n b ++ take (k - block_size b) (blocks_bytes (suc n) bs)
unfolding blocks_bytes
take-blocks k n b bs h = take_past k (block_size b) (block_bytes n b) (blocks_bytes (suc n) bs) (length-block n b) h

part-blocks : (k n : ℕ) (b : Block) (bs : List Block) → take k (blocks_bytes n (b ∷ bs)) ≡ take k (block_bytes n b ++ blocks_bytes (suc n) bs)
unfolding blocks_bytes
part-blocks k n b bs = refl

-- how many bytes of them stand
stands-none : (k n : ℕ) → length (take k (blocks_bytes n [])) ≡ 0
unfolding blocks_bytes
stands-none k n = ap length (take-nil k)

stands-first : (k n : ℕ) (b : Block) (bs : List Block) → block_size b ≤ k
    → length (take k (blocks_bytes n (b ∷ bs))) ≡ block_size b + length (take (k - block_size b) (blocks_bytes (suc n) bs))
stands-first k n b bs h =
    let t = take (k - block_size b) (blocks_bytes (suc n) bs) in
    let e : length (take k (blocks_bytes n (b ∷ bs))) ≡ length (block_bytes n b ++ t) = ap length (take-blocks k n b bs h) in
    omega (arith, length-append (block_bytes n b) t, length-block n b)

stands-part : (k n : ℕ) (b : Block) (bs : List Block) → k < block_size b → length (take k (blocks_bytes n (b ∷ bs))) ≡ k
stands-part k n b bs h = length-take-le k (blocks_bytes n (b ∷ bs)) (omega (arith, length-blocks n b bs))

scan-cut-from : (fuel : ℕ) (f : List ℕ) (limit at n earliest k cut : ℕ) (bs : List Block) → drop at f ≡ take k (blocks_bytes n bs)
    → limit ≡ at + length (take k (blocks_bytes n bs)) → at + k ≡ cut → length bs ≤ fuel → n + length bs ≤ 256 ^ 4 → Valid earliest bs
    → Finds n at (full at cut bs) (stop_for (end_from at (full at cut bs)) (part_of at cut bs)) (scan_from crc32 fuel f limit at n earliest)
unfolding Valid full part_of stop_for end_from
scan-cut-from fuel f limit at n earliest k cut [] here e c few small v =
    let l = stands-none k n in
    rw (scan-none fuel f limit at n earliest (omega arith)) (none_found n at sound)
scan-cut-from zero f limit at n earliest k cut (b ∷ bs) here e c few small v = absurd (not-suc-le-zero few)
scan-cut-from (suc fuel) f limit at n earliest k cut (b ∷ bs) here e c few small v =
    let m : n < 256 ^ 4 = omega arith in
    elim (dec_le (block_size b) k) [
      | yes h ↦
          (let t = take (k - block_size b) (blocks_bytes (suc n) bs) in
          let there : drop at f ≡ block_bytes n b ++ t = here ∙ take-blocks k n b bs h in
          let l = stands-first k n b bs h in
          rw (full-first at cut b bs (omega arith), part-first at cut b bs (omega arith), scan-pass f at n earliest b t there m v.0 fuel limit (omega arith))
          (one_found n at b _ _ _
          (scan-cut-from fuel f limit (at + block_size b) (suc n) b.end (k - block_size b) cut bs (drop-back f at n earliest b t there m v.0)
          (omega arith) (omega arith) (omega arith) (omega arith) v.1)))
      | no h ↦
          (let l = stands-part k n b bs (omega arith) in
          let i : cut - at ≡ k = omega arith in
          rw (full-part at cut b bs (omega arith), part-here at cut b bs (omega arith), i)
          (scan-part fuel f limit at n earliest k b (blocks_bytes (suc n) bs) (here ∙ part-blocks k n b bs) (omega arith) (omega arith) m v.0))
    ]

pub scan-cut : (f h : List ℕ) (limit k cut : ℕ) (bs : List Block) → f ≡ h ++ take k (blocks_bytes 0 bs) → length h ≡ 64 → limit ≡ length f → 64 + k ≡ cut
    → length bs ≤ 4096 → Valid 0 bs
    → Finds 0 64 (full 64 cut bs) (stop_for (end_from 64 (full 64 cut bs)) (part_of 64 cut bs)) (scan_of crc32 f limit)
unfolding scan_of
scan-cut f h limit k cut bs e l m c few v =
    let x = take k (blocks_bytes 0 bs) in
    let here : drop 64 f ≡ x = ap (drop 64) e ∙ drop_at h x 64 l in
    let n : length f ≡ length h + length x = ap length e ∙ length-append h x in
    scan-cut-from 4096 f limit 64 0 0 k cut bs here (omega arith) c few (omega arith) v
