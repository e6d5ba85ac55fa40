-- Lookup finds the names of a dictionary that is accepted, and those that calls built. Assumes nothing.
use Rattle.std.specs.Prelude.{Some, None}
use mathlib.Core.Path.{◌≡◌, refl, sym, ap, ◌∙◌}
use mathlib.Core.List.{List, [], ◌∷◌}
use Prim.Native.Nat.{ℕ, zero, suc, ◌+◌, ◌-◌, ◌≤◌, ◌<◌}
use native.Mathlib.Omega.{arith}
use native.Mathlib.Decide.{dec_lt}
use lib.ListN.{length, get_or, take, drop, length-take}
use Rattle.verdict.specs.Rules.{given}
use Rattle.wire.specs.Wire.{le_at, part}
use Rattle.wire.proofs.Numbers.{le_at-take}
use Rattle.wire.proofs.Lists.{drop-take, take_within}
use Rattle.names.specs.Dictionary.{place_of, name_at, next_at, name_of, dictionary_of}
use Rattle.names.proofs.Places.{next-is, name-is, name-part, place-next}
use Rattle.names.proofs.Accepted.{accepted, distinct}
use Rattle.lookup.specs.Lookup.{span_of}
use Rattle.lookup.proofs.Laws.{such, no_such, name-there, name-handed, span-name}
use Rattle.name_search.specs.Search.{Found, numbered, missing, seek_from, seek_of}
use Rattle.name_search.proofs.Laws.{sought-found}
use Rattle.claims.specs.Calls.{Writing}
use Rattle.claims.specs.Built.{built_names, HoldsNames}
use Rattle.claims.specs.Lookups.{LooksUp}
use Rattle.claims.proofs.Names.{found_name, missing-name}

-- ---- a dictionary that is accepted, by its own names

module _ (s : List ℕ) (n : ℕ) (e : dictionary_of s ≡ given n) where
  number-one : (i j : ℕ) → i < n → j < n → name_of s i ≡ name_of s j → i ≡ j
  number-one i j l m q = go (dec_lt i j) (dec_lt j i)
    where
      go : Dec (i < j) → Dec (j < i) → i ≡ j
      go (yes a) b = absurd (distinct s n i j (accepted s n e) a m q)
      go (no a) (yes b) = absurd (distinct s n j i (accepted s n e) b l (sym q))
      go (no a) (no b) = omega arith

  found-own : (i : ℕ) → i < n → (f : Found) → seek_from n s 0 (name_of s i) ≡ f → f ≡ numbered i
  found-own i l (numbered j) q =
      let r = found_name n s 0 (name_of s i) j q in
      ap numbered (number-one j i (omega (arith, r.1)) l r.0)
  found-own i l missing q = absurd (missing-name n s 0 (name_of s i) q i (omega arith) (omega arith) ((accepted s n e).name i l).within refl)

  found_none : (x : List ℕ) → ((i : ℕ) → i < n → name_of s i ≡ x → ⊥) → (f : Found) → seek_from n s 0 x ≡ f → f ≡ missing
  found_none x d (numbered j) q = let r = found_name n s 0 x j q in absurd (d j (omega (arith, r.1)) r.0)
  found_none x d missing q = refl

  pub looks-up : LooksUp s n (name_of s)
  looks-up =
      record {
        located = λ i l. sym (such s i (span_of s i) (sym e) l refl);
        by_number = λ i l.
            sym (name-there s i (span_of s i) (such s i (span_of s i) (sym e) l refl) (sym (span-name s i (span_of s i) refl)));
        handed = λ i l.
            sym (name-handed s i (span_of s i) (such s i (span_of s i) (sym e) l refl) (sym (span-name s i (span_of s i) refl)));
        by_name = λ i l. sym (sought-found s (name_of s i) (Some i) (sym e) (sym (found-own i l (seek_from n s 0 (name_of s i)) refl)));
        unknown = λ x d. sym (sought-found s x None (sym e) (sym (found_none x d (seek_from n s 0 x) refl)));
        past = λ i l. sym (no_such s i (sym e) l);
      }

-- the same under other words for the names
pub looks-up-as : (s : List ℕ) (n m : ℕ) (name : ℕ → List ℕ) → dictionary_of s ≡ given n → n ≡ m → ((i : ℕ) → i < n → name_of s i ≡ name i)
    → LooksUp s m name
looks-up-as s n m name e q f =
    let u = looks-up s n e in
    record {
      located = λ i l. u.located i (omega arith);
      by_number = λ i l. u.by_number i (omega arith) ∙ f i (omega arith);
      handed = λ i l. u.handed i (omega arith) ∙ ap given (f i (omega arith));
      by_name = λ i l. ap (seek_of s) (sym (f i (omega arith))) ∙ u.by_name i (omega arith);
      unknown = λ x d. u.unknown x (λ i l t. d i (omega arith) (sym (f i l) ∙ t));
      past = λ i l. u.past i (omega arith);
    }

-- ---- a front of a longer one

module _ (m : ℕ) (d : List ℕ) (n : ℕ) (e : dictionary_of (take m d) ≡ given n) where
  abbrev s : List ℕ
  s = take m d

  ends : (i : ℕ) → i < n → next_at s (place_of s i) ≤ m
  ends i l = let w = ((accepted s n e).name i l).within in omega (arith, length-take m d, place-next s i)

  size-front : (i : ℕ) → i < n → le_at 2 s (place_of s i + 2) ≡ le_at 2 d (place_of s i + 2)
  size-front i l = le_at-take 2 m d (place_of s i + 2) (omega (arith, ends i l, next-is s (place_of s i)))

  place-front : (i : ℕ) → i ≤ n → place_of s i ≡ place_of d i
  unfolding place_of
  place-front zero l = refl
  place-front (suc i) l =
      let q = place-front i (omega arith) in
      next-is s (place_of s i) ∙ ap (λ (x : ℕ). place_of s i + 4 + x) (size-front i l) ∙ rw q (sym (next-is d (place_of d i)))

  name-front : (i : ℕ) → i < n → name_of s i ≡ name_of d i
  name-front i l =
      let q = place_of s i in
      let z = le_at 2 s (q + 2) in
      let w : z ≤ m - (q + 4) = omega (arith, ends i l, next-is s q) in
      name-is s i ∙ name-part s q ∙ ap (take z) (drop-take (q + 4) m d) ∙ take_within z (m - (q + 4)) (drop (q + 4) d) w
      ∙ ap (λ (k : ℕ). part d (q + 4) k) (size-front i l) ∙ sym (name-part d q) ∙ ap (name_at d) (place-front i (omega arith)) ∙ sym (name-is d i)

-- ---- the names that calls built

pub names-found : (k : Writing) (ns : List (List ℕ)) → HoldsNames k ns → 1 ≤ length ns → LooksUp (built_names k) (length ns) (λ i. get_or ns i [])
names-found k ns b some =
    looks-up-as (built_names k) k.writer.names (length ns) (λ i. get_or ns i []) (b.accepted some) b.count
    (λ i l. name-front k.writer.dictionary k.dictionary k.writer.names (b.accepted some) i l ∙ b.each i (omega (arith, b.count)))
