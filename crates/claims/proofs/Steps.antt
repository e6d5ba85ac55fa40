-- The steps find the entries that the definition of reading gives. Assumes nothing.
use Rattle.std.specs.Prelude.{Err}
use mathlib.Core.Path.{◌≡◌, refl, sym, ap, subst, ◌∙◌}
use mathlib.Core.Bool.{Bool, true, false, cond}
use mathlib.Core.List.{List, [], ◌∷◌}
use Prim.Native.Nat.{ℕ, zero, suc, ◌+◌, ◌-◌, ◌≤◌, ◌<◌}
use native.Mathlib.Omega.{arith}
use native.Mathlib.Decide.{dec_le}
use lib.Dec.{ltb}
use lib.ListN.{length, drop, length-drop}
use borrow.Author.Tests.{lt-ltb, le-ltb}
use Rattle.verdict.specs.Rules.{given, refused, Outcome, first_broken, holds, number_of, place_of}
use Rattle.wire.specs.Wire.{Bytes}
use Rattle.varint.specs.Varint.{decode, decode_in}
use Rattle.cursor.specs.Step.{Step, step, refuse}
use Rattle.cursor.specs.Model as model
use Rattle.cursor.specs.Reading.{read_delta, delta_rules}
use Rattle.cursor.specs.Answers.{refusal, delta_at, as_delta, val_in}
use Rattle.entries.specs.Model.{Entry}
use Rattle.entries.specs.Reading.{read_fields, entries_from, entries_of}
use Rattle.entries.proofs.Walk.{FieldWalk, walk_field, EntryWalk, walk-entry}
use Rattle.entries.proofs.Apart.{cond-elim}
use Rattle.claims.specs.Steps.{FieldsFound, EntryFound, EntriesFound, StepsRead}

moved : (s : List ℕ) (names k at : ℕ) (fs gs : List model.Field) (m n : ℕ) → fs ≡ gs → m ≡ n → FieldsFound s names k at fs m → FieldsFound s names k at gs n
moved s names k at fs gs m n p q h = rw (← p, ← q) h

fields-found : (s : List ℕ) (names : ℕ) → Bytes s → (k at : ℕ) (fs : List model.Field) (u : ℕ) → read_fields k (length s) names at (drop at s) ≡ step fs u
    → FieldsFound s names k at fs (at + u)
unfolding read_fields FieldsFound
fields-found s names b zero at [] u e = let z : 0 ≡ u = cc in omega arith
fields-found s names b zero at (f ∷ fs) u e = absurd (let z : ◌≡◌ {A = ℕ} 0 1 = cc in omega arith)
fields-found s names b (suc k) at [] u e = let w = walk_field s names at k [] u b e in absurd (let z : ◌≡◌ {A = ℕ} 0 1 = cc w.fields-are in omega arith)
fields-found s names b (suc k) at (f ∷ fs) u e =
    let w = walk_field s names at k (f ∷ fs) u b e in
    let p : f ≡ record { id = w.found.id; value = val_in s w.found.value } = cc w.fields-are in
    let q : w.others ≡ fs = cc w.fields-are in
    let r = fields-found s names b k w.next.at w.others w.size w.rest-is in
    (w.found, w.next, w.step_is, p, moved s names k w.next.at w.others fs (w.next.at + w.size) (at + u) q (sym w.ends) r)

-- at the end the next step is refused
none_left : (r : List ℕ) → length r ≤ 0 → r ≡ []
none_left [] h = refl
none_left (x ∷ r) h = absurd (omega arith)

end-refuses : (s : List ℕ) (at : ℕ) → length s ≤ at → delta_at s at ≡ Err (refusal 11 (length s))
unfolding delta_at as_delta read_delta delta_rules first_broken holds number_of place_of decode decode_in
end-refuses s at h = rw (none_left (drop at s) (omega (arith, length-drop at s)))

given-nil : {A : Type 0} (es : List A) → ◌≡◌ {A = Outcome (List A)} (given []) (given es) → es ≡ []
given-nil [] e = refl
given-nil (x ∷ es) e = absurd (let z : ◌≡◌ {A = ℕ} 0 1 = cc in omega arith)

module _ (s : List ℕ) (names start : ℕ) (b : Bytes s) where
  ended : (at : ℕ) (es : List Entry) → length s ≤ at → ◌≡◌ {A = Outcome (List Entry)} (given []) (given es) → EntriesFound s names start at es
  unfolding EntriesFound
  ended at es h e = rw (given-nil es e) (h, end-refuses s at h)

  one_more : (f n prev at : ℕ) (es : List Entry) → at < length s → entries_from (suc f) (length s) names start n prev at (drop at s) ≡ given es
      → ((n prev at : ℕ) (es : List Entry) → entries_from f (length s) names start n prev at (drop at s) ≡ given es → EntriesFound s names start at es)
      → EntriesFound s names start at es
  unfolding EntriesFound
  one_more f n prev at es l e rest =
      let w = walk-entry s names start n prev at f es l e in
      let end : ℕ = w.behind-count.at + w.size in
      let x : EntryFound s names start at w.entry end =
      record {
        delta = w.delta;
        behind-delta = w.behind-delta;
        fields = w.count;
        behind-count = w.behind-count;
        delta-is = w.delta-is;
        time-is = w.time-is;
        count-is = w.count-is;
        found = fields-found s names b w.count w.behind-count.at w.entry.fields w.size w.fields-are;
      } in
      subst (EntriesFound s names start at) (sym w.entries-are) (l, (end, x, rest (suc n) w.entry.time end w.others w.rest-is))

  found_from : (f n prev at : ℕ) (es : List Entry) → entries_from f (length s) names start n prev at (drop at s) ≡ given es → EntriesFound s names start at es
  unfolding entries_from
  found_from zero n prev at es e = go (dec_le (length s) at)
    where
      go : Dec (length s ≤ at) → EntriesFound s names start at es
      go (yes h) = ended at es h (rw (le-ltb 0 (length (drop at s)) (omega (arith, length-drop at s))) at e)
      go (no h) = absurd (let q = rw (lt-ltb 0 (length (drop at s)) (omega (arith, length-drop at s))) at e in let z : ◌≡◌ {A = ℕ} 0 1 = cc in omega arith)
  found_from (suc f) n prev at es e = go (dec_le (length s) at) (found_from f)
    where
      go : Dec (length s ≤ at)
          → ((n prev at : ℕ) (es : List Entry) → entries_from f (length s) names start n prev at (drop at s) ≡ given es → EntriesFound s names start at es)
          → EntriesFound s names start at es
      go (yes h) rest = ended at es h (rw (le-ltb 0 (length (drop at s)) (omega (arith, length-drop at s))) at e)
      go (no h) rest = one_more f n prev at es (omega arith) e rest

pub steps-read : StepsRead
unfolding StepsRead entries_of
steps-read s start names es b e =
    cond-elim (ltb 0 (length s)) _ 11 0 es e λ t x. found_from s names start b (length s) 0 start 0 es x
