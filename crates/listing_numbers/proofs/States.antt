-- A kind that is none of a listing's is the end. Assumes nothing.
use mathlib.Core.Path.{◌≡◌, refl}
use Prim.Native.Nat.{ℕ, zero, suc}
use Rattle.listing_places.specs.declared.State.TheVariants.{End}
use Rattle.listing_numbers.specs.declared.Listing.{Listing}
use Rattle.listing_numbers.specs.Listing.{state_for}

pub state-other : (k : ℕ) (l : Listing)
    → (k ≡ 1 → ⊥) → (k ≡ 2 → ⊥) → (k ≡ 3 → ⊥) → (k ≡ 4 → ⊥) → (k ≡ 5 → ⊥) → (k ≡ 6 → ⊥) → (k ≡ 7 → ⊥) → (k ≡ 8 → ⊥) → End ≡ state_for k l
unfolding state_for
state-other zero l a b c d e f g h = refl
state-other (suc zero) l a b c d e f g h = absurd (a refl)
state-other (suc (suc zero)) l a b c d e f g h = absurd (b refl)
state-other (suc (suc (suc zero))) l a b c d e f g h = absurd (c refl)
state-other (suc (suc (suc (suc zero)))) l a b c d e f g h = absurd (d refl)
state-other (suc (suc (suc (suc (suc zero))))) l a b c d e f g h = absurd (e refl)
state-other (suc (suc (suc (suc (suc (suc zero)))))) l a b c d e f g h = absurd (f refl)
state-other (suc (suc (suc (suc (suc (suc (suc zero))))))) l a b c d e f g h = absurd (g refl)
state-other (suc (suc (suc (suc (suc (suc (suc (suc zero)))))))) l a b c d e f g h = absurd (h refl)
state-other (suc (suc (suc (suc (suc (suc (suc (suc (suc k))))))))) l a b c d e f g h = refl
