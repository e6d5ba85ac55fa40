-- The length of a shortest form: by the groups of its value, and by its value's leading zeros. Assumes nothing.
use mathlib.Core.Path.{◌≡◌, refl}
use Prim.Native.Nat.{ℕ, zero, suc, ◌+◌, ◌-◌, ◌*◌, ◌/◌, ◌^◌, ◌≤◌, ◌<◌}
use native.Mathlib.Nat.{pow-suc, one-le-pow}
use native.Mathlib.Omega.{arith}
use lib.Count.{count_leading_zeros, leading_of_zero, leading_top}
use lib.Dec.{lit<}
use lib.ListN.{length}
use lib.Pow.{pow-add, pow_mono}
use Rattle.varint.specs.Varint.{encode, bit_length, written_length}
use Rattle.varint.proofs.Codec.{encode-last, encode-more}

-- a value whose highest group is g, counted from 0, takes g + 1 bytes
length-groups : (g v : ℕ) → v < 2 ^ 64 → 128 ^ g ≤ v → v < 128 ^ suc g → length (encode v) ≡ suc g
length-groups zero v b l h = rw (encode-last v h)
length-groups (suc g) v b l h =
    let p : 128 ≤ v = omega (arith, one-le-pow g 128 (lit< tt), rw pow-suc at l) in
    let l' : 128 ^ g ≤ v / 128 = omega (arith, rw pow-suc at l) in
    let h' : v / 128 < 128 ^ suc g = omega (arith, rw pow-suc at h) in
    rw (encode-more v p b, length-groups g (v / 128) (omega arith) l' h')

-- a group has seven bits
group-bits : (g : ℕ) → 128 ^ g ≡ 2 ^ (7 * g)
group-bits zero = refl
group-bits (suc g) =
    let e : 7 * suc g ≡ 7 * g + 7 = omega arith in
    rw (pow-suc, e, pow-add 2 (7 * g) 7, group-bits g)

-- a value whose highest bit is j, counted from 0
length-bits : (j v : ℕ) → v < 2 ^ 64 → 2 ^ j ≤ v → v < 2 ^ suc j → length (encode v) ≡ (j + 7) / 7
length-bits j v b l h =
    let g : ℕ = j / 7 in
    let lower : 128 ^ g ≤ v = omega (arith, group-bits g, pow_mono {i = 7 * g} {j = j} (omega arith)) in
    let upper : v < 128 ^ suc g = omega (arith, group-bits (suc g), pow_mono {i = suc j} {j = 7 * suc g} (omega arith)) in
    omega (arith, length-groups g v b lower upper)

-- the length by leading zeros is that of what is written, for every u64
pub written-length : (v : ℕ) → v < 2 ^ 64 → written_length v ≡ length (encode v)
unfolding written_length bit_length
written-length zero b = rw (encode-last 0 (lit< tt))
written-length (suc v) b =
    let t = leading_top 64 (suc v) (omega arith) b in
    omega (arith, t.1, length-bits t.0 (suc v) b t.2 t.3)

-- what it is for at most seven bits, zero among them, and for more
pub written_one : (v : ℕ) → v < 2 ^ 64 → 64 - count_leading_zeros 64 v ≤ 7 → written_length v ≡ 1
unfolding written_length bit_length
written_one zero b h = refl
written_one (suc v) b h = let t = leading_top 64 (suc v) (omega arith) b in omega (arith, t.1)

pub written-more : (v : ℕ) → 7 < 64 - count_leading_zeros 64 v → written_length v ≡ (64 - count_leading_zeros 64 v + 6) / 7
unfolding written_length bit_length
written-more zero h = absurd (omega (arith, leading_of_zero 64))
written-more (suc v) h = refl
