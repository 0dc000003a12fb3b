-- The aged ends of a statement, from its keys.
use Rattle.std.proofs.Common.{◌≡◌, ℕ, ◌+◌, ◌-◌, ◌*◌, ◌/◌, ◌≤◌, ◌∙◌, ap, refl, arith}
use Rattle.std.specs.Prelude.{pos, negsuc, ◌-ℤ◌, ℤ}
use Rattle.std.proofs.Math.Nat.{mul-le-mul_left}
use Rattle.std.proofs.lemmas.Int.{ints}
use Rattle.tt_span.specs.Time.{max_time, cut}
use Rattle.tt_span.specs.Drift.{widening, aged_low, aged_high, max_drift}
use Rattle.tt_fuse.specs.Scaled.{key_bound, key_number, low_key_of, high_key_of, low_end_of, high_end_of}

-- The keys of three statements at a drift of 200, worked by hand: of [1000, 1000] that was asked for and received at 0, of [6000, 6000] at
-- 5000, and of [1000000000, 1000001000] that was asked for at 500 and received at 900.
first_worked_keys : (low_key_of 200 1000 0 ≡ pos 1000000000) × (high_key_of 200 1000 0 ≡ pos 1000000000)
unfolding low_key_of high_key_of
first_worked_keys = (refl, refl)

second_worked_keys : (low_key_of 200 6000 5000 ≡ pos 1001000000) × (high_key_of 200 6000 5000 ≡ pos 999000000)
unfolding low_key_of high_key_of
second_worked_keys = (refl, refl)

third_worked_keys : (low_key_of 200 1000000000 900 ≡ pos 999999100180000) × (high_key_of 200 1000001000 500 ≡ pos 1000000499900000)
unfolding low_key_of high_key_of
third_worked_keys = (refl, refl)

-- a product in two parts
parted : (a b k : ℕ) → a ≤ b → b * k ≡ a * k + (b - a) * k
parted a b k h =
    let whole : b ≡ a + (b - a) = omega arith in
    let spread : (a + (b - a)) * k ≡ a * k + (b - a) * k = omega arith in
    ap (λ n. n * k) whole ∙ spread

-- a difference as a number, counted from the least key
key_number-from : (z : ℤ) (a b : ℕ) → pos a -ℤ pos b ≡ z → b ≤ key_bound → key_number z ≡ a + key_bound - b
key_number-from (pos n) a b e small = omega (arith, ints)
key_number-from (negsuc n) a b e small = omega (arith, ints)

-- how far clocks can have gone on
low-run : (ppm got : ℕ) → got ≤ max_time → got * (1000000 - ppm) ≤ 4000000000000000000000000
low-run ppm got early =
    let most : got * (1000000 - ppm) ≤ got * 1000000 = let less : 1000000 - ppm ≤ 1000000 = omega arith in mul-le-mul_left got less in
    omega arith

high-run : (ppm sent : ℕ) → sent ≤ max_time → ppm ≤ max_drift → sent * (1000000 + ppm) ≤ 4400000000000000000000000
high-run ppm sent early small =
    let most : sent * (1000000 + ppm) ≤ sent * 1100000 = let more : 1000000 + ppm ≤ 1100000 = omega arith in mul-le-mul_left sent more in
    omega arith

-- the keys as numbers
key_number-low_key_of : (ppm lo got : ℕ) → got ≤ max_time → key_number (low_key_of ppm lo got) ≡ lo * 1000000 + key_bound - got * (1000000 - ppm)
unfolding low_key_of
key_number-low_key_of ppm lo got early =
    let run : got * (1000000 - ppm) ≤ 4000000000000000000000000 = low-run ppm got early in
    key_number-from (low_key_of ppm lo got) (lo * 1000000) (got * (1000000 - ppm)) refl (omega arith)

key_number-high_key_of : (ppm hi sent : ℕ) → sent ≤ max_time → ppm ≤ max_drift → key_number (high_key_of ppm hi sent) ≡ hi * 1000000 + key_bound - sent * (1000000 + ppm)
unfolding high_key_of
key_number-high_key_of ppm hi sent early small =
    key_number-from (high_key_of ppm hi sent) (hi * 1000000) (sent * (1000000 + ppm)) refl (high-run ppm sent early small)

-- a key is not below 0 any more when its end was received or asked for
pub reached-low : (ppm lo got c : ℕ) → got ≤ c → c ≤ max_time → key_bound ≤ key_number (low_key_of ppm lo got) + c * (1000000 - ppm)
reached-low ppm lo got c later in_time =
    let number = key_number-low_key_of ppm lo got (omega arith) in
    let parts = parted got c (1000000 - ppm) later in
    omega (arith, number, parts, low-run ppm got (omega arith))

pub reached-high : (ppm hi sent c : ℕ) → sent ≤ c → c ≤ max_time → ppm ≤ max_drift → key_bound ≤ key_number (high_key_of ppm hi sent) + c * (1000000 + ppm)
reached-high ppm hi sent c later in_time small =
    let number = key_number-high_key_of ppm hi sent (omega arith) small in
    let parts = parted sent c (1000000 + ppm) later in
    omega (arith, number, parts, high-run ppm sent (omega arith) small)

-- so many millionths, in whole nanoseconds, are the aged end
low-aged : (ppm lo d : ℕ) → ppm ≤ max_drift → cut ((lo * 1000000 + d * (1000000 - ppm)) / 1000000) ≡ aged_low ppm lo d
unfolding widening
low-aged ppm lo d small =
    let whole : (1000000 - ppm) + ppm ≡ 1000000 = omega arith in
    let spread : d * (1000000 - ppm) + d * ppm ≡ d * ((1000000 - ppm) + ppm) = omega arith in
    let product : d * (1000000 - ppm) + d * ppm ≡ d * 1000000 = spread ∙ ap (λ n. d * n) whole in
    ap cut (omega (arith, product))

high-aged : (ppm hi d : ℕ) → cut ((hi * 1000000 + d * (1000000 + ppm) + 999999) / 1000000) ≡ aged_high ppm hi d
unfolding widening
high-aged ppm hi d = ap cut (omega arith)

-- the end of a statement's key is the statement's aged end
pub low_end_of-low_key_of : (ppm lo got c : ℕ) → got ≤ c → c ≤ max_time → ppm ≤ max_drift → low_end_of ppm c (low_key_of ppm lo got) ≡ aged_low ppm lo (c - got)
unfolding low_end_of
low_end_of-low_key_of ppm lo got c later in_time small =
    let number = key_number-low_key_of ppm lo got (omega arith) in
    let parts = parted got c (1000000 - ppm) later in
    let run = low-run ppm got (omega arith) in
    let scaled : key_number (low_key_of ppm lo got) + c * (1000000 - ppm) - key_bound ≡ lo * 1000000 + (c - got) * (1000000 - ppm) = omega (arith, number, parts, run) in
    ap (λ n. cut (n / 1000000)) scaled ∙ low-aged ppm lo (c - got) small

pub high_end_of-high_key_of : (ppm hi sent c : ℕ) → sent ≤ c → c ≤ max_time → ppm ≤ max_drift → high_end_of ppm c (high_key_of ppm hi sent) ≡ aged_high ppm hi (c - sent)
unfolding high_end_of
high_end_of-high_key_of ppm hi sent c later in_time small =
    let number = key_number-high_key_of ppm hi sent (omega arith) small in
    let parts = parted sent c (1000000 + ppm) later in
    let run = high-run ppm sent (omega arith) small in
    let scaled : key_number (high_key_of ppm hi sent) + c * (1000000 + ppm) - key_bound ≡ hi * 1000000 + (c - sent) * (1000000 + ppm) = omega (arith, number, parts, run) in
    ap (λ n. cut ((n + 999999) / 1000000)) scaled ∙ high-aged ppm hi (c - sent)

-- a greater key has no lesser end
pub low_end_of-le : (ppm c : ℕ) (a b : ℤ) → key_number a ≤ key_number b → low_end_of ppm c a ≤ low_end_of ppm c b
unfolding low_end_of
low_end_of-le ppm c a b h = omega arith

pub high_end_of-le : (ppm c : ℕ) (a b : ℤ) → key_number a ≤ key_number b → high_end_of ppm c a ≤ high_end_of ppm c b
unfolding high_end_of
high_end_of-le ppm c a b h = omega arith

-- no end is past the greatest time
pub high_end_of-in_time : (ppm c : ℕ) (key : ℤ) → high_end_of ppm c key ≤ max_time
unfolding high_end_of
high_end_of-in_time ppm c key = omega arith
