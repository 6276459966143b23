-- Laws of the cut arithmetic.
use Rattle.std.proofs.Common.{◌≡◌, ℕ, ◌+◌, ◌-◌, ◌*◌, ◌/◌, ◌<◌, ◌≤◌, max, suc, arith}
use Rattle.std.proofs.Math.Nat.{lt-div-mul-add, div-lt_iff_lt-mul, suc-mul}
use Rattle.std.proofs.lemmas.Nat.{mul-le}
use Rattle.star_model.specs.Numbers.{top, cut_sum, cut_difference, cut_product, cut_quotient, quotient_up}

pub sum-cut : (a b : ℕ) → cut_sum a b ≤ top
sum-cut a b = omega arith

pub difference-cut : (a b : ℕ) → cut_difference a b ≤ top
difference-cut a b = omega arith

pub product-cut : (a b : ℕ) → cut_product a b ≤ top
product-cut a b = omega arith

pub quotient-cut : (a b : ℕ) → cut_quotient a b ≤ top
quotient-cut a b = omega arith

-- ---- quotients

up_enough : (a d : ℕ) → 0 < d → a ≤ (a + (d - 1)) / d * d
up_enough a d h = omega (arith, lt-div-mul-add {a = a + (d - 1)} {b = d} h)

up_least : (a d m : ℕ) → 0 < d → a ≤ m * d → (a + (d - 1)) / d ≤ m
up_least a d m h l =
    let wide : a + (d - 1) < suc m * d = omega (arith, suc-mul m d) in
    let below : (a + (d - 1)) / d < suc m = (div-lt_iff_lt-mul {k = d} {x = a + (d - 1)} {y = suc m} h).1 wide in
    omega arith

pub quotient_enough : (a b : ℕ) → a ≤ quotient_up a b * max 1 b
quotient_enough a b = up_enough a (max 1 b) (omega arith)

pub quotient_least : (a b m : ℕ) → a ≤ m * max 1 b → quotient_up a b ≤ m
quotient_least a b m h = up_least a (max 1 b) m (omega arith) h

pub quotient_up-le : (a b c d : ℕ) → a ≤ c → d ≤ b → quotient_up a b ≤ quotient_up c d
quotient_up-le a b c d p q =
    let big : a ≤ quotient_up c d * max 1 d = omega (arith, quotient_enough c d) in
    let wide : quotient_up c d * max 1 d ≤ quotient_up c d * max 1 b = mul-le _ _ _ _ (omega arith) (omega arith) in
    quotient_least a b (quotient_up c d) (omega arith)

-- ---- rising and falling

pub sum-le : (a b c d : ℕ) → a ≤ c → b ≤ d → cut_sum a b ≤ cut_sum c d
sum-le a b c d p q = omega arith

pub difference-le : (a b c d : ℕ) → a ≤ c → d ≤ b → cut_difference a b ≤ cut_difference c d
difference-le a b c d p q = omega arith

pub product-le : (a b c d : ℕ) → a ≤ c → b ≤ d → cut_product a b ≤ cut_product c d
product-le a b c d p q = let m : a * b ≤ c * d = mul-le _ _ _ _ p q in omega arith

pub quotient-le : (a b c d : ℕ) → a ≤ c → d ≤ b → cut_quotient a b ≤ cut_quotient c d
quotient-le a b c d p q = let m : quotient_up a b ≤ quotient_up c d = quotient_up-le a b c d p q in omega arith

-- ---- nothing is cut that fits

pub sum-exact : (a b : ℕ) → a + b ≤ top → cut_sum a b ≡ a + b
sum-exact a b h = omega arith

pub difference-exact : (a b : ℕ) → a ≤ top → cut_difference a b ≡ a - b
difference-exact a b h = omega arith

pub product-exact : (a b : ℕ) → a * b ≤ top → cut_product a b ≡ a * b
product-exact a b h = omega arith

pub quotient-exact : (a b : ℕ) → quotient_up a b ≤ top → cut_quotient a b ≡ quotient_up a b
quotient-exact a b h = omega arith
