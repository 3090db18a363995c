-- Finite sums: from a zero and an addition, and those of a commutative ring.
use Rattle.std.specs.Prelude.{ℕ, zero, suc}
use Rattle.algebra.specs.Ring.{CommRing}

-- f 0 + .. + f (n − 1)
unfoldable pub sum_below : {R : Type 0} → R → (R → R → R) → ℕ → (ℕ → R) → R
sum_below 𝟘 add zero f = 𝟘
sum_below 𝟘 add (suc n) f = add (f n) (sum_below 𝟘 add n f)

abbrev pub sum : {R : Type 0} → CommRing R → ℕ → (ℕ → R) → R
sum 𝓡 n f = sum_below 𝓡.𝟘 𝓡.add n f
